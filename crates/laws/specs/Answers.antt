-- A refused answer tells nothing but its number; and the removals that answers report are those of the entries.
use Rattle.std.specs.Prelude.{◌≡◌, refl, Bool, true, false, cond, ℕ, zero, suc, ◌+◌, ◌-◌, ◌≤◌, length}
use Rattle.std.proofs.Common.{ap, arith, length-take-le}
use Rattle.std.proofs.lemmas.List.{length-reverse}
use Rattle.rules.specs.declared.Outcome.{Outcome}
use Rattle.rules.specs.declared.Outcome.TheVariants.{Done, Number, Boolean, Text, Count, Sum, NotSound, ClockZero, KeyEmpty, KeyTooLong, KindUnknown, NilRefused, ExpiryTooLate, NotFound, Exists, NotNumber, SumTooLarge, NoMemory, LineUnreadable}
use Rattle.rules.specs.Layout.{Memory, entry_in, remove}
use Rattle.laws.specs.LayoutLaws.{oldest_entries}
use Rattle.rules.specs.Time.{dead}
use Rattle.rules.specs.Recency.{line, deads, sweep_count, sweep}
use Rattle.laws.specs.RecencyLaws.{deads_within}
use Rattle.rules.specs.Answer.{fields_of, number_of, only}
use Rattle.rules.specs.Calls.{flushed, up_to, flush_expired_work}
use Rattle.laws.specs.Lists.{length_sub}
use Rattle.laws.specs.Blocks.{remove_sub}

-- "A refused answer holds no weight, kind or flag"
pub refused_bare : (o : Outcome) → (number_of o ≡ 0 → ⊥) → fields_of o ≡ only (number_of o)
unfolding fields_of
refused_bare Done n = refl
refused_bare (Number flags number offset) n = absurd (n refl)
refused_bare (Boolean flags on offset) n = absurd (n refl)
refused_bare (Text flags offset size) n = absurd (n refl)
refused_bare (Count c) n = absurd (n refl)
refused_bare (Sum z) n = absurd (n refl)
refused_bare NotSound n = refl
refused_bare ClockZero n = refl
refused_bare KeyEmpty n = refl
refused_bare KeyTooLong n = refl
refused_bare KindUnknown n = refl
refused_bare NilRefused n = refl
refused_bare ExpiryTooLate n = refl
refused_bare NotFound n = refl
refused_bare Exists n = refl
refused_bare NotNumber n = refl
refused_bare SumTooLarge n = refl
refused_bare NoMemory n = refl
refused_bare LineUnreadable n = refl

-- the sweep reports what it removes
pub sweep_counts : (clock : ℕ) (m : Memory) → length (sweep clock m).entries + sweep_count clock m ≡ length m.entries
unfolding sweep sweep_count
sweep_counts clock m =
    let n : ℕ = deads clock 2 (line m) in
    let h : n ≤ length m.entries = omega (arith, deads_within clock 2 (line m), length-reverse m.entries) in
    omega (arith, ap length (oldest_entries n m h), length-take-le (length m.entries - n) m.entries (omega arith))

flushed_fewer : (clock n most : ℕ) (m : Memory) → length (flushed clock n most m).entries ≤ length m.entries
unfolding flushed
flushed_fewer clock zero most m = omega arith
flushed_fewer clock (suc n) zero m = omega arith
flushed_fewer clock (suc n) (suc most) m = go (dead clock (entry_in m n)) (flushed_fewer clock n most (remove n m)) (flushed_fewer clock n (suc most) m)
  where
    go : (b : Bool) → length (flushed clock n most (remove n m)).entries ≤ length (remove n m).entries → length (flushed clock n (suc most) m).entries ≤ length m.entries → length (cond b (flushed clock n most (remove n m)) (flushed clock n (suc most) m)).entries ≤ length m.entries
    go true x y = omega (arith, length_sub (remove_sub n m))
    go false x y = y

-- and so does flush_expired
pub flush_counts : (clock maximum : ℕ) (m : Memory) → length (flush_expired_work clock maximum m).memory.entries + (flush_expired_work clock maximum m).answer.removed ≡ length m.entries
unfolding flush_expired_work
flush_counts clock maximum m = omega (arith, flushed_fewer clock (length m.entries) (up_to maximum (length m.entries)) m)
