-- The sweep, by the two longest unused entries.
use Rattle.std.specs.Prelude.{◌≡◌, Bool, true, false, not, List, ℕ, suc, ◌-◌, ◌≤◌, ◌<◌, length, get_or}
use Rattle.std.proofs.Common.{sym, ◌∙◌, arith}
use Rattle.std.proofs.Math.Path.{ap}
use Rattle.std.proofs.lemmas.Bool.{not-true, not-false}
use Rattle.rules.specs.declared.Entry.{Entry}
use Rattle.rules.specs.Layout.{none, entries_of, memory_of}
use Rattle.rules.specs.Time.{dead}
use Rattle.rules.specs.Recency.{deads, sweep_count}
use Rattle.laws.specs.RecencyLaws.{deads_zero, deads_dead, deads_live}
use Rattle.eviction.specs.Lines.{line_to, line_all, line_next, deads_nil}

module _ (clock : ℕ) (es : List Entry) where
  none_swept : (k i : ℕ) → i < 1 → deads clock k (line_to es i) ≡ 0
  none_swept k i h = let e : i ≡ 0 = omega arith in rw e (deads_nil clock k)

  module _ (k : ℕ) {i : ℕ} {e : Entry} {d : Bool} (some : 1 ≤ i) (within : i ≤ length es) (x : e ≡ get_or es (i - 1) none) (y : d ≡ dead clock e) where
    live_stays : not d ≡ true → deads clock (suc k) (line_to es i) ≡ 0
    live_stays z = rw (line_next es i some within) (deads_live clock k (get_or es (i - 1) none) (line_to es (i - 1)) (sym (y ∙ ap (dead clock) x) ∙ not-true d z))

    dead_goes : not d ≡ false → deads clock (suc k) (line_to es i) ≡ suc (deads clock k (line_to es (i - 1)))
    dead_goes z = rw (line_next es i some within) (deads_dead clock k (get_or es (i - 1) none) (line_to es (i - 1)) (sym (y ∙ ap (dead clock) x) ∙ not-false d z))

-- ---- the five ends of the test

module _ (clock : ℕ) (dir pool : List ℕ) {n : ℕ} (size : n ≡ length (entries_of dir)) where
  sweep_is : sweep_count clock (memory_of dir pool) ≡ deads clock 2 (line_to (entries_of dir) n)
  unfolding sweep_count memory_of
  sweep_is = ap (deads clock 2) (line_all (entries_of dir) ∙ ap (line_to (entries_of dir)) (sym size))

  pub sweep_empty : n < 1 → 0 ≡ sweep_count clock (memory_of dir pool)
  sweep_empty h = sym (sweep_is ∙ none_swept clock (entries_of dir) 2 n h)

  module _ {e : Entry} {d : Bool} (some : 1 ≤ n) (x : e ≡ get_or (entries_of dir) (n - 1) none) (y : d ≡ dead clock e) where
    pub sweep_live : not d ≡ true → 0 ≡ sweep_count clock (memory_of dir pool)
    sweep_live z = sym (sweep_is ∙ live_stays clock (entries_of dir) 1 some (omega arith) x y z)

    pub sweep_one : not d ≡ false → n < 2 → 1 ≡ sweep_count clock (memory_of dir pool)
    sweep_one z h = sym (sweep_is ∙ dead_goes clock (entries_of dir) 1 some (omega arith) x y z ∙ ap suc (none_swept clock (entries_of dir) 1 (n - 1) (omega arith)))

    module _ {f : Entry} {b : Bool} (z : not d ≡ false) (h : 2 ≤ n) (u : f ≡ get_or (entries_of dir) (n - 2) none) (v : b ≡ dead clock f) where
      second : f ≡ get_or (entries_of dir) (n - 1 - 1) none
      second = let i : n - 2 ≡ n - 1 - 1 = omega arith in u ∙ ap (λ (j : ℕ). get_or (entries_of dir) j none) i

      pub sweep_second : not b ≡ true → 1 ≡ sweep_count clock (memory_of dir pool)
      sweep_second w = sym (sweep_is ∙ dead_goes clock (entries_of dir) 1 some (omega arith) x y z ∙ ap suc (live_stays clock (entries_of dir) 0 (omega arith) (omega arith) second v w))

      pub sweep_both : not b ≡ false → 2 ≡ sweep_count clock (memory_of dir pool)
      sweep_both w = sym (sweep_is ∙ dead_goes clock (entries_of dir) 1 some (omega arith) x y z ∙ ap suc (dead_goes clock (entries_of dir) 0 (omega arith) (omega arith) second v w ∙ ap suc (deads_zero clock (line_to (entries_of dir) (n - 1 - 1)))))
