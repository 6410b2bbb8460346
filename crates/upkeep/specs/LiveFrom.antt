-- A memory without the dead among its entries from an index on.
use Rattle.std.specs.Prelude.{◌≡◌, Bool, true, false, ℕ, suc, ◌<◌, length, drop}
use Rattle.std.proofs.Math.Path.{sym, ap}
use Rattle.std.proofs.Common.{◌∙◌, arith, length-append, take-suc, take_at, drop_at, drop-cons}
use Rattle.std.proofs.Math.Bool.{cond}
use mathlib.Core.List.{List, [], ◌∷◌, ◌++◌, append-nil}
use Rattle.std.proofs.Math.ListN.{take, get_or-append}
use Rattle.std.proofs.Math.Seq.{take-length, drop-length, append_snoc, length-take-le, get_or-take}
use Rattle.rules.specs.declared.Entry.{Entry}
use Rattle.rules.specs.Layout.{none, without, Memory, entry_in, wiped, remove}
use Rattle.rules.specs.Time.{dead}
use Rattle.rules.specs.Calls.{live_of}
use Rattle.laws.specs.Live.{live_dead, live_live}

-- all of the first entries, and of the others the live ones
abbrev pub live_entries : ℕ → ℕ → List Entry → List Entry
live_entries clock first es = take first es ++ live_of clock (drop first es)

-- the dead of these entries wiped, the last first
unfoldable pub wiped_dead : ℕ → List Entry → List ℕ → List ℕ
wiped_dead clock [] pool = pool
wiped_dead clock (e ∷ es) pool = cond (dead clock e) (wiped e (wiped_dead clock es pool)) (wiped_dead clock es pool)

unfoldable pub live_from : ℕ → ℕ → Memory → Memory
live_from clock first m = record { entries = live_entries clock first m.entries; pool = wiped_dead clock (drop first m.entries) m.pool }

-- behind the last entry there is none
pub from_end : (clock : ℕ) (m : Memory) → live_from clock (length m.entries) m ≡ m
unfolding live_from live_of wiped_dead
from_end clock m = rw (take-length m.entries, drop-length m.entries, append-nil m.entries)

-- the entry behind a taken out
without_at : (a b : List Entry) (e : Entry) (j : ℕ) → length a ≡ j → without j (a ++ e ∷ b) ≡ a ++ b
unfolding without
without_at a b e j h =
    ap (λ (l : List Entry). l ++ drop (suc j) (a ++ e ∷ b)) (take_at a (e ∷ b) j h)
    ∙ ap (λ (l : List Entry). a ++ drop (suc j) l) (sym (append_snoc a e b))
    ∙ ap (λ (l : List Entry). a ++ l) (drop_at (a ++ (e ∷ [])) b (suc j) (length-append a (e ∷ []) ∙ omega arith))

-- one index down
module _ (clock : ℕ) (m : Memory) (j : ℕ) (h : j < length m.entries) where
  abbrev es : List Entry
  es = m.entries

  abbrev behind : List Entry
  behind = live_of clock (drop (suc j) es)

  -- the entry at j in sight
  sight : take (suc j) es ++ behind ≡ take j es ++ entry_in m j ∷ behind
  sight = ap (λ (l : List Entry). l ++ behind) (take-suc es j none h) ∙ append_snoc (take j es) (entry_in m j) behind

  -- it is where it was
  pub from_at : entry_in (live_from clock (suc j) m) j ≡ entry_in m j
  unfolding live_from
  from_at = get_or-append (take (suc j) es) behind none j (omega (arith, length-take-le (suc j) es (omega arith))) ∙ get_or-take (suc j) es j none (omega arith)

  -- if it is dead, it is removed
  pub from_dead : dead clock (entry_in m j) ≡ true → remove j (live_from clock (suc j) m) ≡ live_from clock j m
  unfolding live_from remove wiped_dead
  from_dead d =
      let e : without j (take (suc j) es ++ behind) ≡ live_entries clock j es =
      ap (without j) sight
      ∙ without_at (take j es) behind (entry_in m j) j (length-take-le j es (omega arith))
      ∙ ap (λ (l : List Entry). take j es ++ l) (sym (live_dead clock es j h d)) in
      let p : wiped (entry_in (live_from clock (suc j) m) j) (wiped_dead clock (drop (suc j) es) m.pool) ≡ wiped_dead clock (drop j es) m.pool =
      ap (λ (x : Entry). wiped x (wiped_dead clock (drop (suc j) es) m.pool)) from_at
      ∙ sym (ap (λ (l : List Entry). wiped_dead clock l m.pool) (drop-cons es j none h) ∙ ap (λ (b : Bool). cond b (wiped (entry_in m j) (wiped_dead clock (drop (suc j) es) m.pool)) (wiped_dead clock (drop (suc j) es) m.pool)) d) in
      rw (e, p)

  -- if it is live, it stays
  pub from_live : dead clock (entry_in m j) ≡ false → live_from clock (suc j) m ≡ live_from clock j m
  unfolding live_from wiped_dead
  from_live d =
      let e : take (suc j) es ++ behind ≡ live_entries clock j es = sight ∙ ap (λ (l : List Entry). take j es ++ l) (sym (live_live clock es j h d)) in
      let p : wiped_dead clock (drop (suc j) es) m.pool ≡ wiped_dead clock (drop j es) m.pool =
      sym (ap (λ (l : List Entry). wiped_dead clock l m.pool) (drop-cons es j none h) ∙ ap (λ (b : Bool). cond b (wiped (entry_in m j) (wiped_dead clock (drop (suc j) es) m.pool)) (wiped_dead clock (drop (suc j) es) m.pool)) d) in
      rw (e, p)
