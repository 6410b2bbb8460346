-- Make fresh: refused for its lengths, or done.
use Rattle.std.specs.Prelude.{◌≡◌, Bool, true, false, not, ℕ, suc, ◌+◌, ◌-◌, ◌≤◌, length, drop, set, replicate}
use Rattle.std.proofs.Math.Path.{sym}
use Rattle.std.proofs.Common.{ap, ◌∙◌, arith, drop_of_length-le}
use mathlib.Core.List.{List, [], ◌∷◌, ◌++◌, append-nil}
use Rattle.std.proofs.lemmas.List.{length-replicate}
use borrow.Author.Tests.{not-true, not-false}
use Rattle.rules.specs.declared.Answer.{Answer}
use Rattle.rules.specs.declared.Outcome.TheVariants.{Done, NotSound}
use Rattle.rules.specs.Layout.{flat, encode, put, memory_of}
use Rattle.rules.specs.Soundness.{right_lengths}
use Rattle.rules.specs.Answer.{plain}
use Rattle.rules.specs.Checks.{refuse, check_lengths}
use Rattle.rules.specs.Calls.{gave, call, fresh_work, fresh_call}
use Rattle.laws.specs.SoundnessLaws.{Lengths, lengths_are}

-- the whole directory cleared but for the form
empty_words : (dir : List ℕ) → 2 ≤ length dir → set (put dir 1 (replicate (length dir - 1) 0)) 0 1 ≡ encode (length dir) []
unfolding put encode flat
empty_words [] h = absurd (omega arith)
empty_words (x ∷ []) h = absurd (omega arith)
empty_words (x ∷ y ∷ l) h =
    let n : suc (suc (length l)) - 1 ≡ suc (length l) = omega arith in
    let m : suc (suc (length l)) - 2 ≡ length l = omega arith in
    let zeros : List ℕ = replicate (suc (length l)) 0 in
    let z : length zeros ≡ suc (length l) = length-replicate {A = ℕ} (suc (length l)) 0 in
    let e : drop (1 + length zeros) (x ∷ y ∷ l) ≡ [] = drop_of_length-le (x ∷ y ∷ l) {i = 1 + length zeros} (omega arith) in
    rw (n, m, e) (ap (λ (k : List ℕ). 1 ∷ 0 ∷ k) (append-nil (replicate (length l) 0)))

-- the whole pool wiped
no_bytes : (pool : List ℕ) → put pool 0 (replicate (length pool) 0) ≡ replicate (length pool) 0
unfolding put
no_bytes pool =
    let zeros : List ℕ = replicate (length pool) 0 in
    let z : length zeros ≡ length pool = length-replicate {A = ℕ} (length pool) 0 in
    ap (λ (l : List ℕ). zeros ++ l) (drop_of_length-le pool {i = 0 + length zeros} (omega arith)) ∙ append-nil zeros

module _ (dir pool : List ℕ) (r : Bool) (a : Answer) (t : r ≡ right_lengths dir pool) where
  pub fresh_refused : not r ≡ true → a ≡ plain NotSound 0 → gave a dir pool ≡ fresh_call dir pool
  unfolding fresh_call check_lengths refuse call
  fresh_refused n e = rw (e, sym t, not-true r n)

  pub fresh_done : {cleared wiped : List ℕ} → not r ≡ false → a ≡ plain Done 0 → cleared ≡ put dir 1 (replicate (length dir - 1) 0) → wiped ≡ put pool 0 (replicate (length pool) 0) → gave a (set cleared 0 1) wiped ≡ fresh_call dir pool
  unfolding fresh_call check_lengths refuse call fresh_work memory_of
  fresh_done n e w z =
      let l : Lengths dir pool = lengths_are dir pool (sym t ∙ not-false r n) in
      rw (e, w, z, no_bytes pool, sym t, not-false r n) (ap (λ (d : List ℕ). gave (plain Done 0) d (replicate (length pool) 0)) (empty_words dir (omega (arith, l.dir_size))))
