-- Reading digits from the front: what a field says is what is left of it says, behind the digits passed.
use Rattle.std.specs.Prelude.{◌≡◌, refl, Bool, true, false, cond, ◌&&◌, List, [], ◌∷◌, ℕ, suc, ◌+◌, ◌*◌, ◌-◌, ◌≤◌, ◌<◌, leb, length, drop, get_or, Some, None}
use Rattle.std.proofs.Common.{sym, ap, ◌∙◌, arith, drop_of_length-le, drop-cons}
use Rattle.std.proofs.Math.Bool.{and-true, and-false}
use borrow.Author.Tests.{le-leb, lt-leb, eq-eqb, ne_eqb}
use Rattle.rules.specs.Soundness.{every}
use Rattle.rules.specs.Replay.{is_digit, digits_from, is_decimal, number_said}
use Rattle.decimals.specs.Reading.{run_said}

-- ---- a run of digits

pub digits_least : (n : ℕ) (l : List ℕ) → n ≤ digits_from n l
unfolding digits_from
digits_least n [] = omega arith
digits_least n (b ∷ bs) = omega (arith, digits_least (10 * n + (b - 48)) bs)

module _ (most n : ℕ) where
  run_end : n ≤ most → run_said most n [] ≡ Some n
  unfolding run_said every digits_from
  run_end h = simp (le-leb n most h)

  run_digit : (b : ℕ) (bs : List ℕ) → is_digit b ≡ true → run_said most n (b ∷ bs) ≡ run_said most (10 * n + (b - 48)) bs
  unfolding run_said every digits_from
  run_digit b bs h = simp h

  run_other : (b : ℕ) (bs : List ℕ) → is_digit b ≡ false → run_said most n (b ∷ bs) ≡ None
  unfolding run_said every
  run_other b bs h = simp h

  run_over : (l : List ℕ) → most < n → run_said most n l ≡ None
  unfolding run_said
  run_over l h = simp (lt-leb (digits_from n l) most (omega (arith, digits_least n l)), and-false)

-- the bytes before i are digits, and n is their number
pub record Run (most : ℕ) (field : List ℕ) (i n : ℕ) : Type 0 where
  pub rest : run_said most 0 field ≡ run_said most n (drop i field)

pub run_none : {most : ℕ} {field : List ℕ} → Run most field 0 0
run_none = record { rest = refl }

module _ {most : ℕ} {field : List ℕ} {i n : ℕ} (r : Run most field i n) where
  module _ (h : i < length field) where
    run_next : run_said most 0 field ≡ run_said most n (get_or field i 0 ∷ drop (i + 1) field)
    run_next =
        let k : suc i ≡ i + 1 = omega arith in
        r.rest ∙ ap (run_said most n) (drop-cons field i 0 h) ∙ ap (λ (x : ℕ). run_said most n (get_or field i 0 ∷ drop x field)) k

    pub run_stop : is_digit (get_or field i 0) ≡ false → None ≡ run_said most 0 field
    run_stop d = sym (run_next ∙ run_other most n (get_or field i 0) (drop (i + 1) field) d)

    run_on : is_digit (get_or field i 0) ≡ true → run_said most 0 field ≡ run_said most (10 * n + (get_or field i 0 - 48)) (drop (i + 1) field)
    run_on d = run_next ∙ run_digit most n (get_or field i 0) (drop (i + 1) field) d

    pub run_more : {m : ℕ} → is_digit (get_or field i 0) ≡ true → 10 * n + (get_or field i 0 - 48) ≡ m → Run most field (i + 1) m
    run_more d e = record { rest = run_on d ∙ ap (λ (k : ℕ). run_said most k (drop (i + 1) field)) e }

    pub run_large : is_digit (get_or field i 0) ≡ true → most < 10 * n + (get_or field i 0 - 48) → None ≡ run_said most 0 field
    run_large d o = sym (run_on d ∙ run_over most (10 * n + (get_or field i 0 - 48)) (drop (i + 1) field) o)

  pub run_high : most < n → None ≡ run_said most 0 field
  run_high o = sym (r.rest ∙ run_over most n (drop i field) o)

  pub run_done : length field ≤ i → n ≤ most → Some n ≡ run_said most 0 field
  run_done h l = sym (r.rest ∙ ap (run_said most n) (drop_of_length-le field {i = i} h) ∙ run_end most n l)

-- ---- a number is a run of digits that is not empty and has no needless zero

pub number_empty : (most : ℕ) (l : List ℕ) → length l ≡ 0 → None ≡ number_said most l
unfolding number_said is_decimal
number_empty most [] h = refl
number_empty most (b ∷ l) h = absurd (omega arith)

pub number_zero : (most : ℕ) (l : List ℕ) → 1 < length l → get_or l 0 0 ≡ 48 → None ≡ number_said most l
unfolding number_said is_decimal
number_zero most [] h e = absurd (omega arith)
number_zero most (b ∷ []) h e = absurd (omega arith)
number_zero most (b ∷ c ∷ l) h e = sym (simp (eq-eqb b 48 e))

pub number_run : (most : ℕ) (l : List ℕ) → 0 < length l → (1 < length l → get_or l 0 0 ≡ 48 → ⊥) → run_said most 0 l ≡ number_said most l
unfolding number_said is_decimal run_said every
number_run most [] h e = absurd (omega arith)
number_run most (b ∷ []) h e = ap (λ (t : Bool). cond (t && leb (digits_from 0 (b ∷ [])) most) (Some (digits_from 0 (b ∷ []))) None) (and-true (is_digit b))
number_run most (b ∷ c ∷ l) h e = simp (ne_eqb b 48 (e (omega arith)))
