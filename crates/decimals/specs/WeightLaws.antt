-- Reading a weight: what a field says of a signed number, by what the number behind its sign says.
use Rattle.std.specs.Prelude.{◌≡◌, refl, Bool, true, false, cond, ◌&&◌, List, [], ◌∷◌, ℕ, zero, suc, ◌-◌, ◌^◌, ◌≤◌, leb, take, drop, eqb, ℤ, pos, negsuc, neg_ℤ, Option, Some, None}
use Rattle.std.proofs.Common.{sym, ap, ◌∙◌, arith, le-leb, leb-true, to_z, to_z-of_z}
use Rattle.std.proofs.lemmas.Bool.{lt-leb}
use Rattle.std.proofs.lemmas.Bool.{false≢true}
use Rattle.std.proofs.Math.Bool.{and-true}
use Rattle.std.specs.Cmp.Lexicographic.{pointwise}
use Rattle.std.specs.Int.{w64}
use Rattle.std.proofs.Math.Facts.{to_z_pos}
use Rattle.rules.specs.Replay.{digits_from, is_decimal, number_said, minus_said, plus_said, weight_said}

-- ---- what a number that was read tells of the field

pub record Told (most : ℕ) (l : List ℕ) (n : ℕ) : Type 0 where
  pub shape : is_decimal l ≡ true
  pub is : digits_from 0 l ≡ n
  pub low : n ≤ most

told_by : (most : ℕ) (l : List ℕ) (n : ℕ) (s t : Bool) → is_decimal l ≡ s → leb (digits_from 0 l) most ≡ t → cond (s && t) (Some (digits_from 0 l)) None ≡ Some n → Told most l n
told_by most l n true true p q e = let i : digits_from 0 l ≡ n = cc in record { shape = p; is = i; low = omega (arith, leb-true (digits_from 0 l) most q) }
told_by most l n true false p q e = absurd (let z : ◌≡◌ {A = ℕ} 0 1 = cc in omega arith)
told_by most l n false t p q e = absurd (let z : ◌≡◌ {A = ℕ} 0 1 = cc in omega arith)

pub number_told : {most n : ℕ} {l : List ℕ} → number_said most l ≡ Some n → Told most l n
unfolding number_said
number_told {most} {n} {l} e = told_by most l n (is_decimal l) (leb (digits_from 0 l) most) refl refl e

-- what `read_number` answered, by the highest number that it was given
pub answered : {most highest : ℕ} (l : List ℕ) {r o : Option ℕ} → r ≡ number_said most l → most ≡ highest → r ≡ o → number_said highest l ≡ o
answered {most} {highest} l e m i = ap (λ (k : ℕ). number_said k l) (sym m) ∙ sym e ∙ i

-- ---- behind a minus

-- no number up to 2 ^ 63, no weight
minus_by : (s t u : Bool) (n : ℕ) (z : ℤ) → cond (s && t) (Some n) None ≡ None → None ≡ cond (s && u && t) (Some z) None
minus_by true true u n z e = absurd (let q : ◌≡◌ {A = ℕ} 0 1 = cc in omega arith)
minus_by true false true n z e = refl
minus_by true false false n z e = refl
minus_by false t u n z e = refl

pub minus_unread : (l : List ℕ) → number_said (2 ^ 63) l ≡ None → None ≡ minus_said l
unfolding number_said minus_said
minus_unread l e = minus_by (is_decimal l) (leb (digits_from 0 l) (2 ^ 63)) (leb 1 (digits_from 0 l)) (digits_from 0 l) (neg_ℤ (pos (digits_from 0 l))) e

pub minus_zero : {l : List ℕ} {n : ℕ} → Told (2 ^ 63) l n → n ≡ 0 → None ≡ minus_said l
unfolding minus_said
minus_zero {l} {n} t z = sym (simp (t.shape, lt-leb 1 (digits_from 0 l) (omega (arith, t.is))))

pub minus_is : {l : List ℕ} {n : ℕ} → Told (2 ^ 63) l n → 1 ≤ n → minus_said l ≡ Some (neg_ℤ (pos n))
unfolding minus_said
minus_is {l} {n} t h = simp (t.shape, t.is, le-leb 1 n h, le-leb n (2 ^ 63) t.low)

-- ---- without one

plus_by : (t : Bool) (n : ℕ) (z : ℤ) → cond t (Some n) None ≡ None → None ≡ cond t (Some z) None
plus_by true n z e = absurd (let q : ◌≡◌ {A = ℕ} 0 1 = cc in omega arith)
plus_by false n z e = refl

pub plus_unread : (l : List ℕ) → number_said (2 ^ 63 - 1) l ≡ None → None ≡ plus_said l
unfolding number_said plus_said
plus_unread l e = plus_by (is_decimal l && leb (digits_from 0 l) (2 ^ 63 - 1)) (digits_from 0 l) (pos (digits_from 0 l)) e

pub plus_is : {l : List ℕ} {n : ℕ} → Told (2 ^ 63 - 1) l n → plus_said l ≡ Some (pos n)
unfolding plus_said
plus_is {l} {n} t = simp (t.shape, t.is, le-leb n (2 ^ 63 - 1) t.low)

-- ---- the weight, by whether it begins with a minus

pub weight_minus : (l : List ℕ) {digits : List ℕ} → pointwise eqb (take 1 l) (45 ∷ []) ≡ true → digits ≡ drop 1 l → minus_said digits ≡ weight_said l
unfolding weight_said
weight_minus [] e d = absurd (false≢true e)
weight_minus (b ∷ l) e d = ap minus_said d ∙ sym (simp (sym (and-true (eqb b 45)) ∙ e))

pub weight_plus : (l : List ℕ) → pointwise eqb (take 1 l) (45 ∷ []) ≡ false → plus_said l ≡ weight_said l
unfolding weight_said plus_said is_decimal
weight_plus [] e = refl
weight_plus (b ∷ l) e = sym (simp (sym (and-true (eqb b 45)) ∙ e))

-- ---- the signed numbers of the bits

pub bits_minus : (n : ℕ) {r : ℕ} → 1 ≤ n → n ≤ 2 ^ 63 → r ≡ 2 ^ 64 - n → to_z w64 r ≡ neg_ℤ (pos n)
bits_minus zero h k e = absurd (omega arith)
bits_minus (suc m) h k e =
    ap (to_z w64) e ∙ to_z-of_z {w = w64} {z = negsuc m} (record { sfits = omega arith })

pub bits_plus : (n : ℕ) → n ≤ 2 ^ 63 - 1 → to_z w64 n ≡ pos n
bits_plus n h = to_z_pos w64 (omega arith)
