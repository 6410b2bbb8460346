-- Laws of the sum: that the library's checked sum is it, and what its answer tells.
use Rattle.std.specs.Prelude.{◌≡◌, refl, ℕ, Bool, true, false, cond, ℤ, ◌+ℤ◌, FitsSigned, Option, Some, None, SomeIff}
use Rattle.std.specs.Int.{w64}
use Rattle.std.proofs.Common.{ap, ◌∙◌, arith, to_z-of_z}
use Rattle.rules.specs.Calls.{in_range}
use Rattle.laws.specs.NumberLaws.{fits_range, range_fits}
use Rattle.values.specs.Bits.{held}
use Rattle.values.specs.Sum.{sum_of}

-- what the library's checked sum answers
checked_is : (z : ℤ) (r : Option ℤ) → SomeIff r (FitsSigned w64 z) z → r ≡ sum_of z
unfolding sum_of
checked_is z (Some n) h = rw (fits_range h.0, h.1) refl
checked_is z None h = out (in_range z) refl
  where
    out : (t : Bool) → in_range z ≡ t → None ≡ cond t (Some z) None
    out true e = absurd (h (range_fits z e))
    out false e = refl

pub sum_checked : {a b : ℤ} {r : Option ℤ} → FitsSigned w64 a → FitsSigned w64 b → SomeIff r (FitsSigned w64 (held a +ℤ held b)) (held a +ℤ held b) → r ≡ sum_of (a +ℤ b)
sum_checked {a} {b} {r} f g h = checked_is (held a +ℤ held b) r h ∙ ap (λ (z : ℤ). sum_of (z +ℤ held b)) (to_z-of_z {w = w64} f) ∙ ap (λ (z : ℤ). sum_of (a +ℤ z)) (to_z-of_z {w = w64} g)

-- "A sum out of range is 11": an answer with a number has the sum
pub record Told (z n : ℤ) : Type 0 where
  pub range : in_range z ≡ true
  pub is : n ≡ z

told_by : (z n : ℤ) (t : Bool) → in_range z ≡ t → cond t (Some z) None ≡ Some n → Told z n
told_by z n true r e = record { range = r; is = cc }
told_by z n false r e = absurd (let q : ◌≡◌ {A = ℕ} 0 1 = cc in omega arith)

pub sum_told : (z n : ℤ) → sum_of z ≡ Some n → Told z n
unfolding sum_of
sum_told z n e = told_by z n (in_range z) refl e

refused_by : (z : ℤ) (t : Bool) → in_range z ≡ t → cond t (Some z) None ≡ None → in_range z ≡ false
refused_by z true r e = absurd (let q : ◌≡◌ {A = ℕ} 0 1 = cc in omega arith)
refused_by z false r e = r

pub sum_refused : (z : ℤ) → sum_of z ≡ None → in_range z ≡ false
unfolding sum_of
sum_refused z e = refused_by z (in_range z) refl e
