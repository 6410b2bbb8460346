-- Writing a signed number: the digits of its magnitude, and a minus before them where it is below 0.
use Rattle.std.specs.Prelude.{◌≡◌, refl, true, false, List, [], ◌∷◌, ℕ, ◌+◌, ◌^◌, ◌≤◌, length, set, ℤ, pos, negsuc, unsigned_abs}
use Rattle.std.proofs.Common.{sym, ap, ◌∙◌, arith, SFits, to_z-of_z, ltb-true}
use Rattle.std.proofs.lemmas.Bool.{false≢true}
use Rattle.std.proofs.lemmas.List.Edits.{sets-eq}
use Rattle.std.specs.Int.{w64}
use Rattle.std.specs.Int.Signed.{lt_z}
use Rattle.rules.specs.Layout.{put}
use Rattle.rules.specs.Replay.{decimal, signed}
use Rattle.laws.specs.LayoutLaws.{put_then}
use Rattle.values.specs.Bits.{held}
use Rattle.decimals.specs.DigitLaws.{length_within}

below : (z : ℤ) → lt_z z (pos 0) ≡ true → 45 ∷ decimal (unsigned_abs z) ≡ signed z
unfolding signed
below (pos n) t = absurd (omega (arith, ltb-true n 0 t))
below (negsuc n) t = refl

above : (z : ℤ) → lt_z z (pos 0) ≡ false → decimal (unsigned_abs z) ≡ signed z
unfolding signed
above (pos n) t = refl
above (negsuc n) t = absurd (false≢true (sym t))

-- as the code learns them of the number that it reads
module _ {z : ℤ} {m : ℕ} (f : SFits w64 z) (e : m ≡ unsigned_abs (held z)) where
  pub signed_minus : lt_z (held z) (pos 0) ≡ true → 45 ∷ decimal m ≡ signed z
  signed_minus t = ap (λ (n : ℕ). 45 ∷ decimal n) e ∙ below (held z) t ∙ ap signed (to_z-of_z {w = w64} f)

  pub signed_plus : lt_z (held z) (pos 0) ≡ false → decimal m ≡ signed z
  signed_plus t = ap decimal e ∙ above (held z) t ∙ ap signed (to_z-of_z {w = w64} f)

-- a magnitude has a digit less than what 64 bits hold: with a minus it has as much room
pub magnitude_most : (n : ℕ) → n ≤ 2 ^ 63 → length (decimal n) ≤ 19
magnitude_most n h = length_within 20 18 n (omega arith)

-- ---- one byte, and then others behind it

pub put_behind : (d : List ℕ) (at v : ℕ) (s : List ℕ) → at + 1 + length s ≤ length d → put (set d at v) (at + 1) s ≡ put d at (v ∷ s)
unfolding put
put_behind d at v s h =
    ap (λ (x : List ℕ). put x (at + 1) s) (sets-eq (v ∷ []) d at (omega arith)) ∙ put_then d at (v ∷ []) s (omega arith)
