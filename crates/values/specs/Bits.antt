-- A signed number as a code reads it, out of its bits.
use Rattle.std.specs.Prelude.{◌≡◌, ℕ, ◌^◌, ◌<◌, ℤ, FitsSigned}
use Rattle.std.proofs.Common.{ap, ◌∙◌, to_z, of_z, to_z-of_z}
use Rattle.std.specs.Int.Signed.{mag}
use Rattle.std.specs.Int.{w64}

-- a signed number as the code reads it, out of its bits
abbrev pub held : ℤ → ℤ
held z = to_z w64 (of_z w64 z)

-- a number that a call gave, and the bits that it gave of a number
pub held_is : {r z : ℤ} → mag r < 2 ^ 63 → r ≡ z → held r ≡ z
held_is h e = to_z-of_z {w = w64} (record { sfits = h }) ∙ e

pub bits_told : {x : ℤ} {b : ℕ} → FitsSigned w64 x → b ≡ of_z w64 (held x) → b ≡ of_z w64 x
bits_told f e = e ∙ ap (of_z w64) (to_z-of_z {w = w64} f)
