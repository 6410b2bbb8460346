-- `values::number_bytes` meets its contract.
use Rattle.std.specs.Int.{w64, to_le_bytes}
use Rattle.std.proofs.Common.{◌≡◌, refl, ℕ, ◌∙◌, ap, arith}
use Rattle.rules.specs.Layout.{bytes_of, number_bytes}
use Rattle.values.specs.Bits.{bits_told}
use Rattle.values.proofs.number_bytes.Goals as goal

as_written : (n : ℕ) → to_le_bytes w64 n ≡ bytes_of 8 n
as_written n = grind arith

pub returns : goal.returns
unfolding number_bytes
returns c = c.to_le_bytes.ensures ∙ as_written _ ∙ ap (bytes_of 8) (bits_told c.ranges.x refl)
