-- `decimals::write_number` meets its contract.
use Rattle.decimals.specs.DigitLaws.{decimal_most}
use native.Mathlib.Omega.{arith}
use Rattle.decimals.proofs.write_number.Goals as goal

pub write_digits-requires : goal.write_digits-requires
write_digits-requires c = omega (arith, decimal_most c.args.n)
