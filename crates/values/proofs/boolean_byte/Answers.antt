-- `values::boolean_byte` meets its contract.
use Rattle.std.proofs.Common.{arith}
use Rattle.laws.specs.NumberLaws.{boolean_zero, boolean_one}
use Rattle.values.proofs.boolean_byte.Goals as goal

pub returns : goal.returns
returns c = grind (arith, boolean_zero, boolean_one)
