-- `values::add` meets its contract.
use Rattle.values.specs.SumLaws.{sum_checked}
use Rattle.values.proofs.add.Goals as goal

pub returns : goal.returns
returns c = sum_checked c.ranges.a c.ranges.b c.checked_add.ensures
