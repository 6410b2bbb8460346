-- `scanning::find` meets its contract: what stands behind the bytes near by is found by `find_far`.
use Rattle.std.proofs.Common.{arith}
use Rattle.scanning.specs.UntilLaws.{passed_until}
use Rattle.scanning.proofs.find.Goals as goal

pub returns : goal.returns
returns c = passed_until c.find_before-near.ensures.passed (omega arith) c.find_far.ensures
