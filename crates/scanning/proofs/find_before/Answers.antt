-- `scanning::find_before` meets its contract. The loop's invariant: the byte stands nowhere from `from` to before i.
use Rattle.std.proofs.Common.{arith}
use Rattle.scanning.specs.UntilLaws.{passed_none, passed_more, passed_to}
use Rattle.scanning.proofs.find_before.Goals as goal

pub loop-i-init : goal.loop-i-init
loop-i-init c = passed_none _ (omega arith)

pub loop-i-preserved : goal.loop-i-preserved
loop-i-preserved c = passed_more c.loop-i.invariant (omega arith) c.if-bytes-i.false

pub returns-clause-passed : goal.returns-clause-passed
returns-clause-passed c = passed_to c.loop-i.invariant (omega (arith, c.loop-i.auto.i-end))
