-- `scanning::find_before` meets its contract. The loop's invariant: the byte stands nowhere from `from` to before i.
use Rattle.scanning.specs.UntilLaws.{Passed}
use Rattle.scanning.proofs.find_before.Given as goal

abbrev pub invariant-loop-i : goal.invariant-loop-i
invariant-loop-i l = Passed l.byte l.bytes l.from l.i
