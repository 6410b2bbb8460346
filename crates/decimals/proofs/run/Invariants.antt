-- `decimals::run` meets its contract. The loop's invariant: the bytes before the index are digits, and n is their number.
use Rattle.decimals.specs.ReadingLaws.{Run}
use Rattle.decimals.proofs.run.Given as goal

abbrev pub invariant-loop-b : goal.invariant-loop-b
invariant-loop-b l = Run l.most l.field l.b-index l.n
