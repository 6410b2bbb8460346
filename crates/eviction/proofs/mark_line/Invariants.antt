-- `eviction::mark_line` meets its contract. What the first i entries still write over the marks makes them those of the whole line.
use Rattle.std.proofs.Common.{length}
use Rattle.eviction.specs.Marking.{Marking}
use Rattle.eviction.proofs.mark_line.Given as goal

abbrev pub invariant-loop-i : goal.invariant-loop-i
invariant-loop-i l = Marking l.clock (length l.initial.marks) l.dir l.i l.turn l.marks
