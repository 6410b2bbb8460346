-- `soundness::claim_from` meets its contract. The loop's invariant: the cells before c are marked.
use Rattle.soundness.specs.Marks.{Marked}
use Rattle.soundness.proofs.claim_from.Given as goal

abbrev pub invariant-loop-c : goal.invariant-loop-c
invariant-loop-c l = Marked l.initial.map l.map l.start l.c
