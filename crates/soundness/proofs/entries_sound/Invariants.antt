-- `soundness::entries_sound` meets its contract. The loop's invariant: the map has the cells of the entries from i on.
use Rattle.soundness.specs.Walk.{Walk}
use Rattle.soundness.proofs.entries_sound.Given as goal

abbrev pub invariant-loop-i : goal.invariant-loop-i
invariant-loop-i l = Walk l.dir l.pool l.i l.map
