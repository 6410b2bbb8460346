-- `eviction::find_leavers` meets its contract. What the entries left still add to the rounds begun and the entries gone makes the rounds of the whole line.
use Rattle.rules.specs.Layout.{entries_of}
use Rattle.eviction.specs.Leaving.{Leaving}
use Rattle.eviction.proofs.find_leavers.Given as goal

abbrev pub invariant-loop-i : goal.invariant-loop-i
invariant-loop-i l = Leaving l.clock l.limit (entries_of l.dir) l.i l.turn l.live
