-- `upkeep::drop_dead` meets its contract. The invariant: the records before `kept` are of the entries kept, and the others are as they were.
use mathlib.Core.Path.{◌≡◌}
use lib.ListN.{length}
use Rattle.rules.specs.Layout.{entries_of}
use Rattle.upkeep.specs.Dropping.{Moved}
use Rattle.upkeep.proofs.drop_dead.Given as goal

abbrev pub invariant-loop-i : goal.invariant-loop-i
invariant-loop-i l = (l.n ≡ length (entries_of l.initial.dir)) × Moved l.clock l.first l.initial.dir l.kept l.i l.dir
