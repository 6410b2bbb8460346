-- `upkeep::wipe_dead` meets its contract. The invariant: the entries from i on are decided, the first of their dead is `first`, and their dead are wiped.
use Prim.Native.Nat.{◌≤◌}
use lib.ListN.{length}
use Rattle.rules.specs.Layout.{entries_of, memory_of}
use Rattle.upkeep.specs.Flushing.{Decided}
use Rattle.upkeep.proofs.wipe_dead.Given as goal

abbrev pub invariant-loop-i : goal.invariant-loop-i
invariant-loop-i l = (l.i ≤ length (entries_of l.dir)) × Decided l.clock l.most (memory_of l.dir l.initial.pool) l.i l.first l.gone l.pool
