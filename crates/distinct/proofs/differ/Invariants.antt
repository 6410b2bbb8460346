-- `distinct::differ` meets its contract. The invariant: the keys of the entries from i on differ, and these are chained.
use Rattle.std.proofs.Common.{◌≡◌, ◌≤◌, true, length, drop}
use Rattle.rules.specs.Layout.{entries_of}
use Rattle.rules.specs.Soundness.{keys_differ}
use Rattle.distinct.specs.Chains.{Chains}
use Rattle.distinct.proofs.differ.Given as goal

abbrev pub invariant-loop-i : goal.invariant-loop-i
invariant-loop-i l = (l.i ≤ length (entries_of l.dir)) × Chains l.dir l.pool l.table l.i × (keys_differ l.pool (drop l.i (entries_of l.dir)) ≡ true)

abbrev pub decreases-loop-i : goal.decreases-loop-i
decreases-loop-i l = l.i
