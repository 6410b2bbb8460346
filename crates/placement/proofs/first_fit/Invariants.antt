-- `placement::first_fit` meets its contract. The outer loop has passed no start that has room; in the inner one the run from this start is within the limit. Each cell up to there was looked at once.
use mathlib.Core.Path.{◌≡◌}
use Prim.Native.Nat.{◌+◌, ◌-◌}
use lib.ListN.{length}
use Rattle.placement.specs.Fitting.{Running, Looking}
use Rattle.placement.proofs.first_fit.Given as goal

abbrev pub invariant-loop-run : goal.invariant-loop-run
invariant-loop-run l = Running l.marks l.limit l.need l.start l.run × (l.looks ≡ l.start + l.run)

abbrev pub decreases-loop-run : goal.decreases-loop-run
decreases-loop-run l = l.need - l.run

abbrev pub invariant-outer : goal.invariant-outer
invariant-outer l = Looking l.marks l.limit l.need l.start × (l.looks ≡ l.start)

abbrev pub decreases-outer : goal.decreases-outer
decreases-outer l = length l.marks - l.start
