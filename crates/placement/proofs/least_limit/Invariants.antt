-- `placement::least_limit` meets its contract. The outer loop has passed only places that cost the bound at least; in the inner one the run from this start is below the bound.
use mathlib.Core.Path.{◌≡◌}
use Prim.Native.Nat.{◌-◌}
use lib.ListN.{length}
use Rattle.placement.specs.Least.{Passed, Climbed}
use Rattle.placement.proofs.least_limit.Given as goal

abbrev pub invariant-loop-run : goal.invariant-loop-run
invariant-loop-run l = (l.start ≡ l.initial.start) × Passed l.marks l.need l.most l.bound l.start × Climbed l.marks l.need l.bound l.start l.run l.top l.at

abbrev pub decreases-loop-run : goal.decreases-loop-run
decreases-loop-run l = l.need - l.run

abbrev pub invariant-outer : goal.invariant-outer
invariant-outer l = Passed l.marks l.need l.most l.bound l.start

abbrev pub decreases-outer : goal.decreases-outer
decreases-outer l = length l.marks - l.start
