-- `distinct::bucket` meets its contract. The invariant of both loops: the bytes before i are hashed, so the rest decides.
use Rattle.std.proofs.Common.{◌+◌, ◌-◌, ◌<◌, ◌≤◌, length}
use Rattle.distinct.specs.Hash.{Hashed}
use Rattle.distinct.proofs.bucket.Given as goal

abbrev pub invariant-loop-i : goal.invariant-loop-i
invariant-loop-i l = (l.i ≤ length l.key) × Hashed l.key l.i l.h

abbrev pub decreases-loop-i : goal.decreases-loop-i
decreases-loop-i l = length l.key - l.i

abbrev pub invariant-loop-i-2 : goal.invariant-loop-i-2
invariant-loop-i-2 l = (l.i ≤ length l.key) × (length l.key < l.i + 4) × Hashed l.key l.i l.h

abbrev pub decreases-loop-i-2 : goal.decreases-loop-i-2
decreases-loop-i-2 l = length l.key - l.i
