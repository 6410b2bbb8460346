-- `distinct::key_again` meets its contract. The invariant: no entry passed has the key, so the rest decides.
use Rattle.std.proofs.Common.{◌≡◌, ◌-◌, length}
use Rattle.rules.specs.Layout.{entries_of}
use Rattle.distinct.specs.Chains.{Walked}
use Rattle.distinct.proofs.key_again.Given as goal

abbrev pub invariant-loop-j : goal.invariant-loop-j
invariant-loop-j l = (l.n ≡ length (entries_of l.dir)) × Walked l.dir l.pool l.i l.j

abbrev pub decreases-loop-j : goal.decreases-loop-j
decreases-loop-j l = l.n - l.j
