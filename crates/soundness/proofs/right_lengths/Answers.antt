-- `soundness::right_lengths` meets its contract.
use Rattle.std.proofs.Common.{arith}
use Rattle.std.proofs.lemmas.Bool.Decides.{nat_tests}
use Rattle.rules.specs.Soundness.{right_lengths}
use Rattle.soundness.proofs.right_lengths.Goals as goal
use Rattle.soundness.proofs.right_lengths.Goals.{then-pool-cells, else-pool-cells}

pub returns-then-contains : goal.returns-then-contains
unfolding right_lengths
returns-then-contains c = elim c.if-pool-cells.branch [ then-pool-cells w ↦ grind (arith, nat_tests) | else-pool-cells w ↦ grind (arith, nat_tests) ]

pub returns-else-contains : goal.returns-else-contains
unfolding right_lengths
returns-else-contains c = elim c.if-pool-cells.branch [ then-pool-cells w ↦ grind (arith, nat_tests) | else-pool-cells w ↦ grind (arith, nat_tests) ]
