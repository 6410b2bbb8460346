-- `decimals::size` meets its contract. The loop's invariant: the digits of the rest are still to be counted, one of them is already.
use Rattle.decimals.specs.DigitLaws.{Counted}
use Rattle.decimals.proofs.size.Given as goal

abbrev pub invariant-loop-rest : goal.invariant-loop-rest
invariant-loop-rest l = Counted l.n l.count l.rest

abbrev pub decreases-loop-rest : goal.decreases-loop-rest
decreases-loop-rest l = l.rest
