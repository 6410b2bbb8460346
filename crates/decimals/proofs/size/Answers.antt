-- `decimals::size` meets its contract. The loop's invariant: the digits of the rest are still to be counted, one of them is already.
use Rattle.decimals.specs.DigitLaws.{counted_none, counted_more, counted_done}
use native.Mathlib.Omega.{arith}
use Rattle.decimals.proofs.size.Goals as goal

pub loop-rest-init : goal.loop-rest-init
loop-rest-init c = counted_none (omega arith)

pub loop-rest-preserved : goal.loop-rest-preserved
loop-rest-preserved c = counted_more c.loop-rest.invariant (omega arith)

pub returns : goal.returns
returns c = counted_done c.loop-rest.invariant (omega arith)
