-- `decimals::write_digits` meets its contract. The loop's invariant: the first j digits are still to be written, and are the lowest of the rest.
use Rattle.words.specs.Writing.{unwritten_all, unwritten_less, unwritten_none}
use Rattle.decimals.specs.DigitLaws.{unsaid_all, unsaid_digit, unsaid_less}
use native.Mathlib.Omega.{arith}
use Rattle.decimals.proofs.write_digits.Goals as goal

pub loop-j-init : goal.loop-j-init
loop-j-init c = (unwritten_all c.size-count.ensures c.requires, unsaid_all c.size-count.ensures)

pub loop-j-preserved : goal.loop-j-preserved
loop-j-preserved c = (unwritten_less c.loop-j.invariant.0 (omega arith) (unsaid_digit c.loop-j.invariant.1 (omega arith)), unsaid_less c.loop-j.invariant.1 (omega arith))

pub returns : goal.returns
returns c = (unwritten_none c.loop-j.invariant.0 (omega arith), omega arith)
