-- `decimals::write_digits` meets its contract. The loop's invariant: the first j digits are still to be written, and are the lowest of the rest.
use Rattle.rules.specs.Replay.{decimal}
use Rattle.words.specs.Writing.{Unwritten}
use Rattle.decimals.specs.DigitLaws.{Unsaid}
use Rattle.decimals.proofs.write_digits.Given as goal

abbrev pub invariant-loop-j : goal.invariant-loop-j
invariant-loop-j l = Unwritten l.initial.out l.at (decimal l.n) l.j l.out × Unsaid (decimal l.n) l.j l.rest
