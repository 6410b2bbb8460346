-- `decimals::run` meets its contract. The loop's invariant: the bytes before the index are digits, and n is their number.
use Rattle.std.proofs.Common.{sym, ◌∙◌, arith}
use Rattle.decimals.specs.ReadingLaws.{run_none, run_stop, run_more, run_large, run_high, run_done}
use Rattle.decimals.proofs.run.Goals as goal

pub loop-b-init : goal.loop-b-init
loop-b-init c = run_none

pub returns-then-not-is_ascii_digit : goal.returns-then-not-is_ascii_digit
returns-then-not-is_ascii_digit c = run_stop c.loop-b.invariant c.loop-b-test.true (sym c.is_ascii_digit.ensures.value ∙ c.if-not-is_ascii_digit.true)

pub returns-in_err-checked_mul : goal.returns-in_err-checked_mul
returns-in_err-checked_mul c = c.from_residual.ensures ∙ run_large c.loop-b.invariant c.loop-b-test.true (sym c.is_ascii_digit.ensures.value ∙ c.if-not-is_ascii_digit.false) (omega (arith, c.in_err-checked_mul.ensures))

pub returns-in_err-n : goal.returns-in_err-n
returns-in_err-n c = c.from_residual-in_err-n.ensures ∙ run_large c.loop-b.invariant c.loop-b-test.true (sym c.is_ascii_digit.ensures.value ∙ c.if-not-is_ascii_digit.false) (omega (arith, c.in_ok-checked_mul.ensures, c.from.ensures, c.in_err-n.ensures))

pub loop-b-preserved : goal.loop-b-preserved
loop-b-preserved c = run_more c.loop-b.invariant c.loop-b-test.true (sym c.is_ascii_digit.ensures.value ∙ c.if-not-is_ascii_digit.false) (omega (arith, c.in_ok-checked_mul.ensures, c.from.ensures, c.in_ok-n.ensures))

pub returns-then-most-n : goal.returns-then-most-n
returns-then-most-n c = run_high c.loop-b.invariant c.if-most-n.true

pub returns : goal.returns
returns c = run_done c.loop-b.invariant c.loop-b-test.false c.if-most-n.false
