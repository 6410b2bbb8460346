-- `placement::first_fit` meets its contract. The outer loop has passed no start that has room; in the inner one the run from this start is within the limit. Each cell up to there was looked at once.
use native.Mathlib.Omega.{arith}
use Rattle.placement.specs.Fitting.{running_none, running_more, looking_none, looking_more, looking_found, looking_end}
use Rattle.placement.proofs.first_fit.Goals as goal

pub outer-init : goal.outer-init
outer-init c = (looking_none, omega arith)

pub loop-run-init : goal.loop-run-init
loop-run-init c = (running_none c.outer.invariant.0.inside, omega arith)

pub overflow_add-looks : goal.overflow_add-looks
overflow_add-looks c = omega (arith, c.loop-run.invariant.0.inside)

pub loop-run-preserved : goal.loop-run-preserved
loop-run-preserved c = (running_more c.loop-run.invariant.0 c.if-run-need.false c.if-start-run.false c.if-limit-marks.false, omega arith)

pub outer-preserved : goal.outer-preserved
outer-preserved c = (looking_more c.outer.invariant.0 c.loop-run.invariant.0 c.if-run-need.false c.if-start-run.false c.if-limit-marks.true, omega arith)

pub returns-then-run-need : goal.returns-then-run-need
returns-then-run-need c = looking_found c.outer.invariant.0 c.loop-run.invariant.0 c.if-run-need.true c.loop-run.invariant.1

pub returns-then-start-run : goal.returns-then-start-run
returns-then-start-run c = looking_end c.outer.invariant.0 c.loop-run.invariant.0 c.if-run-need.false c.if-start-run.true c.loop-run.invariant.1
