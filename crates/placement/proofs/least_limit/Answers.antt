-- `placement::least_limit` meets its contract. The outer loop has passed only places that cost the bound at least; in the inner one the run from this start is below the bound.
use Rattle.std.proofs.Common.{refl, ◌≡◌, ◌+◌}
use native.Mathlib.Omega.{arith}
use Rattle.placement.specs.Least.{passed_none, passed_place, passed_cheapest, passed_cell, passed_end, climbed_none, climbed_peak, climbed_more}
use Rattle.placement.proofs.least_limit.Goals as goal

pub outer-init : goal.outer-init
outer-init c = passed_none

pub loop-run-init : goal.loop-run-init
loop-run-init c = (refl, c.outer.invariant, climbed_none c.outer.invariant.inside)

pub overflow_add-start : goal.overflow_add-start
overflow_add-start c = omega (arith, (c.loop-run.invariant.2.peak (omega arith)).3, c.loop-run.invariant.2.inside)

pub outer-smaller-then-run-need : goal.outer-smaller-then-run-need
outer-smaller-then-run-need c = omega (arith, (c.loop-run.invariant.2.peak (omega arith)).2, (c.loop-run.invariant.2.peak (omega arith)).3, c.loop-run.invariant.0, c.loop-run.invariant.2.inside)

pub outer-preserved-then-run-need : goal.outer-preserved-then-run-need
outer-preserved-then-run-need c = passed_place c.loop-run.invariant.2 c.loop-run.invariant.1 c.requires.need_nonzero.0 c.if-run-need.true

pub loop-run-preserved-then-top-mark : goal.loop-run-preserved-then-top-mark
loop-run-preserved-then-top-mark c = (c.loop-run.invariant.0, c.loop-run.invariant.1, climbed_peak c.loop-run.invariant.2 c.if-run-need.false c.if-start-run.false c.from-mark.ensures c.if-bound-mark.false c.if-top-mark.true)

pub loop-run-preserved : goal.loop-run-preserved
loop-run-preserved c = (c.loop-run.invariant.0, c.loop-run.invariant.1, climbed_more c.loop-run.invariant.2 c.if-run-need.false c.if-start-run.false c.from-mark.ensures c.if-bound-mark.false c.if-top-mark.false)

pub outer-preserved : goal.outer-preserved
outer-preserved c = passed_cell c.loop-run.invariant.2 c.loop-run.invariant.1 c.if-run-need.false c.if-start-run.false (omega (arith, c.from-mark.ensures, c.if-bound-mark.true))

pub returns-then-top-le1-clause-least : goal.returns-then-top-le1-clause-least
returns-then-top-le1-clause-least c = passed_cheapest c.loop-run.invariant.2 c.loop-run.invariant.1 c.requires.need_nonzero.0 c.if-run-need.true (omega arith) c.requires.need_value

pub returns-then-top-le1-clause-within : goal.returns-then-top-le1-clause-within
returns-then-top-le1-clause-within c = omega (arith, (c.loop-run.invariant.2.peak (omega (arith, c.requires.need_nonzero.0))).1, c.loop-run.invariant.1.few)

pub returns-then-most-bound : goal.returns-then-most-bound
returns-then-most-bound c = let l = passed_end c.loop-run.invariant.2 c.loop-run.invariant.1 c.if-run-need.false c.if-start-run.true in
    let e : c.loop-run.bound ≡ c.args.most + 1 = omega (arith, l.few, c.if-most-bound.true) in
    record { least = rw e at l; within = tt }

pub returns-then-start-run : goal.returns-then-start-run
returns-then-start-run c = record { least = passed_end c.loop-run.invariant.2 c.loop-run.invariant.1 c.if-run-need.false c.if-start-run.true; within = omega arith }
