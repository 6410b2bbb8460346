-- `soundness::claim_from` meets its contract. The loop's invariant: the cells before c are marked.
use Rattle.std.proofs.Common.{◌≡◌, arith}
use Rattle.soundness.specs.Marks.{marked_none, marked_more, claimed_all, claimed_not}
use Rattle.soundness.proofs.claim_from.Goals as goal

pub loop-c-init : goal.loop-c-init
loop-c-init c = marked_none (omega arith)

pub returns-then-map-c-ne0 : goal.returns-then-map-c-ne0
returns-then-map-c-ne0 c = claimed_not c.loop-c.c c.loop-c.invariant (omega arith) (omega arith) c.if-map-c-ne0.true

pub loop-c-preserved : goal.loop-c-preserved
loop-c-preserved c = marked_more c.loop-c.c c.loop-c.invariant (omega arith) (omega arith) c.if-map-c-ne0.false

pub returns : goal.returns
returns c = let e : c.loop-c.c ≡ c.args.end = omega arith in
    claimed_all (omega arith) (rw e at c.loop-c.invariant)
