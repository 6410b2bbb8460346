-- `replay::run` meets its contract.
use Rattle.std.proofs.Common.{arith, refl, ◌∙◌}
use Rattle.replay.specs.Progress.{doing_none, doing_line, doing_rest, doing_full}
use Rattle.replay.proofs.run.Goals as goal

pub loop-out-init : goal.loop-out-init
loop-out-init c = record { doing = doing_none c.args.memory.now.ready; same = record { dir = refl; pool = refl; words = refl; bytes = refl }; room = refl }

pub loop-out-preserved : goal.loop-out-preserved
loop-out-preserved c = record {
  doing =
      doing_line c.loop-out.invariant.doing c.find-end.ensures (omega (arith, c.find-end.ensures.inside, c.if-end-input.false))
      (omega (arith, c.loop-out.invariant.same.bytes, c.loop-out.invariant.room, c.loop-out-test.true, c.loop-out.invariant.doing.fits))
      c.do_line-written.ensures.lined;
  same = record {
    dir = c.do_line-written.ensures.same.dir ∙ c.loop-out.invariant.same.dir;
    pool = c.do_line-written.ensures.same.pool ∙ c.loop-out.invariant.same.pool;
    words = c.do_line-written.ensures.same.words ∙ c.loop-out.invariant.same.words;
    bytes = c.do_line-written.ensures.same.bytes ∙ c.loop-out.invariant.same.bytes;
  };
  room = c.loop-out.invariant.room;
}

pub returns-after-loop-out-clause-done : goal.returns-after-loop-out-clause-done
returns-after-loop-out-clause-done c = doing_full c.loop-out.invariant.doing (omega (arith, c.loop-out.invariant.same.bytes, c.loop-out.invariant.room, c.loop-out-test.false))

pub returns-then-end-input-clause-done : goal.returns-then-end-input-clause-done
returns-then-end-input-clause-done c = doing_rest c.loop-out.invariant.doing c.find-end.ensures (omega (arith, c.if-end-input.true))
