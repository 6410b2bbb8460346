-- `replay::run_all` meets its contract.
use Rattle.std.proofs.Common.{arith, refl}
use Rattle.replay.specs.Whole.{behind_done, behind_full, behind_last}
use Rattle.replay.proofs.run_all.Goals as goal

pub returns-then-done-input-clause-behind : goal.returns-then-done-input-clause-behind
returns-then-done-input-clause-behind c = behind_done c.run-done.ensures.done (omega (arith, c.if-done-input.true))

pub returns-then-out-done-clause-behind : goal.returns-then-out-done-clause-behind
returns-then-out-done-clause-behind c = behind_full c.run-done.ensures.done (omega (arith, c.if-out-done.true))

pub returns-clause-behind : goal.returns-clause-behind
returns-clause-behind c = behind_last c.run-done.ensures.done refl (omega (arith, c.if-done-input.false, c.run-done.ensures.done.doing.inside)) (omega (arith, c.if-out-done.false, c.run-done.ensures.done.doing.fits)) c.do_line-written.ensures.lined
