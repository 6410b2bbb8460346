-- `lines::read_key` meets its contract.
use Rattle.std.proofs.Common.{ap, ◌∙◌}
use Rattle.rules.specs.Replay.{key_said}
use Rattle.lines.specs.Saying.{said}
use Rattle.lines.specs.CallLaws.{key_says, get_is, delete_is, word_other}
use Rattle.lines.proofs.read_key.Goals as goal

pub returns-in_err-clock-clause-call : goal.returns-in_err-clock-clause-call
unfolding key_said
returns-in_err-clock-clause-call c = ap said c.from_residual.ensures ∙ key_says _ _ _ c.in_err-clock.ensures

pub returns-then-equal-clause-call : goal.returns-then-equal-clause-call
returns-then-equal-clause-call c = get_is _ _ _ c.if-equal.ensures ∙ key_says _ _ _ c.in_ok-clock.ensures

pub returns-then-equal-2-clause-call : goal.returns-then-equal-2-clause-call
returns-then-equal-2-clause-call c = delete_is _ _ _ c.if-equal.ensures c.if-equal-2.ensures ∙ key_says _ _ _ c.in_ok-clock.ensures

pub returns-clause-call : goal.returns-clause-call
returns-clause-call c = word_other _ _ _ c.if-equal.ensures c.if-equal-2.ensures ∙ key_says _ _ _ c.in_ok-clock.ensures
