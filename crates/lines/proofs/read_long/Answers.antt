-- `lines::read_long` meets its contract.
use Rattle.std.proofs.Common.{ap, sym, ◌∙◌}
use Rattle.lines.specs.Saying.{said}
use Rattle.lines.specs.CallLaws.{four, five, six, many, seven_other, seven_set}
use Rattle.lines.proofs.read_long.Goals as goal

pub returns-in_err-kind-clause-call : goal.returns-in_err-kind-clause-call
returns-in_err-kind-clause-call c = ap said c.from_residual.ensures ∙ four _ _ _ _ c.in_err-kind.ensures

pub returns-in_err-value-clause-call : goal.returns-in_err-value-clause-call
returns-in_err-value-clause-call c = ap said c.from_residual-in_err-value.ensures ∙ five _ _ _ _ _ _ c.in_ok-kind.ensures c.in_err-value.ensures

pub returns-in_err-lifetime-clause-call : goal.returns-in_err-lifetime-clause-call
returns-in_err-lifetime-clause-call c = ap said c.from_residual-in_err-lifetime.ensures ∙ six _ _ _ _ _ _ c.in_ok-kind.ensures _ _ c.in_ok-value.ensures c.in_err-lifetime.ensures

pub returns-then-is_some-clause-call : goal.returns-then-is_some-clause-call
returns-then-is_some-clause-call c = many _ _ _ _ _ _ c.in_ok-kind.ensures _ _ c.in_ok-value.ensures _ _ c.in_ok-lifetime.ensures _ (sym c.is_some.ensures ∙ c.if-is_some.true) c.cut-4.ensures

pub returns-then-not-equal-clause-call : goal.returns-then-not-equal-clause-call
returns-then-not-equal-clause-call c = seven_other _ _ _ _ _ _ c.in_ok-kind.ensures _ _ c.in_ok-value.ensures _ _ c.in_ok-lifetime.ensures _ (sym c.is_some.ensures ∙ c.if-is_some.false) c.cut-4.ensures c.if-not-equal.ensures

pub returns-clause-call : goal.returns-clause-call
returns-clause-call c = seven_set _ _ _ _ _ _ c.in_ok-kind.ensures _ _ c.in_ok-value.ensures _ _ c.in_ok-lifetime.ensures _ (sym c.is_some.ensures ∙ c.if-is_some.false) c.cut-4.ensures c.if-not-equal.ensures c.read_set.ensures.call
