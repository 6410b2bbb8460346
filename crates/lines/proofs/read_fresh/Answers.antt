-- `lines::read_fresh` meets its contract.
use Rattle.std.proofs.Common.{ap, sym, ◌∙◌, arith, ℕ}
use Rattle.std.specs.Prelude.{Some}
use Rattle.rules.specs.Replay.{fresh_said}
use Rattle.lines.specs.Saying.{said}
use Rattle.lines.specs.CallLaws.{most_said, fresh_says, fresh_other, fresh_is}
use Rattle.lines.proofs.read_fresh.Goals as goal

pub returns-then-not-equal-clause-call : goal.returns-then-not-equal-clause-call
returns-then-not-equal-clause-call c = fresh_other _ _ c.if-not-equal.ensures

pub returns-in_err-cells-clause-call : goal.returns-in_err-cells-clause-call
unfolding fresh_said
returns-in_err-cells-clause-call c = ap said c.from_residual.ensures ∙ fresh_says _ _ c.if-not-equal.ensures c.in_err-cells.ensures

pub returns-then-cells-eq0-clause-call : goal.returns-then-cells-eq0-clause-call
unfolding fresh_said
returns-then-cells-eq0-clause-call c = ap (λ (n : ℕ). fresh_said (Some n)) (sym c.if-cells-eq0.true) ∙ fresh_says _ _ c.if-not-equal.ensures c.in_ok-cells.ensures

pub returns-clause-call : goal.returns-clause-call
returns-clause-call c = fresh_is c.if-cells-eq0.false ∙ fresh_says _ _ c.if-not-equal.ensures c.in_ok-cells.ensures

pub returns-clause-fine : goal.returns-clause-fine
returns-clause-fine c = (omega arith, most_said _ c.in_ok-cells.ensures)
