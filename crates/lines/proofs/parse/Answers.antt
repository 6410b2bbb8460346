-- `lines::parse` meets its contract.
use Rattle.std.proofs.Common.{ap, sym, ◌∙◌, arith}
use Rattle.lines.specs.Saying.{said}
use Rattle.lines.specs.CallLaws.{too_long, one, two, three, longer}
use Rattle.lines.proofs.parse.Goals as goal

pub returns-then-line-gt4096-clause-call : goal.returns-then-line-gt4096-clause-call
returns-then-line-gt4096-clause-call c = sym (too_long _ (omega (arith, c.if-line-gt4096.true)))

pub returns-in_err-first-clause-call : goal.returns-in_err-first-clause-call
returns-in_err-first-clause-call c = ap said c.from_residual.ensures ∙ one _ (omega arith) c.in_err-first.ensures

pub returns-in_default-clause-call : goal.returns-in_default-clause-call
returns-in_default-clause-call c = two _ (omega arith) _ _ c.in_ok-first.ensures c.in_default.ensures c.read_fresh.ensures.call

pub returns-in_default-cut-clause-call : goal.returns-in_default-cut-clause-call
returns-in_default-cut-clause-call c = three _ (omega arith) _ _ c.in_ok-first.ensures _ _ c.in-Some.ensures c.in_default-cut.ensures c.read_key.ensures.call

pub returns-clause-call : goal.returns-clause-call
returns-clause-call c = longer _ (omega arith) _ _ c.in_ok-first.ensures _ _ c.in-Some.ensures _ _ c.in-Some-cut.ensures c.read_long.ensures.call
