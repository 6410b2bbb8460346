-- `lines::read_set` meets its contract.
use Rattle.std.proofs.Common.{ap, ◌∙◌, arith, rules, ℕ, ℤ, refl}
use Rattle.std.specs.Prelude.{Option}
use Rattle.rules.specs.Replay.{sets, number_said, set_said, kind_said}
use Rattle.values.specs.Bits.{held_is}
use Rattle.lines.specs.Saying.{said}
use Rattle.lines.specs.CallLaws.{most_said, set_says}
use Rattle.lines.proofs.read_set.Goals as goal

pub returns-in_err-kind-clause-call : goal.returns-in_err-kind-clause-call
unfolding kind_said
returns-in_err-kind-clause-call c = ap said c.from_residual.ensures ∙ ap (λ (k : Option ℕ). kind_said c.args.clock.now c.args.key.now k c.args.value.now c.args.lifetime.now c.args.flags.now) c.in_err-kind.ensures

pub returns-in_err-clock-clause-call : goal.returns-in_err-clock-clause-call
unfolding set_said
returns-in_err-clock-clause-call c = ap said c.from_residual-in_err-clock.ensures ∙ set_says _ _ _ _ _ _ c.in_ok-kind.ensures c.in_err-clock.ensures refl refl refl

pub returns-in_err-number-clause-call : goal.returns-in_err-number-clause-call
unfolding set_said
returns-in_err-number-clause-call c = ap said c.from_residual-in_err-number.ensures ∙ set_says _ _ _ _ _ _ c.in_ok-kind.ensures c.in_ok-clock.ensures c.in_err-number.ensures refl refl

pub returns-in_err-lifetime-clause-call : goal.returns-in_err-lifetime-clause-call
unfolding set_said
returns-in_err-lifetime-clause-call c = ap said c.from_residual-in_err-lifetime.ensures ∙ set_says _ _ _ _ _ _ c.in_ok-kind.ensures c.in_ok-clock.ensures c.in_ok-number.ensures c.in_err-lifetime.ensures refl

pub returns-in_err-flags-clause-call : goal.returns-in_err-flags-clause-call
unfolding set_said
returns-in_err-flags-clause-call c = ap said c.from_residual-in_err-flags.ensures ∙ set_says _ _ _ _ _ _ c.in_ok-kind.ensures c.in_ok-clock.ensures c.in_ok-number.ensures c.in_ok-lifetime.ensures (c.in_err-flags.ensures ∙ ap (λ (n : ℕ). number_said n c.args.flags.now) c.from.ensures)

pub overflow_cast-result : goal.overflow_cast-result
overflow_cast-result c = omega (arith, most_said _ c.in_ok-kind.ensures)

pub overflow_cast-result-2 : goal.overflow_cast-result-2
overflow_cast-result-2 c = omega (arith, most_said _ c.in_ok-flags.ensures)

pub returns-clause-call : goal.returns-clause-call
unfolding set_said
returns-clause-call c =
    ap (λ (z : ℤ). sets c.in_ok-clock.clock c.args.key.now c.in_ok-kind.kind z c.in_ok-number.text.now c.in_ok-lifetime.lifetime c.in_ok-flags.flags) (held_is (search rules) refl)
    ∙ set_says _ _ _ _ _ _ c.in_ok-kind.ensures c.in_ok-clock.ensures c.in_ok-number.ensures c.in_ok-lifetime.ensures (c.in_ok-flags.ensures ∙ ap (λ (n : ℕ). number_said n c.args.flags.now) c.from.ensures)
