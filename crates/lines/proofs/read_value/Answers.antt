-- `lines::read_value` meets its contract.
use Rattle.std.proofs.Common.{ap, ◌∙◌, arith, rules, ℤ, [], refl}
use Rattle.std.specs.Prelude.{Some}
use Rattle.rules.specs.Replay.{boolean_said, number_value}
use Rattle.values.specs.Bits.{held_is}
use Rattle.decimals.specs.WeightLaws.{bits_plus}
use Rattle.lines.specs.Saying.{value}
use Rattle.lines.specs.CallLaws.{most_said, boolean_says, weight_says, text_says, other_says}
use Rattle.lines.proofs.read_value.Goals as goal

pub returns-in_err-read_number-in-1 : goal.returns-in_err-read_number-in-1
unfolding boolean_said
returns-in_err-read_number-in-1 c = ap value c.from_residual.ensures ∙ boolean_says _ _ c.in-1.is c.in_err-read_number-in-1.ensures

pub overflow_cast-result : goal.overflow_cast-result
overflow_cast-result c = omega (arith, most_said _ c.in_ok-read_number-in-1.ensures)

pub returns-in_ok-read_number-in-1 : goal.returns-in_ok-read_number-in-1
unfolding boolean_said
returns-in_ok-read_number-in-1 c =
    ap (λ (n : ℤ). Some (record { number = n; text = [] })) (bits_plus _ (omega (arith, most_said _ c.in_ok-read_number-in-1.ensures)))
    ∙ boolean_says _ _ c.in-1.is c.in_ok-read_number-in-1.ensures

pub returns-in_err-read_weight-in-3 : goal.returns-in_err-read_weight-in-3
unfolding number_value
returns-in_err-read_weight-in-3 c = ap value c.from_residual-in_err-read_weight-in-3.ensures ∙ weight_says _ _ c.in-3.is c.in_err-read_weight-in-3.ensures

pub returns-in_ok-read_weight-in-3 : goal.returns-in_ok-read_weight-in-3
unfolding number_value
returns-in_ok-read_weight-in-3 c =
    ap (λ (n : ℤ). Some (record { number = n; text = [] })) (held_is (search rules) refl)
    ∙ weight_says _ _ c.in-3.is c.in_ok-read_weight-in-3.ensures

pub returns-in-4 : goal.returns-in-4
returns-in-4 c = text_says _ _ (omega (arith, c.in-4.is))

pub returns-in_default : goal.returns-in_default
returns-in_default c = other_says _ _ (omega arith) (omega arith) (omega arith)
