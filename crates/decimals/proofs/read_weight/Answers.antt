-- `decimals::read_weight` meets its contract.
use Rattle.std.specs.Prelude.{Some}
use Rattle.std.proofs.Common.{sym, ap, ◌∙◌, arith}
use Rattle.values.specs.Bits.{held_is}
use Rattle.decimals.specs.WeightLaws.{answered, number_told, minus_unread, minus_zero, minus_is, plus_unread, plus_is, weight_minus, weight_plus, bits_minus, bits_plus}
use Rattle.decimals.proofs.read_weight.Goals as goal

pub returns-in_err-n : goal.returns-in_err-n
returns-in_err-n c = c.from_residual.ensures ∙ minus_unread _ (answered _ c.read_number.ensures c.unsigned_abs.ensures.value c.in_err-n.was) ∙ weight_minus _ c.in-Some.ensures.cases.0 c.in-Some.ensures.cases.1

pub returns-then-n-eq0 : goal.returns-then-n-eq0
returns-then-n-eq0 c = minus_zero (number_told (answered _ c.read_number.ensures c.unsigned_abs.ensures.value c.in_ok-n.was)) c.if-n-eq0.true ∙ weight_minus _ c.in-Some.ensures.cases.0 c.in-Some.ensures.cases.1

pub returns-in-Some : goal.returns-in-Some
returns-in-Some c = let t = number_told (answered _ c.read_number.ensures c.unsigned_abs.ensures.value c.in_ok-n.was) in
    ap Some (held_is c.cast_signed.type_inv (c.cast_signed.ensures ∙ bits_minus _ (omega arith) t.low (omega (arith, t.low)))) ∙ sym (minus_is t (omega arith)) ∙ weight_minus _ c.in-Some.ensures.cases.0 c.in-Some.ensures.cases.1

pub returns-in_err-n-2 : goal.returns-in_err-n-2
returns-in_err-n-2 c = c.from_residual-in_err-n-2.ensures ∙ plus_unread _ (answered _ c.read_number-2.ensures c.unsigned_abs-2.ensures.value c.in_err-n-2.was) ∙ weight_plus _ c.in_default.ensures.cases

pub returns : goal.returns
returns c = let t = number_told (answered _ c.read_number-2.ensures c.unsigned_abs-2.ensures.value c.in_ok-n-2.was) in
    ap Some (held_is c.cast_signed-2.type_inv (c.cast_signed-2.ensures ∙ bits_plus _ t.low)) ∙ sym (plus_is t) ∙ weight_plus _ c.in_default.ensures.cases
