-- `decimals::read_number` meets its contract.
use Rattle.std.proofs.Common.{sym, ◌∙◌, arith, eqb-true}
use Rattle.std.proofs.lemmas.Bool.{eqb-false}
use Rattle.decimals.specs.ReadingLaws.{number_empty, number_zero, number_run}
use Rattle.decimals.proofs.read_number.Goals as goal
use Rattle.decimals.proofs.read_number.Goals.{else-field-gt1-via-then-field-gt1+else-field-eq48, else-field-gt1-via-else-field-gt1}

pub returns-then-is_empty : goal.returns-then-is_empty
returns-then-is_empty c = number_empty _ _ (eqb-true _ _ (sym c.if-is_empty.ensures))

pub returns-then-field-eq48 : goal.returns-then-field-eq48
returns-then-field-eq48 c = number_zero _ _ c.if-field-gt1.true c.if-field-eq48.true

pub returns : goal.returns
returns c = c.run.ensures
    ∙ number_run _ _ (omega (arith, eqb-false _ _ (sym c.if-is_empty.ensures)))
    (λ h. elim c.else-field-gt1.branch [ else-field-gt1-via-then-field-gt1+else-field-eq48 w ↦ w.if-field-eq48.false | else-field-gt1-via-else-field-gt1 w ↦ absurd (omega arith) ])
