-- `lines::cut` meets its contract.
use Rattle.lines.specs.FieldLaws.{cut_only, cut_more}
use native.Mathlib.Omega.{arith}
use Rattle.lines.proofs.cut.Goals as goal

pub returns-then-end-fields : goal.returns-then-end-fields
returns-then-end-fields c = cut_only c.find-end.ensures (omega (arith, c.if-end-fields.true))

pub returns : goal.returns
returns c = cut_more c.find-end.ensures (omega (arith, c.find-end.ensures.inside, c.if-end-fields.false))
