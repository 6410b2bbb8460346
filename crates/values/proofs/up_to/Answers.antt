-- `values::up_to` meets its contract.
use Rattle.values.specs.UpTo.{up_to_all, up_to_some}
use Rattle.values.proofs.up_to.Goals as goal

pub returns-then-maximum-eq0 : goal.returns-then-maximum-eq0
returns-then-maximum-eq0 c = up_to_all _ _ c.if-maximum-eq0.true

pub returns : goal.returns
returns c = up_to_some _ _ c.if-maximum-eq0.false c.min.ensures
