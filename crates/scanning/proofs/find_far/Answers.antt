-- `scanning::find_far` meets its contract.
use Rattle.scanning.specs.UntilLaws.{until_some, until_none}
use Rattle.scanning.proofs.find_far.Goals as goal

pub returns-in-Some : goal.returns-in-Some
returns-in-Some c = until_some _ _ _ c.requires _ c.in-Some.ensures.0 c.in-Some.ensures.1

pub returns-in-None : goal.returns-in-None
returns-in-None c = until_none _ _ _ c.requires c.in-None.ensures
