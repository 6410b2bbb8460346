-- `upkeep::delete` meets its contract.
use mathlib.Core.Path.{sym, ◌∙◌}
use Rattle.rules.specs.Calls.{delete_work, delete_call}
use Rattle.laws.specs.ChecksLaws.{key_passed}
use Rattle.laws.specs.CallsLaws.{gave_refused, gave_passed}
use Rattle.upkeep.proofs.delete.Goals as goal

pub returns-in-Err : goal.returns-in-Err
unfolding delete_call
returns-in-Err c = gave_refused _ (delete_work _ _) _ _ _ _ (sym c.of_key.ensures ∙ c.in-Err.is) c.plain.ensures

pub delete_in-requires : goal.delete_in-requires
delete_in-requires c = key_passed _ _ _ _ (sym c.in_default.is ∙ c.of_key.ensures)

pub returns : goal.returns
unfolding delete_call
returns c = gave_passed _ (delete_work _ _) _ _ _ _ _ (sym c.of_key.ensures ∙ c.in_default.is) c.delete_in.ensures
