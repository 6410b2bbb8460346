-- `reading::get` meets its contract.
use mathlib.Core.Path.{sym, ◌∙◌}
use Rattle.rules.specs.Calls.{get_call}
use Rattle.laws.specs.ChecksLaws.{key_passed}
use Rattle.laws.specs.CallsLaws.{gave_refused, gave_passed}
use Rattle.reading.proofs.get.Goals as goal

pub returns-in-Err : goal.returns-in-Err
unfolding get_call
returns-in-Err c = gave_refused _ _ _ _ _ _ (sym c.of_key.ensures ∙ c.in-Err.is) c.plain.ensures

pub get_in-requires : goal.get_in-requires
get_in-requires c = key_passed _ _ _ _ (sym c.in_default.is ∙ c.of_key.ensures)

pub returns : goal.returns
unfolding get_call
returns c = gave_passed _ _ _ _ _ _ _ (sym c.of_key.ensures ∙ c.in_default.is) c.get_in.ensures
