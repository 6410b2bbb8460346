-- `reading::get_stale` meets its contract.
use mathlib.Core.Path.{sym, ◌∙◌}
use Rattle.rules.specs.Calls.{get_stale_call}
use Rattle.laws.specs.ChecksLaws.{key_passed}
use Rattle.laws.specs.CallsLaws.{ask_refused, ask_passed}
use Rattle.reading.proofs.get_stale.Goals as goal

pub returns-in-Err : goal.returns-in-Err
unfolding get_stale_call
returns-in-Err c = c.plain.ensures ∙ sym (ask_refused _ _ _ _ _ (sym c.of_key.ensures ∙ c.in-Err.is))

pub get_stale_in-requires : goal.get_stale_in-requires
get_stale_in-requires c = key_passed _ _ _ _ (sym c.in_default.is ∙ c.of_key.ensures)

pub returns : goal.returns
unfolding get_stale_call
returns c = c.get_stale_in.ensures ∙ sym (ask_passed _ _ _ _ (sym c.of_key.ensures ∙ c.in_default.is))
