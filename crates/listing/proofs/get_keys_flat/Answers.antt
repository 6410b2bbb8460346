-- `listing::get_keys_flat` meets its contract.
use Rattle.rules.specs.Calls.{get_keys_flat_call}
use Rattle.laws.specs.ChecksLaws.{clock_passed}
use Rattle.listing.specs.Listings.{flat_refused, flat_passed}
use mathlib.Core.Path.{sym, ◌∙◌}
use Rattle.listing.proofs.get_keys_flat.Goals as goal

pub returns-in-Err : goal.returns-in-Err
unfolding get_keys_flat_call
returns-in-Err c = flat_refused _ _ _ _ _ _ _ (sym c.of_clock.ensures ∙ c.in-Err.is) c.plain.ensures

pub get_keys_flat_in-requires : goal.get_keys_flat_in-requires
get_keys_flat_in-requires c = clock_passed _ _ _ (sym c.in_default.is ∙ c.of_clock.ensures)

pub returns : goal.returns
unfolding get_keys_flat_call
returns c = flat_passed _ _ _ _ _ _ (sym c.of_clock.ensures ∙ c.in_default.is) c.get_keys_flat_in.ensures
