-- `upkeep::flush_expired` meets its contract.
use mathlib.Core.Path.{sym, ◌∙◌}
use Rattle.rules.specs.Calls.{flush_expired_work, flush_expired_call}
use Rattle.laws.specs.ChecksLaws.{clock_passed}
use Rattle.laws.specs.CallsLaws.{gave_refused, gave_passed}
use Rattle.upkeep.proofs.flush_expired.Goals as goal

pub returns-in-Err : goal.returns-in-Err
unfolding flush_expired_call
returns-in-Err c = gave_refused _ (flush_expired_work _ _) _ _ _ _ (sym c.of_clock.ensures ∙ c.in-Err.is) c.plain.ensures

pub flush_expired_in-requires : goal.flush_expired_in-requires
flush_expired_in-requires c = clock_passed _ _ _ (sym c.in_default.is ∙ c.of_clock.ensures)

pub returns : goal.returns
unfolding flush_expired_call
returns c = gave_passed _ (flush_expired_work _ _) _ _ _ _ _ (sym c.of_clock.ensures ∙ c.in_default.is) c.flush_expired_in.ensures
