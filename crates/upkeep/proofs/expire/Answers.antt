-- `upkeep::expire` meets its contract.
use mathlib.Core.Path.{sym, ◌∙◌}
use Rattle.rules.specs.Calls.{expire_call}
use Rattle.laws.specs.ChecksLaws.{expire_passed, expire_in_time}
use Rattle.laws.specs.CallsLaws.{gave_refused, gave_passed}
use Rattle.upkeep.proofs.expire.Goals as goal

pub returns-in-Err : goal.returns-in-Err
unfolding expire_call
returns-in-Err c = gave_refused _ _ _ _ _ _ (sym c.of_expire.ensures ∙ c.in-Err.is) c.plain.ensures

pub expire_in-requires : goal.expire_in-requires
expire_in-requires c = record { pool_value = expire_passed _ _ _ _ _ (sym c.in_default.is ∙ c.of_expire.ensures); lifetime_value = expire_in_time _ _ _ _ _ (sym c.in_default.is ∙ c.of_expire.ensures) }

pub returns : goal.returns
unfolding expire_call
returns c = gave_passed _ _ _ _ _ _ _ (sym c.of_expire.ensures ∙ c.in_default.is) c.expire_in.ensures
