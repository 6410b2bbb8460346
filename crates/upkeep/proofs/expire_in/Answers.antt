-- `upkeep::expire_in` meets its contract.
use native.Mathlib.Omega.{arith}
use Rattle.rules.specs.Layout.{memory_of}
use Rattle.rules.specs.Calls.{expire_found}
use Rattle.laws.specs.Buffers.{given_sound}
use Rattle.upkeep.specs.StepLaws.{found_so, found_does}
use Rattle.upkeep.specs.Works.{expire_not, expire_done}
use Rattle.upkeep.proofs.expire_in.Goals as goal

pub returns-in_default : goal.returns-in_default
returns-in_default c = expire_not _ _ _ _ c.look_up.ensures c.in_default.not-Live (given_sound _ _ c.requires.pool_value).dir_is c.plain.ensures

pub record_at-e-requires : goal.record_at-e-requires
unfolding memory_of
record_at-e-requires c = record { dir = (given_sound _ _ c.requires.pool_value).dir_is; i_in_bounds = omega (arith, (found_so _ _ _ _ c.look_up.ensures c.in-Live.is).there) }

pub replace_at-requires : goal.replace_at-requires
unfolding memory_of
replace_at-requires c = record { dir = (given_sound _ _ c.requires.pool_value).dir_is; i_in_bounds = omega (arith, (found_so _ _ _ _ c.look_up.ensures c.in-Live.is).there) }

pub returns : goal.returns
unfolding expire_found
returns c = found_does (expire_found _ _) c.look_up.ensures c.in-Live.is (expire_done _ _ _ _ c.record_at-e.ensures c.expiry_of.ensures c.replace_at.ensures c.plain-2.ensures)
