-- `counting::incr_swept` meets its contract.
use Rattle.counting.proofs.CountingLaws.{step_held, step_held_initial, found_live, found_else}
use Rattle.laws.specs.Meant.{live_there}
use Rattle.counting.proofs.incr_swept.Goals as goal

pub look_up-found-requires : goal.look_up-found-requires
look_up-found-requires c = c.requires.pool_value

pub incr_initial-requires : goal.incr_initial-requires
incr_initial-requires c = record { pool_value = c.requires.pool_value; countable = c.requires.countable; found_value = c.look_up-found.ensures }

pub returns-in_default : goal.returns-in_default
returns-in_default c = found_else _ _ _ _ _ _ _ _ c.look_up-found.ensures c.in_default.not-Live (step_held_initial _ _ _ _ _ _ _ c.ranges.step c.incr_initial.ensures)

pub incr_live-requires : goal.incr_live-requires
incr_live-requires c = record { pool_value = c.requires.pool_value; i_in_bounds = live_there _ _ _ _ _ c.look_up-found.ensures _ c.in-Live.is }

pub returns : goal.returns
returns c = found_live _ _ _ _ _ _ _ _ _ c.look_up-found.ensures c.in-Live.is (step_held _ _ _ _ c.ranges.step c.incr_live.ensures)
