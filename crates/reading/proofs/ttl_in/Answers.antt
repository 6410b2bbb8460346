-- `reading::ttl_in` meets its contract.
use Rattle.laws.specs.Buffers.{given_sound}
use Rattle.laws.specs.Meant.{live_there, not_dead}
use Rattle.reading.specs.Answering.{ttl_nothing, ttl_live}
use Rattle.reading.proofs.ttl_in.Goals as goal

pub returns-in_default : goal.returns-in_default
returns-in_default c = ttl_nothing _ _ _ _ _ c.look_up.ensures _ c.in_default.not-Live c.plain.ensures

pub record_at-requires : goal.record_at-requires
record_at-requires c = record { dir = (given_sound _ _ c.requires).dir_is; i_in_bounds = live_there _ _ _ _ _ c.look_up.ensures _ c.in-Live.is }

pub time_left-left-requires : goal.time_left-left-requires
time_left-left-requires c = not_dead _ _ _ _ _ c.look_up.ensures _ c.in-Live.is _ c.record_at.ensures

pub returns : goal.returns
returns c = ttl_live _ _ _ _ _ c.look_up.ensures _ _ c.record_at.ensures _ _ c.in-Live.is c.time_left-left.ensures c.plain-2.ensures
