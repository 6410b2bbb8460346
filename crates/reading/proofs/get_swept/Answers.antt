-- `reading::get_swept` meets its contract.
use native.Mathlib.Omega.{arith}
use Rattle.laws.specs.Buffers.{given_sound}
use Rattle.reading.specs.Readable.{readable}
use Rattle.laws.specs.Meant.{live_there}
use Rattle.reading.specs.Answering.{get_nothing, get_live}
use Rattle.reading.proofs.get_swept.Goals as goal

pub returns-in_default : goal.returns-in_default
returns-in_default c = get_nothing _ _ _ _ _ c.look_up.ensures _ _ c.in_default.not-Live (given_sound _ _ c.requires).dir_is c.plain.ensures

pub record_at-e-requires : goal.record_at-e-requires
record_at-e-requires c = record { dir = (given_sound _ _ c.requires).dir_is; i_in_bounds = live_there _ _ _ _ _ c.look_up.ensures _ c.in-Live.is }

pub shown-outcome-requires : goal.shown-outcome-requires
shown-outcome-requires c = readable _ _ c.requires _ (live_there _ _ _ _ _ c.look_up.ensures _ c.in-Live.is) _ c.record_at-e.ensures

pub put_front-requires : goal.put_front-requires
put_front-requires c = record { dir = (given_sound _ _ c.requires).dir_is; i_in_bounds = omega (arith, live_there _ _ _ _ _ c.look_up.ensures _ c.in-Live.is) }

pub returns : goal.returns
returns c = get_live _ _ _ _ _ c.look_up.ensures _ _ c.record_at-e.ensures _ _ _ c.in-Live.is c.shown-outcome.ensures c.plain-2.ensures c.put_front.ensures
