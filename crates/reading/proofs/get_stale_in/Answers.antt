-- `reading::get_stale_in` meets its contract.
use Rattle.laws.specs.Buffers.{given_sound}
use Rattle.reading.specs.Readable.{readable}
use Rattle.laws.specs.Meant.{live_there, dead_there}
use Rattle.reading.specs.Answering.{stale_live, stale_dead, stale_nothing}
use Rattle.reading.proofs.get_stale_in.Goals as goal

pub record_at-requires : goal.record_at-requires
record_at-requires c = record { dir = (given_sound _ _ c.requires).dir_is; i_in_bounds = live_there _ _ _ _ _ c.look_up.ensures _ c.in-Live.is }

pub shown-requires : goal.shown-requires
shown-requires c = readable _ _ c.requires _ (live_there _ _ _ _ _ c.look_up.ensures _ c.in-Live.is) _ c.record_at.ensures

pub record_at-requires-in-Dead : goal.record_at-requires-in-Dead
record_at-requires-in-Dead c = record { dir = (given_sound _ _ c.requires).dir_is; i_in_bounds = dead_there _ _ _ _ _ c.look_up.ensures _ c.in-Dead.is }

pub shown-requires-in-Dead : goal.shown-requires-in-Dead
shown-requires-in-Dead c = readable _ _ c.requires _ (dead_there _ _ _ _ _ c.look_up.ensures _ c.in-Dead.is) _ c.record_at-in-Dead.ensures

pub returns-in-Live : goal.returns-in-Live
returns-in-Live c = stale_live _ _ _ _ _ c.look_up.ensures _ _ c.record_at.ensures _ _ c.in-Live.is c.shown.ensures c.marked.ensures

pub returns-in-Dead : goal.returns-in-Dead
returns-in-Dead c = stale_dead _ _ _ _ _ c.look_up.ensures _ _ c.record_at-in-Dead.ensures _ _ c.in-Dead.is c.shown-in-Dead.ensures c.marked-in-Dead.ensures

pub returns-in-Missing : goal.returns-in-Missing
returns-in-Missing c = stale_nothing _ _ _ _ _ c.look_up.ensures _ c.in-Missing.is c.plain.ensures
