-- `capi::reefcandor_show` meets its contract.
use Rattle.laws.specs.Buffers.{given_sound}
use Rattle.reading.specs.Lent.{show_inside, show_sound, show_there}
use Rattle.capi.specs.Places.{show_nowhere, show_here}
use native.Mathlib.Omega.{arith}
use Rattle.capi.proofs.reefcandor_show.Goals as goal

pub returns-in_default : goal.returns-in_default
returns-in_default c = show_nowhere _ _ _ _ _ c.find_text-found.ensures c.in_default.not-Live

pub record_at-e-requires : goal.record_at-e-requires
record_at-e-requires c = record { dir = (given_sound _ _ (show_sound _ _ _ _ _ c.find_text-found.ensures _ c.in-Live.is)).dir_is; i_in_bounds = show_there _ _ _ _ _ c.find_text-found.ensures _ c.in-Live.is }

pub returns : goal.returns
returns c = show_here _ _ _ _ _ c.find_text-found.ensures _ c.in-Live.is _ c.record_at-e.ensures

pub overflow_mul-place : goal.overflow_mul-place
overflow_mul-place c = omega (arith, show_inside _ _ _ _ _ c.find_text-found.ensures _ c.in-Live.is _ c.record_at-e.ensures)

pub overflow_add-place : goal.overflow_add-place
overflow_add-place c = omega (arith, show_inside _ _ _ _ _ c.find_text-found.ensures _ c.in-Live.is _ c.record_at-e.ensures)
