-- `reading::show` meets its contract.
use native.Mathlib.Omega.{arith}
use Rattle.laws.specs.Buffers.{given_sound}
use Rattle.reading.specs.Lent.{show_inside, show_notice, show_sound, show_there, show_text}
use Rattle.reading.proofs.show.Goals as goal

pub returns-in_default : goal.returns-in_default
returns-in_default c = let p = show_notice _ _ _ _ _ c.find_text.ensures _ _ _ c.in_default.not-Live in record { result_value = p.0; ref_ptr_value = p.1 }

pub record_at-e-requires : goal.record_at-e-requires
record_at-e-requires c = record { dir = (given_sound _ _ (show_sound _ _ _ _ _ c.find_text.ensures _ c.in-Live.is)).dir_is; i_in_bounds = show_there _ _ _ _ _ c.find_text.ensures _ c.in-Live.is }

pub overflow_mul-start : goal.overflow_mul-start
overflow_mul-start c = omega (arith, show_inside _ _ _ _ _ c.find_text.ensures _ c.in-Live.is _ c.record_at-e.ensures)

pub overflow_add-start : goal.overflow_add-start
overflow_add-start c = omega (arith, show_inside _ _ _ _ _ c.find_text.ensures _ c.in-Live.is _ c.record_at-e.ensures)

pub overflow_add-end : goal.overflow_add-end
overflow_add-end c = omega (arith, show_inside _ _ _ _ _ c.find_text.ensures _ c.in-Live.is _ c.record_at-e.ensures)

pub slice_bounds-result-end : goal.slice_bounds-result-end
slice_bounds-result-end c = omega (arith, show_inside _ _ _ _ _ c.find_text.ensures _ c.in-Live.is _ c.record_at-e.ensures)

pub returns : goal.returns
returns c =
    let p = show_text _ _ _ _ _ c.find_text.ensures _ _ _ _ c.in-Live.is _ c.record_at-e.ensures in
    record { result_value = p.0; ref_ptr_value = p.1 }
