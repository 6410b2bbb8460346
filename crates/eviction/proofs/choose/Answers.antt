-- `eviction::choose` meets its contract.
use Rattle.std.proofs.Common.{sym, ◌≡◌, Some, None, rules}
use native.Mathlib.Omega.{arith}
use Rattle.laws.specs.SoundnessLaws.{sound_is}
use Rattle.eviction.specs.Scratch.{lent_length, lent_blank, back_room, back_length}
use Rattle.eviction.specs.ChoiceLaws.{chosen_scratch, scratch_none}
use Rattle.eviction.proofs.choose.Goals as goal

pub slice_bounds-marks-end : goal.slice_bounds-marks-end
slice_bounds-marks-end c = omega (arith, (sound_is _ _ c.requires.pool_value).few_cells)

pub slice_bounds-mark_line-end : goal.slice_bounds-mark_line-end
slice_bounds-mark_line-end c = sym (lent_length 1024 (sound_is _ _ c.requires.pool_value) (omega arith))

pub mark_line-requires : goal.mark_line-requires
mark_line-requires c = lent_blank 1024 (sound_is _ _ c.requires.pool_value) (omega arith)

pub slice_bounds-marks-end-2 : goal.slice_bounds-marks-end-2
slice_bounds-marks-end-2 c = back_room 1024 (sound_is _ _ c.requires.pool_value) (omega arith) c.mark_line.new.marks c.mark_line.ensures.size

pub slice_bounds-find_place-end : goal.slice_bounds-find_place-end
slice_bounds-find_place-end c = back_length 1024 (sound_is _ _ c.requires.pool_value) (omega arith) c.mark_line.new.marks c.mark_line.ensures.size

pub returns-in_err-place : goal.returns-in_err-place
returns-in_err-place c = let e : c.find_place.result ≡ None = c.in_err-place.was in
    let r : c.from_residual.result ≡ None = search rules in
    rw r (scratch_none 1024 (sound_is _ _ c.requires.pool_value) (omega arith) c.mark_line.ensures c.requires.need_nonzero.1 (rw e at c.find_place.ensures))

pub find_leavers-left-requires : goal.find_leavers-left-requires
find_leavers-left-requires c = let e : c.find_place.result ≡ Some c.in_ok-place.place = c.in_ok-place.was in
    let l = rw e at c.find_place.ensures in
    record { dir = (sound_is _ _ c.requires.pool_value).dir_is; limit_bound = omega (arith, l.few, c.requires.need_nonzero.1) }

pub returns : goal.returns
returns c = let e : c.find_place.result ≡ Some c.in_ok-place.place = c.in_ok-place.was in
    chosen_scratch 1024 (sound_is _ _ c.requires.pool_value) (omega arith) c.mark_line.ensures c.requires.need_nonzero.1 (rw e at c.find_place.ensures) c.find_leavers-left.ensures
