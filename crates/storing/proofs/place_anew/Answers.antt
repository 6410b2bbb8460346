-- `storing::place_anew` meets its contract.
use Rattle.std.proofs.Common.{ap, arith, refl}
use Rattle.laws.specs.Buffers.{step_sound, oldest_sound}
use Rattle.eviction.specs.Choice.{gone_of}
use Rattle.storing.specs.PlacingLaws.{chosen_for, gone_within, gone_few, chosen_fits, none_does, placed_does}
use Rattle.storing.proofs.place_anew.Goals as goal

pub need-need-requires : goal.need-need-requires
need-need-requires c = c.requires.storable.item.short_key

pub choose-requires : goal.choose-requires
choose-requires c = record { pool_value = c.requires.pool_value; need_nonzero = (omega (arith, c.need-need.ensures, c.requires.storable.item.some_key), c.requires.storable.most) }

pub returns-in_default : goal.returns-in_default
returns-in_default c = none_does _ _ c.requires.pool_value _ _ _ (rw c.in_default.is at (chosen_for c.need-need.ensures c.choose.ensures)) _ _ _ c.plain.ensures

pub remove_oldest-requires : goal.remove_oldest-requires
remove_oldest-requires c = record { pool_value = c.requires.pool_value; n_in_bounds = omega (arith, ap gone_of c.in-Some.is, gone_within _ _ c.requires.pool_value _ _ _ _ c.choose.ensures) }

pub place_at-requires : goal.place_at-requires
place_at-requires c = let k = rw c.in-Some.is at (chosen_for c.need-need.ensures c.choose.ensures) in
    let h = c.remove_oldest.ensures in
    record { pool_value = step_sound _ _ c.requires.pool_value (oldest_sound _ _ c.requires.pool_value _) h; storable = c.requires.storable; fits = chosen_fits _ _ c.requires.pool_value _ _ _ _ k h _ refl }

pub overflow_add-result : goal.overflow_add-result
overflow_add-result c = omega (arith, c.requires.storable.swept, ap gone_of c.in-Some.is, gone_few _ _ c.requires.pool_value _ _ _ _ c.choose.ensures)

pub returns : goal.returns
returns c = placed_does _ _ c.requires.pool_value _ _ _ _ (rw c.in-Some.is at (chosen_for c.need-need.ensures c.choose.ensures)) c.remove_oldest.ensures _ _ _ _ refl c.place_at.ensures refl
