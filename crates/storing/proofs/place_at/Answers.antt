-- `storing::place_at` meets its contract.
use Rattle.rules.specs.Calls.{entry_for}
use Rattle.laws.specs.Buffers.{given_sound}
use Rattle.storing.specs.PlacingLaws.{record_left, bytes_inside, placed_holds}
use native.Mathlib.Omega.{arith}
use Rattle.storing.proofs.place_at.Goals as goal

pub overflow_mul-at : goal.overflow_mul-at
overflow_mul-at c = omega (arith, bytes_inside _ _ c.requires.pool_value _ _ c.requires.storable.item c.requires.fits)

pub copy_in-requires : goal.copy_in-requires
copy_in-requires c = omega (arith, bytes_inside _ _ c.requires.pool_value _ _ c.requires.storable.item c.requires.fits)

pub copy_in-requires-2 : goal.copy_in-requires-2
copy_in-requires-2 c = omega (arith, bytes_inside _ _ c.requires.pool_value _ _ c.requires.storable.item c.requires.fits)

pub push_front-requires : goal.push_front-requires
push_front-requires c = record { dir = (given_sound _ _ c.requires.pool_value).dir_is; dir_in_bounds = record_left _ _ c.requires.pool_value _ _ c.requires.storable.item c.requires.fits }

pub returns : goal.returns
unfolding entry_for
returns c = placed_holds _ _ c.requires.pool_value _ _ c.requires.storable.item c.requires.fits c.copy_in.ensures c.copy_in-2.ensures c.push_front.ensures

pub overflow_add-at : goal.overflow_add-at
overflow_add-at c = omega (arith, bytes_inside _ _ c.requires.pool_value _ _ c.requires.storable.item c.requires.fits)
