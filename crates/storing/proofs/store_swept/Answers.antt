-- `storing::store_swept` meets its contract.
use Rattle.laws.specs.Buffers.{given_sound}
use Rattle.storing.specs.StoreLaws.{found_refused, found_passed}
use Rattle.storing.proofs.store_swept.Goals as goal

pub look_up-found-requires : goal.look_up-found-requires
look_up-found-requires c = c.requires.pool_value

pub returns-in-Err : goal.returns-in-Err
returns-in-Err c = found_refused _ _ _ _ _ _ _ _ _ c.look_up-found.ensures c.admits.ensures _ _ (given_sound _ _ c.requires.pool_value).dir_is c.in-Err.is c.plain.ensures

pub store_item-requires : goal.store_item-requires
store_item-requires c = record { pool_value = c.requires.pool_value; storable = c.requires.storable; found_value = c.look_up-found.ensures }

pub returns : goal.returns
returns c = found_passed _ _ _ _ _ _ _ _ _ c.look_up-found.ensures c.admits.ensures c.requires.storable.item c.in_default.is c.requires.most_value.0 c.requires.most_value.1 c.store_item.ensures
