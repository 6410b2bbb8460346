-- What an order stores.
use Rattle.std.specs.Prelude.{◌≤◌}
use Rattle.rules.specs.Calls.{Item}
use Rattle.laws.specs.Bytes.{FineItem}
use Rattle.storing.specs.declared.Order.{Order}

-- the item of an order
abbrev pub item_from : Order → Item
item_from o = record { expiry = o.expiry; kind = o.kind; flags = o.flags; key = o.key.now; value = o.bytes.now }

-- it can be stored: key, value, kind and flags are those of an entry of a sound memory; and no more rounds may run, nor has the sweep removed more, than 01 has it
pub record Storable (o : Order) : Type 0 where
  pub item : FineItem (item_from o)
  pub most : o.most ≤ 30
  pub swept : o.removed ≤ 2
