-- A store by the value that it is given.
use Rattle.std.specs.Prelude.{List, ℕ}
use Rattle.rules.specs.Calls.{Item, item_of}
use Rattle.storing.specs.declared.Value.{Value}

-- the item that it asks for
abbrev pub item_given : ℕ → List ℕ → Value → Item
item_given clock key v = item_of clock key v.kind v.number v.text.now v.lifetime v.flags
