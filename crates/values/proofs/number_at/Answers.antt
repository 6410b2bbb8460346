-- `values::number_at` meets its contract.
use Rattle.std.proofs.Common.{ap, ◌∙◌, w64, to_z}
use Rattle.rules.specs.Layout.{number_at}
use Rattle.values.specs.Bits.{held_is}
use Rattle.values.proofs.number_at.Goals as goal

pub returns : goal.returns
unfolding number_at
returns c = held_is c.cast_signed.type_inv (c.cast_signed.ensures ∙ ap (to_z w64) c.load8.ensures)
