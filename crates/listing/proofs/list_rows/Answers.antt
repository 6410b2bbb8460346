-- `listing::list_rows` meets its contract.
use mathlib.Core.Path.{refl}
use Rattle.listing.specs.Counts.{most_fits}
use Rattle.rules.specs.Layout.{memory_of}
use Rattle.laws.specs.Buffers.{given_sound}
use Rattle.listing.specs.Listings.{flat_listed}
use native.Mathlib.Omega.{arith}
use Rattle.listing.proofs.list_rows.Goals as goal

pub write_rows-requires : goal.write_rows-requires
write_rows-requires c = record { dir = (given_sound _ _ c.requires).dir_is; most_in_bounds = omega (arith, most_fits _ _ _ c.up_to-most.ensures) }

pub returns : goal.returns
unfolding memory_of
returns c = flat_listed _ (memory_of _ _) c.up_to-most.ensures c.write_rows.ensures refl
