-- `listing::get_keys_flat_in` meets its contract.
use Rattle.listing.proofs.get_keys_flat_in.Goals as goal

pub returns : goal.returns
returns c = rw c.plain.ensures c.list_rows-n.ensures
