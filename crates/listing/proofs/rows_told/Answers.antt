-- `listing::rows_told` meets its contract.
use mathlib.Core.Path.{sym, ap}
use Rattle.listing.specs.Told.{rows_told}
use Rattle.listing.proofs.rows_told.Goals as goal

pub returns-in-Ok : goal.returns-in-Ok
unfolding rows_told
returns-in-Ok c = sym (ap rows_told c.in-Ok.is)

pub returns-in-Err : goal.returns-in-Err
unfolding rows_told
returns-in-Err c = sym (ap rows_told c.in-Err.is)
