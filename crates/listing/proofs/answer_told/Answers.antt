-- `listing::answer_told` meets its contract.
use mathlib.Core.Path.{sym, ap, ◌∙◌}
use Rattle.listing.specs.Told.{answer_told}
use Rattle.listing.proofs.answer_told.Goals as goal

pub returns-in-Ok : goal.returns-in-Ok
unfolding answer_told
returns-in-Ok c = c.plain.ensures ∙ sym (ap answer_told c.in-Ok.is)

pub returns-in-Err : goal.returns-in-Err
unfolding answer_told
returns-in-Err c = c.plain-in-Err.ensures ∙ sym (ap answer_told c.in-Err.is)
