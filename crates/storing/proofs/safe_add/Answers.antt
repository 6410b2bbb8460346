-- `storing::safe_add` meets its contract. The check finds this alone; it stands so that a wrong program is refused by what it proves.
use Rattle.storing.proofs.safe_add.Goals as goal

pub returns : goal.returns
returns c = record { result = c.store.ensures.result; loss = c.store.ensures.loss }
