-- `storing::safe_set` meets its contract. The check finds this alone; it stands so that a wrong program is refused by what it proves.
use Rattle.storing.proofs.safe_set.Goals as goal

pub returns : goal.returns
returns c = record { result = c.store.ensures.result; loss = c.store.ensures.loss }
