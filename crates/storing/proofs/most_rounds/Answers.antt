-- `storing::most_rounds` meets its contract.
use Rattle.std.proofs.Common.{rules}
use Rattle.rules.specs.Calls.{most_rounds}
use Rattle.storing.proofs.most_rounds.Goals as goal

pub returns-in-Set : goal.returns-in-Set
unfolding most_rounds
returns-in-Set c = search rules

pub returns-in-SafeSet : goal.returns-in-SafeSet
unfolding most_rounds
returns-in-SafeSet c = search rules
