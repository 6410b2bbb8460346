-- `storing::admits` meets its contract.
use Rattle.std.proofs.Common.{rules}
use Rattle.rules.specs.Calls.{admits}
use Rattle.storing.proofs.admits.Goals as goal

pub returns-in-Add-Live : goal.returns-in-Add-Live
unfolding admits
returns-in-Add-Live c = search rules

pub returns-in-Replace-Dead : goal.returns-in-Replace-Dead
unfolding admits
returns-in-Replace-Dead c = search rules

pub returns-in_default : goal.returns-in_default
unfolding admits
returns-in_default c = search rules

pub returns-in_default-2 : goal.returns-in_default-2
unfolding admits
returns-in_default-2 c = search rules

pub returns-in_default-3 : goal.returns-in_default-3
unfolding admits
returns-in_default-3 c = search rules
