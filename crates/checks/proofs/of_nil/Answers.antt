use Rattle.std.proofs.Common.{rules}
use Rattle.rules.specs.Checks.{check_nil, takes_nil, refuse}
use Rattle.checks.proofs.of_nil.Goals as goal

pub returns-then-kind-ne0 : goal.returns-then-kind-ne0
unfolding check_nil takes_nil refuse
returns-then-kind-ne0 c = search rules

pub returns-in-Set : goal.returns-in-Set
unfolding check_nil takes_nil refuse
returns-in-Set c = search rules

pub returns-in-Add : goal.returns-in-Add
unfolding check_nil takes_nil refuse
returns-in-Add c = search rules
