use Rattle.std.proofs.Common.{rules}
use Rattle.rules.specs.Checks.{check_initial}
use Rattle.checks.proofs.of_initial.Goals as goal

pub returns-in-Some : goal.returns-in-Some
unfolding check_initial
returns-in-Some c = search rules

pub returns-in-None : goal.returns-in-None
unfolding check_initial
returns-in-None c = search rules
