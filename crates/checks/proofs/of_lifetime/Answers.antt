use Rattle.std.proofs.Common.{rules}
use Rattle.rules.specs.Checks.{check_lifetime, refuse}
use Rattle.checks.proofs.of_lifetime.Goals as goal

pub returns-then-is_too_late : goal.returns-then-is_too_late
unfolding check_lifetime refuse
returns-then-is_too_late c = search rules

pub returns : goal.returns
unfolding check_lifetime refuse
returns c = search rules
