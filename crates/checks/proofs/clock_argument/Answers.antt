use Rattle.std.proofs.Common.{rules}
use Rattle.rules.specs.Checks.{check_clock, refuse}
use Rattle.checks.proofs.clock_argument.Goals as goal

pub returns-then-clock-eq0 : goal.returns-then-clock-eq0
unfolding check_clock refuse
returns-then-clock-eq0 c = search rules

pub returns : goal.returns
unfolding check_clock refuse
returns c = search rules
