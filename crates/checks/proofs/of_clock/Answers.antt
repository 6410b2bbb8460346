use Rattle.std.proofs.Common.{rules}
use Rattle.rules.specs.Checks.{clock_checks, ◌then◌}
use Rattle.checks.proofs.of_clock.Goals as goal

pub returns-in_err-memory_argument : goal.returns-in_err-memory_argument
unfolding clock_checks ◌then◌
returns-in_err-memory_argument c = search rules

pub returns : goal.returns
unfolding clock_checks ◌then◌
returns c = search rules
