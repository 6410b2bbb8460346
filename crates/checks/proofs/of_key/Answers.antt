use Rattle.std.proofs.Common.{rules}
use Rattle.rules.specs.Checks.{key_checks, clock_checks, ◌then◌}
use Rattle.checks.proofs.of_key.Goals as goal

pub returns-in_err-memory_argument : goal.returns-in_err-memory_argument
unfolding key_checks clock_checks ◌then◌
returns-in_err-memory_argument c = search rules

pub returns : goal.returns
unfolding key_checks clock_checks ◌then◌
returns c = search rules
