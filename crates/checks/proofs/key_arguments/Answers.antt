use Rattle.std.proofs.Common.{rules}
use Rattle.rules.specs.Checks.{◌then◌, check_key, refuse}
use Rattle.checks.proofs.key_arguments.Goals as goal

pub returns-in_err-clock_argument : goal.returns-in_err-clock_argument
unfolding ◌then◌
returns-in_err-clock_argument c = search rules

pub returns-then-is_empty : goal.returns-then-is_empty
unfolding ◌then◌ check_key refuse
returns-then-is_empty c = search rules

pub returns-then-key-gt65535 : goal.returns-then-key-gt65535
unfolding ◌then◌ check_key refuse
returns-then-key-gt65535 c = search rules

pub returns : goal.returns
unfolding ◌then◌ check_key refuse
returns c = search rules
