use Rattle.std.proofs.Common.{rules}
use Rattle.rules.specs.Checks.{expire_checks, ◌then◌}
use Rattle.checks.proofs.of_expire.Goals as goal

pub returns-in_err-of_key : goal.returns-in_err-of_key
unfolding expire_checks ◌then◌
returns-in_err-of_key c = search rules

pub returns : goal.returns
unfolding expire_checks ◌then◌
returns c = search rules
