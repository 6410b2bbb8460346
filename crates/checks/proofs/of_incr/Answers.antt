use Rattle.std.proofs.Common.{rules}
use Rattle.rules.specs.Checks.{incr_checks, ◌then◌}
use Rattle.checks.proofs.of_incr.Goals as goal

pub returns-in_err-of_key : goal.returns-in_err-of_key
unfolding incr_checks ◌then◌
returns-in_err-of_key c = search rules

pub returns : goal.returns
unfolding incr_checks ◌then◌
returns c = search rules
