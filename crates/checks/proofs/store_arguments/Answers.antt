use Rattle.std.proofs.Common.{rules}
use Rattle.rules.specs.Checks.{◌then◌}
use Rattle.checks.proofs.store_arguments.Goals as goal

pub returns-in_err-key_arguments : goal.returns-in_err-key_arguments
unfolding ◌then◌
returns-in_err-key_arguments c = search rules

pub returns-in_err-of_kind : goal.returns-in_err-of_kind
unfolding ◌then◌
returns-in_err-of_kind c = search rules

pub returns-in_err-of_nil : goal.returns-in_err-of_nil
unfolding ◌then◌
returns-in_err-of_nil c = search rules

pub returns : goal.returns
unfolding ◌then◌
returns c = search rules
