use Rattle.std.proofs.Common.{rules}
use Rattle.rules.specs.Checks.{check_sound, refuse}
use Rattle.checks.proofs.memory_argument.Goals as goal

pub returns-then-not-is_sound : goal.returns-then-not-is_sound
unfolding check_sound refuse
returns-then-not-is_sound c = search rules

pub returns : goal.returns
unfolding check_sound refuse
returns c = search rules
