-- `memory::audit` meets its contract.
use Rattle.std.proofs.Common.{rules}
use Rattle.rules.specs.Soundness.{audit}
use Rattle.memory.proofs.audit.Goals as goal

pub returns-then-is_sound : goal.returns-then-is_sound
unfolding audit
returns-then-is_sound c = search rules

pub returns-else-is_sound : goal.returns-else-is_sound
unfolding audit
returns-else-is_sound c = search rules
