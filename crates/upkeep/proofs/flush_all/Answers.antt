-- `upkeep::flush_all` meets its contract.
use Rattle.std.proofs.Common.{not}
use mathlib.Core.Path.{sym, ◌∙◌, ap}
use Rattle.rules.specs.Calls.{flush_all_work, flush_all_call}
use Rattle.laws.specs.ChecksLaws.{sound_not, sound_yes}
use Rattle.laws.specs.CallsLaws.{gave_refused, gave_passed}
use Rattle.upkeep.proofs.flush_all.Goals as goal

pub returns-then-not-is_sound : goal.returns-then-not-is_sound
unfolding flush_all_call
returns-then-not-is_sound c = gave_refused _ flush_all_work _ _ _ _ (sym (sound_not _ _ _ c.is_sound.ensures (ap not c.if-not-is_sound.true))) c.plain.ensures

pub flush_all_in-requires : goal.flush_all_in-requires
flush_all_in-requires c = sym c.is_sound.ensures ∙ c.if-not-is_sound.false

pub returns : goal.returns
unfolding flush_all_call
returns c = gave_passed _ flush_all_work _ _ _ _ _ (sym (sound_yes _ _ _ c.is_sound.ensures (ap not c.if-not-is_sound.false))) c.flush_all_in.ensures
