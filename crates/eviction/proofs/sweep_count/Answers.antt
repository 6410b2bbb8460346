-- `eviction::sweep_count` meets its contract.
use Rattle.std.proofs.Common.{ap, not}
use native.Mathlib.Omega.{arith}
use Rattle.laws.specs.SoundnessLaws.{sound_is}
use Rattle.eviction.specs.Sweeping.{sweep_empty, sweep_live, sweep_one, sweep_second, sweep_both}
use Rattle.eviction.proofs.sweep_count.Goals as goal

pub count-n-requires : goal.count-n-requires
count-n-requires c = (sound_is _ _ c.requires).dir_is

pub returns-then-n-lt1 : goal.returns-then-n-lt1
returns-then-n-lt1 c = sweep_empty _ _ _ c.count-n.ensures c.if-n-lt1.true

pub record_at-requires : goal.record_at-requires
record_at-requires c = record { dir = (sound_is _ _ c.requires).dir_is; i_in_bounds = omega (arith, c.count-n.ensures) }

pub returns-then-not-is_dead : goal.returns-then-not-is_dead
returns-then-not-is_dead c = sweep_live _ _ _ c.count-n.ensures c.if-n-lt1.false c.record_at.ensures c.is_dead.ensures (ap not c.if-not-is_dead.true)

pub returns-then-n-lt2 : goal.returns-then-n-lt2
returns-then-n-lt2 c = sweep_one _ _ _ c.count-n.ensures c.if-n-lt1.false c.record_at.ensures c.is_dead.ensures (ap not c.if-not-is_dead.false) c.if-n-lt2.true

pub record_at-requires-2 : goal.record_at-requires-2
record_at-requires-2 c = record { dir = (sound_is _ _ c.requires).dir_is; i_in_bounds = omega (arith, c.count-n.ensures) }

pub returns-then-not-is_dead-2 : goal.returns-then-not-is_dead-2
returns-then-not-is_dead-2 c = sweep_second _ _ _ c.count-n.ensures c.if-n-lt1.false c.record_at.ensures c.is_dead.ensures (ap not c.if-not-is_dead.false) c.if-n-lt2.false c.record_at-2.ensures c.is_dead-2.ensures (ap not c.if-not-is_dead-2.true)

pub returns : goal.returns
returns c = sweep_both _ _ _ c.count-n.ensures c.if-n-lt1.false c.record_at.ensures c.is_dead.ensures (ap not c.if-not-is_dead.false) c.if-n-lt2.false c.record_at-2.ensures c.is_dead-2.ensures (ap not c.if-not-is_dead-2.false)
