-- `memory::look_up` meets its contract. The invariant: the entries passed are not under the key.
use mathlib.Core.Path.{sym, ◌∙◌}
use Rattle.laws.specs.LookUpLaws.{seek_none, seek_more, seek_live, seek_dead, seek_end}
use Rattle.laws.specs.Buffers.{given_sound, entry_inside}
use native.Mathlib.Omega.{arith}
use Rattle.memory.proofs.look_up.Goals as goal

pub count-i-end-requires : goal.count-i-end-requires
count-i-end-requires c = (given_sound _ _ c.requires).dir_is

pub loop-i-init : goal.loop-i-init
loop-i-init c = seek_none

pub record_at-e-requires : goal.record_at-e-requires
record_at-e-requires c = record { dir = (given_sound _ _ c.requires).dir_is; i_in_bounds = omega arith }

pub key_is-requires : goal.key_is-requires
key_is-requires c = omega (arith, entry_inside _ _ c.requires _ (omega arith) _ c.record_at-e.ensures)

pub returns-then-is_dead : goal.returns-then-is_dead
returns-then-is_dead c = seek_dead _ c.record_at-e.ensures (omega arith) c.loop-i.invariant (sym c.key_is.ensures ∙ c.if-key_is.true) (sym c.is_dead.ensures ∙ c.if-is_dead.true)

pub returns-then-key_is : goal.returns-then-key_is
returns-then-key_is c = seek_live _ c.record_at-e.ensures (omega arith) c.loop-i.invariant (sym c.key_is.ensures ∙ c.if-key_is.true) (sym c.is_dead.ensures ∙ c.if-is_dead.false)

pub loop-i-preserved : goal.loop-i-preserved
loop-i-preserved c = seek_more _ c.record_at-e.ensures (omega arith) c.loop-i.invariant (sym c.key_is.ensures ∙ c.if-key_is.false)

pub returns : goal.returns
returns c = seek_end c.loop-i.invariant (omega arith)
