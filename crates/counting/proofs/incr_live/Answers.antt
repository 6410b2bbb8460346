-- `counting::incr_live` meets its contract.
use mathlib.Core.Path.{ap, sym, ◌∙◌}
use lib.ListN.{length}
use Rattle.counting.proofs.CountingLaws.{add_told, live_not, number_eight, live_out, live_sum}
use mir.Syntax.{w64}
use mir.Facts.{to_z-of_z}
use Rattle.laws.specs.NumberLaws.{length_number}
use Rattle.laws.specs.Buffers.{given_sound, entry_inside}
use Rattle.values.specs.Bits.{held_is}
use native.Mathlib.Omega.{arith}
use Rattle.counting.proofs.incr_live.Goals as goal

pub record_at-e-requires : goal.record_at-e-requires
record_at-e-requires c = record { dir = (given_sound _ _ c.requires.pool_value).dir_is; i_in_bounds = c.requires.i_in_bounds }

pub returns-then-e-ne3 : goal.returns-then-e-ne3
returns-then-e-ne3 c = live_not _ _ _ _ _ _ c.record_at-e.ensures _ (given_sound _ _ c.requires.pool_value).dir_is c.if-e-ne3.true c.plain.ensures

pub number_at-requires : goal.number_at-requires
number_at-requires c = omega (arith, entry_inside _ _ c.requires.pool_value _ c.requires.i_in_bounds _ c.record_at-e.ensures, number_eight _ _ _ _ c.record_at-e.ensures c.requires.pool_value c.requires.i_in_bounds c.if-e-ne3.false)

pub returns-in_default : goal.returns-in_default
returns-in_default c = live_out _ _ _ _ _ _ c.record_at-e.ensures _ (given_sound _ _ c.requires.pool_value).dir_is c.if-e-ne3.false (add_told (held_is c.number_at.type_inv c.number_at.ensures) (to_z-of_z {w = w64} c.ranges.step) c.add.ensures c.in_default.is) c.plain-in_default.ensures

pub rewrite_at-requires : goal.rewrite_at-requires
rewrite_at-requires c = record { pool_value = c.requires.pool_value; i_in_bounds = c.requires.i_in_bounds; value_len = ap length c.number_bytes-bytes.ensures ∙ length_number _ ∙ sym (number_eight _ _ _ _ c.record_at-e.ensures c.requires.pool_value c.requires.i_in_bounds c.if-e-ne3.false) ∙ ap (λ e. e.vlen) c.record_at-e.ensures }

pub returns : goal.returns
returns c = live_sum _ _ _ _ _ _ c.record_at-e.ensures _ _ c.if-e-ne3.false (add_told (held_is c.number_at.type_inv c.number_at.ensures) (to_z-of_z {w = w64} c.ranges.step) c.add.ensures c.in-Some.is) c.number_bytes-bytes.ensures c.rewrite_at.ensures c.plain-2.ensures
