-- `distinct::key_at` meets its contract.
use Rattle.std.proofs.Common.{arith}
use Rattle.laws.specs.Buffers.{given_sound, entry_inside}
use Rattle.distinct.specs.Chains.{key_part_is}
use Rattle.distinct.proofs.key_at.Goals as goal

pub record_at-e-requires : goal.record_at-e-requires
record_at-e-requires c = record { dir = (given_sound _ _ c.requires.pool_value).dir_is; i_in_bounds = c.requires.i_in_bounds }

pub overflow_mul-at : goal.overflow_mul-at
overflow_mul-at c = omega (arith, entry_inside _ _ c.requires.pool_value _ c.requires.i_in_bounds _ c.record_at-e.ensures)

pub overflow_add-result : goal.overflow_add-result
overflow_add-result c = omega (arith, entry_inside _ _ c.requires.pool_value _ c.requires.i_in_bounds _ c.record_at-e.ensures)

pub slice_bounds-result-end : goal.slice_bounds-result-end
slice_bounds-result-end c = omega (arith, entry_inside _ _ c.requires.pool_value _ c.requires.i_in_bounds _ c.record_at-e.ensures)

pub returns : goal.returns
returns c = key_part_is _ _ _ _ c.record_at-e.ensures
