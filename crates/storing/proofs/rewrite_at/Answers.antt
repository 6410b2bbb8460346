-- `storing::rewrite_at` meets its contract.
use Rattle.laws.specs.Buffers.{given_sound, entry_inside}
use Rattle.storing.specs.Rewriting.{rewritten_holds}
use mathlib.Core.Path.{ap}
use native.Mathlib.Omega.{arith}
use Rattle.storing.proofs.rewrite_at.Goals as goal

pub record_at-old-requires : goal.record_at-old-requires
record_at-old-requires c = record { dir = (given_sound _ _ c.requires.pool_value).dir_is; i_in_bounds = c.requires.i_in_bounds }

pub overflow_mul-at : goal.overflow_mul-at
overflow_mul-at c = omega (arith, entry_inside _ _ c.requires.pool_value _ c.requires.i_in_bounds _ c.record_at-old.ensures)

pub overflow_add-at : goal.overflow_add-at
overflow_add-at c = omega (arith, entry_inside _ _ c.requires.pool_value _ c.requires.i_in_bounds _ c.record_at-old.ensures)

pub copy_in-requires : goal.copy_in-requires
copy_in-requires c = omega (arith, entry_inside _ _ c.requires.pool_value _ c.requires.i_in_bounds _ c.record_at-old.ensures, c.requires.value_len, ap (λ e. e.vlen) c.record_at-old.ensures)

pub put_front-requires : goal.put_front-requires
put_front-requires c = record { dir = (given_sound _ _ c.requires.pool_value).dir_is; i_in_bounds = c.requires.i_in_bounds }

pub returns : goal.returns
returns c = rewritten_holds _ _ _ _ _ _ c.record_at-old.ensures c.copy_in.ensures c.put_front.ensures
