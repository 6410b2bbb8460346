-- `memory::remove` meets its contract.
use mathlib.Core.Path.{ap, ◌∙◌}
use native.Mathlib.Omega.{arith}
use Rattle.rules.specs.declared.Entry.{Entry}
use Rattle.rules.specs.Layout.{memory_of, wiped, remove}
use Rattle.laws.specs.Buffers.{given_sound, entry_cells}
use Rattle.memory.proofs.remove.Goals as goal

pub record_at-requires : goal.record_at-requires
record_at-requires c = record { dir = (given_sound _ _ c.requires.pool_value).dir_is; i_in_bounds = omega (arith, c.requires.i_in_bounds) }

pub wipe-requires : goal.wipe-requires
wipe-requires c = entry_cells _ _ c.requires.pool_value _ c.requires.i_in_bounds _ c.record_at.ensures

pub remove_at-requires : goal.remove_at-requires
remove_at-requires c = record { dir = (given_sound _ _ c.requires.pool_value).dir_is; i_in_bounds = omega (arith, c.requires.i_in_bounds) }

pub returns : goal.returns
unfolding memory_of remove
returns c = record {
  words = c.remove_at.ensures;
  bytes = c.wipe.ensures ∙ ap (λ (e : Entry). wiped e c.args.pool.now) c.record_at.ensures;
}
