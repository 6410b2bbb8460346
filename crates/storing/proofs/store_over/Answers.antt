-- `storing::store_over` meets its contract.
use native.Mathlib.Omega.{arith}
use mathlib.Core.Path.{sym, ap, ◌∙◌}
use Rattle.rules.specs.Calls.{entry_for}
use Rattle.laws.specs.Buffers.{given_sound, step_sound, removed_sound}
use Rattle.storing.specs.StoreLaws.{over_anew, over_same}
use Rattle.storing.proofs.store_over.Goals as goal

pub record_at-old-requires : goal.record_at-old-requires
record_at-old-requires c = record { dir = (given_sound _ _ c.requires.pool_value).dir_is; i_in_bounds = c.requires.i_in_bounds }

pub remove-requires : goal.remove-requires
remove-requires c = record { pool_value = c.requires.pool_value; i_in_bounds = omega (arith, c.requires.i_in_bounds) }

pub place_anew-requires : goal.place_anew-requires
place_anew-requires c = record { pool_value = step_sound _ _ c.requires.pool_value (removed_sound _ _ c.requires.pool_value _) c.remove.ensures; storable = c.requires.storable }

pub returns-then-old-bytes : goal.returns-then-old-bytes
returns-then-old-bytes c = over_anew _ _ _ _ _ _ _ _ _ c.record_at-old.ensures c.requires.pool_value c.if-old-bytes.true c.remove.ensures c.place_anew.ensures

pub rewrite_at-requires : goal.rewrite_at-requires
rewrite_at-requires c = record { pool_value = c.requires.pool_value; i_in_bounds = c.requires.i_in_bounds; value_len = sym c.if-old-bytes.false ∙ ap (λ e. e.vlen) c.record_at-old.ensures }

pub returns : goal.returns
unfolding entry_for
returns c = over_same _ _ _ _ _ _ _ _ _ c.record_at-old.ensures c.if-old-bytes.false c.rewrite_at.ensures c.plain.ensures
