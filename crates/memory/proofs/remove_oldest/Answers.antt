-- `memory::remove_oldest` meets its contract. The loop's invariant: the entries from `left` on are wiped.
use native.Mathlib.Omega.{arith}
use Rattle.laws.specs.Buffers.{given_sound, oldest_none}
use Rattle.memory.specs.Oldest.{wiping_none, wiping_inside, wiping_more, wiping_done}
use Rattle.memory.proofs.remove_oldest.Goals as goal

pub returns-then-n-eq0 : goal.returns-then-n-eq0
returns-then-n-eq0 c = oldest_none _ _ _ c.if-n-eq0.true (given_sound _ _ c.requires.pool_value).dir_is

pub count-all-requires : goal.count-all-requires
count-all-requires c = (given_sound _ _ c.requires.pool_value).dir_is

pub loop-last-init : goal.loop-last-init
loop-last-init c = (omega arith, wiping_none _ _ c.count-all.ensures)

pub record_at-requires : goal.record_at-requires
record_at-requires c = record { dir = (given_sound _ _ c.requires.pool_value).dir_is; i_in_bounds = omega (arith, c.loop-last.invariant.1.within) }

pub wipe-requires : goal.wipe-requires
wipe-requires c = wiping_inside _ _ c.loop-last.invariant.1 c.requires.pool_value (omega arith) _ c.record_at.ensures

pub loop-last-preserved : goal.loop-last-preserved
loop-last-preserved c = (omega arith, wiping_more _ _ c.loop-last.invariant.1 (omega arith) _ c.record_at.ensures c.wipe.ensures)

pub truncate-requires : goal.truncate-requires
truncate-requires c = record { dir = (given_sound _ _ c.requires.pool_value).dir_is; k_in_bounds = omega (arith, c.count-all.ensures) }

pub returns : goal.returns
returns c = wiping_done _ _ c.loop-last.invariant.1 _ c.requires.n_in_bounds c.count-all.ensures (omega arith) c.truncate.ensures
