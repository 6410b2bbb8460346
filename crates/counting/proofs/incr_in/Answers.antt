-- `counting::incr_in` meets its contract.
use Rattle.counting.proofs.CountingLaws.{step_held_found, incr_sound, countable}
use Rattle.rules.specs.Calls.{incr_work, incr_found}
use Rattle.rules.specs.LookUp.{look_up}
use Rattle.eviction.specs.Swept.{still_sound, behind_sweep}
use Rattle.storing.specs.StoreCallLaws.{swept_two}
use Rattle.counting.proofs.incr_in.Goals as goal

pub sweep-removed-requires : goal.sweep-removed-requires
sweep-removed-requires c = incr_sound _ _ _ _ _ c.requires

pub incr_swept-requires : goal.incr_swept-requires
incr_swept-requires c = record { pool_value = still_sound _ _ _ (incr_sound _ _ _ _ _ c.requires) c.sweep-removed.ensures; countable = countable _ _ _ _ _ c.requires _ (swept_two _ _ _ c.sweep-removed.ensures.count) }

pub returns : goal.returns
unfolding incr_work
returns c = behind_sweep _ _ _ (incr_sound _ _ _ _ _ c.requires) c.sweep-removed.ensures (λ removed m. incr_found c.args.clock c.args.key.now c.args.step c.args.initial removed m (look_up c.args.clock c.args.key.now m)) (step_held_found _ _ _ _ _ _ _ c.ranges.step c.incr_swept.ensures)
