-- `Lent::try_call` meets its contract.
use Rattle.std.proofs.Common.{rules}
use Rattle.replay_calls.specs.Running.{set_told, unreadable_runs}
use Rattle.replay_calls.proofs.Lent.try_call.Goals as goal

pub returns-in_default-clause-runs : goal.returns-in_default-clause-runs
returns-in_default-clause-runs c = rw c.in_default.is (unreadable_runs _ _ _ c.args.self.now.ready)

pub returns-in-Fresh-clause-runs : goal.returns-in-Fresh-clause-runs
returns-in-Fresh-clause-runs c = rw (c.in-Some.is, c.in-Fresh.is) c.fresh.ensures.runs

pub returns-in-Set-clause-runs : goal.returns-in-Set-clause-runs
returns-in-Set-clause-runs c = rw (c.in-Some.is, c.in-Set.is) (set_told (search rules) c.set.ensures.runs)

pub returns-in-Get-clause-runs : goal.returns-in-Get-clause-runs
returns-in-Get-clause-runs c = rw (c.in-Some.is, c.in-Get.is) c.get.ensures.runs

pub returns-in-Delete-clause-runs : goal.returns-in-Delete-clause-runs
returns-in-Delete-clause-runs c = rw (c.in-Some.is, c.in-Delete.is) c.delete.ensures.runs
