-- `Lent::set` meets its contract.
use Rattle.std.proofs.Common.{sym, ◌∙◌, rules}
use Rattle.laws.specs.ChecksLaws.{store_behind}
use Rattle.std.proofs.lemmas.Result.{err_from_is_err_and}
use Rattle.replay_calls.specs.Front.{ready_used, dir_length}
use Rattle.replay_calls.specs.Running.{set_early, set_refused, set_done}
use Rattle.replay_calls.proofs.Lent.set.Goals as goal

pub returns-in_err-check_in_use-clause-runs : goal.returns-in_err-check_in_use-clause-runs
returns-in_err-check_in_use-clause-runs c =
    let p = err_from_is_err_and c.from_residual.result c.from_residual.ensures.1 in
    rw (p.1, p.2) (set_early _ _ _ _ _ _ _ _ _ _ (search rules) c.args.self.now.ready c.in_err-check_in_use.ensures)

pub returns-in_err-store_arguments-clause-runs : goal.returns-in_err-store_arguments-clause-runs
returns-in_err-store_arguments-clause-runs c =
    let p = err_from_is_err_and c.from_residual-in_err-store_arguments.result c.from_residual-in_err-store_arguments.ensures.1 in
    rw (p.1, p.2) (set_refused _ _ _ (ready_used c.args.self.now.ready c.in_ok-check_in_use.ensures) _ _ _ _ _ _ _ (search rules) c.in_err-store_arguments.ensures)

pub slice_bounds-store_in-end : goal.slice_bounds-store_in-end
slice_bounds-store_in-end c = (ready_used c.args.self.now.ready c.in_ok-check_in_use.ensures).dir_fits

pub slice_bounds-store_in-end-2 : goal.slice_bounds-store_in-end-2
slice_bounds-store_in-end-2 c = sym (dir_length (ready_used c.args.self.now.ready c.in_ok-check_in_use.ensures))

pub store_in-requires : goal.store_in-requires
store_in-requires c = sym (store_behind _ _ (ready_used c.args.self.now.ready c.in_ok-check_in_use.ensures).front_sound _ _ _ _ _ ∙ sym c.in_ok-store_arguments.ensures)

pub invariant_of-self : goal.invariant_of-self
invariant_of-self c = record { ready = (set_done _ _ _ (ready_used c.args.self.now.ready c.in_ok-check_in_use.ensures) _ _ _ _ _ _ _ (search rules) c.in_ok-store_arguments.ensures c.store_in.ensures).ready }

pub returns-clause-runs : goal.returns-clause-runs
returns-clause-runs c = set_done _ _ _ (ready_used c.args.self.now.ready c.in_ok-check_in_use.ensures) _ _ _ _ _ _ _ (search rules) c.in_ok-store_arguments.ensures c.store_in.ensures
