-- `Lent::delete` meets its contract.
use Rattle.std.proofs.Common.{sym}
use Rattle.std.proofs.lemmas.Result.{err_from_is_err_and}
use Rattle.replay_calls.specs.Front.{ready_used, dir_length}
use Rattle.replay_calls.specs.Running.{delete_early, delete_refused, delete_done}
use Rattle.replay_calls.proofs.Lent.delete.Goals as goal

pub returns-in_err-check_in_use-clause-runs : goal.returns-in_err-check_in_use-clause-runs
returns-in_err-check_in_use-clause-runs c =
    let p = err_from_is_err_and c.from_residual.result c.from_residual.ensures.1 in
    rw (p.1, p.2) (delete_early _ _ _ _ _ c.args.self.now.ready c.in_err-check_in_use.ensures)

pub returns-in_err-key_arguments-clause-runs : goal.returns-in_err-key_arguments-clause-runs
returns-in_err-key_arguments-clause-runs c =
    let p = err_from_is_err_and c.from_residual-in_err-key_arguments.result c.from_residual-in_err-key_arguments.ensures.1 in
    rw (p.1, p.2) (delete_refused _ _ _ (ready_used c.args.self.now.ready c.in_ok-check_in_use.ensures) _ _ c.in_err-key_arguments.ensures)

pub slice_bounds-delete_in-end : goal.slice_bounds-delete_in-end
slice_bounds-delete_in-end c = (ready_used c.args.self.now.ready c.in_ok-check_in_use.ensures).dir_fits

pub slice_bounds-delete_in-end-2 : goal.slice_bounds-delete_in-end-2
slice_bounds-delete_in-end-2 c = sym (dir_length (ready_used c.args.self.now.ready c.in_ok-check_in_use.ensures))

pub delete_in-requires : goal.delete_in-requires
delete_in-requires c = (ready_used c.args.self.now.ready c.in_ok-check_in_use.ensures).front_sound

pub invariant_of-self : goal.invariant_of-self
invariant_of-self c = record { ready = (delete_done _ _ _ (ready_used c.args.self.now.ready c.in_ok-check_in_use.ensures) _ _ c.in_ok-key_arguments.ensures c.delete_in.ensures).ready }

pub returns-clause-runs : goal.returns-clause-runs
returns-clause-runs c = delete_done _ _ _ (ready_used c.args.self.now.ready c.in_ok-check_in_use.ensures) _ _ c.in_ok-key_arguments.ensures c.delete_in.ensures
