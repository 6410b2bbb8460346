-- `Lent::fresh` meets its contract.
use Rattle.std.proofs.Common.{inl, inr, arith, refl}
use Rattle.replay_calls.specs.Front.{state, fresh_over, fresh_made}
use Rattle.replay_calls.specs.Running.{fresh_runs}
use Rattle.replay_calls.proofs.Lent.fresh.Goals as goal

pub returns-then-self-words-clause-runs : goal.returns-then-self-words-clause-runs
returns-then-self-words-clause-runs c = fresh_runs _ _ _ _ c.args.self.now.ready c.requires.some c.requires.few (fresh_over _ (state _ _ _) (inl (omega (arith, c.if-self-words.true))) refl)

pub returns-then-self-bytes-clause-runs : goal.returns-then-self-bytes-clause-runs
returns-then-self-bytes-clause-runs c = fresh_runs _ _ _ _ c.args.self.now.ready c.requires.some c.requires.few (fresh_over _ (state _ _ _) (inr (omega (arith, c.if-self-bytes.true))) refl)

pub invariant_of-self : goal.invariant_of-self
invariant_of-self c = record { ready = (fresh_runs _ _ _ _ c.args.self.now.ready c.requires.some c.requires.few (fresh_made _ (state _ _ _) c.requires.some c.requires.few (omega (arith, c.if-self-words.false)) (omega (arith, c.if-self-bytes.false)) c.make_fresh-answer.ensures)).ready }

pub returns-clause-runs : goal.returns-clause-runs
returns-clause-runs c = fresh_runs _ _ _ _ c.args.self.now.ready c.requires.some c.requires.few (fresh_made _ (state _ _ _) c.requires.some c.requires.few (omega (arith, c.if-self-words.false)) (omega (arith, c.if-self-bytes.false)) c.make_fresh-answer.ensures)
