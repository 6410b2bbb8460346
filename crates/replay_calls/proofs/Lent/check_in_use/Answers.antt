-- `Lent::check_in_use` meets its contract.
use Rattle.std.proofs.Common.{ap, sym, eq-eqb, ne_eqb}
use Rattle.rules.specs.declared.Outcome.TheVariants.{NotSound}
use Rattle.rules.specs.Checks.{refuse}
use Rattle.replay_calls.proofs.Lent.check_in_use.Goals as goal

pub returns-then-self-eq0 : goal.returns-then-self-eq0
unfolding refuse
returns-then-self-eq0 c = sym (ap (refuse NotSound) (eq-eqb _ 0 c.if-self-eq0.true))

pub returns : goal.returns
unfolding refuse
returns c = sym (ap (refuse NotSound) (ne_eqb _ 0 c.if-self-eq0.false))
