-- `values::key_is` meets its contract.
use Rattle.std.proofs.Common.{List, ℕ, ap, ◌∙◌}
use Rattle.rules.specs.LookUp.{same, key_is}
use Rattle.values.proofs.key_is.Goals as goal

pub returns : goal.returns
unfolding key_is
returns c = c.equal.ensures ∙ ap (λ (k : List ℕ). same k c.args.key.now) c.key_of.ensures
