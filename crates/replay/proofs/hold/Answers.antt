-- `replay::hold` meets its contract.
use Rattle.std.proofs.Common.{ap, ◌∙◌, arith, ◌++◌, drop}
use Rattle.replay.specs.Whole.{held_min, held_count, put_first}
use Rattle.replay.proofs.hold.Goals as goal

pub returns : goal.returns
returns c =
    let n = held_count c.args.rest.now c.min-count.ensures in
    (omega (arith, c.min-count.ensures), n, ap (λ x. x ++ drop c.min-count.result c.args.kept.now) (c.copy_from_slice.ensures.after ∙ held_min c.args.rest.now c.min-count.ensures) ∙ put_first c.args.kept.now _ n)
