-- `directory::push_front` meets its contract.
use mathlib.Core.Path.{ap, ◌∙◌}
use mathlib.Core.List.{List}
use Prim.Native.Nat.{ℕ}
use Rattle.rules.specs.Layout.{words, put}
use Rattle.directory.specs.Changes.{pushed}
use Rattle.directory.proofs.push_front.Goals as goal

pub returns : goal.returns
returns c = let e = c.args.e in
    c.write.ensures
    ∙ ap (λ (y : List ℕ). put y 2 (words e)) c.move_up.ensures
    ∙ pushed c.args.dir.now e c.requires.dir c.requires.dir_in_bounds
