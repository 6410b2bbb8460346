-- `directory::truncate` meets its contract.
use mathlib.Core.Path.{◌∙◌}
use Rattle.directory.specs.Changes.{truncated}
use Rattle.directory.proofs.truncate.Goals as goal

pub returns : goal.returns
returns c = c.fill.ensures ∙ truncated c.args.dir.now c.args.k c.requires.dir c.requires.k_in_bounds
