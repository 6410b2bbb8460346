-- `directory::remove_at` meets its contract.
use mathlib.Core.Path.{◌∙◌}
use Rattle.directory.specs.Changes.{removed}
use Rattle.directory.proofs.remove_at.Goals as goal

pub returns : goal.returns
returns c = c.close_gap.ensures ∙ removed c.args.dir.now c.args.i c.requires.dir c.requires.i_in_bounds
