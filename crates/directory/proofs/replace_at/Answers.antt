-- `directory::replace_at` meets its contract.
use mathlib.Core.Path.{◌∙◌}
use Rattle.directory.specs.Changes.{replaced}
use Rattle.directory.proofs.replace_at.Goals as goal

pub returns : goal.returns
returns c = c.write.ensures ∙ replaced c.args.dir.now c.args.i c.requires.dir c.requires.i_in_bounds c.args.e
