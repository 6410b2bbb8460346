-- `directory::record_at` meets its contract.
use mathlib.Core.Path.{sym, ◌∙◌}
use Rattle.laws.specs.LayoutLaws.{get_d_entries}
use Rattle.directory.proofs.record_at.Goals as goal

pub returns : goal.returns
returns c = c.read.ensures ∙ sym (get_d_entries c.args.dir.now c.args.i c.requires.i_in_bounds)
