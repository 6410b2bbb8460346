-- `words::fill` meets its contract. The loop's invariant: the first j elements are written.
use Rattle.std.proofs.Common.{◌∙◌, arith}
use Rattle.std.proofs.lemmas.List.Edits.{fill_from_more}
use Rattle.words.specs.PutLaws.{put_filled}
use Rattle.words.proofs.fill.Goals as goal

pub loop-j-preserved : goal.loop-j-preserved
loop-j-preserved g c = grind (arith, fill_from_more)

pub returns : goal.returns
returns g c = c.loop-j.invariant ∙ put_filled _ _ _ _ _ (omega arith)
