-- `words::move_up` meets its contract.
use Rattle.std.proofs.Common.{◌+◌, ◌∙◌, arith}
use Rattle.words.specs.PutLaws.{put_within}
use Rattle.words.proofs.move_up.Goals as goal

pub returns : goal.returns
returns c = let a = c.args in
    c.copy_within.ensures.after ∙ put_within a.d.now a.at (a.at + a.by) a.count _ (omega arith) (omega arith)
