-- `words::copy_in` meets its contract.
use Rattle.std.proofs.Common.{arith}
use Rattle.words.specs.PutLaws.{put_over}
use Rattle.words.proofs.copy_in.Goals as goal

pub returns : goal.returns
returns c = put_over _ _ _ _ c.copy_from_slice.ensures.after (omega arith)
