-- `directory::write` meets its contract.
use native.Mathlib.Omega.{arith}
use Rattle.words.specs.PutLaws.{put_six}
use Rattle.directory.proofs.write.Goals as goal

pub returns : goal.returns
returns c = put_six _ _ _ _ _ _ _ _ (omega arith)
