-- `distinct::keys_differ` meets its contract.
use Rattle.std.proofs.Common.{arith}
use Rattle.laws.specs.Buffers.{given_sound}
use Rattle.distinct.specs.Differing.{differ_few}
use Rattle.distinct.proofs.keys_differ.Goals as goal

pub count-requires : goal.count-requires
count-requires c = (given_sound _ _ c.requires).dir_is

pub returns-then-count-lt2 : goal.returns-then-count-lt2
returns-then-count-lt2 c = differ_few _ _ (omega arith)
