-- `distinct::bucket_at` meets its contract.
use Rattle.std.proofs.Common.{ap, ◌∙◌}
use Rattle.distinct.specs.Hash.{bucket_of}
use Rattle.distinct.specs.Chains.{key_short}
use Rattle.distinct.proofs.bucket_at.Goals as goal

pub bucket-requires : goal.bucket-requires
bucket-requires c = rw c.key_at.ensures (key_short _ _ c.args.i c.requires.pool_value c.requires.i_in_bounds)

pub returns : goal.returns
returns c = (c.bucket.ensures.0 ∙ ap bucket_of c.key_at.ensures, c.bucket.ensures.1)
