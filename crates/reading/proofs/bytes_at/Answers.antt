-- `reading::bytes_at` meets its contract.
use native.Mathlib.Omega.{arith}
use Rattle.reading.specs.Lent.{lent_none, lent_part}
use Rattle.std.proofs.Common.{length, ◌+◌, ◌<◌}
use Rattle.reading.proofs.bytes_at.Goals as goal
use Rattle.reading.proofs.bytes_at.Goals.{then-n-offset-via-then-n-offset, then-n-offset-via-else-n-offset+then-n-offset-2}

pub returns-then-n-offset : goal.returns-then-n-offset
returns-then-n-offset c =
    let h : length c.args.pool.now < c.args.offset + c.args.size = elim c.then-n-offset.branch [ then-n-offset-via-then-n-offset w ↦ omega arith | then-n-offset-via-else-n-offset+then-n-offset-2 w ↦ omega arith ] in
    let p = lent_none _ _ _ _ h in
    record { result_value = p.0; ref_ptr_value = p.1 }

pub returns : goal.returns
returns c = let p = lent_part _ _ _ _ (omega arith) in record { result_value = p.0; ref_ptr_value = p.1 }
