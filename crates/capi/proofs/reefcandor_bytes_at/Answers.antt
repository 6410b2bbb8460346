-- `capi::reefcandor_bytes_at` meets its contract.
use Rattle.capi.specs.Places.{place_none, place_part}
use native.Mathlib.Omega.{arith}
use Rattle.capi.proofs.reefcandor_bytes_at.Goals as goal

pub returns-then-n-offset : goal.returns-then-n-offset
returns-then-n-offset c = place_none _ _ _ (omega arith)

pub returns-then-n-offset-2 : goal.returns-then-n-offset-2
returns-then-n-offset-2 c = place_none _ _ _ (omega arith)

pub returns : goal.returns
returns c = place_part _ _ _ (omega arith)
