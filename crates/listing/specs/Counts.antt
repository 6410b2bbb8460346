-- How many rows are listed: the maximum beside the rows that fit and the rows that there are.
use Rattle.std.specs.Prelude.{◌≡◌, refl, Bool, true, false, cond, ℕ, ◌≤◌, min, eqb}
use Rattle.std.proofs.Common.{arith}
use Rattle.rules.specs.Calls.{up_to}

-- no more than fit
pub most_fits : (most maximum room : ℕ) → most ≡ up_to maximum room → most ≤ room
unfolding up_to
most_fits most maximum room e = go (eqb maximum 0) e
  where
    go : (b : Bool) → most ≡ cond b room (min maximum room) → most ≤ room
    go true e = omega arith
    go false e = omega arith

-- the maximum bounds the rows that fit, or the rows that fit and there are
pub up_to_least : (maximum room n : ℕ) → min (up_to maximum room) n ≡ up_to maximum (min room n)
unfolding up_to
up_to_least maximum room n = go (eqb maximum 0)
  where
    go : (b : Bool) → min (cond b room (min maximum room)) n ≡ cond b (min room n) (min maximum (min room n))
    go true = refl
    go false = omega arith
