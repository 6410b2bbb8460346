-- Where a byte stands next.
use Rattle.std.specs.Prelude.{◌≡◌, Bool, true, not, List, ℕ, ◌-◌, ◌≤◌, ◌<◌, eqb, length, get_or}
use Rattle.rules.specs.Layout.{part}
use Rattle.rules.specs.Soundness.{every}

-- another byte than that
abbrev pub other : ℕ → ℕ → Bool
other byte b = not (eqb b byte)

-- the next place of the byte, counted from `from`, or the end where there is none
pub record Until (byte : ℕ) (bytes : List ℕ) (from end : ℕ) : Type 0 where
  pub after : from ≤ end
  pub inside : end ≤ length bytes
  pub nowhere : every (other byte) (part bytes from (end - from)) ≡ true
  pub there : end < length bytes → get_or bytes end 0 ≡ byte
