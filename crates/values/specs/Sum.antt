-- A sum of two signed numbers: itself where 64 bits hold it.
use Rattle.std.specs.Prelude.{cond, ℤ, Option, Some, None}
use Rattle.rules.specs.Calls.{in_range}

-- "signed 64-bit whole numbers"; "A sum out of range is 11"
unfoldable pub sum_of : ℤ → Option ℤ
sum_of z = cond (in_range z) (Some z) None
