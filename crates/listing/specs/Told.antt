-- What get_keys as plain numbers tells of get_keys into rows.
use Rattle.std.specs.Prelude.{◌≡◌, List, ℕ, length, Result, Ok, Err}
use Rattle.rules.specs.declared.Answer.{Answer}
use Rattle.rules.specs.declared.Row.{Row}
use Rattle.rules.specs.declared.Outcome.{Outcome}
use Rattle.rules.specs.declared.Outcome.TheVariants.{Count}
use Rattle.rules.specs.Answer.{plain}
use Rattle.rules.specs.Calls.{listing, get_keys_call}
use Rattle.listing.specs.Filling.{Fits, filled}

-- how many rows are told: none with a refusal
unfoldable pub rows_told : Result ℕ Outcome → ℕ
rows_told (Ok n) = n
rows_told (Err o) = 0

-- the answer that tells them, or the refusal
unfoldable pub answer_told : Result ℕ Outcome → Answer
answer_told (Ok n) = plain (Count n) 0
answer_told (Err o) = plain o 0

-- what is told, and a table, from which get_keys into so many rows follows
pub record Told (dir pool : List ℕ) (clock maximum room : ℕ) (r : Result ℕ Outcome) (t : List ℕ) : Type 0 where
  pub fits : Fits (rows_told r) room (length t)
  pub whole : (rows : List Row) → length rows ≡ room → listing (answer_told r) (filled rows t (rows_told r)) ≡ get_keys_call dir pool clock maximum rows
