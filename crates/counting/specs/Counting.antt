-- incr over the entry at an index, and what its arguments have to be behind the checks.
use Rattle.std.specs.Prelude.{◌≡◌, false, cond, List, ℕ, ◌≤◌, eqb, length, ℤ, ◌+ℤ◌, Option, Some, None}
use Rattle.rules.specs.declared.Outcome.TheVariants.{NotNumber}
use Rattle.rules.specs.declared.Initial.{Initial}
use Rattle.rules.specs.Layout.{Memory, entry_in, number_at}
use Rattle.rules.specs.Time.{too_late}
use Rattle.rules.specs.Calls.{Work, did, incr_live}

-- "Live and not kind 3: 10. Live number: add the step"
unfoldable pub incr_at : ℤ → ℕ → Memory → ℕ → Work
incr_at step removed m i = cond (eqb (entry_in m i).kind 3) (incr_live removed m i (number_at m.pool (entry_in m i) +ℤ step)) (did NotNumber removed m)

-- an initial number's lifetime is in time
abbrev pub InTime : ℕ → Option Initial → Type 0
InTime clock (Some begin) = too_late clock begin.lifetime ≡ false
InTime clock None = Unit {0}

-- key, lifetime and what the sweep removed are as the checks and the sweep leave them
pub record Countable (clock : ℕ) (key : List ℕ) (initial : Option Initial) (removed : ℕ) : Type 0 where
  pub some_key : 1 ≤ length key
  pub short_key : length key ≤ 65535
  pub in_time : InTime clock initial
  pub swept : removed ≤ 2
