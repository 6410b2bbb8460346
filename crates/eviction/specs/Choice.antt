-- What is chosen for a new entry.
use Rattle.std.specs.Prelude.{◌≡◌, Bool, false, List, ℕ, length, Option, Some, None}
use Rattle.rules.specs.declared.Entry.{Entry}
use Rattle.rules.specs.Recency.{gone, any_live}
use Rattle.rules.specs.Place.{run}
use Rattle.rules.specs.Calls.{if_room}
use Rattle.eviction.specs.declared.Choice.{Choice}

-- where the entry goes, if there is a place; without one no round runs
abbrev pub start_of : Option Choice → Option ℕ
start_of None = None
start_of (Some c) = Some c.start

abbrev pub ran_of : Option Choice → ℕ
ran_of None = 0
ran_of (Some c) = c.ran

abbrev pub gone_of : Option Choice → ℕ
gone_of None = 0
gone_of (Some c) = c.gone

abbrev pub live_of : Option Choice → Bool
live_of None = false
live_of (Some c) = c.live

-- the rounds for n cells of P, `most` at the most, over the line es, which are run if they make room: where they lead, how many run, how many entries they take, and whether one of those is live
pub record Chosen (clock P n most : ℕ) (es : List Entry) (r : Option Choice) : Type 0 where
  pub fit : start_of r ≡ (run clock P n most es).fit
  pub ran : ran_of r ≡ (if_room (run clock P n most es)).ran
  pub live : live_of r ≡ any_live clock (gone clock (if_room (run clock P n most es)).ran es)
  pub gone : gone_of r ≡ length (gone clock (if_room (run clock P n most es)).ran es)
