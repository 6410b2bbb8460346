-- What the checks come to, and an initial number as one value.
use Rattle.std.specs.Prelude.{Option, Some, Result, ℕ, ℤ}
use Rattle.rules.specs.declared.Outcome.{Outcome}
use Rattle.rules.specs.declared.Initial.{Initial}

-- what the checks 1 to 7 come to: passed, or the refusal of the first that fails
abbrev pub Check : Type 0
Check = Result Unit Outcome

-- an initial number, and the lifetime of the new entry
abbrev pub given : ℤ → ℕ → Option Initial
given number lifetime = Some (record { number = number; lifetime = lifetime })
