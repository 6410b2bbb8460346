-- What a run of digits says, in the terms of chapter "Replay lines".
use Rattle.std.specs.Prelude.{cond, ◌&&◌, List, ℕ, leb, Option, Some, None}
use Rattle.rules.specs.Soundness.{every}
use Rattle.rules.specs.Replay.{is_digit, digits_from}

-- a run of digits, behind those that made n: the number, if it is no more than `most`
unfoldable pub run_said : ℕ → ℕ → List ℕ → Option ℕ
run_said most n l = cond (every is_digit l && leb (digits_from n l) most) (Some (digits_from n l)) None
