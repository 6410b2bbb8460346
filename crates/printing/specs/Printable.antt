-- What an answer must hold for its line to be written: a text that it tells lies in the pool.
use Rattle.std.specs.Prelude.{◌≡◌, List, ℕ, ◌+◌, ◌≤◌, length}
use Rattle.rules.specs.declared.Answer.{Answer}
use Rattle.rules.specs.Answer.{fields_of}

unfoldable pub TextInside : Answer → List ℕ → Type 0
TextInside a pool = (fields_of a.outcome).kind ≡ 4 → (fields_of a.outcome).offset + (fields_of a.outcome).size ≤ length pool
