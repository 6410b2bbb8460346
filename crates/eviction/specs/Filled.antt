-- One mark filled into adjacent cells of a map.
use Rattle.std.specs.Prelude.{◌≡◌, List, ℕ, ◌+◌, ◌≤◌, length, replicate}
use Rattle.std.proofs.Common.{rules}
use Rattle.std.proofs.lemmas.List.{places}
use Rattle.rules.specs.Layout.{put}
use Rattle.laws.specs.Marks.{Written}

pub written_fill : (old : List ℕ) (s k e mark : ℕ) → s + k ≤ length old → s + k ≡ e → Written old (put old s (replicate k mark)) s e mark
unfolding put
written_fill old s k e mark h q =
    record {
      size = search (rules, places);
      here = λ c a b. search (rules, places);
      below = λ c a. search (rules, places);
      above = λ c a. search (rules, places);
    }
