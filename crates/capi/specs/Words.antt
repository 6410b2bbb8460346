-- The words of an answer, from what its outcome tells.
use Rattle.std.specs.Prelude.{◌≡◌, cond, List, [], ◌∷◌, ℕ}
use Rattle.rules.specs.declared.Answer.{Answer}
use Rattle.rules.specs.Answer.{answer_words}
use Rattle.telling.specs.declared.Told.{Told}
use Rattle.telling.specs.Told.{told_of}

pub words_told : (a : Answer) (t : Told) (forced stale : ℕ) → t ≡ told_of a.outcome → forced ≡ cond a.forced 1 0 → stale ≡ cond a.stale 1 0 → ◌≡◌ {A = List ℕ} (t.answer ∷ a.rounds ∷ a.removed ∷ forced ∷ stale ∷ t.kind ∷ t.flags ∷ t.bits ∷ t.offset ∷ t.size ∷ []) (answer_words a)
unfolding told_of answer_words
words_told a t forced stale e f s = rw (e, f, s)
