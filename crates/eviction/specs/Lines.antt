-- The line of the first i entries of a directory: what is left for a loop that walks its records from the last one on.
use Rattle.std.specs.Prelude.{◌≡◌, refl, List, [], ◌∷◌, reverse, ℕ, zero, suc, ◌+◌, ◌-◌, ◌*◌, ◌≤◌, ◌<◌, length, take, get_or}
use Rattle.std.proofs.Common.{sym, ap, ◌∙◌, arith}
use Rattle.std.proofs.Math.Seq.{take-length}
use Rattle.rules.specs.declared.Entry.{Entry}
use Rattle.rules.specs.Layout.{none, entries_of, entry_at}
use Rattle.rules.specs.Recency.{deads, gone}
use Rattle.laws.specs.LayoutLaws.{get_d_entries}
use Rattle.laws.specs.RecencyLaws.{line_more}

-- the line of the first i entries
abbrev pub line_to : List Entry → ℕ → List Entry
line_to es i = reverse (take i es)

pub line_all : (es : List Entry) → reverse es ≡ line_to es (length es)
line_all es = ap reverse (sym (take-length es))

-- the next of it is the last of those entries
pub line_next : (es : List Entry) (i : ℕ) → 0 < i → i ≤ length es → line_to es i ≡ get_or es (i - 1) none ∷ line_to es (i - 1)
line_next es i h l = let e : i ≡ suc (i - 1) = omega arith in ap (line_to es) e ∙ line_more es (i - 1) (omega arith)

-- by its words
pub line_words : (dir : List ℕ) (i : ℕ) → i < length (entries_of dir) → line_to (entries_of dir) (suc i) ≡ entry_at dir (2 + 6 * i) ∷ line_to (entries_of dir) i
line_words dir i h = line_more (entries_of dir) i h ∙ ap (λ (e : Entry). e ∷ line_to (entries_of dir) i) (get_d_entries dir i h)

-- ---- an empty line

pub deads_nil : (clock k : ℕ) → deads clock k [] ≡ 0
unfolding deads
deads_nil clock zero = refl
deads_nil clock (suc k) = refl

pub gone_nil : (clock n : ℕ) → gone clock n [] ≡ []
unfolding gone
gone_nil clock zero = refl
gone_nil clock (suc n) = refl
