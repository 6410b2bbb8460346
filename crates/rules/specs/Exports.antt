-- What the calls hand to another language: the answer as words, the buffers, and places in the pool as numbers.
use Rattle.std.specs.Prelude.{◌≡◌, Bool, cond, List, [], ◌∷◌, ℕ, length, ℤ, Option, None}
use Rattle.rules.specs.declared.Found.{Found}
use Rattle.rules.specs.declared.Found.TheVariants.{Live, Dead, Missing}
use Rattle.rules.specs.declared.Initial.{Initial}
use Rattle.rules.specs.Check.{given}
use Rattle.rules.specs.Layout.{value_offset, Memory, memory_of, entry_in}
use Rattle.rules.specs.Answer.{answer_words}
use Rattle.rules.specs.Checks.{key_checks}
use Rattle.rules.specs.Calls.{Result, FlatListing, bytes_start, bytes_at_call, show_found}

-- a call's result: the answer as words, the directory and the pool
pub record Exported (r : Result) (answer dir pool : List ℕ) : Type 0 where
  pub answer_words_are : answer ≡ answer_words r.answer
  pub dir_words : dir ≡ r.dir
  pub pool_bytes : pool ≡ r.pool

-- get_keys: the answer as words, and the table
pub record ExportedListing (l : FlatListing) (answer table : List ℕ) : Type 0 where
  pub answer_words_are : answer ≡ answer_words l.answer
  pub table_words : table ≡ l.table

-- incr's initial number, if there is one, and its lifetime
unfoldable pub initial_of : Bool → ℤ → ℕ → Option Initial
initial_of has_initial number lifetime = cond has_initial (given number lifetime) None

-- bytes-at: where the part begins, and its length
unfoldable pub bytes_place : List ℕ → ℕ → ℕ → List ℕ
bytes_place pool offset size = bytes_start pool offset size ∷ length (bytes_at_call pool offset size) ∷ []

-- show: 1, where the text begins and its length; or three times 0 where the notice is to be shown
unfoldable pub text_place : Memory → Found → List ℕ
text_place m (Live i) = 1 ∷ value_offset (entry_in m i) ∷ (entry_in m i).vlen ∷ []
text_place m (Dead i) = 0 ∷ 0 ∷ 0 ∷ []
text_place m Missing = 0 ∷ 0 ∷ 0 ∷ []

-- by the text that show finds, as its bytes are in `show_call`
unfoldable pub show_place : List ℕ → List ℕ → ℕ → List ℕ → List ℕ
show_place dir pool clock key =
    text_place (memory_of dir pool) (show_found (key_checks dir pool clock key) clock key (memory_of dir pool))
