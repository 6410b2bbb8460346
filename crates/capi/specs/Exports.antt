-- A call's result handed to another language. A signed argument reaches the call as its bits, which is the same number.
use Rattle.std.specs.Prelude.{◌≡◌, Bool, true, false, List, ℕ, ℤ, Option, None}
use Rattle.std.proofs.Common.{ap, ◌∙◌, SFits, to_z-of_z}
use Rattle.std.specs.Int.{w64}
use Rattle.rules.specs.declared.Answer.{Answer}
use Rattle.rules.specs.declared.Operation.{Operation}
use Rattle.rules.specs.declared.Initial.{Initial}
use Rattle.rules.specs.Check.{given}
use Rattle.rules.specs.Answer.{answer_words}
use Rattle.rules.specs.Calls.{Result, gave, store_call, incr_call, FlatListing, flat_listing}
use Rattle.rules.specs.Exports.{Exported, ExportedListing, initial_of}
use Rattle.values.specs.Bits.{held}

-- ---- any call, and the listing

pub handed : {r : Result} {a : Answer} {words dir pool : List ℕ} → gave a dir pool ≡ r → words ≡ answer_words a → Exported r words dir pool
handed e w =
    record {
      answer_words_are = w ∙ ap (λ (x : Result). answer_words x.answer) e;
      dir_words = ap (λ (x : Result). x.dir) e;
      pool_bytes = ap (λ (x : Result). x.pool) e;
    }

pub handed_listing : {l : FlatListing} {a : Answer} {words table : List ℕ} → flat_listing a table ≡ l → words ≡ answer_words a → ExportedListing l words table
handed_listing e w =
    record {
      answer_words_are = w ∙ ap (λ (x : FlatListing). answer_words x.answer) e;
      table_words = ap (λ (x : FlatListing). x.table) e;
    }

-- ---- the stores

pub handed_store : (op : Operation) (dir pool : List ℕ) (clock : ℕ) (key : List ℕ) (kind : ℕ) (number : ℤ) (text : List ℕ) (lifetime flags : ℕ) {a : Answer} {words dir₁ pool₁ : List ℕ} → SFits w64 number → gave a dir₁ pool₁ ≡ store_call op dir pool clock key kind (held number) text lifetime flags → words ≡ answer_words a → Exported (store_call op dir pool clock key kind number text lifetime flags) words dir₁ pool₁
handed_store op dir pool clock key kind number text lifetime flags f e w =
    handed (e ∙ ap (λ (z : ℤ). store_call op dir pool clock key kind z text lifetime flags) (to_z-of_z {w = w64} f)) w

-- ---- incr

module _ (has_initial : Bool) (number : ℤ) (lifetime : ℕ) where
  pub initial_given : SFits w64 number → has_initial ≡ true → given (held number) lifetime ≡ initial_of has_initial number lifetime
  unfolding initial_of
  initial_given f t = simp t (ap (λ (z : ℤ). given z lifetime) (to_z-of_z {w = w64} f))

  pub initial_absent : has_initial ≡ false → None ≡ initial_of has_initial number lifetime
  unfolding initial_of
  initial_absent t = simp t

pub handed_incr : (dir pool : List ℕ) (clock : ℕ) (key : List ℕ) (step : ℤ) (has_initial : Bool) (number : ℤ) (lifetime : ℕ) {begin : Option Initial} {a : Answer} {words dir₁ pool₁ : List ℕ} → SFits w64 step → SFits w64 number → begin ≡ initial_of has_initial (held number) lifetime → gave a dir₁ pool₁ ≡ incr_call dir pool clock key (held step) begin → words ≡ answer_words a → Exported (incr_call dir pool clock key step (initial_of has_initial number lifetime)) words dir₁ pool₁
handed_incr dir pool clock key step has_initial number lifetime {begin} s f b e w =
    handed
    (e
    ∙ ap (λ (z : ℤ). incr_call dir pool clock key z begin) (to_z-of_z {w = w64} s)
    ∙ ap (incr_call dir pool clock key step) (b ∙ ap (λ (z : ℤ). initial_of has_initial z lifetime) (to_z-of_z {w = w64} f)))
    w
