-- Places in the pool that another language is told: where the part of bytes_at begins, and the text that show finds.
use Rattle.std.specs.Prelude.{◌≡◌, List, [], ◌∷◌, ℕ, ◌+◌, ◌≤◌, ◌<◌, length, get_or}
use Rattle.std.proofs.Math.Path.{refl, ap}
use Rattle.std.proofs.Common.{sym, ◌∙◌, arith, length-take, length-drop}
use Rattle.std.proofs.Math.Bool.{true, false}
use Rattle.std.proofs.Math.Dec.{leb}
use borrow.Author.Tests.{le-leb, lt-leb}
use Rattle.rules.specs.declared.Entry.{Entry}
use Rattle.rules.specs.declared.Found.{Found}
use Rattle.rules.specs.declared.Found.TheVariants.{Live}
use Rattle.rules.specs.Layout.{entries_of, none, part, value_offset, memory_of}
use Rattle.rules.specs.Checks.{key_checks}
use Rattle.rules.specs.Calls.{bytes_start, bytes_at_call, show_found}
use Rattle.rules.specs.Exports.{bytes_place, text_place, show_place}
use Rattle.laws.specs.Meant.{NoLive, else_is}

-- ---- bytes_at

module _ (pool : List ℕ) (offset size : ℕ) where
  -- "a sum past its end gives the empty part at its start"
  pub place_none : length pool < offset + size → ◌≡◌ {A = List ℕ} (0 ∷ 0 ∷ []) (bytes_place pool offset size)
  unfolding bytes_place bytes_at_call bytes_start
  place_none h =
      let t : leb (offset + size) (length pool) ≡ false = lt-leb (offset + size) (length pool) h in
      simp t

  part_size : offset + size ≤ length pool → length (part pool offset size) ≡ size
  part_size h = simp (length-take, length-drop) (omega arith)

  pub place_part : offset + size ≤ length pool → offset ∷ size ∷ [] ≡ bytes_place pool offset size
  unfolding bytes_place bytes_at_call bytes_start
  place_part h =
      let t : leb (offset + size) (length pool) ≡ true = le-leb (offset + size) (length pool) h in
      simp t (ap (λ (n : ℕ). offset ∷ n ∷ []) (sym (part_size h)))

-- ---- show

module _ (clock : ℕ) (dir pool key : List ℕ) (f : Found) (e : f ≡ show_found (key_checks dir pool clock key) clock key (memory_of dir pool)) where
  pub show_nowhere : NoLive f → ◌≡◌ {A = List ℕ} (0 ∷ 0 ∷ 0 ∷ []) (show_place dir pool clock key)
  unfolding show_place text_place
  show_nowhere n = else_is (text_place (memory_of dir pool)) (0 ∷ 0 ∷ 0 ∷ []) (λ i. refl) refl f n ∙ ap (text_place (memory_of dir pool)) e

  pub show_here : (i : ℕ) → f ≡ Live i → (x : Entry) → x ≡ get_or (entries_of dir) i none → 1 ∷ value_offset x ∷ x.vlen ∷ [] ≡ show_place dir pool clock key
  unfolding show_place text_place memory_of
  show_here i q x r =
      ap (λ (y : Entry). 1 ∷ value_offset y ∷ y.vlen ∷ []) r ∙ ap (text_place (memory_of dir pool)) (sym q ∙ e)
