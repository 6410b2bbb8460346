-- What bytes_at and show lend back: a part of the pool, or the caller's notice.
use Rattle.std.proofs.Math.Path.{◌≡◌, refl, sym, ap}
use Rattle.std.proofs.Common.{◌∙◌}
use Rattle.std.specs.Prelude.{Bool, List, [], ℕ, ◌+◌, ◌-◌, ◌≤◌, ◌<◌, eqb, length, get_or, Ok, Err}
use Rattle.std.proofs.Math.Bool.{true, false, cond}
use native.Mathlib.Omega.{arith}
use Rattle.std.proofs.Math.Dec.{leb}
use borrow.Author.Tests.{le-leb, lt-leb, eq-eqb, ne_eqb}
use Rattle.rules.specs.declared.Entry.{Entry}
use Rattle.rules.specs.Check.{Check}
use Rattle.rules.specs.declared.Found.{Found}
use Rattle.rules.specs.declared.Found.TheVariants.{Live, Dead, Missing}
use Rattle.rules.specs.Layout.{entries_of, none, part, value_offset, value_bytes, Memory, entry_in, memory_of}
use Rattle.rules.specs.LookUp.{look_up}
use Rattle.rules.specs.Soundness.{sound}
use Rattle.rules.specs.Checks.{key_checks}
use Rattle.rules.specs.Calls.{bytes_start, bytes_at_call, text_found, show_found, text_or, show_call, lent_from, show_start}
use Rattle.laws.specs.ChecksLaws.{key_passed}
use Rattle.laws.specs.Buffers.{entry_inside}
use Rattle.laws.specs.Meant.{NoLive, else_is, live_there}
use Rattle.rules.specs.declared.Outcome.{Outcome}

-- ---- bytes_at: the bytes, and where they stand for a pool that begins at `origin`

module _ (pool : List ℕ) (offset size : ℕ) (origin : ℕ × ℕ) where
  -- "a sum past its end gives the empty part at its start"
  pub lent_none : length pool < offset + size → ([] ≡ bytes_at_call pool offset size) × (◌≡◌ {A = ℕ × ℕ} (origin.0, 0 + origin.1) (origin.0, bytes_start pool offset size + origin.1))
  unfolding bytes_at_call bytes_start
  lent_none h =
      let t : leb (offset + size) (length pool) ≡ false = lt-leb (offset + size) (length pool) h in
      (sym (simp t), simp t)

  pub lent_part : offset + size ≤ length pool → (part pool offset (offset + size - offset) ≡ bytes_at_call pool offset size) × (◌≡◌ {A = ℕ × ℕ} (origin.0, offset + origin.1) (origin.0, bytes_start pool offset size + origin.1))
  unfolding bytes_at_call bytes_start
  lent_part h =
      let t : leb (offset + size) (length pool) ≡ true = le-leb (offset + size) (length pool) h in
      let w : offset + size - offset ≡ size = omega arith in
      (ap (part pool offset) w ∙ sym (simp t), simp t)

-- ---- show: the live text's entry, if a get would be answered

module _ (clock : ℕ) (key : List ℕ) (m : Memory) where
  pub text_refused : (c : Check) (o : Outcome) → c ≡ Err o → Missing ≡ show_found c clock key m
  unfolding show_found
  text_refused c o e = ap (λ (x : Check). show_found x clock key m) (sym e)

  text_passed : (c : Check) → c ≡ (Ok tt) → text_found m (look_up clock key m) ≡ show_found c clock key m
  unfolding show_found
  text_passed c e = ap (λ (x : Check). show_found x clock key m) (sym e)

  -- back from a text to the checks and the look-up
  of_text : (i : ℕ) (f : Found) → text_found m f ≡ Live i → f ≡ Live i
  unfolding text_found
  of_text i (Live j) e = go (eqb (entry_in m j).kind 4) e
    where
      go : (b : Bool) → cond b (Live j) Missing ≡ Live i → Live j ≡ Live i
      go true q = q
      go false q = absurd (let z : ◌≡◌ {A = ℕ} 0 1 = cc in omega arith)
  of_text i (Dead j) e = absurd (let z : ◌≡◌ {A = ℕ} 0 1 = cc in omega arith)
  of_text i Missing e = e

  of_show : (i : ℕ) (c : Check) → show_found c clock key m ≡ Live i → ((Ok tt) ≡ c) × (look_up clock key m ≡ Live i)
  unfolding show_found
  of_show i (Ok _) e = (refl, of_text i (look_up clock key m) e)
  of_show i (Err o) e = absurd (let z : ◌≡◌ {A = ℕ} 0 1 = cc in omega arith)

module _ (clock : ℕ) (dir pool key : List ℕ) (c : Check) (p : c ≡ (Ok tt)) (f : Found) (e : f ≡ look_up clock key (memory_of dir pool)) where
  pub text_nothing : NoLive f → Missing ≡ show_found c clock key (memory_of dir pool)
  unfolding text_found
  text_nothing n =
      else_is (text_found (memory_of dir pool)) Missing (λ i. refl) refl f n ∙ ap (text_found (memory_of dir pool)) e ∙ text_passed clock key (memory_of dir pool) c p

  module _ (i : ℕ) (x : Entry) (r : x ≡ get_or (entries_of dir) i none) (q : f ≡ Live i) where
    by_kind : text_found (memory_of dir pool) (Live i) ≡ show_found c clock key (memory_of dir pool)
    by_kind = ap (text_found (memory_of dir pool)) (sym q ∙ e) ∙ text_passed clock key (memory_of dir pool) c p

    pub text_here : x.kind ≡ 4 → Live i ≡ show_found c clock key (memory_of dir pool)
    unfolding text_found memory_of
    text_here k = sym (simp (eq-eqb (get_or (entries_of dir) i none).kind 4 (ap (λ (y : Entry). y.kind) (sym r) ∙ k))) ∙ by_kind

    pub text_other : (x.kind ≡ 4 → ⊥) → Missing ≡ show_found c clock key (memory_of dir pool)
    unfolding text_found memory_of
    text_other k = sym (simp (ne_eqb (get_or (entries_of dir) i none).kind 4 (λ h. k (ap (λ (y : Entry). y.kind) r ∙ h)))) ∙ by_kind

-- ---- show: the slice

module _ (clock : ℕ) (dir pool key : List ℕ) (f : Found) (e : f ≡ show_found (key_checks dir pool clock key) clock key (memory_of dir pool)) where
  module _ (i : ℕ) (q : f ≡ Live i) where
    told : ((Ok tt) ≡ key_checks dir pool clock key) × (look_up clock key (memory_of dir pool) ≡ Live i)
    told = of_show clock key (memory_of dir pool) i (key_checks dir pool clock key) (sym e ∙ q)

    pub show_sound : sound dir pool ≡ true
    show_sound = key_passed dir pool clock key told.0

    pub show_there : i < length (entries_of dir)
    show_there = live_there clock dir pool key (look_up clock key (memory_of dir pool)) refl i told.1

    pub show_inside : (x : Entry) → x ≡ get_or (entries_of dir) i none → value_offset x + x.vlen ≤ length pool
    show_inside x r = entry_inside dir pool show_sound i show_there x r

  module _ (notice : List ℕ) (origin at : ℕ × ℕ) where
    pub show_notice : NoLive f → (notice ≡ show_call dir pool clock key notice) × (at ≡ show_start dir pool clock key origin at)
    unfolding show_call show_start text_or lent_from
    show_notice n = (
      else_is (text_or notice (memory_of dir pool)) notice (λ i. refl) refl f n ∙ ap (text_or notice (memory_of dir pool)) e,
      else_is (lent_from origin at (memory_of dir pool)) at (λ i. refl) refl f n ∙ ap (lent_from origin at (memory_of dir pool)) e,
    )

    pub show_text : (i : ℕ) → f ≡ Live i → (x : Entry) → x ≡ get_or (entries_of dir) i none → (part pool (value_offset x) (value_offset x + x.vlen - value_offset x) ≡ show_call dir pool clock key notice) × (◌≡◌ {A = ℕ × ℕ} (origin.0, value_offset x + origin.1) (show_start dir pool clock key origin at))
    unfolding show_call show_start text_or lent_from value_bytes memory_of
    show_text i q x r =
        let w : value_offset x + x.vlen - value_offset x ≡ x.vlen = omega arith in (
          ap (part pool (value_offset x)) w ∙ ap (λ (y : Entry). part pool (value_offset y) y.vlen) r ∙ ap (text_or notice (memory_of dir pool)) (sym q ∙ e),
          ap (λ (y : Entry). (origin.0, value_offset y + origin.1)) r ∙ ap (lent_from origin at (memory_of dir pool)) (sym q ∙ e),
        )
