-- An entry whose value can be read from the pool, and what a reader answers of it.
use Rattle.std.specs.Prelude.{◌≡◌, true, not, List, ℕ, ◌+◌, ◌^◌, ◌≤◌, ◌<◌, eqb, ltb, length, get_or, ℤ}
use Rattle.std.proofs.Math.Path.{sym, ap}
use Rattle.std.proofs.Common.{◌∙◌, arith}
use borrow.Author.Tests.{eqb-true, eq-eqb, ne_eqb}
use Rattle.rules.specs.declared.Entry.{Entry}
use Rattle.rules.specs.declared.Outcome.TheVariants.{Number, Boolean, Text}
use Rattle.rules.specs.Layout.{entries_of, none, value_offset, number_at}
use Rattle.rules.specs.Soundness.{value_fits, sound}
use Rattle.rules.specs.Calls.{shown}
use Rattle.laws.specs.Booleans.{and_left}
use Rattle.laws.specs.Blocks.{number_size}
use Rattle.laws.specs.Buffers.{entry_fine, entry_inside}

-- a value that fits its kind and ends inside the pool, and flags of 32 bits
pub record Readable (pool : List ℕ) (e : Entry) : Type 0 where
  pub fits : value_fits pool e ≡ true
  pub inside : value_offset e + e.vlen ≤ length pool
  pub few_flags : e.flags < 2 ^ 32

-- every entry of a sound memory
pub readable : (dir pool : List ℕ) → sound dir pool ≡ true → (i : ℕ) → i < length (entries_of dir) → (e : Entry) → e ≡ get_or (entries_of dir) i none → Readable pool e
readable dir pool t i h e x =
    record { fits = (entry_fine dir pool t i h e x).fits; inside = entry_inside dir pool t i h e x; few_flags = (entry_fine dir pool t i h e x).few_flags }

-- ---- by kind

module _ (pool : List ℕ) (e : Entry) where
  -- a boolean is one byte
  boolean_size : e.kind ≡ 1 → value_fits pool e ≡ true → e.vlen ≡ 1
  unfolding value_fits
  boolean_size k t = eqb-true e.vlen 1 (and_left (eqb e.vlen 1) (ltb (get_or pool (value_offset e) 0) 2) (simp k at t))

  pub boolean_inside : Readable pool e → e.kind ≡ 1 → value_offset e < length pool
  boolean_inside r k = omega (arith, r.inside, boolean_size k r.fits)

  pub number_inside : Readable pool e → e.kind ≡ 3 → value_offset e + 8 ≤ length pool
  number_inside r k = omega (arith, r.inside, number_size pool e k r.fits)

  pub shown_boolean : e.kind ≡ 1 → Boolean e.flags (not (eqb (get_or pool (value_offset e) 0) 0)) (value_offset e) ≡ shown pool e
  unfolding shown
  shown_boolean k = sym (simp (eq-eqb e.kind 1 k))

  pub shown_number : (z : ℤ) → (e.kind ≡ 1 → ⊥) → e.kind ≡ 3 → z ≡ number_at pool e → Number e.flags z (value_offset e) ≡ shown pool e
  unfolding shown
  shown_number z j k n = ap (λ (x : ℤ). Number e.flags x (value_offset e)) n ∙ sym (simp (ne_eqb e.kind 1 j, eq-eqb e.kind 3 k))

  pub shown_text : (e.kind ≡ 1 → ⊥) → (e.kind ≡ 3 → ⊥) → Text e.flags (value_offset e) e.vlen ≡ shown pool e
  unfolding shown
  shown_text j k = sym (simp (ne_eqb e.kind 1 j, ne_eqb e.kind 3 k))
