-- The bucket of a key: any function of its bytes would do, since keys are compared in the end. This one is fast, and spreads keys that differ in a few digits.
use Rattle.std.specs.Prelude.{◌≡◌, ℕ, suc, ◌+◌, ◌*◌, ◌/◌, ◌%◌, ◌<◌, ◌≤◌, List, [], ◌∷◌, length, drop, slice_index, refl}
use Rattle.std.proofs.Common.{sym, ap, ◌∙◌, arith, length-drop, drop_of_length-le, drop-cons}
use Rattle.rules.specs.Layout.{part, value_of}
use Rattle.laws.specs.NumberLaws.{part_four}

-- a hash of a number more
abbrev with : ℕ → ℕ → ℕ
with h x = (31 * h + x) % 4294967296

-- bytes hashed four at a time, and then one by one, from a hash of those before
unfoldable pub hash_from : ℕ → List ℕ → ℕ
hash_from h [] = h
hash_from h (a ∷ []) = with h a
hash_from h (a ∷ b ∷ []) = with (with h a) b
hash_from h (a ∷ b ∷ c ∷ []) = with (with (with h a) b) c
hash_from h (a ∷ b ∷ c ∷ d ∷ l) = hash_from (with h (value_of (a ∷ b ∷ c ∷ d ∷ []))) l

unfoldable pub bucket_of : List ℕ → ℕ
bucket_of key = 2654435761 * hash_from 0 key / 2097152 % 2048

-- the bytes before i are hashed: the rest decides
pub record Hashed (key : List ℕ) (i h : ℕ) : Type 0 where
  pub small : h < 4294967296
  pub rest : hash_from 0 key ≡ hash_from h (drop i key)

pub hashed_none : {key : List ℕ} → Hashed key 0 0
hashed_none = record { small = omega arith; rest = refl }

drop_one : (key : List ℕ) (i j : ℕ) → i < length key → j ≡ i + 1 → drop i key ≡ slice_index key i ∷ drop j key
drop_one key i j l e = let s : suc i ≡ j = omega arith in drop-cons key i 0 l ∙ ap (λ (k : ℕ). slice_index key i ∷ drop k key) s

-- four bytes more
pub hashed_word : {key : List ℕ} {i h w : ℕ} → Hashed key i h → i + 4 ≤ length key → w ≡ value_of (part key i 4) → Hashed key (i + 4) ((31 * h + w) % 4294967296)
unfolding hash_from
hashed_word {key} {i} {h} {w} d l e =
    let four : drop i key ≡ slice_index key i ∷ slice_index key (i + 1) ∷ slice_index key (i + 2) ∷ slice_index key (i + 3) ∷ drop (i + 4) key =
    drop_one key i (i + 1) (omega arith) (omega arith)
    ∙ ap (λ (r : List ℕ). slice_index key i ∷ r) (drop_one key (i + 1) (i + 2) (omega arith) (omega arith))
    ∙ ap (λ (r : List ℕ). slice_index key i ∷ slice_index key (i + 1) ∷ r) (drop_one key (i + 2) (i + 3) (omega arith) (omega arith))
    ∙ ap (λ (r : List ℕ). slice_index key i ∷ slice_index key (i + 1) ∷ slice_index key (i + 2) ∷ r) (drop_one key (i + 3) (i + 4) (omega arith) (omega arith)) in
    record {
      small = omega arith;
      rest = d.rest ∙ ap (hash_from h) four ∙ ap (λ (x : ℕ). hash_from (with h x) (drop (i + 4) key)) (sym (e ∙ ap value_of (part_four key i l)));
    }

-- one byte more, of the last three
last : (h a : ℕ) (l : List ℕ) → length l < 3 → hash_from h (a ∷ l) ≡ hash_from (with h a) l
unfolding hash_from
last h a [] n = refl
last h a (b ∷ []) n = refl
last h a (b ∷ c ∷ []) n = refl
last h a (b ∷ c ∷ d ∷ l) n = absurd (omega arith)

pub hashed_byte : {key : List ℕ} {i h b : ℕ} → Hashed key i h → i < length key → length key < i + 4 → b ≡ slice_index key i → Hashed key (i + 1) ((31 * h + b) % 4294967296)
hashed_byte {key} {i} {h} {b} d l n e =
    record {
      small = omega arith;
      rest = d.rest ∙ ap (hash_from h) (drop_one key i (i + 1) l refl)
          ∙ last h (slice_index key i) (drop (i + 1) key) (omega (arith, length-drop (i + 1) key))
          ∙ ap (λ (x : ℕ). hash_from (with h x) (drop (i + 1) key)) (sym e);
    }

pub hashed_done : {key : List ℕ} {i h : ℕ} → Hashed key i h → length key ≤ i → 2654435761 * h / 2097152 % 2048 ≡ bucket_of key
unfolding hash_from bucket_of
hashed_done {key} {i} {h} d l = ap (λ (x : ℕ). 2654435761 * x / 2097152 % 2048) (sym (d.rest ∙ ap (hash_from h) (drop_of_length-le key l)))
