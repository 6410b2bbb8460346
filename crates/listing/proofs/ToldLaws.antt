-- What holds of get_keys as plain numbers and of get_keys into rows.
use Rattle.std.specs.Prelude.{◌≡◌, Bool, false, cond, take, Ok, Err}
use Rattle.std.proofs.Math.Path.{refl, sym, ap}
use Rattle.std.proofs.Common.{◌∙◌, arith, length-append}
use Rattle.std.proofs.Math.Bool.{true}
use mathlib.Core.List.{List, [], ◌∷◌, ◌++◌, append_assoc}
use Prim.Native.Nat.{ℕ, ◌*◌, ◌/◌, ◌≤◌, min}
use Rattle.std.proofs.Math.ListN.{length, drop}
use Rattle.std.proofs.lemmas.List.{length-map}
use Rattle.std.proofs.Math.Seq.{length-take-le}
use Rattle.rules.specs.declared.Answer.{Answer}
use Rattle.rules.specs.Check.{Check}
use Rattle.rules.specs.declared.Entry.{Entry}
use Rattle.rules.specs.declared.Row.{Row}
use Rattle.rules.specs.declared.Outcome.{Outcome}
use Rattle.rules.specs.declared.Outcome.TheVariants.{Count}
use Rattle.rules.specs.Layout.{Memory, memory_of}
use Rattle.rules.specs.Time.{dead}
use Rattle.rules.specs.Soundness.{sound}
use Rattle.rules.specs.Answer.{plain}
use Rattle.rules.specs.Checks.{clock_checks}
use Rattle.rules.specs.Calls.{up_to, row_of, live_of, key_count, key_rows, listing, listed, keys_of, get_keys_call, Listing, row_words, FlatListing, flat_listing, listed_flat}
use Rattle.laws.specs.Buffers.{given_memory}
use Rattle.laws.specs.SoundMemory.{few}
use Rattle.listing.specs.Counts.{most_fits}
use Rattle.listing.specs.Rows.{length_rows}
use Rattle.listing.specs.Filling.{Fits, filled}
use Rattle.listing.specs.Told.{rows_told, answer_told, Told}
use Rattle.listing.proofs.FillingLaws.{filled_is}

-- ---- a sound memory has no more entries than the table has rows

live_some : (clock : ℕ) (es : List Entry) → length (live_of clock es) ≤ length es
unfolding live_of
live_some clock [] = omega arith
live_some clock (e ∷ es) = go (dead clock e) (live_some clock es)
  where
    go : (b : Bool) → length (live_of clock es) ≤ length es → length (cond b (live_of clock es) (e ∷ live_of clock es)) ≤ length (e ∷ es)
    go true h = omega arith
    go false h = omega arith

module _ (dir pool : List ℕ) (clock maximum room : ℕ) (s : sound dir pool ≡ true) where
  abbrev m : Memory
  m = memory_of dir pool

  abbrev live : ℕ
  live = length (live_of clock m.entries)

  live_few : live ≤ 1024
  live_few = omega (arith, live_some clock m.entries, few (given_memory dir pool s), (given_memory dir pool s).few_cells)

  -- as many rows are listed as if the table had no end
  same_count : key_count clock maximum (min room 1024) m ≡ key_count clock maximum room m
  unfolding key_count
  same_count =
      let e : min (min room 1024) live ≡ min room live = omega (arith, live_few) in
      ap (up_to maximum) e

  count_fits : key_count clock maximum room m ≤ min room live
  unfolding key_count
  count_fits = most_fits (key_count clock maximum room m) maximum (min room live) refl

  module _ (n : ℕ) (e : n ≡ key_count clock maximum room m) (t₀ u t : List ℕ) (w : ℕ) (whole : t ≡ u ++ drop w t₀) (front : u ≡ row_words (key_rows clock n m) ++ drop (3 * n) (take w t₀)) where
    rows_length : n ≡ length (key_rows clock n m)
    unfolding key_rows
    rows_length = sym (length-map (take n (live_of clock m.entries)) row_of ∙ length-take-le n (live_of clock m.entries) (omega (arith, count_fits)))

    behind : List ℕ
    behind = drop (3 * n) (take w t₀) ++ drop w t₀

    in_front : t ≡ row_words (key_rows clock n m) ++ behind
    unfolding behind
    in_front = whole ∙ ap (λ (x : List ℕ). x ++ drop w t₀) front ∙ append_assoc (row_words (key_rows clock n m)) (drop (3 * n) (take w t₀)) (drop w t₀)

    told_fits : Fits n room (length t)
    told_fits =
        record {
          few = omega (arith, count_fits);
          there = omega (arith, ap length in_front, length-append (row_words (key_rows clock n m)) behind, length_rows (key_rows clock n m), rows_length);
        }

    told_listed : {a : Answer} → a ≡ plain (Count n) 0 → (rows : List Row) → length rows ≡ room → listing a (filled rows t n) ≡ listed clock maximum rows m
    unfolding listed
    told_listed {a} p rows l =
        let f : filled rows t n ≡ key_rows clock n m ++ drop n rows = filled_is rows (key_rows clock n m) behind t n in_front rows_length (omega (arith, count_fits)) in
        let k : n ≡ key_count clock maximum (length rows) m = e ∙ ap (λ (x : ℕ). key_count clock maximum x m) (sym l) in
        rw (p, f, k)

-- ---- get_keys into the front of the table

module _ (dir pool : List ℕ) (clock maximum room : ℕ) (s : sound dir pool ≡ true) (n : ℕ) (t₀ u t : List ℕ) (w : ℕ) (size : length t₀ ≡ 3072) (used : w ≡ 3 * min room 1024) (whole : t ≡ u ++ drop w t₀) (f : flat_listing (plain (Count n) 0) u ≡ listed_flat clock maximum (take w t₀) (memory_of dir pool)) where
  abbrev k : ℕ
  k = key_count clock maximum (length (take w t₀) / 3) (memory_of dir pool)

  -- the count is that of so many rows
  counted : n ≡ k
  unfolding listed_flat
  counted = let p : Count n ≡ Count k = ap (λ (x : FlatListing). x.answer.outcome) f in cc

  front_count : n ≡ key_count clock maximum room (memory_of dir pool)
  front_count =
      let l : length (take w t₀) / 3 ≡ min room 1024 = omega (arith, length-take-le w t₀ (omega arith)) in
      counted ∙ ap (λ (x : ℕ). key_count clock maximum x (memory_of dir pool)) l ∙ same_count dir pool clock maximum room s

  front_rows : u ≡ row_words (key_rows clock n (memory_of dir pool)) ++ drop (3 * n) (take w t₀)
  unfolding listed_flat
  front_rows = rw counted (ap (λ (x : FlatListing). x.table) f)

  pub keys_fit : Fits n room (length t)
  keys_fit = told_fits dir pool clock maximum room s n front_count t₀ u t w whole front_rows

  pub keys_listed : {a : Answer} → a ≡ plain (Count n) 0 → (rows : List Row) → length rows ≡ room → listing a (filled rows t n) ≡ listed clock maximum rows (memory_of dir pool)
  keys_listed p rows l = told_listed dir pool clock maximum room s n front_count t₀ u t w whole front_rows p rows l

-- ---- the check before it

module _ (c : Check) (clock maximum : ℕ) (rows : List Row) (m : Memory) where
  -- on a refusal all rows stay
  pub rows_refused : (o : Outcome) (a : Answer) → c ≡ Err o → a ≡ plain o 0 → listing a rows ≡ keys_of c clock maximum rows m
  unfolding keys_of
  rows_refused o a e p = rw (p, e)

  pub rows_passed : (l : Listing) → c ≡ Ok tt → l ≡ listed clock maximum rows m → l ≡ keys_of c clock maximum rows m
  unfolding keys_of
  rows_passed l e p = rw (p, e)

-- ---- both together: what is told, and the table

module _ (dir pool : List ℕ) (clock maximum room : ℕ) where
  pub told_refused : (o : Outcome) (t : List ℕ) → clock_checks dir pool clock ≡ Err o → Told dir pool clock maximum room (Err o) t
  unfolding rows_told answer_told filled get_keys_call
  told_refused o t e =
      record {
        fits = record { few = omega arith; there = omega arith };
        whole = λ rows l. rows_refused (clock_checks dir pool clock) clock maximum rows (memory_of dir pool) o (plain o 0) e refl;
      }

  pub told_passed : (s : sound dir pool ≡ true) (n : ℕ) (t₀ u t : List ℕ) (w : ℕ) → length t₀ ≡ 3072 → w ≡ 3 * min room 1024 → t ≡ u ++ drop w t₀ → flat_listing (plain (Count n) 0) u ≡ listed_flat clock maximum (take w t₀) (memory_of dir pool) → clock_checks dir pool clock ≡ Ok tt → Told dir pool clock maximum room (Ok n) t
  unfolding rows_told answer_told get_keys_call
  told_passed s n t₀ u t w size used whole f e =
      record {
        fits = keys_fit dir pool clock maximum room s n t₀ u t w size used whole f;
        whole = λ rows l. rows_passed (clock_checks dir pool clock) clock maximum rows (memory_of dir pool) (listing (plain (Count n) 0) (filled rows t n)) e (keys_listed dir pool clock maximum room s n t₀ u t w size used whole f refl rows l);
      }
