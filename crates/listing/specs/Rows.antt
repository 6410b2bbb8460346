-- A loop that writes the rows of the live entries, three numbers each, from the most recent on: what stands after some turns.
use Rattle.std.specs.Prelude.{◌≡◌, refl, Bool, true, false, get_or, set}
use Rattle.std.proofs.Math.Path.{sym, ap}
use Rattle.std.proofs.Common.{◌∙◌, add-one, drop_of_length-le, take-append-drop, drop-drop, take_at}
use mathlib.Core.List.{List, [], ◌∷◌, ◌++◌, map, map-append, append_assoc, append-nil}
use Prim.Native.Nat.{ℕ, suc, ◌+◌, ◌*◌, ◌≤◌, ◌<◌, min}
use Rattle.std.proofs.Math.Nat.{min-eq_left, min-eq_right}
use native.Mathlib.Omega.{arith}
use Rattle.std.proofs.Math.ListN.{length, take, drop, length-append, length-map, length-drop}
use Rattle.std.proofs.Math.Seq.{length-take-le}
use Rattle.std.proofs.lemmas.List.Edits.{sets-eq}
use Rattle.rules.specs.declared.Entry.{Entry}
use Rattle.rules.specs.declared.Row.{Row}
use Rattle.rules.specs.Layout.{none, put}
use Rattle.rules.specs.Time.{dead}
use Rattle.rules.specs.Calls.{live_of, row_of, row_words}
use Rattle.laws.specs.LayoutLaws.{length_put}
use Rattle.laws.specs.Live.{live_dead, live_live}
use Rattle.words.specs.PutLaws.{put_at}

-- ---- numbers of rows

pub length_rows : (rs : List Row) → length (row_words rs) ≡ 3 * length rs
unfolding row_words
length_rows [] = refl
length_rows (r ∷ rs) = omega (arith, length_rows rs)

rows_append : (a b : List Row) → row_words (a ++ b) ≡ row_words a ++ row_words b
unfolding row_words
rows_append [] b = refl
rows_append (r ∷ a) b = ap (λ (l : List ℕ). r.start ∷ r.klen ∷ r.kind ∷ l) (rows_append a b)

-- three numbers stored one after the other
pub put_row : (t : List ℕ) (p : ℕ) (e : Entry) → p + 3 ≤ length t → set (set (set t p e.start) (p + 1) e.klen) (p + 2) e.kind ≡ put t p (row_words (row_of e ∷ []))
unfolding put row_of row_words
put_row t p e h =
    let p1 : p + 1 ≡ suc p = omega arith in
    let p2 : p + 2 ≡ suc (suc p) = omega arith in
    rw (p1, p2) (sets-eq (e.start ∷ e.klen ∷ e.kind ∷ []) t p h)

-- ---- the loop

-- so many rows as the live entries and the limit allow, written in front of t₀; the rest of it stays
pub record Listed (clock most : ℕ) (es : List Entry) (t₀ : List ℕ) (k : ℕ) (t : List ℕ) : Type 0 where
  pub count : k ≡ min most (length (live_of clock es))
  pub size : length t ≡ length t₀
  pub is : t ≡ row_words (map row_of (take k (live_of clock es))) ++ drop (3 * k) t₀

-- of the first i entries the live ones are `got`, k of them, and their rows are written
pub record Rows (clock : ℕ) (es : List Entry) (t₀ : List ℕ) (i k : ℕ) (t : List ℕ) : Type 0 where
  pub got : List Entry
  pub count : length got ≡ k
  pub whole : live_of clock es ≡ got ++ live_of clock (drop i es)
  pub size : length t ≡ length t₀
  pub is : t ≡ row_words (map row_of got) ++ drop (3 * k) t₀

pub rows_none : {clock : ℕ} {es : List Entry} {t : List ℕ} → Rows clock es t 0 0 t
unfolding row_words
rows_none = record { got = []; count = refl; whole = refl; size = refl; is = refl }

module _ {clock : ℕ} {es : List Entry} {t₀ t : List ℕ} {i k : ℕ} (r : Rows clock es t₀ i k t) where
  module _ (h : i < length es) (e : Entry) (x : e ≡ get_or es i none) where
    so : {b : Bool} → dead clock e ≡ b → dead clock (get_or es i none) ≡ b
    so d = ap (dead clock) (sym x) ∙ d

    -- a dead entry has no row
    pub rows_dead : dead clock e ≡ true → Rows clock es t₀ (i + 1) k t
    rows_dead d =
        record {
          got = r.got;
          count = r.count;
          whole = r.whole ∙ ap (λ (l : List Entry). r.got ++ l) (live_dead clock es i h (so d) ∙ ap (λ (n : ℕ). live_of clock (drop n es)) (sym (add-one i)));
          size = r.size;
          is = r.is;
        }

    -- that of a live one comes next
    pub rows_live : {t' : List ℕ} → dead clock e ≡ false → 3 * k + 3 ≤ length t₀ → t' ≡ put t (3 * k) (row_words (row_of e ∷ [])) → Rows clock es t₀ (i + 1) (k + 1) t'
    unfolding row_words
    rows_live {t'} d room p =
        let a : List ℕ = row_words (map row_of r.got) in
        let s : List ℕ = row_words (row_of e ∷ []) in
        let b : List ℕ = take 3 (drop (3 * k) t₀) in
        let c : List ℕ = drop 3 (drop (3 * k) t₀) in
        let la : length a ≡ 3 * k = length_rows (map row_of r.got) ∙ omega (arith, length-map r.got row_of, r.count) in
        let lb : length b ≡ 3 = length-take-le 3 (drop (3 * k) t₀) (omega (arith, length-drop (3 * k) t₀)) in
        let n : 3 * k + 3 ≡ 3 * (k + 1) = omega arith in
        record {
          got = r.got ++ (e ∷ []);
          count = length-append r.got (e ∷ []) ∙ omega (arith, r.count);
          whole =
              r.whole
              ∙ ap (λ (l : List Entry). r.got ++ l) (live_live clock es i h (so d) ∙ ap (λ (y : Entry). y ∷ live_of clock (drop (suc i) es)) (sym x) ∙ ap (λ (m : ℕ). e ∷ live_of clock (drop m es)) (sym (add-one i)))
              ∙ sym (append_assoc r.got (e ∷ []) (live_of clock (drop (i + 1) es)));
          size = ap length p ∙ length_put t (3 * k) s (omega (arith, r.size)) ∙ r.size;
          is =
              p
              ∙ ap (λ (l : List ℕ). put l (3 * k) s) (r.is ∙ ap (λ (l : List ℕ). a ++ l) (sym (take-append-drop 3 (drop (3 * k) t₀))))
              ∙ put_at a b c s (3 * k) la lb
              ∙ ap (λ (l : List ℕ). a ++ (s ++ l)) (drop-drop 3 (3 * k) t₀ ∙ ap (λ (m : ℕ). drop m t₀) n)
              ∙ sym (append_assoc a s (drop (3 * (k + 1)) t₀))
              ∙ ap (λ (l : List ℕ). l ++ drop (3 * (k + 1)) t₀) (sym (ap row_words (map-append row_of r.got (e ∷ [])) ∙ rows_append (map row_of r.got) (row_of e ∷ [])));
        }

  -- the rows written are those of the first live entries
  first_ones : take k (live_of clock es) ≡ r.got
  first_ones = ap (take k) r.whole ∙ take_at r.got (live_of clock (drop i es)) k r.count

  done : {most : ℕ} → k ≡ min most (length (live_of clock es)) → Listed clock most es t₀ k t
  done e =
      record {
        count = e;
        size = r.size;
        is = r.is ∙ ap (λ (l : List Entry). row_words (map row_of l) ++ drop (3 * k) t₀) (sym first_ones);
      }

  -- the limit is reached
  pub rows_full : {most : ℕ} → k ≡ most → Listed clock most es t₀ k t
  rows_full {most} e =
      let l : length (live_of clock es) ≡ length r.got + length (live_of clock (drop i es)) = ap length r.whole ∙ length-append r.got (live_of clock (drop i es)) in
      done (e ∙ sym (min-eq_left (omega (arith, r.count))))

  -- all entries have been looked at
  pub rows_all : {most : ℕ} → k ≤ most → length es ≤ i → Listed clock most es t₀ k t
  unfolding live_of
  rows_all {most} h n =
      let w : live_of clock es ≡ r.got = r.whole ∙ ap (λ (l : List Entry). r.got ++ live_of clock l) (drop_of_length-le es n) ∙ append-nil r.got in
      let l : k ≡ length (live_of clock es) = sym r.count ∙ sym (ap length w) in
      done (l ∙ sym (min-eq_right (omega arith)))
