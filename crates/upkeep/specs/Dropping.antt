-- A loop that takes the dead entries from an index on out, from the front: what stands after some turns.
use Rattle.std.specs.Prelude.{◌≡◌, refl, true, false, get_or}
use Rattle.std.proofs.Math.Path.{sym, ap}
use Rattle.std.proofs.Common.{◌∙◌, add-one, length-append, length-drop, drop_of_length-le, take-append-drop, drop_at, get_or-append-add, get_or-drop, length-take-le}
use mathlib.Core.List.{List, [], ◌∷◌, ◌++◌, append-nil}
use Prim.Native.Nat.{ℕ, suc, ◌+◌, ◌-◌, ◌≤◌, ◌<◌}
use native.Mathlib.Omega.{arith}
use Rattle.std.proofs.Math.ListN.{length, take, drop}
use Rattle.std.proofs.Math.Seq.{take_at, drop-drop, append_snoc}
use Rattle.rules.specs.declared.Entry.{Entry}
use Rattle.rules.specs.Layout.{encode, entries_of, none, replace_at, Dir}
use Rattle.rules.specs.Time.{dead}
use Rattle.rules.specs.Calls.{live_of}
use Rattle.laws.specs.LayoutLaws.{entries_encode, length_encode, dir_encode}
use Rattle.laws.specs.Live.{live_dead, live_live}
use Rattle.upkeep.specs.LiveFrom.{live_entries}

-- how many entries are left, and the directory without the dead ones from `first` on
pub record Dropped (clock first : ℕ) (dir : List ℕ) (left : ℕ) (dir' : List ℕ) : Type 0 where
  pub count : left ≡ length (live_entries clock first (entries_of dir))
  pub few : left ≤ length (entries_of dir)
  pub words : dir' ≡ encode (length dir) (live_entries clock first (entries_of dir))

-- the first i entries are passed: the records before `to` are those of the ones kept, and from there on they are as they were
pub record Moved (clock first : ℕ) (d₀ : List ℕ) (to i : ℕ) (d : List ℕ) : Type 0 where
  pub kept : List Entry
  pub count : length kept ≡ to
  pub whole : live_entries clock first (entries_of d₀) ≡ kept ++ live_of clock (drop i (entries_of d₀))
  pub order : to ≤ i
  pub some : i ≤ length (entries_of d₀)
  pub is : entries_of d ≡ kept ++ drop to (entries_of d₀)
  pub number : length (entries_of d) ≡ length (entries_of d₀)
  pub size : length d ≡ length d₀
  pub dir : Dir d

pub moved_none : {clock first : ℕ} {d : List ℕ} → Dir d → first ≤ length (entries_of d) → Moved clock first d first first d
moved_none {clock} {first} {d} w h =
    record {
      kept = take first (entries_of d);
      count = length-take-le first (entries_of d) h;
      whole = refl;
      order = omega arith;
      some = h;
      is = sym (take-append-drop first (entries_of d));
      number = refl;
      size = refl;
      dir = w;
    }

module _ {clock first to i : ℕ} {d₀ d : List ℕ} (w : Moved clock first d₀ to i d) where
  abbrev es : List Entry
  es = entries_of d₀

  -- the next entry is still where it was
  moved_at : get_or (entries_of d) i none ≡ get_or es i none
  moved_at =
      let a : List Entry = w.kept in
      let p : i ≡ length a + (i - to) = omega (arith, w.count, w.order) in
      let q : to + (i - to) ≡ i = omega (arith, w.order) in
      ap (λ (l : List Entry). get_or l i none) w.is
      ∙ ap (λ (k : ℕ). get_or (a ++ drop to es) k none) p
      ∙ get_or-append-add a (drop to es) (i - to) none
      ∙ get_or-drop to es (i - to) none
      ∙ ap (λ (k : ℕ). get_or es k none) q

  module _ (h : i < length es) (e : Entry) (x : e ≡ get_or (entries_of d) i none) where
    so : dead clock e ≡ dead clock (get_or es i none)
    so = ap (dead clock) (x ∙ moved_at)

    -- a dead one is passed
    pub moved_dead : dead clock e ≡ true → Moved clock first d₀ to (i + 1) d
    moved_dead t =
        record {
          kept = w.kept;
          count = w.count;
          whole = w.whole ∙ ap (λ (l : List Entry). w.kept ++ l) (live_dead clock es i h (sym so ∙ t) ∙ ap (λ (k : ℕ). live_of clock (drop k es)) (sym (add-one i)));
          order = omega (arith, w.order);
          some = omega arith;
          is = w.is;
          number = w.number;
          size = w.size;
          dir = w.dir;
        }

    -- the record at `to` becomes that of a live one
    replace_next : replace_at to e (entries_of d) ≡ (w.kept ++ (e ∷ [])) ++ drop (to + 1) es
    unfolding replace_at
    replace_next =
        let a : List Entry = w.kept in
        let b : List Entry = drop to es in
        let s : suc to ≡ to + 1 = omega arith in
        ap (λ (l : List Entry). take to l ++ (e ∷ drop (suc to) l)) w.is
        ∙ ap (λ (l : List Entry). l ++ (e ∷ drop (suc to) (a ++ b))) (take_at a b to w.count)
        ∙ ap (λ (k : ℕ). a ++ (e ∷ drop k (a ++ b))) s
        ∙ ap (λ (l : List Entry). a ++ (e ∷ l)) (sym (drop-drop 1 to (a ++ b)) ∙ ap (drop 1) (drop_at a b to w.count) ∙ drop-drop 1 to es)
        ∙ sym (append_snoc a e (drop (to + 1) es))

    pub moved_live : dead clock e ≡ false → {d' : List ℕ} → d' ≡ encode (length d) (replace_at to e (entries_of d)) → Moved clock first d₀ (to + 1) (i + 1) d'
    moved_live t {d'} c =
        let a : List Entry = w.kept ++ (e ∷ []) in
        let l : List Entry = a ++ drop (to + 1) es in
        let la : length a ≡ to + 1 = length-append w.kept (e ∷ []) ∙ omega (arith, w.count) in
        let ll : length l ≡ length es = length-append a (drop (to + 1) es) ∙ omega (arith, length-drop (to + 1) es, w.order) in
        let r : d' ≡ encode (length d) l = c ∙ ap (encode (length d)) replace_next in
        record {
          kept = a;
          count = la;
          whole =
              w.whole
              ∙ ap (λ (y : List Entry). w.kept ++ y) (live_live clock es i h (sym so ∙ t) ∙ ap (λ (f : Entry). f ∷ live_of clock (drop (suc i) es)) (sym (x ∙ moved_at)) ∙ ap (λ (k : ℕ). e ∷ live_of clock (drop k es)) (sym (add-one i)))
              ∙ sym (append_snoc w.kept e (live_of clock (drop (i + 1) es)));
          order = omega (arith, w.order);
          some = omega arith;
          is = ap entries_of r ∙ entries_encode (length d) l;
          number = ap (λ (y : List ℕ). length (entries_of y)) r ∙ ap length (entries_encode (length d) l) ∙ ll;
          size = ap length r ∙ length_encode (length d) l (omega (arith, w.dir.room, w.number)) ∙ w.size;
          dir = rw r (dir_encode (length d) l (omega (arith, w.dir.room, w.number)));
        }

  -- all are passed, and the records behind those kept are cleared
  pub moved_all : {d' : List ℕ} → length es ≤ i → d' ≡ encode (length d) (take to (entries_of d)) → Dropped clock first d₀ to d'
  unfolding live_of
  moved_all h c =
      let a : List Entry = w.kept in
      let done : live_entries clock first es ≡ a = w.whole ∙ ap (λ (l : List Entry). a ++ live_of clock l) (drop_of_length-le es {i = i} h) ∙ append-nil a in
      record {
        count = sym (ap length done ∙ w.count);
        few = omega (arith, w.order, w.some);
        words = c ∙ ap (λ (k : ℕ). encode k (take to (entries_of d))) w.size ∙ ap (encode (length d₀)) (ap (take to) w.is ∙ take_at a (drop to es) to w.count ∙ sym done);
      }
