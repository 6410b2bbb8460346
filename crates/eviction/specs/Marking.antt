-- The marks of a line, written entry by entry from the longest unused on, are the marks of Cost.
use Rattle.std.specs.Prelude.{◌≡◌, Bool, true, false, ◌||◌, length, drop, get_or}
use Rattle.std.proofs.Math.Path.{refl, sym, ap}
use Rattle.std.proofs.Common.{◌∙◌}
use Rattle.std.proofs.Math.Bool.{cond}
use mathlib.Core.List.{List, [], ◌∷◌, reverse}
use Rattle.std.proofs.Math.Logic.{⊎_elim}
use Prim.Native.Nat.{ℕ, zero, suc, ◌+◌, ◌≤◌, ◌<◌}
use native.Mathlib.Omega.{arith}
use Rattle.rules.specs.declared.Entry.{Entry}
use Rattle.rules.specs.Layout.{need_of, entries_of, none, Dir}
use Rattle.rules.specs.Time.{dead}
use Rattle.rules.specs.Recency.{deads, after}
use Rattle.rules.specs.Place.{holds, held}
use Rattle.laws.specs.Cost.{mark, held_drop}
use Rattle.laws.specs.Lists.{Each, each_at}
use Rattle.laws.specs.Crowd.{Some}
use Rattle.laws.specs.RecencyLaws.{deads_zero, line_more}
use Rattle.eviction.specs.declared.Turn.{Turn}
use Rattle.eviction.specs.Turns.{round_of, more_of, next_turn, Joins, Begins, turn_of}
use Rattle.laws.specs.Marks.{Written, written_cells}
use Rattle.eviction.specs.Lines.{line_to, line_all}

-- ---- one cell

-- what is written into a cell that has a number: that of the last entry that holds it
unfoldable pub mark_from : ℕ → ℕ → ℕ → List Entry → ℕ → ℕ → ℕ
mark_from clock r k [] c old = old
mark_from clock r k (e ∷ es) c old =
    mark_from clock (round_of (dead clock e) r k) (more_of (dead clock e) k) es c (cond (holds e c) (round_of (dead clock e) r k) old)

-- the mark of a cell, where n more rounds have a number of their own
abbrev mark_by : ℕ → ℕ → List Entry → ℕ → ℕ
mark_by clock zero es c = 0
mark_by clock (suc n) es c = mark clock n es c

mark_by_is : (clock n : ℕ) (es : List Entry) (c : ℕ) → mark_by clock (suc n) es c ≡ cond (held es c) (suc (mark_by clock n (after clock es) c)) 0
unfolding mark
mark_by_is clock zero es c = refl
mark_by_is clock (suc n) es c = refl

mark_free : (clock n : ℕ) (es : List Entry) (c : ℕ) → held es c ≡ false → mark_by clock n es c ≡ 0
mark_free clock zero es c h = refl
mark_free clock (suc n) es c h = mark_by_is clock n es c ∙ rw h

either : (a b : Bool) (q x old : ℕ) → (b ≡ false → x ≡ 0) → cond b (q + x) (cond a q old) ≡ cond (a || b) (q + x) old
either true true q x old h = refl
either false true q x old h = refl
either true false q x old h = omega (arith, h refl)
either false false q x old h = refl

next_mark : (b : Bool) (r x old : ℕ) → cond b (r + 1 + x) old ≡ cond b (r + cond b (suc x) 0) old
next_mark true r x old = omega arith
next_mark false r x old = refl

module _ (clock c : ℕ) where
  -- what the rest of the line writes into the cell
  abbrev Rest : ℕ → ℕ → ℕ → List Entry → ℕ → Type 0
  Rest n r k es old = mark_from clock r k es c old ≡ cond (held es c) (r + mark_by clock n (drop (deads clock k es) es) c) old

  joins_rest : (n r k old : ℕ) (e : Entry) (es : List Entry) → Joins clock r k e es → Rest n r (more_of (dead clock e) k) es (cond (holds e c) r old) → Rest n r k (e ∷ es) old
  unfolding mark_from held
  joins_rest n r k old e es j ih =
      rw (j.round, j.counted)
      (ih ∙ either (holds e c) (held es c) r (mark_by clock n (drop (deads clock (more_of (dead clock e) k) es) es) c) old (λ h. mark_free clock n (drop (deads clock (more_of (dead clock e) k) es) es) c (held_drop (deads clock (more_of (dead clock e) k) es) es c h)))

  begins_rest : (n r k old : ℕ) (e : Entry) (es : List Entry) → r + suc n ≡ 31 → Begins clock r k e es → Rest n (r + 1) 2 es (cond (holds e c) (r + 1) old) → Rest (suc n) r k (e ∷ es) old
  unfolding mark_from held after
  begins_rest n r k old e es l b ih =
      let t : round_of (dead clock e) r k ≡ r + 1 = b.round ∙ omega arith in
      let x : ℕ = mark_by clock n (drop (deads clock 2 es) es) c in
      rw (t, b.two, b.none)
      (ih
      ∙ either (holds e c) (held es c) (r + 1) x old (λ h. mark_free clock n (drop (deads clock 2 es) es) c (held_drop (deads clock 2 es) es c h))
      ∙ next_mark (holds e c || held es c) r x old
      ∙ ap (λ (m : ℕ). cond (holds e c || held es c) (r + m) old) (sym (mark_by_is clock n (e ∷ es) c)))

  last_rest : (r k old : ℕ) (e : Entry) (es : List Entry) → r ≡ 31 → Begins clock r k e es → Rest 0 r 2 es (cond (holds e c) r old) → Rest 0 r k (e ∷ es) old
  unfolding mark_from held
  last_rest r k old e es l b ih =
      let t : round_of (dead clock e) r k ≡ r = b.round ∙ omega arith in
      rw (t, b.two) (ih ∙ either (holds e c) (held es c) r 0 old (λ h. refl))

  rest_marks : (n r k : ℕ) (es : List Entry) (old : ℕ) → r + n ≡ 31 → Rest n r k es old
  unfolding mark_from held
  rest_marks n r k [] old l = refl
  rest_marks zero r k (e ∷ es) old l =
      ⊎_elim
      (λ j. joins_rest 0 r k old e es j (rest_marks 0 r (more_of (dead clock e) k) es (cond (holds e c) r old) l))
      (λ b. last_rest r k old e es (omega arith) b (rest_marks 0 r 2 es (cond (holds e c) r old) l))
      (turn_of clock r k e es)
  rest_marks (suc n) r k (e ∷ es) old l =
      ⊎_elim
      (λ j. joins_rest (suc n) r k old e es j (rest_marks (suc n) r (more_of (dead clock e) k) es (cond (holds e c) r old) l))
      (λ b. begins_rest n r k old e es l b (rest_marks n (r + 1) 2 es (cond (holds e c) (r + 1) old) (omega arith)))
      (turn_of clock r k e es)

  -- the whole line, over an unmarked cell
  pub mark_all : (es : List Entry) → mark clock 30 es c ≡ mark_from clock 0 0 es c 0
  mark_all es = sym (rest_marks 31 0 0 es 0 refl ∙ rw (deads_zero clock es) (go (held es c) refl))
    where
      go : (b : Bool) → held es c ≡ b → cond b (0 + mark clock 30 es c) 0 ≡ mark clock 30 es c
      go true h = omega arith
      go false h = sym (mark_free clock 31 es c h)

-- ---- the loop over a directory

-- cells without a mark, for the entries of a directory
pub record Blank (marks dir : List ℕ) : Type 0 where
  pub few : length marks ≤ 1024
  pub blank : (c : ℕ) → get_or marks c 0 ≡ 0
  pub dir_is : Dir dir
  pub each : Each (λ e. Some e × (e.start + need_of e ≤ length marks)) (entries_of dir)

-- the marks of P cells for a line
pub record Marked (clock P : ℕ) (es : List Entry) (marks : List ℕ) : Type 0 where
  pub size : length marks ≡ P
  pub marked : (c : ℕ) → get_or marks c 0 ≡ mark clock 30 es c

-- the first i entries are still to be marked
pub record Marking (clock P : ℕ) (dir : List ℕ) (i : ℕ) (t : Turn) (marks : List ℕ) : Type 0 where
  pub count : i ≤ length (entries_of dir)
  pub size : length marks ≡ P
  pub rest : (c : ℕ) → mark clock 30 (reverse (entries_of dir)) c ≡ mark_from clock t.round t.more (line_to (entries_of dir) i) c (get_or marks c 0)

pub marking_none : {clock : ℕ} {dir marks : List ℕ} (i : ℕ) → i ≡ length (entries_of dir) → Blank marks dir → Marking clock (length marks) dir i (record { round = 0; more = 0 }) marks
marking_none {clock} {dir} {marks} i e b =
    record {
      count = omega arith;
      size = refl;
      rest = λ c. rw (e, b.blank c) (mark_all clock c (reverse (entries_of dir)) ∙ ap (λ (l : List Entry). mark_from clock 0 0 l c 0) (line_all (entries_of dir)));
    }

-- the next entry is that at i
module _ {clock P : ℕ} {dir marks : List ℕ} {t : Turn} {k : ℕ} (m : Marking clock P dir k t marks) {i : ℕ} (s : k ≡ suc i) where
  pub next_within : i < length (entries_of dir)
  next_within = omega (arith, m.count)

  -- its cells
  pub marking_cells : {old : List ℕ} (e : Entry) → e ≡ get_or (entries_of dir) i none → Blank old dir → length old ≡ P → (0 < e.klen + e.vlen) × (length marks ≤ 1024) × (e.start + need_of e ≤ length marks)
  marking_cells {old} e x b l =
      let h : Some e × (e.start + need_of e ≤ length old) = rw (sym x) at (each_at i next_within b.each) in
      (omega (arith, h.0), omega (arith, b.few, m.size), omega (arith, h.1, m.size))

  pub marking_more : {new : List ℕ} {d : Bool} (e : Entry) (u : Turn) → e ≡ get_or (entries_of dir) i none → d ≡ dead clock e → u ≡ next_turn d t → Written marks new e.start (e.start + need_of e) u.round → Marking clock P dir i u new
  unfolding mark_from
  marking_more {new} {d} e u x y z w =
      let v : u ≡ next_turn (dead clock e) t = z ∙ ap (λ (b : Bool). next_turn b t) y in
      let next : line_to (entries_of dir) k ≡ e ∷ line_to (entries_of dir) i = ap (line_to (entries_of dir)) s ∙ line_more (entries_of dir) i next_within ∙ ap (λ (f : Entry). f ∷ line_to (entries_of dir) i) (sym x) in
      record {
        count = omega (arith, next_within);
        size = w.size ∙ m.size;
        rest = λ c. rw (written_cells e w c, v) (m.rest c ∙ ap (λ (es : List Entry). mark_from clock t.round t.more es c (get_or marks c 0)) next);
      }

pub marking_done : {clock P : ℕ} {dir marks : List ℕ} {t : Turn} {i : ℕ} → Marking clock P dir i t marks → i ≡ 0 → Marked clock P (reverse (entries_of dir)) marks
unfolding mark_from
marking_done {clock} {P} {dir} {marks} {t} m z =
    record { size = m.size; marked = λ c. sym (m.rest c ∙ ap (λ (i : ℕ). mark_from clock t.round t.more (line_to (entries_of dir) i) c (get_or marks c 0)) z) }
