-- Lines of an input, one after the other: what is done goes before what the rest gives, whatever follows.
use Rattle.std.specs.Prelude.{◌≡◌, refl, Bool, true, cond, ℕ, suc, ◌+◌, ◌-◌, ◌≤◌, ◌<◌, eqb, leb, take, length, drop}
use Rattle.std.proofs.Common.{sym, ◌∙◌, arith, length-append, length-drop, take-append-drop, drop-cons, drop-drop, take_at, length-take-le, le-leb}
use Rattle.std.proofs.Math.Path.{ap}
use Rattle.std.proofs.Math.Bool.{and-false}
use mathlib.Core.List.{List, [], ◌∷◌, ◌++◌, append_assoc, append-nil}
use Rattle.std.proofs.lemmas.Bool.{not-true, lt-leb}
use Rattle.rules.specs.Layout.{part}
use Rattle.rules.specs.Soundness.{every}
use Rattle.rules.specs.Replay.{lines_from, lines_of, Replay, LineDone, call_of, line_done, line_written, Written, lines_done, room, Reached, behind, reached}
use Rattle.laws.specs.Booleans.{and_left, and_right}
use Rattle.scanning.specs.Until.{other, Until}

-- ---- a line, and those behind it

pub lines_plain : (begun a rest : List ℕ) → every (other 10) a ≡ true → lines_from begun (a ++ rest) ≡ lines_from (begun ++ a) rest
unfolding every lines_from
lines_plain begun [] rest e = ap (λ (x : List ℕ). lines_from x rest) (sym (append-nil begun))
lines_plain begun (b ∷ a) rest e =
    ap (λ (t : Bool). cond t (begun ∷ lines_from [] (a ++ rest)) (lines_from (begun ++ (b ∷ [])) (a ++ rest))) (not-true (eqb b 10) (and_left (other 10 b) (every (other 10) a) e))
    ∙ lines_plain (begun ++ (b ∷ [])) a rest (and_right (other 10 b) (every (other 10) a) e)
    ∙ ap (λ (x : List ℕ). lines_from x rest) (append_assoc begun (b ∷ []) a)

-- a line's bytes, its end, and what follows
pub lines_cut : (a rest : List ℕ) → every (other 10) a ≡ true → lines_of (a ++ (10 ∷ rest)) ≡ a ∷ lines_of rest
unfolding lines_of lines_from
lines_cut a rest e = lines_plain [] a (10 ∷ rest) e

-- bytes with no end: one line, unless there are none
pub lines_open : (a : List ℕ) → every (other 10) a ≡ true → lines_of a ≡ cond (eqb (length a) 0) [] (a ∷ [])
unfolding lines_of lines_from
lines_open a e = ap (lines_from []) (sym (append-nil a)) ∙ lines_plain [] a [] e

-- the bytes from `at` on: a line, its end, and the rest
cut_at : {input : List ℕ} {at end : ℕ} → Until 10 input at end → end < length input → drop at input ≡ part input at (end - at) ++ (10 ∷ drop (end + 1) input)
cut_at {input} {at} {end} u h =
    let k : ℕ = end - at in
    let e : at + k ≡ end = omega (arith, u.after) in
    let next : suc end ≡ end + 1 = omega arith in
    sym (take-append-drop k (drop at input))
    ∙ ap (λ (x : List ℕ). part input at k ++ x)
    (drop-drop k at input ∙ ap (λ (m : ℕ). drop m input) e ∙ drop-cons input end 0 h ∙ ap (λ (b : ℕ). b ∷ drop (suc end) input) (u.there h) ∙ ap (λ (m : ℕ). 10 ∷ drop m input) next)

-- ---- whole lines at the front of an input

-- the first `at` bytes are whole lines, whatever follows them, and with these `lines₀` lines have become `lines`
pub record Cut (input : List ℕ) (at lines₀ lines : ℕ) : Type 0 where
  pub whole : (more : List ℕ) → lines_of (take at input ++ more) ≡ lines_of (take at input) ++ lines_of more
  pub count : lines₀ + length (lines_of (take at input)) ≡ lines

pub cut_none : (input : List ℕ) (n : ℕ) → Cut input 0 n n
unfolding lines_of lines_from
cut_none input n = record { whole = λ more. refl; count = omega arith }

module _ {input : List ℕ} {at end lines₀ lines : ℕ} (c : Cut input at lines₀ lines) (i : at ≤ length input) (u : Until 10 input at end) (h : end < length input) where
  abbrev line : List ℕ
  line = part input at (end - at)

  front_more : (more : List ℕ) → lines_of (take (end + 1) input ++ more) ≡ lines_of (take at input) ++ (line ∷ lines_of more)
  front_more more =
      let a : List ℕ = take at input in
      let behind : List ℕ = drop (end + 1) input in
      let size : length (a ++ (line ++ (10 ∷ []))) ≡ end + 1 =
      length-append a (line ++ (10 ∷ []))
      ∙ omega (arith, length-take-le at input i, length-append line (10 ∷ []), length-take-le (end - at) (drop at input) (omega (arith, length-drop at input, u.after, u.inside)), u.after) in
      let all : input ≡ (a ++ (line ++ (10 ∷ []))) ++ behind =
      sym (take-append-drop at input)
      ∙ ap (λ (x : List ℕ). a ++ x) (cut_at u h ∙ sym (append_assoc line (10 ∷ []) behind))
      ∙ sym (append_assoc a (line ++ (10 ∷ [])) behind) in
      let front : take (end + 1) input ≡ a ++ (line ++ (10 ∷ [])) = ap (take (end + 1)) all ∙ take_at (a ++ (line ++ (10 ∷ []))) behind (end + 1) size in
      ap (λ (x : List ℕ). lines_of (x ++ more)) front
      ∙ ap lines_of (append_assoc a (line ++ (10 ∷ [])) more ∙ ap (λ (x : List ℕ). a ++ x) (append_assoc line (10 ∷ []) more))
      ∙ c.whole (line ++ (10 ∷ more))
      ∙ ap (λ (x : List (List ℕ)). lines_of a ++ x) (lines_cut line more u.nowhere)

  -- with the line's end there is one line more
  pub front_lines : lines_of (take (end + 1) input) ≡ lines_of (take at input) ++ (line ∷ [])
  unfolding lines_of lines_from
  front_lines = ap lines_of (sym (append-nil (take (end + 1) input))) ∙ front_more []

  pub cut_line : Cut input (end + 1) lines₀ (lines + 1)
  cut_line =
      let a : List (List ℕ) = lines_of (take at input) in
      record {
        whole = λ more. front_more more ∙ sym (append_assoc a (line ∷ []) (lines_of more)) ∙ ap (λ (x : List (List ℕ)). x ++ lines_of more) (sym front_lines);
        count = omega (arith, c.count, ap length front_lines ∙ length-append a (line ∷ []));
      }

-- ---- the lines done, by themselves

-- one line more
done_more : (n m : ℕ) (lines : List (List ℕ)) (line : List ℕ) (s : Replay) → m ≡ n + length lines → lines_done n (lines ++ (line ∷ [])) s ≡ record { output = (lines_done n lines s).output ++ line_written m (line_done (call_of line) (lines_done n lines s).left).answer (line_done (call_of line) (lines_done n lines s).left).after.pool; left = (line_done (call_of line) (lines_done n lines s).left).after }
unfolding lines_done
done_more n m [] line s e =
    let d : LineDone = line_done (call_of line) s in
    let same : n ≡ m = omega (arith, e) in
    ap (λ (t : List ℕ). record { output = t; left = d.after }) (append-nil (line_written n d.answer d.after.pool) ∙ ap (λ (k : ℕ). line_written k d.answer d.after.pool) same)
done_more n m (x ∷ lines) line s e =
    let d : LineDone = line_done (call_of x) s in
    let text : List ℕ = line_written n d.answer d.after.pool in
    let w : Written = lines_done (n + 1) lines d.after in
    let last : LineDone = line_done (call_of line) w.left in
    ap (λ (v : Written). record { output = text ++ v.output; left = v.left }) (done_more (n + 1) m lines line d.after (omega (arith, e)))
    ∙ ap (λ (t : List ℕ). record { output = t; left = last.after }) (sym (append_assoc text w.output (line_written m last.answer last.after.pool)))

-- lines one after the other, so many of them: this is written, and they leave s
pub record Gives (n : ℕ) (lines : List (List ℕ)) (s₀ : Replay) (text : List ℕ) (s : Replay) : Type 0 where
  pub done : lines_done n lines s₀ ≡ record { output = text; left = s }

pub gives_none : (n : ℕ) (input : List ℕ) (s : Replay) → Gives n (lines_of (take 0 input)) s [] s
unfolding lines_of lines_from lines_done
gives_none n input s = record { done = refl }

pub gives_more : {n m : ℕ} {lines all : List (List ℕ)} {s₀ s : Replay} {text : List ℕ} (line : List ℕ) → Gives n lines s₀ text s → all ≡ lines ++ (line ∷ []) → m ≡ n + length lines → Gives n all s₀ (text ++ line_written m (line_done (call_of line) s).answer (line_done (call_of line) s).after.pool) (line_done (call_of line) s).after
gives_more {n} {m} {lines} {all} {s₀} {s} {text} line g a e =
    record {
      done =
          ap (λ (x : List (List ℕ)). lines_done n x s₀) a
          ∙ done_more n m lines line s₀ e
          ∙ ap (λ (w : Written). record { output = w.output ++ line_written m (line_done (call_of line) w.left).answer (line_done (call_of line) w.left).after.pool; left = (line_done (call_of line) w.left).after }) g.done;
    }

-- ---- how far they are done

abbrev pub far : ℕ → ℕ → Reached
far lines bytes = record { lines = lines; bytes = bytes }

-- no room for a line
pub reached_full : (most space : ℕ) (r : Reached) (lines : List (List ℕ)) (s : Replay) → space < room s.pool → reached most space r lines s ≡ r
unfolding reached
reached_full most space r [] s h = refl
reached_full most space r (line ∷ lines) s h = rw (lt-leb (room s.pool) space h, and-false (leb (behind r line).bytes most))

-- a line that does not end within the bytes
pub reached_open : (most space : ℕ) (r : Reached) (line : List ℕ) (lines : List (List ℕ)) (s : Replay) → most < (behind r line).bytes → reached most space r (line ∷ lines) s ≡ r
unfolding reached
reached_open most space r line lines s h = rw (lt-leb (behind r line).bytes most h)

pub reached_more : (most space : ℕ) (r : Reached) (line : List ℕ) (lines : List (List ℕ)) (s : Replay) → (behind r line).bytes ≤ most → room s.pool ≤ space → reached most space r (line ∷ lines) s ≡ reached most (space - length (line_written (r.lines + 1) (line_done (call_of line) s).answer (line_done (call_of line) s).after.pool)) (behind r line) lines (line_done (call_of line) s).after
unfolding reached
reached_more most space r line lines s e h = rw (le-leb (behind r line).bytes most e, le-leb (room s.pool) space h)

-- the first `at` bytes of an input are done: where its other lines come to is where all come to
pub record Reaches (space₀ lines₀ : ℕ) (input : List ℕ) (s₀ : Replay) (space lines at : ℕ) (s : Replay) : Type 0 where
  pub on : (most : ℕ) → length input ≤ most → reached most space₀ (far lines₀ 0) (lines_of input) s₀ ≡ reached most space (far lines at) (lines_of (drop at input)) s

pub reaches_none : (space lines : ℕ) (input : List ℕ) (s : Replay) → Reaches space lines input s (space - 0) lines 0 s
reaches_none space lines input s =
    let e : space ≡ space - 0 = omega arith in
    record { on = λ most h. ap (λ (k : ℕ). reached most k (far lines 0) (lines_of input) s) e }

pub reaches_line : {space₀ lines₀ : ℕ} {input : List ℕ} {s₀ : Replay} {space lines at end : ℕ} {s : Replay} → Reaches space₀ lines₀ input s₀ space lines at s → Until 10 input at end → end < length input → room s.pool ≤ space → Reaches space₀ lines₀ input s₀ (space - length (line_written (lines + 1) (line_done (call_of (part input at (end - at))) s).answer (line_done (call_of (part input at (end - at))) s).after.pool)) (lines + 1) (end + 1) (line_done (call_of (part input at (end - at))) s).after
reaches_line {space₀} {lines₀} {input} {s₀} {space} {lines} {at} {end} {s} g u h r =
    let line : List ℕ = part input at (end - at) in
    let d : LineDone = line_done (call_of line) s in
    let text : List ℕ = line_written (lines + 1) d.answer d.after.pool in
    let rest : List (List ℕ) = lines_of (drop (end + 1) input) in
    let next : at + (length line + 1) ≡ end + 1 = omega (arith, length-take-le (end - at) (drop at input) (omega (arith, length-drop at input, u.after, u.inside)), u.after) in
    record {
      on = λ most l.
          g.on most l
          ∙ ap (λ (x : List ℕ). reached most space (far lines at) (lines_of x) s) (cut_at u h)
          ∙ ap (λ (x : List (List ℕ)). reached most space (far lines at) x s) (lines_cut line (drop (end + 1) input) u.nowhere)
          ∙ reached_more most space (far lines at) line rest s (omega (arith, next)) r
          ∙ ap (λ (b : ℕ). reached most (space - length text) (far (lines + 1) b) rest d.after) next;
    }

-- ---- what is done goes before what the rest gives

abbrev pub before : List ℕ → Written → Written
before text w = record { output = text ++ w.output; left = w.left }

-- from the line with the number n₀ on: `text` is written, and the line with the number n is the first of `rest`; whatever follows the input
pub record Went (n₀ : ℕ) (input : List ℕ) (s₀ : Replay) (n : ℕ) (rest text : List ℕ) (s : Replay) : Type 0 where
  pub goes : (more : List ℕ) → lines_done n₀ (lines_of (input ++ more)) s₀ ≡ before text (lines_done n (lines_of (rest ++ more)) s)

pub went_none : (n : ℕ) (input : List ℕ) (s : Replay) → Went n input s n input [] s
went_none n input s = record { goes = λ more. refl }

-- one line more
pub went_line : {n₀ : ℕ} {input : List ℕ} {s₀ : Replay} {n at end : ℕ} {text : List ℕ} {s : Replay} → Went n₀ input s₀ n (drop at input) text s → Until 10 input at end → end < length input → Went n₀ input s₀ (n + 1) (drop (end + 1) input) (text ++ line_written n (line_done (call_of (part input at (end - at))) s).answer (line_done (call_of (part input at (end - at))) s).after.pool) (line_done (call_of (part input at (end - at))) s).after
unfolding lines_done
went_line {n₀} {input} {s₀} {n} {at} {end} {text} {s} g u h =
    let line : List ℕ = part input at (end - at) in
    let d : LineDone = line_done (call_of line) s in
    let behind : List ℕ = drop (end + 1) input in
    record {
      goes = λ more.
          g.goes more
          ∙ ap (λ (x : List ℕ). before text (lines_done n (lines_of (x ++ more)) s)) (cut_at u h)
          ∙ ap (λ (x : List ℕ). before text (lines_done n (lines_of x) s)) (append_assoc line (10 ∷ behind) more)
          ∙ ap (λ (x : List (List ℕ)). before text (lines_done n x s)) (lines_cut line (behind ++ more) u.nowhere)
          ∙ ap (λ (t : List ℕ). record { output = t; left = (lines_done (n + 1) (lines_of (behind ++ more)) d.after).left })
          (sym (append_assoc text (line_written n d.answer d.after.pool) (lines_done (n + 1) (lines_of (behind ++ more)) d.after).output));
    }
