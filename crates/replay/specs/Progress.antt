-- How far lines have been done: what is written of them, and what is left of the input.
use Rattle.std.specs.Prelude.{◌≡◌, refl, Bool, false, cond, eqb, length, take}
use Rattle.std.proofs.Math.Path.{sym, ap}
use Rattle.std.proofs.Common.{◌∙◌, arith, length-append, take_all, drop-drop, take_at, drop_at, length-take-le}
use Rattle.std.proofs.Math.Bool.{true}
use mathlib.Core.List.{List, [], ◌∷◌, ◌++◌}
use Prim.Native.Nat.{ℕ, ◌+◌, ◌-◌, ◌≤◌, ◌<◌}
use Rattle.std.proofs.Math.ListN.{drop, length-drop}
use Rattle.rules.specs.declared.Answer.{Answer}
use Rattle.rules.specs.Layout.{part, put}
use Rattle.laws.specs.LayoutLaws.{length_put}
use Rattle.rules.specs.Soundness.{every}
use Rattle.rules.specs.Replay.{Replay, LineCall, LineDone, lines_of, call_of, line_done, line_written, reached, reached_in, room}
use Rattle.printing.specs.Room.{line_most}
use Rattle.scanning.specs.Until.{other, Until}
use Rattle.replay_calls.specs.Ready.{ReadyState, Runs}
use Rattle.replay.specs.LineLaws.{Cut, cut_none, cut_line, front_lines, Gives, gives_none, gives_more, far, reached_full, reached_open, Reaches, reaches_none, reaches_line, lines_open, Went, went_none, went_line}

-- ---- one line done: what it leaves, and what is written of it at `at`

abbrev pub done_line : List ℕ → Replay → LineDone
done_line line s = line_done (call_of line) s

abbrev pub written : ℕ → LineDone → List ℕ
written n d = line_written n d.answer d.after.pool

pub record Lined (n : ℕ) (line : List ℕ) (s : Replay) (out : List ℕ) (at : ℕ) (after : Replay) (out' : List ℕ) (end : ℕ) : Type 0 where
  pub after_is : after ≡ (done_line line s).after
  pub ready : ReadyState after
  pub out_is : out' ≡ put out at (written n (done_line line s))
  pub end_is : end ≡ at + length (written n (done_line line s))
  pub end_fits : end ≤ length out

pub lined : {n : ℕ} {line : List ℕ} {s : Replay} {c : LineCall} {a : Answer} {out : List ℕ} {at : ℕ} {after : Replay} {out' : List ℕ} {end : ℕ} → c ≡ call_of line → Runs c s a after → out' ≡ put out at (line_written n a after.pool) → end ≡ at + length (line_written n a after.pool) → at + room after.pool ≤ length out → Lined n line s out at after out' end
lined {n} {line} {s} {c} {a} {out} {at} {after} {out'} {end} e r o w h =
    let done : record { answer = a; after = after } ≡ done_line line s = r.done ∙ ap (λ (x : LineCall). line_done x s) e in
    let text : line_written n a after.pool ≡ written n (done_line line s) = ap (written n) done in
    record {
      after_is = ap (λ (d : LineDone). d.after) done;
      ready = r.ready;
      out_is = o ∙ ap (put out at) text;
      end_is = w ∙ ap (λ (t : List ℕ). at + length t) text;
      end_fits = omega (arith, w, line_most n a after.pool);
    }

-- ---- lines done

-- from a state s₀ and the number lines₀ of lines before: `at` bytes of the input are done, `w` bytes of the output are written
pub record Doing (s₀ : Replay) (lines₀ : ℕ) (input out₀ : List ℕ) (s : Replay) (lines at w : ℕ) (out : List ℕ) : Type 0 where
  -- what is written and left is what the lines of these bytes give
  pub gives : Gives (lines₀ + 1) (lines_of (take at input)) s₀ (take w out) s
  -- and how far the other lines come is how far all come
  pub reaches : Reaches (length out₀) lines₀ input s₀ (length out - w) lines at s
  -- the other lines go on from there, whatever follows the input
  pub went : Went (lines₀ + 1) input s₀ (lines + 1) (drop at input) (take w out) s
  pub inside : at ≤ length input
  pub fits : w ≤ length out
  pub kept : drop w out ≡ drop w out₀
  pub ready : ReadyState s
  pub cut : Cut input at lines₀ lines
  pub moves : at ≡ 0 → w ≡ 0
  pub counted : lines ≤ lines₀ + at

-- and no line is left that could be done
pub record Done (s₀ : Replay) (lines₀ : ℕ) (input out₀ : List ℕ) (s : Replay) (lines at w : ℕ) (out : List ℕ) : Type 0 where
  pub doing : Doing s₀ lines₀ input out₀ s lines at w out
  pub far_is : far lines at ≡ reached_in (length out₀) lines₀ input s₀
  -- where there is room for another line, the rest of the input has no end of one
  pub stops : w + room s.pool ≤ length out → every (other 10) (drop at input) ≡ true

pub doing_none : {s₀ : Replay} {lines₀ : ℕ} {input out₀ : List ℕ} → ReadyState s₀ → Doing s₀ lines₀ input out₀ s₀ lines₀ 0 0 out₀
doing_none {s₀} {lines₀} {input} {out₀} r =
    record {
      gives = gives_none (lines₀ + 1) input s₀;
      reaches = reaches_none (length out₀) lines₀ input s₀;
      went = went_none (lines₀ + 1) input s₀;
      inside = omega arith;
      fits = omega arith;
      kept = refl;
      ready = r;
      cut = cut_none input lines₀;
      moves = λ z. z;
      counted = omega arith;
    }

-- ---- what is written stands before what is written next

pub take_put : (d : List ℕ) (at : ℕ) (t : List ℕ) → at + length t ≤ length d → take (at + length t) (put d at t) ≡ take at d ++ t
unfolding put
take_put d at t h =
    take_at (take at d ++ t) (drop (at + length t) d) (at + length t) (length-append (take at d) t ∙ omega (arith, length-take-le at d (omega arith)))

drop_put : (d : List ℕ) (at : ℕ) (t : List ℕ) → at + length t ≤ length d → drop (at + length t) (put d at t) ≡ drop (at + length t) d
unfolding put
drop_put d at t h =
    drop_at (take at d ++ t) (drop (at + length t) d) (at + length t) (length-append (take at d) t ∙ omega (arith, length-take-le at d (omega arith)))

-- what stands behind what is written stays as it was
pub kept_line : (out₀ : List ℕ) {n : ℕ} {line : List ℕ} {s : Replay} {out : List ℕ} {w : ℕ} {after : Replay} {out' : List ℕ} {w' : ℕ} → Lined n line s out w after out' w' → drop w out ≡ drop w out₀ → drop w' out' ≡ drop w' out₀
kept_line out₀ {n} {line} {s} {out} {w} {after} {out'} {w'} l k =
    let t : List ℕ = written n (done_line line s) in
    let tail : drop w' out' ≡ drop w' out = ap (drop w') l.out_is ∙ ap (λ (m : ℕ). drop m (put out w t)) l.end_is ∙ drop_put out w t (omega (arith, l.end_is, l.end_fits)) ∙ ap (λ (m : ℕ). drop m out) (sym l.end_is) in
    let past : w + (w' - w) ≡ w' = omega (arith, l.end_is) in
    tail ∙ ap (λ (m : ℕ). drop m out) (sym past) ∙ sym (drop-drop (w' - w) w out) ∙ ap (drop (w' - w)) k ∙ drop-drop (w' - w) w out₀ ∙ ap (λ (m : ℕ). drop m out₀) past

-- the last line of an input, where it has no end, does not end within its bytes
last_open : (space lines at : ℕ) (input : List ℕ) (s : Replay) → at ≤ length input → reached (length input) space (far lines at) (cond (eqb (length (drop at input)) 0) [] (drop at input ∷ [])) s ≡ far lines at
unfolding reached
last_open space lines at input s h = go (eqb (length (drop at input)) 0)
  where
    go : (b : Bool) → reached (length input) space (far lines at) (cond b [] (drop at input ∷ [])) s ≡ far lines at
    go true = refl
    go false = reached_open (length input) space (far lines at) (drop at input) [] s (omega (arith, length-drop at input))

-- one line more
module _ {s₀ : Replay} {lines₀ : ℕ} {input out₀ : List ℕ} {s : Replay} {lines at w : ℕ} {out : List ℕ} (g : Doing s₀ lines₀ input out₀ s lines at w out) where
  pub doing_line : {end : ℕ} {after : Replay} {out' : List ℕ} {w' : ℕ} → Until 10 input at end → end < length input → w + room s.pool ≤ length out → Lined (lines + 1) (part input at (end - at)) s out w after out' w' → Doing s₀ lines₀ input out₀ after (lines + 1) (end + 1) w' out'
  doing_line {end} {after} {out'} {w'} u h r l =
      let line : List ℕ = part input at (end - at) in
      let t : List ℕ = written (lines + 1) (done_line line s) in
      let fits : w + length t ≤ length out = omega (arith, l.end_is, l.end_fits) in
      let size : length out' ≡ length out = ap length l.out_is ∙ length_put out w t fits in
      let text : take w' out' ≡ take w out ++ t = ap (take w') l.out_is ∙ ap (λ (k : ℕ). take k (put out w t)) l.end_is ∙ take_put out w t fits in
      let space : length out' - w' ≡ (length out - w) - length t = omega (arith, size, l.end_is, fits) in
      record {
        gives = rw (text, l.after_is) (gives_more line g.gives (front_lines g.cut g.inside u h) (omega (arith, g.cut.count)));
        reaches = rw (space, l.after_is) (reaches_line g.reaches u h (omega (arith, r)));
        went = rw (text, l.after_is) (went_line g.went u h);
        inside = omega arith;
        fits = omega (arith, size);
        kept = kept_line out₀ l g.kept;
        ready = l.ready;
        cut = cut_line g.cut g.inside u h;
        moves = λ z. absurd (omega arith);
        counted = omega (arith, g.counted, u.after);
      }

  -- a rest with no end of a line
  pub doing_rest : {end : ℕ} → Until 10 input at end → length input ≤ end → Done s₀ lines₀ input out₀ s lines at w out
  unfolding reached_in
  doing_rest {end} u h =
      let rest : List ℕ = drop at input in
      let none : every (other 10) rest ≡ true = ap (every (other 10)) (sym (take_all (end - at) rest (omega (arith, length-drop at input)))) ∙ u.nowhere in
      record {
        doing = g;
        far_is =
            sym
            (g.reaches.on (length input) (omega arith)
            ∙ ap (λ (x : List (List ℕ)). reached (length input) (length out - w) (far lines at) x s) (lines_open rest none)
            ∙ last_open (length out - w) lines at input s g.inside);
        stops = λ r. none;
      }

  -- no room for another line
  pub doing_full : length out < w + room s.pool → Done s₀ lines₀ input out₀ s lines at w out
  unfolding reached_in
  doing_full f =
      record {
        doing = g;
        far_is = sym (g.reaches.on (length input) (omega arith) ∙ reached_full (length input) (length out - w) (far lines at) (lines_of (drop at input)) s (omega (arith, f)));
        stops = λ r. absurd (omega arith);
      }
