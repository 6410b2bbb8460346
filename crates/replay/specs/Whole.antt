-- A whole input, at once or in pieces.
use Rattle.std.specs.Prelude.{◌≡◌, refl, Bool, true, false, eqb, leb, Result, Ok, Err}
use Rattle.std.proofs.Math.Path.{sym, ap}
use Rattle.std.proofs.Common.{◌∙◌, arith, take-append-drop, drop_of_length-le, drop_at, drop-drop, take_all, take_at, length-take-le, ne_eqb, leb-true, leb-false}
use Rattle.std.proofs.Math.Bool.{cond}
use mathlib.Core.List.{List, [], ◌∷◌, ◌++◌, append-nil, append_assoc}
use Prim.Native.Nat.{ℕ, ◌+◌, ◌-◌, ◌≤◌, ◌<◌, min}
use Rattle.std.proofs.Math.Nat.{min-eq_left, min-eq_right}
use Rattle.std.proofs.Math.ListN.{length, take, drop, length-append, length-drop}
use Rattle.std.proofs.Math.Seq.{take-length}
use Rattle.rules.specs.Soundness.{every}
use Rattle.rules.specs.Layout.{part, put}
use Rattle.laws.specs.LayoutLaws.{length_put}
use Rattle.rules.specs.Replay.{lines_from, lines_of, LineCall, call_of, Replay, line_done, line_written, Written, lines_done, header, replay_of, room, Reached, reached, reached_of}
use Rattle.scanning.specs.Until.{other}
use Rattle.lines.specs.CallLaws.{too_long}
use Rattle.replay.specs.declared.Progress.{Progress}
use Rattle.replay.specs.declared.ReplayDone.{ReplayDone}
use Rattle.replay.specs.declared.OutputTooShort.{OutputTooShort}
use Rattle.replay_calls.specs.Front.{state}
use Rattle.replay.specs.LineLaws.{lines_plain, lines_cut, lines_open, before, Gives, gives_more, far, reached_full, reached_more}
use Rattle.replay.specs.Progress.{Done, Lined, written, done_line, take_put, kept_line}

-- ---- a line that has not ended

-- what is kept of its bytes
abbrev pub held : List ℕ → List ℕ
held rest = take 4097 rest

-- two calls that are the same are done alike
head_same : (n : ℕ) (a b : List ℕ) (lines : List (List ℕ)) (s : Replay) → call_of a ≡ call_of b → lines_done n (a ∷ lines) s ≡ lines_done n (b ∷ lines) s
unfolding lines_done
head_same n a b lines s e =
    ap
    (λ (c : LineCall).
    record {
      output = line_written n (line_done c s).answer (line_done c s).after.pool ++ (lines_done (n + 1) lines (line_done c s).after).output;
      left = (lines_done (n + 1) lines (line_done c s).after).left;
    })
    e

-- whatever an over-long line begins with and goes on with, it is done alike
long_same : (n : ℕ) (a b more : List ℕ) (s : Replay) → 4096 < length a → 4096 < length b → lines_done n (lines_from a more) s ≡ lines_done n (lines_from b more) s
unfolding lines_from
long_same n a b [] s ha hb =
    ap (λ (c : Bool). lines_done n (cond c [] (a ∷ [])) s) (ne_eqb (length a) 0 (λ z. absurd (omega (arith, z))))
    ∙ head_same n a b [] s (too_long a ha ∙ sym (too_long b hb))
    ∙ sym (ap (λ (c : Bool). lines_done n (cond c [] (b ∷ [])) s) (ne_eqb (length b) 0 (λ z. absurd (omega (arith, z)))))
long_same n a b (x ∷ more) s ha hb =
    go (eqb x 10) (long_same n (a ++ (x ∷ [])) (b ++ (x ∷ [])) more s (omega (arith, length-append a (x ∷ []))) (omega (arith, length-append b (x ∷ []))))
  where
    go : (c : Bool) → lines_done n (lines_from (a ++ (x ∷ [])) more) s ≡ lines_done n (lines_from (b ++ (x ∷ [])) more) s → lines_done n (cond c (a ∷ lines_from [] more) (lines_from (a ++ (x ∷ [])) more)) s ≡ lines_done n (cond c (b ∷ lines_from [] more) (lines_from (b ++ (x ∷ [])) more)) s
    go true h = head_same n a b (lines_from [] more) s (too_long a ha ∙ sym (too_long b hb))
    go false h = h

-- what is kept of a line that has not ended does for it, whatever follows
pub held_same : (rest more : List ℕ) (n : ℕ) (s : Replay) → every (other 10) rest ≡ true → every (other 10) (held rest) ≡ true → lines_done n (lines_of (rest ++ more)) s ≡ lines_done n (lines_of (held rest ++ more)) s
unfolding lines_of
held_same rest more n s e k = go (leb (length rest) 4097) refl
  where
    go : (c : Bool) → leb (length rest) 4097 ≡ c → lines_done n (lines_of (rest ++ more)) s ≡ lines_done n (lines_of (held rest ++ more)) s
    go true h = ap (λ (x : List ℕ). lines_done n (lines_of (x ++ more)) s) (sym (take_all 4097 rest (leb-true (length rest) 4097 h)))
    go false h =
        ap (λ (x : List (List ℕ)). lines_done n x s) (lines_plain [] rest more e)
        ∙ long_same n rest (held rest) more s (omega (arith, leb-false (length rest) 4097 h)) (omega (arith, leb-false (length rest) 4097 h, length-take-le 4097 rest (omega (arith, leb-false (length rest) 4097 h))))
        ∙ sym (ap (λ (x : List (List ℕ)). lines_done n x s) (lines_plain [] (held rest) more k))

-- as the code keeps it: the first n bytes, where n is no more than 4,097
held_by : (rest : List ℕ) (n : ℕ) (c : Bool) → leb (length rest) 4097 ≡ c → n ≡ min (length rest) 4097 → take n rest ≡ held rest
held_by rest n true h e =
    let l : length rest ≤ 4097 = leb-true (length rest) 4097 h in
    take_all n rest (omega (arith, e, min-eq_left l)) ∙ sym (take_all 4097 rest l)
held_by rest n false h e =
    let k : n ≡ 4097 = e ∙ min-eq_right (omega (arith, leb-false (length rest) 4097 h)) in
    ap (λ (m : ℕ). take m rest) k

pub held_min : (rest : List ℕ) {n : ℕ} → n ≡ min (length rest) 4097 → take n rest ≡ held rest
held_min rest {n} e = held_by rest n (leb (length rest) 4097) refl e

pub held_count : (rest : List ℕ) {n : ℕ} → n ≡ min (length rest) 4097 → n ≡ length (held rest)
held_count rest {n} e = sym (length-take-le n rest (omega (arith, e))) ∙ ap length (held_min rest e)

pub put_first : (d s : List ℕ) {n : ℕ} → n ≡ length s → s ++ drop n d ≡ put d 0 s
unfolding put
put_first d s {n} e = let z : n ≡ 0 + length s = omega (arith, e) in ap (λ (k : ℕ). s ++ drop k d) z

-- with an end: one line
pub held_ends : (rest : List ℕ) → every (other 10) rest ≡ true → 0 < length rest → lines_of (rest ++ (10 ∷ [])) ≡ lines_of rest
unfolding lines_of lines_from
held_ends rest e h = lines_cut rest [] e ∙ ap (λ (c : Bool). cond c [] (rest ∷ [])) (sym (ne_eqb (length rest) 0 (λ z. absurd (omega (arith, z))))) ∙ sym (lines_open rest e)

-- ---- parts of lists

-- a list from b on
pub rest_all : (l : List ℕ) (b : ℕ) → part l b (length l - b) ≡ drop b l
rest_all l b = take_all (length l - b) (drop b l) (omega (arith, length-drop b l))

-- a list, and the first w of another, in front of others
take_front : (a y c : List ℕ) (n w : ℕ) → length a ≡ n → w ≤ length y → take (n + w) (a ++ (y ++ c)) ≡ a ++ take w y
take_front a y c n w e h =
    ap (λ (x : List ℕ). take (n + w) (a ++ (x ++ c))) (sym (take-append-drop w y))
    ∙ ap (λ (x : List ℕ). take (n + w) (a ++ x)) (append_assoc (take w y) (drop w y) c)
    ∙ ap (take (n + w)) (sym (append_assoc a (take w y) (drop w y ++ c)))
    ∙ take_at (a ++ take w y) (drop w y ++ c) (n + w) (length-append a (take w y) ∙ omega (arith, e, length-take-le w y h))

-- ---- lines to the end of the input

-- no more than so many bytes
abbrev pub capped : ℕ → Reached → Reached
capped n r = record { lines = r.lines; bytes = min r.bytes n }

within : (lines at n : ℕ) → at ≤ n → far lines at ≡ capped n (far lines at)
within lines at n h = ap (far lines) (sym (min-eq_left h))

-- how far an input is done: `w` bytes are written, and what the rest of the input gives follows them
pub record Behind (input out₀ : List ℕ) (s₀ s : Replay) (lines at w : ℕ) (out : List ℕ) : Type 0 where
  pub gives : Gives 1 (lines_of (take at input)) s₀ (take w out) s
  pub far_is : far lines at ≡ capped (length input) (reached (length input + 1) (length out₀) (far 0 0) (lines_of input) s₀)
  pub goes : lines_done 1 (lines_of input) s₀ ≡ before (take w out) (lines_done (lines + 1) (lines_of (drop at input)) s)
  pub inside : at ≤ length input
  pub numbered : length (lines_of (take at input)) ≡ lines
  pub fits : w ≤ length out
  pub kept : drop w out ≡ drop w out₀
  pub ends : w + room s.pool ≤ length out → at ≡ length input

module _ {input : List ℕ} {s₀ s : Replay} {lines at w : ℕ} {out₀ out : List ℕ} (d : Done s₀ 0 input out₀ s lines at w out) where
  run_goes : lines_done 1 (lines_of input) s₀ ≡ before (take w out) (lines_done (lines + 1) (lines_of (drop at input)) s)
  run_goes =
      ap (λ (x : List ℕ). lines_done 1 (lines_of x) s₀) (sym (append-nil input))
      ∙ d.doing.went.goes []
      ∙ ap (λ (x : List ℕ). before (take w out) (lines_done (lines + 1) (lines_of x) s)) (append-nil (drop at input))

  -- where the rest of the input comes to
  run_far : {r : Reached} → reached (length input + 1) (length out - w) (far lines at) (lines_of (drop at input)) s ≡ r → capped (length input) r ≡ capped (length input) (reached (length input + 1) (length out₀) (far 0 0) (lines_of input) s₀)
  run_far e = ap (capped (length input)) (sym (d.doing.reaches.on (length input + 1) (omega arith) ∙ e))

  stopped : far lines at ≡ capped (length input) (reached (length input + 1) (length out₀) (far 0 0) (lines_of input) s₀) → (w + room s.pool ≤ length out → at ≡ length input) → Behind input out₀ s₀ s lines at w out
  stopped f e =
      record {
        gives = d.doing.gives;
        far_is = f;
        goes = run_goes;
        inside = d.doing.inside;
        numbered = omega (arith, d.doing.cut.count);
        fits = d.doing.fits;
        kept = d.doing.kept;
        ends = e;
      }

  -- the input is done
  pub behind_done : at ≡ length input → Behind input out₀ s₀ s lines at w out
  unfolding reached lines_of lines_from
  behind_done e =
      stopped
      (within lines at (length input) d.doing.inside
      ∙ run_far {r = far lines at} (ap (λ (x : List ℕ). reached (length input + 1) (length out - w) (far lines at) (lines_of x) s) (drop_of_length-le input {i = at} (omega (arith, e)))))
      (λ r. e)

  -- no room is left
  pub behind_full : length out < w + room s.pool → Behind input out₀ s₀ s lines at w out
  behind_full f =
      stopped
      (within lines at (length input) d.doing.inside
      ∙ run_far {r = far lines at} (reached_full (length input + 1) (length out - w) (far lines at) (lines_of (drop at input)) s (omega (arith, f))))
      (λ r. absurd (omega arith))

  -- the rest is one line, which has no end
  pub behind_last : {n : ℕ} {after : Replay} {out' : List ℕ} {w' : ℕ} → n ≡ lines + 1 → at < length input → w + room s.pool ≤ length out → Lined n (part input at (length input - at)) s out w after out' w' → Behind input out₀ s₀ after n (length input) w' out'
  unfolding lines_done lines_of lines_from reached
  behind_last {n} {after} {out'} {w'} e i r l =
      let rest : List ℕ = drop at input in
      let line : part input at (length input - at) ≡ rest = rest_all input at in
      let one : lines_of rest ≡ rest ∷ [] = lines_open rest (d.stops r) ∙ ap (λ (c : Bool). cond c [] (rest ∷ [])) (ne_eqb (length rest) 0 (λ q. absurd (omega (arith, q, length-drop at input)))) in
      let all : lines_of (take (length input) input) ≡ lines_of (take at input) ++ (rest ∷ []) =
      ap lines_of (take-length input ∙ sym (take-append-drop at input)) ∙ d.doing.cut.whole rest ∙ ap (λ (x : List (List ℕ)). lines_of (take at input) ++ x) one in
      let t : List ℕ = written n (done_line rest s) in
      let o : out' ≡ put out w t = l.out_is ∙ ap (λ (x : List ℕ). put out w (written n (done_line x s))) line in
      let p : w' ≡ w + length t = l.end_is ∙ ap (λ (x : List ℕ). w + length (written n (done_line x s))) line in
      let a : after ≡ (done_line rest s).after = l.after_is ∙ ap (λ (x : List ℕ). (done_line x s).after) line in
      let f : w + length t ≤ length out = omega (arith, p, l.end_fits) in
      let text : take w' out' ≡ take w out ++ t = ap (take w') o ∙ ap (λ (m : ℕ). take m (put out w t)) p ∙ take_put out w t f in
      let past : at + (length rest + 1) ≡ length input + 1 = omega (arith, length-drop at input) in
      record {
        gives = rw (text, a) (gives_more rest d.doing.gives all (omega (arith, e, d.doing.cut.count)));
        far_is =
            ap (λ (k : ℕ). far k (length input)) e
            ∙ ap (far (lines + 1)) (sym (min-eq_right (omega arith)) ∙ ap (λ (k : ℕ). min k (length input)) (sym past))
            ∙ run_far {r = far (lines + 1) (at + (length rest + 1))}
            (ap (λ (x : List (List ℕ)). reached (length input + 1) (length out - w) (far lines at) x s) one
            ∙ reached_more (length input + 1) (length out - w) (far lines at) rest [] s (omega (arith, past)) (omega (arith, r)));
        goes =
            run_goes
            ∙ ap (λ (x : List (List ℕ)). before (take w out) (lines_done (lines + 1) x s)) one
            ∙ ap (λ (m : ℕ). before (take w out) (lines_done m (rest ∷ []) s)) (sym e)
            ∙ ap (λ (x : List ℕ). record { output = x; left = (done_line rest s).after }) (sym (append_assoc (take w out) t []))
            ∙ ap (λ (x : List ℕ). record { output = x ++ []; left = (done_line rest s).after }) (sym text)
            ∙ ap (λ (x : Replay). record { output = take w' out' ++ []; left = x }) (sym a)
            ∙ ap (λ (x : List ℕ). before (take w' out') (lines_done (n + 1) (lines_of x) after)) (sym (drop_of_length-le input {i = length input} (omega arith)));
        inside = omega arith;
        numbered = ap length all ∙ length-append (lines_of (take at input)) (rest ∷ []) ∙ omega (arith, d.doing.cut.count, e);
        fits = omega (arith, p, f, ap length o ∙ length_put out w t f);
        kept = kept_line out₀ l d.doing.kept;
        ends = λ q. refl;
      }

-- ---- the whole output

-- how far an input is done: `at` bytes of it, and `w` bytes of the output are written
pub record Replayed (input dir pool out₀ : List ℕ) (s : Replay) (lines at w : ℕ) (out : List ℕ) : Type 0 where
  -- what is written and left is what these bytes give
  pub gives : replay_of (take at input) dir pool ≡ record { output = take w out; left = s }
  -- so far, and no farther, there is room in the output
  pub far_is : far lines at ≡ reached_of (length out₀) input dir pool
  -- what the rest of the input gives follows
  pub goes : replay_of input dir pool ≡ before (take w out) (lines_done (lines + 1) (lines_of (drop at input)) s)
  pub inside : at ≤ length input
  pub numbered : length (lines_of (take at input)) ≡ lines
  pub fits : w ≤ length out
  -- the output's other bytes stay
  pub kept : drop w out ≡ drop w out₀
  pub ends : w + room s.pool ≤ length out → at ≡ length input

-- an output that has no room for the header and a line is refused, and nothing changes
abbrev pub LentGives : List ℕ → Replay → List ℕ → Result Progress OutputTooShort → Replay → List ℕ → Type 0
LentGives input s₀ out₀ (Ok p) s out = (length header + room s₀.pool ≤ length out₀) × Replayed input s₀.dir s₀.pool out₀ s p.lines p.consumed p.written out
LentGives input s₀ out₀ (Err e) s out = (length out₀ < length header + room s₀.pool) × (s ≡ s₀) × (out ≡ out₀)

-- the same of two buffers, before and after
abbrev pub ReplayGives : List ℕ → List ℕ → List ℕ → List ℕ → Result ReplayDone OutputTooShort → List ℕ → List ℕ → List ℕ → Type 0
ReplayGives input dir pool out₀ (Ok p) dir' pool' out = (length header + room pool ≤ length out₀) × Replayed input dir pool out₀ (state p.cells dir' pool') p.lines p.consumed p.written out
ReplayGives input dir pool out₀ (Err e) dir' pool' out = (length out₀ < length header + room pool) × (dir' ≡ dir) × (pool' ≡ pool) × (out ≡ out₀)

-- told of the same cells, words and bytes
pub replayed_as : {input dir pool out₀ : List ℕ} {cells cells' : ℕ} {d d' p p' : List ℕ} {lines at w : ℕ} {out : List ℕ} → Replayed input dir pool out₀ (state cells d p) lines at w out → cells' ≡ cells → d' ≡ d → p' ≡ p → Replayed input dir pool out₀ (state cells' d' p') lines at w out
replayed_as r c d p = rw (c, d, p) r

-- done to its end: the output is this, and so is the memory
pub replayed_whole : {input dir pool out₀ : List ℕ} {s : Replay} {lines at w : ℕ} {out : List ℕ} → Replayed input dir pool out₀ s lines at w out → at ≡ length input → replay_of input dir pool ≡ record { output = take w out; left = s }
unfolding lines_done lines_of lines_from
replayed_whole {input} {dir} {pool} {out₀} {s} {lines} {at} {w} {out} r e =
    r.goes
    ∙ ap (λ (l : List ℕ). before (take w out) (lines_done (lines + 1) (lines_of l) s)) (drop_of_length-le input {i = at} (omega (arith, e)))
    ∙ ap (λ (t : List ℕ). record { output = t; left = s }) (append-nil (take w out))

-- the header, and behind it the lines
pub headed : (input dir pool out : List ℕ) {out₁ ys₀ ys : List ℕ} {b : ℕ} {s : Replay} {lines at w : ℕ} → out₁ ≡ put out 0 header → b ≡ length header → b ≤ length out → Behind input ys₀ (state 0 dir pool) s lines at w ys → length ys ≡ length out₁ - b → ys₀ ≡ drop b out₁ → Replayed input dir pool out s lines at (b + w) (take b out₁ ++ (ys ++ drop (length out₁ - b) (drop b out₁)))
unfolding put replay_of reached_of
headed input dir pool out {out₁} {ys₀} {ys} {b} {s} {lines} {at} {w} h l f g n y =
    let tail : List ℕ = drop (length out₁ - b) (drop b out₁) in
    let rest : Written = lines_done (lines + 1) (lines_of (drop at input)) s in
    let front : take b out₁ ≡ header = ap (take b) h ∙ take_at header (drop (0 + length header) out) b (sym l) in
    let none : tail ≡ [] = drop_of_length-le (drop b out₁) {i = length out₁ - b} (omega (arith, length-drop b out₁)) in
    let text : take (b + w) (take b out₁ ++ (ys ++ tail)) ≡ header ++ take w ys =
    ap (λ (x : List ℕ). take (b + w) (x ++ (ys ++ tail))) front ∙ take_front header ys tail b w (sym l) g.fits in
    let size : length (take b out₁ ++ (ys ++ tail)) ≡ b + length ys =
    length-append (take b out₁) (ys ++ tail) ∙ omega (arith, ap length front, l, length-append ys tail, ap length none) in
    let same : 0 + length header ≡ b = omega (arith, l) in
    let later : drop b out₁ ≡ drop b out = ap (drop b) h ∙ drop_at header (drop (0 + length header) out) b (sym l) ∙ ap (λ (m : ℕ). drop m out) same in
    let space : length ys₀ ≡ length out - length header = ap length (y ∙ later) ∙ length-drop b out ∙ omega (arith, l) in
    let behind : drop b (take b out₁ ++ (ys ++ tail)) ≡ ys =
    drop_at (take b out₁) (ys ++ tail) b (omega (arith, ap length front, l)) ∙ ap (λ (x : List ℕ). ys ++ x) none ∙ append-nil ys in
    record {
      gives =
          ap (before header) g.gives.done
          ∙ ap (λ (t : List ℕ). record { output = t; left = s }) (sym text);
      far_is = g.far_is ∙ ap (λ (k : ℕ). capped (length input) (reached (length input + 1) k (far 0 0) (lines_of input) (state 0 dir pool))) space;
      goes =
          ap (before header) g.goes
          ∙ ap (λ (t : List ℕ). record { output = t; left = rest.left }) (sym (append_assoc header (take w ys) rest.output))
          ∙ ap (λ (t : List ℕ). before t rest) (sym text);
      inside = g.inside;
      numbered = g.numbered;
      fits = omega (arith, size, g.fits);
      kept =
          sym (drop-drop w b (take b out₁ ++ (ys ++ tail)))
          ∙ ap (drop w) behind
          ∙ g.kept
          ∙ ap (drop w) (y ∙ later)
          ∙ drop-drop w b out;
      ends = λ r. g.ends (omega (arith, size));
    }
