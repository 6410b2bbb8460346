-- What is written of a piece of input.
use Rattle.std.specs.Prelude.{◌≡◌, List, [], ◌++◌, ℕ, ◌+◌, ◌-◌, length, take, drop, Option, Some, None}
use Rattle.std.proofs.Common.{sym, ap, ◌∙◌, arith, length-drop, take_all}
use mathlib.Core.List.{append-nil, append_assoc}
use Rattle.std.specs.Io.KnownBytes.{Appends}
use Rattle.rules.specs.Layout.{part}
use Rattle.rules.specs.Replay.{Replay, lines_done, lines_of}
use Rattle.replay.specs.LineLaws.{before, Went, went_none}
use Rattle.replay.specs.Progress.{Done}

-- the lines of the input before the rest are done, and what they give is written behind what was written before
pub record Wrote (old new : Option (List ℕ)) (lines₀ : ℕ) (input : List ℕ) (s₀ : Replay) (lines : ℕ) (rest : List ℕ) (s : Replay) : Type 0 where
  pub bytes : List ℕ
  pub appended : Appends old new bytes
  pub went : Went (lines₀ + 1) input s₀ (lines + 1) rest bytes s

appends_none : (old : Option (List ℕ)) → Appends old old []
appends_none None = tt
appends_none (Some xs) = sym (append-nil xs)

appends_more : (old mid new : Option (List ℕ)) (a b : List ℕ) → Appends old mid a → Appends mid new b → Appends old new (a ++ b)
appends_more None mid new a b h k = tt
appends_more (Some xs) None new a b h k = absurd h
appends_more (Some xs) (Some ys) None a b h k = k
appends_more (Some xs) (Some ys) (Some zs) a b h k = k ∙ ap (λ (x : List ℕ). x ++ b) h ∙ append_assoc xs a b

went_more : {n₀ n₁ n₂ : ℕ} {input rest last a b : List ℕ} {s₀ s₁ s₂ : Replay} → Went n₀ input s₀ n₁ rest a s₁ → Went n₁ rest s₁ n₂ last b s₂ → Went n₀ input s₀ n₂ last (a ++ b) s₂
went_more {n₀} {n₁} {n₂} {input} {rest} {last} {a} {b} {s₀} {s₁} {s₂} f g =
    record {
      goes = λ more.
          f.goes more
          ∙ ap (before a) (g.goes more)
          ∙ ap (λ (t : List ℕ). record { output = t; left = (lines_done n₂ (lines_of (last ++ more)) s₂).left }) (sym (append_assoc a b (lines_done n₂ (lines_of (last ++ more)) s₂).output));
    }

pub wrote_none : (old : Option (List ℕ)) (lines : ℕ) (input : List ℕ) (s : Replay) → Wrote old old lines input s lines input s
wrote_none old lines input s = record { bytes = []; appended = appends_none old; went = went_none (lines + 1) input s }

-- what a run did of the rest, and what was written of it
pub wrote_more : {old mid new : Option (List ℕ)} {lines₀ lines₁ lines at w : ℕ} {input rest out₀ out : List ℕ} {s₀ s₁ s : Replay} → Wrote old mid lines₀ input s₀ lines₁ rest s₁ → Done s₁ lines₁ rest out₀ s lines at w out → Appends mid new (take w out) → Wrote old new lines₀ input s₀ lines (part rest at (length rest - at)) s
wrote_more {old} {mid} {new} {lines₀} {lines₁} {lines} {at} {w} {input} {rest} {out₀} {out} {s₀} {s₁} {s} h d a =
    let behind : part rest at (length rest - at) ≡ drop at rest = take_all (length rest - at) (drop at rest) (omega (arith, length-drop at rest)) in
    record {
      bytes = h.bytes ++ take w out;
      appended = appends_more old mid new h.bytes (take w out) h.appended a;
      went = rw (behind) (went_more h.went d.doing.went);
    }

pub wrote_as : {old new new' : Option (List ℕ)} {lines₀ lines lines' : ℕ} {input rest rest' : List ℕ} {s₀ s s' : Replay} → Wrote old new lines₀ input s₀ lines rest s → new' ≡ new → lines' ≡ lines → rest' ≡ rest → s' ≡ s → Wrote old new' lines₀ input s₀ lines' rest' s'
wrote_as h n l r e = rw (n, l, r, e) h
