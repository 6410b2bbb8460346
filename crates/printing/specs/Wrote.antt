-- Texts written one behind the other are one text.
use Rattle.std.specs.Prelude.{◌≡◌, List, [], ◌∷◌, ◌++◌, ℕ, ◌+◌, ◌≤◌, ◌<◌, length, set}
use Rattle.std.proofs.Common.{ap, subst, ◌∙◌, arith, length-append}
use Rattle.std.proofs.lemmas.List.Edits.{sets-eq}
use Rattle.rules.specs.Layout.{put}
use Rattle.laws.specs.LayoutLaws.{length_put, put_then}
use Rattle.printing.specs.declared.Output.{Output}

-- a text is written over the bytes from the place on, and the place is behind it
pub record Writes (m : Output) (text : List ℕ) (n : Output) : Type 0 where
  pub is : n.bytes.now ≡ put m.bytes.now m.at text
  pub stops : n.at ≡ m.at + length text
  pub room : m.at + length text ≤ length m.bytes.now

-- one byte stored is one byte written
pub byte_is : (d : List ℕ) (at v : ℕ) → at < length d → set d at v ≡ put d at (v ∷ [])
unfolding put
byte_is d at v h = sets-eq (v ∷ []) d at (omega arith)

-- the same text said otherwise
pub writes_same : {m n : Output} {s t : List ℕ} → s ≡ t → Writes m s n → Writes m t n
writes_same {m} {n} e w = subst (λ (x : List ℕ). Writes m x n) e w

pub writes_size : {m n : Output} {s : List ℕ} → Writes m s n → length n.bytes.now ≡ length m.bytes.now
writes_size {m} {n} {s} w = ap length w.is ∙ length_put m.bytes.now m.at s w.room

pub writes_then : {m n o : Output} {s t : List ℕ} → Writes m s n → Writes n t o → Writes m (s ++ t) o
writes_then {m} {n} {o} {s} {t} w v =
    let l : length (s ++ t) ≡ length s + length t = length-append s t in
    let z : length n.bytes.now ≡ length m.bytes.now = writes_size w in
    record {
      is =
          v.is
          ∙ ap (λ (x : List ℕ). put x n.at t) w.is
          ∙ ap (λ (k : ℕ). put (put m.bytes.now m.at s) k t) w.stops
          ∙ put_then m.bytes.now m.at s t (omega (arith, v.room, w.stops, z));
      stops = omega (arith, v.stops, w.stops, l);
      room = omega (arith, v.room, w.stops, z, l);
    }
