-- Fields: the first one, and those behind it.
use Rattle.std.specs.Prelude.{◌≡◌, Bool, true, cond, eqb, ◌<◌, take}
use Rattle.std.proofs.Common.{sym, ◌∙◌, take-append-drop, drop_of_length-le, drop-cons, length-drop, take_all}
use Rattle.std.proofs.Math.Path.{ap}
use mathlib.Core.List.{List, [], ◌∷◌, ◌++◌, append_assoc, append-nil}
use Prim.Native.Nat.{ℕ, suc, ◌+◌, ◌-◌, ◌≤◌}
use native.Mathlib.Omega.{arith}
use Rattle.std.proofs.Math.ListN.{length, drop}
use Rattle.std.proofs.lemmas.Bool.{not-true}
use Rattle.rules.specs.Soundness.{every}
use Rattle.scanning.specs.Until.{other, Until}
use Rattle.rules.specs.Replay.{parts_from, parts_of}
use Rattle.laws.specs.Booleans.{and_left, and_right}

parts_plain : (begun a rest : List ℕ) → every (other 9) a ≡ true → parts_from begun (a ++ rest) ≡ parts_from (begun ++ a) rest
unfolding every parts_from
parts_plain begun [] rest e = ap (λ (x : List ℕ). parts_from x rest) (sym (append-nil begun))
parts_plain begun (b ∷ a) rest e =
    ap (λ (t : Bool). cond t (begun ∷ parts_from [] (a ++ rest)) (parts_from (begun ++ (b ∷ [])) (a ++ rest))) (not-true (eqb b 9) (and_left (other 9 b) (every (other 9) a) e))
    ∙ parts_plain (begun ++ (b ∷ [])) a rest (and_right (other 9 b) (every (other 9) a) e)
    ∙ ap (λ (x : List ℕ). parts_from x rest) (append_assoc begun (b ∷ []) a)

module _ {fields : List ℕ} {end : ℕ} (f : Until 9 fields 0 end) where
  first : parts_of fields ≡ parts_from (take end fields) (drop end fields)
  unfolding parts_of
  first =
      let e : end ≡ end - 0 = omega arith in
      ap (parts_from []) (sym (take-append-drop end fields))
      ∙ parts_plain [] (take end fields) (drop end fields) (ap (λ (n : ℕ). every (other 9) (take n fields)) e ∙ f.nowhere)

  -- no tab: it is the only one
  pub cut_only : length fields ≤ end → parts_of fields ≡ fields ∷ []
  unfolding parts_from
  cut_only h =
      first
      ∙ ap (parts_from (take end fields)) (drop_of_length-le fields {i = end} h)
      ∙ ap (λ (x : List ℕ). x ∷ []) (take_all end fields h)

  -- a tab behind it: others follow
  pub cut_more : end < length fields → parts_of fields ≡ take end fields ∷ parts_of (take (length fields - (end + 1)) (drop (end + 1) fields))
  unfolding parts_of parts_from
  cut_more h =
      let e : suc end ≡ end + 1 = omega arith in
      first
      ∙ ap (parts_from (take end fields)) (drop-cons fields end 0 h ∙ ap (λ (b : ℕ). b ∷ drop (suc end) fields) (f.there h))
      ∙ ap (λ (m : ℕ). take end fields ∷ parts_from [] (drop m fields)) e
      ∙ ap (λ (x : List ℕ). take end fields ∷ parts_from [] x) (sym (take_all (length fields - (end + 1)) (drop (end + 1) fields) (omega (arith, length-drop (end + 1) fields))))
