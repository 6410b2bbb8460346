-- What is left of a piece of input, and what stands at the beginning of a list.
use Rattle.std.specs.Prelude.{◌≡◌, refl, true, List, [], ◌∷◌, ℕ, ◌+◌, ◌-◌, ◌≤◌, length, take, drop}
use Rattle.std.proofs.Common.{ap, ◌∙◌, arith, length-drop, drop-drop, take_all}
use Rattle.rules.specs.Layout.{put}
use Rattle.rules.specs.Soundness.{every}
use Rattle.scanning.specs.Until.{other}
use Rattle.replay.specs.Progress.{take_put}

-- a list is the last part of another
abbrev pub IsRest : List ℕ → List ℕ → Type 0
IsRest rest l = rest ≡ drop (length l - length rest) l

-- what is behind the first bytes of a last part is a last part
pub rest_more : (rest l : List ℕ) {at : ℕ} → IsRest rest l → length rest ≤ length l → at ≤ length rest → IsRest (take (length rest - at) (drop at rest)) l
rest_more rest l {at} h n a =
    let all : take (length rest - at) (drop at rest) ≡ drop at rest = take_all (length rest - at) (drop at rest) (omega (arith, length-drop at rest)) in
    let far : length l - length rest + at ≡ length l - length (take (length rest - at) (drop at rest)) = omega (arith, ap length all, length-drop at rest) in
    all ∙ ap (drop at) h ∙ drop-drop at (length l - length rest) l ∙ ap (λ (k : ℕ). drop k l) far

-- where nothing is left, no line ends
pub none_ends : (rest : List ℕ) → length rest ≡ 0 → every (other 10) rest ≡ true
unfolding every
none_ends [] h = refl
none_ends (x ∷ xs) h = absurd (omega (arith, h))

-- what is behind the first bytes of a list, as a slice of it
pub rest_ends : (l : List ℕ) (at : ℕ) → every (other 10) (drop at l) ≡ true → every (other 10) (take (length l - at) (drop at l)) ≡ true
rest_ends l at h = ap (every (other 10)) (take_all (length l - at) (drop at l) (omega (arith, length-drop at l))) ∙ h

-- what is written over the beginning of a list stands there
pub front_put : (d t : List ℕ) (n : ℕ) → n ≡ length t → n ≤ length d → take n (put d 0 t) ≡ t
front_put d t n e h = ap (λ (m : ℕ). take m (put d 0 t)) (e ∙ omega arith) ∙ take_put d 0 t (omega (arith, e, h))
