-- All keys differ, of the entries from the last to the first.
use Rattle.std.specs.Prelude.{◌≡◌, ℕ, zero, suc, ◌+◌, ◌<◌, ◌≤◌, Bool, true, false, not, ◌&&◌, List, [], ◌∷◌, length, drop, slice_index_or}
use Rattle.std.proofs.Math.Path.{refl, ap}
use Rattle.std.proofs.Common.{sym, ◌∙◌, drop_of_length-le, drop-cons}
use native.Mathlib.Omega.{arith}
use Rattle.rules.specs.declared.Entry.{Entry}
use Rattle.rules.specs.Layout.{none, key_of}
use Rattle.rules.specs.LookUp.{key_is}
use Rattle.rules.specs.Soundness.{any, keys_differ}
use Rattle.laws.specs.Booleans.{no_bool, no_true, and_right}

module _ (pool : List ℕ) where
  -- the keys of the last entries differ if all do
  differ_last : (i : ℕ) (es : List Entry) → keys_differ pool es ≡ true → keys_differ pool (drop i es) ≡ true
  unfolding keys_differ
  differ_last zero es t = t
  differ_last (suc i) [] t = t
  differ_last (suc i) (e ∷ es) t = differ_last i es (and_right (not (any (key_is pool (key_of pool e)) es)) (keys_differ pool es) t)

  module _ (es : List Entry) (i : ℕ) where
    -- the key at i stands again
    abbrev again : Bool
    again = any (key_is pool (key_of pool (slice_index_or es i none))) (drop (i + 1) es)

    differ_step : i < length es → keys_differ pool (drop i es) ≡ (not again && keys_differ pool (drop (i + 1) es))
    unfolding keys_differ
    differ_step h =
        let e : suc i ≡ i + 1 = omega arith in
        ap (keys_differ pool) (drop-cons es i none h)
        ∙ ap (λ (k : ℕ). not (any (key_is pool (key_of pool (slice_index_or es i none))) (drop k es)) && keys_differ pool (drop k es)) e

    pub differ_none : length es ≤ i → keys_differ pool (drop i es) ≡ true
    unfolding keys_differ
    differ_none h = ap (keys_differ pool) (drop_of_length-le es h)

    -- k is the index behind i
    pub differ_more : (k : ℕ) → k ≡ i + 1 → i < length es → keys_differ pool (drop k es) ≡ true → again ≡ false → keys_differ pool (drop i es) ≡ true
    differ_more k s h d t = differ_step h ∙ rw (t, ← s, d)

    pub differ_not : i < length es → again ≡ true → false ≡ keys_differ pool es
    differ_not h t = sym (no_true (keys_differ pool es) (λ d. no_bool (sym (differ_step h ∙ rw t) ∙ differ_last i es d)))

    pub differ_all : i ≡ 0 → keys_differ pool (drop i es) ≡ true → true ≡ keys_differ pool es
    differ_all z d = sym (rw z at d)

  -- one key differs from no other
  pub differ_few : (es : List Entry) → length es < 2 → true ≡ keys_differ pool es
  unfolding keys_differ any
  differ_few [] h = refl
  differ_few (e ∷ []) h = refl
  differ_few (e ∷ f ∷ es) h = absurd (omega arith)
