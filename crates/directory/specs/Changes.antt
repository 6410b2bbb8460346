-- What the writes of a change make of a directory: the words of the changed entries.
use Rattle.std.specs.Prelude.{◌≡◌, take, drop, set}
use Rattle.std.proofs.Math.Path.{refl, sym, ap}
use Rattle.std.proofs.Common.{◌∙◌, arith, length-drop}
use mathlib.Core.List.{List, [], ◌∷◌, ◌++◌}
use Prim.Native.Nat.{ℕ, suc, ◌+◌, ◌-◌, ◌*◌, ◌≤◌, ◌<◌}
use Rattle.std.proofs.Math.ListN.{length, get_or, replicate}
use Rattle.std.proofs.lemmas.List.{length-replicate, replicate-append-replicate}
use Rattle.std.proofs.Math.Seq.{length-take-le}
use Rattle.rules.specs.declared.Entry.{Entry}
use Rattle.rules.specs.Layout.{words, flat, encode, entries_of, none, Dir, without, to_front, replace_at, put}
use Rattle.words.specs.Gap.{cut}
use Rattle.words.specs.GapLaws.{cut_at}
use Rattle.words.specs.PutLaws.{put_at, put_before}
use Rattle.directory.specs.Records.{encode_parts, length_before, length_words, unused, parts_at, entry_at_is}

-- ---- a change at the entry at i

module _ (d : List ℕ) (i : ℕ) (w : Dir d) (h : i < length (entries_of d)) where
  abbrev before : List Entry
  before = take i (entries_of d)

  abbrev behind : List Entry
  behind = drop (suc i) (entries_of d)

  length_behind : length behind ≡ length (entries_of d) - 1 - i
  length_behind = length-drop (suc i) (entries_of d) ∙ omega arith

  -- one entry less, and its six words closed
  pub removed : cut (set d 1 (get_or d 1 0 - 1)) (2 + 6 * i) 6 (6 * (get_or d 1 0 - 1 - i)) ≡ encode (length d) (without i (entries_of d))
  unfolding without
  removed =
      let m : ℕ = get_or d 1 0 - 1 in
      let x : Entry = get_or (entries_of d) i none in
      let la : length before ≡ i = length-take-le i (entries_of d) (omega arith) in
      let lb : length behind ≡ m - i = length_behind ∙ ap (λ (k : ℕ). k - 1 - i) w.count in
      ap (λ (y : List ℕ). cut (set y 1 m) (2 + 6 * i) 6 (6 * (m - i))) (entry_at_is d i w h)
      ∙ cut_at (1 ∷ m ∷ flat before) (words x) (flat behind) (replicate (unused d) 0) (2 + 6 * i) 6 (6 * (m - i)) (length_before m before i la) refl (length_words behind (m - i) lb)
      ∙ ap (λ (y : List ℕ). 1 ∷ m ∷ (flat before ++ (flat behind ++ y))) (replicate-append-replicate 6 (unused d) 0)
      ∙ sym (encode_parts (length d) m (6 + unused d) before behind (omega (arith, w.count)) (omega (arith, w.count, w.room)))

  -- its words overwritten
  pub replaced : (e : Entry) → put d (2 + 6 * i) (words e) ≡ encode (length d) (replace_at i e (entries_of d))
  unfolding flat replace_at
  replaced e =
      let m : ℕ = length (entries_of d) in
      let x : Entry = get_or (entries_of d) i none in
      let la : length before ≡ i = length-take-le i (entries_of d) (omega arith) in
      ap (λ (y : List ℕ). put y (2 + 6 * i) (words e)) (entry_at_is d i w h)
      ∙ put_at (1 ∷ m ∷ flat before) (words x) (flat behind ++ replicate (unused d) 0) (words e) (2 + 6 * i) (length_before m before i la) refl
      ∙ sym (encode_parts (length d) m (unused d) before (e ∷ behind) (omega (arith, length_behind)) (omega (arith, w.room)))

  -- the words before it moved up over it, and those of e written first
  pub fronted : (e : Entry) → put (put d 8 (take (6 * i) (drop 2 d))) 2 (words e) ≡ encode (length d) (to_front i e (entries_of d))
  unfolding flat without to_front
  fronted e =
      let m : ℕ = length (entries_of d) in
      let x : Entry = get_or (entries_of d) i none in
      let la : length before ≡ i = length-take-le i (entries_of d) (omega arith) in
      ap (λ (y : List ℕ). put (put y 8 (take (6 * i) (drop 2 y))) 2 (words e)) (entry_at_is d i w h)
      ∙ put_before (1 ∷ m ∷ []) (flat before) (words x) (flat behind ++ replicate (unused d) 0) (words e) 2 (6 * i) refl (length_words before i la) refl
      ∙ sym (encode_parts (length d) m (unused d) (e ∷ before) behind (omega (arith, length_behind)) (omega (arith, w.room)))

-- ---- a change of the number of entries

-- one record out of the unused words
unused_record : (z : ℕ) → 6 ≤ z → replicate {A = ℕ} z 0 ≡ replicate 6 0 ++ replicate (z - 6) 0
unused_record z h =
    let e : z ≡ 6 + (z - 6) = omega arith in
    ap (λ (k : ℕ). replicate k 0) e ∙ sym (replicate-append-replicate 6 (z - 6) 0)

-- all moved up over an unused record, and the words of e written first
pub pushed : (d : List ℕ) (e : Entry) → Dir d → 8 + 6 * length (entries_of d) ≤ length d → put (put (set d 1 (get_or d 1 0 + 1)) 8 (take (6 * get_or d 1 0) (drop 2 (set d 1 (get_or d 1 0 + 1))))) 2 (words e) ≡ encode (length d) (e ∷ entries_of d)
unfolding flat
pushed d e w h =
    let es : List Entry = entries_of d in
    let n : ℕ = get_or d 1 0 in
    ap (λ (y : List ℕ). put (put (set y 1 (n + 1)) 8 (take (6 * n) (drop 2 (set y 1 (n + 1))))) 2 (words e)) (parts_at d 0 w (omega arith) ∙ ap (λ (y : List ℕ). 1 ∷ length es ∷ (flat es ++ y)) (unused_record (unused d) (omega arith)))
    ∙ put_before (1 ∷ (n + 1) ∷ []) (flat es) (replicate 6 0) (replicate (unused d - 6) 0) (words e) 2 (6 * n) refl (length_words es n w.count) refl
    ∙ sym (encode_parts (length d) (n + 1) (unused d - 6) [] (e ∷ es) (omega (arith, w.count)) (omega (arith, w.count)))

-- the words behind the first k entries cleared
pub truncated : (d : List ℕ) (k : ℕ) → Dir d → k ≤ length (entries_of d) → put (set d 1 k) (2 + 6 * k) (replicate (6 * (get_or d 1 0 - k)) 0) ≡ encode (length d) (take k (entries_of d))
unfolding flat
truncated d k w h =
    let a : List Entry = take k (entries_of d) in
    let b : List Entry = drop k (entries_of d) in
    let c : ℕ = 6 * (get_or d 1 0 - k) in
    let la : length a ≡ k = length-take-le k (entries_of d) h in
    let lb : length (flat b) ≡ c = length_words b (get_or d 1 0 - k) (length-drop k (entries_of d) ∙ ap (λ (m : ℕ). m - k) w.count) in
    ap (λ (y : List ℕ). put (set y 1 k) (2 + 6 * k) (replicate c 0)) (parts_at d k w h)
    ∙ put_at (1 ∷ k ∷ flat a) (flat b) (replicate (unused d) 0) (replicate c 0) (2 + 6 * k) (length_before k a k la) (lb ∙ sym (length-replicate c 0))
    ∙ ap (λ (y : List ℕ). 1 ∷ k ∷ (flat a ++ y)) (replicate-append-replicate c (unused d) 0)
    ∙ sym (encode_parts (length d) k (c + unused d) [] a (omega arith) (omega (arith, w.count, w.room)))
