-- The words of a directory in parts: those of some entries, those of the entries behind them, and zeros.
use Rattle.std.specs.Prelude.{◌≡◌, List, ◌∷◌, ◌++◌, ℕ, suc, ◌+◌, ◌-◌, ◌*◌, ◌≤◌, ◌<◌, length, take, drop, get_or, replicate}
use Rattle.std.proofs.Common.{sym, ap, ◌∙◌, append_assoc, arith, length-append, length-drop, take-append-drop, drop-cons, length-take-le}
use Rattle.rules.specs.declared.Entry.{Entry}
use Rattle.rules.specs.Layout.{words, flat, encode, entries_of, none, Dir}
use Rattle.laws.specs.LayoutLaws.{length_flat, flat_append}

-- m entries, and z words that no entry uses
pub encode_parts : (n m z : ℕ) (a b : List Entry) → length a + length b ≡ m → 2 + 6 * m + z ≡ n → encode n (a ++ b) ≡ 1 ∷ m ∷ (flat a ++ (flat b ++ replicate z 0))
unfolding encode
encode_parts n m z a b em en =
    let l : length (a ++ b) ≡ m = length-append a b ∙ em in
    let lz : n - (2 + 6 * m) ≡ z = omega arith in
    ap (λ (k : ℕ). 1 ∷ k ∷ (flat (a ++ b) ++ replicate (n - (2 + 6 * k)) 0)) l
    ∙ ap (λ (k : ℕ). 1 ∷ m ∷ (flat (a ++ b) ++ replicate k 0)) lz
    ∙ ap (λ (x : List ℕ). 1 ∷ m ∷ (x ++ replicate z 0)) (flat_append a b)
    ∙ ap (λ (x : List ℕ). 1 ∷ m ∷ x) (append_assoc (flat a) (flat b) (replicate z 0))

-- where the words of the entries behind a begin
pub length_before : (m : ℕ) (a : List Entry) (i : ℕ) → length a ≡ i → length (1 ∷ m ∷ flat a) ≡ 2 + 6 * i
length_before m a i e = omega (arith, length_flat a)

pub length_words : (a : List Entry) (i : ℕ) → length a ≡ i → length (flat a) ≡ 6 * i
length_words a i e = omega (arith, length_flat a)

-- how many words no entry uses
abbrev pub unused : List ℕ → ℕ
unused d = length d - (2 + 6 * length (entries_of d))

-- the first k entries, and the others
pub parts_at : (d : List ℕ) (k : ℕ) → Dir d → k ≤ length (entries_of d) → d ≡ 1 ∷ length (entries_of d) ∷ (flat (take k (entries_of d)) ++ (flat (drop k (entries_of d)) ++ replicate (unused d) 0))
parts_at d k w h =
    let es : List Entry = entries_of d in
    w.shape
    ∙ ap (encode (length d)) (sym (take-append-drop k es))
    ∙ encode_parts (length d) (length es) (unused d) (take k es) (drop k es) (omega (arith, length-take-le k es h, length-drop k es)) (omega (arith, w.room))

-- the entries before that at i, its six words, and the entries behind it
pub entry_at_is : (d : List ℕ) (i : ℕ) → Dir d → i < length (entries_of d) → d ≡ 1 ∷ length (entries_of d) ∷ (flat (take i (entries_of d)) ++ (words (get_or (entries_of d) i none) ++ (flat (drop (suc i) (entries_of d)) ++ replicate (unused d) 0)))
unfolding flat
entry_at_is d i w h =
    let es : List Entry = entries_of d in
    parts_at d i w (omega arith)
    ∙ ap (λ (x : List Entry). 1 ∷ length es ∷ (flat (take i es) ++ (flat x ++ replicate (unused d) 0))) (drop-cons es i none h)
