-- A loop that gives each entry another expiry, from the first on: what stands after some turns.
use Rattle.std.specs.Prelude.{◌≡◌, refl, List, [], ◌∷◌, ◌++◌, map, ℕ, zero, suc, ◌+◌, ◌-◌, ◌*◌, ◌≤◌, ◌<◌, length, take, drop, get_or, set, replicate}
use Rattle.std.proofs.Common.{sym, ap, ◌∙◌, append-nil, arith, add-one, length-drop, drop_of_length-le, drop-cons, take_all, length-take-le}
use Rattle.std.proofs.lemmas.List.{length-map, set_at}
use Rattle.rules.specs.declared.Entry.{Entry}
use Rattle.rules.specs.Layout.{flat, encode, entries_of, none, Dir}
use Rattle.rules.specs.Time.{with_expiry}
use Rattle.directory.specs.Records.{encode_parts, length_before}

-- the first i entries have the new expiry
unfoldable pub expired : ℕ → ℕ → List Entry → ℕ → List ℕ
expired n v es i = encode n (map (with_expiry v) (take i es) ++ drop i es)

pub expired_none : {d : List ℕ} (v : ℕ) → Dir d → d ≡ expired (length d) v (entries_of d) 0
unfolding expired
expired_none v w = w.shape

-- the first word of the entry behind a
expire_entry : (n v i : ℕ) (a b : List Entry) (x : Entry) → length a ≡ i → 2 + 6 * (i + suc (length b)) ≤ n → set (encode n (a ++ x ∷ b)) (2 + 6 * i) v ≡ encode n (a ++ with_expiry v x ∷ b)
unfolding flat with_expiry
expire_entry n v i a b x la h =
    let m : ℕ = i + suc (length b) in
    let z : ℕ = n - (2 + 6 * m) in
    ap (λ (y : List ℕ). set y (2 + 6 * i) v) (encode_parts n m z a (x ∷ b) (omega arith) (omega arith))
    ∙ set_at (1 ∷ m ∷ flat a) x.expiry (x.kind ∷ x.flags ∷ x.start ∷ x.klen ∷ x.vlen ∷ (flat b ++ replicate z 0)) v (2 + 6 * i) (length_before m a i la)
    ∙ sym (encode_parts n m z a (with_expiry v x ∷ b) (omega arith) (omega arith))

next : (f : Entry → Entry) (i : ℕ) (es : List Entry) → i < length es → map f (take i es) ++ f (get_or es i none) ∷ drop (suc i) es ≡ map f (take (suc i) es) ++ drop (suc i) es
next f i [] h = absurd (omega arith)
next f zero (e ∷ es) h = refl
next f (suc i) (e ∷ es) h = ap (λ (l : List Entry). f e ∷ l) (next f i es (omega arith))

pub expired_more : {d : List ℕ} (n v i : ℕ) (es : List Entry) → d ≡ expired n v es i → i < length es → 2 + 6 * length es ≤ n → set d (2 + 6 * i) v ≡ expired n v es (i + 1)
unfolding expired
expired_more n v i es w h room =
    let f : Entry → Entry = with_expiry v in
    let a : List Entry = map f (take i es) in
    let la : length a ≡ i = length-map (take i es) f ∙ length-take-le i es (omega arith) in
    let lb : length (drop (suc i) es) ≡ length es - suc i = length-drop (suc i) es in
    rw add-one
    (ap (λ (y : List ℕ). set y (2 + 6 * i) v) (w ∙ ap (λ (y : List Entry). encode n (a ++ y)) (drop-cons es i none h))
    ∙ expire_entry n v i a (drop (suc i) es) (get_or es i none) la (omega arith)
    ∙ ap (encode n) (next f i es h))

pub expired_all : (n v : ℕ) (es : List Entry) (i : ℕ) → length es ≤ i → expired n v es i ≡ encode n (map (with_expiry v) es)
unfolding expired
expired_all n v es i all =
    let f : Entry → Entry = with_expiry v in
    ap (λ (y : List Entry). encode n (map f y ++ drop i es)) (take_all i es all)
    ∙ ap (λ (y : List Entry). encode n (map f es ++ y)) (drop_of_length-le es {i = i} all)
    ∙ ap (encode n) (append-nil (map f es))
