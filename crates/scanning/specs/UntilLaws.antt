-- A byte looked for: what holds while the bytes near by are passed, and what the first place of it in a part tells.
use Rattle.std.specs.Prelude.{◌≡◌, refl, Bool, true, false, not, List, [], ◌∷◌, ◌++◌, ℕ, zero, suc, ◌+◌, ◌-◌, ◌≤◌, ◌<◌, eqb, length, take, drop, get_or}
use Rattle.std.proofs.Common.{sym, ap, ◌∙◌, arith, get_or-drop, length-drop, take_all, take-suc, drop-drop, eqb-true, ne_eqb}
use Rattle.std.proofs.Math.Bool.{and-true}
use Rattle.memchr.specs.Find.{NoneBefore, Nowhere, Passes, is_byte}
use Rattle.rules.specs.Layout.{part}
use Rattle.rules.specs.Soundness.{every}
use Rattle.laws.specs.Booleans.{and_left, and_right}
use Rattle.scanning.specs.Until.{other, Until}

-- ---- the bytes passed one by one

every_snoc : (byte : ℕ) (l : List ℕ) (b : ℕ) → every (other byte) l ≡ true → other byte b ≡ true → every (other byte) (l ++ (b ∷ [])) ≡ true
unfolding every
every_snoc byte [] b e p = and-true (other byte b) ∙ p
every_snoc byte (a ∷ l) b e p = simp (and_left (other byte a) (every (other byte) l) e, every_snoc byte l b (and_right (other byte a) (every (other byte) l) e) p)

-- the byte stands nowhere from `from` to before i
pub record Passed (byte : ℕ) (bytes : List ℕ) (from i : ℕ) : Type 0 where
  pub after : from ≤ i
  pub inside : i ≤ length bytes
  pub nowhere : every (other byte) (part bytes from (i - from)) ≡ true

pub passed_none : (byte : ℕ) {bytes : List ℕ} {from : ℕ} → from ≤ length bytes → Passed byte bytes from from
unfolding every
passed_none byte {bytes} {from} h =
    let z : from - from ≡ 0 = omega arith in
    record { after = omega arith; inside = h; nowhere = ap (λ (n : ℕ). every (other byte) (part bytes from n)) z }

every_join : (byte : ℕ) (l : List ℕ) (m n : ℕ) → every (other byte) (take m l) ≡ true → every (other byte) (take n (drop m l)) ≡ true → every (other byte) (take (m + n) l) ≡ true
unfolding every
every_join byte l zero n e f = let z : 0 + n ≡ n = omega arith in ap (λ (k : ℕ). every (other byte) (take k l)) z ∙ f
every_join byte [] (suc m) n e f = let s : suc m + n ≡ suc (m + n) = omega arith in ap (λ (k : ℕ). every (other byte) (take {A = ℕ} k [])) s
every_join byte (a ∷ l) (suc m) n e f =
    let s : suc m + n ≡ suc (m + n) = omega arith in
    let j : every (other byte) (take (m + n) l) ≡ true = every_join byte l m n (and_right (other byte a) (every (other byte) (take m l)) e) f in
    ap (λ (k : ℕ). every (other byte) (take k (a ∷ l))) s ∙ simp (and_left (other byte a) (every (other byte) (take m l)) e, j)

module _ {byte : ℕ} {bytes : List ℕ} {from i : ℕ} (p : Passed byte bytes from i) where
  pub passed_more : i < length bytes → (get_or bytes i 0 ≡ byte → ⊥) → Passed byte bytes from (i + 1)
  passed_more h t =
      let k : ℕ = i - from in
      let n : i + 1 - from ≡ suc k = omega (arith, p.after) in
      let j : from + k ≡ i = omega (arith, p.after) in
      let b : get_or (drop from bytes) k 0 ≡ get_or bytes i 0 = get_or-drop from bytes k 0 ∙ ap (λ (m : ℕ). get_or bytes m 0) j in
      record {
        after = omega (arith, p.after);
        inside = omega arith;
        nowhere =
            ap (λ (m : ℕ). every (other byte) (part bytes from m)) n
            ∙ ap (every (other byte)) (take-suc (drop from bytes) k 0 (omega (arith, length-drop from bytes, p.after)))
            ∙ every_snoc byte (take k (drop from bytes)) (get_or (drop from bytes) k 0) p.nowhere (ap (other byte) b ∙ ap not (ne_eqb (get_or bytes i 0) byte t));
      }

  pub passed_to : {to : ℕ} → to ≡ i → Passed byte bytes from to
  passed_to e = rw e p

  pub passed_byte : (i < length bytes → get_or bytes i 0 ≡ byte) → Until byte bytes from i
  passed_byte t = record { after = p.after; inside = p.inside; nowhere = p.nowhere; there = t }

  -- where it stands next from there on is where it stands next from `from` on
  pub passed_until : {near end : ℕ} → i ≡ near → Until byte bytes near end → Until byte bytes from end
  passed_until {near} {end} e u =
      let n : end - from ≡ (i - from) + (end - near) = omega (arith, e, p.after, u.after) in
      let j : from + (i - from) ≡ near = omega (arith, e, p.after) in
      let d : drop (i - from) (drop from bytes) ≡ drop near bytes = drop-drop (i - from) from bytes ∙ ap (λ (m : ℕ). drop m bytes) j in
      record {
        after = omega (arith, e, p.after, u.after);
        inside = u.inside;
        nowhere =
            ap (λ (m : ℕ). every (other byte) (part bytes from m)) n
            ∙ every_join byte (drop from bytes) (i - from) (end - near) p.nowhere (ap (λ (l : List ℕ). every (other byte) (take (end - near) l)) d ∙ u.nowhere);
        there = u.there;
      }

-- ---- the first place in a part

not_true : (t : Bool) → (t ≡ true → ⊥) → not t ≡ true
not_true true h = absurd (h refl)
not_true false h = refl

every_before : (byte : ℕ) (l : List ℕ) (n : ℕ) → n ≤ length l → Nowhere (Passes (is_byte byte) l) 0 n → every (other byte) (take n l) ≡ true
unfolding every
every_before byte l zero h f = refl
every_before byte [] (suc n) h f = absurd (omega arith)
every_before byte (b ∷ l) (suc n) h f =
    simp (not_true (eqb b byte) (f 0 (omega arith) (omega arith)), every_before byte l n (omega arith) (λ k p q. f (suc k) (omega arith) (omega arith))) refl

module _ (byte : ℕ) (bytes : List ℕ) (from : ℕ) (h : from ≤ length bytes) where
  -- what is searched
  abbrev rest : List ℕ
  rest = take (length bytes - from) (drop from bytes)

  rest_is : rest ≡ drop from bytes
  rest_is = take_all (length bytes - from) (drop from bytes) (omega (arith, length-drop from bytes))

  length_rest : length rest ≡ length bytes - from
  length_rest = ap length rest_is ∙ length-drop from bytes

  before : (n : ℕ) → n ≤ length rest → Nowhere (Passes (is_byte byte) rest) 0 n → every (other byte) (part bytes from n) ≡ true
  before n l f = ap (λ (x : List ℕ). every (other byte) (take n x)) (sym rest_is) ∙ every_before byte rest n l f

  pub until_none : Nowhere (Passes (is_byte byte) rest) 0 (length rest) → Until byte bytes from (length bytes)
  until_none f =
      record {
        after = h;
        inside = omega arith;
        nowhere = before (length bytes - from) (omega (arith, length_rest)) (λ k p q. f k p (omega (arith, length_rest)));
        there = λ l. absurd (omega arith);
      }

  pub until_some : (k : ℕ) → NoneBefore (Passes (is_byte byte) rest) 0 (length rest) k → Passes (is_byte byte) rest k → Until byte bytes from (from + k)
  until_some k b p =
      let n : from + k - from ≡ k = omega arith in
      record {
        after = omega arith;
        inside = omega (arith, b.high, length_rest);
        nowhere = ap (λ (m : ℕ). every (other byte) (part bytes from m)) n ∙ before k (omega (arith, b.high)) b.before;
        there = λ l. sym (get_or-drop from bytes k 0) ∙ ap (λ (x : List ℕ). get_or x k 0) (sym rest_is) ∙ eqb-true (get_or rest k 0) byte p;
      }
