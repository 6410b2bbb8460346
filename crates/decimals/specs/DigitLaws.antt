-- A number's digits: how many there are, and each of them, from the last to the first.
use Rattle.std.specs.Prelude.{◌≡◌, refl, List, [], ◌∷◌, ◌++◌, length, take, get_or}
use Rattle.std.proofs.Common.{sym, ◌∙◌, ⊎_elim, length-append, get_or-take, take_at, take-take, take_all, lt-ltb, le-ltb}
use Rattle.std.proofs.Math.Path.{ap}
use Prim.Native.Nat.{ℕ, zero, suc, ◌+◌, ◌-◌, ◌*◌, ◌/◌, ◌%◌, ◌^◌, ◌≤◌, ◌<◌}
use Rattle.std.proofs.Math.Nat.{pow-succ'}
use native.Mathlib.Omega.{arith}
use Rattle.std.proofs.lemmas.List.{get_or_at}
use Rattle.rules.specs.Replay.{digits_of, decimal}
use Rattle.laws.specs.Booleans.{lt_or_ge}

-- ---- one digit, or more

pub digits_one : (k n : ℕ) → n < 10 → digits_of (suc k) n ≡ (48 + n) ∷ []
unfolding digits_of
digits_one k n h = simp (lt-ltb n 10 h)

pub digits_more : (k n : ℕ) → 10 ≤ n → digits_of (suc k) n ≡ digits_of k (n / 10) ++ ((48 + n % 10) ∷ [])
unfolding digits_of
digits_more k n h = simp (le-ltb n 10 h)

-- ---- how many

length_one : (k n : ℕ) → n < 10 → length (digits_of (suc k) n) ≡ 1
length_one k n h = ap length (digits_one k n h)

length_more : (k n : ℕ) → 10 ≤ n → length (digits_of (suc k) n) ≡ length (digits_of k (n / 10)) + 1
length_more k n h = ap length (digits_more k n h) ∙ length-append (digits_of k (n / 10)) ((48 + n % 10) ∷ [])

pub length_some : (k n : ℕ) → 1 ≤ length (digits_of (suc k) n)
length_some k n = ⊎_elim (λ l. omega (arith, length_one k n l)) (λ g. omega (arith, length_more k n g)) (lt_or_ge n 10)

-- no more than were asked for
pub length_most : (k n : ℕ) → length (digits_of k n) ≤ k
unfolding digits_of
length_most zero n = omega arith
length_most (suc k) n = ⊎_elim (λ l. omega (arith, length_one k n l)) (λ g. omega (arith, length_more k n g, length_most k (n / 10))) (lt_or_ge n 10)

-- a number below a power of ten has no more digits than that has zeros
pub length_within : (j k n : ℕ) → n < 10 ^ suc k → length (digits_of j n) ≤ suc k
unfolding digits_of
length_within zero k n h = omega arith
length_within (suc j) zero n h = omega (arith, length_one j n (omega arith))
length_within (suc j) (suc k) n h =
    let p : 10 ^ suc (suc k) ≡ 10 * 10 ^ suc k = pow-succ' 10 (suc k) in
    ⊎_elim
    (λ l. omega (arith, length_one j n l))
    (λ g. omega (arith, length_more j n g, length_within j k (n / 10) (omega arith)))
    (lt_or_ge n 10)

-- and all of its digits are among so many: there are no more, however many are asked for
pub digits_enough : (k n : ℕ) → n < 10 ^ suc k → digits_of (suc (suc k)) n ≡ digits_of (suc k) n
digits_enough zero n h =
    let l : n < 10 = omega arith in
    digits_one 1 n l ∙ sym (digits_one 0 n l)
digits_enough (suc k) n h =
    let p : 10 ^ suc (suc k) ≡ 10 * 10 ^ suc k = pow-succ' 10 (suc k) in
    ⊎_elim
    (λ l. digits_one (suc (suc k)) n l ∙ sym (digits_one (suc k) n l))
    (λ g. digits_more (suc (suc k)) n g ∙ ap (λ (x : List ℕ). x ++ ((48 + n % 10) ∷ [])) (digits_enough k (n / 10) (omega arith)) ∙ sym (digits_more (suc k) n g))
    (lt_or_ge n 10)

-- ---- a number of 64 bits

pub decimal_least : (n : ℕ) → 1 ≤ length (decimal n)
decimal_least n = length_some 19 n

pub decimal_most : (n : ℕ) → length (decimal n) ≤ 20
decimal_most n = length_most 20 n

-- the digits of a number are those of its tenth, and one more
pub decimal_more : (n : ℕ) → 10 ≤ n → n < 2 ^ 64 → decimal n ≡ decimal (n / 10) ++ ((48 + n % 10) ∷ [])
decimal_more n g h =
    digits_more 19 n g ∙ ap (λ (x : List ℕ). x ++ ((48 + n % 10) ∷ [])) (sym (digits_enough 18 (n / 10) (omega arith)))

-- while the digits are counted: those of the rest are still to be
pub record Counted (n count rest : ℕ) : Type 0 where
  pub left : count + length (decimal rest) ≡ 1 + length (decimal n)
  pub bound : rest < 2 ^ 64
  pub most : count ≤ 20

pub counted_none : {n : ℕ} → n < 2 ^ 64 → Counted n 1 n
counted_none h = record { left = refl; bound = h; most = omega arith }

pub counted_more : {n count rest : ℕ} → Counted n count rest → 10 ≤ rest → Counted n (count + 1) (rest / 10)
counted_more {n} {count} {rest} c h =
    let e : length (decimal rest) ≡ length (decimal (rest / 10)) + 1 = ap length (decimal_more rest h c.bound) ∙ length-append (decimal (rest / 10)) ((48 + rest % 10) ∷ []) in
    record { left = omega (arith, c.left); bound = omega (arith, c.bound); most = omega (arith, c.left, decimal_least (rest / 10), decimal_most n) }

pub counted_done : {n count rest : ℕ} → Counted n count rest → rest < 10 → count ≡ length (decimal n)
counted_done {n} {count} {rest} c h = omega (arith, c.left, length_one 19 rest h)

-- ---- each digit

-- the lowest digits of a number, so many
pub lowest : ℕ → ℕ → List ℕ
lowest zero rest = []
lowest (suc j) rest = lowest j (rest / 10) ++ ((48 + rest % 10) ∷ [])

length_lowest : (j rest : ℕ) → length (lowest j rest) ≡ j
unfolding lowest
length_lowest zero rest = refl
length_lowest (suc j) rest = length-append (lowest j (rest / 10)) ((48 + rest % 10) ∷ []) ∙ omega (arith, length_lowest j (rest / 10))

lowest_is : (k n : ℕ) → digits_of k n ≡ lowest (length (digits_of k n)) n
unfolding digits_of lowest
lowest_is zero n = refl
lowest_is (suc k) n =
    ⊎_elim
    (λ l. let e : n ≡ n % 10 = omega arith in digits_one k n l ∙ ap (λ (x : ℕ). (48 + x) ∷ []) e ∙ ap (λ (x : ℕ). lowest x n) (sym (length_one k n l)))
    (λ g.
    let e : length (digits_of k (n / 10)) + 1 ≡ suc (length (digits_of k (n / 10))) = omega arith in
    digits_more k n g ∙ ap (λ (x : List ℕ). x ++ ((48 + n % 10) ∷ [])) (lowest_is k (n / 10)) ∙ ap (λ (x : ℕ). lowest x n) (sym (length_more k n g ∙ e)))
    (lt_or_ge n 10)

-- the first j of the digits s are still to be written: they are the lowest of the rest
pub record Unsaid (s : List ℕ) (j rest : ℕ) : Type 0 where
  pub is : take j s ≡ lowest j rest
  pub some : j ≤ length s

pub unsaid_all : {n j : ℕ} → j ≡ length (decimal n) → Unsaid (decimal n) j n
unsaid_all {n} {j} e = record { is = take_all j (decimal n) (omega arith) ∙ lowest_is 20 n ∙ ap (λ (x : ℕ). lowest x n) (sym e); some = omega arith }

module _ {s : List ℕ} {j rest : ℕ} (u : Unsaid s j rest) (h : 0 < j) where
  last : take j s ≡ lowest (j - 1) (rest / 10) ++ ((48 + rest % 10) ∷ [])
  unfolding lowest
  last =
      let e : j ≡ suc (j - 1) = omega arith in
      u.is ∙ ap (λ (x : ℕ). lowest x rest) e

  pub unsaid_digit : 48 + rest % 10 ≡ get_or s (j - 1) 0
  unsaid_digit =
      sym (sym (get_or-take j s (j - 1) 0 (omega arith))
      ∙ ap (λ (x : List ℕ). get_or x (j - 1) 0) last
      ∙ get_or_at (lowest (j - 1) (rest / 10)) (48 + rest % 10) [] 0 (j - 1) (length_lowest (j - 1) (rest / 10)))

  pub unsaid_less : Unsaid s (j - 1) (rest / 10)
  unsaid_less =
      record {
        is = sym (take-take (j - 1) j s (omega arith)) ∙ ap (take (j - 1)) last ∙ take_at (lowest (j - 1) (rest / 10)) ((48 + rest % 10) ∷ []) (j - 1) (length_lowest (j - 1) (rest / 10));
        some = omega (arith, u.some);
      }
