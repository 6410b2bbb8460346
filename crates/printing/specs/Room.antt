-- How long a line of output gets: each number has its digits, a text is a part of the pool.
use Rattle.std.specs.Prelude.{◌≡◌, Bool, true, false, cond, List, [], ◌∷◌, ◌++◌, ℕ, suc, ◌+◌, ◌≤◌, eqb, length, ℤ, pos, negsuc}
use Rattle.std.proofs.Common.{◌∙◌, arith, length-append, length-take, length-drop}
use Rattle.rules.specs.declared.Answer.{Answer}
use Rattle.rules.specs.Layout.{part}
use Rattle.rules.specs.Answer.{Fields, fields_of}
use Rattle.rules.specs.Replay.{decimal, signed, value_shown, tabbed, line_written}
use Rattle.decimals.specs.DigitLaws.{decimal_most}

-- ---- the value

pub signed_any : (z : ℤ) → length (signed z) ≤ 21
unfolding signed
signed_any (pos n) = omega (arith, decimal_most n)
signed_any (negsuc n) = omega (arith, decimal_most (suc n))

part_most : (pool : List ℕ) (at size : ℕ) → length (part pool at size) ≤ length pool
part_most pool at size = simp (length-take, length-drop) (omega arith)

either : (s t : List ℕ) (b : Bool) (m : ℕ) → length s ≤ m → length t ≤ m → length (cond b s t) ≤ m
either s t true m h k = h
either s t false m h k = k

pub shown_most : (f : Fields) (pool : List ℕ) → length (value_shown f pool) ≤ 21 + length pool
unfolding value_shown
shown_most f pool =
    either (45 ∷ []) _ (eqb f.kind 0) (21 + length pool)
    (omega arith)
    (either (part pool f.offset f.size) (signed f.number) (eqb f.kind 4) (21 + length pool)
    (omega (arith, part_most pool f.offset f.size))
    (omega (arith, signed_any f.number)))

-- ---- the line

length_tabbed : (s rest : List ℕ) → length (tabbed s rest) ≡ length s + 1 + length rest
length_tabbed s rest = length-append s (9 ∷ rest) ∙ omega arith

-- six columns of numbers have 126, the value's has 22 and the pool
pub line_most : (n : ℕ) (a : Answer) (pool : List ℕ) → length (line_written n a pool) ≤ 160 + length pool
unfolding line_written
line_most n a pool =
    let f : Fields = fields_of a.outcome in
    let removed : List ℕ = decimal a.removed ++ (10 ∷ []) in
    let rounds : List ℕ = tabbed (decimal a.rounds) removed in
    let flags : List ℕ = tabbed (decimal f.flags) rounds in
    let value : List ℕ = tabbed (value_shown f pool) flags in
    let kind : List ℕ = tabbed (decimal f.kind) value in
    let answer : List ℕ = tabbed (decimal f.answer) kind in
    omega (
      arith,
      length-append (decimal a.removed) (10 ∷ []),
      decimal_most a.removed,
      shown_most f pool,
      length_tabbed (decimal a.rounds) removed,
      decimal_most a.rounds,
      length_tabbed (decimal f.flags) rounds,
      decimal_most f.flags,
      length_tabbed (value_shown f pool) flags,
      length_tabbed (decimal f.kind) value,
      decimal_most f.kind,
      length_tabbed (decimal f.answer) kind,
      decimal_most f.answer,
      length_tabbed (decimal n) answer,
      decimal_most n,
    )
