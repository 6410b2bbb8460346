-- The columns of an output line as they are written one by one, and that they join to the line.
use Rattle.std.specs.Prelude.{◌≡◌, refl, Bool, true, false, cond, List, [], ◌∷◌, ◌++◌, ℕ, ◌+◌, ◌-◌, ◌≤◌, eqb, length, take, drop, ℤ}
use Rattle.std.proofs.Common.{sym, ap, ◌∙◌, append_assoc, length-append, arith, to_z}
use Rattle.std.specs.Int.{w64}
use borrow.Author.Tests.{eq-eqb, ne_eqb, eqb-false}
use Rattle.rules.specs.declared.Answer.{Answer}
use Rattle.rules.specs.declared.Outcome.{Outcome}
use Rattle.rules.specs.Layout.{part}
use Rattle.rules.specs.Answer.{Fields, fields_of}
use Rattle.rules.specs.Replay.{decimal, signed, value_shown, line_written}
use Rattle.decimals.specs.DigitLaws.{decimal_most}
use Rattle.telling.specs.declared.Told.{Told}
use Rattle.telling.specs.Told.{told_of, ReadBack}
use Rattle.printing.specs.Printable.{TextInside}

-- ---- what each function writes

-- a number and the byte that ends its column
unfoldable pub ended : ℕ → ℕ → List ℕ
ended n end = decimal n ++ (end ∷ [])

-- three columns, of which the last has an end of its own
unfoldable pub three_ended : ℕ → ℕ → ℕ → ℕ → List ℕ
three_ended a b c end = (ended a 9 ++ ended b 9) ++ ended c end

pub ended_most : (n end : ℕ) → length (ended n end) ≤ 21
unfolding ended
ended_most n end = omega (arith, length-append (decimal n) (end ∷ []), decimal_most n)

pub three_most : (a b c end : ℕ) → length (three_ended a b c end) ≤ 63
unfolding three_ended
three_most a b c end =
    omega (arith, length-append (ended a 9 ++ ended b 9) (ended c end), length-append (ended a 9) (ended b 9), ended_most a 9, ended_most b 9, ended_most c end)

-- the fields, by what is told of them
abbrev pub told_fields : Told → Fields
told_fields t =
    record { answer = t.answer; kind = t.kind; flags = t.flags; number = to_z w64 t.bits; offset = t.offset; size = t.size }

abbrev pub ToldInside : Told → List ℕ → Type 0
ToldInside t pool = t.kind ≡ 4 → t.offset + t.size ≤ length pool

pub inside_told : (a : Answer) (pool : List ℕ) (t : Told) → t ≡ told_of a.outcome → TextInside a pool → ToldInside t pool
unfolding told_of TextInside
inside_told a pool t e h = rw e h

-- ---- the value's column

module _ (f : Fields) (pool : List ℕ) where
  pub shown_none : f.kind ≡ 0 → 45 ∷ [] ≡ value_shown f pool
  unfolding value_shown
  shown_none h = simp (eq-eqb f.kind 0 h)

  text_is : f.kind ≡ 4 → part pool f.offset f.size ≡ value_shown f pool
  unfolding value_shown
  text_is h = rw h

  pub shown_number : (f.kind ≡ 0 → ⊥) → (f.kind ≡ 4 → ⊥) → signed f.number ≡ value_shown f pool
  unfolding value_shown
  shown_number g h = simp (ne_eqb f.kind 0 g, ne_eqb f.kind 4 h)

  -- a text that lies in the pool, from the offset up to its end
  pub shown_text : f.kind ≡ 4 → take (f.offset + f.size - f.offset) (drop f.offset pool) ≡ value_shown f pool
  shown_text k =
      let c : f.offset + f.size - f.offset ≡ f.size = omega arith in
      ap (λ (n : ℕ). take n (drop f.offset pool)) c ∙ text_is k

-- a number matters only beside a kind
shown_by : (f : Fields) (z : ℤ) (pool : List ℕ) (b : Bool) → eqb f.kind 0 ≡ b → ((f.kind ≡ 0 → ⊥) → z ≡ f.number) → cond (eqb f.kind 0) (45 ∷ []) (cond (eqb f.kind 4) (part pool f.offset f.size) (signed z)) ≡ value_shown f pool
unfolding value_shown
shown_by f z pool true e h = simp e
shown_by f z pool false e h =
    ap (λ (x : ℤ). cond (eqb f.kind 0) (45 ∷ []) (cond (eqb f.kind 4) (part pool f.offset f.size) (signed x))) (h (eqb-false f.kind 0 e))

pub shown_told : (o : Outcome) (t : Told) (pool : List ℕ) → t ≡ told_of o → ReadBack o t → value_shown (told_fields t) pool ≡ value_shown (fields_of o) pool
unfolding ReadBack told_of value_shown
shown_told o t pool e r =
    ap (λ (x : Told). value_shown (told_fields x) pool) e
    ∙ shown_by (fields_of o) (to_z w64 (told_of o).bits) pool (eqb (fields_of o).kind 0) refl (λ n. sym (ap (λ (x : Told). to_z w64 x.bits) e) ∙ r n)

-- ---- the whole line

pub line_joined : (n : ℕ) (a : Answer) (pool : List ℕ) (t : Told) → t ≡ told_of a.outcome → ReadBack a.outcome t → ((three_ended n t.answer t.kind 9 ++ value_shown (told_fields t) pool) ++ (9 ∷ [])) ++ three_ended t.flags a.rounds a.removed 10 ≡ line_written n a pool
unfolding ended three_ended line_written told_of
line_joined n a pool t e r =
    ap (λ (x : List ℕ). ((three_ended n t.answer t.kind 9 ++ x) ++ (9 ∷ [])) ++ three_ended t.flags a.rounds a.removed 10) (shown_told a.outcome t pool e r)
    ∙ ap (λ (x : Told). ((three_ended n x.answer x.kind 9 ++ value_shown (fields_of a.outcome) pool) ++ (9 ∷ [])) ++ three_ended x.flags a.rounds a.removed 10) e
    ∙ simp append_assoc
