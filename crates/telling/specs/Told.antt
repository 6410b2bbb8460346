-- What an outcome tells, as plain numbers: the paper's fields, a signed number by its bits.
use Rattle.std.specs.Prelude.{◌≡◌, Bool, true, false, cond, ℕ, ◌<◌, ◌^◌, ℤ, pos}
use Rattle.std.proofs.Math.Path.{sym, ap}
use Rattle.std.proofs.Common.{◌∙◌, arith}
use Rattle.std.specs.Int.Signed.{mag}
use mir.Syntax.{w64}
use mir.Val.{bool_byte, to_z, of_z, SFits}
use mathlib.Core.Path.{refl}
use Rattle.std.proofs.Math.Facts.{to_z-of_z}
use Rattle.rules.specs.declared.Outcome.{Outcome}
use Rattle.rules.specs.declared.Outcome.TheVariants.{Number, Boolean, Text, Sum}
use Rattle.rules.specs.Answer.{Fields, fields_of}
use Rattle.values.specs.Bits.{held, bits_told}
use Rattle.telling.specs.declared.Told.{Told}

unfoldable pub told_of : Outcome → Told
told_of o =
    let f : Fields = fields_of o in
    record { answer = f.answer; kind = f.kind; flags = f.flags; bits = of_z w64 f.number; offset = f.offset; size = f.size }

-- where a kind is told, the bits are those of its number
unfoldable pub ReadBack : Outcome → Told → Type 0
ReadBack o t = ((fields_of o).kind ≡ 0 → ⊥) → to_z w64 t.bits ≡ (fields_of o).number

-- a number alone, and done with a value
abbrev pub only_told : ℕ → Told
only_told n = record { answer = n; kind = 0; flags = 0; bits = 0; offset = 0; size = 0 }

abbrev pub value_told : ℕ → ℕ → ℕ → ℕ → ℕ → Told
value_told kind flags bits offset size =
    record { answer = 0; kind = kind; flags = flags; bits = bits; offset = offset; size = size }

-- ---- an outcome that is known

abbrev Tells : Outcome → Told → Type 0
Tells o t = (t ≡ told_of o) × ReadBack o t

module _ {t : Told} {o v : Outcome} (e : t ≡ told_of v) where
  -- it tells no kind
  pub bare_told : (fields_of v).kind ≡ 0 → o ≡ v → Tells o t
  unfolding ReadBack
  bare_told k q = (e ∙ sym (ap told_of q), λ n. absurd (n (ap (λ (x : Outcome). (fields_of x).kind) q ∙ k)))

  -- its number fits 64 bits
  pub fits_told : SFits w64 (fields_of v).number → o ≡ v → Tells o t
  unfolding ReadBack told_of
  fits_told f q = (
    e ∙ sym (ap told_of q),
    λ n. ap (λ (x : Told). to_z w64 x.bits) e ∙ to_z-of_z {w = w64} f ∙ sym (ap (λ (x : Outcome). (fields_of x).number) q),
  )

-- a mark as a number
pub bit_is : (on : Bool) → bool_byte on ≡ cond on 1 0
bit_is true = refl
bit_is false = refl

small : (on : Bool) → SFits w64 (pos (cond on 1 0))
small true = record { sfits = omega arith }
small false = record { sfits = omega arith }

pub text_told : {t : Told} {o : Outcome} {flags offset size : ℕ} → t ≡ value_told 4 flags 0 offset size → o ≡ Text flags offset size → Tells o t
unfolding told_of fields_of
text_told e q = fits_told e (record { sfits = omega arith }) q

-- ---- an outcome whose number was made plain first

pub boolean_told : {t : Told} {o : Outcome} {bits flags offset : ℕ} {on : Bool} → bits ≡ cond on 1 0 → t ≡ value_told 1 flags bits offset 1 → o ≡ Boolean flags on offset → Tells o t
unfolding told_of fields_of
boolean_told {flags = flags} {offset = offset} {on = on} b e q =
    fits_told (e ∙ ap (λ (x : ℕ). value_told 1 flags x offset 1) b) (small on) q

module _ {t : Told} {o : Outcome} {bits : ℕ} {z : ℤ} (h : mag z < 2 ^ 63) (b : bits ≡ of_z w64 (held z)) where
  pub number_told : {flags offset : ℕ} → t ≡ value_told 3 flags bits offset 8 → o ≡ Number flags z offset → Tells o t
  unfolding told_of fields_of
  number_told {flags} {offset} e q =
      let f : SFits w64 z = record { sfits = h } in
      fits_told (e ∙ ap (λ (x : ℕ). value_told 3 flags x offset 8) (bits_told {x = z} f b)) f q

  pub sum_told : t ≡ value_told 3 0 bits 0 0 → o ≡ Sum z → Tells o t
  unfolding told_of fields_of
  sum_told e q =
      let f : SFits w64 z = record { sfits = h } in
      fits_told (e ∙ ap (λ (x : ℕ). value_told 3 0 x 0 0) (bits_told {x = z} f b)) f q
