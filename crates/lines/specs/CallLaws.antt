-- The call that fields make: what each step of the code learns of it.
use Rattle.std.specs.Prelude.{◌≡◌, refl, Bool, true, false, cond, ◌&&◌, List, [], ◌∷◌, ◌++◌, ℕ, ◌≤◌, ◌<◌, ◌^◌, ◌-◌, eqb, leb, length, ℤ, pos, Option, Some, None, is_some}
use Rattle.std.specs.Borrow.{Bor}
use Rattle.std.proofs.Common.{sym, ap, ◌∙◌, arith, le-leb, leb-true, ne_eqb}
use Rattle.std.proofs.lemmas.Bool.{lt-leb}
use Rattle.rules.specs.LookUp.{same}
use Rattle.rules.specs.Replay.{LineCall, freshes, gets, deletes, unreadable, Value, is_decimal, digits_from, number_said, weight_said, highest, fresh_word, set_word, get_word, delete_word, fresh_said, key_said, boolean_said, number_value, value_said, set_said, kind_said, parts_from, parts_of, parts_say, call_of}
use Rattle.lines.specs.Saying.{Cut}

-- ---- numbers

-- a number that is read is no more than the highest
pub most_said : (field : List ℕ) {most n : ℕ} → Some n ≡ number_said most field → n ≤ most
unfolding number_said
most_said field {most} {n} e = go (is_decimal field) (leb d most) refl e
  where
    d : ℕ
    d = digits_from 0 field

    go : (s t : Bool) → leb d most ≡ t → Some n ≡ cond (s && t) (Some d) None → n ≤ most
    go true true q i = let same_number : n ≡ d = cc in omega (arith, leb-true d most q)
    go true false q i = absurd (let z : ◌≡◌ {A = ℕ} 0 1 = cc in omega arith)
    go false t q i = absurd (let z : ◌≡◌ {A = ℕ} 0 1 = cc in omega arith)

-- ---- two fields, and three

pub fresh_says : (word count : List ℕ) {s : Option ℕ} → true ≡ same word fresh_word → s ≡ number_said 1024 count → fresh_said s ≡ parts_say (word ∷ count ∷ [])
unfolding parts_say
fresh_says word count w e = ap fresh_said e ∙ ap (λ (b : Bool). cond b (fresh_said (number_said 1024 count)) unreadable) w

pub fresh_other : (word count : List ℕ) → false ≡ same word fresh_word → unreadable ≡ parts_say (word ∷ count ∷ [])
unfolding parts_say
fresh_other word count w = ap (λ (b : Bool). cond b (fresh_said (number_said 1024 count)) unreadable) w

pub fresh_is : {n : ℕ} → (n ≡ 0 → ⊥) → freshes n ≡ fresh_said (Some n)
unfolding fresh_said
fresh_is {n} h = sym (ap (λ (b : Bool). cond b (freshes n) unreadable) (le-leb 1 n (omega arith)))

pub key_says : (clock word key : List ℕ) {s : Option ℕ} → s ≡ number_said highest clock → key_said word key s ≡ parts_say (clock ∷ word ∷ key ∷ [])
unfolding parts_say
key_says clock word key e = ap (key_said word key) e

module _ (n : ℕ) (word key : List ℕ) where
  pub get_is : true ≡ same word get_word → gets n key ≡ key_said word key (Some n)
  unfolding key_said
  get_is w = ap (λ (b : Bool). cond b (gets n key) (cond (same word delete_word) (deletes n key) unreadable)) w

  second_word : {c : LineCall} → false ≡ same word get_word → c ≡ cond (same word delete_word) (deletes n key) unreadable → c ≡ key_said word key (Some n)
  unfolding key_said
  second_word w e = e ∙ ap (λ (b : Bool). cond b (gets n key) (cond (same word delete_word) (deletes n key) unreadable)) w

  pub delete_is : false ≡ same word get_word → true ≡ same word delete_word → deletes n key ≡ key_said word key (Some n)
  delete_is g d = second_word g (ap (λ (b : Bool). cond b (deletes n key) unreadable) d)

  pub word_other : false ≡ same word get_word → false ≡ same word delete_word → unreadable ≡ key_said word key (Some n)
  word_other g d = second_word g (ap (λ (b : Bool). cond b (deletes n key) unreadable) d)

-- ---- the value's field

module _ (kind : ℕ) (field : List ℕ) where
  pub boolean_says : {s : Option ℕ} → kind ≡ 1 → s ≡ number_said 1 field → boolean_said s ≡ value_said kind field
  unfolding value_said
  boolean_says k e = ap boolean_said e ∙ sym (ap (λ (n : ℕ). value_said n field) k)

  pub weight_says : {s : Option ℤ} → kind ≡ 3 → s ≡ weight_said field → number_value s ≡ value_said kind field
  unfolding value_said
  weight_says k e = ap number_value e ∙ sym (ap (λ (n : ℕ). value_said n field) k)

  pub text_says : kind ≡ 4 → Some (record { number = pos 0; text = field }) ≡ value_said kind field
  unfolding value_said
  text_says k = sym (ap (λ (n : ℕ). value_said n field) k)

  pub other_says : (kind ≡ 1 → ⊥) → (kind ≡ 3 → ⊥) → (kind ≡ 4 → ⊥) → Some (record { number = pos 0; text = [] }) ≡ value_said kind field
  unfolding value_said
  other_says a b c = sym (simp (ne_eqb kind 1 a, ne_eqb kind 3 b, ne_eqb kind 4 c))

-- ---- a `set`

pub set_says : (clock key kind value lifetime flags : List ℕ) {n : ℕ} {t l m : Option ℕ} {v : Option Value} → Some n ≡ number_said 255 kind → t ≡ number_said highest clock → v ≡ value_said n value → l ≡ number_said highest lifetime → m ≡ number_said (2 ^ 32 - 1) flags → set_said key t n v l m ≡ kind_said clock key (number_said 255 kind) value lifetime flags
unfolding kind_said
set_says clock key kind value lifetime flags ek et ev el em = rw (← ek, et, ev, el, em) refl

-- ---- fields cut off one by one

-- eight or more: what follows a tab is a field at least
eight : (a b c d e f g begun l : List ℕ) → unreadable ≡ parts_say (a ∷ b ∷ c ∷ d ∷ e ∷ f ∷ g ∷ parts_from begun l)
unfolding parts_say parts_from
eight a b c d e f g begun [] = refl
eight a b c d e f g begun (x ∷ l) = by (eqb x 9) (eight a b c d e f g (begun ++ (x ∷ [])) l)
  where
    by : (t : Bool) → unreadable ≡ parts_say (a ∷ b ∷ c ∷ d ∷ e ∷ f ∷ g ∷ parts_from (begun ++ (x ∷ [])) l) → unreadable ≡ parts_say (a ∷ b ∷ c ∷ d ∷ e ∷ f ∷ g ∷ cond t (begun ∷ parts_from [] l) (parts_from (begun ++ (x ∷ [])) l))
    by true i = refl
    by false i = i

-- the fourth field on
module _ (x y z more : List ℕ) where
  pub four : parts_of more ≡ more ∷ [] → unreadable ≡ parts_say (x ∷ y ∷ z ∷ parts_of more)
  unfolding parts_say
  four e = sym (ap (λ (r : List (List ℕ)). parts_say (x ∷ y ∷ z ∷ r)) e)

  module _ (kind more₁ : List ℕ) (e : parts_of more ≡ kind ∷ parts_of more₁) where
    then_four : {c : LineCall} → c ≡ parts_say (x ∷ y ∷ z ∷ kind ∷ parts_of more₁) → c ≡ parts_say (x ∷ y ∷ z ∷ parts_of more)
    then_four i = i ∙ sym (ap (λ (r : List (List ℕ)). parts_say (x ∷ y ∷ z ∷ r)) e)

    pub five : parts_of more₁ ≡ more₁ ∷ [] → unreadable ≡ parts_say (x ∷ y ∷ z ∷ parts_of more)
    unfolding parts_say
    five h = then_four (sym (ap (λ (r : List (List ℕ)). parts_say (x ∷ y ∷ z ∷ kind ∷ r)) h))

    module _ (value more₂ : List ℕ) (f : parts_of more₁ ≡ value ∷ parts_of more₂) where
      then_five : {c : LineCall} → c ≡ parts_say (x ∷ y ∷ z ∷ kind ∷ value ∷ parts_of more₂) → c ≡ parts_say (x ∷ y ∷ z ∷ parts_of more)
      then_five i = then_four (i ∙ sym (ap (λ (r : List (List ℕ)). parts_say (x ∷ y ∷ z ∷ kind ∷ r)) f))

      pub six : parts_of more₂ ≡ more₂ ∷ [] → unreadable ≡ parts_say (x ∷ y ∷ z ∷ parts_of more)
      unfolding parts_say
      six h = then_five (sym (ap (λ (r : List (List ℕ)). parts_say (x ∷ y ∷ z ∷ kind ∷ value ∷ r)) h))

      module _ (lifetime flags : List ℕ) (g : parts_of more₂ ≡ lifetime ∷ parts_of flags) where
        then_six : {c : LineCall} → c ≡ parts_say (x ∷ y ∷ z ∷ kind ∷ value ∷ lifetime ∷ parts_of flags) → c ≡ parts_say (x ∷ y ∷ z ∷ parts_of more)
        then_six i = then_five (i ∙ sym (ap (λ (r : List (List ℕ)). parts_say (x ∷ y ∷ z ∷ kind ∷ value ∷ r)) g))

        pub many : (r : Option (Bor (List ℕ) × Bor (List ℕ))) → is_some r ≡ true → Cut flags r → unreadable ≡ parts_say (x ∷ y ∷ z ∷ parts_of more)
        unfolding parts_of
        many (Some p) s h =
            then_six (eight x y z kind value lifetime p.0.now [] p.1.now ∙ sym (ap (λ (l : List (List ℕ)). parts_say (x ∷ y ∷ z ∷ kind ∷ value ∷ lifetime ∷ l)) h))
        many None s h = absurd (let q : ◌≡◌ {A = ℕ} 0 1 = cc in omega arith)

        last : (r : Option (Bor (List ℕ) × Bor (List ℕ))) → is_some r ≡ false → Cut flags r → parts_of flags ≡ flags ∷ []
        last (Some p) s h = absurd (let q : ◌≡◌ {A = ℕ} 0 1 = cc in omega arith)
        last None s h = h

        module _ (r : Option (Bor (List ℕ) × Bor (List ℕ))) (s : is_some r ≡ false) (h : Cut flags r) where
          seven : {c : LineCall} → c ≡ cond (same y set_word) (kind_said x z (number_said 255 kind) value lifetime flags) unreadable → c ≡ parts_say (x ∷ y ∷ z ∷ parts_of more)
          unfolding parts_say
          seven i = then_six (i ∙ sym (ap (λ (l : List (List ℕ)). parts_say (x ∷ y ∷ z ∷ kind ∷ value ∷ lifetime ∷ l)) (last r s h)))

          pub seven_other : false ≡ same y set_word → unreadable ≡ parts_say (x ∷ y ∷ z ∷ parts_of more)
          seven_other w = seven (ap (λ (b : Bool). cond b (kind_said x z (number_said 255 kind) value lifetime flags) unreadable) w)

          pub seven_set : {c : LineCall} → true ≡ same y set_word → c ≡ kind_said x z (number_said 255 kind) value lifetime flags → c ≡ parts_say (x ∷ y ∷ z ∷ parts_of more)
          seven_set w i = seven (i ∙ ap (λ (b : Bool). cond b (kind_said x z (number_said 255 kind) value lifetime flags) unreadable) w)

-- ---- from the line's first byte

pub too_long : (line : List ℕ) → 4096 < length line → call_of line ≡ unreadable
unfolding call_of
too_long line h = simp (lt-leb (length line) 4096 h)

module _ (line : List ℕ) (h : length line ≤ 4096) where
  whole : {c : LineCall} (l : List (List ℕ)) → parts_of line ≡ l → c ≡ parts_say l → c ≡ call_of line
  unfolding call_of
  whole l e i = i ∙ sym (ap parts_say e) ∙ sym (ap (λ (t : Bool). cond t (parts_say (parts_of line)) unreadable) (le-leb (length line) 4096 h))

  pub one : parts_of line ≡ line ∷ [] → unreadable ≡ call_of line
  unfolding parts_say
  one e = whole (line ∷ []) e refl

  module _ (x more : List ℕ) (e : parts_of line ≡ x ∷ parts_of more) where
    pub two : {c : LineCall} → parts_of more ≡ more ∷ [] → c ≡ parts_say (x ∷ more ∷ []) → c ≡ call_of line
    two f i = whole (x ∷ more ∷ []) (e ∙ ap (λ (l : List (List ℕ)). x ∷ l) f) i

    module _ (y more₁ : List ℕ) (f : parts_of more ≡ y ∷ parts_of more₁) where
      pub three : {c : LineCall} → parts_of more₁ ≡ more₁ ∷ [] → c ≡ parts_say (x ∷ y ∷ more₁ ∷ []) → c ≡ call_of line
      three g i = whole (x ∷ y ∷ more₁ ∷ []) (e ∙ ap (λ (l : List (List ℕ)). x ∷ l) (f ∙ ap (λ (l : List (List ℕ)). y ∷ l) g)) i

      pub longer : (z more₂ : List ℕ) {c : LineCall} → parts_of more₁ ≡ z ∷ parts_of more₂ → c ≡ parts_say (x ∷ y ∷ z ∷ parts_of more₂) → c ≡ call_of line
      longer z more₂ g i =
          whole (x ∷ y ∷ z ∷ parts_of more₂) (e ∙ ap (λ (l : List (List ℕ)). x ∷ l) (f ∙ ap (λ (l : List (List ℕ)). y ∷ l) g)) i
