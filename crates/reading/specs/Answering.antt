-- What the readers answer, by what the look-up found.
use Rattle.std.specs.Prelude.{◌≡◌, true, false, List, ℕ, length, get_or}
use Rattle.std.proofs.Math.Path.{refl, ap, subst}
use Rattle.std.proofs.Common.{sym, ◌∙◌}
use Rattle.rules.specs.declared.Entry.{Entry}
use Rattle.rules.specs.declared.Answer.{Answer}
use Rattle.rules.specs.declared.Outcome.{Outcome}
use Rattle.rules.specs.declared.Outcome.TheVariants.{Count, NotFound}
use Rattle.rules.specs.declared.Found.{Found}
use Rattle.rules.specs.declared.Found.TheVariants.{Live, Dead, Missing}
use Rattle.rules.specs.Layout.{encode, entries_of, none, Dir, to_front, Memory, memory_of, move_to_front}
use Rattle.rules.specs.Time.{time_left}
use Rattle.rules.specs.LookUp.{look_up}
use Rattle.rules.specs.Answer.{plain, marked}
use Rattle.rules.specs.Calls.{Work, Does, did, shown, get_found, stale_found, ttl_found}
use Rattle.laws.specs.Buffers.{holds_itself}
use Rattle.laws.specs.Meant.{NoLive, else_is}

module _ (clock : ℕ) (dir pool key : List ℕ) (f : Found) (e : f ≡ look_up clock key (memory_of dir pool)) where
  abbrev m : Memory
  m = memory_of dir pool

  -- get: "else 8", and only the sweep has changed anything
  pub get_nothing : (removed : ℕ) (a : Answer) → NoLive f → Dir dir → a ≡ plain NotFound removed → Does (get_found removed m (look_up clock key m)) (length dir) a dir pool
  unfolding get_found
  get_nothing removed a n d h =
      subst (λ (w : Work). Does w (length dir) a dir pool) (else_is (get_found removed m) (did NotFound removed m) (λ i. refl) refl f n ∙ ap (get_found removed m) e)
      (record { answer = h; memory = holds_itself dir pool d })

  pub ttl_nothing : (a : Answer) → NoLive f → a ≡ plain NotFound 0 → a ≡ ttl_found clock m (look_up clock key m)
  unfolding ttl_found
  ttl_nothing a n h = h ∙ else_is (ttl_found clock m) (plain NotFound 0) (λ i. refl) refl f n ∙ ap (ttl_found clock m) e

  pub stale_nothing : (a : Answer) → f ≡ Missing → a ≡ plain NotFound 0 → a ≡ stale_found m (look_up clock key m)
  unfolding stale_found
  stale_nothing a q h = h ∙ ap (stale_found m) (sym q ∙ e)

  -- an entry, by its record
  module _ (i : ℕ) (x : Entry) (r : x ≡ get_or (entries_of dir) i none) where
    pub get_live : (removed : ℕ) (o : Outcome) (a : Answer) {dir' : List ℕ} → f ≡ Live i → o ≡ shown pool x → a ≡ plain o removed → dir' ≡ encode (length dir) (to_front i x (entries_of dir)) → Does (get_found removed m (look_up clock key m)) (length dir) a dir' pool
    unfolding get_found memory_of move_to_front
    get_live removed o a {dir'} q s h d =
        subst (λ (g : Found). Does (get_found removed m g) (length dir) a dir' pool) (sym q ∙ e)
        (record {
          answer = h ∙ ap (λ (y : Outcome). plain y removed) (s ∙ ap (shown pool) r);
          memory = record { words = d ∙ ap (λ (y : Entry). encode (length dir) (to_front i y (entries_of dir))) r; bytes = refl };
        })

    pub stale_live : (o : Outcome) (a : Answer) → f ≡ Live i → o ≡ shown pool x → a ≡ marked o false → a ≡ stale_found m (look_up clock key m)
    unfolding stale_found memory_of
    stale_live o a q s h = h ∙ ap (λ (y : Outcome). marked y false) (s ∙ ap (shown pool) r) ∙ ap (stale_found m) (sym q ∙ e)

    pub stale_dead : (o : Outcome) (a : Answer) → f ≡ Dead i → o ≡ shown pool x → a ≡ marked o true → a ≡ stale_found m (look_up clock key m)
    unfolding stale_found memory_of
    stale_dead o a q s h = h ∙ ap (λ (y : Outcome). marked y true) (s ∙ ap (shown pool) r) ∙ ap (stale_found m) (sym q ∙ e)

    pub ttl_live : (left : ℕ) (a : Answer) → f ≡ Live i → left ≡ time_left clock x → a ≡ plain (Count left) 0 → a ≡ ttl_found clock m (look_up clock key m)
    unfolding ttl_found memory_of
    ttl_live left a q s h = h ∙ ap (λ (k : ℕ). plain (Count k) 0) (s ∙ ap (time_left clock) r) ∙ ap (ttl_found clock m) (sym q ∙ e)
