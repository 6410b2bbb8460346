-- Work on what a look-up found, of use to any call.
use Rattle.std.specs.Prelude.{◌≡◌, List, ℕ}
use Rattle.std.proofs.Common.{sym, ◌∙◌, subst}
use Rattle.rules.specs.declared.Answer.{Answer}
use Rattle.rules.specs.declared.Found.{Found}
use Rattle.rules.specs.Layout.{memory_of}
use Rattle.rules.specs.LookUp.{look_up}
use Rattle.rules.specs.Calls.{Work, Does}
use Rattle.laws.specs.Finding.{Finds, finds}

-- what a look-up found, once it is known which case it is
pub found_so : (clock : ℕ) (dir pool key : List ℕ) {f g : Found} → f ≡ look_up clock key (memory_of dir pool) → f ≡ g → Finds key (memory_of dir pool) g
found_so clock dir pool key x e = subst (Finds key (memory_of dir pool)) (sym x ∙ e) (finds clock key (memory_of dir pool))

-- the work was done for that case
pub found_does : (work : Found → Work) {f g h : Found} {n : ℕ} {a : Answer} {dir pool : List ℕ} → f ≡ h → f ≡ g → Does (work g) n a dir pool → Does (work h) n a dir pool
found_does work {n = n} {a = a} {dir = dir} {pool = pool} x e d = subst (λ (f : Found). Does (work f) n a dir pool) (sym e ∙ x) d
