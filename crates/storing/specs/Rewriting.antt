-- A value written in the place of another of the same length.
use Rattle.std.specs.Prelude.{◌≡◌, List, ℕ, ◌+◌, ◌*◌, length, get_or}
use Rattle.std.proofs.Common.{ap, ◌∙◌}
use Rattle.rules.specs.declared.Entry.{Entry}
use Rattle.rules.specs.Layout.{encode, entries_of, none, to_front, put, value_offset, memory_of}
use Rattle.rules.specs.Calls.{Holds, rewrite_at}

pub rewritten_holds : (dir pool : List ℕ) (i : ℕ) (e old : Entry) (value : List ℕ) {dir' pool' : List ℕ} → old ≡ get_or (entries_of dir) i none → pool' ≡ put pool (32 * old.start + old.klen) value → dir' ≡ encode (length dir) (to_front i e (entries_of dir)) → Holds (length dir) (rewrite_at i e value (memory_of dir pool)) dir' pool'
unfolding rewrite_at memory_of
rewritten_holds dir pool i e old value x v d = record { words = d; bytes = v ∙ ap (λ (o : Entry). put pool (value_offset o) value) x }
