-- What the code's answers say, in the terms of chapter "Replay lines".
use Rattle.std.specs.Prelude.{◌≡◌, List, [], ◌∷◌, ℕ, ◌≤◌, ℤ, Option, Some, None, MatchOption}
use Rattle.std.specs.Borrow.{Bor}
use Rattle.rules.specs.Replay.{LineCall, freshes, sets, gets, deletes, unreadable, Value, parts_of}
use Rattle.lines.specs.declared.Call.{Call}
use Rattle.lines.specs.declared.Call.TheVariants.{Fresh, Set, Get, Delete}

-- the call that is read
abbrev pub said : Option Call → LineCall
said (Some (Fresh cells)) = freshes cells
said (Some (Set clock key kind number text lifetime flags)) = sets clock key.now kind number text.now lifetime flags
said (Some (Get clock key)) = gets clock key.now
said (Some (Delete clock key)) = deletes clock key.now
said None = unreadable

-- P is one that a memory may have
abbrev pub Fine : Option Call → Type 0
Fine (Some (Fresh cells)) = (1 ≤ cells) × (cells ≤ 1024)
Fine _ = Unit {0}

-- a first field and those behind it, or an only one
abbrev pub Cut : List ℕ → Option (Bor (List ℕ) × Bor (List ℕ)) → Type 0
Cut fields r = MatchOption r (parts_of fields ≡ fields ∷ []) (λ p. parts_of fields ≡ p.0.now ∷ parts_of p.1.now)

-- the number and the text that a value's field says
abbrev pub value : Option (ℤ × Bor (List ℕ)) → Option Value
value (Some p) = Some (record { number = p.0; text = p.1.now })
value None = None
