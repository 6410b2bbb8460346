-- The lent memory, in the terms of chapter "Replay lines".
use Rattle.std.specs.Prelude.{◌≡◌, length}
use Rattle.rules.specs.Replay.{Replay}
use Rattle.replay_calls.specs.declared.Lent.{Lent}
use Rattle.replay_calls.specs.Front.{state}

-- what is lent, and how far it is in use
abbrev pub left : Lent → Replay
left m = state m.cells m.dir.now m.pool.now

-- the same buffers are lent
pub record Same (m n : Lent) : Type 0 where
  pub dir : n.dir.ghost_name ≡ m.dir.ghost_name
  pub pool : n.pool.ghost_name ≡ m.pool.ghost_name
  pub words : length n.dir.now ≡ length m.dir.now
  pub bytes : length n.pool.now ≡ length m.pool.now
