-- How many bytes are kept.
use Rattle.std.specs.Prelude.{ℕ, ◌-◌, min, ◌≡◌, List, length}
use Rattle.std.proofs.Common.{length-take, length-drop}
use Rattle.turns.specs.Keep.{unread}

pub unread_length : (buf : List ℕ) (from end : ℕ) → length (unread buf from end) ≡ min end (length buf) - from
unread_length buf from end = simp (length-drop, length-take)
