-- Document 01, "Frames": the fields of a reply, document 01's ranges for them, and the published layout.
--   Reply, 4 + n bytes: type, sequence, n, n data bytes, sum; n is 0 to 64. Types: A0 OK, A1 ANSWER, A2 NO_ANSWER, A3 ERROR.
--   Any type may carry any n.
use Rattle.std.specs.Prelude.{ℕ, ◌≤◌, true, ◌≡◌, List, ◌∷◌, length}
use Rattle.lead.specs.Lead.{is_reply, reply_data}
use Rattle.sum.specs.Bytes.{Bytes}
use Rattle.frame.specs.Frame.{sealed}

-- where a reply's data begin, behind type, sequence and n
abbrev pub data_at : ℕ
data_at = 3

-- a reply's fields: type, sequence, data
pub data Fields : Type 0 where
  reply : ℕ → ℕ → List ℕ → Fields

pub data InRange : Fields → Type 0 where
  reply_fits : {t s : ℕ} {l : List ℕ} → is_reply t ≡ true → length l ≤ reply_data → Bytes (t ∷ s ∷ l) → InRange (reply t s l)

-- the bytes in front of the sum
abbrev pub head : Fields → List ℕ
head (reply t s l) = t ∷ s ∷ length l ∷ l

-- a reply's datagram
abbrev pub layout : Fields → List ℕ
layout f = sealed (head f)
