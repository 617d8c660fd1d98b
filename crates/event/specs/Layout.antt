-- Document 01, "Frames": the fields of an event, document 01's ranges for them, and the published layout, over the width of
-- the target (3 bytes in source 002's table).
--   Event, 14 + n bytes: 5A 43, six MAC bytes, three target bytes, event type, n, n data bytes, sum; n is 0 to 48.
-- Document 02, W-206: two target bytes, "beside the old one; the caller says which applies".
use Rattle.std.specs.Prelude.{ℕ, suc, ◌+◌, ◌^◌, ◌≤◌, ◌<◌, ◌≡◌, false, List, [], ◌∷◌, ◌++◌, length}
use Rattle.lead.specs.Lead.{event_first, event_second, event_data}
use Rattle.sum.specs.Bytes.{Bytes}
use Rattle.frame.specs.Frame.{sealed}
use Rattle.order.specs.Big.{big_bytes}
use Rattle.event_type.specs.Types.{lacks}
use Rattle.event.specs.declared.Layout.{Layout}
use Rattle.event.specs.declared.Layout.TheVariants.{Three, Two}
use Rattle.event.specs.declared.Mac.{Mac}

-- how many target bytes each layout has
abbrev pub width_of : Layout → ℕ
width_of Three = 3
width_of Two = 2

-- where an event's parts stand: the MAC from 2, the target from 8, then the type, n, and the data
abbrev pub target_at : ℕ
target_at = 8

abbrev pub type_at : ℕ → ℕ
type_at w = target_at + w

abbrev pub count_at : ℕ → ℕ
count_at w = suc (type_at w)

abbrev pub data_at : ℕ → ℕ
data_at w = suc (count_at w)

-- "14 + n bytes": the least of an event, 14 where its target has three; "13 for this layout", where it has two
abbrev pub least : ℕ → ℕ
least w = suc (data_at w)

abbrev pub mac_bytes : Mac → List ℕ
mac_bytes m = m.0 ∷ m.1 ∷ m.2 ∷ m.3 ∷ m.4 ∷ m.5 ∷ []

-- an event's fields: MAC, target, type, data
pub data Fields : Type 0 where
  event : Mac → ℕ → ℕ → List ℕ → Fields

pub data InRange (w : ℕ) : Fields → Type 0 where
  event_fits : {m : Mac} {t k : ℕ} {l : List ℕ} → length l ≤ event_data → t < 256 ^ w → lacks k (length l) ≡ false
      → Bytes (mac_bytes m) → Bytes (k ∷ l) → InRange w (event m t k l)

-- the bytes in front of the data
abbrev pub front : ℕ → Mac → ℕ → ℕ → ℕ → List ℕ
front w m t k n = (event_first ∷ event_second ∷ mac_bytes m) ++ big_bytes w t ++ (k ∷ n ∷ [])

-- the bytes in front of the sum
abbrev pub head : ℕ → Fields → List ℕ
head w (event m t k l) = front w m t k (length l) ++ l

-- an event's datagram
abbrev pub layout : ℕ → Fields → List ℕ
layout w f = sealed (head w f)
