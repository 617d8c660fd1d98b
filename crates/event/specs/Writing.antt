-- The frame that the writer of events is to write, or the refusal that it is to give: 4, then 7; 8 comes with the buffer (crate frame).
use Rattle.std.specs.Prelude.{ℕ, ◌^◌, not, List, length, leb, ltb}
use Rattle.refusal.specs.Answer.{Answer, full, demand}
use Rattle.lead.specs.Lead.{event_data}
use Rattle.event_type.specs.Types.{lacks}
use Rattle.event.specs.Layout.{event, layout}
use Rattle.event.specs.declared.Mac.{Mac}

-- "an instance event with n = 0; in writing, an event target too large for its bytes"
unfoldable pub event_frame : ℕ → Mac → ℕ → ℕ → List ℕ → Answer (List ℕ)
event_frame w m t k l =
    demand (leb (length l) event_data) 4
    (demand (ltb t (256 ^ w)) 7
    (demand (not (lacks k (length l))) 7
    (full (layout w (event m t k l)))))
