-- Document 01, "Refusals, by number": "2 | the lead is not 04 (request); not A0–A3 (reply, also the type given to a writer); not 5A 43 (event)".
use Rattle.std.specs.Prelude.{ℕ, Bool, ◌&&◌, leb, eqb}

abbrev pub request_lead : ℕ
request_lead = 0x04

abbrev pub is_request : ℕ → Bool
is_request b = eqb b request_lead

abbrev pub is_reply : ℕ → Bool
is_reply b = leb 0xA0 b && leb b 0xA3

-- the two bytes of an event's lead
abbrev pub event_first : ℕ
event_first = 0x5A

abbrev pub event_second : ℕ
event_second = 0x43

abbrev pub is_event : ℕ → ℕ → Bool
is_event a b = eqb a event_first && eqb b event_second

-- "Reply, 4 + n bytes": those beside its data
abbrev pub reply_least : ℕ
reply_least = 4

-- "4 | length byte over 64 (reply), over 48 (event)": the most data bytes of a frame
abbrev pub reply_data : ℕ
reply_data = 64

abbrev pub event_data : ℕ
event_data = 48
