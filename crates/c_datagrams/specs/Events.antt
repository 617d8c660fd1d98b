-- An event as another language is handed it. Its data are told by where they begin and how many they are.
use Rattle.std.specs.Prelude.{ℕ, Option, Some, None}
use Rattle.refusal.specs.Answer.{Answer, refused, full}
use Rattle.event.specs.declared.Mac.{Mac}
use Rattle.event_type.specs.Types.{kind_number}
use Rattle.event.specs.Reading.{Told, start_in}
use Rattle.c_datagrams.specs.declared.WickMac.{WickMac}
use Rattle.c_datagrams.specs.declared.WickEvent.{WickEvent}

-- an instance, and whether there is one
abbrev pub instance_no : Option ℕ → ℕ
instance_no (Some i) = i
instance_no None = 0

abbrev pub instance_is : Option ℕ → ℕ
instance_is (Some i) = 1
instance_is None = 0

-- the six bytes of a MAC address, as they stand
abbrev pub mac_out : Mac → WickMac
mac_out m = record { b0 = m.0; b1 = m.1; b2 = m.2; b3 = m.3; b4 = m.4; b5 = m.5 }

abbrev pub mac_in : WickMac → Mac
mac_in w = record { 0 = w.b0; 1 = w.b1; 2 = w.b2; 3 = w.b3; 4 = w.b4; 5 = w.b5 }

abbrev pub no_mac : WickMac
no_mac = record { b0 = 0; b1 = 0; b2 = 0; b3 = 0; b4 = 0; b5 = 0 }

-- a refusal: every other field is 0
abbrev pub no_event : ℕ → WickEvent
no_event k = record { refusal = k; kind = 0; instance = 0; has_instance = 0; mac = no_mac; target = 0; data_at = 0; n = 0 }

-- an event, by the width of its target
abbrev pub event_out : ℕ → Answer Told → WickEvent
event_out w (refused k) = no_event k
event_out w (full e) =
    record {
      refusal = 0;
      kind = kind_number e.kind;
      instance = instance_no e.instance;
      has_instance = instance_is e.instance;
      mac = mac_out e.mac;
      target = e.target;
      data_at = start_in (full e) w;
      n = e.n;
    }
