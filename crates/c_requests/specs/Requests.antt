-- A request as another language is handed it: what a target names, what the arguments mean, a colour, and the whole.
use Rattle.std.specs.Prelude.{ℕ, get_or, eqb}
use Rattle.refusal.specs.Test.{pick, flag}
use Rattle.refusal.specs.Answer.{Answer, refused, full}
use Rattle.command.specs.Colours.{xy_type, tc_type, rgbwaf_type}
use Rattle.colour.specs.Colour.{Hue, hue, type_of}
use Rattle.target.specs.Target.{Aim, gear as gear·aim, group as group·aim, broadcast, no_target}
use Rattle.meaning.specs.Meaning.{Sense, bare, group, emit, timers, group_scene, channel, filter, query, gear}
use Rattle.meaning.specs.Meaning.{inhibit, scene, level, lit, target}
use Rattle.request.specs.declared.Ipv4.{Ipv4}
use Rattle.request.specs.Said.{Heard, heard, Inside, arguments, address, coloured}
use Rattle.c_requests.specs.declared.WickAim.{WickAim}
use Rattle.c_requests.specs.declared.WickMeaning.{WickMeaning}
use Rattle.c_requests.specs.declared.WickAddress.{WickAddress}
use Rattle.c_requests.specs.declared.WickColour.{WickColour}
use Rattle.c_requests.specs.declared.WickRequest.{WickRequest}

-- what a target names, and its number; 0 where no target is meant
abbrev pub aimed : ℕ → ℕ → WickAim
aimed k n = record { kind = k; number = n }

abbrev pub no_aim : WickAim
no_aim = aimed 0 0

abbrev pub aim_out : Aim → WickAim
aim_out (gear·aim n) = aimed 1 n
aim_out (group·aim g) = aimed 2 g
aim_out broadcast = aimed 3 0
aim_out no_target = aimed 4 0

-- a kind of meaning with its target, its numbers of a byte, and its number of two bytes
abbrev pub means_out : ℕ → WickAim → ℕ → ℕ → ℕ → ℕ → WickMeaning
means_out k t i j l w = record { kind = k; aim = t; first = i; second = j; third = l; wide = w }

abbrev pub no_meaning : WickMeaning
no_meaning = means_out 0 no_aim 0 0 0 0

-- the kinds by their numbers, in the order of crate meaning
abbrev pub meaning_out : Sense → WickMeaning
meaning_out bare = means_out 1 no_aim 0 0 0 0
meaning_out (group g) = means_out 2 no_aim g 0 0 0
meaning_out (emit a) = means_out 3 no_aim a 0 0 0
meaning_out (timers v i) = means_out 4 no_aim v i 0 0
meaning_out (group_scene g s) = means_out 5 no_aim g s 0 0
meaning_out (channel u n) = means_out 6 no_aim u 0 0 n
meaning_out (filter a i m) = means_out 7 no_aim a i 0 m
meaning_out (query a s i) = means_out 8 no_aim a s i 0
meaning_out (gear a) = means_out 9 no_aim a 0 0 0
meaning_out (inhibit t n) = means_out 10 (aim_out t) 0 0 0 n
meaning_out (scene t s) = means_out 11 (aim_out t) s 0 0 0
meaning_out (level t l) = means_out 12 (aim_out t) l 0 0 0
meaning_out (lit t) = means_out 13 (aim_out t) 0 0 0 0
meaning_out (target t) = means_out 14 (aim_out t) 0 0 0 0

-- the four bytes of an address, as they stand
abbrev pub addressed : ℕ → ℕ → ℕ → ℕ → WickAddress
addressed i j k l = record { b0 = i; b1 = j; b2 = k; b3 = l }

abbrev pub address_in : WickAddress → Ipv4
address_in w = record { 0 = w.b0; 1 = w.b1; 2 = w.b2; 3 = w.b3 }

abbrev pub no_address : WickAddress
no_address = addressed 0 0 0 0

-- a colour request before its colour is told: the colour's type, the target and what it lights, the level
abbrev pub colourless : ℕ → ℕ → WickAim → ℕ → WickColour
colourless k a t l =
    record {
      kind = k;
      target = a;
      aim = t;
      level = l;
      red = 0;
      green = 0;
      blue = 0;
      white = 0;
      amber = 0;
      free = 0;
      x = 0;
      y = 0;
      tc = 0;
    }

abbrev pub no_colour : WickColour
no_colour = colourless 0 0 no_aim 0

-- the value of a channel: of a type, by its place there; 0 where the colour is of another type
abbrev pub channel_of : ℕ → ℕ → Hue → ℕ
channel_of k i (hue j vs) = pick (eqb j k) (get_or vs i 0) 0

-- the target as it stands, what it lights, the level, and each channel of the colour's type; the channels of the others are 0
abbrev pub colour_out : ℕ → Aim → ℕ → Hue → WickColour
colour_out a t l h =
    record {
      kind = type_of h;
      target = a;
      aim = aim_out t;
      level = l;
      red = channel_of rgbwaf_type 0 h;
      green = channel_of rgbwaf_type 1 h;
      blue = channel_of rgbwaf_type 2 h;
      white = channel_of rgbwaf_type 3 h;
      amber = channel_of rgbwaf_type 4 h;
      free = channel_of rgbwaf_type 5 h;
      x = channel_of xy_type 0 h;
      y = channel_of xy_type 1 h;
      tc = channel_of tc_type 0 h;
    }

-- a request before its contents are told
abbrev pub contentless : ℕ → ℕ → ℕ → ℕ → WickRequest
contentless n s k m =
    record {
      refusal = n;
      sequence = s;
      command = k;
      a = 0;
      b = 0;
      c = 0;
      d = 0;
      address = no_address;
      retired = m;
      port = 0;
      meaning = no_meaning;
      colour = no_colour;
    }

-- the arguments and their meaning, or the port and the address, or the colour; what the others have is 0
abbrev pub inside_out : ℕ → ℕ → ℕ → Inside → WickRequest
inside_out s k m (arguments a b c d e) =
    record {
      refusal = 0;
      sequence = s;
      command = k;
      a = a;
      b = b;
      c = c;
      d = d;
      address = no_address;
      retired = m;
      port = 0;
      meaning = meaning_out e;
      colour = no_colour;
    }
inside_out s k m (address p i j g h) =
    record {
      refusal = 0;
      sequence = s;
      command = k;
      a = 0;
      b = 0;
      c = 0;
      d = 0;
      address = addressed i j g h;
      retired = m;
      port = p;
      meaning = no_meaning;
      colour = no_colour;
    }
inside_out s k m (coloured t lights l h) =
    record {
      refusal = 0;
      sequence = s;
      command = k;
      a = 0;
      b = 0;
      c = 0;
      d = 0;
      address = no_address;
      retired = m;
      port = 0;
      meaning = no_meaning;
      colour = colour_out t lights l h;
    }

-- a refusal: every other field is 0
abbrev pub request_out : Answer Heard → WickRequest
request_out (refused k) = contentless k 0 0 0
request_out (full (heard s k r x)) = inside_out s k (flag r) x
