-- The frame that a writer of requests is to write under a profile, or the refusal that it is to give: 3, then 17, then 4, then 7, then 13; 8
-- comes with the buffer (crate frame). Document 02, W-210: "New requests with 0A are no longer written. .. 17, retired, comes after 3 and before
-- 4"; W-203: "13, outside the profile, comes after 7 and before 8."
use Rattle.std.specs.Prelude.{ℕ, not, List, ltb}
use Rattle.refusal.specs.Answer.{Answer, refused, full, demand}
use Rattle.target.specs.declared.LineTarget.{LineTarget}
use Rattle.target.specs.Target.{is_lighting}
use Rattle.command.specs.declared.Shape.{Shape}
use Rattle.command.specs.declared.Shape.TheVariants.{Unknown, Basic, Unicast, Colour}
use Rattle.command.specs.Command.{shape_of, is_retired}
use Rattle.command.specs.Colours.{is_type}
use Rattle.command.specs.Length.{unicast_command, colour_command}
use Rattle.profile.specs.declared.Profile.{Profile}
use Rattle.profile.specs.Profile.{allows}
use Rattle.colour.specs.Colour.{Hue, type_of, is_colour}
use Rattle.ranges.specs.Arguments.{fits}
use Rattle.meaning.specs.declared.Arguments.{Arguments}
use Rattle.request.specs.Layout.{Fields, basic, unicast, colour, layout}
use Rattle.request.specs.Said.{Heard, mark_of}
use Rattle.request.specs.declared.Ipv4.{Ipv4}

-- "unknown command; also 40 given to the writer of basic requests", and 0E: "its command given to the writer of basic requests is 3"
abbrev pub basic_of : Profile → Shape → ℕ → ℕ → Arguments → Answer (List ℕ)
basic_of p Unknown s k x = refused 3
basic_of p Unicast s k x = refused 3
basic_of p Colour s k x = refused 3
basic_of p (Basic rule) s k x =
    demand (not (is_retired k)) 17
    (demand (fits rule x.a x.b x.c x.d) 7
    (demand (allows p k) 13
    (full (layout (basic s k x.a x.b x.c x.d)))))

abbrev pub basic_frame : Profile → ℕ → ℕ → Arguments → Answer (List ℕ)
basic_frame p s k x = basic_of p (shape_of k) s k x

-- "Request 40 takes any port and address."
abbrev pub unicast_frame : Profile → ℕ → ℕ → Ipv4 → Answer (List ℕ)
unicast_frame p s port ip = demand (allows p unicast_command) 13 (full (layout (unicast s port ip.0 ip.1 ip.2 ip.3)))

-- "its address is a lighting target, its other values any"
abbrev pub colour_frame : Profile → ℕ → LineTarget → ℕ → Hue → Answer (List ℕ)
colour_frame p s t l h = demand (is_lighting t.0) 7 (demand (allows p colour_command) 13 (full (layout (colour s t.0 l h))))

-- the writer for some fields
abbrev pub writer_of : Profile → Fields → Answer (List ℕ)
writer_of p (basic s k a b c d) = basic_frame p s k (record { a = a; b = b; c = c; d = d })
writer_of p (unicast s port i j k l) = unicast_frame p s port (record { 0 = i; 1 = j; 2 = k; 3 = l })
writer_of p (colour s a l h) = colour_frame p s (record { 0 = a }) l h

-- what may be handed to it: a port has two bytes by its type. A colour has a listed type and values that fit by its own, so that what is
-- refused here with 4, "an unlisted colour type", or for its values cannot be handed over (`colour_handed` in Demand2.antt)
abbrev pub frame_of : Profile → Fields → Answer (List ℕ)
frame_of p (basic s k a b c d) = writer_of p (basic s k a b c d)
frame_of p (unicast s port i j k l) = demand (ltb port 65536) 7 (writer_of p (unicast s port i j k l))
frame_of p (colour s a l h) = demand (is_type (type_of h)) 4 (demand (is_colour h) 7 (writer_of p (colour s a l h)))

-- the frame that a relay of requests is to write: what its reader refuses is refused, what is marked is written no more, and all else is
-- written again byte for byte
abbrev pub handed_on : Answer Heard → List ℕ → Answer (List ℕ)
handed_on (refused k) d = refused k
handed_on (full r) d = demand (not (mark_of r)) 17 (full d)
