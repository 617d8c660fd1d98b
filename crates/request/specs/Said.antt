-- What an accepted request says: its sequence number, its command, whether it is "marked as retired", and what lies behind them.
use Rattle.std.specs.Prelude.{ℕ, Bool}
use Rattle.target.specs.Target.{Aim, said_target}
use Rattle.colour.specs.Colour.{Hue, said_colour}
use Rattle.meaning.specs.Meaning.{Sense, said_meaning}
use Rattle.request.specs.Layout.{Fields, basic, unicast, colour}
use Rattle.request.specs.declared.Request.{Request}
use Rattle.request.specs.declared.Contents.{Contents}
use Rattle.request.specs.declared.Contents.TheVariants.{Basic, Unicast, Colour}

-- the four arguments and what they mean; or the port and the four bytes of an address; or the target, what
-- it lights, the level and the colour (127 and 255 light the same, so the target is kept)
pub data Inside : Type 0 where
  arguments : ℕ → ℕ → ℕ → ℕ → Sense → Inside
  address : ℕ → ℕ → ℕ → ℕ → ℕ → Inside
  coloured : ℕ → Aim → ℕ → Hue → Inside

pub data Heard : Type 0 where
  heard : ℕ → ℕ → Bool → Inside → Heard

-- its fields
abbrev pub fields_of : Heard → Fields
fields_of (heard s c r (arguments i j k l m)) = basic s c i j k l
fields_of (heard s c r (address port i j k l)) = unicast s port i j k l
fields_of (heard s c r (coloured a t l h)) = colour s a l h

-- its command, and its mark
abbrev pub command_of : Heard → ℕ
command_of (heard s c r x) = c

abbrev pub mark_of : Heard → Bool
mark_of (heard s c r x) = r

-- document 01's number and values for each case of an answer
abbrev pub said_contents : Contents → Inside
said_contents (Basic x m) = arguments x.a x.b x.c x.d (said_meaning m)
said_contents (Unicast port ip) = address port ip.0 ip.1 ip.2 ip.3
said_contents (Colour target lights level tint) = coloured target.0 (said_target lights) level (said_colour tint)

abbrev pub said_request : Request → Heard
said_request r = heard r.sequence r.command r.retired (said_contents r.contents)
