-- Document 01, "Frames", and document 02, W-202: the fields of a request, the documents' ranges for them, and the published layouts.
--   Basic request, 8 bytes: 04, sequence, command, four argument bytes (A, B, C, D), sum.
--   Request 40, 11 bytes: 04, sequence, 40, length 06, port high, port low, four IPv4 bytes, sum.
--   Colour request, 9, 11 or 13 bytes: 04, sequence, 0E, address, level, colour type, the bytes of its channels, sum.
use Rattle.std.specs.Prelude.{ℕ, ◌<◌, ◌≡◌, true, List, [], ◌∷◌, ◌++◌}
use Rattle.sum.specs.Bytes.{Bytes}
use Rattle.lead.specs.Lead.{request_lead}
use Rattle.frame.specs.Frame.{sealed}
use Rattle.order.specs.Big.{big_bytes}
use Rattle.target.specs.Target.{is_lighting}
use Rattle.command.specs.declared.Rule.{Rule}
use Rattle.command.specs.declared.Shape.TheVariants.{Basic}
use Rattle.command.specs.Command.{shape_of, may_write}
use Rattle.command.specs.Length.{unicast_command, unicast_length, colour_command}
use Rattle.profile.specs.declared.Profile.{Profile}
use Rattle.profile.specs.Profile.{allows}
use Rattle.colour.specs.Colour.{Hue, type_of, is_colour, data_in}
use Rattle.ranges.specs.Arguments.{fits}

-- a request's fields: sequence, command, A, B, C, D; or sequence, port and the four bytes of an address; or sequence, address, level and colour
pub data Fields : Type 0 where
  basic : ℕ → ℕ → ℕ → ℕ → ℕ → ℕ → Fields
  unicast : ℕ → ℕ → ℕ → ℕ → ℕ → ℕ → Fields
  colour : ℕ → ℕ → ℕ → Hue → Fields

-- the ranges: a basic request's command has a rule, and its arguments keep it; request 40 takes any port and address;
-- of a colour request "its address is a lighting target, its other values any", and its colour is one of a listed type
pub data InRange : Fields → Type 0 where
  basic_fits : {s k a b c d : ℕ} (rule : Rule) → shape_of k ≡ Basic rule → fits rule a b c d ≡ true → Bytes (s ∷ k ∷ a ∷ b ∷ c ∷ d ∷ [])
      → InRange (basic s k a b c d)
  unicast_fits : {s port i j k l : ℕ} → port < 65536 → Bytes (s ∷ i ∷ j ∷ k ∷ l ∷ []) → InRange (unicast s port i j k l)
  colour_fits : {s a l : ℕ} {h : Hue} → is_lighting a ≡ true → is_colour h ≡ true → Bytes (s ∷ a ∷ l ∷ []) → InRange (colour s a l h)

-- the command of some fields
abbrev pub command_in : Fields → ℕ
command_in (basic s k a b c d) = k
command_in (unicast s port i j k l) = unicast_command
command_in (colour s a l h) = colour_command

-- what may be written under a profile: what is in range and has a command that may be, and that the profile allows. W-203: "demand 2's writing
-- half holds where the profile is not chosen, and under it for the commands inside"
abbrev pub Writable : Profile → Fields → Type 0
Writable p f = InRange f × (may_write (command_in f) ≡ true) × (allows p (command_in f) ≡ true)

-- the bytes in front of the sum
abbrev pub head : Fields → List ℕ
head (basic s k a b c d) = request_lead ∷ s ∷ k ∷ a ∷ b ∷ c ∷ d ∷ []
head (unicast s port i j k l) = request_lead ∷ s ∷ unicast_command ∷ unicast_length ∷ big_bytes 2 port ++ (i ∷ j ∷ k ∷ l ∷ [])
head (colour s a l h) = request_lead ∷ s ∷ colour_command ∷ a ∷ l ∷ type_of h ∷ data_in h

-- a request's datagram
abbrev pub layout : Fields → List ℕ
layout f = sealed (head f)
