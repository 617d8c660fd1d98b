-- The mark of what was read, and what is not written. Document 02, W-210: lines and runs that contain 0A "still read as before, marked as
-- retired"; "New requests with 0A are no longer written."
use Rattle.std.specs.Prelude.{ℕ, ◌≡◌, refl, true, false, not, List, length, leb, eqb}
use Rattle.std.proofs.Common.{sym}
use Rattle.std.proofs.lemmas.Bool.{not-true}
use Rattle.refusal.specs.Test.{clash, not_both}
use Rattle.refusal.specs.Answer.{refused, full, demand_elim, full_one}
use Rattle.sum.specs.Sum.{sum_of}
use Rattle.frame.specs.Frame.{byte}
use Rattle.target.specs.Target.{is_lighting}
use Rattle.command.specs.declared.Rule.{Rule}
use Rattle.command.specs.declared.Rule.TheVariants.{Bare}
use Rattle.command.specs.declared.Shape.{Shape}
use Rattle.command.specs.declared.Shape.TheVariants.{Unknown, Basic, Unicast, Colour}
use Rattle.command.specs.Command.{shape_of, is_retired}
use Rattle.command.specs.Known.{unicast_only, colour_only, retired_only, retired_shape, unicast_current, colour_current}
use Rattle.command.specs.Colours.{is_type}
use Rattle.command.specs.Length.{colour_bytes}
use Rattle.profile.specs.declared.Profile.{Profile}
use Rattle.ranges.specs.Arguments.{fits}
use Rattle.request.specs.Layout.{Fields, basic, unicast, colour, command_in}
use Rattle.request.specs.Said.{Heard, fields_of, command_of, mark_of}
use Rattle.request.specs.Reading.{read_basic, read_unicast, read_coloured, read_shape, read_request}
use Rattle.request.specs.Writing.{basic_of, writer_of, frame_of}

-- what a reading tells: its command is the third byte and that of its fields, and its mark is told by its command
record Told (d : List ℕ) (r : Heard) : Type 0 where
  command : command_of r ≡ byte 2 d
  fields : command_in (fields_of r) ≡ command_of r
  mark : mark_of r ≡ is_retired (command_of r)

basic_told : (d : List ℕ) (rule : Rule) (r : Heard) → read_basic rule d ≡ full r → Told d r
unfolding read_basic
basic_told d rule r =
    demand_elim (eqb (length d) 8) 5
    (λ l. demand_elim (eqb (sum_of d) 0) 6
    (λ z. demand_elim (fits rule (byte 3 d) (byte 4 d) (byte 5 d) (byte 6 d)) 7
    (λ t e. rw (← full_one e) (record { command = refl; fields = refl; mark = refl }))))

unicast_told : (d : List ℕ) (r : Heard) → 0x40 ≡ byte 2 d → read_unicast d ≡ full r → Told d r
unfolding read_unicast
unicast_told d r h =
    demand_elim (eqb (byte 3 d) 6) 4
    (λ six. demand_elim (eqb (length d) 11) 5
    (λ l. demand_elim (eqb (sum_of d) 0) 6
    (λ z e. rw (← full_one e) (record { command = refl; fields = h; mark = refl }))))

colour_told : (d : List ℕ) (r : Heard) → 0x0E ≡ byte 2 d → read_coloured d ≡ full r → Told d r
unfolding read_coloured
colour_told d r h =
    demand_elim (is_type (byte 5 d)) 4
    (λ t. demand_elim (eqb (length d) (colour_bytes (byte 5 d))) 5
    (λ m. demand_elim (eqb (sum_of d) 0) 6
    (λ z. demand_elim (is_lighting (byte 3 d)) 7
    (λ g e. rw (← full_one e) (record { command = refl; fields = h; mark = refl })))))

told : (d : List ℕ) (r : Heard) → read_request d ≡ full r → Told d r
unfolding read_request
told d r = demand_elim (leb 8 (length d)) 1 (λ l. demand_elim (eqb (byte 0 d) 0x04) 2 (λ h. go (shape_of (byte 2 d)) refl))
  where
    go : (x : Shape) → shape_of (byte 2 d) ≡ x → read_shape x d ≡ full r → Told d r
    go Unknown h e = clash (cc)
    go (Basic rule) h e = basic_told d rule r e
    go Unicast h e = unicast_told d r (sym (unicast_only (byte 2 d) h)) e
    go Colour h e = colour_told d r (sym (colour_only (byte 2 d) h)) e

module _ (d : List ℕ) (r : Heard) (e : read_request d ≡ full r) where
  pub heard_command : command_of r ≡ byte 2 d
  heard_command = (told d r e).command

  pub heard_fields : command_in (fields_of r) ≡ command_of r
  heard_fields = (told d r e).fields

  -- a reading is marked exactly if its command is retired
  pub retired_read : mark_of r ≡ is_retired (command_of r)
  retired_read = (told d r e).mark

module _ (p : Profile) where
  -- a request with a retired command is refused with 17 by its writer, whatever its arguments and the profile are, and no byte is written
  pub retired_refused : (f : Fields) → is_retired (command_in f) ≡ true → writer_of p f ≡ refused 17
  retired_refused (basic s k a b c d) m =
      let h : shape_of k ≡ Basic Bare = rw (retired_only k m) retired_shape.1 in
      rw (h, m)
  retired_refused (unicast s port i j k l) m = not_both m unicast_current
  retired_refused (colour s a l h) m = not_both m colour_current

  -- no retired command is written
  pub written_current : (f : Fields) (x : List ℕ) → frame_of p f ≡ full x → is_retired (command_in f) ≡ false
  written_current (basic s k a b c d) x e = go (shape_of k) e
    where
      go : (h : Shape) → basic_of p h s k (record { a = a; b = b; c = c; d = d }) ≡ full x → is_retired k ≡ false
      go Unknown e = clash (cc)
      go Unicast e = clash (cc)
      go Colour e = clash (cc)
      go (Basic rule) e = demand_elim (not (is_retired k)) 17 (λ r q. not-true (is_retired k) r) e
  written_current (unicast s port i j k l) x e = unicast_current
  written_current (colour s a l h) x e = colour_current
