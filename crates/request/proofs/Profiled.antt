-- Writing under a profile. Document 02, W-203: "only commands that query may be written"; "13, outside the profile, comes after 7 and before 8."
use Rattle.std.specs.Prelude.{ℕ, ◌≡◌, refl, Bool, true, false, not, List, ltb}
use Rattle.std.proofs.Common.{sym, ap, ◌∙◌}
use Rattle.refusal.specs.Test.{clash}
use Rattle.refusal.specs.Answer.{Answer, refused, full, demand, demand_elim}
use Rattle.frame.specs.Frame.{byte}
use Rattle.target.specs.declared.LineTarget.{LineTarget}
use Rattle.target.specs.Target.{is_lighting}
use Rattle.command.specs.declared.Shape.{Shape}
use Rattle.command.specs.declared.Shape.TheVariants.{Unknown, Basic, Unicast, Colour}
use Rattle.command.specs.Command.{shape_of, is_retired}
use Rattle.command.specs.Colours.{is_type}
use Rattle.command.specs.Length.{unicast_command, colour_command}
use Rattle.profile.specs.declared.Profile.{Profile}
use Rattle.profile.specs.declared.Profile.TheVariants.{Open, Quiet}
use Rattle.profile.specs.Profile.{is_inside, allows}
use Rattle.profile.specs.Inside.{unicast_outside, colour_outside}
use Rattle.colour.specs.Colour.{Hue, type_of, is_colour}
use Rattle.ranges.specs.Arguments.{fits}
use Rattle.request.specs.Layout.{Fields, basic, unicast, colour, command_in, layout}
use Rattle.request.specs.Writing.{basic_of, unicast_frame, colour_frame, frame_of}
use Rattle.request.proofs.Retired.{heard_command, heard_fields}
use Rattle.request.proofs.Demand2.{requests}
use Rattle.request.specs.declared.Ipv4.{Ipv4}
use Rattle.request.specs.Profiled.{under}

module _ (p : Profile) where
  basic_last : (h : Shape) (s k a b c d : ℕ)
      → basic_of p h s k (record { a = a; b = b; c = c; d = d }) ≡ under p k (basic_of Open h s k (record { a = a; b = b; c = c; d = d }))
  basic_last Unknown s k a b c d = refl
  basic_last Unicast s k a b c d = refl
  basic_last Colour s k a b c d = refl
  basic_last (Basic rule) s k a b c d = go (not (is_retired k)) (fits rule a b c d) (layout (basic s k a b c d))
    where
      go : (t u : Bool) (x : List ℕ) → demand t 17 (demand u 7 (demand (allows p k) 13 (full x))) ≡ under p k (demand t 17 (demand u 7 (full x)))
      go true true x = refl
      go true false x = refl
      go false u x = refl

  -- 13 COMES LAST OF ALL BUT 8: what is refused where no profile is chosen is refused with the same number under any; and what would be

  -- written is refused with 13 exactly where the profile does not allow its command

  pub profile_last : (f : Fields) → frame_of p f ≡ under p (command_in f) (frame_of Open f)
  profile_last (basic s k a b c d) = basic_last (shape_of k) s k a b c d
  profile_last (unicast s port i j k l) = go (ltb port 65536) (layout (unicast s port i j k l))
    where
      go : (t : Bool) (x : List ℕ) → demand t 7 (demand (allows p unicast_command) 13 (full x)) ≡ under p unicast_command (demand t 7 (full x))
      go true x = refl
      go false x = refl
  profile_last (colour s a l h) = go (is_type (type_of h)) (is_colour h) (is_lighting a) (layout (colour s a l h))
    where
      go : (t u v : Bool) (x : List ℕ)
          → demand t 4 (demand u 7 (demand v 7 (demand (allows p colour_command) 13 (full x)))) ≡ under p colour_command (demand t 4 (demand u 7 (demand v 7 (full x))))
      go true true true x = refl
      go true true false x = refl
      go true false v x = refl
      go false u v x = refl

  -- what is written has a command that the profile allows

  pub written_allowed : (f : Fields) (x : List ℕ) → frame_of p f ≡ full x → allows p (command_in f) ≡ true
  written_allowed f x e = go (frame_of Open f) (sym (profile_last f) ∙ e)
    where
      go : (v : Answer (List ℕ)) → under p (command_in f) v ≡ full x → allows p (command_in f) ≡ true
      go (refused n) q = clash (cc)
      go (full y) q = demand_elim (allows p (command_in f)) 13 (λ t r. t) q

-- so a frame that is written under the quiet profile has a third byte that is inside: its command
pub written_inside : (f : Fields) (x : List ℕ) → frame_of Quiet f ≡ full x → is_inside (byte 2 x) ≡ true
written_inside f x e =
    let w = (requests Quiet).read_written f x e in
    let c : command_in f ≡ byte 2 x = ap command_in (sym w.fields) ∙ heard_fields x w.reading w.accepted ∙ heard_command x w.reading w.accepted in
    rw (← c) (written_allowed Quiet f x e)

-- the writer of request 40 is refused with 13 under it, that of colour requests with 7 or 13
pub quiet_unicast : (s port : ℕ) (ip : Ipv4) → unicast_frame Quiet s port ip ≡ refused 13
quiet_unicast s port ip = rw unicast_outside

pub quiet_colour : (s : ℕ) (t : LineTarget) (l : ℕ) (h : Hue) → colour_frame Quiet s t l h ≡ demand (is_lighting t.0) 7 (refused 13)
quiet_colour s t l h = rw colour_outside
