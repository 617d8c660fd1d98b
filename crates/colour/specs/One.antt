-- What is said of a colour leaves no choice: from it the case is told.
use Rattle.std.specs.Prelude.{◌≡◌, refl, get_or, eqb, Result}
use Rattle.std.proofs.Common.{sym, ap, ◌∙◌}
use Rattle.refusal.specs.Test.{pick}
use Rattle.refusal.specs.Answer.{said_of}
use Rattle.refusal.specs.SaidOf.{said_of_one}
use Rattle.refusal.specs.declared.Refusal.{Refusal}
use Rattle.command.specs.Colours.{xy_type, tc_type}
use Rattle.colour.specs.declared.Colour.{Colour}
use Rattle.colour.specs.declared.Colour.TheVariants.{Xy, Tc, Rgbwaf}
use Rattle.colour.specs.Colour.{Hue, hue, said_colour}

-- the case that says a colour
abbrev pub colour_by : Hue → Colour
colour_by (hue k vs) =
    pick (eqb k xy_type) (Xy (get_or vs 0 0) (get_or vs 1 0))
    (pick (eqb k tc_type) (Tc (get_or vs 0 0))
    (Rgbwaf (get_or vs 0 0) (get_or vs 1 0) (get_or vs 2 0) (get_or vs 3 0) (get_or vs 4 0) (get_or vs 5 0)))

pub colour_back : (x : Colour) → colour_by (said_colour x) ≡ x
colour_back (Xy x y) = refl
colour_back (Tc t) = refl
colour_back (Rgbwaf r g b w a f) = refl

pub colour_one : (x y : Colour) → said_colour x ≡ said_colour y → x ≡ y
colour_one x y e = sym (colour_back x) ∙ ap colour_by e ∙ colour_back y

pub said_one : (x y : Result Colour Refusal) → said_of said_colour x ≡ said_of said_colour y → x ≡ y
said_one = said_of_one said_colour colour_one
