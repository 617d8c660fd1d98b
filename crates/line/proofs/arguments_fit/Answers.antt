use mathlib.Core.Path.{◌∙◌}
use Rattle.command.specs.Known.{shape_told}
use Rattle.line.proofs.arguments_fit.Goals as goal

pub returns-in-Unknown : goal.returns-in-Unknown
returns-in-Unknown c = rw (← shape_told c.shape_of.result _ c.shape_of.ensures, c.in-Unknown.is)

pub returns-in-Basic : goal.returns-in-Basic
returns-in-Basic c = c.fits.ensures ∙ rw (← shape_told c.shape_of.result _ c.shape_of.ensures, c.in-Basic.is)

pub returns-in-Colour : goal.returns-in-Colour
returns-in-Colour c = c.is_lighting.ensures ∙ rw (← shape_told c.shape_of.result _ c.shape_of.ensures, c.in-Colour.is)

pub returns-in-Unicast : goal.returns-in-Unicast
returns-in-Unicast c = rw (← shape_told c.shape_of.result _ c.shape_of.ensures, c.in-Unicast.is)
