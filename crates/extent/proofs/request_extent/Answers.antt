use Rattle.command.specs.Known.{shape_told}
use Rattle.extent.specs.Shapes.{shape_extent}
use Rattle.extent.proofs.request_extent.Goals as goal

pub returns-in-Unknown : goal.returns-in-Unknown
returns-in-Unknown c = shape_extent c.args.s.now c.shape_of.result _ c.if-s-lt3.false (shape_told c.shape_of.result _ c.shape_of.ensures) (rw c.in-Unknown.is)

pub returns-in-Basic : goal.returns-in-Basic
returns-in-Basic c = shape_extent c.args.s.now c.shape_of.result _ c.if-s-lt3.false (shape_told c.shape_of.result _ c.shape_of.ensures) (rw c.in-Basic.is)

pub returns-in-Unicast : goal.returns-in-Unicast
returns-in-Unicast c = shape_extent c.args.s.now c.shape_of.result _ c.if-s-lt3.false (shape_told c.shape_of.result _ c.shape_of.ensures) (rw c.in-Unicast.is c.unicast_extent.ensures)

pub returns-in-Colour : goal.returns-in-Colour
returns-in-Colour c = shape_extent c.args.s.now c.shape_of.result _ c.if-s-lt3.false (shape_told c.shape_of.result _ c.shape_of.ensures) (rw c.in-Colour.is c.colour_extent.ensures)
