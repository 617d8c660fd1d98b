use Rattle.lent.specs.Behind.{puts_append}
use Rattle.sheet_svg.proofs.picture.Goals as goal

pub returns : goal.returns
returns c =
    puts_append (puts_append (puts_append (puts_append (puts_append c.head-c.ensures c.legend-d.ensures) (rw c.scale_of-m.ensures at c.left-e.ensures)) (rw c.scale_of-m.ensures at c.right-f.ensures)) (rw c.scale_of-m.ensures at c.four-g.ensures)) c.end.ensures
