use Rattle.lent.specs.Behind.{puts_append}
use Rattle.sheet_svg.proofs.bars.Goals as goal

pub returns : goal.returns
returns c =
    puts_append (puts_append (puts_append (rw c.place.ensures at c.count_line-a.ensures) (rw c.place-2.ensures at c.count_line-b.ensures)) (rw c.place-3.ensures at c.count_line-c.ensures)) (rw c.place-4.ensures at c.gap_line.ensures)
