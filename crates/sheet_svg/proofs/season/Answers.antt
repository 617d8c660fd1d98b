use Rattle.lent.specs.Behind.{puts_append}
use Rattle.sheet_svg.proofs.season.Goals as goal

pub returns : goal.returns
returns c =
    puts_append (puts_append (puts_append c.bars-c.ensures c.name_line-d.ensures) (rw c.begins.ensures at c.time_line-e.ensures)) (rw c.ends.ensures at c.time_line.ensures)
