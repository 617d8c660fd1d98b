use Rattle.lent.specs.Behind.{puts_append}
use Rattle.sheet_svg.proofs.four.Goals as goal

pub returns : goal.returns
returns c =
    puts_append (puts_append (puts_append c.season-c.ensures c.season-d.ensures) c.season-e.ensures) c.season.ensures
