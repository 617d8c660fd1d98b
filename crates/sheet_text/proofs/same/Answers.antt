use Rattle.sheet_text.specs.Ways.{take_same}
use Rattle.sheet_text.proofs.same.Goals as goal

pub returns : goal.returns
returns c =
    rw (take_same c.args.n 40 c.args.b c.requires) at c.word.ensures
