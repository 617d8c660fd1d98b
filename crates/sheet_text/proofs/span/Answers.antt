use Rattle.figures.specs.Figures.{span_text}
use Rattle.figures.specs.Ways.{aside, span_most}
use Rattle.sheet_text.proofs.span.Goals as goal

pub returns : goal.returns
returns c =
    let s = c.args.seconds in
    rw (aside (span_text s) (span_most s) c.put_span-n.ensures).1 at c.right.ensures
