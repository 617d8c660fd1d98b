use Rattle.lent.specs.Behind.{puts_append, puts_same}
use Rattle.bench_seasons.specs.Pieces.{counts_said, held_of, gaps_said}
use Rattle.bench_seasons.proofs.season.Goals as goal

pub returns : goal.returns
returns c =
    let s = c.args.s in
    puts_append (puts_same (counts_said _ _ _) c.put-e.ensures)
    (puts_append (puts_same (held_of s.holds s.longest s.total c.held.ensures) c.put-f.ensures) (puts_same (gaps_said _) c.put.ensures))
