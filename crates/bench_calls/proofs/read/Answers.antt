use native.Mathlib.Omega.{arith}
use Rattle.words.specs.Places.{until_within}
use Rattle.bench_words.specs.Places.{blanks_most}
use Rattle.bench_calls.proofs.read.Goals as goal

pub slice_bounds-row_of-end : goal.slice_bounds-row_of-end
slice_bounds-row_of-end c =
    let s = c.args.line.now in
    let f = c.first-a in
    let w = until_within 32 s f.result c.until-e.result (omega (arith, f.ensures, blanks_most s)) c.until-e.ensures in
    omega arith
