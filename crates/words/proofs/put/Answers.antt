use native.Mathlib.Omega.{arith}
use Rattle.words.specs.Places.{until_within}
use Rattle.words.proofs.put.Goals as goal

pub slice_bounds-word-end : goal.slice_bounds-word-end
slice_bounds-word-end c =
    let a = c.args in
    let i = c.start-i in
    let u = c.until-e in
    let w = until_within a.part a.names.now i.result u.result i.ensures.0 u.ensures in
    omega arith
