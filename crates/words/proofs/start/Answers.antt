use Rattle.std.proofs.Common.{arith, ◌-◌, ◌+◌, ◌≡◌}
use Rattle.words.specs.Places.{word_turn, word_left, word_there}
use Rattle.words.proofs.start.Goals as goal

pub returns-then-names-e : goal.returns-then-names-e
returns-then-names-e c =
    let l = c.loop in
    (omega arith, word_left c.args.part (c.args.k - l.counter) c.args.names.now _ l.at l.invariant.1 c.until-e.result (omega arith) c.until-e.ensures c.if-names-e.true)

pub loop-preserved : goal.loop-preserved
loop-preserved c =
    let l = c.loop in
    let e : c.args.k - (l.counter + 1) ≡ c.args.k - l.counter - 1 = omega arith in (
      omega (arith, c.if-names-e.false),
      rw e (word_turn c.args.part (c.args.k - l.counter) c.args.names.now _ l.at l.invariant.1 c.until-e.result (omega arith) c.until-e.ensures),
    )

pub returns : goal.returns
returns c =
    let l = c.loop in
    (l.invariant.0, word_there c.args.part (c.args.k - l.counter) c.args.names.now _ l.at l.invariant.1 (omega arith))
