use Rattle.std.proofs.Common.{rules, ◌≡◌, Err, sym, ◌∙◌, length-take, arith}
use Rattle.capture.specs.Says.{front_used, counted_refused, counted_by_lem}
use Rattle.capture.specs.Tally.{tally_room, count_short, count_over, count_well}
use Rattle.capture.proofs.count.Goals as goal

pub tally-k-requires : goal.tally-k-requires
tally-k-requires c = simp length-take (omega (arith, front_used c.args.buf.now c.args.used _ (sym c.in_ok-layout.ensures)))

pub walk-m-requires : goal.walk-m-requires
walk-m-requires c =
    tally_room _ _ c.tally-k.result (omega (arith, front_used c.args.buf.now c.args.used _ (sym c.in_ok-layout.ensures))) c.tally-k.ensures

pub returns-in_err-layout : goal.returns-in_err-layout
returns-in_err-layout c =
    let z : c.from_residual.result ≡ Err c.in_err-layout.field-0.0 = search rules in
    rw z (sym (counted_refused _ _ _ (sym c.in_err-layout.ensures)))

pub returns-then-m-s : goal.returns-then-m-s
returns-then-m-s c =
    let f = front_used c.args.buf.now c.args.used _ (sym c.in_ok-layout.ensures) in
    count_short _ _ c.tally-k.result c.walk-m.result (omega (arith, f)) c.tally-k.ensures c.walk-m.ensures (omega arith)
    ∙ sym (counted_by_lem _ _ _ (sym c.in_ok-layout.ensures))

pub returns-then-k-s : goal.returns-then-k-s
returns-then-k-s c =
    let f = front_used c.args.buf.now c.args.used _ (sym c.in_ok-layout.ensures) in
    count_over _ _ c.tally-k.result c.walk-m.result (omega (arith, f)) c.tally-k.ensures c.walk-m.ensures (omega arith) (omega arith)
    ∙ sym (counted_by_lem _ _ _ (sym c.in_ok-layout.ensures))

pub returns : goal.returns
returns c =
    let f = front_used c.args.buf.now c.args.used _ (sym c.in_ok-layout.ensures) in
    count_well _ _ c.tally-k.result c.walk-m.result (omega (arith, f)) c.tally-k.ensures c.walk-m.ensures (omega arith) (omega arith)
    ∙ sym (counted_by_lem _ _ _ (sym c.in_ok-layout.ensures))
