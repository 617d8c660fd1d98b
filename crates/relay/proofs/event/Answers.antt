use Rattle.std.specs.Prelude.{◌+◌, ◌-◌, ◌≡◌}
use Rattle.std.proofs.Common.{sym, arith}
use Rattle.refusal.specs.Answer.{full}
use Rattle.event.specs.Layout.{width_of}
use Rattle.event.specs.Reading.{read_event, said_event}
use Rattle.event.specs.Again.{read_again}
use Rattle.relay.proofs.event.Goals as goal

pub returns : goal.returns
returns c =
    let s = c.args.s.now in
    let w = width_of c.args.layout in
    let r = said_event c.in_ok-event.event in
    let at = c.data_at-at.result in
    let good : read_event w s ≡ full r = sym c.in_ok-event.ensures in
    let e : at + r.n - at ≡ r.n = omega arith in
    rw good (rw (e, c.data_at-at.ensures, c.number.ensures, read_again w s r (record { byte = λ i. omega (arith, c.type_inv.s i) }) good) at c.event.ensures)
