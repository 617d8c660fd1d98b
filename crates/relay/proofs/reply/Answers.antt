use Rattle.std.specs.Prelude.{◌+◌, ◌-◌, ◌≡◌}
use Rattle.std.proofs.Common.{sym, arith}
use Rattle.refusal.specs.Answer.{full}
use Rattle.reply.specs.Reading.{read_reply}
use Rattle.reply.proofs.Replies.{read_again}
use Rattle.relay.proofs.reply.Goals as goal

pub returns : goal.returns
returns c =
    let s = c.args.s.now in
    let r = c.in_ok-reply.reply in
    let good : read_reply s ≡ full r = sym c.in_ok-reply.ensures in
    let e : 3 + r.n - 3 ≡ r.n = omega arith in
    rw good (rw (e, read_again s r (record { byte = λ i. omega (arith, c.type_inv.s i) }) good) at c.reply.ensures)
