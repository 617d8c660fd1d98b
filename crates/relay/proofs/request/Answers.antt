use Rattle.std.proofs.Common.{sym, arith}
use Rattle.request.specs.Said.{said_request}
use Rattle.request.proofs.Demand2.{relays}
use Rattle.relay.proofs.request.Goals as goal

pub returns : goal.returns
returns c =
    relays c.args.s.now (said_request c.in_ok-read.field-0) (record { byte = λ i. omega (arith, c.type_inv.s i) }) (sym c.in_ok-read.ensures) c.request_again.ensures
