-- What is known of a datagram that was accepted.
use Rattle.std.specs.Prelude.{ℕ, ◌+◌, ◌≤◌, ◌≡◌, List, length, leb, eqb}
use Rattle.std.proofs.Common.{ap, leb-true, eqb-true, arith}
use Rattle.refusal.specs.Answer.{full, demand_elim, full_one}
use Rattle.lead.specs.Lead.{is_reply, reply_data, reply_least}
use Rattle.sum.specs.Sum.{sum_of}
use Rattle.frame.specs.Frame.{byte}
use Rattle.reply.specs.Reading.{read_reply}
use Rattle.reply.specs.declared.Reply.{Reply}

-- an accepted reply has its data
pub read_fits : (d : List ℕ) (r : Reply) → read_reply d ≡ full r → (length d ≡ r.n + reply_least) × (r.n ≤ reply_data)
unfolding read_reply
read_fits d r =
    demand_elim (leb reply_least (length d)) 1
    (λ h₁. demand_elim (is_reply (byte 0 d)) 2
    (λ h₂. demand_elim (leb (byte 2 d) reply_data) 4
    (λ h₄. demand_elim (eqb (length d) (byte 2 d + reply_least)) 5
    (λ h₅. demand_elim (eqb (sum_of d) 0) 6
    (λ h₆ e.
    let z : byte 2 d ≡ r.n = ap (λ (x : Reply). x.n) (full_one e) in
    let l = eqb-true (length d) (byte 2 d + reply_least) h₅ in
    let m = leb-true (byte 2 d) reply_data h₄ in
    (omega arith, omega arith))))))
