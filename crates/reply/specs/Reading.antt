-- What a datagram says as a reply. Document 01, "Refusals, by number": 1, 2, 4, 5, 6, the lowest that applies.
use Rattle.std.specs.Prelude.{ℕ, ◌+◌, List, [], Option, Some, None, length, take, drop, leb, eqb}
use Rattle.refusal.specs.Test.{pick}
use Rattle.refusal.specs.Answer.{Answer, refused, full, demand}
use Rattle.lead.specs.Lead.{is_reply, reply_data, reply_least}
use Rattle.sum.specs.Sum.{sum_of}
use Rattle.frame.specs.Frame.{byte}
use Rattle.error.specs.Error.{name_of}
use Rattle.reply.specs.Layout.{Fields, reply, data_at}
use Rattle.reply.specs.declared.Reply.{Reply}
use Rattle.reply.specs.declared.Code.{Code}

unfoldable pub read_reply : List ℕ → Answer Reply
read_reply d =
    demand (leb reply_least (length d)) 1
    (demand (is_reply (byte 0 d)) 2
    (demand (leb (byte 2 d) reply_data) 4
    (demand (eqb (length d) (byte 2 d + reply_least)) 5
    (demand (eqb (sum_of d) 0) 6
    (full (record { kind = byte 0 d; sequence = byte 1 d; n = byte 2 d }))))))

-- "the data part, asked of a refused datagram, is empty"
abbrev pub data_in : Answer Reply → List ℕ → List ℕ
data_in (refused k) d = []
data_in (full r) d = take r.n (drop data_at d)

abbrev pub data_of : List ℕ → List ℕ
data_of d = data_in (read_reply d) d

-- "handed back as that part of the caller's own datagram, not as a copy": the place of the datagram where the part begins
abbrev pub start_in : Answer Reply → ℕ
start_in (refused k) = 0
start_in (full r) = data_at

abbrev pub data_start : List ℕ → ℕ
data_start d = start_in (read_reply d)

-- the fields of a datagram with some reading
abbrev pub fields_of : Reply → List ℕ → Fields
fields_of r d = reply r.kind r.sequence (take r.n (drop data_at d))

-- "names from a fixed table; another code in an ERROR reply is kept as a number"
abbrev pub code_named : ℕ → Code
code_named c = record { code = c; name = name_of c }

-- "A3 ERROR"
abbrev pub error_type : ℕ
error_type = 0xA3

-- "an ERROR reply may have no code; the code is its first data byte. Replies of other types have none."
abbrev pub code_in : Answer Reply → List ℕ → Answer (Option Code)
code_in (refused k) d = refused k
code_in (full r) d =
    full (pick (eqb r.kind error_type) (pick (eqb r.n 0) None (Some (code_named (byte data_at d)))) None)

abbrev pub code_of : List ℕ → Answer (Option Code)
code_of d = code_in (read_reply d) d
