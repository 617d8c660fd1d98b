-- A reply as another language is handed it, and its error code. A part of a datagram cannot be handed over, so its data are told by where
-- they begin and how many they are.
use Rattle.std.specs.Prelude.{ℕ, Option, Some, None}
use Rattle.refusal.specs.Answer.{Answer, refused, full}
use Rattle.reply.specs.declared.Reply.{Reply}
use Rattle.reply.specs.declared.Code.{Code}
use Rattle.reply.specs.Reading.{start_in}
use Rattle.c_datagrams.specs.declared.WickReply.{WickReply}
use Rattle.c_datagrams.specs.declared.WickCode.{WickCode}

abbrev pub reply_out : Answer Reply → WickReply
reply_out (refused k) = record { refusal = k; kind = 0; sequence = 0; data_at = start_in (refused k); n = 0 }
reply_out (full r) = record { refusal = 0; kind = r.kind; sequence = r.sequence; data_at = start_in (full r); n = r.n }

-- the number of a name, 0 for none
abbrev pub name_no : Option ℕ → ℕ
name_no (Some n) = n
name_no None = 0

abbrev pub code_out : Answer (Option Code) → WickCode
code_out (refused k) = record { refusal = k; has_code = 0; code = 0; name = 0 }
code_out (full (Some c)) = record { refusal = 0; has_code = 1; code = c.code; name = name_no c.name }
code_out (full None) = record { refusal = 0; has_code = 0; code = 0; name = 0 }
