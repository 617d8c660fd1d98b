-- What a reader of datagrams says of a frame, but for the values.
use Rattle.std.specs.Prelude.{ℕ, Bool, true, ◌||◌, List, eqb}
use Rattle.refusal.specs.Test.{pick}
use Rattle.refusal.specs.Answer.{Answer, refused, full}
use Rattle.request.specs.Reading.{read_request}
use Rattle.reply.specs.Reading.{read_reply}
use Rattle.extent.specs.declared.Line.{Line}
use Rattle.extent.specs.declared.Line.TheVariants.{Request, Reply}

-- accepted, or refused with a number
pub data Verdict : Type 0 where
  accepted : Verdict
  refused_with : ℕ → Verdict

abbrev pub verdict : {A : Type 0} → Answer A → Verdict
verdict (full v) = accepted
verdict (refused k) = refused_with k

-- the reader of the line's datagrams
abbrev pub datagram : Line → List ℕ → Verdict
datagram Request d = verdict (read_request d)
datagram Reply d = verdict (read_reply d)

-- the verdict on a whole frame, by its sum and its arguments; every other datagram is refused with another number
abbrev pub frame_verdict : Bool → Bool → Verdict
frame_verdict sum table = pick sum (pick table accepted (refused_with 7)) (refused_with 6)

abbrev pub is_framed : Verdict → Bool
is_framed accepted = true
is_framed (refused_with k) = eqb k 6 || eqb k 7
