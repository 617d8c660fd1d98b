-- What a read makes of a report, by what it answered.
use Rattle.std.specs.Prelude.{ℕ, zero, suc, min, List, length, take, ℤ, pos, negsuc, Option, Some, None}
use Rattle.by_parts.specs.declared.Stage.{Stage}
use Rattle.by_parts.specs.declared.Stage.TheVariants.{Fresh, Of, Refused}
use Rattle.by_parts.specs.declared.SoFar.{SoFar}
use Rattle.by_parts.specs.declared.Turned.{Turned}
use Rattle.by_parts.specs.declared.Turned.TheVariants.{Goes, Ended}
use Rattle.by_parts.specs.Parts.{parted}

-- behind a part: where the capture is refused no byte more matters
abbrev pub turn_after : Stage → SoFar → Turned
turn_after Fresh x = Goes x
turn_after (Of l) x = Goes x
turn_after (Refused k) x = Ended x

abbrev pub turned_to : SoFar → Turned
turned_to x = turn_after x.stage x

-- of a failed read (a negative answer) nothing is made, and it is no end of the capture; no byte is its end; else so many bytes of the
-- buffer are its next part
abbrev pub turned : SoFar → ℤ → List ℕ → Option Turned
turned x (negsuc k) buf = None
turned x (pos zero) buf = Some (Ended x)
turned x (pos (suc n)) buf = Some (turned_to (parted x (take (min (suc n) (length buf)) buf)))
