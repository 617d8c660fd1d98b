-- docs/BENCH.md, "Datagrams": the answers of calls that read and write replies and events, case by case.
use Rattle.std.specs.Prelude.{ℕ, List, [], ◌∷◌, ◌++◌, Option, Some, None, Result, Ok, Err}
use Rattle.refusal.specs.Refusals.{number_of}
use Rattle.refusal.specs.declared.Refusal.{Refusal}
use Rattle.text.specs.Text.{hex_of, decimal_of}
use Rattle.words.specs.Words.{text}
use Rattle.bench_say.specs.Said.{run_of}
use Rattle.reply.specs.declared.Reply.{Reply}
use Rattle.reply.specs.declared.Code.{Code}
use Rattle.event_type.specs.declared.EventType.{EventType}
use Rattle.event_type.specs.declared.EventType.TheVariants.{ButtonPress, ButtonHold, AbsoluteInput, LevelChange, GroupLevelChange, SceneChange, IsOccupied, IsUnoccupied, ColourChanged, ProfileChanged, Other}
use Rattle.event.specs.declared.Event.{Event}
use Rattle.bench_datagrams.specs.declared.Read.{Read}
use Rattle.bench_datagrams.specs.declared.Read.TheVariants.{Reply as a·Reply, Code as a·Code, Event as an·Event, Kind as a·Kind}

-- "`type TT sequence N n N`"
abbrev pub reply_texts : Result Reply Refusal → List (List ℕ)
reply_texts (Ok a) = text "0 type " ∷ hex_of a.kind ∷ text " sequence " ∷ decimal_of a.sequence ∷ text " n " ∷ decimal_of a.n ∷ []
reply_texts (Err k) = decimal_of (number_of k) ∷ []

-- "`code CC name N` for a code with a name, `code CC` for another, `absent` where there is none"
abbrev pub named_texts : ℕ → Option ℕ → List (List ℕ)
named_texts c (Some n) = text "0 code " ∷ hex_of c ∷ text " name " ∷ decimal_of n ∷ []
named_texts c None = text "0 code " ∷ hex_of c ∷ []

abbrev pub code_texts : Result (Option Code) Refusal → List (List ℕ)
code_texts (Ok (Some c)) = named_texts c.code c.name
code_texts (Ok None) = text "0 absent" ∷ []
code_texts (Err k) = decimal_of (number_of k) ∷ []

-- "`type N NAME`"
abbrev pub kind_texts : EventType → List (List ℕ)
kind_texts ButtonPress = text " type 0 BUTTON_PRESS" ∷ []
kind_texts ButtonHold = text " type 1 BUTTON_HOLD" ∷ []
kind_texts AbsoluteInput = text " type 2 ABSOLUTE_INPUT" ∷ []
kind_texts LevelChange = text " type 3 LEVEL_CHANGE" ∷ []
kind_texts GroupLevelChange = text " type 4 GROUP_LEVEL_CHANGE" ∷ []
kind_texts SceneChange = text " type 5 SCENE_CHANGE" ∷ []
kind_texts IsOccupied = text " type 6 IS_OCCUPIED" ∷ []
kind_texts IsUnoccupied = text " type 7 IS_UNOCCUPIED" ∷ []
kind_texts ColourChanged = text " type 8 COLOUR_CHANGED" ∷ []
kind_texts ProfileChanged = text " type 9 PROFILE_CHANGED" ∷ []
kind_texts (Other n) = text " type " ∷ decimal_of n ∷ text " OTHER" ∷ []

-- "`instance N`, or `instance absent`"
abbrev pub instance_texts : Option ℕ → List (List ℕ)
instance_texts (Some n) = text " instance " ∷ decimal_of n ∷ []
instance_texts None = text " instance absent" ∷ []

-- "`mac B B B B B B target N type N NAME n N`", and the instance
abbrev pub event_texts : Result Event Refusal → List (List ℕ)
event_texts (Ok v) =
    (text "0 mac" ∷ run_of (v.mac.0 ∷ v.mac.1 ∷ v.mac.2 ∷ v.mac.3 ∷ v.mac.4 ∷ v.mac.5 ∷ []))
    ++ (text " target " ∷ decimal_of v.target ∷ (kind_texts v.kind ++ (text " n " ∷ decimal_of v.n ∷ instance_texts v.instance)))
event_texts (Err k) = decimal_of (number_of k) ∷ []

-- "`count N`"
abbrev pub wrote_texts : Result ℕ Refusal → List (List ℕ)
wrote_texts (Ok n) = text "0 count " ∷ decimal_of n ∷ []
wrote_texts (Err k) = decimal_of (number_of k) ∷ []

-- "Where a buffer is lent, its bytes before and after the call stand at the end: `before B B .. after B B ..`, on a refusal too"
abbrev pub buffer_texts : Result ℕ Refusal → List ℕ → List ℕ → List (List ℕ)
buffer_texts w before after = wrote_texts w ++ (text " before" ∷ (run_of before ++ (text " after" ∷ run_of after)))

-- the answer of a call that reads: as above, an event's type by itself behind a 0
abbrev pub read_texts : Read → List (List ℕ)
read_texts (a·Reply d) = reply_texts d
read_texts (a·Code c) = code_texts c
read_texts (an·Event d) = event_texts d
read_texts (a·Kind t) = text "0" ∷ kind_texts t
