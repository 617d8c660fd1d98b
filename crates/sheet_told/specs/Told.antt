-- docs/SHEET.md, "Lines on standard error": "Records are counted from 1, bytes of the file from 0."
use Rattle.std.specs.Prelude.{ℕ, List, [], ◌∷◌, ◌++◌, eqb}
use Rattle.refusal.specs.Test.{pick}
use Rattle.words.specs.Words.{text}
use Rattle.text.specs.Text.{decimal_of}
use Rattle.season.specs.declared.Boundaries.{Boundaries}
use Rattle.season.specs.Season.{plus}
use Rattle.passing.specs.declared.Passed.{Passed}
use Rattle.by_parts.specs.declared.Stage.{Stage}
use Rattle.by_parts.specs.declared.Stage.TheVariants.{Fresh, Of, Refused}
use Rattle.by_parts.specs.declared.SoFar.{SoFar}

-- 15: the record behind those that were passed. It begins behind the version byte and their bytes
abbrev pub place_texts : Passed → List (List ℕ)
place_texts x =
    text "15 BAD_RECORD: record " ∷ decimal_of (plus x.records 1) ∷ text ", which begins at byte " ∷ decimal_of (plus x.bytes 1) ∷ []

-- "no byte at all", "the end inside a record", "a bad record"
abbrev pub bad_texts : Stage → Passed → List (List ℕ)
bad_texts Fresh x = text "15 BAD_RECORD: no byte at all (byte 0): a capture begins with its version" ∷ []
bad_texts (Of l) x = place_texts x ++ (text ", is cut short by the end" ∷ [])
bad_texts (Refused k) x = place_texts x ++ (text ", has a length, a time or a datagram that cannot be" ∷ [])

-- 20: "the three in seconds, `, ` between them"
abbrev pub level_texts : Boundaries → List (List ℕ)
level_texts b =
    text "20 NOT_RISING: the boundaries do not rise: "
    ∷ decimal_of b.first ∷ text ", " ∷ decimal_of b.second ∷ text ", " ∷ decimal_of b.third ∷ []

-- a report has no other refusal
abbrev pub reason_texts : SoFar → ℕ → List (List ℕ)
reason_texts x k =
    pick (eqb k 14) (text "14 UNKNOWN_VERSION: the first byte (byte 0) is neither 01 nor 02: no capture, or one of another version" ∷ [])
    (pick (eqb k 15) (bad_texts x.stage x.passed)
    (pick (eqb k 20) (level_texts x.bounds)
    (decimal_of k ∷ [])))

-- "Each begins with `corridor: `"
abbrev pub refused_texts : SoFar → ℕ → List (List ℕ)
refused_texts x k = (text "corridor: " ∷ []) ++ reason_texts x k ++ ((10 ∷ []) ∷ [])

-- "While it reads"
abbrev pub read_texts : ℕ → ℕ → List (List ℕ)
read_texts n m = text "corridor: read " ∷ decimal_of n ∷ text " bytes, " ∷ decimal_of m ∷ (text " records" ++ (10 ∷ [])) ∷ []
