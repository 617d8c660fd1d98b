-- docs/SHEET.md: the texts and the numbers that more than one form of the sheet has.
use Rattle.std.specs.Prelude.{ℕ, ◌+◌, ◌*◌, ◌/◌, ◌%◌, List, [], ◌∷◌, ◌++◌, leb, ltb, eqb, Option, Some, None}
use Rattle.refusal.specs.Test.{pick}
use Rattle.words.specs.Words.{text}
use Rattle.text.specs.Text.{hex_of, decimal_of}
use Rattle.calendar.specs.Calendar.{time_text}
use Rattle.event.specs.declared.Mac.{Mac}
use Rattle.season.specs.declared.Corridor.{Corridor}
use Rattle.season.specs.declared.Boundaries.{Boundaries}

-- THE SHARE. "n times k divided by `most`, rounded down; 0 where `most` is 0"
abbrev pub scaled_of : ℕ → ℕ → ℕ → ℕ
scaled_of n most k = pick (eqb most 0) 0 (n * k / most)

-- "n counts as no more than `most`"
abbrev pub lesser_of : ℕ → ℕ → ℕ
lesser_of a b = pick (leb a b) a b

-- "Where `most` is 2^56 or more, n and `most` are both divided by 256 first, rounded down"
abbrev pub wide : ℕ
wide = 72057594037927936

unfoldable pub share_of : ℕ → ℕ → ℕ → ℕ
share_of n most k = pick (ltb most wide) (scaled_of (lesser_of n most) most k) (scaled_of (lesser_of n most / 256) (most / 256) k)

-- the greatest of four
abbrev pub greater_of : ℕ → ℕ → ℕ
greater_of a b = pick (leb a b) b a

abbrev pub greatest_of : ℕ → ℕ → ℕ → ℕ → ℕ
greatest_of a b c d = greater_of (greater_of a b) (greater_of c d)

-- texts as one
abbrev pub whole : List (List ℕ) → List ℕ
whole [] = []
whole (t ∷ ts) = t ++ whole ts

-- A SPAN. "in whole hours and, with two digits, whole minutes, both rounded down: `12 h 05 min`"
abbrev pub two_of : ℕ → List ℕ
two_of n = (48 + n / 10) ∷ (48 + n % 10) ∷ []

abbrev pub span_texts : ℕ → List (List ℕ)
span_texts s = decimal_of (s / 3600) ∷ text " h " ∷ two_of (s / 60 % 60) ∷ text " min" ∷ []

abbrev pub span_text : ℕ → List ℕ
span_text s = whole (span_texts s)

-- "and one that is not there `-`"
abbrev pub span_or : Option ℕ → List ℕ
span_or None = text "-"
span_or (Some s) = span_text s

-- A TIME. "A time is written `2026-03-01 00:00:00`, which has 19 bytes, and one that is not there `-`"
abbrev pub time_or : Option ℕ → List ℕ
time_or None = text "-"
time_or (Some t) = time_text t

-- LINE 1 OF --text. "`Corridor `, the MAC in capitals with `:` between the bytes, `, target `, its number, `, instance `, its number,
-- `, times in UTC`"
abbrev pub mac_texts : Mac → List (List ℕ)
mac_texts m =
    hex_of m.0 ∷ text ":" ∷ hex_of m.1 ∷ text ":" ∷ hex_of m.2 ∷ text ":" ∷ hex_of m.3 ∷ text ":" ∷ hex_of m.4 ∷ text ":"
    ∷ hex_of m.5 ∷ []

abbrev pub number_texts : ℕ → ℕ → List (List ℕ)
number_texts target instance = text ", target " ∷ decimal_of target ∷ text ", instance " ∷ decimal_of instance ∷ text ", times in UTC" ∷ []

abbrev pub title_texts : Corridor → List (List ℕ)
title_texts who = text "Corridor " ∷ (mac_texts who.mac ++ number_texts who.target who.instance)

-- WHERE A SEASON BEGINS AND ENDS, by its place g from 0. "the boundary with which the season begins", "the one before which it ends"; "the
-- first season has no `from` and the fourth no `to`"
abbrev pub begin_of : Boundaries → ℕ → Option ℕ
begin_of b g = pick (eqb g 1) (Some b.first) (pick (eqb g 2) (Some b.second) (pick (eqb g 3) (Some b.third) None))

abbrev pub end_of : Boundaries → ℕ → Option ℕ
end_of b g = pick (eqb g 0) (Some b.first) (pick (eqb g 1) (Some b.second) (pick (eqb g 2) (Some b.third) None))
