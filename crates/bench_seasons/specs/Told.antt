-- docs/BENCH.md, "Seasons": what is handed in, and the answers, case by case.
use Rattle.std.specs.Prelude.{ℕ, List, [], ◌∷◌, ◌++◌, get_or, Option, Some, None}
use Rattle.text.specs.Text.{decimal_of}
use Rattle.words.specs.Words.{text}
use Rattle.bench_words.specs.Words.{part_of, wide_of}
use Rattle.refusal.specs.Answer.{Answer, refused, full}
use Rattle.season.specs.declared.Corridor.{Corridor}
use Rattle.season.specs.declared.Boundaries.{Boundaries}
use Rattle.season.specs.declared.Season.{Season}
use Rattle.season.specs.Season.{no_events}

-- "MAC in 6, target in 4, instance, three boundaries in 4 each"
abbrev pub corridor_in : List ℕ → Corridor
corridor_in s =
    record {
      mac = record { 0 = get_or s 0 0; 1 = get_or s 1 0; 2 = get_or s 2 0; 3 = get_or s 3 0; 4 = get_or s 4 0; 5 = get_or s 5 0 };
      target = wide_of 4 (part_of s 6 10);
      instance = get_or s 10 0;
    }

abbrev pub boundaries_in : List ℕ → Boundaries
boundaries_in s = record { first = wide_of 4 (part_of s 11 15); second = wide_of 4 (part_of s 15 19); third = wide_of 4 (part_of s 19 23) }

-- "`season N occupied N presses N holds N longest N total N gaps N` (`longest absent`)"
abbrev pub longest_texts : Option ℕ → List (List ℕ)
longest_texts None = text " longest absent" ∷ []
longest_texts (Some g) = text " longest " ∷ decimal_of g ∷ []

abbrev pub season_texts : ℕ → Season → List (List ℕ)
season_texts n s =
    (text " season " ∷ decimal_of n ∷ text " occupied " ∷ decimal_of s.occupied ∷ text " presses " ∷ decimal_of s.presses ∷ [])
    ++ ((text " holds " ∷ decimal_of s.holds ∷ (longest_texts s.longest ++ (text " total " ∷ decimal_of s.total ∷ [])))
    ++ (text " gaps " ∷ decimal_of s.gaps ∷ []))

-- "on one line, for N = 1 to 4"; a refusal is its number alone
abbrev pub report_texts : Answer (List Season) → List (List ℕ)
report_texts (refused k) = decimal_of k ∷ []
report_texts (full ss) =
    text "0" ∷ (season_texts 1 (get_or ss 0 no_events) ++ (season_texts 2 (get_or ss 1 no_events) ++ (season_texts 3 (get_or ss 2 no_events) ++ season_texts 4 (get_or ss 3 no_events))))
