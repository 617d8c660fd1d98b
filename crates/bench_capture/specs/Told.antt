-- docs/BENCH.md, "The capture": the answers, case by case.
use Rattle.std.specs.Prelude.{ℕ, Option, Some, None, zero, suc, List, [], ◌∷◌, ◌++◌, get_or}
use Rattle.text.specs.Text.{decimal_of}
use Rattle.words.specs.Words.{text}
use Rattle.bench_say.specs.Said.{run_of}
use Rattle.summary.specs.declared.Summary.{Summary}
use Rattle.capture.specs.declared.Mark.{Mark}
use Rattle.refusal.specs.Refusals.{number_of}
use Rattle.bench_capture.specs.declared.Head.{Head}
use Rattle.bench_capture.specs.declared.Head.TheVariants.{Done, Used, Ran, Open, At as head·At, Refused}
use Rattle.bench_capture.specs.declared.Tail.{Tail}
use Rattle.bench_capture.specs.declared.Tail.TheVariants.{Nothing, Counted, Next, All}

-- "`first absent`, `last absent` where absent"
abbrev pub first_texts : Option ℕ → List (List ℕ)
first_texts None = text " first absent" ∷ []
first_texts (Some t) = text " first " ∷ decimal_of t ∷ []

abbrev pub last_texts : Option ℕ → List (List ℕ)
last_texts None = text " last absent" ∷ []
last_texts (Some t) = text " last " ∷ decimal_of t ∷ []

-- k numbers from place i on, each behind a blank
unfoldable pub numbers_texts : ℕ → ℕ → List ℕ → List (List ℕ)
numbers_texts zero i s = []
numbers_texts (suc k) i s = text " " ∷ decimal_of (get_or s i 0) ∷ numbers_texts k (suc i) s

-- "SUMMARY is `records N first N last N counts N N N N N N N N N N N`"
abbrev pub summary_texts : Summary → List (List ℕ)
summary_texts x =
    (text " records " ∷ decimal_of x.records ∷ (first_texts x.first ++ last_texts x.last)) ++ (text " counts" ∷ numbers_texts 11 0 x.counts)

-- a mark: its bytes in use behind a name, and its last seconds
abbrev pub mark_texts : List ℕ → Mark → List (List ℕ)
mark_texts name m = name ∷ decimal_of m.used ∷ last_texts m.last

-- how an answer begins: "`used N`", "`in N refused N used N`", "`used N last N`, or `used N last absent`", "`seconds N`", or a refusal
abbrev pub head_texts : Head → List (List ℕ)
head_texts Done = text "0" ∷ []
head_texts (Used n) = text "0 used " ∷ decimal_of n ∷ []
head_texts (Ran n k u) = text "0 in " ∷ decimal_of n ∷ text " refused " ∷ decimal_of k ∷ text " used " ∷ decimal_of u ∷ []
head_texts (Open m) = mark_texts (text "0 used ") m
head_texts (head·At t) = text "0 seconds " ∷ decimal_of t ∷ []
head_texts (Refused k) = decimal_of (number_of k) ∷ []

-- how it goes on, with this summary and these bytes: "SUMMARY", "`datagram B B .. next N`", "`bytes B B ..` SUMMARY `mark N last N`"
abbrev pub tail_texts : Tail → Summary → List ℕ → List (List ℕ)
tail_texts Nothing x b = []
tail_texts Counted x b = summary_texts x
tail_texts (Next n) x b = (text " datagram" ∷ run_of b) ++ (text " next " ∷ decimal_of n ∷ [])
tail_texts (All m) x b = (text " bytes" ∷ run_of b) ++ (summary_texts x ++ mark_texts (text " mark ") m)
