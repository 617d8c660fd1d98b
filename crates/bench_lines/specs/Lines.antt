-- docs/BENCH.md, "Lines": a reader as it is handed in, and the answers, case by case.
use Rattle.std.specs.Prelude.{ℕ, List, [], ◌∷◌, ltb, Option, Some, None}
use Rattle.refusal.specs.Test.{pick}
use Rattle.text.specs.Text.{decimal_of}
use Rattle.bench_words.specs.Words.{front_of, part_of}
use Rattle.words.specs.Words.{text}
use Rattle.bench_say.specs.Said.{run_of}
use Rattle.reader.specs.declared.Held.{Held}
use Rattle.reader.specs.declared.Item.{Item}
use Rattle.reader.specs.declared.Given.{Given}
use Rattle.line.specs.declared.Item.{Item as Standing}
use Rattle.stream.specs.declared.Step.{Step}

-- "how many bytes it claims to hold / the bytes; 00 behind them"
abbrev pub handed_reader : ℕ → List ℕ → Held
handed_reader len s = record { bytes = front_of 67 s; len = len }

-- "nothing" behind the 0
abbrev pub done_texts : List (List ℕ)
done_texts = text "0" ∷ []

-- "`item N count N bytes B B ..`", or a word
abbrev pub got_texts : List ℕ → Option Item → List (List ℕ)
got_texts none None = none ∷ []
got_texts none (Some i) =
    text " item " ∷ decimal_of i.number ∷ text " count " ∷ decimal_of i.count ∷ text " bytes" ∷ run_of (part_of i.bytes 0 i.count)

abbrev pub given_texts : List ℕ → Given → List (List ℕ)
given_texts none f = got_texts none f.item

-- "`taken N`", and the item or `nothing`
abbrev pub fed_texts : Given → List (List ℕ)
fed_texts f = text "0 taken " ∷ decimal_of f.taken ∷ given_texts (text " nothing") f

-- the item, or `empty`
abbrev pub closed_texts : Given → List (List ℕ)
closed_texts f = text "0" ∷ given_texts (text " empty") f

-- "`held N bytes B B ..`: how many bytes it claims to hold, and the first of these, 67 at most"
abbrev pub held_texts : Held → List (List ℕ)
held_texts h = text "0 held " ∷ decimal_of h.len ∷ text " bytes" ∷ run_of (part_of h.bytes 0 (pick (ltb h.len 67) h.len 67))

-- "`item N count N by N` (settled by the first N bytes), or `more`"
abbrev pub step_texts : Option Step → List (List ℕ)
step_texts None = text "0 more" ∷ []
step_texts (Some x) = text "0 item " ∷ decimal_of x.number ∷ text " count " ∷ decimal_of x.size ∷ text " by " ∷ decimal_of x.settled ∷ []

-- "`item N count N`, or `nothing`"
abbrev pub item_texts : Option Standing → List (List ℕ)
item_texts None = text "0 nothing" ∷ []
item_texts (Some x) = text "0 item " ∷ decimal_of x.number ∷ text " count " ∷ decimal_of x.size ∷ []
