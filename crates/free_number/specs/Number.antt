-- Document 01, "The book of unanswered requests": the number that asking answers. Document 02, W-210: "17, retired, comes after 3 and before 4, in
-- writing and asking only."
use Rattle.std.specs.Prelude.{ℕ, zero, suc, ◌+◌, ◌%◌, Bool, not, List, slice_index_or}
use Rattle.refusal.specs.Test.{pick}
use Rattle.refusal.specs.Answer.{Answer, refused, full, demand}
use Rattle.command.specs.Command.{is_known, is_retired}
use Rattle.free_number.specs.declared.Book.{Book}

-- what stands for nothing held
abbrev pub vacant : ℕ
vacant = 0

-- "It holds, for each sequence number 0 to 255, nothing or the command asked."
abbrev pub entry : List ℕ → ℕ → ℕ
entry asked n = slice_index_or asked n vacant

-- "an entry that is no known command counts as nothing held": a number is free where nothing is held under it, else awaited
abbrev pub holds : List ℕ → ℕ → Bool
holds asked n = is_known (entry asked n)

-- "counting past 255 to 0"
abbrev pub next : ℕ → ℕ
next n = (n + 1) % 256

-- the first free one of the k numbers after n; "It refuses with 9 exactly if no number is free."
unfoldable pub first_free : List ℕ → ℕ → ℕ → Answer ℕ
first_free asked n zero = refused 9
first_free asked n (suc k) = let later = first_free asked (next n) k in pick (holds asked (next n)) later (full (next n))

-- "Asking with a known command takes the first free number after the last one given, .. trying the last one itself at the end":
-- that is the 256th number after it. A command that is not known is 3, a retired one 17, whatever the book holds
unfoldable pub number_for : Book → ℕ → Answer ℕ
number_for b c =
    demand (is_known c) 3
    (demand (not (is_retired c)) 17
    (first_free b.asked b.last 256))

-- a book of its parts, as they are lent: the entries, the last number
abbrev pub book : List ℕ → ℕ → Book
book asked last = record { asked = asked; last = last }
