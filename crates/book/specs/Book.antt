-- Document 01, "The book of unanswered requests": the book after asking, what replying answers, and the book afterwards.
use Rattle.std.specs.Prelude.{ℕ, set, replicate}
use Rattle.refusal.specs.Answer.{Answer, refused, full, demand}
use Rattle.free_number.specs.declared.Book.{Book}
use Rattle.free_number.specs.Number.{vacant, entry, holds}

-- "Fresh: nothing held, last number 255."
abbrev pub fresh_book : Book
fresh_book = record { asked = replicate 256 vacant; last = 255 }

-- "it becomes the last"; a refusal changes nothing
abbrev pub noted : Book → ℕ → Answer ℕ → Book
noted b c (refused k) = b
noted b c (full n) = record { asked = set b.asked n c; last = n }

-- "A reply with an awaited number .. returns its command"
unfoldable pub command_of : Book → ℕ → Answer ℕ
command_of b n = demand (holds b.asked n) 10 (full (entry b.asked n))

-- and "frees it"; a refusal changes nothing
abbrev pub freed : Book → ℕ → Answer ℕ → Book
freed b n (refused k) = b
freed b n (full c) = record { asked = set b.asked n vacant; last = b.last }
