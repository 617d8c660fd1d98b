-- Source 002, "Error Codes": the thirteen codes, and the number of each one's name.
use Rattle.std.specs.Prelude.{ℕ, List, [], ◌∷◌, Option, Some, None, eqb}
use Rattle.refusal.specs.Test.{pick}

-- a code, and the number of its name beside it
abbrev pub table : List (ℕ × ℕ)
table =
    -- CHECKSUM, SHORT_CIRCUIT, RECEIVE_ERROR, UNKNOWN_CMD
    (0x01, 1) ∷ (0x02, 2) ∷ (0x03, 3) ∷ (0x04, 4)
    -- PAID_FEATURE, INVALID_ARGS, CMD_REFUSED, QUEUE_FAILURE, RESPONSE_UNAVAIL
    ∷ (0xB0, 5) ∷ (0xB1, 6) ∷ (0xB2, 7) ∷ (0xB3, 8) ∷ (0xB4, 9)
    -- OTHER_DALI_ERROR, MAX_LIMIT, UNEXPECTED_RESULT, UNKNOWN_TARGET
    ∷ (0xB5, 10) ∷ (0xB6, 11) ∷ (0xB7, 12) ∷ (0xB8, 13) ∷ []

-- what the table has beside a code: the number of its name, or none
unfoldable pub look : List (ℕ × ℕ) → ℕ → Option ℕ
look [] c = None
look ((k, n) ∷ rest) c = pick (eqb k c) (Some n) (look rest c)

unfoldable pub name_of : ℕ → Option ℕ
name_of c = look table c
