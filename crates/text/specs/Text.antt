-- Bytes and numbers as text, in ASCII.
use Rattle.std.specs.Prelude.{ℕ, zero, suc, ◌+◌, ◌-◌, ◌/◌, ◌%◌, List, [], ◌∷◌, ◌++◌, leb, ltb}
use Rattle.refusal.specs.Test.{pick}

-- the digit of a number below 16: `0` to `9`, then `A` to `F`
abbrev pub digit : ℕ → ℕ
digit d = pick (ltb d 10) (48 + d) (55 + d)

-- what a hexadecimal digit says, 16 for another byte: `0` to `9` are 48 to 57, `A` to `F` 65 to 70, `a` to `f` 97 to 102
abbrev pub digit_of : ℕ → ℕ
digit_of c =
    pick (ltb c 48) 16
    (pick (leb c 57) (c - 48)
    (pick (ltb c 65) 16
    (pick (leb c 70) (c - 55)
    (pick (ltb c 97) 16
    (pick (leb c 102) (c - 87) 16)))))

-- a byte in hexadecimal: two digits
abbrev pub hex_of : ℕ → List ℕ
hex_of b = digit (b / 16) ∷ digit (b % 16) ∷ []

-- the bytes of a run in hexadecimal, one behind the other
unfoldable pub hex_texts : List ℕ → List (List ℕ)
hex_texts [] = []
hex_texts (b ∷ l) = hex_of b ∷ hex_texts l

-- a number in decimal, where k digits are enough for it: the digits of its tenth, and its last digit behind them
unfoldable pub decimal_in : ℕ → ℕ → List ℕ
decimal_in zero n = []
decimal_in (suc k) n = pick (ltb n 10) (digit n ∷ []) (decimal_in k (n / 10) ++ (digit (n % 10) ∷ []))

-- a number of 64 bits in decimal: 20 digits are enough
abbrev pub decimal_of : ℕ → List ℕ
decimal_of n = decimal_in 20 n
