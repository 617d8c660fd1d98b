-- Parts that are led by their length. Document 02, W-207: "a two-byte length first .. all big-endian. The length counts what follows it";
-- refusal 15: "cut short". W-208: "a run of event datagrams, each led by a two-byte big-endian length".
use Rattle.std.specs.Prelude.{ℕ, Option, Some, None, zero, suc, ◌+◌, List, [], ◌∷◌, length, take, drop, leb, eqb}
use Rattle.refusal.specs.Test.{pick}
use Rattle.refusal.specs.Answer.{Answer, refused, full, demand}
use Rattle.frame.specs.Frame.{listed}
use Rattle.order.specs.Order.{high_first, number_in}

-- the number in the first two bytes of a run
abbrev pub length_in : List ℕ → ℕ
length_in s = number_in high_first 2 (listed 0 2 s)

-- how many bytes follow the length of the part at the front of a run
unfoldable pub part_at : List ℕ → Answer ℕ
part_at s =
    demand (leb 2 (length s)) 15
    (demand (leb (2 + length_in s) (length s)) 15
    (full (length_in s)))

-- the number and value for each case of a part
abbrev pub said_part : Option ℕ → Answer ℕ
said_part (Some n) = full n
said_part None = refused 15

-- A RUN OF PARTS, one behind the other to its end. "A run that ends inside a length or whose last length reaches past its end is refused
-- whole with 15": the part at the front with those behind it
abbrev pub size_of : Answer ℕ → ℕ
size_of (refused k) = 0
size_of (full n) = 2 + n

abbrev pub with_part : List ℕ → Answer (List (List ℕ)) → Answer (List (List ℕ))
with_part p (refused k) = refused k
with_part p (full ps) = full (p ∷ ps)

abbrev pub leading : Answer ℕ → List ℕ → Answer (List (List ℕ)) → Answer (List (List ℕ))
leading (refused k) s ps = refused k
leading (full n) s ps = with_part (take n (drop 2 s)) ps

-- at most n are looked for
unfoldable pub parts_up_to : ℕ → List ℕ → Answer (List (List ℕ))
parts_up_to zero s = full []
parts_up_to (suc n) s =
    let x = part_at s in
    pick (eqb (length s) 0) (full []) (leading x s (parts_up_to n (drop (size_of x) s)))

-- each has a byte, so there are no more than bytes
abbrev pub parts_of : List ℕ → Answer (List (List ℕ))
parts_of s = parts_up_to (length s) s
