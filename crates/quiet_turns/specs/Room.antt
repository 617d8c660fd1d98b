-- How long an answer can be, and that with so much room it is said whole.
use Rattle.std.specs.Prelude.{ℕ, suc, ◌+◌, ◌*◌, ◌≤◌, ◌<◌, ◌≡◌, refl, Bool, true, false, List, [], ◌∷◌, ◌++◌, length, take, drop, eqb}
use Rattle.std.proofs.Common.{sym, ap, ◌∙◌, length-append, length-take, le-leb, arith}
use Rattle.std.proofs.Math.Seq.{take-append_seam}
use Rattle.refusal.specs.Test.{pick}
use Rattle.words.specs.Words.{text}
use Rattle.lent.specs.Puts.{fits, over, over_none}
use Rattle.lent.specs.All.{place_all, buffer_all}
use Rattle.lent.specs.Over.{over_length, over_append}
use Rattle.stream.specs.Stream.{stands, items, whole}
use Rattle.stream.specs.Lawful.{size_most}
use Rattle.extent.specs.declared.Line.TheVariants.{Request}
use Rattle.extent.specs.Line.{cap_of}
use Rattle.line.specs.Rule.{item_at, settle}
use Rattle.line.specs.Laws.{lawful, waits_few}
use Rattle.line.specs.Says.{stands_at}
use Rattle.text.specs.Text.{decimal_of, hex_texts}
use Rattle.text.specs.Decimal.{decimal_most}
use Rattle.text.specs.Digits.{decimal_one}
use Rattle.items.specs.Room.{number_digit}
use Rattle.quiet_run.specs.Quiet.{First, none, loud, first_loud}
use Rattle.quiet_run.specs.Laws.{first_stands}
use Rattle.quiet_told.specs.Answer.{plus, outside_texts, reason_texts, place_texts, loud_texts, closed_texts}

-- an item's number has one digit, and the item at most 13 bytes
item_small : (closed : Bool) (s : List ℕ) (k m : ℕ) → item_at Request closed s ≡ stands k m → (k < 10) × (m ≤ suc (cap_of Request))
item_small closed s k m e =
    let w = stands_at Request closed s k m e in
    (rw w.0 (number_digit Request s), rw w.1 (size_most (settle Request) (lawful Request) (cap_of Request) (waits_few Request) s))

-- the lengths of the parts of an answer
whole_length : (ts us : List (List ℕ)) → length (whole (ts ++ us)) ≡ length (whole ts) + length (whole us)
unfolding whole
whole_length [] us = omega arith
whole_length (t ∷ ts) us = omega (arith, length-append t (whole (ts ++ us)), length-append t (whole ts), whole_length ts us)

hex_length : (l : List ℕ) → length (whole (hex_texts l)) ≡ 2 * length l
unfolding whole hex_texts
hex_length [] = refl
hex_length (b ∷ l) = omega (arith, hex_length l)

reason_most : (k : ℕ) (l : List ℕ) → length (whole (reason_texts k l)) ≤ 34
unfolding whole reason_texts
reason_most k l = go (eqb k 0) (eqb k 1) (eqb k 2) (eqb k 3) (eqb k 4) (eqb k 6) (eqb k 7)
  where
    go : (a b c d e f g : Bool)
        → length (whole (pick a (outside_texts l)
        (pick b (text "the run ends inside a request" ∷ [])
        (pick c (text "no request begins here" ∷ [])
        (pick d (text "the command is unknown" ∷ [])
        (pick e (text "no such length byte or colour type" ∷ [])
        (pick f (text "the sum is wrong" ∷ [])
        (pick g (text "an argument is out of range" ∷ []) (text "not a request" ∷ []))))))))) ≤ 34
    go true b c d e f g = omega arith
    go false true c d e f g = omega arith
    go false false true d e f g = omega arith
    go false false false true e f g = omega arith
    go false false false false true f g = omega arith
    go false false false false false true g = omega arith
    go false false false false false false true = omega arith
    go false false false false false false false = omega arith

place_length : (n k : ℕ) → length (whole (place_texts n k)) ≡ length (decimal_of k) + length (decimal_of n) + 18
unfolding whole
place_length n k = simp length-append (omega arith)

loud_length : (n k : ℕ) (l : List ℕ)
    → length (whole (loud_texts n k l)) ≡ length (decimal_of k) + length (decimal_of n) + 2 * length l + length (whole (reason_texts k l)) + 23
unfolding whole
loud_length n k l =
    let p = place_texts n k in
    let q = p ++ (text ", " ∷ []) in
    let r = q ++ hex_texts l in
    let a = whole_length (r ++ (text ": " ∷ []) ++ reason_texts k l) ((10 ∷ []) ∷ []) in
    let b = whole_length (r ++ (text ": " ∷ [])) (reason_texts k l) in
    let c = whole_length r (text ": " ∷ []) in
    let d = whole_length q (hex_texts l) in
    let e = whole_length p (text ", " ∷ []) in
    omega (arith, a, b, c, d, e, place_length n k, hex_length l)

-- room for each answer: a place of 20 digits, an item of 13 bytes, and the longest reason
abbrev pub answer_most : ℕ
answer_most = 104

pub loud_most : (closed : Bool) (s : List ℕ) (n k m : ℕ) → item_at Request closed s ≡ stands k m
    → length (whole (loud_texts n k (take m s))) ≤ answer_most
loud_most closed s n k m e =
    let w = item_small closed s k m e in
    let t : length (take m s) ≤ 13 = simp length-take (omega (arith, w.1)) in
    omega (arith, loud_length n k (take m s), ap length (decimal_one k w.0), decimal_most 20 n, reason_most k (take m s))

pub closed_most : (passed : ℕ) (s : List ℕ) → length (whole (closed_texts passed s)) ≤ answer_most
unfolding whole
closed_most passed s = go (first_loud 0 (items (settle Request) s)) refl
  where
    go : (x : First) → first_loud 0 (items (settle Request) s) ≡ x → length (whole (closed_texts passed s)) ≤ answer_most
    go none e = rw e (omega arith)
    go (loud a k m) e = rw e (loud_most true (drop a s) (plus passed a) k m (first_stands s a k m e).0)

-- texts that have room all stand in the buffer, one behind the other
all_stand : (ts : List (List ℕ)) (out : List ℕ) (at : ℕ) → at + length (whole ts) ≤ length out
    → (place_all ts out at ≡ at + length (whole ts)) × (buffer_all ts out at ≡ over (whole ts) out at)
unfolding whole place_all buffer_all
all_stand [] out at h = (omega arith, sym (over_none out at))
all_stand (t ∷ ts) out at h =
    let n = length-append t (whole ts) in
    let f : fits t out at ≡ true = le-leb (at + length t) (length out) (omega arith) in
    let again = all_stand ts (over t out at) (at + length t) (omega (arith, over_length t out at (omega arith))) in
    (rw f (omega (arith, again.0)), rw f (again.1 ∙ over_append t (whole ts) out at (omega arith)))

-- so from the buffer's front on they are what is said, and so many bytes
pub all_place : (ts : List (List ℕ)) (out : List ℕ) → length (whole ts) ≤ length out → place_all ts out 0 ≡ length (whole ts)
all_place ts out h = omega (arith, (all_stand ts out 0 (omega arith)).0)

pub all_said : (ts : List (List ℕ)) (out : List ℕ) → length (whole ts) ≤ length out → take (place_all ts out 0) (buffer_all ts out 0) ≡ whole ts
all_said ts out h =
    rw (all_place ts out h, (all_stand ts out 0 (omega arith)).1) (take-append_seam (whole ts) (drop (0 + length (whole ts)) out))
