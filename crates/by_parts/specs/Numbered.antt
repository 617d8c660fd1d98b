-- The refusal of a number: each has one.
use Rattle.std.specs.Prelude.{ℕ, ◌+◌, ◌≤◌, ◌≡◌, refl, Bool, true, false, ◌||◌, eqb, leb}
use Rattle.std.proofs.Common.{sym, ◌∙◌, arith}
use borrow.Author.Tests.{eqb-true, eqb-false, leb-false}
use Rattle.refusal.specs.Test.{pick, clash}
use Rattle.refusal.specs.Listed.{is_unlisted}
use Rattle.refusal.specs.Refusals.{number_of, number_one}
use Rattle.refusal.specs.declared.Refusal.{Refusal}
use Rattle.refusal.specs.declared.Refusal.TheVariants.{TooShort, BadLead, UnknownCommand, BadLengthByte, BadLength, BadSum, BadArgument, NoRoom, NoNumberFree, NotAwaited, BadDataSize, NoneThere, OutsideProfile, UnknownVersion, BadRecord, EarlierTime, Retired, NotAFilter, FiltersFull, NotRising, NotAClock, OutOfRange, Other}

-- those that documents 01 and 02 list
abbrev listed_at : ℕ → Refusal
listed_at n =
    pick (eqb n 1) TooShort
    (pick (eqb n 2) BadLead
    (pick (eqb n 3) UnknownCommand
    (pick (eqb n 4) BadLengthByte
    (pick (eqb n 5) BadLength
    (pick (eqb n 6) BadSum
    (pick (eqb n 7) BadArgument
    (pick (eqb n 8) NoRoom
    (pick (eqb n 9) NoNumberFree
    (pick (eqb n 10) NotAwaited
    (pick (eqb n 11) BadDataSize
    (pick (eqb n 12) NoneThere
    (pick (eqb n 13) OutsideProfile
    (pick (eqb n 14) UnknownVersion
    (pick (eqb n 15) BadRecord
    (pick (eqb n 16) EarlierTime
    (pick (eqb n 17) Retired
    (pick (eqb n 18) NotAFilter
    (pick (eqb n 19) FiltersFull
    (pick (eqb n 20) NotRising
    (pick (eqb n 21) NotAClock
    OutOfRange))))))))))))))))))))

abbrev by_listing : (n : ℕ) (t : Bool) → is_unlisted n ≡ t → Refusal
by_listing n true h = Other (record { number = n; unlisted = h })
by_listing n false h = listed_at n

unfoldable pub refusal_of : ℕ → Refusal
refusal_of n = by_listing n (is_unlisted n) refl

-- it has that number
next : (k n : ℕ) (r s : Refusal) → number_of r ≡ k → k ≤ n → (k + 1 ≤ n → number_of s ≡ n) → number_of (pick (eqb n k) r s) ≡ n
next k n r s e h f = go (eqb n k) refl
  where
    go : (t : Bool) → eqb n k ≡ t → number_of (pick t r s) ≡ n
    go true q = e ∙ sym (eqb-true n k q)
    go false q = f (omega (arith, h, eqb-false n k q))

listed_number : (n : ℕ) → 1 ≤ n → n ≤ 22 → number_of (listed_at n) ≡ n
listed_number n a m =
    next 1 n TooShort _ refl a (λ h1.
    next 2 n BadLead _ refl h1 (λ h2.
    next 3 n UnknownCommand _ refl h2 (λ h3.
    next 4 n BadLengthByte _ refl h3 (λ h4.
    next 5 n BadLength _ refl h4 (λ h5.
    next 6 n BadSum _ refl h5 (λ h6.
    next 7 n BadArgument _ refl h6 (λ h7.
    next 8 n NoRoom _ refl h7 (λ h8.
    next 9 n NoNumberFree _ refl h8 (λ h9.
    next 10 n NotAwaited _ refl h9 (λ h10.
    next 11 n BadDataSize _ refl h10 (λ h11.
    next 12 n NoneThere _ refl h11 (λ h12.
    next 13 n OutsideProfile _ refl h12 (λ h13.
    next 14 n UnknownVersion _ refl h13 (λ h14.
    next 15 n BadRecord _ refl h14 (λ h15.
    next 16 n EarlierTime _ refl h15 (λ h16.
    next 17 n Retired _ refl h16 (λ h17.
    next 18 n NotAFilter _ refl h17 (λ h18.
    next 19 n FiltersFull _ refl h18 (λ h19.
    next 20 n NotRising _ refl h19 (λ h20.
    next 21 n NotAClock _ refl h20 (λ h21.
    omega (arith, m, h21))))))))))))))))))))))

none_between : (a b : Bool) → (a || b) ≡ false → (a ≡ false) × (b ≡ false)
none_between true b e = clash (cc)
none_between false b e = (refl, e)

pub number_refusal : (n : ℕ) → number_of (refusal_of n) ≡ n
unfolding refusal_of
number_refusal n = go (is_unlisted n) refl
  where
    go : (t : Bool) (h : is_unlisted n ≡ t) → number_of (by_listing n t h) ≡ n
    go true h = refl
    go false h =
        let z = none_between (eqb n 0) (leb 23 n) h in
        listed_number n (omega (arith, eqb-false n 0 z.0)) (omega (arith, leb-false 23 n z.1))

-- and each refusal is that of its number
pub refusal_is : (r : Refusal) (k : ℕ) → number_of r ≡ k → r ≡ refusal_of k
refusal_is r k e = number_one r (refusal_of k) (e ∙ sym (number_refusal k))
