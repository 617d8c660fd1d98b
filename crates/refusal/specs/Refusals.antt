-- Documents 01 and 02, "Refusals, by number".
use Rattle.std.specs.Prelude.{ℕ, ◌-◌, ◌≡◌, refl, [], ◌∷◌, get_or, true, false}
use Rattle.std.proofs.Common.{sym, ap, subst, ◌∙◌}
use Rattle.std.proofs.Math.Bool.{Bool-set}
use Rattle.refusal.specs.Test.{not_both}
use Rattle.refusal.specs.Listed.{is_unlisted}
use Rattle.refusal.specs.declared.Unlisted.{Unlisted}
use Rattle.refusal.specs.declared.Refusal.{Refusal}
use Rattle.refusal.specs.declared.Refusal.TheVariants.{TooShort, BadLead, UnknownCommand, BadLengthByte, BadLength, BadSum, BadArgument, NoRoom, NoNumberFree, NotAwaited, BadDataSize, NoneThere, OutsideProfile, UnknownVersion, BadRecord, EarlierTime, Retired, NotAFilter, FiltersFull, NotRising, NotAClock, OutOfRange, Other}

-- the number of each
abbrev pub number_of : Refusal → ℕ
number_of TooShort = 1
number_of BadLead = 2
number_of UnknownCommand = 3
number_of BadLengthByte = 4
number_of BadLength = 5
number_of BadSum = 6
number_of BadArgument = 7
number_of NoRoom = 8
number_of NoNumberFree = 9
number_of NotAwaited = 10
number_of BadDataSize = 11
number_of NoneThere = 12
number_of OutsideProfile = 13
number_of UnknownVersion = 14
number_of BadRecord = 15
number_of EarlierTime = 16
number_of Retired = 17
number_of NotAFilter = 18
number_of FiltersFull = 19
number_of NotRising = 20
number_of NotAClock = 21
number_of OutOfRange = 22
number_of (Other u) = u.number

-- the refusal of a listed number
refusal_at : ℕ → Refusal
refusal_at n =
    get_or (TooShort ∷ BadLead ∷ UnknownCommand ∷ BadLengthByte ∷ BadLength ∷ BadSum ∷ BadArgument ∷ NoRoom ∷ NoNumberFree ∷ NotAwaited ∷ BadDataSize
    ∷ NoneThere ∷ OutsideProfile ∷ UnknownVersion ∷ BadRecord ∷ EarlierTime ∷ Retired ∷ NotAFilter ∷ FiltersFull ∷ NotRising ∷ NotAClock ∷ OutOfRange ∷ [])
    (n - 1) OutOfRange

at_number : (r : Refusal) → is_unlisted (number_of r) ≡ false → refusal_at (number_of r) ≡ r
unfolding refusal_at
at_number TooShort h = refl
at_number BadLead h = refl
at_number UnknownCommand h = refl
at_number BadLengthByte h = refl
at_number BadLength h = refl
at_number BadSum h = refl
at_number BadArgument h = refl
at_number NoRoom h = refl
at_number NoNumberFree h = refl
at_number NotAwaited h = refl
at_number BadDataSize h = refl
at_number NoneThere h = refl
at_number OutsideProfile h = refl
at_number UnknownVersion h = refl
at_number BadRecord h = refl
at_number EarlierTime h = refl
at_number Retired h = refl
at_number NotAFilter h = refl
at_number FiltersFull h = refl
at_number NotRising h = refl
at_number NotAClock h = refl
at_number OutOfRange h = refl
at_number (Other u) h = not_both u.unlisted h

-- an unlisted number is all that there is of it
abbrev unlisted_at : (n : ℕ) → is_unlisted n ≡ true → Unlisted
unlisted_at n h = record { number = n; unlisted = h }

unlisted_one : (m n : ℕ) (h : is_unlisted m ≡ true) (k : is_unlisted n ≡ true) → m ≡ n → unlisted_at m h ≡ unlisted_at n k
unlisted_one m n h k e = subst (λ (i : ℕ). (j : is_unlisted i ≡ true) → unlisted_at m h ≡ unlisted_at i j) e (λ j. ap (unlisted_at m) (Bool-set _ _ h j)) k

-- a number is no refusal's, or that of one that is not listed
other_one : (r : Refusal) (u : Unlisted) → number_of r ≡ u.number → r ≡ Other u
other_one TooShort u e = not_both (rw (← e) at u.unlisted) refl
other_one BadLead u e = not_both (rw (← e) at u.unlisted) refl
other_one UnknownCommand u e = not_both (rw (← e) at u.unlisted) refl
other_one BadLengthByte u e = not_both (rw (← e) at u.unlisted) refl
other_one BadLength u e = not_both (rw (← e) at u.unlisted) refl
other_one BadSum u e = not_both (rw (← e) at u.unlisted) refl
other_one BadArgument u e = not_both (rw (← e) at u.unlisted) refl
other_one NoRoom u e = not_both (rw (← e) at u.unlisted) refl
other_one NoNumberFree u e = not_both (rw (← e) at u.unlisted) refl
other_one NotAwaited u e = not_both (rw (← e) at u.unlisted) refl
other_one BadDataSize u e = not_both (rw (← e) at u.unlisted) refl
other_one NoneThere u e = not_both (rw (← e) at u.unlisted) refl
other_one OutsideProfile u e = not_both (rw (← e) at u.unlisted) refl
other_one UnknownVersion u e = not_both (rw (← e) at u.unlisted) refl
other_one BadRecord u e = not_both (rw (← e) at u.unlisted) refl
other_one EarlierTime u e = not_both (rw (← e) at u.unlisted) refl
other_one Retired u e = not_both (rw (← e) at u.unlisted) refl
other_one NotAFilter u e = not_both (rw (← e) at u.unlisted) refl
other_one FiltersFull u e = not_both (rw (← e) at u.unlisted) refl
other_one NotRising u e = not_both (rw (← e) at u.unlisted) refl
other_one NotAClock u e = not_both (rw (← e) at u.unlisted) refl
other_one OutOfRange u e = not_both (rw (← e) at u.unlisted) refl
other_one (Other v) u e = ap Other (unlisted_one v.number u.number v.unlisted u.unlisted e)

-- no two refusals have the same number
pub number_one : (r s : Refusal) → number_of r ≡ number_of s → r ≡ s
number_one r (Other u) e = other_one r u e
number_one r TooShort e = sym (at_number r (rw e refl)) ∙ ap refusal_at e ∙ at_number TooShort refl
number_one r BadLead e = sym (at_number r (rw e refl)) ∙ ap refusal_at e ∙ at_number BadLead refl
number_one r UnknownCommand e = sym (at_number r (rw e refl)) ∙ ap refusal_at e ∙ at_number UnknownCommand refl
number_one r BadLengthByte e = sym (at_number r (rw e refl)) ∙ ap refusal_at e ∙ at_number BadLengthByte refl
number_one r BadLength e = sym (at_number r (rw e refl)) ∙ ap refusal_at e ∙ at_number BadLength refl
number_one r BadSum e = sym (at_number r (rw e refl)) ∙ ap refusal_at e ∙ at_number BadSum refl
number_one r BadArgument e = sym (at_number r (rw e refl)) ∙ ap refusal_at e ∙ at_number BadArgument refl
number_one r NoRoom e = sym (at_number r (rw e refl)) ∙ ap refusal_at e ∙ at_number NoRoom refl
number_one r NoNumberFree e = sym (at_number r (rw e refl)) ∙ ap refusal_at e ∙ at_number NoNumberFree refl
number_one r NotAwaited e = sym (at_number r (rw e refl)) ∙ ap refusal_at e ∙ at_number NotAwaited refl
number_one r BadDataSize e = sym (at_number r (rw e refl)) ∙ ap refusal_at e ∙ at_number BadDataSize refl
number_one r NoneThere e = sym (at_number r (rw e refl)) ∙ ap refusal_at e ∙ at_number NoneThere refl
number_one r OutsideProfile e = sym (at_number r (rw e refl)) ∙ ap refusal_at e ∙ at_number OutsideProfile refl
number_one r UnknownVersion e = sym (at_number r (rw e refl)) ∙ ap refusal_at e ∙ at_number UnknownVersion refl
number_one r BadRecord e = sym (at_number r (rw e refl)) ∙ ap refusal_at e ∙ at_number BadRecord refl
number_one r EarlierTime e = sym (at_number r (rw e refl)) ∙ ap refusal_at e ∙ at_number EarlierTime refl
number_one r Retired e = sym (at_number r (rw e refl)) ∙ ap refusal_at e ∙ at_number Retired refl
number_one r NotAFilter e = sym (at_number r (rw e refl)) ∙ ap refusal_at e ∙ at_number NotAFilter refl
number_one r FiltersFull e = sym (at_number r (rw e refl)) ∙ ap refusal_at e ∙ at_number FiltersFull refl
number_one r NotRising e = sym (at_number r (rw e refl)) ∙ ap refusal_at e ∙ at_number NotRising refl
number_one r NotAClock e = sym (at_number r (rw e refl)) ∙ ap refusal_at e ∙ at_number NotAClock refl
number_one r OutOfRange e = sym (at_number r (rw e refl)) ∙ ap refusal_at e ∙ at_number OutOfRange refl
