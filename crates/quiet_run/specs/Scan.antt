-- A run from its front on, item by item: past those that are quiet, up to the first that is not.
use Rattle.std.specs.Prelude.{ℕ, zero, suc, ◌+◌, ◌≡◌, refl, Bool, List, length, take, drop, Option, Some, None, Result, Ok, Err}
use Rattle.refusal.specs.Test.{pick, clash}
use Rattle.stream.specs.Stream.{reading, Position, nothing, stands}
use Rattle.extent.specs.declared.Line.TheVariants.{Request}
use Rattle.line.specs.Rule.{item_at}
use Rattle.quiet_run.specs.declared.Loud.{Loud}
use Rattle.quiet_run.specs.Quiet.{is_quiet, First, none, loud}

-- a scan that ended at an item, by its place, its number and its size
abbrev pub loud_at : ℕ → ℕ → ℕ → Result ℕ Loud
loud_at at k m = Err (record { place = at; number = k; size = m })

-- at a place of the run, from which on the bytes s are there: where nothing stands the scan is past what is before it; an item that is
-- not quiet ends it; and behind a quiet one it goes on
abbrev pub scan_at : ℕ → List ℕ → Position → Result ℕ Loud → Result ℕ Loud
scan_at at s nothing behind = Ok at
scan_at at s (stands k m) behind = pick (is_quiet (reading k (take m s))) behind (loud_at at k m)

abbrev pub size_at : Position → ℕ
size_at nothing = 0
size_at (stands k m) = m

-- of the items that stand there at most n are looked at: "Reading goes on after the item's bytes."
unfoldable pub scan_up_to : Bool → ℕ → ℕ → List ℕ → Result ℕ Loud
scan_up_to closed zero at s = Ok at
scan_up_to closed (suc n) at s =
    let x = item_at Request closed s in
    scan_at at s x (scan_up_to closed n (at + size_at x) (drop (size_at x) s))

-- each has a byte at least, so there are no more than bytes
abbrev pub scan_from : Bool → ℕ → List ℕ → Result ℕ Loud
scan_from closed at s = scan_up_to closed (length s) at s

abbrev pub scanned : Bool → List ℕ → Result ℕ Loud
scanned closed s = scan_from closed 0 s

-- what the code's answer says of the first item that is not quiet
abbrev pub said_first : Option Loud → First
said_first None = none
said_first (Some x) = loud x.place x.number x.size

-- it leaves no choice
abbrev of_three : ℕ → ℕ → ℕ → Option Loud
of_three at k m = Some (record { place = at; number = k; size = m })

three_one : {at k m at' k' m' : ℕ} → loud at k m ≡ loud at' k' m' → of_three at k m ≡ of_three at' k' m'
three_one e = cc

pub first_one : (x y : Option Loud) → said_first x ≡ said_first y → x ≡ y
first_one None None e = refl
first_one None (Some y) e = clash (cc)
first_one (Some x) None e = clash (cc)
first_one (Some x) (Some y) e = three_one e
