-- A reading that meets every demand, and a reading by its command's shape.
use Rattle.std.specs.Prelude.{ℕ, ◌≤◌, ◌≡◌, Bool, true, List, length}
use Rattle.std.proofs.Common.{◌∙◌, le-leb, eq-eqb}
use Rattle.refusal.specs.Answer.{Answer, full}
use Rattle.sum.specs.Sum.{sum_of}
use Rattle.frame.specs.Frame.{byte}
use Rattle.command.specs.declared.Rule.{Rule}
use Rattle.command.specs.declared.Shape.{Shape}
use Rattle.command.specs.Command.{shape_of, numbers_of, numbers_in, is_retired}
use Rattle.command.specs.Known.{shape_told}
use Rattle.ranges.specs.Arguments.{fits}
use Rattle.meaning.specs.Meaning.{pair, Sense, meaning_of}
use Rattle.request.specs.Said.{Heard, heard, arguments, address}
use Rattle.request.specs.Reading.{read_basic, read_unicast, read_shape, read_request}

pub basic_accepts : (rule : Rule) (d : List ℕ) (r : Bool) (m : Sense) → r ≡ is_retired (byte 2 d) → length d ≡ 8 → sum_of d ≡ 0
    → fits rule (byte 3 d) (byte 4 d) (byte 5 d) (byte 6 d) ≡ true → m ≡ meaning_of rule (byte 3 d) (byte 4 d) (byte 5 d) (byte 6 d)
    → full (heard (byte 1 d) (byte 2 d) r (arguments (byte 3 d) (byte 4 d) (byte 5 d) (byte 6 d) m)) ≡ read_basic rule d
unfolding read_basic
basic_accepts rule d r m g l s f e = rw (g, eq-eqb (length d) 8 l, eq-eqb (sum_of d) 0 s, f, e)

pub unicast_accepts : (d : List ℕ) (r : Bool) (port : ℕ) → r ≡ is_retired (byte 2 d) → byte 3 d ≡ 6 → length d ≡ 11 → sum_of d ≡ 0
    → port ≡ pair (byte 4 d) (byte 5 d)
    → full (heard (byte 1 d) (byte 2 d) r (address port (byte 6 d) (byte 7 d) (byte 8 d) (byte 9 d))) ≡ read_unicast d
unfolding read_unicast
unicast_accepts d r port g x l s e = rw (g, eq-eqb (byte 3 d) 6 x, eq-eqb (length d) 11 l, eq-eqb (sum_of d) 0 s, e)

pub shape_read : (d : List ℕ) (x : Shape) (r : Answer Heard) → 8 ≤ length d → byte 0 d ≡ 0x04 → x ≡ shape_of (byte 2 d)
    → r ≡ read_shape x d → r ≡ read_request d
unfolding read_request
shape_read d x r l h e q = q ∙ rw (le-leb 8 (length d) l, eq-eqb (byte 0 d) 0x04 h, e)

-- the same, as the code finds the shape
pub numbers_read : (d : List ℕ) (x : Shape) (r : Answer Heard) → 8 ≤ length d → byte 0 d ≡ 0x04 → numbers_of x ≡ numbers_in (byte 2 d)
    → r ≡ read_shape x d → r ≡ read_request d
numbers_read d x r l h e q = shape_read d x r l h (shape_told x (byte 2 d) e) q
