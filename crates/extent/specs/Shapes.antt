-- The length of a request, by its command's shape.
use Rattle.std.specs.Prelude.{ℕ, ◌+◌, ◌≤◌, ◌<◌, ◌≡◌, List, length}
use Rattle.std.proofs.Common.{sym, ◌∙◌, le-leb, lt-ltb}
use Rattle.std.proofs.lemmas.Bool.{lt-leb}
use Rattle.frame.specs.Frame.{byte}
use Rattle.command.specs.declared.Shape.{Shape}
use Rattle.command.specs.declared.Shape.TheVariants.{Colour}
use Rattle.command.specs.Colours.{data_bytes}
use Rattle.command.specs.Command.{shape_of}
use Rattle.command.specs.Length.{length_of}
use Rattle.extent.specs.declared.Extent.{Extent}
use Rattle.extent.specs.declared.Extent.TheVariants.{Wait, Bad, Frame}
use Rattle.extent.specs.Line.{up_to, length_extent, request_extent}

-- where enough bytes are there
pub up_to_lem : (n : ℕ) (s : List ℕ) {x : Extent} → n ≤ length s → up_to n s x ≡ x
up_to_lem n s h = simp (le-leb n (length s) h)

-- the length of a request, by its command's shape
pub shape_extent : (s : List ℕ) (x : Shape) (r : Extent) → 3 ≤ length s → x ≡ shape_of (byte 2 s) → r ≡ length_extent (length_of x) s
    → r ≡ request_extent s
shape_extent s x r h e q = q ∙ rw e (sym (up_to_lem 3 s h))

-- that of a colour request, by the bytes that its type has
pub colour_short : (s : List ℕ) → length s < 6 → Wait ≡ length_extent (length_of Colour) s
colour_short s h = rw (lt-leb 6 (length s) h)

pub colour_odd : (s : List ℕ) (n : ℕ) → 6 ≤ length s → n ≡ data_bytes (byte 5 s) → n ≡ 0 → Bad 4 6 ≡ length_extent (length_of Colour) s
colour_odd s n h e z = rw (le-leb 6 (length s) h, ← e, z)

pub colour_framed : (s : List ℕ) (n : ℕ) → 6 ≤ length s → n ≡ data_bytes (byte 5 s) → 0 < n
    → Frame (6 + n + 1) ≡ length_extent (length_of Colour) s
colour_framed s n h e l = rw (le-leb 6 (length s) h, ← e, lt-ltb 0 n l)
