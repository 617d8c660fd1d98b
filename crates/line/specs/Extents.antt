-- What the first bytes of a frame tell of its length, they tell of every run that begins with them.
use Rattle.std.specs.Prelude.{ℕ, suc, ◌≤◌, ◌≡◌, refl, Bool, true, false, ◌||◌, List, length, leb, eqb}
use Rattle.std.proofs.Common.{sym, ap, ◌∙◌, leb-true, leb-false, arith}
use Rattle.refusal.specs.Test.{pick, clash}
use Rattle.lead.specs.Lead.{reply_data}
use Rattle.frame.specs.Frame.{byte}
use Rattle.command.specs.declared.Shape.{Shape}
use Rattle.command.specs.declared.Shape.TheVariants.{Unknown, Basic, Unicast, Colour}
use Rattle.command.specs.Command.{shape_of}
use Rattle.command.specs.Length.{Told, unknown, fixed, tested, length_of, Within, length_within}
use Rattle.stream.specs.Begins.{Begins, begins_at_lem}
use Rattle.extent.specs.declared.Line.{Line}
use Rattle.extent.specs.declared.Line.TheVariants.{Request, Reply}
use Rattle.extent.specs.declared.Extent.{Extent}
use Rattle.extent.specs.declared.Extent.TheVariants.{Wait, Bad, Frame}
use Rattle.extent.specs.Shapes.{up_to_lem}
use Rattle.extent.specs.Line.{reply_length, length_extent, extent_of, cap_of, least_of, longest_of}

-- the items that a frame's length can give
abbrev pub length_item : Line → ℕ → Bool
length_item Request k = eqb k 3 || eqb k 4
length_item Reply k = eqb k 4

-- How an extent was told: too few bytes are there and no more than the line's reader holds; or some bytes tell an item, and tell
-- it of every run that begins with them; or they tell a frame's length, which is within the line's bounds.
pub data Tells (on : Line) (s : List ℕ) : Extent → Type 0 where
  waits : length s ≤ cap_of on → Tells on s Wait
  bad : (k d : ℕ) → length_item on k ≡ true → 1 ≤ d → d ≤ length s → ((t : List ℕ) → Begins d s t → extent_of on t ≡ Bad k d)
      → Tells on s (Bad k d)
  frame : (n : ℕ) → least_of on ≤ n → n ≤ suc (cap_of on) → ((t : List ℕ) → Begins n s t → extent_of on t ≡ Frame n) → Tells on s (Frame n)

-- the bounds of a line's frames
bounds : (on : Line) → (3 ≤ least_of on) × (least_of on ≤ longest_of on) × (longest_of on ≡ suc (cap_of on))
bounds Request = (omega arith, omega arith, refl)
bounds Reply = (omega arith, omega arith, refl)

-- what tells the length stands from a place on
abbrev Behind : ℕ → Told → Type 0
Behind q unknown = Unit {0}
Behind q (fixed n) = Unit {0}
Behind q (tested p test n) = q ≤ p

-- what tells the length of a frame, where the line goes by it in every run that begins with as many bytes
length_tells : (on : Line) (s : List ℕ) (x : Told) → (x ≡ unknown → length_item on 3 ≡ true) → length_item on 4 ≡ true
    → Within (least_of on) (longest_of on) x → Behind 2 x → 3 ≤ length s
    → ((n : ℕ) (t : List ℕ) → 3 ≤ n → Begins n s t → extent_of on t ≡ length_extent x t) → Tells on s (length_extent x s)
length_tells on s unknown odd four w v h same = bad 3 3 (odd refl) (omega arith) h (λ t b. same 3 t (omega arith) b)
length_tells on s (fixed n) odd four w v h same =
    let l = bounds on in
    frame n w.0 (omega arith) (λ t b. same n t (omega arith) b)
length_tells on s (tested p test n) odd four w v h same = go (leb (suc p) (length s)) refl
  where
    here : (d : ℕ) (t : List ℕ) (x : Bool) → suc p ≤ d → test (byte p s) ≡ x → Begins d s t
        → extent_of on t ≡ pick x (Frame (n (byte p s))) (Bad 4 (suc p))
    here d t x l e b =
        same d t (omega arith) b ∙ up_to_lem (suc p) t (omega (arith, b.there)) ∙ rw (← begins_at_lem b p (omega arith), e)

    passes : (x : Bool) → test (byte p s) ≡ x → suc p ≤ length s → Tells on s (pick x (Frame (n (byte p s))) (Bad 4 (suc p)))
    passes true e l =
        let u = w.1 (byte p s) e in
        let r = bounds on in
        frame (n (byte p s)) u.0 (omega arith) (λ t b. here (n (byte p s)) t true (omega arith) e b)
    passes false e l = bad 4 (suc p) four (omega arith) l (λ t b. here (suc p) t false (omega arith) e b)

    go : (x : Bool) → leb (suc p) (length s) ≡ x → Tells on s (pick x (pick (test (byte p s)) (Frame (n (byte p s))) (Bad 4 (suc p))) Wait)
    go false e = waits (let r = bounds on in omega (arith, leb-false (suc p) (length s) e))
    go true e = passes (test (byte p s)) refl (leb-true (suc p) (length s) e)

-- the command, and behind it what it says
length_behind : (x : Shape) → Behind 2 (length_of x)
length_behind Unknown = tt
length_behind (Basic rule) = tt
length_behind Unicast = omega arith
length_behind Colour = omega arith

request_tells : (s : List ℕ) → Tells Request s (extent_of Request s)
request_tells s = go (leb 3 (length s)) refl
  where
    x : Told
    x = length_of (shape_of (byte 2 s))

    go : (b : Bool) → leb 3 (length s) ≡ b → Tells Request s (pick b (length_extent x s) Wait)
    go false e = waits (omega (arith, leb-false 3 (length s) e))
    go true e =
        let shape = shape_of (byte 2 s) in
        length_tells Request s x (λ q. refl) refl (length_within shape) (length_behind shape) (leb-true 3 (length s) e)
        (λ n t l b.
        up_to_lem 3 t (omega (arith, b.there))
        ∙ ap (λ (c : ℕ). length_extent (length_of (shape_of c)) t) (sym (begins_at_lem b 2 (omega arith))))

-- the third byte of a reply
reply_tells : (s : List ℕ) → Tells Reply s (extent_of Reply s)
reply_tells s = go (leb 3 (length s)) refl
  where
    go : (b : Bool) → leb 3 (length s) ≡ b → Tells Reply s (length_extent reply_length s)
    go false e = rw e (waits (omega (arith, leb-false 3 (length s) e)))
    go true e =
        length_tells Reply s reply_length (λ q. clash (cc)) refl
        (omega arith, λ b t. (omega arith, omega (arith, leb-true b reply_data t)))
        (omega arith) (leb-true 3 (length s) e) (λ n t l b. refl)

pub extent_tells : (on : Line) (s : List ℕ) → Tells on s (extent_of on s)
extent_tells Request s = request_tells s
extent_tells Reply s = reply_tells s

-- a frame has at least the bytes of the line's shortest
pub frame_least : (on : Line) (s : List ℕ) (x : Extent) (n : ℕ) → x ≡ extent_of on s → x ≡ Frame n → least_of on ≤ n
frame_least on s x n e q = go (rw (sym e ∙ q) at (extent_tells on s))
  where
    go : Tells on s (Frame n) → least_of on ≤ n
    go (frame n h l f) = h
