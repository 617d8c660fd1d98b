-- A text judged and put line by line: what is left gives the whole.
use Prim.Native.Nat.{ℕ, suc, ◌+◌, ◌-◌, ◌*◌, ◌/◌, ◌≤◌, ◌<◌}
use Rattle.std.specs.Prelude.{◌≡◌, Result, Ok, Err, Bool, true, List, [], ◌∷◌, ◌++◌, take, drop}
use Rattle.std.proofs.Math.Path.{refl, ap}
use Rattle.std.proofs.Common.{sym, ◌∙◌}
use Rattle.std.proofs.Math.Bool.{false}
use Rattle.std.proofs.Math.ListN.{length}
use borrow.Author.Tests.{le-leb, lt-leb}
use Rattle.std.proofs.Math.Nat.{zero-add}
use native.Mathlib.Omega.{arith}
use Rattle.refusal.specs.Test.{clash}
use Rattle.words.specs.Words.{before}
use Rattle.lent.specs.Puts.{fits, over_none, Puts}
use Rattle.lent.specs.Over.{puts_room, puts_length, puts_then}
use Rattle.plan_wanted.specs.declared.Line.{Line}
use Rattle.plan_wanted.specs.declared.Line.TheVariants.{Nothing, Says, Bad}
use Rattle.plan_wanted.specs.declared.NotWanted.{NotWanted}
use Rattle.plan_wanted.specs.declared.NotWanted.TheVariants.{BadLine, Full}
use Rattle.plan_wanted.specs.Wanted.{line_of, Event, event, Told, events, bad, in_front, all_of, told_by, bytes_of, answer_of, left_by, Reads}
use Rattle.plan_wanted.specs.Places.{line_turn, line_done}

-- what the lines from a place on tell
abbrev pub rest_of : List ℕ → ℕ → Told
rest_of s i = told_by (drop i s)

module _ (s : List ℕ) (i : ℕ) where
  pub rest_turn : (e : ℕ) (l : Line) → i < length s → e ≡ i + before 10 (drop i s) → l ≡ line_of (take (e - i) (drop i s)) → rest_of s i ≡ in_front l (rest_of s (e + 1))
  unfolding all_of
  rest_turn e l h q p = ap all_of (line_turn s i e h q) ∙ ap (λ (x : Line). in_front x (rest_of s (e + 1))) (sym p)

  pub rest_done : length s ≤ i → rest_of s i ≡ events []
  unfolding all_of
  rest_done h = ap all_of (line_done s i h)

-- the events counted behind n lines with k events
unfoldable pub tally : ℕ → ℕ → Told → Result ℕ NotWanted
tally n k (events es) = Ok (k + length es)
tally n k (bad m) = Err (BadLine (n + m))

module _ (n k : ℕ) where
  pub tally_done : (x : Told) → x ≡ events [] → Ok k ≡ tally n k x
  unfolding tally
  tally_done x p = let e : k ≡ k + 0 = omega arith in rw p (ap Ok e)

  module _ (x y : Told) (l : Line) (p : x ≡ in_front l y) where
    pub tally_bad : l ≡ Bad → Err (BadLine (n + 1)) ≡ tally n k x
    unfolding tally
    tally_bad q = rw (p, q) refl

    pub tally_nothing : (m : ℕ) → l ≡ Nothing → m ≡ k → tally (n + 1) m y ≡ tally n k x
    unfolding tally
    tally_nothing m q r = rw (p, q, r) (go y)
      where
        go : (z : Told) → tally (n + 1) k z ≡ tally n k (in_front Nothing z)
        go (events es) = refl
        go (bad j) = let e : n + 1 + j ≡ n + suc j = omega arith in ap (λ (m : ℕ). Err (BadLine m)) e

    pub tally_says : (m a i t : ℕ) → l ≡ Says a i t → m ≡ k + 1 → tally (n + 1) m y ≡ tally n k x
    unfolding tally
    tally_says m a i t q r = rw (p, q, r) (go y)
      where
        go : (z : Told) → tally (n + 1) (k + 1) z ≡ tally n k (in_front (Says a i t) z)
        go (events es) = let e : k + 1 + length es ≡ k + suc (length es) = omega arith in ap Ok e
        go (bad j) = let e : n + 1 + j ≡ n + suc j = omega arith in ap (λ (m : ℕ). Err (BadLine m)) e

-- the bytes of a line
abbrev pub bytes_by : Line → List ℕ
bytes_by (Says a i t) = a ∷ i ∷ t ∷ []
bytes_by Nothing = []
bytes_by Bad = []

-- the bytes of the events, and whether they are there and have room
abbrev pub bytes_in : Told → List ℕ
bytes_in (events es) = bytes_of es
bytes_in (bad n) = []

abbrev pub Good : Told → ℕ → ℕ → Type 0
Good (events es) at m = at + length (bytes_of es) ≤ m
Good (bad n) at m = 1 ≤ 0

-- a line with no bytes puts nothing
pub puts_nothing : (out : List ℕ) (at : ℕ) → Puts [] out at at out
puts_nothing out at = go (fits [] out at) refl
  where
    go : (t : Bool) → fits [] out at ≡ t → Puts [] out at at out
    go true e = let k : at ≡ at + 0 = omega arith in record { says = rw e k; leaves = rw e (sym (over_none out at)) }
    go false e = record { says = rw e; leaves = rw e }

-- the bytes of the first line, and those of the others
first_bytes : (l : Line) (y : Told) (at m : ℕ) → Good (in_front l y) at m
    → (bytes_in (in_front l y) ≡ bytes_by l ++ bytes_in y) × Good y (at + length (bytes_by l)) m × (at + length (bytes_by l) + length (bytes_in y) ≤ m)
first_bytes Bad y at m g = absurd (omega arith)
first_bytes Nothing (events es) at m g = (refl, omega arith, omega arith)
first_bytes Nothing (bad n) at m g = absurd (omega arith)
first_bytes (Says a i t) (events es) at m g = (refl, omega arith, omega arith)
first_bytes (Says a i t) (bad n) at m g = absurd (omega arith)

-- what is known between two lines: putting the bytes of those left puts the bytes of all
pub record Under (s out₀ out : List ℕ) (i at : ℕ) : Type 0 where
  pub good : Good (rest_of s i) at (length out)
  pub same : length out ≡ length out₀
  pub left : (r : ℕ) (o : List ℕ) → Puts (bytes_in (rest_of s i)) out at r o → Puts (bytes_in (told_by s)) out₀ 0 r o

pub under_start : (s out : List ℕ) → Good (told_by s) 0 (length out) → Under s out out 0 0
under_start s out g = record { good = g; same = refl; left = λ r o w. w }

module _ (s out₀ out : List ℕ) (i at : ℕ) (u : Under s out₀ out i at) where
  pub under_turn : (e : ℕ) (l : Line) → i < length s → e ≡ i + before 10 (drop i s) → l ≡ line_of (take (e - i) (drop i s))
      → (m : ℕ) (o : List ℕ) → Puts (bytes_by l) out at m o → Under s out₀ o (e + 1) m
  under_turn e l h q p m o w =
      let y : Told = rest_of s (e + 1) in
      let t : rest_of s i ≡ in_front l y = rest_turn s i e l h q p in
      let g : Good (in_front l y) at (length out) = rw t at u.good in
      let f = first_bytes l y at (length out) g in
      let k : length o ≡ length out = puts_length w in
      let z : m ≡ at + length (bytes_by l) = (puts_room {t = bytes_by l} {out = out} (omega (arith, f.2)) w).0 in
      record {
        good = rw (z, k) f.1;
        same = k ∙ u.same;
        left = λ r o' v. u.left r o' (rw (t, f.0) (puts_then {t = bytes_by l} {u = bytes_in y} f.2 w v));
      }

  pub under_done : length s ≤ i → Puts (bytes_in (told_by s)) out₀ 0 at out
  under_done h = u.left at out (rw (rest_done s i h) (puts_nothing out at))

-- what is read, by what the lines say
bytes_length : (es : List Event) → length (bytes_of es) ≡ length es * 3
bytes_length [] = refl
bytes_length (event a i t ∷ es) = omega (arith, bytes_length es)

pub read_bad : (s out : List ℕ) (x : NotWanted) → Err x ≡ tally 0 0 (told_by s) → Reads s out (Err x) out
unfolding tally
read_bad s out x h = let w = go (told_by s) h in record { says = w.0; leaves = w.1 }
  where
    go : (y : Told) → Err x ≡ tally 0 0 y → (Err x ≡ answer_of y out) × (out ≡ left_by y out)
    go (events es) e = clash (cc)
    go (bad m) e = (e ∙ ap (λ (j : ℕ). Err (BadLine j)) (zero-add m), refl)

module _ (s out : List ℕ) (n : ℕ) where
  module _ (h : Ok n ≡ tally 0 0 (told_by s)) where
    pub read_full : length out / 3 < n → Reads s out (Err Full) out
    unfolding tally
    read_full l = let w = go (told_by s) h in record { says = w.0; leaves = w.1 }
      where
        go : (x : Told) → Ok n ≡ tally 0 0 x → (Err Full ≡ answer_of x out) × (out ≡ left_by x out)
        go (events es) e =
            let k : n ≡ 0 + length es = cc in
            let f : fits (bytes_of es) out 0 ≡ false = lt-leb (0 + length (bytes_of es)) (length out) (omega (arith, bytes_length es)) in
            (rw f, rw f)
        go (bad m) e = clash (cc)

    pub read_room : n ≤ length out / 3 → Good (told_by s) 0 (length out)
    unfolding tally
    read_room l = go (told_by s) h
      where
        go : (x : Told) → Ok n ≡ tally 0 0 x → Good x 0 (length out)
        go (events es) e = let k : n ≡ 0 + length es = cc in omega (arith, bytes_length es)
        go (bad m) e = clash (cc)

pub read_put : (s out : List ℕ) (r : ℕ) (o : List ℕ) → Good (told_by s) 0 (length out) → Puts (bytes_in (told_by s)) out 0 r o → Reads s out (Ok r) o
read_put s out r o g w = let z = go (told_by s) g w in record { says = z.0; leaves = z.1 }
  where
    go : (x : Told) → Good x 0 (length out) → Puts (bytes_in x) out 0 r o → (Ok r ≡ answer_of x out) × (o ≡ left_by x out)
    go (events es) l v =
        let f : fits (bytes_of es) out 0 ≡ true = le-leb (0 + length (bytes_of es)) (length out) l in
        let k : r ≡ 0 + length (bytes_of es) = (puts_room {t = bytes_of es} {out = out} l v).0 in
        (rw f (ap Ok (k ∙ zero-add (length (bytes_of es)))), v.leaves)
    go (bad m) l v = absurd (omega arith)
