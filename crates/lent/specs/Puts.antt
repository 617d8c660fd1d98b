-- A run of bytes (a text) in a lent buffer, from a place on. Document 01, "Refusals, by number": "no lent byte .. changes" where a call is
-- refused, and "bytes after the frame stay".
use Rattle.std.specs.Prelude.{ℕ, suc, ◌+◌, ◌≤◌, ◌<◌, ◌≡◌, Bool, true, false, List, [], ◌∷◌, ◌++◌, length, take, drop, set, leb}
use Rattle.std.proofs.Common.{sym, ap, ◌∙◌, append_assoc, length-append, drop_at, length-take-le, le-leb, arith}
use Rattle.std.proofs.lemmas.List.Edits.{sets, sets-eq}
use Rattle.std.proofs.Math.Seq.{paste-zero, append_snoc}
use Rattle.std.proofs.lemmas.List.{take-set-le, set_split}
use Rattle.std.proofs.lemmas.Bool.{lt-leb}
use Rattle.refusal.specs.Test.{pick}

-- whether a text has room in a buffer from a place on
abbrev pub fits : List ℕ → List ℕ → ℕ → Bool
fits t out at = leb (at + length t) (length out)

-- a text over what stands in a buffer from a place on
abbrev pub over : List ℕ → List ℕ → ℕ → List ℕ
over t out at = take at out ++ t ++ drop (at + length t) out

-- the place behind the text, or where it has no room the place itself
abbrev pub place_after : List ℕ → List ℕ → ℕ → ℕ
place_after t out at = pick (fits t out at) (at + length t) at

-- the buffer with the text in it, or where it has no room as it was
abbrev pub buffer_after : List ℕ → List ℕ → ℕ → List ℕ
buffer_after t out at = pick (fits t out at) (over t out at) out

-- the contract of every function that puts a text: the place that it answers, and every byte of the buffer
pub record Puts (t out : List ℕ) (at r : ℕ) (out' : List ℕ) : Type 0 where
  pub says : r ≡ place_after t out at
  pub leaves : out' ≡ buffer_after t out at

-- it leaves no choice
pub puts_one : {t out p q : List ℕ} {at r s : ℕ} → Puts t out at r p → Puts t out at s q → (r ≡ s) × (p ≡ q)
puts_one a b = (a.says ∙ sym b.says, a.leaves ∙ sym b.leaves)

-- the two ways that a call can go
pub no_room : (t out : List ℕ) (at : ℕ) → length out < at + length t → Puts t out at at out
no_room t out at h =
    let e : fits t out at ≡ false = lt-leb (at + length t) (length out) h in
    record { says = rw e; leaves = rw e }

pub room : (t out out' : List ℕ) (at r : ℕ) → at + length t ≤ length out → r ≡ at + length t → out' ≡ over t out at → Puts t out at r out'
room t out out' at r h p q =
    let e : fits t out at ≡ true = le-leb (at + length t) (length out) h in
    record { says = rw e p; leaves = rw e q }

-- a text stored byte by byte
pub stored : (t out : List ℕ) (at r : ℕ) → at + length t ≤ length out → r ≡ at + length t → Puts t out at r (sets out at t)
stored t out at r h e = room t out (sets out at t) at r h e (sets-eq t out at h)

-- no text changes nothing, and a text with one byte more is that byte behind its place, then the text
pub over_none : (out : List ℕ) (at : ℕ) → over [] out at ≡ out
over_none out at = sym (paste-zero out at [])

pub over_snoc : (t : List ℕ) (x : ℕ) (out : List ℕ) (at : ℕ) → at + length t < length out → over (t ++ (x ∷ [])) out at ≡ over t (set out (at + length t) x) at
over_snoc t x out at h =
    let m : ℕ = at + length t in
    let a : take at (set out m x) ≡ take at out = take-set-le at out m x (omega arith) in
    let b : drop m (set out m x) ≡ x ∷ drop (suc m) out = ap (drop m) (set_split out m x h) ∙ drop_at (take m out) (x ∷ drop (suc m) out) m (length-take-le m out (omega arith)) in
    let l : at + length (t ++ (x ∷ [])) ≡ suc m = omega (arith, length-append t (x ∷ [])) in
    rw (a, b, l, ← append_assoc (take at out) t (x ∷ [])) (append_snoc (take at out ++ t) x (drop (suc m) out))
