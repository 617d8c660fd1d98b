-- Marks: one that is handed out says of the buffer what opening it says, and by such a mark an append is judged as by the letter.
use Rattle.std.specs.Prelude.{Some, None, ℕ, ◌+◌, ◌≤◌, ◌<◌, ◌≡◌, refl, Bool, true, false, ◌||◌, List, [], ◌∷◌, ◌++◌, length, take, leb, eqb}
use Rattle.std.proofs.Common.{sym, ap, ◌∙◌, eqb-true, arith}
use Rattle.refusal.specs.Test.{clash}
use Rattle.refusal.specs.Answer.{full, demand_elim, full_one}
use Rattle.sum.specs.Bytes.{Bytes, bytes_none, bytes_cons}
use Rattle.lent.specs.Puts.{over}
use Rattle.record.specs.Record.{record_bytes, record_size}
use Rattle.summary.specs.declared.Summary.{Summary}
use Rattle.summary.specs.OneMore.{last_snoc}
use Rattle.capture.specs.declared.Mark.{Mark}
use Rattle.capture.specs.declared.Kept.{Kept}
use Rattle.capture.specs.Capture.{is_version, opened, counted, behind, start, kept, prefixed}
use Rattle.year.specs.Whole.{records_of, Whole, whole_used, whole_opened, whole_counted, opened_whole, whole_stays}
use Rattle.year.specs.Torn.{prefix_whole}
use Rattle.append.specs.Append.{emptied, verdict, verdict_at}
use Rattle.append.specs.Judged.{opened_used, marked}
use Rattle.year.specs.Longer.{entry, enters, new_whole, over_bytes}

-- a mark that says of a buffer what opening it says
abbrev pub Marks : List ℕ → Mark → Type 0
Marks b m = opened b m.used ≡ full m

-- by such a mark an append is judged as by the letter
pub as_letter : (b : List ℕ) (m : Mark) (x : Summary) (t : ℕ) (d : List ℕ) → Marks b m → verdict_at b m x t d ≡ verdict b m.used x t d
as_letter b m x t d h = marked b m.used m x t d h

-- EVERY MARK THAT IS HANDED OUT marks the buffer that is left: that of a capture freshly emptied,
pub empty_whole : (b : List ℕ) (v : ℕ) {k : Kept} → emptied b v ≡ full k → Whole (over (v ∷ []) b 0) 1 [] × (k ≡ kept [])
unfolding emptied
empty_whole b v {k} =
    demand_elim (leb 1 (length b)) 8
    (λ h. demand_elim (is_version v) 14
    (λ f e. (record { known = f; there = omega arith; bytes = refl; good = tt }, sym (full_one e))))

pub empty_marks : (b : List ℕ) (v : ℕ) {k : Kept} → emptied b v ≡ full k → Marks (over (v ∷ []) b 0) k.mark
empty_marks b v e = let w = empty_whole b v e in rw w.1 (whole_opened w.0)

-- whose summary is the one counted afresh,
pub empty_counted : (b : List ℕ) (v : ℕ) {k : Kept} → emptied b v ≡ full k → counted (over (v ∷ []) b 0) k.mark.used ≡ full k.summary
empty_counted b v e = let w = empty_whole b v e in rw w.1 (whole_counted w.0 (omega arith))

version_byte : (v : ℕ) → is_version v ≡ true → v < 256
version_byte v e = go (eqb v 1) refl (eqb v 2) refl e
  where
    go : (a : Bool) → eqb v 1 ≡ a → (c : Bool) → eqb v 2 ≡ c → a || c ≡ true → v < 256
    go true p c q e = omega (arith, eqb-true v 1 p)
    go false p true q e = omega (arith, eqb-true v 2 q)
    go false p false q e = clash (cc)

pub empty_bytes : (b : List ℕ) (v : ℕ) {k : Kept} → Bytes b → emptied b v ≡ full k → Bytes (over (v ∷ []) b 0)
empty_bytes b v h e = over_bytes (v ∷ []) b 0 (bytes_cons {b = v} (version_byte v (empty_whole b v e).0.known) bytes_none) h

-- that of a capture opened, whose bytes in use it tells,
pub open_marks : (b : List ℕ) (u : ℕ) {m : Mark} → opened b u ≡ full m → Marks b m × (m.used ≡ u)
open_marks b u {m} e = let f = opened_used b u m e in (ap (opened b) f ∙ e, f)

-- that of a good capture that was found before a torn tail,
pub prefix_marks : (b : List ℕ) (u : ℕ) {k : Kept} → Bytes b → prefixed b u ≡ full k → Marks b k.mark
prefix_marks b u h e = (prefix_whole b u h e).0

-- and that of an append by such a mark
pub append_marks : (b : List ℕ) (m : Mark) (x : Summary) (t : ℕ) (d : List ℕ) {y : Summary} → Bytes b → t < 4294967296 → Marks b m
    → verdict_at b m x t d ≡ full y → Marks (over (record_bytes t d) b m.used) (record { used = m.used + record_size d; last = Some t })
append_marks b m x t d h s k f =
    let u : ℕ = m.used in
    let went = sym (as_letter b m x t d k) ∙ f in
    let i = enters b u x t d went in
    let r = entry t d i.event in
    let w = new_whole b u x t d h s went i.reads in
    let n : (behind start (records_of b u ++ (r ∷ []))).used ≡ u + record_size d = sym (whole_used w) in
    let l = last_snoc None (records_of b u) r in
    whole_opened w ∙ ap full (λ i. record { used = n i; last = l i })

-- It goes on marking as long as nobody else writes the bytes in use
pub marks_stay : (b b' : List ℕ) (m : Mark) → Bytes b → Marks b m → take m.used b' ≡ take m.used b → m.used ≤ length b' → Marks b' m
marks_stay b b' m h k e l =
    let w = opened_whole b m.used h k in
    whole_opened (whole_stays {b = b} {b' = b'} w.0 e l) ∙ ap full (sym w.1)
