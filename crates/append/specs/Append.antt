-- Document 02, W-207: a capture emptied, and appended to.
use Rattle.std.specs.Prelude.{ℕ, Result, Some, ◌+◌, ◌≡◌, List, [], ◌∷◌, length, leb}
use Rattle.std.proofs.Common.{sym, ◌∙◌}
use Rattle.refusal.specs.declared.Refusal.{Refusal}
use Rattle.refusal.specs.Answer.{Answer, refused, full, demand, determined, said, said_one}
use Rattle.lent.specs.Puts.{over}
use Rattle.frame.specs.Frame.{byte}
use Rattle.event_type.specs.Types.{kind_number}
use Rattle.event.specs.declared.Layout.{Layout}
use Rattle.event.specs.Layout.{width_of}
use Rattle.event.specs.Reading.{Told, read_event}
use Rattle.record.specs.Record.{record_bytes, record_size}
use Rattle.summary.specs.declared.Summary.{Summary}
use Rattle.append.specs.declared.Appended.{Appended}
use Rattle.summary.specs.Summary.{not_before, one_more}
use Rattle.capture.specs.declared.Mark.{Mark}
use Rattle.capture.specs.declared.Kept.{Kept}
use Rattle.capture.specs.Capture.{is_version, layout_by, front_of, opened, kept}

-- EMPTYING. "emptying gives 14, or 8 for a buffer of no bytes": the lower where both apply. "freshly emptied, all counts are 0 and the two
-- times are absent"
unfoldable pub emptied : List ℕ → ℕ → Answer Kept
emptied b v =
    demand (leb 1 (length b)) 8
    (demand (is_version v) 14
    (full (kept [])))

abbrev pub empty_left : Answer Kept → List ℕ → ℕ → List ℕ
empty_left (refused k) b v = b
empty_left (full x) b v = over (v ∷ []) b 0

-- the contract of emptying: what it answers, and every byte of the buffer
pub record Empties (a : Answer Kept) (b : List ℕ) (v : ℕ) (r : Result Kept Refusal) (b' : List ℕ) : Type 0 where
  pub says : said r ≡ a
  pub leaves : b' ≡ empty_left a b v

-- APPENDING. "then 16, then 8 for no room in the buffer or in a count", for a datagram of n bytes and a type
unfoldable pub room_for : ℕ → Mark → Summary → ℕ → ℕ → ℕ → Answer Summary
room_for room m x t n k =
    demand (not_before m.last t) 16
    (demand (leb (m.used + (6 + n)) room) 8
    (one_more x t k))

-- "then 1 to 7 for the datagram"
abbrev pub on_event : Answer Told → List ℕ → Mark → Summary → ℕ → List ℕ → Answer Summary
on_event (refused k) b m x t d = refused k
on_event (full e) b m x t d = room_for (length b) m x t (length d) (kind_number e.kind)

-- by the letter: "14 and 15 .. on the capture come first"
abbrev pub on_mark : Answer Mark → List ℕ → Summary → ℕ → List ℕ → Answer Summary
on_mark (refused k) b x t d = refused k
on_mark (full m) b x t d = on_event (read_event (width_of (layout_by (byte 0 b))) d) b m x t d

unfoldable pub verdict : List ℕ → ℕ → Summary → ℕ → List ℕ → Answer Summary
verdict b u x t d = on_mark (opened b u) b x t d

-- by a mark: of the capture only its front is judged
abbrev pub on_front : Answer Layout → List ℕ → Mark → Summary → ℕ → List ℕ → Answer Summary
on_front (refused k) b m x t d = refused k
on_front (full l) b m x t d = on_event (read_event (width_of l) d) b m x t d

unfoldable pub verdict_at : List ℕ → Mark → Summary → ℕ → List ℕ → Answer Summary
verdict_at b m x t d = on_front (front_of b m.used) b m x t d

-- what a record that went in makes of mark and summary, and the buffer that an append leaves
abbrev pub handed : Answer Summary → ℕ → ℕ → List ℕ → Answer Kept
handed (refused k) u t d = refused k
handed (full x) u t d = full (record { mark = record { used = u + record_size d; last = Some t }; summary = x })

abbrev pub left_by : Answer Summary → List ℕ → ℕ → ℕ → List ℕ → List ℕ
left_by (refused k) b u t d = b
left_by (full x) b u t d = over (record_bytes t d) b u

-- the contract of an append by a mark, by what is judged of it: what it answers, and every byte of the buffer
pub record AppendsAt (v : Answer Summary) (b : List ℕ) (m : Mark) (t : ℕ) (d : List ℕ) (r : Result Kept Refusal) (b' : List ℕ) : Type 0 where
  pub says : said r ≡ handed v m.used t d
  pub leaves : b' ≡ left_by v b m.used t d

-- and of one by the letter
abbrev pub appended_to : Answer Summary → ℕ → List ℕ → Answer Appended
appended_to (refused k) u d = refused k
appended_to (full y) u d = full (record { used = u + record_size d; summary = y })

pub record Appends (v : Answer Summary) (b : List ℕ) (u : ℕ) (t : ℕ) (d : List ℕ) (r : Result Appended Refusal) (b' : List ℕ) : Type 0 where
  pub says : said r ≡ appended_to v u d
  pub leaves : b' ≡ left_by v b u t d

-- what stands after a call: what it answers, or, where it is refused, what stood before it
abbrev pub stands_after : {A : Type 0} → Answer A → A → A
stands_after (refused k) x = x
stands_after (full y) x = y

-- they leave no choice
pub empties_one : {a : Answer Kept} {b p q : List ℕ} {v : ℕ} {r s : Result Kept Refusal} → Empties a b v r p → Empties a b v s q → (r ≡ s) × (p ≡ q)
empties_one {r = r} {s = s} x y = (determined said said_one r s x.says y.says, x.leaves ∙ sym y.leaves)

pub appends_at_one : {v : Answer Summary} {b p q d : List ℕ} {m : Mark} {t : ℕ} {r s : Result Kept Refusal}
    → AppendsAt v b m t d r p → AppendsAt v b m t d s q → (r ≡ s) × (p ≡ q)
appends_at_one {r = r} {s = s} x y = (determined said said_one r s x.says y.says, x.leaves ∙ sym y.leaves)

pub appends_one : {v : Answer Summary} {b p q d : List ℕ} {u t : ℕ} {r s : Result Appended Refusal}
    → Appends v b u t d r p → Appends v b u t d s q → (r ≡ s) × (p ≡ q)
appends_one {r = r} {s = s} x y = (determined said said_one r s x.says y.says, x.leaves ∙ sym y.leaves)
