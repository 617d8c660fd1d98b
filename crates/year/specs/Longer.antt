-- A whole capture made longer by an append: the earlier bytes and records stay, the record that went in is read back where it was put, and
-- where its write was torn, nothing else is lost.
use Rattle.std.specs.Prelude.{None, ℕ, ◌+◌, ◌≤◌, ◌<◌, ◌≡◌, refl, Bool, true, false, List, [], ◌∷◌, ◌++◌, length, take, drop, leb, ltb}
use Rattle.std.proofs.Common.{sym, ap, ◌∙◌, append_assoc, append-nil, length-append, take_at, length-take-le, leb-true, ltb-true, ltb-false, arith}
use Rattle.refusal.specs.Test.{clash}
use Rattle.refusal.specs.Answer.{Answer, refused, full, demand_elim, full_one}
use Rattle.sum.specs.Bytes.{Bytes, bytes_append, bytes_take, bytes_drop}
use Rattle.order.specs.Big.{big_bytes}
use Rattle.order.specs.Numbers.{big_are_bytes}
use Rattle.lent.specs.Puts.{over}
use Rattle.lent.specs.Over.{over_length}
use Rattle.frame.specs.Frame.{byte}
use Rattle.event_type.specs.Types.{kind_number}
use Rattle.event.specs.Fits.{width_two_or_three, read_fits}
use Rattle.event.specs.Reading.{Told, read_event}
use Rattle.record.specs.Record.{Entry, record_bytes, record_size}
use Rattle.record.specs.Found.{record_length}
use Rattle.summary.specs.declared.Summary.{Summary}
use Rattle.summary.specs.Summary.{last_from, not_before, counted_in, most, type_of, one_more}
use Rattle.summary.specs.OneMore.{one_more_lem, no_more}
use Rattle.capture.specs.declared.Mark.{Mark}
use Rattle.capture.specs.Capture.{layout_by, is_version, behind, start, opened, counted, prefixed, entry_at}
use Rattle.year.specs.Good.{bytes_of, bytes_of_append, Fits, good_append}
use Rattle.year.specs.Whole.{width_in, records_of, Whole, whole_used, whole_records, whole_entry, whole_counted, opened_whole, counted_whole}
use Rattle.year.specs.Torn.{torn_last}
use Rattle.append.specs.Append.{room_for, on_event, on_mark, verdict}

-- the record that an append puts
abbrev pub entry : ℕ → List ℕ → Told → Entry
entry t d e = record { seconds = t; datagram = d; event = e }

-- a record put over the bytes behind a whole capture: the bytes in use stay, and so does the version
module _ {b : List ℕ} {u : ℕ} {rs : List Entry} (r : Entry) (c : Whole b u rs) where
  bytes_stay : take u (over (record_bytes r.seconds r.datagram) b u) ≡ take u b
  bytes_stay =
      let x : List ℕ = record_bytes r.seconds r.datagram in
      ap (take u) (append_assoc (take u b) x (drop (u + length x) b))
      ∙ take_at (take u b) (x ++ drop (u + length x) b) u (length-take-le u b c.there)

  version_stays : byte 0 (over (record_bytes r.seconds r.datagram) b u) ≡ byte 0 b
  version_stays =
      let x : List ℕ = record_bytes r.seconds r.datagram in
      ap (λ (l : List ℕ). byte 0 (l ++ x ++ drop (u + length x) b)) c.bytes

  -- and it is a whole capture with that record more
  pub whole_longer : u + record_size r.datagram ≤ length b → Fits (width_in b) (last_from None rs) r
      → Whole (over (record_bytes r.seconds r.datagram) b u) (u + record_size r.datagram) (rs ++ (r ∷ []))
  whole_longer room f =
      let x : List ℕ = record_bytes r.seconds r.datagram in
      let k : ℕ = record_size r.datagram in
      let n : length x ≡ k = record_length r.seconds r.datagram in
      let v = version_stays in
      let l : length (take u b ++ x) ≡ u + k = length-append (take u b) x ∙ omega (arith, length-take-le u b c.there) in
      record {
        known = ap is_version v ∙ c.known;
        there = omega (arith, over_length x b u (omega arith));
        bytes =
            take_at (take u b ++ x) (drop (u + length x) b) (u + k) l
            ∙ ap (λ (l : List ℕ). l ++ x) c.bytes
            ∙ ap (λ (l : List ℕ). byte 0 b ∷ bytes_of rs ++ l) (sym (append-nil x))
            ∙ ap (λ (l : List ℕ). byte 0 b ∷ l) (sym (bytes_of_append rs (r ∷ [])))
            ∙ ap (λ (w : ℕ). w ∷ bytes_of (rs ++ (r ∷ []))) (sym v);
        good = rw v (good_append (width_in b) None rs (r ∷ []) c.good (f, tt));
      }

-- WHAT AN APPEND THAT GOES IN HAS: the capture opens, its datagram is an event, which is not before the last record, and there is room
pub record Enters (b : List ℕ) (u : ℕ) (x : Summary) (t : ℕ) (d : List ℕ) (y : Summary) : Type 0 where
  pub mark : Mark
  pub event : Told
  pub opens : opened b u ≡ full mark
  pub reads : read_event (width_in b) d ≡ full event
  pub later : not_before mark.last t ≡ true
  pub room : mark.used + record_size d ≤ length b
  pub counts : one_more x t (kind_number event.kind) ≡ full y

pub enters : (b : List ℕ) (u : ℕ) (x : Summary) (t : ℕ) (d : List ℕ) {y : Summary} → verdict b u x t d ≡ full y → Enters b u x t d y
unfolding verdict room_for
enters b u x t d {y} h = on_opened (opened b u) refl h
  where
    on_read : (m : Mark) → opened b u ≡ full m → (a : Answer Told) → read_event (width_in b) d ≡ a → on_event a b m x t d ≡ full y → Enters b u x t d y
    on_read m o (refused k) q h = clash (cc)
    on_read m o (full e) q h =
        demand_elim (not_before m.last t) 16
        (λ l. demand_elim (leb (m.used + (6 + length d)) (length b)) 8
        (λ k c. record {
          mark = m;
          event = e;
          opens = o;
          reads = q;
          later = l;
          room = leb-true (m.used + (6 + length d)) (length b) k;
          counts = c;
        }))
        h

    on_opened : (a : Answer Mark) → opened b u ≡ a → on_mark a b x t d ≡ full y → Enters b u x t d y
    on_opened (refused k) q h = clash (cc)
    on_opened (full m) q h = on_read m q (read_event (width_in b) d) refl h

-- AN APPEND THAT WENT IN, to a buffer of bytes, at seconds of 32 bits, of a datagram that says an event
module _ (b : List ℕ) (u : ℕ) (x : Summary) (t : ℕ) (d : List ℕ) {y : Summary} {e : Told} (bytes : Bytes b) (short : t < 4294967296)
    (went : verdict b u x t d ≡ full y) (said : read_event (width_in b) d ≡ full e) where
  old_whole : Whole b u (records_of b u) × ((enters b u x t d went).mark ≡ behind start (records_of b u))
  old_whole = opened_whole b u bytes (enters b u x t d went).opens

  room_there : u + record_size d ≤ length b
  room_there = omega (arith, (enters b u x t d went).room, ap (λ (m : Mark). m.used) old_whole.1, whole_used old_whole.0)

  record_fits : Fits (width_in b) (last_from None (records_of b u)) (entry t d e)
  record_fits =
      let f = read_fits (width_in b) d e said in
      record {
        short = short;
        room = omega (arith, f.0, f.1, (width_two_or_three (layout_by (byte 0 b))).1);
        reads = said;
        later = ap (λ (m : Mark). not_before m.last t) (sym old_whole.1) ∙ (enters b u x t d went).later;
      }

  -- it leaves a whole capture, of the old records and this one
  pub new_whole : Whole (over (record_bytes t d) b u) (u + record_size d) (records_of b u ++ (entry t d e ∷ []))
  new_whole = whole_longer (entry t d e) old_whole.0 room_there record_fits

  -- "Earlier records never change": the first bytes in use are the same bytes, and so is the version
  pub earlier_stay : take u (over (record_bytes t d) b u) ≡ take u b
  earlier_stay = bytes_stay (entry t d e) old_whole.0

  pub same_version : byte 0 (over (record_bytes t d) b u) ≡ byte 0 b
  same_version = version_stays (entry t d e) old_whole.0

  -- the records are the old ones, and one more
  pub one_record_more : records_of (over (record_bytes t d) b u) (u + record_size d) ≡ records_of b u ++ (entry t d e ∷ [])
  one_record_more = whole_records new_whole

  -- which is read back at the place where it was put
  pub read_back : entry_at (over (record_bytes t d) b u) (u + record_size d) u ≡ full (entry t d e)
  read_back =
      ap (entry_at (over (record_bytes t d) b u) (u + record_size d)) (whole_used old_whole.0)
      ∙ whole_entry new_whole (records_of b u) [] (entry t d e) refl

  -- and where the summary was the one counted afresh, it is again
  pub counted_again : counted b u ≡ full x → counted (over (record_bytes t d) b u) (u + record_size d) ≡ full y
  counted_again c = go (ltb (length (records_of b u)) most) refl
    where
      rs : List Entry
      rs = records_of b u

      same : (enters b u x t d went).event ≡ e
      same = full_one (sym (enters b u x t d went).reads ∙ said)

      more : one_more (counted_in rs) t (type_of (entry t d e)) ≡ full y
      more =
          ap (λ (x : Summary). one_more x t (type_of (entry t d e))) (sym (counted_whole b u bytes c).2)
          ∙ ap (λ (e : Told). one_more x t (kind_number e.kind)) (sym same) ∙ (enters b u x t d went).counts

      go : (a : Bool) → ltb (length rs) most ≡ a → counted (over (record_bytes t d) b u) (u + record_size d) ≡ full y
      go false h = clash (cc (more, no_more rs (entry t d e) (ltb-false (length rs) most h)))
      go true h =
          let few = ltb-true (length rs) most h in
          whole_counted new_whole (omega (arith, length-append rs (entry t d e ∷ []))) ∙ sym (one_more_lem rs (entry t d e) few) ∙ more

  -- A WRITE TORN inside the record, so that n bytes are there: what is found is the capture before it, with its mark and its summary
  pub torn_append : (n : ℕ) {m : Mark} → opened b u ≡ full m → counted b u ≡ full x → u ≤ n → n < u + record_size d
      → prefixed (over (record_bytes t d) b u) n ≡ full (record { mark = m; summary = x })
  torn_append n o c h k =
      let f = opened_whole b u bytes o in
      let g = counted_whole b u bytes c in
      torn_last n (records_of b u) (entry t d e) new_whole g.1 (omega (arith, whole_used f.0)) k
      ∙ ap full (λ i. record { mark = sym f.1 i; summary = sym g.2 i })

-- a buffer of bytes stays one
pub record_are_bytes : (t : ℕ) (d : List ℕ) → Bytes d → Bytes (record_bytes t d)
record_are_bytes t d h =
    bytes_append (big_bytes 2 (4 + length d) ++ big_bytes 4 t)
    (bytes_append (big_bytes 2 (4 + length d)) (big_are_bytes 2 (4 + length d)) (big_are_bytes 4 t)) h

pub over_bytes : (s b : List ℕ) (u : ℕ) → Bytes s → Bytes b → Bytes (over s b u)
over_bytes s b u h k = bytes_append (take u b ++ s) (bytes_append (take u b) (bytes_take u b k) h) (bytes_drop (u + length s) b k)
