-- What is held between two parts: at most one record less a byte, and as many.
use Rattle.std.specs.Prelude.{ℕ, ◌+◌, ◌<◌, ◌≡◌, refl, Bool, true, false, List, [], ◌∷◌, ◌++◌, length, take, replicate, None}
use Rattle.std.proofs.Common.{sym, ap, ◌∙◌, arith}
use Rattle.refusal.specs.Test.{clash}
use Rattle.refusal.specs.Answer.{full, demand}
use Rattle.frame.specs.Frame.{sealed, sealed_sum}
use Rattle.stream.specs.Stream.{whole}
use Rattle.event.specs.declared.Layout.{Layout}
use Rattle.event.specs.declared.Layout.TheVariants.{Three, Two}
use Rattle.event.specs.Layout.{width_of}
use Rattle.event.specs.Reading.{read_event, event_in}
use Rattle.sum.specs.Sum.{sum_of}
use Rattle.record.specs.Record.{Entry, record_bytes, record_at}
use Rattle.record.specs.Again.{read_put}
use Rattle.event.specs.Fits.{accepts}
use Rattle.order.specs.Order.{number_by}
use Rattle.capture.specs.Capture.{is_version, layout_by}
use Rattle.season.specs.declared.Corridor.{Corridor}
use Rattle.season.specs.declared.Boundaries.{Boundaries}
use Rattle.passing.specs.Passing.{none_passed, more_passed}
use Rattle.by_parts.specs.declared.Stage.TheVariants.{Of}
use Rattle.by_parts.specs.declared.SoFar.{SoFar}
use Rattle.by_parts.specs.Parts.{longest_rest, is_settled, onward, begun, versioned, parted, parted_all}
use Rattle.by_parts.specs.Cut.{unsettled_few, unsettled_none}
use Rattle.by_parts.specs.Onward.{onward_none}
use Rattle.by_parts.specs.Whole.{left_of, holding_on, onward_told, onward_held, in_parts, parted_none, parted_first}

-- the most bytes of a record: its length in two, and what follows
abbrev pub longest_record : ℕ → ℕ
longest_record w = 2 + longest_rest w

-- AT MOST ONE RECORD LESS A BYTE
module _ (c : Corridor) (b : Boundaries) where
  few_on : (l k : Layout) (s : List ℕ) → (onward k c b none_passed s).stage ≡ Of l → (onward k c b none_passed s).held.len < longest_record (width_of l)
  few_on l k s = go (is_settled (width_of k) (left_of k none_passed s)) refl
    where
      go : (t : Bool) → is_settled (width_of k) (left_of k none_passed s) ≡ t → (onward k c b none_passed s).stage ≡ Of l
          → (onward k c b none_passed s).held.len < longest_record (width_of l)
      go true e = rw (onward_told k c b none_passed s e) (λ q. clash (cc))
      go false e =
          let f = unsettled_few (width_of k) (left_of k none_passed s) e in
          rw (onward_held k c b none_passed s e) (λ q. let z : k ≡ l = cc in rw (← z) (omega (arith, f)))

  few_whole : (l : Layout) (s : List ℕ) → (parted (begun c b) s).stage ≡ Of l → (parted (begun c b) s).held.len < longest_record (width_of l)
  few_whole l [] = rw (parted_none c b) (λ q. clash (cc))
  few_whole l (v ∷ s) = rw (parted_first c b v s) (go (is_version v))
    where
      go : (t : Bool) → (versioned (demand t 14 (full (layout_by v))) (begun c b) (v ∷ s)).stage ≡ Of l
          → (versioned (demand t 14 (full (layout_by v))) (begun c b) (v ∷ s)).held.len < longest_record (width_of l)
      go true = few_on l (layout_by v) s
      go false = λ q. clash (cc)

  pub held_few : (l : Layout) (ps : List (List ℕ)) → (parted_all (begun c b) ps).stage ≡ Of l → (parted_all (begun c b) ps).held.len < longest_record (width_of l)
  held_few l ps = rw (in_parts c b ps) (few_whole l (whole ps))

-- AND AS MANY: a record of the most bytes, of which the last is still to come
abbrev pub version_of : Layout → ℕ
version_of Three = 1
version_of Two = 2

-- a level change with 48 bytes of data
abbrev pub longest_head : ℕ → List ℕ
longest_head w = 90 ∷ 67 ∷ (replicate (6 + w) 0 ++ (3 ∷ 48 ∷ replicate 48 0))

abbrev pub longest_event : ℕ → List ℕ
longest_event w = sealed (longest_head w)

reads_longest : (l : Layout) → read_event (width_of l) (longest_event (width_of l)) ≡ full (event_in (width_of l) (longest_event (width_of l)))
reads_longest Three = sym (accepts 3 (longest_event 3) (event_in 3 (longest_event 3)) (omega arith) refl (omega arith) refl (sealed_sum (longest_head 3)) refl refl)
reads_longest Two = sym (accepts 2 (longest_event 2) (event_in 2 (longest_event 2)) (omega arith) refl (omega arith) refl (sealed_sum (longest_head 2)) refl refl)

-- its record, and that less its last byte
abbrev pub longest_entry : ℕ → Entry
longest_entry w = record { seconds = 0; datagram = longest_event w; event = event_in w (longest_event w) }

abbrev pub less_a_byte : ℕ → List ℕ
less_a_byte w = take (1 + longest_rest w) (record_bytes 0 (longest_event w))

stands_longest : (l : Layout) → record_at (width_of l) (less_a_byte (width_of l) ++ (sum_of (longest_head (width_of l)) ∷ [])) ≡ full (longest_entry (width_of l))
stands_longest Three = read_put 3 0 (longest_event 3) (event_in 3 (longest_event 3)) [] (omega arith) (omega arith) (reads_longest Three)
stands_longest Two = read_put 2 0 (longest_event 2) (event_in 2 (longest_event 2)) [] (omega arith) (omega arith) (reads_longest Two)

untold_longest : (l : Layout) → is_settled (width_of l) (less_a_byte (width_of l)) ≡ false
unfolding is_settled number_by
untold_longest Three = refl
untold_longest Two = refl

long_longest : (l : Layout) → length (less_a_byte (width_of l)) ≡ 1 + longest_rest (width_of l)
long_longest Three = refl
long_longest Two = refl

-- what a report holds behind the version byte and so many bytes
module _ (c : Corridor) (b : Boundaries) where
  holds_longest : (l : Layout) → onward l c b none_passed (less_a_byte (width_of l)) ≡ holding_on l c b (more_passed c b none_passed []) (less_a_byte (width_of l))
  holds_longest l =
      let s : List ℕ = less_a_byte (width_of l) in
      let e = untold_longest l in
      sym (onward_none l c b none_passed s (unsettled_none (width_of l) None s e)) ∙ rw e

  first_longest : (l : Layout) → parted_all (begun c b) ((version_of l ∷ less_a_byte (width_of l)) ∷ []) ≡ onward l c b none_passed (less_a_byte (width_of l))
  unfolding parted_all
  first_longest Three = parted_first c b 1 (less_a_byte 3)
  first_longest Two = parted_first c b 2 (less_a_byte 2)

  -- a record less a byte is held, where the byte makes it one
  pub held_most : (l : Layout) → (r : Entry) × (front : List ℕ) × (final : ℕ)
      × (record_at (width_of l) (front ++ (final ∷ [])) ≡ full r)
      × ((parted_all (begun c b) ((version_of l ∷ front) ∷ [])).stage ≡ Of l)
      × (1 + (parted_all (begun c b) ((version_of l ∷ front) ∷ [])).held.len ≡ longest_record (width_of l))
  held_most l =
      let e = first_longest l ∙ holds_longest l in (
        longest_entry (width_of l),
        less_a_byte (width_of l),
        sum_of (longest_head (width_of l)),
        stands_longest l,
        ap (λ (x : SoFar). x.stage) e,
        omega (arith, ap (λ (x : SoFar). x.held.len) e, long_longest l),
      )
