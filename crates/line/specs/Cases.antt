-- The rule of a line, case by case: what it says of the bytes at a position, and what is known of them where it does.
use Rattle.std.specs.Prelude.{ℕ, ◌≤◌, ◌<◌, ◌≡◌, Bool, List, take, leb, eqb}
use Rattle.std.proofs.Math.Path.{refl}
use Rattle.std.proofs.Common.{sym, ◌∙◌, leb-true, leb-false, le-leb}
use Rattle.std.proofs.Math.Bool.{true, false}
use Rattle.std.proofs.Math.ListN.{length}
use Rattle.refusal.specs.Test.{pick}
use Rattle.sum.specs.Sum.{sum_of}
use Rattle.frame.specs.Frame.{byte}
use Rattle.stream.specs.Stream.{Settling, More, Settled}
use Rattle.extent.specs.declared.Line.{Line}
use Rattle.extent.specs.declared.Extent.{Extent}
use Rattle.extent.specs.declared.Extent.TheVariants.{Wait, Bad, Frame}
use Rattle.extent.specs.Line.{is_lead, extent_of, in_table}
use Rattle.line.specs.Rule.{frame_item, extent_item, settle}

-- a byte of noise, and a lead
pub settle_noise : (on : Line) (s : List ℕ) → 1 ≤ length s → is_lead on (byte 0 s) ≡ false → settle on s ≡ Settled 2 1 1
unfolding settle
settle_noise on s h e = simp (le-leb 1 (length s) h, e)

pub settle_lead : (on : Line) (s : List ℕ) → 1 ≤ length s → is_lead on (byte 0 s) ≡ true → settle on s ≡ extent_item on (extent_of on s) s
unfolding settle
settle_lead on s h e = simp (le-leb 1 (length s) h, e)

-- a lead, by the length that the bytes tell
pub extent_step : (on : Line) (s : List ℕ) (x : Extent) (r : Settling) → 1 ≤ length s → is_lead on (byte 0 s) ≡ true → x ≡ extent_of on s
    → r ≡ extent_item on x s → r ≡ settle on s
extent_step on s x r h l e q = q ∙ rw e (sym (settle_lead on s h l))

-- a whole frame
abbrev pub judged : Line → ℕ → List ℕ → Settling
judged on n f = pick (eqb (sum_of f) 0) (pick (in_table on f) (Settled 0 n n) (Settled 7 n n)) (Settled 6 1 n)

pub framed_there : (on : Line) (n : ℕ) (s : List ℕ) → n ≤ length s → frame_item on n s ≡ judged on n (take n s)
framed_there on n s h = simp (le-leb n (length s) h)

-- the bytes begin with a lead, and tell x of the frame's length
pub record Leads (on : Line) (s : List ℕ) (x : Extent) : Type 0 where
  pub some : 1 ≤ length s
  pub lead : is_lead on (byte 0 s) ≡ true
  pub tells : extent_of on s ≡ x

pub data Shows (on : Line) (s : List ℕ) : Settling → Type 0 where
  none : length s < 1 → Shows on s More
  noise : 1 ≤ length s → is_lead on (byte 0 s) ≡ false → Shows on s (Settled 2 1 1)
  short : Leads on s Wait → Shows on s More
  odd : (k d : ℕ) → Leads on s (Bad k d) → Shows on s (Settled k 1 d)
  part : (n : ℕ) → Leads on s (Frame n) → length s < n → Shows on s More
  bad_sum : (n : ℕ) → Leads on s (Frame n) → n ≤ length s → eqb (sum_of (take n s)) 0 ≡ false → Shows on s (Settled 6 1 n)
  outside : (n : ℕ) → Leads on s (Frame n) → n ≤ length s → eqb (sum_of (take n s)) 0 ≡ true → in_table on (take n s) ≡ false
      → Shows on s (Settled 7 n n)
  good : (n : ℕ) → Leads on s (Frame n) → n ≤ length s → eqb (sum_of (take n s)) 0 ≡ true → in_table on (take n s) ≡ true
      → Shows on s (Settled 0 n n)

module _ (on : Line) (s : List ℕ) where
  whole : (n : ℕ) → Leads on s (Frame n) → n ≤ length s → Shows on s (judged on n (take n s))
  whole n f h = summed (eqb (sum_of (take n s)) 0) refl
    where
      ranged : (x : Bool) → in_table on (take n s) ≡ x → eqb (sum_of (take n s)) 0 ≡ true
          → Shows on s (pick x (Settled 0 n n) (Settled 7 n n))
      ranged true e q = good n f h q e
      ranged false e q = outside n f h q e

      summed : (x : Bool) → eqb (sum_of (take n s)) 0 ≡ x
          → Shows on s (pick x (pick (in_table on (take n s)) (Settled 0 n n) (Settled 7 n n)) (Settled 6 1 n))
      summed true q = ranged (in_table on (take n s)) refl q
      summed false q = bad_sum n f h q

  by_extent : (x : Extent) → Leads on s x → Shows on s (extent_item on x s)
  by_extent Wait f = short f
  by_extent (Bad k d) f = odd k d f
  by_extent (Frame n) f = go (leb n (length s)) refl
    where
      go : (x : Bool) → leb n (length s) ≡ x → Shows on s (pick x (judged on n (take n s)) More)
      go true e = whole n f (leb-true n (length s) e)
      go false e = part n f (leb-false n (length s) e)

  pub shows : Shows on s (settle on s)
  unfolding settle
  shows = go (leb 1 (length s)) refl
    where
      leads : (x : Bool) → is_lead on (byte 0 s) ≡ x → 1 ≤ length s → Shows on s (pick x (extent_item on (extent_of on s) s) (Settled 2 1 1))
      leads true e h = by_extent (extent_of on s) (record { some = h; lead = e; tells = refl })
      leads false e h = noise h e

      go : (x : Bool) → leb 1 (length s) ≡ x
          → Shows on s (pick x (pick (is_lead on (byte 0 s)) (extent_item on (extent_of on s) s) (Settled 2 1 1)) More)
      go true e = leads (is_lead on (byte 0 s)) refl (leb-true 1 (length s) e)
      go false e = none (leb-false 1 (length s) e)
