-- The rule of a line is lawful: what it settles stays settled, it is settled by the fewest bytes that can, and one that waits has
-- no more bytes than the line's reader holds.
use Rattle.std.specs.Prelude.{ℕ, suc, ◌≤◌, ◌<◌, ◌≡◌, refl, List, ◌∷◌, length, take, replicate}
use Rattle.std.proofs.Common.{sym, ap, ◌∙◌, arith}
use Rattle.lead.specs.Lead.{reply_data}
use Rattle.command.specs.Command.{shape_of}
use Rattle.command.specs.Colours.{widths_of, data_bytes}
use Rattle.stream.specs.Stream.{Settling, More, Settled}
use Rattle.stream.specs.Lawful.{Lawful, by_most, in_window as stream·in-window}
use Rattle.stream.specs.Begins.{Begins, begins_at_lem, Settles, waits, item, lawful_by, waits_by}
use Rattle.extent.specs.declared.Line.{Line}
use Rattle.extent.specs.declared.Line.TheVariants.{Request, Reply}
use Rattle.extent.specs.declared.Extent.{Extent}
use Rattle.extent.specs.declared.Extent.TheVariants.{Wait, Bad, Frame}
use Rattle.extent.specs.Line.{is_lead, extent_of, cap_of, least_of}
use Rattle.line.specs.Rule.{extent_item, settle}
use Rattle.line.specs.Extents.{Tells, waits as tells·waits, bad, frame, extent_tells}
use Rattle.line.specs.Cases.{settle_noise, settle_lead, judged, framed_there, Leads}
use Rattle.line.specs.Cases.{Shows, none, noise, short, odd, part, bad_sum, outside, good, shows}

least_some : (on : Line) → 1 ≤ least_of on
least_some Request = omega arith
least_some Reply = omega arith

module _ (on : Line) (s : List ℕ) where
  -- how an extent was told
  pub leads_tells : {x : Extent} → Leads on s x → Tells on s x
  leads_tells f = rw f.tells at (extent_tells on s)

  -- a run that begins as s does has its lead, and its frame
  led : {x : Extent} (n : ℕ) (t : List ℕ) → Leads on s x → 1 ≤ n → Begins n s t → settle on t ≡ extent_item on (extent_of on t) t
  led n t f h b = settle_lead on t (omega (arith, b.there)) (ap (is_lead on) (sym (begins_at_lem b 0 h)) ∙ f.lead)

  pub frame_fits : {n : ℕ} → Tells on s (Frame n) → (1 ≤ n) × ((length s < n) → length s ≤ cap_of on)
  frame_fits (frame n h l f) = (omega (arith, least_some on), λ w. omega arith)

  frame_same : (n : ℕ) (t : List ℕ) → Leads on s (Frame n) → Begins n s t → settle on t ≡ judged on n (take n s)
  frame_same n t f b = go (leads_tells f)
    where
      go : Tells on s (Frame n) → settle on t ≡ judged on n (take n s)
      go (frame n h l g) = led n t f (omega (arith, least_some on)) b ∙ rw (g t b, b.same) (framed_there on n t b.there)

  settles : {x : Settling} → Shows on s x → Settles (settle on) (cap_of on) s x
  settles (none h) = waits (omega arith)
  settles (noise h e) =
      item 2 1 1 (omega arith) (omega arith) h
      (λ t b. settle_noise on t b.there (ap (is_lead on) (sym (begins_at_lem b 0 (omega arith))) ∙ e))
  settles (short f) = go (leads_tells f)
    where
      go : Tells on s Wait → Settles (settle on) (cap_of on) s More
      go (tells·waits l) = waits l
  settles (odd k d f) = go (leads_tells f)
    where
      go : Tells on s (Bad k d) → Settles (settle on) (cap_of on) s (Settled k 1 d)
      go (bad k d o h l g) = item k 1 d (omega arith) h l (λ t b. led d t f h b ∙ rw (g t b))
  settles (part n f h) = waits ((frame_fits (leads_tells f)).1 h)
  settles (bad_sum n f h q) = let l = (frame_fits (leads_tells f)).0 in item 6 1 n (omega arith) l h (λ t b. frame_same n t f b ∙ rw q)
  settles (outside n f h q e) =
      let l = (frame_fits (leads_tells f)).0 in
      item 7 n n l (omega arith) h (λ t b. frame_same n t f b ∙ rw (q, e))
  settles (good n f h q e) = let l = (frame_fits (leads_tells f)).0 in item 0 n n l (omega arith) h (λ t b. frame_same n t f b ∙ rw (q, e))

pub lawful : (on : Line) → Lawful (settle on)
lawful on = lawful_by (settle on) (cap_of on) (λ s. settles on s (shows on s))

-- "A reader holds at most 67 bytes of a reply line and 10 of a request line", and 12 of it since W-202.
pub waits_few : (on : Line) (s : List ℕ) → settle on s ≡ More → length s ≤ cap_of on
waits_few on = waits_by (settle on) (cap_of on) (λ s. settles on s (shows on s))

-- so one byte more settles an item
pub by_few : (on : Line) (s : List ℕ) (k m d : ℕ) → settle on s ≡ Settled k m d → d ≤ suc (cap_of on)
by_few on = by_most (settle on) (lawful on) (cap_of on) (waits_few on)

pub in_window : (on : Line) (s : List ℕ) → settle on (take (suc (cap_of on)) s) ≡ settle on s
in_window on = stream·in-window (settle on) (lawful on) (suc (cap_of on)) (λ s e. omega (arith, waits_few on s e))

-- and so many it may have to hold
abbrev pub fullest : Line → List ℕ
fullest Request = 0x04 ∷ 0 ∷ 0x0E ∷ 0 ∷ 0 ∷ 0x80 ∷ replicate 6 0
fullest Reply = 0xA0 ∷ 0 ∷ reply_data ∷ replicate reply_data 0

-- 12 and 67
pub most_held : (cap_of Request ≡ 12) × (cap_of Reply ≡ 67)
most_held = (refl, refl)

pub waits_most : (on : Line) → (length (fullest on) ≡ cap_of on) × (settle on (fullest on) ≡ More)
unfolding settle shape_of data_bytes widths_of
waits_most Request = (refl, refl)
waits_most Reply = (refl, refl)
