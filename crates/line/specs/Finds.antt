-- What a line's reading finds: a good frame after noise, and a good frame inside a damaged one.
use Rattle.std.specs.Prelude.{ℕ, ◌≡◌, refl, Bool, true, false, ◌||◌, List, [], ◌∷◌, ◌++◌, length, take, drop}
use Rattle.std.proofs.Common.{sym, ap, ◌∙◌, append-nil, arith}
use Rattle.std.proofs.Math.Seq.{take-length, drop-length}
use Rattle.refusal.specs.Test.{clash}
use Rattle.stream.specs.Stream.{Settling, Settled}
use Rattle.stream.specs.Stream.{Item, reading, item_number, item_size, items}
use Rattle.stream.specs.Items.{behind, items_none, items_settled, items_front}
use Rattle.extent.specs.declared.Line.{Line}
use Rattle.extent.specs.Line.{is_lead}
use Rattle.line.specs.Rule.{settle}
use Rattle.line.specs.Cases.{settle_noise, Shows, none, noise, short, odd, part, bad_sum, outside, good, shows}
use Rattle.line.specs.Laws.{lawful}

-- a run holds a lead of the line
abbrev pub has_lead : Line → List ℕ → Bool
has_lead on [] = false
has_lead on (b ∷ q) = is_lead on b || has_lead on q

-- each byte of noise is item 2
abbrev pub noise_items : List ℕ → List Item
noise_items [] = []
noise_items (b ∷ q) = reading 2 (b ∷ []) ∷ noise_items q

-- f is one whole frame with a right sum and its arguments in the table
abbrev pub Accepted : Line → List ℕ → Type 0
Accepted on f = settle on f ≡ Settled 0 (length f) (length f)

either_false : (a b : Bool) → a || b ≡ false → (a ≡ false) × (b ≡ false)
either_false true b e = clash (cc)
either_false false b e = (refl, e)

-- item 6 has one byte
one_byte : (on : Line) (s : List ℕ) {x : Settling} → Shows on s x → {m : ℕ} → item_number x ≡ 6 → item_size x ≡ m → m ≡ 1
one_byte on s (none h) n e = sym e
one_byte on s (noise h l) n e = sym e
one_byte on s (short f) n e = sym e
one_byte on s (odd k d f) n e = sym e
one_byte on s (part k f h) n e = sym e
one_byte on s (bad_sum k f h q) n e = sym e
one_byte on s (outside k f h q l) n e = absurd (omega arith)
one_byte on s (good k f h q l) n e = absurd (omega arith)

module _ (on : Line) where
  pub noise_items_lem : (q t : List ℕ) → has_lead on q ≡ false → items (settle on) (q ++ t) ≡ noise_items q ++ items (settle on) t
  noise_items_lem [] t h = refl
  noise_items_lem (b ∷ q) t h =
      let w : (is_lead on b ≡ false) × (has_lead on q ≡ false) = either_false (is_lead on b) (has_lead on q) h in
      items_settled (settle on) (lawful on) (b ∷ (q ++ t)) 2 1 1 (settle_noise on (b ∷ (q ++ t)) (omega arith) w.0)
      ∙ behind (noise_items_lem q t w.1)

  pub frame_items : (f t : List ℕ) → Accepted on f → items (settle on) (f ++ t) ≡ reading 0 f ∷ items (settle on) t
  frame_items f t e = items_front (settle on) (lawful on) f t 0 (length f) (length f) e ∙ rw (take-length f, drop-length f)

  -- an accepted frame alone is one item 0
  pub frame_alone : (f : List ℕ) → Accepted on f → items (settle on) f ≡ reading 0 f ∷ []
  frame_alone f e = ap (items (settle on)) (sym (append-nil f)) ∙ frame_items f [] e ∙ rw (items_none (settle on) (lawful on))

  -- after noise that contains no lead of the line, the last item is the frame
  pub frame_after_noise : (q f : List ℕ) → has_lead on q ≡ false → Accepted on f
      → items (settle on) (q ++ f) ≡ noise_items q ++ (reading 0 f ∷ [])
  frame_after_noise q f h e = noise_items_lem q f h ∙ ap (λ (l : List Item). noise_items q ++ l) (frame_alone f e)

  -- "After a bad sum, throwing away as many bytes as the damaged length claims. A good frame inside is lost." One byte is passed
  -- over, and no more
  pub slip : (s : List ℕ) (m d : ℕ) → settle on s ≡ Settled 6 m d
      → items (settle on) s ≡ reading 6 (take 1 s) ∷ items (settle on) (drop 1 s)
  slip s m d e =
      let q : m ≡ 1 = one_byte on s (shows on s) (ap item_number e) (ap item_size e) in
      items_settled (settle on) (lawful on) s 6 m d e ∙ rw q

  -- so a good frame inside the damaged one is found, where no lead of the line stands before it
  pub frame_inside : (b : ℕ) (q f t : List ℕ) (m d : ℕ) → settle on (b ∷ (q ++ (f ++ t))) ≡ Settled 6 m d → has_lead on q ≡ false
      → Accepted on f
      → items (settle on) (b ∷ (q ++ (f ++ t))) ≡ reading 6 (b ∷ []) ∷ (noise_items q ++ (reading 0 f ∷ items (settle on) t))
  frame_inside b q f t m d e h a =
      slip (b ∷ (q ++ (f ++ t))) m d e
      ∙ behind (noise_items_lem q (f ++ t) h ∙ ap (λ (l : List Item). noise_items q ++ l) (frame_items f t a))
