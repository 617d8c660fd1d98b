-- The answers by value, as the code has them, and that they say the texts of docs/BENCH.md.
use Rattle.std.specs.Prelude.{ℕ, ◌≡◌, refl, List, [], ◌∷◌, ◌++◌, replicate, eqb, ltb, Option, Some, None}
use Rattle.std.proofs.Common.{ap, ◌∙◌}
use Rattle.refusal.specs.Test.{pick}
use Rattle.words.specs.Words.{before, word_in, text}
use Rattle.bench_words.specs.Words.{part_of}
use Rattle.text.specs.Text.{decimal_of}
use Rattle.bench_say.specs.Said.{run_of}
use Rattle.bench_say.specs.Pieces.{pieces_texts, three}
use Rattle.bench_say.specs.declared.Pieces.{Pieces}
use Rattle.reader.specs.declared.Held.{Held}
use Rattle.reader.specs.declared.Item.{Item}
use Rattle.reader.specs.declared.Given.{Given}
use Rattle.line.specs.declared.Item.{Item as Standing}
use Rattle.stream.specs.declared.Step.{Step}
use Rattle.bench_lines.specs.Lines.{done_texts, got_texts, fed_texts, closed_texts, held_texts, step_texts, item_texts}
use Rattle.bench_lines.specs.declared.Shown.{Shown}

abbrev pub names : List ℕ
names = text "0,0 taken , nothing, empty, item , count ,0 held ,0 more,0 item , by ,0 nothing"

-- the texts of an answer: its pieces, and where it has any, its bytes
abbrev pub bytes_texts : ℕ → List ℕ → List ℕ → ℕ → List (List ℕ)
bytes_texts run bytes held count =
    pick (eqb run 0) []
    (pick (eqb run 1) (text " bytes" ∷ run_of (part_of bytes 0 count))
    (text " bytes" ∷ run_of (part_of held 0 count)))

abbrev pub shown_texts : Shown → Held → List (List ℕ)
shown_texts x h = pieces_texts names x.pieces ++ bytes_texts x.run x.bytes h.bytes x.count

-- whatever a reader holds, an answer has these texts
pub record Says (x : Shown) (ts : List (List ℕ)) : Type 0 where
  pub texts : (h : Held) → shown_texts x h ≡ ts

abbrev pub plain_shown : Pieces → Shown
plain_shown p = record { pieces = p; bytes = replicate 68 0; count = 0; run = 0 }

-- where there is no item, the count and the bytes of the one handed here stand, and none of them is put
abbrev pub got_shown : ℕ → ℕ → Option Item → Item → ℕ → Shown
got_shown a x None z none = record { pieces = three a x none 0 0 0; bytes = z.bytes; count = z.count; run = 0 }
got_shown a x (Some i) z none = record { pieces = three a x 0x42 i.number 0x52 i.count; bytes = i.bytes; count = i.count; run = 1 }

abbrev pub given_shown : ℕ → ℕ → Given → Item → ℕ → Shown
given_shown a x f z none = got_shown a x f.item z none

abbrev pub fed_shown : Given → Item → Shown
fed_shown f z = given_shown 0x12 f.taken f z 0x21

abbrev pub closed_shown : Given → Item → Shown
closed_shown f z = given_shown 0x01 0 f z 0x31

abbrev pub held_shown : Held → Shown
held_shown h = record { pieces = three 0x62 h.len 0 0 0 0; bytes = replicate 68 0; count = pick (ltb h.len 67) h.len 67; run = 2 }

abbrev pub step_shown : Option Step → Shown
step_shown None = plain_shown (three 0x71 0 0 0 0 0)
step_shown (Some x) = plain_shown (three 0x82 x.number 0x52 x.size 0x92 x.settled)

abbrev pub item_shown : Option Standing → Shown
item_shown None = plain_shown (three 0xA1 0 0 0 0 0)
item_shown (Some x) = plain_shown (three 0x82 x.number 0x52 x.size 0 0)

pub done_said : (h : Held) → shown_texts (plain_shown (three 0x01 0 0 0 0 0)) h ≡ done_texts
unfolding before word_in
done_said h = refl

pub fed_said_lem : (f : Given) (z : Item) (h : Held) → shown_texts (fed_shown f z) h ≡ fed_texts f
unfolding before word_in
fed_said_lem f z h = go f.item
  where
    go : (g : Option Item) → shown_texts (got_shown 0x12 f.taken g z 0x21) h ≡ text "0 taken " ∷ decimal_of f.taken ∷ got_texts (text " nothing") g
    go None = refl
    go (Some i) = refl

pub closed_said_lem : (f : Given) (z : Item) (h : Held) → shown_texts (closed_shown f z) h ≡ closed_texts f
unfolding before word_in
closed_said_lem f z h = go f.item
  where
    go : (g : Option Item) → shown_texts (got_shown 0x01 0 g z 0x31) h ≡ text "0" ∷ got_texts (text " empty") g
    go None = refl
    go (Some i) = refl

pub held_said : (h : Held) → shown_texts (held_shown h) h ≡ held_texts h
unfolding before word_in
held_said h = refl

pub step_said : (s : Option Step) (h : Held) → shown_texts (step_shown s) h ≡ step_texts s
unfolding before word_in
step_said None h = refl
step_said (Some x) h = refl

pub item_said : (a : Option Standing) (h : Held) → shown_texts (item_shown a) h ≡ item_texts a
unfolding before word_in
item_said None h = refl
item_said (Some x) h = refl

pub held_shown_lem : (h : Held) {x : Shown} → x ≡ held_shown h → (x ≡ held_shown h) × (shown_texts x h ≡ held_texts h)
held_shown_lem h {x} e = (e, ap (λ (z : Shown). shown_texts z h) e ∙ held_said h)

-- what a function answers that has one of these
pub shown_of : {x y : Shown} {ts : List (List ℕ)} → x ≡ y → ((h : Held) → shown_texts y h ≡ ts) → Says x ts
shown_of {x} {y} {ts} e t = record { texts = λ h. ap (λ (z : Shown). shown_texts z h) e ∙ t h }
