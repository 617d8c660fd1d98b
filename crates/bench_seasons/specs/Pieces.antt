-- The answers by value, as the code has them, and that they say the texts of docs/BENCH.md.
use Rattle.std.specs.Prelude.{ℕ, ◌≡◌, refl, List, [], ◌∷◌, ◌++◌, Option, Some, None}
use Rattle.std.proofs.Common.{ap, ◌∙◌}
use Rattle.words.specs.Words.{before, word_in, text}
use Rattle.text.specs.Text.{decimal_of}
use Rattle.bench_say.specs.Pieces.{pieces_texts, three}
use Rattle.bench_say.specs.declared.Pieces.{Pieces}
use Rattle.bench_seasons.specs.Told.{longest_texts}

abbrev pub names : List ℕ
names = text " season , occupied , presses , holds , longest , longest absent, total , gaps "

abbrev pub held_pieces : ℕ → Option ℕ → ℕ → Pieces
held_pieces h None t = three 0x32 h 0x51 0 0x62 t
held_pieces h (Some g) t = three 0x32 h 0x42 g 0x62 t

pub counts_said : (n o p : ℕ) → pieces_texts names (three 0x02 n 0x12 o 0x22 p)
    ≡ text " season " ∷ decimal_of n ∷ text " occupied " ∷ decimal_of o ∷ text " presses " ∷ decimal_of p ∷ []
unfolding before word_in
counts_said n o p = refl

held_said : (h : ℕ) (l : Option ℕ) (t : ℕ) → pieces_texts names (held_pieces h l t)
    ≡ text " holds " ∷ decimal_of h ∷ (longest_texts l ++ (text " total " ∷ decimal_of t ∷ []))
unfolding before word_in
held_said h None t = refl
held_said h (Some g) t = refl

pub held_of : (h : ℕ) (l : Option ℕ) (t : ℕ) {p : Pieces} → p ≡ held_pieces h l t
    → pieces_texts names p ≡ text " holds " ∷ decimal_of h ∷ (longest_texts l ++ (text " total " ∷ decimal_of t ∷ []))
held_of h l t e = ap (pieces_texts names) e ∙ held_said h l t

pub gaps_said : (n : ℕ) → pieces_texts names (three 0x72 n 0 0 0 0) ≡ text " gaps " ∷ decimal_of n ∷ []
unfolding before word_in
gaps_said n = refl
