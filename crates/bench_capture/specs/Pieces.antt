-- The answers by value, as the code has them, and that they say the texts of docs/BENCH.md; and counts one by one.
use Rattle.std.specs.Prelude.{ℕ, Option, Some, None, suc, ◌+◌, ◌-◌, ◌*◌, ◌≤◌, ◌<◌, ◌≡◌, refl, List, [], ◌∷◌, ◌++◌, length, get_or, take, set}
use Rattle.std.proofs.Common.{sym, ap, ◌∙◌, take-suc-set, add-one, arith}
use Rattle.std.proofs.Math.Seq.{take-length}
use Rattle.words.specs.Words.{before, word_in, text}
use Rattle.text.specs.Text.{decimal_of}
use Rattle.bench_say.specs.Pieces.{pieces_texts, three}
use Rattle.bench_say.specs.declared.Pieces.{Pieces}
use Rattle.capture.specs.declared.Mark.{Mark}
use Rattle.bench_capture.specs.Carried.{number_at, counts_at}
use Rattle.bench_capture.specs.Told.{first_texts, last_texts, numbers_texts, mark_texts, head_texts}
use Rattle.refusal.specs.Refusals.{number_of}
use Rattle.bench_capture.specs.declared.Head.{Head}
use Rattle.bench_capture.specs.declared.Head.TheVariants.{Done, Used, Ran, Open, At as head·At, Refused}

abbrev pub names : List ℕ
names = text "0,0 used , last , last absent,0 seconds , mark , next , records , first , first absent,0 in , refused , used "

abbrev pub mark_pieces : ℕ → ℕ → Option ℕ → Pieces
mark_pieces a n None = three a n 0x31 0 0 0
mark_pieces a n (Some t) = three a n 0x22 t 0 0

abbrev pub summary_pieces : ℕ → Option ℕ → Option ℕ → Pieces
summary_pieces n None None = three 0x72 n 0x91 0 0x31 0
summary_pieces n None (Some u) = three 0x72 n 0x91 0 0x22 u
summary_pieces n (Some t) None = three 0x72 n 0x82 t 0x31 0
summary_pieces n (Some t) (Some u) = three 0x72 n 0x82 t 0x22 u

abbrev pub head_pieces : Head → Pieces
head_pieces Done = three 0x01 0 0 0 0 0
head_pieces (Used n) = three 0x12 n 0 0 0 0
head_pieces (Ran n k u) = three 0xA2 n 0xB2 k 0xC2 u
head_pieces (Open m) = mark_pieces 0x12 m.used m.last
head_pieces (head·At t) = three 0x42 t 0 0 0 0
head_pieces (Refused k) = three 4 (number_of k) 0 0 0 0

-- a mark behind either name
opened_said : (n : ℕ) (l : Option ℕ) → pieces_texts names (mark_pieces 0x12 n l) ≡ text "0 used " ∷ decimal_of n ∷ last_texts l
unfolding before word_in
opened_said n None = refl
opened_said n (Some t) = refl

mark_said : (n : ℕ) (l : Option ℕ) → pieces_texts names (mark_pieces 0x52 n l) ≡ text " mark " ∷ decimal_of n ∷ last_texts l
unfolding before word_in
mark_said n None = refl
mark_said n (Some t) = refl

pub mark_of : (m : Mark) {p : Pieces} → p ≡ mark_pieces 0x52 m.used m.last → pieces_texts names p ≡ mark_texts (text " mark ") m
mark_of m {p} e = ap (pieces_texts names) e ∙ mark_said m.used m.last

pub next_said : (n : ℕ) → pieces_texts names (three 0x62 n 0 0 0 0) ≡ text " next " ∷ decimal_of n ∷ []
unfolding before word_in
next_said n = refl

head_said : (h : Head) → pieces_texts names (head_pieces h) ≡ head_texts h
unfolding before word_in
head_said Done = refl
head_said (Used n) = refl
head_said (Ran n k u) = refl
head_said (Open m) = opened_said m.used m.last
head_said (head·At t) = refl
head_said (Refused k) = refl

pub head_of : (h : Head) {p : Pieces} → p ≡ head_pieces h → pieces_texts names p ≡ head_texts h
head_of h {p} e = ap (pieces_texts names) e ∙ head_said h

times_said : (n : ℕ) (f l : Option ℕ) → pieces_texts names (summary_pieces n f l) ≡ text " records " ∷ decimal_of n ∷ (first_texts f ++ last_texts l)
unfolding before word_in
times_said n None None = refl
times_said n None (Some u) = refl
times_said n (Some t) None = refl
times_said n (Some t) (Some u) = refl

pub times_of : (n : ℕ) (f l : Option ℕ) {p : Pieces} → p ≡ summary_pieces n f l
    → pieces_texts names p ≡ text " records " ∷ decimal_of n ∷ (first_texts f ++ last_texts l)
times_of n f l {p} e = ap (pieces_texts names) e ∙ times_said n f l

-- eleven numbers shown, one by one
pub numbers_turn : (s : List ℕ) (i : ℕ) → i < 11
    → numbers_texts (11 - i) i s ≡ (text " " ∷ decimal_of (get_or s i 0) ∷ []) ++ numbers_texts (11 - (i + 1)) (i + 1) s
unfolding numbers_texts
numbers_turn s i h = let e : 11 - i ≡ suc (11 - (i + 1)) = omega arith in rw (e, add-one)

pub numbers_done : (s : List ℕ) (i : ℕ) → 11 ≤ i → numbers_texts (11 - i) i s ≡ []
unfolding numbers_texts
numbers_done s i h = let e : 11 - i ≡ 0 = omega arith in rw e

-- counts that are handed in, one by one
pub counts_turn : (n : ℕ) (s c : List ℕ) → n < length c → take n c ≡ counts_at n s → take (n + 1) (set c n (number_at s (14 + n * 4))) ≡ counts_at (n + 1) s
unfolding counts_at
counts_turn n s c h e = rw (add-one, take-suc-set c n (number_at s (14 + n * 4)) h, e)

pub counts_done : (s c : List ℕ) (i : ℕ) → i ≡ 11 → length c ≡ 11 → take i c ≡ counts_at i s → c ≡ counts_at 11 s
counts_done s c i e l h = sym (take-length c) ∙ ap (λ (k : ℕ). take k c) (l ∙ sym e) ∙ h ∙ ap (λ (k : ℕ). counts_at k s) e
