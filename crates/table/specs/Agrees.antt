-- "Prove the table's rule over all 256 entries at once and that it agrees with the present decision everywhere."
use Rattle.std.specs.Prelude.{ℕ, ◌<◌, ◌≡◌, refl, Bool, true, false, ◌&&◌, List, eqb, length, get_or}
use Rattle.std.proofs.Common.{sym, ap, ◌∙◌, eqb-true, arith}
use Rattle.refusal.specs.Test.{clash, both_left, both_right}
use Rattle.command.specs.declared.Command.{Command}
use Rattle.command.specs.declared.Shape.{Shape}
use Rattle.command.specs.declared.Shape.TheVariants.{Unknown, Basic, Unicast, Colour}
use Rattle.command.specs.Command.{Numbers, shape_rule, numbers_in, shape_no, rule_no, numbers_of, shape_of, has_frame, is_known, Decided}
use Rattle.command.specs.Known.{shape_numbers, rule_one, numbers_one}
use Rattle.table.specs.declared.Entry.{Entry}
use Rattle.table.specs.Table.{numbers_at, numbers_by}
use Rattle.table.specs.Every.{every, each}

-- the one test: the digits of an entry are the numbers of the command at its place
abbrev is_same : Numbers → Numbers → Bool
is_same (shape_rule a b) (shape_rule s r) = eqb a s && eqb b r

same : (m n : Numbers) → is_same m n ≡ true → m ≡ n
same (shape_rule a b) (shape_rule s r) t =
    let x : a ≡ s = eqb-true a s (both_left (eqb a s) (eqb b r) t) in
    let y : b ≡ r = eqb-true b r (both_right (eqb a s) (eqb b r) t) in
    rw (x, y)

unfoldable pub is_right : ℕ → ℕ → Bool
is_right c x = is_same (numbers_by x) (numbers_in c)

-- the test of a whole table: 256 entries, and each is right
unfoldable pub is_table : List ℕ → Bool
is_table xs = eqb (length xs) 256 && every is_right 0 xs

-- a table that passes has at each place the numbers of that command
pub entry_right : (xs : List ℕ) (c : ℕ) → is_table xs ≡ true → c < 256 → numbers_by (get_or xs c 0) ≡ numbers_in c
unfolding is_table is_right
entry_right xs c t h =
    let e = eqb-true (length xs) 256 (both_left (eqb (length xs) 256) (every is_right 0 xs) t) in
    same (numbers_by (get_or xs c 0)) (numbers_in c) (each is_right xs c (both_right (eqb (length xs) 256) (every is_right 0 xs) t) (omega (arith, e)))

-- the number of a shape, and that of a rule
abbrev shape_part : Numbers → ℕ
shape_part (shape_rule s r) = s

abbrev rule_part : Numbers → ℕ
rule_part (shape_rule s r) = r

-- that of a shape is a digit
shape_digit : (x : Shape) → shape_no x < 4
shape_digit Unknown = omega arith
shape_digit (Basic rule) = omega arith
shape_digit Unicast = omega arith
shape_digit Colour = omega arith

pub digit : (c a b : ℕ) → shape_rule a b ≡ numbers_in c → a < 4
digit c a b e = omega (arith, shape_digit (shape_of c), ap shape_part (e ∙ sym (shape_numbers c)))

-- an entry is the shape and the rule of the decision, by their numbers, for every command
pub agrees : {c : ℕ} {x : Command} {e : Entry} → Decided c x → numbers_at e ≡ numbers_in c → numbers_at e ≡ numbers_of x.0
agrees d p = p ∙ sym d.numbers

-- the numbers lose nothing: commands with equal entries have one shape, and so one rule
pub entries_told : (c d : ℕ) {e f : Entry} → numbers_at e ≡ numbers_in c → numbers_at f ≡ numbers_in d → e ≡ f → shape_of c ≡ shape_of d
entries_told c d p q s = numbers_one (shape_of c) (shape_of d) (shape_numbers c ∙ sym p ∙ ap numbers_at s ∙ q ∙ sym (shape_numbers d))

-- an unknown command has shape 0 and rule 0, and no other has either
pub unknown_none : (c : ℕ) {e : Entry} → numbers_at e ≡ numbers_in c → is_known c ≡ false → (e.shape ≡ 0) × (e.rule ≡ 0)
unknown_none c p k =
    let n = p ∙ sym (shape_numbers c) in
    let z = go (shape_of c) k in
    (ap shape_part n ∙ z.0, ap rule_part n ∙ z.1)
  where
    go : (x : Shape) → has_frame x ≡ false → (shape_no x ≡ 0) × (rule_no x ≡ 0)
    go Unknown k = (refl, refl)
    go (Basic rule) k = clash (cc)
    go Unicast k = clash (cc)
    go Colour k = clash (cc)

pub shape_0_unknown : (c : ℕ) {e : Entry} → numbers_at e ≡ numbers_in c → e.shape ≡ 0 → is_known c ≡ false
shape_0_unknown c p z = go (shape_of c) (ap shape_part (shape_numbers c ∙ sym p) ∙ z)
  where
    go : (x : Shape) → shape_no x ≡ 0 → has_frame x ≡ false
    go Unknown z = refl
    go (Basic rule) z = absurd (omega (arith, z))
    go Unicast z = absurd (omega (arith, z))
    go Colour z = absurd (omega (arith, z))

pub rule_0_unknown : (c : ℕ) {e : Entry} → numbers_at e ≡ numbers_in c → e.rule ≡ 0 → is_known c ≡ false
rule_0_unknown c p z = ap has_frame (rule_one (shape_of c) Unknown (ap rule_part (shape_numbers c ∙ sym p) ∙ z))

-- what is said of an entry leaves no choice
pub entry_one : (c : ℕ) {e f : Entry} → numbers_at e ≡ numbers_in c → numbers_at f ≡ numbers_in c → e ≡ f
entry_one c p q =
    let both = p ∙ sym q in
    λ i. record { shape = ap shape_part both i; rule = ap rule_part both i }
