-- What the table says of every command: the numbers lose nothing, a known command is a byte, only 40 is dynamic, only 0E a colour request, and
-- only 0A retired.
use Rattle.std.specs.Prelude.{ℕ, ◌≤◌, ◌<◌, ◌≡◌, refl, Bool, true, false, not, ◌&&◌, List, [], ◌∷◌, leb, ltb, eqb, get_or}
use Rattle.std.proofs.Common.{sym, ap, ◌∙◌, leb-true, ltb-true, eqb-true, eq-eqb, arith}
use Rattle.std.proofs.lemmas.Bool.{not-true}
use Rattle.refusal.specs.Test.{pick, clash, both_left, both_right}
use Rattle.command.specs.declared.Rule.{Rule}
use Rattle.command.specs.declared.Rule.TheVariants.{Group, Emit, Bare, Timers, GroupScene, Channel, Filter, Query, Gear, Inhibit, Scene, Level, Lights, Address, Status}
use Rattle.command.specs.declared.Command.{Command}
use Rattle.command.specs.declared.Shape.{Shape}
use Rattle.command.specs.declared.Shape.TheVariants.{Unknown, Basic, Unicast, Colour}
use Rattle.command.specs.Count.{count_below}
use Rattle.command.specs.Command.{Numbers, shape_rule, Row, row, find, rows, numbers_in, shape_no, rule_no, numbers_of, shapes, shape_by, shape_of, has_frame, is_known, is_retired, may_ask, may_write, Decided}

-- a shape is told by the number of its rule
pub rule_back : (x : Shape) → get_or shapes (rule_no x) Unknown ≡ x
rule_back Unknown = refl
rule_back (Basic Group) = refl
rule_back (Basic Emit) = refl
rule_back (Basic Bare) = refl
rule_back (Basic Timers) = refl
rule_back (Basic GroupScene) = refl
rule_back (Basic Channel) = refl
rule_back (Basic Filter) = refl
rule_back (Basic Query) = refl
rule_back (Basic Gear) = refl
rule_back (Basic Inhibit) = refl
rule_back (Basic Scene) = refl
rule_back (Basic Level) = refl
rule_back (Basic Lights) = refl
rule_back (Basic Address) = refl
rule_back (Basic Status) = refl
rule_back Unicast = refl
rule_back Colour = refl

pub rule_one : (x y : Shape) → rule_no x ≡ rule_no y → x ≡ y
rule_one x y e = sym (rule_back x) ∙ ap (λ (n : ℕ). get_or shapes n Unknown) e ∙ rule_back y

-- so its numbers leave no choice
pub numbers_one : (x y : Shape) → numbers_of x ≡ numbers_of y → x ≡ y
numbers_one x y e = sym (rule_back x) ∙ ap shape_by e ∙ rule_back y

pub told : (x y : Shape) → shape_no x ≡ shape_no y → rule_no x ≡ rule_no y → x ≡ y
told x y s r = rule_one x y r

-- a shape with the numbers of a command is the command's
pub shape_told : (x : Shape) (c : ℕ) → numbers_of x ≡ numbers_in c → x ≡ shape_of c
unfolding shape_of numbers_in
shape_told x c e = sym (rule_back x) ∙ ap shape_by e

-- what a test of the lines shows of each command: P of what no line has, and of what a line has that passes the test
module _ (P : ℕ → Numbers → Type 0) (none : (c : ℕ) → P c (shape_rule 0 0)) (test : ℕ → ℕ → ℕ → ℕ → Bool)
    (passed : (lo hi s r : ℕ) → test lo hi s r ≡ true → (c : ℕ) → lo ≤ c → c ≤ hi → P c (shape_rule s r)) where
  abbrev all : List Row → Bool
  all [] = true
  all (row lo hi s r ∷ rows) = test lo hi s r && all rows

  found : (c : ℕ) (rows : List Row) → all rows ≡ true → P c (find c rows)
  found c [] t = none c
  found c (row lo hi s r ∷ rows) t = go (leb lo c) refl (leb c hi) refl (found c rows (both_right (test lo hi s r) (all rows) t))
    where
      go : (x : Bool) → leb lo c ≡ x → (y : Bool) → leb c hi ≡ y → P c (find c rows)
          → P c (pick x (pick y (shape_rule s r) (find c rows)) (find c rows))
      go true l true h other = passed lo hi s r (both_left (test lo hi s r) (all rows) t) c (leb-true lo c l) (leb-true c hi h)
      go true l false h other = other
      go false l y h other = other

-- the numbers of a command's shape are those that the table has
abbrev is_numbers : ℕ → ℕ → Bool
is_numbers s r = let x = get_or shapes r Unknown in eqb (shape_no x) s && eqb (rule_no x) r

pub shape_numbers : (c : ℕ) → numbers_of (shape_of c) ≡ numbers_in c
unfolding shape_of numbers_in
shape_numbers c = found (λ c n. numbers_of (shape_by n) ≡ n) (λ c. refl) (λ lo hi s r. is_numbers s r) same c rows refl
  where
    same : (lo hi s r : ℕ) → is_numbers s r ≡ true → (c : ℕ) → lo ≤ c → c ≤ hi → numbers_of (shape_by (shape_rule s r)) ≡ shape_rule s r
    same lo hi s r t c l h =
        let x : Shape = get_or shapes r Unknown in
        let a : shape_no x ≡ s = eqb-true (shape_no x) s (both_left (eqb (shape_no x) s) (eqb (rule_no x) r) t) in
        let b : rule_no x ≡ r = eqb-true (rule_no x) r (both_right (eqb (shape_no x) s) (eqb (rule_no x) r) t) in
        rw (a, b)

-- "With 40 these are 32 commands; each other number is unknown." With 0E (W-202) they are 33
pub known_count : count_below is_known 256 ≡ 33
unfolding shape_of count_below
known_count = refl

-- a known command is a byte
pub known_byte : (c : ℕ) → is_known c ≡ true → c < 256
unfolding shape_of numbers_in
known_byte c =
    found (λ c n. has_frame (shape_by n) ≡ true → c < 256) (λ c e. clash (cc)) (λ lo hi s r. ltb hi 256)
    (λ lo hi s r t c l h e. omega (arith, ltb-true hi 256 t)) c rows refl

-- a rule that one line of the table has, and no other, is that of one command
abbrev is_only : ℕ → ℕ → ℕ → ℕ → ℕ → Bool
is_only rule k lo hi r = pick (eqb (rule_no (get_or shapes r Unknown)) rule) (eqb lo k && eqb hi k) true

only : (rule k : ℕ) (lo hi s r : ℕ) → is_only rule k lo hi r ≡ true → (c : ℕ) → lo ≤ c → c ≤ hi → rule_no (get_or shapes r Unknown) ≡ rule → c ≡ k
only rule k lo hi s r t c l h e =
    let u : eqb lo k && eqb hi k ≡ true = rw (eq-eqb (rule_no (get_or shapes r Unknown)) rule e) at t in
    omega (arith, eqb-true lo k (both_left (eqb lo k) (eqb hi k) u), eqb-true hi k (both_right (eqb lo k) (eqb hi k) u))

-- the only dynamic request is 40, and the only colour request 0E
pub unicast_only : (c : ℕ) → shape_of c ≡ Unicast → c ≡ 0x40
unfolding shape_of numbers_in
unicast_only c e =
    found (λ c n. rule_no (shape_by n) ≡ 16 → c ≡ 0x40) (λ c e. clash (cc)) (λ lo hi s r. is_only 16 0x40 lo hi r) (only 16 0x40) c rows refl
    (ap rule_no e)

pub colour_only : (c : ℕ) → shape_of c ≡ Colour → c ≡ 0x0E
unfolding shape_of numbers_in
colour_only c e =
    found (λ c n. rule_no (shape_by n) ≡ 17 → c ≡ 0x0E) (λ c e. clash (cc)) (λ lo hi s r. is_only 17 0x0E lo hi r) (only 17 0x0E) c rows refl
    (ap rule_no e)

-- a command with a rule is known
pub basic_known : (c : ℕ) (rule : Rule) → shape_of c ≡ Basic rule → is_known c ≡ true
basic_known c rule e = rw e

pub unicast_known : is_known 0x40 ≡ true
unfolding shape_of numbers_in
unicast_known = refl

pub colour_shape : shape_of 0x0E ≡ Colour
unfolding shape_of numbers_in
colour_shape = refl

pub colour_known : is_known 0x0E ≡ true
colour_known = rw colour_shape

-- W-210: 0A is retired, which is known and has the rule that it had; no other number is
pub retired_only : (c : ℕ) → is_retired c ≡ true → c ≡ 0x0A
unfolding is_retired
retired_only c e = eqb-true c 0x0A e

pub retired_shape : (is_retired 0x0A ≡ true) × (shape_of 0x0A ≡ Basic Bare) × (count_below is_retired 256 ≡ 1)
unfolding is_retired shape_of numbers_in count_below
retired_shape = (refl, refl, refl)

pub unicast_current : is_retired 0x40 ≡ false
unfolding is_retired
unicast_current = refl

pub colour_current : is_retired 0x0E ≡ false
unfolding is_retired
colour_current = refl

-- what may be asked or written is known and not retired, and that is all
pub may_ask_known : (c : ℕ) → may_ask c ≡ true → is_known c ≡ true
unfolding may_ask
may_ask_known c e = both_left (is_known c) (not (is_retired c)) e

pub may_write_known : (c : ℕ) → may_write c ≡ true → is_known c ≡ true
unfolding may_write
may_write_known c e = both_left (is_known c) (not (is_retired c)) e

pub may_ask_current : (c : ℕ) → may_ask c ≡ true → is_retired c ≡ false
unfolding may_ask
may_ask_current c e = not-true (is_retired c) (both_right (is_known c) (not (is_retired c)) e)

pub may_write_current : (c : ℕ) → may_write c ≡ true → is_retired c ≡ false
unfolding may_write
may_write_current c e = not-true (is_retired c) (both_right (is_known c) (not (is_retired c)) e)

pub current_may_ask : (c : ℕ) → is_known c ≡ true → is_retired c ≡ false → may_ask c ≡ true
unfolding may_ask
current_may_ask c k r = rw (k, r)

pub current_may_write : (c : ℕ) → is_known c ≡ true → is_retired c ≡ false → may_write c ≡ true
unfolding may_write
current_may_write c k r = rw (k, r)

-- 32 of the 33
pub may_count : (count_below may_ask 256 ≡ 32) × (count_below may_write 256 ≡ 32)
unfolding may_ask may_write is_retired shape_of count_below
may_count = (refl, refl)

-- what is decided of a command leaves no choice
pub decided_one : {c : ℕ} {x y : Command} → Decided c x → Decided c y → x ≡ y
decided_one {c} {x} {y} p q =
    let shape = numbers_one x.0 y.0 (p.numbers ∙ sym q.numbers) in
    let mark = p.mark ∙ sym q.mark in
    λ i. record { 0 = shape i; 1 = mark i }
