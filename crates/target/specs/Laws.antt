-- What is said of a target leaves no choice, and the three numbers go there and back.
use Rattle.std.specs.Prelude.{ℕ, ◌+◌, ◌-◌, ◌≤◌, ◌≡◌, refl, true, false, leb}
use Rattle.std.proofs.Common.{sym, ap, ◌∙◌, leb-true, le-leb, arith}
use Rattle.std.proofs.lemmas.Bool.{lt-leb}
use Rattle.refusal.specs.Answer.{Answer, refused, full, demand_elim}
use Rattle.target.specs.declared.LineTarget.{LineTarget}
use Rattle.target.specs.declared.Group as group·struct
use Rattle.target.specs.declared.Device.{Device}
use Rattle.target.specs.declared.Target.{Target}
use Rattle.target.specs.declared.Target.TheVariants.{Gear, Group, Broadcast, Nothing}
use Rattle.target.specs.Target.{Aim, gear, group, broadcast, no_target, lights_of, line_of, device_of, device_number, said_target}

-- the case that says an aim
abbrev pub target_of : Aim → Target
target_of (gear n) = Gear n
target_of (group n) = Group (record { 0 = n })
target_of broadcast = Broadcast
target_of no_target = Nothing

pub target_back : (x : Target) → target_of (said_target x) ≡ x
target_back (Gear n) = refl
target_back (Group g) = refl
target_back Broadcast = refl
target_back Nothing = refl

pub target_one : (x y : Target) → said_target x ≡ said_target y → x ≡ y
target_one x y e = sym (target_back x) ∙ ap target_of e ∙ target_back y

-- there and back: a group's target names that group, and a device's address has its number
pub group_lights : (g : group·struct.Group) (t : LineTarget) → line_of g ≡ full t → lights_of t ≡ group g.0
group_lights g t =
    demand_elim (leb g.0 15) 7
    (λ h e.
    let l : g.0 ≤ 15 = leb-true g.0 15 h in
    let z : g.0 + 64 ≡ t.0 = ap (λ (x : Answer LineTarget). value x) e in
    let back : t.0 - 64 ≡ g.0 = omega arith in
    let a : leb t.0 63 ≡ false = lt-leb t.0 63 (omega arith) in
    let b : leb t.0 79 ≡ true = le-leb t.0 79 (omega arith) in
    rw (a, b) (ap group back))
  where
    value : Answer LineTarget → ℕ
    value (refused k) = 0
    value (full t) = t.0

pub device_number_lem : (n : ℕ) (a : Device) → device_of n ≡ full a → device_number a ≡ full n
device_number_lem n a =
    demand_elim (leb n 63) 7
    (λ h e.
    let l : n ≤ 63 = leb-true n 63 h in
    let z : n + 64 ≡ a.0 = ap (λ (x : Answer Device). value x) e in
    let back : a.0 - 64 ≡ n = omega arith in
    let p : leb 64 a.0 ≡ true = le-leb 64 a.0 (omega arith) in
    let q : leb a.0 127 ≡ true = le-leb a.0 127 (omega arith) in
    rw (p, q, back))
  where
    value : Answer Device → ℕ
    value (refused k) = 0
    value (full a) = a.0
