use Rattle.std.proofs.Common.{rules, ◌≡◌, Err, refl, sym, ◌∙◌}
use Rattle.append.specs.Judged.{front_refuses, event_refuses, late, no_room, admitted}
use Rattle.append.proofs.judge.Goals as goal

pub returns-in_err-layout : goal.returns-in_err-layout
returns-in_err-layout c =
    let z : c.from_residual.result ≡ Err c.in_err-layout.field-0.0 = search rules in
    rw z (front_refuses _ _ _ _ _ (sym c.in_err-layout.ensures))

pub returns-in_err-event : goal.returns-in_err-event
returns-in_err-event c =
    let z : c.from_residual-in_err-event.result ≡ Err c.in_err-event.field-0.0 = search rules in
    rw z (event_refuses _ _ _ _ _ _ (sym c.in_ok-layout.ensures) (sym c.in_err-event.ensures))

pub returns-then-not-not_before : goal.returns-then-not-not_before
returns-then-not-not_before c =
    late _ _ _ _ _ _ (sym c.in_ok-layout.ensures) (sym c.in_ok-event.ensures) (sym c.not_before.ensures ∙ c.if-not-not_before.true)

pub returns-then-has_room : goal.returns-then-has_room
returns-then-has_room c =
    admitted _ _ _ _ _ _ _ (sym c.in_ok-layout.ensures) (sym c.in_ok-event.ensures) (sym c.not_before.ensures ∙ c.if-not-not_before.false)
    (sym c.has_room.ensures ∙ c.if-has_room.true) refl

pub returns-else-has_room : goal.returns-else-has_room
returns-else-has_room c =
    no_room _ _ _ _ _ _ (sym c.in_ok-layout.ensures) (sym c.in_ok-event.ensures) (sym c.not_before.ensures ∙ c.if-not-not_before.false)
    (sym c.has_room.ensures ∙ c.if-has_room.false)
