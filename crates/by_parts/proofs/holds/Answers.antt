use borrow.Author.Rules.{rules, length_unmapped}
use mathlib.Core.Path.{◌≡◌, sym, ◌∙◌}
use lib.ListN.{length}
use borrow.Author.Tests.{lt-ltb}
use Rattle.refusal.specs.Test.{not_both}
use Rattle.by_parts.specs.Found.{held_over, held_told, held_count}
use Rattle.by_parts.proofs.holds.Goals as goal
use Rattle.by_parts.proofs.holds.Goals.{then-h-gt-ROOM, else-h-gt-ROOM}

pub returns-then-is_settled : goal.returns-then-is_settled
returns-then-is_settled c =
    elim c.if-h-gt-ROOM.branch [
      | then-h-gt-ROOM w ↦ held_over _ _ w.if-h-gt-ROOM.true
      | else-h-gt-ROOM w ↦ held_told _ _ w.if-h-gt-ROOM.false (sym w.is_settled.ensures ∙ sym w.value-is ∙ c.if-is_settled.true)
    ]

pub returns-else-is_settled : goal.returns-else-is_settled
returns-else-is_settled c =
    let room : length c.args.h.bytes ≡ 67 = search (length_unmapped, rules) in
    elim c.if-h-gt-ROOM.branch [
      | then-h-gt-ROOM w ↦ not_both (w.value-is ∙ lt-ltb 67 c.args.h.len w.if-h-gt-ROOM.true) c.if-is_settled.false
      | else-h-gt-ROOM w ↦ held_count _ _ room w.if-h-gt-ROOM.false (sym w.is_settled.ensures ∙ sym w.value-is ∙ c.if-is_settled.false)
    ]
