use mathlib.Core.Path.{sym, ◌∙◌}
use Rattle.signed.specs.Sizes.{puts_below, puts_above}
use Rattle.signed.proofs.decimal.Goals as goal

pub returns-then-is_below : goal.returns-then-is_below
returns-then-is_below c = puts_below c.args.z c.ranges.z (c.from-n.ensures ∙ c.unsigned_abs.ensures.value) (sym c.is_below.ensures ∙ c.if-is_below.true) c.word-e.ensures c.decimal.ensures

pub returns : goal.returns
returns c = puts_above c.args.z c.ranges.z (c.from-n.ensures ∙ c.unsigned_abs.ensures.value) (sym c.is_below.ensures ∙ c.if-is_below.false) c.decimal-2.ensures
