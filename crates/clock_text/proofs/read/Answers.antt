use mathlib.Core.Path.{sym, ap, ◌∙◌}
use Rattle.refusal.specs.Answer.{full}
use Rattle.clock_text.specs.Clock.{in_range}
use Rattle.clock_text.specs.Forms.{text_size, size_least, not_text, not_in_range, accepted}
use Rattle.clock_text.proofs.read.Goals as goal

pub returns-then-not-is_text : goal.returns-then-not-is_text
returns-then-not-is_text c = not_text _ _ (sym c.is_text.ensures ∙ c.if-not-is_text.true)

pub clock_of-c-requires : goal.clock_of-c-requires
clock_of-c-requires c = size_least (text_size c.args.astronomical c.args.s.now (sym c.is_text.ensures ∙ c.if-not-is_text.false))

pub returns-then-not-in_range : goal.returns-then-not-in_range
returns-then-not-in_range c = not_in_range _ _ (sym c.is_text.ensures ∙ c.if-not-is_text.false) (sym (ap in_range c.clock_of-c.ensures) ∙ sym c.in_range.ensures ∙ c.if-not-in_range.true)

pub returns : goal.returns
returns c = ap full c.clock_of-c.ensures ∙ accepted _ _ (sym c.is_text.ensures ∙ c.if-not-is_text.false) (sym (ap in_range c.clock_of-c.ensures) ∙ sym c.in_range.ensures ∙ c.if-not-in_range.false)
