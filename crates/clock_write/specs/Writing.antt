-- Document 02, W-214: "Write clocks back too, and get the same text." "Refusals: 21 text not of this form, 22 a field out of range, in that
-- order, then 8." 8 is the last refusal of every writer (`Written` of crate frame); the offset being an enum, 21 cannot arise.
use Rattle.std.specs.Prelude.{ℕ, List}
use Rattle.refusal.specs.Answer.{Answer, full, demand}
use Rattle.clock_text.specs.declared.Clock.{Clock}
use Rattle.clock_text.specs.Clock.{in_range, text_of}

unfoldable pub write_clock : Clock → Answer (List ℕ)
write_clock c = demand (in_range c) 22 (full (text_of c))
