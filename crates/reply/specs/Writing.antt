-- The frame that the writer of replies is to write, or the refusal that it is to give: 2, then 4; 8 comes with the buffer (crate frame).
use Rattle.std.specs.Prelude.{ℕ, List, length, leb}
use Rattle.refusal.specs.Answer.{Answer, full, demand}
use Rattle.lead.specs.Lead.{is_reply, reply_data}
use Rattle.reply.specs.Layout.{reply, layout}

unfoldable pub reply_frame : ℕ → ℕ → List ℕ → Answer (List ℕ)
reply_frame t s l = demand (is_reply t) 2 (demand (leb (length l) reply_data) 4 (full (layout (reply t s l))))
