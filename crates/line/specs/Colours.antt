-- Document 02, W-202, on a request line: "The length of a request now depends on the colour type as well as the command"; "an unlisted
-- colour type is 4"; "the items follow the same numbers". The sixth byte of a colour request is its type: up to it the reader waits; an
-- unlisted one is item 4, one byte, which it settles; a listed one tells the frame's length, by which the frame is judged.
use Rattle.std.specs.Prelude.{ℕ, ◌≤◌, ◌<◌, ◌≡◌, true, false, List, length, take}
use Rattle.std.proofs.Common.{sym, ap, ◌∙◌, le-leb, eq-eqb, arith}
use Rattle.std.proofs.lemmas.Bool.{lt-leb}
use Rattle.frame.specs.Frame.{byte}
use Rattle.command.specs.declared.Shape.TheVariants.{Colour}
use Rattle.command.specs.Command.{shape_of}
use Rattle.command.specs.Known.{colour_shape}
use Rattle.command.specs.Colours.{is_type}
use Rattle.command.specs.Length.{length_of, colour_bytes}
use Rattle.stream.specs.Stream.{More, Settled}
use Rattle.extent.specs.declared.Line.TheVariants.{Request}
use Rattle.extent.specs.declared.Extent.{Extent}
use Rattle.extent.specs.declared.Extent.TheVariants.{Wait, Bad, Frame}
use Rattle.extent.specs.Line.{length_extent}
use Rattle.line.specs.Rule.{extent_item, settle}
use Rattle.extent.specs.Shapes.{shape_extent, colour_short}
use Rattle.line.specs.Cases.{settle_lead, judged, framed_there}

module _ (s : List ℕ) (lead : byte 0 s ≡ 0x04) (command : byte 2 s ≡ 0x0E) where
  -- what the bytes tell is told by the type
  told : 3 ≤ length s → (x : Extent) → x ≡ length_extent (length_of Colour) s → settle Request s ≡ extent_item Request x s
  told h x e =
      settle_lead Request s (omega arith) (eq-eqb (byte 0 s) 0x04 lead)
      ∙ ap (λ (y : Extent). extent_item Request y s) (sym (shape_extent s Colour x h (sym colour_shape ∙ ap shape_of (sym command)) e))

  pub colour_waits : 3 ≤ length s → length s < 6 → settle Request s ≡ More
  colour_waits h l = told h Wait (colour_short s l)

  pub colour_4 : 6 ≤ length s → is_type (byte 5 s) ≡ false → settle Request s ≡ Settled 4 1 6
  colour_4 h t = told (omega arith) (Bad 4 6) (rw (le-leb 6 (length s) h, t))

  framed : 6 ≤ length s → is_type (byte 5 s) ≡ true → settle Request s ≡ extent_item Request (Frame (colour_bytes (byte 5 s))) s
  framed h t = told (omega arith) (Frame (colour_bytes (byte 5 s))) (rw (le-leb 6 (length s) h, t))

  pub colour_part : 6 ≤ length s → is_type (byte 5 s) ≡ true → length s < colour_bytes (byte 5 s) → settle Request s ≡ More
  colour_part h t l = framed h t ∙ rw (lt-leb (colour_bytes (byte 5 s)) (length s) l)

  pub colour_whole : is_type (byte 5 s) ≡ true → 6 ≤ length s → colour_bytes (byte 5 s) ≤ length s
      → settle Request s ≡ judged Request (colour_bytes (byte 5 s)) (take (colour_bytes (byte 5 s)) s)
  colour_whole t h l = framed h t ∙ framed_there Request (colour_bytes (byte 5 s)) s l
