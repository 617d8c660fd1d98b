use Rattle.std.specs.Prelude.{ℕ, Result, Err, ◌≡◌, refl, List}
use Rattle.std.proofs.Common.{sym, ap, ◌∙◌}
use Rattle.refusal.specs.Refusals.{number_of}
use Rattle.refusal.specs.Answer.{refused, full}
use Rattle.refusal.specs.declared.Refusal.{Refusal}
use Rattle.command.specs.Command.{numbers_of, numbers_in}
use Rattle.command.specs.Known.{shape_told}
use Rattle.command.specs.declared.Rule.{Rule}
use Rattle.command.specs.declared.Shape.{Shape}
use Rattle.command.specs.declared.Shape.TheVariants.{Unknown, Basic, Unicast, Colour}
use Rattle.profile.specs.declared.Profile.{Profile}
use Rattle.meaning.specs.declared.Arguments.{Arguments}
use Rattle.frame.specs.Written.{Written, refuses, passes}
use Rattle.request.specs.Writing.{basic_of, basic_frame}
use Rattle.request_writers.proofs.basic.Goals as goal

-- the answer by the shape that is decided
module _ (p : Profile) (s k : ℕ) (x : Arguments) (h : Shape) (e : numbers_of h ≡ numbers_in k) where
  framed : basic_frame p s k x ≡ basic_of p h s k x
  framed = ap (λ (i : Shape). basic_of p i s k x) (sym (shape_told h k e))

  stops : {out : List ℕ} {r : Refusal} → basic_of p h s k x ≡ refused (number_of r) → Written (basic_frame p s k x) out (Err r) out
  stops {out} v = refuses out (framed ∙ v)

  goes : {out f q : List ℕ} {r : Result ℕ Refusal} → basic_of p h s k x ≡ full f → Written (full f) out r q → Written (basic_frame p s k x) out r q
  goes v w = passes (framed ∙ v) w

other : (p : Profile) (s k : ℕ) (x : Arguments) (h : Shape) → ((rule : Rule) → h ≡ Basic rule → ⊥) → basic_of p h s k x ≡ refused 3
other p s k x Unknown n = refl
other p s k x (Basic rule) n = absurd (n rule refl)
other p s k x Unicast n = refl
other p s k x Colour n = refl

pub returns-in_default : goal.returns-in_default
returns-in_default c =
    stops c.args.profile c.args.sequence c.args.command c.args.arguments c.decide-shape.result.0 c.decide-shape.ensures.numbers (other c.args.profile c.args.sequence c.args.command c.args.arguments c.decide-shape.result.0 c.in_default.not-Basic)

pub returns-then-retired : goal.returns-then-retired
returns-then-retired c =
    stops c.args.profile c.args.sequence c.args.command c.args.arguments c.decide-shape.result.0 c.decide-shape.ensures.numbers (rw (c.in-Basic.is, ← c.decide-shape.ensures.mark, c.if-retired.true))

pub returns-then-not-fits : goal.returns-then-not-fits
returns-then-not-fits c =
    stops c.args.profile c.args.sequence c.args.command c.args.arguments c.decide-shape.result.0 c.decide-shape.ensures.numbers
    (rw (c.in-Basic.is, ← c.decide-shape.ensures.mark, c.if-retired.false, ← c.fits.ensures, c.if-not-fits.true))

pub returns-then-not-allows : goal.returns-then-not-allows
returns-then-not-allows c =
    stops c.args.profile c.args.sequence c.args.command c.args.arguments c.decide-shape.result.0 c.decide-shape.ensures.numbers
    (rw (c.in-Basic.is, ← c.decide-shape.ensures.mark, c.if-retired.false, ← c.fits.ensures, c.if-not-fits.false, ← c.allows.ensures, c.if-not-allows.true))

pub returns : goal.returns
returns c =
    goes c.args.profile c.args.sequence c.args.command c.args.arguments c.decide-shape.result.0 c.decide-shape.ensures.numbers
    (rw (c.in-Basic.is, ← c.decide-shape.ensures.mark, c.if-retired.false, ← c.fits.ensures, c.if-not-fits.false, ← c.allows.ensures, c.if-not-allows.false))
    c.write.ensures
