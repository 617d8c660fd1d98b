-- What is said of a reading leaves no choice: from it the case is told.
use Rattle.std.specs.Prelude.{◌≡◌, refl, Result}
use Rattle.std.proofs.Common.{sym, ap, ◌∙◌}
use Rattle.refusal.specs.Answer.{said_of}
use Rattle.refusal.specs.SaidOf.{said_of_one}
use Rattle.refusal.specs.declared.Refusal.{Refusal}
use Rattle.target.specs.Laws.{target_of, target_back}
use Rattle.colour.specs.One.{colour_by, colour_back}
use Rattle.meaning.specs.Laws.{meaning_by, meaning_back}
use Rattle.request.specs.Said.{Inside, arguments, address, coloured, Heard, heard, said_contents, said_request}
use Rattle.request.specs.declared.Contents.{Contents}
use Rattle.request.specs.declared.Contents.TheVariants.{Basic, Unicast, Colour}
use Rattle.request.specs.declared.Request.{Request}

abbrev contents_by : Inside → Contents
contents_by (arguments i j k l m) = Basic (record { a = i; b = j; c = k; d = l }) (meaning_by m)
contents_by (address port i j k l) = Unicast port (record { 0 = i; 1 = j; 2 = k; 3 = l })
contents_by (coloured a t l h) = Colour (record { 0 = a }) (target_of t) l (colour_by h)

contents_back : (x : Contents) → contents_by (said_contents x) ≡ x
contents_back (Basic x m) = ap (Basic x) (meaning_back m)
contents_back (Unicast port ip) = refl
contents_back (Colour target lights level tint) = rw (target_back lights, colour_back tint)

abbrev request_by : Heard → Request
request_by (heard s c r x) = record { sequence = s; command = c; retired = r; contents = contents_by x }

request_back : (x : Request) → request_by (said_request x) ≡ x
request_back x =
    ap (λ (i : Contents). (record { sequence = x.sequence; command = x.command; retired = x.retired; contents = i })) (contents_back x.contents)

pub request_one : (x y : Request) → said_request x ≡ said_request y → x ≡ y
request_one x y e = sym (request_back x) ∙ ap request_by e ∙ request_back y

pub said_one : (x y : Result Request Refusal) → said_of said_request x ≡ said_of said_request y → x ≡ y
said_one = said_of_one said_request request_one
