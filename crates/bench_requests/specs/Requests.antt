-- docs/BENCH.md, "Datagrams": the answers of `request`, case by case.
use Rattle.std.specs.Prelude.{ℕ, Bool, true, false, List, [], ◌∷◌, ◌++◌, Result, Ok, Err}
use Rattle.refusal.specs.Refusals.{number_of}
use Rattle.refusal.specs.declared.Refusal.{Refusal}
use Rattle.text.specs.Text.{hex_of, decimal_of}
use Rattle.words.specs.Words.{text}
use Rattle.bench_say.specs.Said.{run_of}
use Rattle.target.specs.declared.Target.{Target}
use Rattle.target.specs.declared.Target.TheVariants.{Gear as lit·Gear, Group as lit·Group, Broadcast, Nothing as lit·Nothing}
use Rattle.colour.specs.declared.Colour.{Colour}
use Rattle.colour.specs.declared.Colour.TheVariants.{Xy, Tc, Rgbwaf}
use Rattle.meaning.specs.declared.Meaning.{Meaning}
use Rattle.meaning.specs.declared.Meaning.TheVariants.{Nothing, Group, Emit, Timers, GroupScene, Channel, Filter, Query, Gear, Inhibit, Scene, Level, Lit, Target as asked}
use Rattle.request.specs.declared.Contents.{Contents}
use Rattle.request.specs.declared.Contents.TheVariants.{Basic, Unicast, Colour as coloured}
use Rattle.request.specs.declared.Request.{Request}
use Rattle.bench_requests.specs.declared.Asked.{Asked}
use Rattle.bench_requests.specs.declared.Asked.TheVariants.{Reading as a·Reading, Target as a·Target}

-- LIGHTS
abbrev pub lights_texts : Target → List (List ℕ)
lights_texts (lit·Gear n) = text " gear " ∷ decimal_of n ∷ []
lights_texts (lit·Group g) = text " group " ∷ decimal_of g.0 ∷ []
lights_texts Broadcast = text " broadcast" ∷ []
lights_texts lit·Nothing = text " no target" ∷ []

-- "A meaning is one of these"
abbrev pub meaning_texts : Meaning → List (List ℕ)
meaning_texts Nothing = text " nothing" ∷ []
meaning_texts (Group g) = text " group " ∷ decimal_of g.0 ∷ []
meaning_texts (Emit a) = text " emit " ∷ decimal_of a ∷ []
meaning_texts (Timers d i) = text " device " ∷ decimal_of d.0 ∷ text " instance " ∷ decimal_of i ∷ []
meaning_texts (GroupScene g s) = text " group " ∷ decimal_of g.0 ∷ text " scene " ∷ decimal_of s ∷ []
meaning_texts (Channel u n) = text " universe " ∷ decimal_of u ∷ text " channel " ∷ decimal_of n ∷ []
meaning_texts (Filter a i m) = text " address " ∷ decimal_of a ∷ text " instance " ∷ decimal_of i ∷ text " mask " ∷ decimal_of m ∷ []
meaning_texts (Query a s i) = text " address " ∷ decimal_of a ∷ text " start " ∷ decimal_of s ∷ text " instance " ∷ decimal_of i ∷ []
meaning_texts (Gear a) = text " gear " ∷ decimal_of a ∷ []
meaning_texts (Inhibit l n) = lights_texts l ++ (text " seconds " ∷ decimal_of n ∷ [])
meaning_texts (Scene l s) = lights_texts l ++ (text " scene " ∷ decimal_of s ∷ [])
meaning_texts (Level l n) = lights_texts l ++ (text " level " ∷ decimal_of n ∷ [])
meaning_texts (Lit l) = lights_texts l
meaning_texts (asked l) = lights_texts l

-- "`xy N N`, `tc N` or `rgbwaf N N N N N N`"
abbrev pub colour_texts : Colour → List (List ℕ)
colour_texts (Xy x y) = text " xy " ∷ decimal_of x ∷ text " " ∷ decimal_of y ∷ []
colour_texts (Tc t) = text " tc " ∷ decimal_of t ∷ []
colour_texts (Rgbwaf red green blue white amber free) =
    text " rgbwaf " ∷ decimal_of red ∷ text " " ∷ decimal_of green ∷ text " " ∷ decimal_of blue
    ∷ text " " ∷ decimal_of white ∷ text " " ∷ decimal_of amber ∷ text " " ∷ decimal_of free ∷ []

-- "`target N LIGHTS level N`" and the colour
abbrev pub coloured_texts : ℕ → Target → ℕ → Colour → List (List ℕ)
coloured_texts t l n c = (text " target " ∷ decimal_of t ∷ []) ++ ((lights_texts l ++ (text " level " ∷ decimal_of n ∷ [])) ++ colour_texts c)

-- "`arguments AA BB CC DD` and the meaning; of request 40, `port N address N N N N`"; and of a colour request
abbrev pub contents_texts : Contents → List (List ℕ)
contents_texts (Basic a m) = (text " arguments" ∷ run_of (a.a ∷ a.b ∷ a.c ∷ a.d ∷ [])) ++ meaning_texts m
contents_texts (Unicast port d) =
    text " port " ∷ decimal_of port ∷ text " address " ∷ decimal_of d.0
    ∷ text " " ∷ decimal_of d.1 ∷ text " " ∷ decimal_of d.2 ∷ text " " ∷ decimal_of d.3 ∷ []
contents_texts (coloured t l n c) = coloured_texts t.0 l n c

-- "Behind all of it ` retired` where the command is retired"
abbrev pub mark_texts : Bool → List (List ℕ)
mark_texts true = text " retired" ∷ []
mark_texts false = []

-- "`sequence N command CC`", the contents and the mark
abbrev pub request_texts : Request → List (List ℕ)
request_texts q =
    text "0 sequence " ∷ decimal_of q.sequence ∷ text " command " ∷ hex_of q.command
    ∷ (contents_texts q.contents ++ mark_texts q.retired)

abbrev pub reading_texts : Result Request Refusal → List (List ℕ)
reading_texts (Ok q) = request_texts q
reading_texts (Err k) = decimal_of (number_of k) ∷ []

-- the answer of a call: a reading, or LIGHTS behind a 0
abbrev pub asked_texts : Asked → List (List ℕ)
asked_texts (a·Reading r) = reading_texts r
asked_texts (a·Target l) = text "0" ∷ lights_texts l
