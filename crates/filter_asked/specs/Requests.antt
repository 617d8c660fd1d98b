-- Which requests set a filter, and which one: "every request is an accepted 31 or 33".
use Rattle.std.specs.Prelude.{ℕ, ◌≤◌, ◌<◌, ◌≡◌, refl, Bool, true, false, List, [], ◌∷◌, ◌⊎◌, ◌↔◌, eqb, leb, length}
use Rattle.std.proofs.Common.{sym, ◌∙◌, inl, inr, ne_eqb, arith}
use Rattle.std.proofs.Math.Path.{ap}
use Rattle.std.proofs.Math.Decide.{ℕ_discrete}
use Rattle.refusal.specs.Test.{clash}
use Rattle.refusal.specs.Answer.{Answer, refused, full, demand, demand_elim, full_one}
use Rattle.sum.specs.Bytes.{Bytes, bytes_none, bytes_cons}
use Rattle.sum.specs.Sum.{sum_of}
use Rattle.lead.specs.Lead.{is_request}
use Rattle.frame.specs.Frame.{byte}
use Rattle.target.specs.Target.{is_lighting}
use Rattle.order.specs.Numbers.{number_below}
use Rattle.command.specs.declared.Rule.TheVariants.{Filter as rule·Filter}
use Rattle.command.specs.declared.Shape.{Shape}
use Rattle.command.specs.declared.Shape.TheVariants.{Unknown, Basic, Unicast, Colour}
use Rattle.command.specs.Command.{shape_of}
use Rattle.command.specs.Colours.{is_type}
use Rattle.command.specs.Length.{colour_bytes}
use Rattle.ranges.specs.Arguments.{fits}
use Rattle.meaning.specs.Meaning.{Sense, bare, group, emit, timers, group_scene, channel, filter, query, gear, inhibit, scene, level, lit, target, pair, meaning_of}
use Rattle.request.specs.Said.{Inside, arguments, address, coloured, Heard, heard, command_of}
use Rattle.request.specs.Reading.{read_basic, read_unicast, read_coloured, read_shape, read_request, basic_heard}
use Rattle.request.proofs.Retired.{heard_command}
use Rattle.filter_asked.specs.declared.Filter.{Filter}
use Rattle.filter_asked.specs.declared.Change.{Change}
use Rattle.filter_asked.specs.declared.Change.TheVariants.{Add as add, Clear as clear}
use Rattle.filter_asked.specs.Asked.{change_in, change_inside, change_heard, asked}

-- the filter of a request's bytes: address, instance, and the mask high byte first
abbrev pub filter_at : List ℕ → Filter
filter_at d = record { address = byte 3 d; instance = byte 4 d; mask = pair (byte 5 d) (byte 6 d) }

-- an accepted request 31 or 33
abbrev pub IsFilter : List ℕ → Type 0
IsFilter d = (h : Heard) × (read_request d ≡ full h) × ((command_of h ≡ 0x31) ⊎ (command_of h ≡ 0x33))

-- what is heard of a request whose command has the rule of filters
heard_filter : (d : List ℕ) (h : Heard) → shape_of (byte 2 d) ≡ Basic rule·Filter → read_request d ≡ full h
    → basic_heard rule·Filter (byte 1 d) (byte 2 d) (byte 3 d) (byte 4 d) (byte 5 d) (byte 6 d) ≡ h
unfolding read_request read_basic
heard_filter d h s =
    demand_elim (leb 8 (length d)) 1
    (λ l. demand_elim (is_request (byte 0 d)) 2
    (λ r e. demand_elim (eqb (length d) 8) 5
    (λ m. demand_elim (eqb (sum_of d) 0) 6
    (λ z. demand_elim (fits rule·Filter (byte 3 d) (byte 4 d) (byte 5 d) (byte 6 d)) 7 (λ f. full_one)))
    (sym (ap (λ (x : Shape). read_shape x d) s) ∙ e)))

shape_31 : shape_of 0x31 ≡ Basic rule·Filter
unfolding shape_of
shape_31 = refl

shape_33 : shape_of 0x33 ≡ Basic rule·Filter
unfolding shape_of
shape_33 = refl

asks : (d : List ℕ) (h : Heard) → read_request d ≡ full h → asked d ≡ change_heard (full h)
unfolding asked
asks d h e = rw e

module _ (d : List ℕ) (h : Heard) (e : read_request d ≡ full h) where
  as_filter : shape_of (byte 2 d) ≡ Basic rule·Filter → asked d ≡ change_in (byte 2 d) (filter (byte 3 d) (byte 4 d) (pair (byte 5 d) (byte 6 d)))
  unfolding meaning_of
  as_filter s = asks d h e ∙ ap (λ (x : Heard). change_heard (full x)) (sym (heard_filter d h s e))

  by_command : (c : ℕ) → command_of h ≡ c → shape_of c ≡ Basic rule·Filter → asked d ≡ change_in c (filter (byte 3 d) (byte 4 d) (pair (byte 5 d) (byte 6 d)))
  by_command c q s =
      let b : byte 2 d ≡ c = sym (heard_command d h e) ∙ q in
      as_filter (ap shape_of b ∙ s) ∙ ap (λ (x : ℕ). change_in x (filter (byte 3 d) (byte 4 d) (pair (byte 5 d) (byte 6 d)))) b

  -- "Adding" and "Clearing"
  pub asked_31 : command_of h ≡ 0x31 → asked d ≡ full (add (filter_at d))
  asked_31 c = by_command 0x31 c shape_31

  pub asked_33 : command_of h ≡ 0x33 → asked d ≡ full (clear (filter_at d))
  asked_33 c = by_command 0x33 c shape_33

-- "18 for a command other than 31 or 33"
no_filter : (c : ℕ) → (c ≡ 0x31 → ⊥) → (c ≡ 0x33 → ⊥) → (x : Inside) → change_inside c x ≡ refused 18
no_filter c a b (arguments i j k l m) = go m
  where
    go : (m : Sense) → change_in c m ≡ refused 18
    go (filter p q r) = rw (ne_eqb c 0x31 a, ne_eqb c 0x33 b)
    go bare = refl
    go (group g) = refl
    go (emit x) = refl
    go (timers v i) = refl
    go (group_scene g s) = refl
    go (channel u n) = refl
    go (query x s i) = refl
    go (gear x) = refl
    go (inhibit t s) = refl
    go (scene t s) = refl
    go (level t x) = refl
    go (lit t) = refl
    go (target t) = refl
no_filter c a b (address port i j k l) = refl
no_filter c a b (coloured i t l h) = refl

pub asked_18 : (d : List ℕ) (h : Heard) → read_request d ≡ full h → (command_of h ≡ 0x31 → ⊥) → (command_of h ≡ 0x33 → ⊥) → asked d ≡ refused 18
asked_18 d h e a b = asks d h e ∙ go h a b
  where
    go : (h : Heard) → (command_of h ≡ 0x31 → ⊥) → (command_of h ≡ 0x33 → ⊥) → change_heard (full h) ≡ refused 18
    go (heard s c r x) a b = no_filter c a b x

-- "1 to 7 for a plan's request": they come first
pub asked_refused : (d : List ℕ) (k : ℕ) → read_request d ≡ refused k → asked d ≡ refused k
unfolding asked
asked_refused d k e = rw e

pub read_numbers : (d : List ℕ) (n : ℕ) → read_request d ≡ refused n → (1 ≤ n) × (n ≤ 7)
unfolding read_request read_basic read_unicast read_coloured
read_numbers d n =
    unless (leb 8 (length d)) 1 (omega arith) (omega arith)
    (unless (is_request (byte 0 d)) 2 (omega arith) (omega arith) (shaped (shape_of (byte 2 d))))
  where
    -- a demand's own number, or that of what it stands before
    unless : {A : Type 0} (t : Bool) (k : ℕ) {x : Answer A} → 1 ≤ k → k ≤ 7 → (x ≡ refused n → (1 ≤ n) × (n ≤ 7)) → demand t k x ≡ refused n → (1 ≤ n) × (n ≤ 7)
    unless true k h l f e = f e
    unless false k h l f e =
        let q : ◌≡◌ {A = ℕ} k n = cc in
        (omega arith, omega arith)

    never : {A : Type 0} {v : A} → full v ≡ refused n → (1 ≤ n) × (n ≤ 7)
    never e = clash (cc)

    unknown : ◌≡◌ {A = Answer Heard} (refused 3) (refused n) → (1 ≤ n) × (n ≤ 7)
    unknown e =
        let q : ◌≡◌ {A = ℕ} 3 n = cc in
        (omega arith, omega arith)

    shaped : (x : Shape) → read_shape x d ≡ refused n → (1 ≤ n) × (n ≤ 7)
    shaped Unknown = unknown
    shaped (Basic rule) =
        unless (eqb (length d) 8) 5 (omega arith) (omega arith)
        (unless (eqb (sum_of d) 0) 6 (omega arith) (omega arith)
        (unless (fits rule (byte 3 d) (byte 4 d) (byte 5 d) (byte 6 d)) 7 (omega arith) (omega arith) never))
    shaped Unicast =
        unless (eqb (byte 3 d) 6) 4 (omega arith) (omega arith)
        (unless (eqb (length d) 11) 5 (omega arith) (omega arith)
        (unless (eqb (sum_of d) 0) 6 (omega arith) (omega arith) never))
    shaped Colour =
        unless (is_type (byte 5 d)) 4 (omega arith) (omega arith)
        (unless (eqb (length d) (colour_bytes (byte 5 d))) 5 (omega arith) (omega arith)
        (unless (eqb (sum_of d) 0) 6 (omega arith) (omega arith)
        (unless (is_lighting (byte 3 d)) 7 (omega arith) (omega arith) never)))

-- so a request asks for a change exactly if it is an accepted 31 or 33, and the change is that of its bytes
pub asked_full : (d : List ℕ) (x : Change) → asked d ≡ full x
    → (h : Heard) × (read_request d ≡ full h) × (((command_of h ≡ 0x31) × (x ≡ add (filter_at d))) ⊎ ((command_of h ≡ 0x33) × (x ≡ clear (filter_at d))))
asked_full d x f = go (read_request d) refl
  where
    go : (a : Answer Heard) → read_request d ≡ a
        → (h : Heard) × (read_request d ≡ full h) × (((command_of h ≡ 0x31) × (x ≡ add (filter_at d))) ⊎ ((command_of h ≡ 0x33) × (x ≡ clear (filter_at d))))
    go (refused k) e =
        let q : full x ≡ refused k = sym f ∙ asked_refused d k e in
        clash (cc)
    go (full h) e = (h, e, which (ℕ_discrete (command_of h) 0x31) (ℕ_discrete (command_of h) 0x33))
      where
        which : Dec (command_of h ≡ 0x31) → Dec (command_of h ≡ 0x33) → ((command_of h ≡ 0x31) × (x ≡ add (filter_at d))) ⊎ ((command_of h ≡ 0x33) × (x ≡ clear (filter_at d)))
        which (yes c) r = inl (c, full_one (sym f ∙ asked_31 d h e c))
        which (no n) (yes c) = inr (c, full_one (sym f ∙ asked_33 d h e c))
        which (no n) (no m) =
            let q : full x ≡ refused 18 = sym f ∙ asked_18 d h e n m in
            clash (cc)

pub asked_exactly : (d : List ℕ) → ((x : Change) × (asked d ≡ full x)) ↔ IsFilter d
asked_exactly d = ((λ y. to y.0 y.1), from)
  where
    to : (x : Change) → asked d ≡ full x → IsFilter d
    to x f =
        let y = asked_full d x f in
        (y.0, y.1, elim y.2 [ inl c ↦ inl c.0 | inr c ↦ inr c.0 ])

    from : IsFilter d → (x : Change) × (asked d ≡ full x)
    from (h, e, inl c) = (add (filter_at d), asked_31 d h e c)
    from (h, e, inr c) = (clear (filter_at d), asked_33 d h e c)

-- the filter of a change; its mask, where it is one of bytes, is a number of 16 bits
abbrev pub filter_of : Change → Filter
filter_of (add f) = f
filter_of (clear f) = f

bits_16 : (d : List ℕ) → Bytes d → (filter_at d).mask < 65536
bits_16 d b = number_below 2 (byte 5 d ∷ byte 6 d ∷ []) refl (bytes_cons (b.byte 5) (bytes_cons (b.byte 6) bytes_none))

pub mask_fits : (d : List ℕ) → Bytes d → (x : Change) → asked d ≡ full x → (filter_of x).mask < 65536
mask_fits d b x e = go (asked_full d x e).2
  where
    go : {A B : Type 0} → (A × (x ≡ add (filter_at d))) ⊎ (B × (x ≡ clear (filter_at d))) → (filter_of x).mask < 65536
    go (inl q) = rw q.1 (bits_16 d b)
    go (inr q) = rw q.1 (bits_16 d b)
