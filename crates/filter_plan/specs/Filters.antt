-- Document 02, W-212: "Model the controller's filters, empty at first: at most 64 entries, one for each address and instance, mask never 0." They are
-- a list, in the order in which they were made; that they stay so is `kept` of Kept.
use Rattle.std.specs.Prelude.{ℕ, ◌-◌, Bool, ◌&&◌, List, [], ◌∷◌, eqb, leb, length}
use Rattle.std.specs.Int.Bits.{bit_and, bit_or}
use Rattle.refusal.specs.Test.{pick}
use Rattle.refusal.specs.Answer.{Answer, full, demand}
use Rattle.filter_asked.specs.declared.Filter.{Filter}
use Rattle.filter_asked.specs.declared.Change.{Change}
use Rattle.filter_asked.specs.declared.Change.TheVariants.{Add as add, Clear as clear}
use Rattle.filter_asked.specs.Asked.{is_named}

-- whether a filter is the entry of an address and an instance
abbrev pub is_of : ℕ → ℕ → Filter → Bool
is_of a i g = eqb g.address a && eqb g.instance i

abbrev pub with_mask : Filter → ℕ → Filter
with_mask g m = record { address = g.address; instance = g.instance; mask = m }

-- "Adding joins the mask to the entry or makes one; adding mask 0 changes nothing."
unfoldable pub added : Filter → List Filter → List Filter
added f [] = pick (eqb f.mask 0) [] (f ∷ [])
added f (g ∷ l) = pick (is_of f.address f.instance g) (with_mask g (bit_or g.mask f.mask) ∷ l) (g ∷ added f l)

-- "Clearing takes bits out and drops an entry that becomes 0; clearing where no entry is changes nothing."
abbrev pub without : ℕ → ℕ → ℕ
without m n = bit_and m (65535 - n)

abbrev pub or_dropped : Filter → List Filter → List Filter
or_dropped g l = pick (eqb g.mask 0) l (g ∷ l)

unfoldable pub cleared : Filter → List Filter → List Filter
cleared f [] = []
cleared f (g ∷ l) = pick (is_of f.address f.instance g) (or_dropped (with_mask g (without g.mask f.mask)) l) (g ∷ cleared f l)

abbrev pub changed : Change → List Filter → List Filter
changed (add f) l = added f l
changed (clear f) l = cleared f l

-- "19 for a 65th entry"
unfoldable pub next : Change → List Filter → Answer (List Filter)
next x l = demand (leb (length (changed x l)) 64) 19 (full (changed x l))

-- the mask of the entry of an address and an instance; 0 where no entry is
unfoldable pub mask_at : ℕ → ℕ → List Filter → ℕ
mask_at a i [] = 0
mask_at a i (g ∷ l) = pick (is_of a i g) g.mask (mask_at a i l)

-- "An event is hidden when its type's bit stands in its entry; types above 15 never are."
abbrev pub is_hidden : List Filter → ℕ → ℕ → ℕ → Bool
is_hidden l a i t = is_named (mask_at a i l) t
