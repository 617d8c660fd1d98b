-- What "accepted" excludes, of any reader of datagrams. Document 02, W-211: "take an accepted datagram and change exactly one byte to another
-- value, and the result is refused .. two changed bytes may pass".
use Rattle.std.specs.Prelude.{ℕ, ◌%◌, ◌<◌, ◌≡◌, true, false, ◌&&◌, List, length, get_or, set, eqb}
use Rattle.std.specs.Int.Bits.{bit_xor}
use Rattle.refusal.specs.Answer.{Answer, is_full}
use Rattle.sum.specs.Bytes.{Bytes}
use Rattle.order.specs.Order.{Order}
use Rattle.change.specs.Change.{mended, changed, times, evenly, Burst}

-- a reader: what its answers say, and the definition that its contract names
module _ {X A : Type 0} (said : X → Answer A) (read : List ℕ → Answer A) where
  -- two datagrams of one length. x is what the reader answers to the first, which it accepts; x' is what it answers to the second
  pub record Beside (d d' : List ℕ) (x x' : X) : Type 0 where
    pub bytes : Bytes d
    pub bytes' : Bytes d'
    pub long : length d' ≡ length d
    pub answer : said x ≡ read d
    pub answer' : said x' ≡ read d'
    pub taken : is_full (said x) ≡ true

  pub record Excludes : Type 0 where
    -- ONE BYTE changed to another value, by whichever of its bits: refused
    pub one_changed : (d : List ℕ) (i b : ℕ) (x x' : X) → i < length d → (get_or d i 0 ≡ b → ⊥) → Beside d (set d i b) x x'
        → is_full (said x') ≡ false
    -- ONE SAME BIT changed in an odd number of bytes, whatever else was changed: refused
    pub odd_changed : (d d' : List ℕ) (k : ℕ) (x x' : X) → times k (changed d d') % 2 ≡ 1 → Beside d d' x x' → is_full (said x') ≡ false
    -- UP TO EIGHT BITS IN A ROW, wherever they begin: refused
    pub burst_changed : (o : Order) (p : ℕ) (d d' : List ℕ) (x x' : X) → Burst o p d d' → Beside d d' x x' → is_full (said x') ≡ false
    -- TWO BYTES changed: accepted exactly if both were by the same bits, and nothing but the sum would be wrong
    pub two_changed : (d : List ℕ) (i j b c : ℕ) (x x' : X) → i < j → j < length d → (get_or d i 0 ≡ b → ⊥) → (get_or d j 0 ≡ c → ⊥)
        → Beside d (set (set d i b) j c) x x'
        → is_full (said x') ≡ (is_full (read (mended (set (set d i b) j c))) && eqb (bit_xor (get_or d i 0) b) (bit_xor (get_or d j 0) c))
    -- so of two bytes exchanged the sum shows nothing
    pub two_exchanged : (d : List ℕ) (i j : ℕ) (x x' : X) → i < j → j < length d → (get_or d i 0 ≡ get_or d j 0 → ⊥)
        → Beside d (set (set d i (get_or d j 0)) j (get_or d i 0)) x x'
        → is_full (said x') ≡ is_full (read (mended (set (set d i (get_or d j 0)) j (get_or d i 0))))
    -- ANY CHANGE: accepted exactly if each of the eight bits was changed in an even number of bytes, and nothing but the sum would be wrong
    pub any_changed : (d d' : List ℕ) (x x' : X) → Beside d d' x x'
        → is_full (said x') ≡ (is_full (read (mended d')) && evenly 8 (changed d d'))
