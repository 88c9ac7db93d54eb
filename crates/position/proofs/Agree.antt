-- Lists of sets compared with one another, and with what stands on a square.
use mathlib.Core.Path.{◌≡◌, refl, sym, ap, ap₂, ◌∙◌}
use Prim.Native.Nat.{ℕ, zero, suc, ◌+◌, ◌≤◌, ◌<◌}
use mathlib.Core.Bool.{Bool, true, false, ◌||◌, not, beq, or-true, true≢false, false≢true}
use mathlib.Core.Logic.{⊎_elim}
use mathlib.Core.List.{List}
use native.Mathlib.Omega.{arith}
use native.Mathlib.Numerals.{add-one}
use lib.ListN.{length, get_or}
use lib.Seq.{ext_get_or}
use lib.Dec.{eqb}
use Rattle.squares.specs.declared.bitboard.Bitboard.{Bitboard}
use Rattle.squares.specs.Sets.{has, clean, empty_s, exactly}
use Rattle.squares.proofs.Laws.{le-or-lt, get_d_any, exactly-same, exactly_other}
use Rattle.position.specs.Sound.{any_below, disagrees}
use Rattle.position.specs.Inner.{AllClean, Compared}

-- ---- some number below k
pub any_none : (f : ℕ → Bool) → any_below f 0 ≡ false
unfolding any_below
any_none f = refl

pub any_more : (f : ℕ → Bool) (k : ℕ) → any_below f k ≡ false → f k ≡ false → any_below f (k + 1) ≡ false
unfolding any_below
any_more f k a b = rw (add-one, b) a

pub any_at : (f : ℕ → Bool) (k n : ℕ) → k < n → f k ≡ true → any_below f n ≡ true
unfolding any_below
any_at f k zero h e = absurd (omega arith)
any_at f k (suc n) h e =
    ⊎_elim (λ (p : n ≤ k). let z : n ≡ k = omega arith in rw (z, e)) (λ (p : k < n). rw (any_at f k n p e) (or-true (f n))) (le-or-lt n k)

pub or_false_both : (a b : Bool) → a || b ≡ false → (a ≡ false) × (b ≡ false)
or_false_both true b h = absurd (true≢false h)
or_false_both false b h = (refl, h)

pub any_each : (f : ℕ → Bool) (n k : ℕ) → any_below f n ≡ false → k < n → f k ≡ false
unfolding any_below
any_each f zero k h l = absurd (omega arith)
any_each f (suc n) k h l =
    let o = or_false_both (f n) (any_below f n) h in
    ⊎_elim (λ (p : n ≤ k). let z : k ≡ n = omega arith in rw z o.0) (λ (p : k < n). any_each f n k o.1 p) (le-or-lt n k)

pub any_all : (f : ℕ → Bool) (n : ℕ) → ((k : ℕ) → k < n → f k ≡ false) → any_below f n ≡ false
unfolding any_below
any_all f zero h = refl
any_all f (suc n) h = rw (h n (omega arith)) (any_all f n (λ k l. h k (omega arith)))

pub any_same : (f g : ℕ → Bool) (n : ℕ) → ((k : ℕ) → k < n → f k ≡ g k) → any_below f n ≡ any_below g n
unfolding any_below
any_same f g zero h = refl
any_same f g (suc n) h = ap₂ (λ (a b : Bool). a || b) (h n (omega arith)) (any_same f g n (λ k l. h k (omega arith)))

-- ---- equal truth values
pub beq_false : (a b : Bool) → not (beq a b) ≡ false → a ≡ b
beq_false true true h = refl
beq_false true false h = h
beq_false false true h = sym h
beq_false false false h = refl

pub beq_same : (t : Bool) → not (beq t t) ≡ false
beq_same true = refl
beq_same false = refl

-- ---- lists of sets, the second without stray bits
module _ (a b : List Bitboard) (k : ℕ) (la : length a ≡ k) (lb : length b ≡ k) (c : AllClean b) where
  clean_at : (j : ℕ) (e : Bitboard) → j < k → clean (get_or b j e) ≡ true
  clean_at j e h = ap clean (get_d_any b j e empty_s (omega arith)) ∙ c j (omega arith)

  pub compared_all : ((j : ℕ) → j < k → get_or a j empty_s ≡ get_or b j empty_s) → Compared a b true
  compared_all h = record { same = λ _. ext_get_or empty_s a b (la ∙ sym lb) (λ j q. h j (omega arith)); differ = λ z. absurd (true≢false z) }

  pub compared_at : (j : ℕ) (d e : Bitboard) → j < k → exactly (get_or a j d) (get_or b j e) ≡ false → Compared a b false
  compared_at j d e h w =
      record {
        same = λ z. absurd (false≢true z);
        differ = λ _ q. exactly_other (get_or a j d) (get_or b j e) (clean_at j e h) w (get_d_any a j d e (omega arith) ∙ ap (λ (l : List Bitboard). get_or l j e) q);
      }

  pub equal_at : (j : ℕ) (d e : Bitboard) → j < k → exactly (get_or a j d) (get_or b j e) ≡ true → get_or a j empty_s ≡ get_or b j empty_s
  equal_at j d e h w = get_d_any a j empty_s d (omega arith) ∙ exactly-same (get_or a j d) (get_or b j e) (clean_at j e h) w ∙ get_d_any b j e empty_s (omega arith)

-- ---- a set and a mark
pub disagrees_is : (sets : List Bitboard) (mark n j : ℕ) (d : Bitboard) → j < length sets
    → not (beq (has (get_or sets j d) n) (eqb mark (j + 1))) ≡ disagrees sets mark n j
unfolding disagrees
disagrees_is sets mark n j d h = ap (λ (b : Bitboard). not (beq (has b n) (eqb mark (j + 1)))) (get_d_any sets j d empty_s h)
