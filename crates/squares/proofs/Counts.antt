-- The count of a set's members is the count of its words' bits.
use Rattle.std.proofs.Common.{◌≡◌, ℕ, zero, suc, ◌+◌, ◌/◌, ◌%◌, ◌^◌, ◌<◌, ◌≤◌, Bool, ◌&&◌, eqb, sym, refl, ap, ◌∙◌, ap₂, add-zero, add_assoc, add-suc, mod-lt, suc-add, pow-suc, zero-add, arith}
use native.Mathlib.Decide.{ℕ_discrete}
use lib.Arith.{lt-one, lt_of_le-ne}
use lib.Bits.{bit_and, mask_lt}
use lib.Count.{ones, ones_step}
use Rattle.squares.specs.Bit.{odd, bit, digit}
use Rattle.squares.specs.Sets.{has, set_of, count_of, size}
use Rattle.squares.specs.declared.bitboard.Bitboard.{Bitboard}
use Rattle.squares.proofs.Bits.{bit-zero, bit-suc}
use Rattle.squares.proofs.Members.{has_lo, has_hi, has_masked, has-set_of}
use Rattle.squares.proofs.Steps.{board_on}

pub count_same : (f g : ℕ → Bool) (i j k : ℕ) → ((e : ℕ) → e < k → f (i + e) ≡ g (j + e)) → count_of f i k ≡ count_of g j k
unfolding count_of
count_same f g i j zero h = refl
count_same f g i j (suc k) h =
    ap₂ (λ (b : Bool) (m : ℕ). digit b + m) (ap f (sym (add-zero i)) ∙ h 0 (omega arith) ∙ ap g (add-zero j))
    (count_same f g (suc i) (suc j) k (λ e l. ap f (suc-add i e ∙ sym (add-suc i e)) ∙ h (suc e) (omega arith) ∙ ap g (add-suc j e ∙ sym (suc-add j e))))

pub count-sum : (f g h : ℕ → Bool) (i k : ℕ) → ((e : ℕ) → e < k → digit (f (i + e)) ≡ digit (g (i + e)) + digit (h (i + e))) → count_of f i k ≡ count_of g i k + count_of h i k
unfolding count_of
count-sum f g h i zero q = refl
count-sum f g h i (suc k) q =
    let here : digit (f i) ≡ digit (g i) + digit (h i) = ap (λ (m : ℕ). digit (f m)) (sym (add-zero i)) ∙ q 0 (omega arith) ∙ ap (λ (m : ℕ). digit (g m) + digit (h m)) (add-zero i) in
    let rest = count-sum f g h (suc i) k (λ e l. ap (λ (m : ℕ). digit (f m)) (suc-add i e ∙ sym (add-suc i e)) ∙ q (suc e) (omega arith) ∙ ap (λ (m : ℕ). digit (g m) + digit (h m)) (add-suc i e ∙ sym (suc-add i e))) in
    omega arith

pub count_add : (f : ℕ → Bool) (i j k : ℕ) → count_of f i (j + k) ≡ count_of f i j + count_of f (i + j) k
unfolding count_of
count_add f i zero k = rw (zero-add, add-zero) (sym (zero-add (count_of f i k)))
count_add f i (suc j) k =
    ap (count_of f i) (suc-add j k) ∙ ap (λ (m : ℕ). digit (f i) + m) (count_add f (suc i) j k ∙ ap (λ (m : ℕ). count_of f (suc i) j + count_of f m k) (suc-add i j ∙ sym (add-suc i j)))
    ∙ sym (add_assoc (digit (f i)) (count_of f (suc i) j) (count_of f (i + suc j) k))

digit-of : (x : ℕ) → x < 2 → x ≡ digit (eqb x 1)
unfolding digit
digit-of zero h = refl
digit-of (suc zero) h = refl
digit-of (suc (suc x)) h = absurd (omega arith)

pub ones_count : (k x : ℕ) → x < 2 ^ k → ones x ≡ count_of (λ i. bit i x) 0 k
unfolding ones count_of odd
ones_count zero x h = ap ones (lt-one h)
ones_count (suc k) x h =
    ones_step x
    ∙ ap₂ (λ (a b : ℕ). a + b) (digit-of (x % 2) (mod-lt x (omega arith)) ∙ ap digit (sym (bit-zero x)))
    (ones_count k (x / 2) (omega (arith, pow-suc 2 k)) ∙ count_same (λ i. bit i (x / 2)) (λ i. bit i x) 0 1 k (λ e l. ap (λ (i : ℕ). bit i (x / 2)) (zero-add e) ∙ sym (bit-suc e x) ∙ ap (λ (i : ℕ). bit i x) (one e)))
  where
    one : (e : ℕ) → suc e ≡ 1 + e
    one e = omega arith

clean-count : (x y : ℕ) → x < 2 ^ 63 → y < 2 ^ 18 → ones x + ones y ≡ count_of (has (record { lo = x; hi = y })) 1 81
clean-count x y hx hy =
    let s : Bitboard = record { lo = x; hi = y } in
    ap₂ (λ (a b : ℕ). a + b)
    (ones_count 63 x hx ∙ count_same (λ i. bit i x) (has s) 0 1 63 (λ e l. ap (λ (i : ℕ). bit i x) (zero-add e) ∙ sym (has_lo s e l)))
    (ones_count 18 y hy ∙ count_same (λ i. bit i y) (has s) 0 64 18 (λ e l. ap (λ (i : ℕ). bit i y) (zero-add e) ∙ sym (has_hi s e l)))
    ∙ sym (count_add (has s) 1 63 18)

pub count_words : (s : Bitboard) → ones (bit_and s.lo 0x7fff_ffff_ffff_ffff) + ones (bit_and s.hi 0x3_ffff) ≡ size s
unfolding size
count_words s = clean-count _ _ (mask_lt s.lo 63) (mask_lt s.hi 18) ∙ ap (λ (f : ℕ → Bool). count_of f 1 81) (has_masked s)

-- the size of a set that is given by a rule
pub size_rule : (f : ℕ → Bool) → size (set_of f) ≡ count_of f 1 81
unfolding size
size_rule f =
    count_same (has (set_of f)) f 1 1 81 (λ e l. has-set_of f (1 + e) ∙ ap (λ (t : Bool). t && f (1 + e)) (board_on 9 (1 + e) (omega arith) (omega arith)))

-- a count when one number's test changes
pub count-change : (f g : ℕ → Bool) (i k n : ℕ) → i ≤ n → n < i + k → ((m : ℕ) → i ≤ m → (m ≡ n → ⊥) → g m ≡ f m)
    → count_of g i k + digit (f n) ≡ count_of f i k + digit (g n)
unfolding count_of
count-change f g i zero n l u h = absurd (omega arith)
count-change f g i (suc k) n l u h = by (ℕ_discrete i n) (λ q. count-change f g (suc i) k n q (omega arith) (λ m a d. h m (omega arith) d))
  where
    by : Dec (i ≡ n) → (suc i ≤ n → count_of g (suc i) k + digit (f n) ≡ count_of f (suc i) k + digit (g n))
        → (digit (g i) + count_of g (suc i) k) + digit (f n) ≡ (digit (f i) + count_of f (suc i) k) + digit (g n)
    by (yes e) r =
        let s = count_same g f (suc i) (suc i) k (λ j q. h (suc i + j) (omega arith) (λ z. omega arith)) in
        rw (s, e) (omega arith)
    by (no d) r =
        let q = r (lt_of_le-ne l d) in
        rw (h i (omega arith) d) (omega arith)
