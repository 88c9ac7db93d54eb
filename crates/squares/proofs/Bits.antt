-- The laws of `bit` and `word`: a bit of each machine operation, equality by bits, and the number of given bits.
use Rattle.std.proofs.Common.{◌≡◌, ℕ, zero, suc, ◌+◌, ◌-◌, ◌*◌, ◌/◌, ◌%◌, ◌^◌, ◌<◌, ◌≤◌, min, max, Bool, true, false, not, ◌&&◌, ◌||◌, eqb, ltb, leb, ◌⊎◌, sym, refl, ap, ◌∙◌, ap₂, inl, inr, true≢false, add-zero, add-suc, mod-lt, mod-eq_of_lt, add_comm, suc-add, one-mul, pow-suc, mul-one, div-one, mul-div_cancel, add-one, arith, shr-shr, le-ltb, lt-ltb}
use mathlib.Core.Bool.{beq, false≢true}
use native.Mathlib.Nat.{mod-one, sub-zero, suc-sub-suc, zero-div}
use lib.Dec.{leb-zero, leb-suc-zero, leb-suc-suc, eqb-zero-suc, eqb-suc-zero, eqb-suc-suc}
use lib.Arith.{lt-one, digits_mod}
use lib.Pow.{field, mod-mod-pow}
use lib.Bits.{bit_and, bit_or, bit_xor, and_shr, or_shr, xor_shr, and_step, or_step, xor_step, differ, shifted_half, shifted_even}
use Rattle.squares.specs.Bit.{odd, bit, digit, word, reversed9}

two_pos : zero < 2
two_pos = omega arith

-- a digit is 0 or 1
pub bin : (m : ℕ) → m < 2 → (m ≡ 0) ⊎ (m ≡ 1)
bin zero h = inl refl
bin (suc zero) h = inr refl
bin (suc (suc m)) h = absurd (omega arith)

-- ---- odd
flip2 : (x : ℕ) → x < 2 → (y : ℕ) → x + y ≡ 1 → eqb y 1 ≡ not (eqb x 1)
flip2 zero h y e = let z : y ≡ 1 = omega arith in ap (λ (z : ℕ). eqb z 1) z
flip2 (suc zero) h y e = let z : y ≡ 0 = omega arith in ap (λ (z : ℕ). eqb z 1) z
flip2 (suc (suc x)) h y e = absurd (omega arith)

pub odd_join : (q d : ℕ) → d < 2 → odd (q * 2 + d) ≡ eqb d 1
unfolding odd
odd_join q d h = ap (λ (x : ℕ). eqb x 1) (digits_mod q h)

-- what holds of the four pairs of digits
digits4 : (P : ℕ → ℕ → Type 0) → P 0 0 → P 0 1 → P 1 0 → P 1 1 → (x y : ℕ) → x < 2 → y < 2 → P x y
digits4 P a b c d zero zero hx hy = a
digits4 P a b c d zero (suc zero) hx hy = b
digits4 P a b c d (suc zero) zero hx hy = c
digits4 P a b c d (suc zero) (suc zero) hx hy = d
digits4 P a b c d (suc (suc x)) y hx hy = absurd (omega arith)
digits4 P a b c d zero (suc (suc y)) hx hy = absurd (omega arith)
digits4 P a b c d (suc zero) (suc (suc y)) hx hy = absurd (omega arith)

-- an operation on numbers that goes digit by digit, `f` on the digits, is `g` on their truth values
module _ (op f : ℕ → ℕ → ℕ) (g : Bool → Bool → Bool)
    (step : (a b : ℕ) → op a b ≡ op (a / 2) (b / 2) * 2 + f (a % 2) (b % 2))
    (shr : (a b k : ℕ) → op a b / 2 ^ k ≡ op (a / 2 ^ k) (b / 2 ^ k))
    (right : (x y : ℕ) → x < 2 → y < 2 → (f x y < 2) × (eqb (f x y) 1 ≡ g (eqb x 1) (eqb y 1))) where
  bit_op : (i a b : ℕ) → bit i (op a b) ≡ g (bit i a) (bit i b)
  unfolding bit odd
  bit_op i a b =
      let x : ℕ = a / 2 ^ i in
      let y : ℕ = b / 2 ^ i in
      let m = right (x % 2) (y % 2) (mod-lt x two_pos) (mod-lt y two_pos) in
      ap odd (shr a b i ∙ step x y) ∙ odd_join (op (x / 2) (y / 2)) (f (x % 2) (y % 2)) m.0 ∙ m.1

pub bit-and : (i a b : ℕ) → bit i (bit_and a b) ≡ bit i a && bit i b
bit-and =
    bit_op bit_and min (λ p q. p && q) and_step and_shr
    (digits4 (λ x y. (min x y < 2) × (eqb (min x y) 1 ≡ eqb x 1 && eqb y 1)) (omega arith, refl) (omega arith, refl) (omega arith, refl) (omega arith, refl))

pub bit-or : (i a b : ℕ) → bit i (bit_or a b) ≡ bit i a || bit i b
bit-or =
    bit_op bit_or max (λ p q. p || q) or_step or_shr
    (digits4 (λ x y. (max x y < 2) × (eqb (max x y) 1 ≡ eqb x 1 || eqb y 1)) (omega arith, refl) (omega arith, refl) (omega arith, refl) (omega arith, refl))

pub bit-xor : (i a b : ℕ) → bit i (bit_xor a b) ≡ not (beq (bit i a) (bit i b))
bit-xor =
    bit_op bit_xor differ (λ p q. not (beq p q)) xor_step xor_shr
    (digits4 (λ x y. (differ x y < 2) × (eqb (differ x y) 1 ≡ not (beq (eqb x 1) (eqb y 1)))) (omega arith, refl) (omega arith, refl) (omega arith, refl) (omega arith, refl))

-- ---- the lowest digit, and the rest
pub bit-zero : (n : ℕ) → bit 0 n ≡ odd n
unfolding bit
bit-zero n = ap odd (div-one n)

pub bit-suc : (i n : ℕ) → bit (suc i) n ≡ bit i (n / 2)
unfolding bit
bit-suc i n = ap odd (ap (λ (k : ℕ). n / 2 ^ k) (sym (add-one i) ∙ add_comm i 1) ∙ sym (shr-shr n 1 i))

pub bit-of-zero : (i : ℕ) → bit i 0 ≡ false
unfolding bit odd
bit-of-zero i = ap odd (zero-div (2 ^ i))

-- ---- shifts, and the low digits
pub bit_shr : (i k a : ℕ) → bit i (a / 2 ^ k) ≡ bit (i + k) a
unfolding bit
bit_shr i k a = ap odd (shr-shr a k i ∙ ap (λ (e : ℕ). a / 2 ^ e) (add_comm k i))

shl_even : (a k : ℕ) → odd (a * 2 ^ suc k) ≡ false
unfolding odd
shl_even a k = ap (λ (x : ℕ). eqb x 1) (shifted_even a k)

pub bit_shl : (i k a : ℕ) → bit i (a * 2 ^ k) ≡ leb k i && bit (i - k) a
bit_shl i zero a = rw (mul-one, sub-zero, leb-zero)
bit_shl zero (suc k) a = bit-zero (a * 2 ^ suc k) ∙ shl_even a k ∙ sym (ap (λ (t : Bool). t && bit (0 - suc k) a) (leb-suc-zero k))
bit_shl (suc i) (suc k) a =
    bit-suc i (a * 2 ^ suc k) ∙ ap (bit i) (shifted_half a k) ∙ bit_shl i k a
    ∙ sym (ap₂ (λ (t : Bool) (e : ℕ). t && bit e a) (leb-suc-suc k i) (suc-sub-suc i k))

low-odd : (w a : ℕ) → odd (a % 2 ^ suc w) ≡ odd a
unfolding odd
low-odd w a = ap (λ (x : ℕ). eqb x 1) (ap (λ (e : ℕ). a % 2 ^ e % 2) (sym (add-one w)) ∙ mod-mod-pow a w 1)

pub bit_mod : (i w a : ℕ) → bit i (a % 2 ^ w) ≡ ltb i w && bit i a
bit_mod i zero a = ap (bit i) (mod-one a) ∙ bit-of-zero i ∙ sym (ap (λ (t : Bool). t && bit i a) (leb-suc-zero i))
bit_mod zero (suc w) a = rw (bit-zero, bit-zero, leb-suc-suc, leb-zero) (low-odd w a)
bit_mod (suc i) (suc w) a =
    bit-suc i (a % 2 ^ suc w) ∙ ap (bit i) (ap (λ (e : ℕ). a % 2 ^ e / 2) (sym (add-one w)) ∙ field a w 1)
    ∙ bit_mod i w (a / 2) ∙ sym (ap₂ (λ (s t : Bool). s && t) (leb-suc-suc (suc i) w) (bit-suc i a))

-- `x << k` at 64 bits
pub bit_shl64 : (i k x : ℕ) → i < 64 → bit i ((x * 2 ^ k) % 2 ^ 64) ≡ leb k i && bit (i - k) x
bit_shl64 i k x h = bit_mod i 64 (x * 2 ^ k) ∙ ap (λ (t : Bool). t && bit i (x * 2 ^ k)) (lt-ltb i 64 h) ∙ bit_shl i k x

-- no digit stands past the number's length
pub bit_high : (i w : ℕ) {a : ℕ} → a < 2 ^ w → w ≤ i → bit i a ≡ false
bit_high i w {a} h l = sym (ap (bit i) (mod-eq_of_lt h)) ∙ bit_mod i w a ∙ ap (λ (t : Bool). t && bit i a) (le-ltb i w l)

-- ---- the complement, all ones, one digit alone
flips : (w a : ℕ) → a < 2 ^ suc w → odd (2 ^ suc w - 1 - a) ≡ not (odd a)
unfolding odd
flips w a h = flip2 (a % 2) (mod-lt a two_pos) ((2 ^ suc w - 1 - a) % 2) (omega (arith, pow-suc 2 w, h))

pub bit_not : (i w a : ℕ) → a < 2 ^ w → bit i (2 ^ w - 1 - a) ≡ ltb i w && not (bit i a)
bit_not i zero a h = ap (bit i) z ∙ bit-of-zero i ∙ sym (ap (λ (t : Bool). t && not (bit i a)) (leb-suc-zero i))
  where
    z : 2 ^ 0 - 1 - a ≡ 0
    z = omega arith
bit_not zero (suc w) a h = rw (bit-zero, bit-zero, leb-suc-suc, leb-zero) (flips w a h)
bit_not (suc i) (suc w) a h =
    bit-suc i (2 ^ suc w - 1 - a) ∙ ap (bit i) (omega (arith, pow-suc 2 w, h)) ∙ bit_not i w (a / 2) (omega (arith, pow-suc 2 w, h))
    ∙ sym (ap₂ (λ (s t : Bool). s && not t) (leb-suc-suc (suc i) w) (bit-suc i a))

pub bit_pow : (i k : ℕ) → bit i (2 ^ k) ≡ eqb i k
unfolding odd
bit_pow zero zero = bit-zero 1
bit_pow zero (suc k) = bit-zero (2 ^ suc k) ∙ ap odd (sym (one-mul (2 ^ suc k))) ∙ shl_even 1 k ∙ sym (eqb-zero-suc k)
bit_pow (suc i) zero = bit-suc i 1 ∙ bit-of-zero i ∙ sym (eqb-suc-zero i)
bit_pow (suc i) (suc k) =
    bit-suc i (2 ^ suc k) ∙ ap (bit i) (ap (λ (x : ℕ). x / 2) (pow-suc 2 k) ∙ mul-div_cancel (2 ^ k) two_pos) ∙ bit_pow i k ∙ sym (eqb-suc-suc i k)

-- ---- numbers of w digits are equal where their digits are
odd_mod : (a b : ℕ) → odd a ≡ odd b → a % 2 ≡ b % 2
unfolding odd
odd_mod a b = digits4 (λ x y. eqb x 1 ≡ eqb y 1 → x ≡ y) (λ e. refl) (λ e. absurd (false≢true e)) (λ e. absurd (true≢false e)) (λ e. refl) (a % 2) (b % 2) (mod-lt a two_pos) (mod-lt b two_pos)

pub bit_ext : (w a b : ℕ) → a < 2 ^ w → b < 2 ^ w → ((i : ℕ) → i < w → bit i a ≡ bit i b) → a ≡ b
bit_ext zero a b ha hb e = lt-one ha ∙ sym (lt-one hb)
bit_ext (suc w) a b ha hb e =
    let d : a % 2 ≡ b % 2 = odd_mod a b (sym (bit-zero a) ∙ e 0 (omega arith) ∙ bit-zero b) in
    let q : a / 2 ≡ b / 2 = bit_ext w (a / 2) (b / 2) (omega (arith, pow-suc 2 w)) (omega (arith, pow-suc 2 w)) (λ i h. sym (bit-suc i a) ∙ e (suc i) (omega arith) ∙ bit-suc i b) in
    omega arith

-- ---- the number of given digits
digit_lt : (t : Bool) → digit t < 2
unfolding digit
digit_lt true = omega arith
digit_lt false = omega arith

pub word_lt : (f : ℕ → Bool) (j k : ℕ) → word f j k < 2 ^ k
unfolding word
word_lt f j zero = omega arith
word_lt f j (suc k) = omega (arith, word_lt f (suc j) k, digit_lt (f j), pow-suc 2 k)

word-odd : (t : Bool) (x : ℕ) → odd (digit t + 2 * x) ≡ t
unfolding odd digit
word-odd true x = let e : (1 + 2 * x) % 2 ≡ 1 = omega arith in ap (λ (y : ℕ). eqb y 1) e
word-odd false x = let e : (0 + 2 * x) % 2 ≡ 0 = omega arith in ap (λ (y : ℕ). eqb y 1) e

word_half : (t : Bool) (x : ℕ) → (digit t + 2 * x) / 2 ≡ x
unfolding digit
word_half true x = omega arith
word_half false x = omega arith

pub bit_word : (f : ℕ → Bool) (i j k : ℕ) → i < k → bit i (word f j k) ≡ f (j + i)
unfolding word
bit_word f i j zero h = absurd (omega arith)
bit_word f zero j (suc k) h = bit-zero (word f j (suc k)) ∙ word-odd (f j) (word f (suc j) k) ∙ ap f (sym (add-zero j))
bit_word f (suc i) j (suc k) h =
    bit-suc i (word f j (suc k)) ∙ ap (bit i) (word_half (f j) (word f (suc j) k)) ∙ bit_word f i (suc j) k (omega arith)
    ∙ ap f (suc-add j i ∙ sym (add-suc j i))

-- ---- the k lowest bits of a number, last first
pub reversed_to : ℕ → ℕ → ℕ
reversed_to p k = word (λ i. bit (k - 1 - i) p) 0 k

word_later : (f : ℕ → Bool) (j k : ℕ) → word f (suc j) k ≡ word (λ i. f (suc i)) j k
unfolding word
word_later f j zero = refl
word_later f j (suc k) = ap (λ (x : ℕ). digit (f (suc j)) + 2 * x) (word_later f (suc j) k)

word_same : (f g : ℕ → Bool) (j k : ℕ) → ((i : ℕ) → f i ≡ g i) → word f j k ≡ word g j k
unfolding word
word_same f g j zero e = refl
word_same f g j (suc k) e = ap₂ (λ (t : Bool) (x : ℕ). digit t + 2 * x) (e j) (word_same f g (suc j) k e)

last-digit : (k p : ℕ) → digit (bit k p) ≡ p / 2 ^ k % 2
unfolding bit odd digit
last-digit k p = go (p / 2 ^ k % 2) (mod-lt (p / 2 ^ k) two_pos)
  where
    go : (x : ℕ) → x < 2 → digit (eqb x 1) ≡ x
    go zero h = refl
    go (suc zero) h = refl
    go (suc (suc x)) h = absurd (omega arith)

-- the next bit goes in below those that went before
pub reversed_more : (p k : ℕ) → reversed_to p (suc k) ≡ 2 * reversed_to p k + p / 2 ^ k % 2
unfolding reversed_to word
reversed_more p k =
    let e : suc k - 1 - 0 ≡ k = omega arith in
    let l : word (λ i. bit (suc k - 1 - i) p) 1 k ≡ word (λ i. bit (k - 1 - i) p) 0 k =
    word_later (λ i. bit (suc k - 1 - i) p) 0 k
    ∙ word_same (λ i. bit (suc k - 1 - suc i) p) (λ i. bit (k - 1 - i) p) 0 k (λ i. let q : suc k - 1 - suc i ≡ k - 1 - i = omega arith in ap (λ (x : ℕ). bit x p) q) in
    ap₂ (λ (a b : ℕ). a + 2 * b) (ap (λ (x : ℕ). digit (bit x p)) e ∙ last-digit k p) l ∙ add_comm (p / 2 ^ k % 2) (2 * reversed_to p k)

pub reversed_none : (p : ℕ) → reversed_to p 0 ≡ 0
unfolding reversed_to word
reversed_none p = refl

pub reversed_nine : (p : ℕ) → reversed_to p 9 ≡ reversed9 p
unfolding reversed_to reversed9
reversed_nine p = refl

pub reversed_lt : (p k : ℕ) → reversed_to p k < 2 ^ k
unfolding reversed_to
reversed_lt p k = word_lt (λ i. bit (k - 1 - i) p) 0 k
