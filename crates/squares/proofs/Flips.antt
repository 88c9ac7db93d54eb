-- The flip, file by file.
use Rattle.std.proofs.Common.{◌≡◌, ℕ, ◌+◌, ◌-◌, ◌*◌, ◌/◌, ◌%◌, ◌<◌, ◌≤◌, Bool, true, false, ◌&&◌, ◌||◌, eqb, ltb, sym, ap, ◌∙◌, ap₂, ⊎_elim, arith, le-ltb, lt-ltb, eq-eqb, ne_eqb}
use mathlib.Core.Bool.{and-true, and-false, or-false}
use native.Mathlib.Decide.{ℕ_discrete}
use Rattle.squares.specs.Bit.{bit, word, reversed9}
use Rattle.squares.specs.Board.{on_board, file_of, rank_of, flip_to}
use Rattle.squares.specs.Sets.{has, set_of, or_s, empty_s, file_s, pattern_of, flip_s}
use Rattle.squares.specs.declared.bitboard.Bitboard.{Bitboard}
use Rattle.squares.proofs.Members.{set_of_cong, has-set_of, le-or-lt}
use Rattle.squares.proofs.Bits.{bit_word, word_lt}
use Rattle.squares.proofs.Steps.{board_range}

-- the flipped squares of the files below `file`
unfoldable pub flipped : Bitboard → ℕ → Bitboard
flipped s file = set_of (λ n. has s (82 - n) && ltb 10 (file + file_of 9 n))

pub flipped_none : (s : Bitboard) → empty_s ≡ flipped s 1
unfolding flipped empty_s file_of
flipped_none s =
    set_of_cong (λ n. false) (λ n. has s (82 - n) && ltb 10 (1 + file_of 9 n))
    (λ n o. let b = board_range 9 n o in rw (le-ltb 10 (1 + ((n - 1) / 9 + 1)) (omega arith)) (sym (and-false (has s (82 - n)))))

pub flipped_all : (s : Bitboard) → flipped s 10 ≡ flip_s s
unfolding flipped flip_s flip_to file_of
flipped_all s =
    set_of_cong (λ n. has s (82 - n) && ltb 10 (10 + file_of 9 n)) (λ n. has s (82 - n))
    (λ n o. let b = board_range 9 n o in rw (lt-ltb 10 (10 + ((n - 1) / 9 + 1)) (omega arith)) (and-true (has s (82 - n))))

-- two tests that agree
ltb_same : (a b c : ℕ) → (a < b → a < c) → (b ≤ a → c ≤ a) → ltb a b ≡ ltb a c
ltb_same a b c f g = ⊎_elim (λ p. le-ltb a b p ∙ sym (le-ltb a c (g p))) (λ p. lt-ltb a b p ∙ sym (lt-ltb a c (f p))) (le-or-lt b a)

-- digit j of a reversed pattern of file f
turned : (s : Bitboard) (f j : ℕ) → j < 9 → bit j (reversed9 (pattern_of s f)) ≡ has s (9 * f - 8 + (8 - j))
unfolding reversed9 pattern_of
turned s f j h =
    let e : 0 + j ≡ j = omega arith in
    let l : 8 - j < 9 = omega arith in
    bit_word (λ i. bit (8 - i) (word (has s) (9 * f - 8) 9)) j 0 9 h
    ∙ ap (λ (i : ℕ). bit (8 - i) (word (has s) (9 * f - 8) 9)) e
    ∙ bit_word (has s) (8 - j) (9 * f - 8) 9 l

step_rule : (s : Bitboard) (f n : ℕ) → 1 ≤ f → f ≤ 9 → on_board 9 n ≡ true
    → (has s (82 - n) && ltb 10 (f + file_of 9 n)) || (eqb (file_of 9 n) (10 - f) && bit (rank_of 9 n - 1) (reversed9 (pattern_of s f))) ≡ has s (82 - n) && ltb 10 (f + 1 + file_of 9 n)
unfolding file_of rank_of
step_rule s f n l h o = go (ℕ_discrete ((n - 1) / 9 + 1) (10 - f))
  where
    near : (((n - 1) / 9 + 1) ≡ 10 - f → ⊥) → f + ((n - 1) / 9 + 1) ≤ 10 → f + 1 + ((n - 1) / 9 + 1) ≤ 10
    near k p = ⊎_elim (λ (q : f + 1 + ((n - 1) / 9 + 1) ≤ 10). q) (λ (q : 10 < f + 1 + ((n - 1) / 9 + 1)). absurd (k (omega arith))) (le-or-lt (f + 1 + ((n - 1) / 9 + 1)) 10)

    go : Dec (((n - 1) / 9 + 1) ≡ 10 - f)
        → (has s (82 - n) && ltb 10 (f + ((n - 1) / 9 + 1))) || (eqb ((n - 1) / 9 + 1) (10 - f) && bit ((n - 1) % 9 + 1 - 1) (reversed9 (pattern_of s f))) ≡ has s (82 - n) && ltb 10 (f + 1 + ((n - 1) / 9 + 1))
    go (yes e) =
        let b = board_range 9 n o in
        let m : 9 * f - 8 + (8 - ((n - 1) % 9 + 1 - 1)) ≡ 82 - n = omega arith in
        rw (le-ltb 10 (f + ((n - 1) / 9 + 1)) (omega arith), eq-eqb ((n - 1) / 9 + 1) (10 - f) e, lt-ltb 10 (f + 1 + ((n - 1) / 9 + 1)) (omega arith), turned s f ((n - 1) % 9 + 1 - 1) (omega arith), m)
        (ap (λ (t : Bool). t || has s (82 - n)) (and-false (has s (82 - n))) ∙ sym (and-true (has s (82 - n))))
    go (no k) =
        let z : ltb 10 (f + ((n - 1) / 9 + 1)) ≡ ltb 10 (f + 1 + ((n - 1) / 9 + 1)) = ltb_same 10 (f + ((n - 1) / 9 + 1)) (f + 1 + ((n - 1) / 9 + 1)) (λ p. omega arith) (near k) in
        rw (ne_eqb ((n - 1) / 9 + 1) (10 - f) k, z) (or-false (has s (82 - n) && ltb 10 (f + 1 + ((n - 1) / 9 + 1))))

pub flipped_more : (s : Bitboard) (f : ℕ) → 1 ≤ f → f ≤ 9 → or_s (flipped s f) (file_s (10 - f) (reversed9 (pattern_of s f))) ≡ flipped s (f + 1)
unfolding flipped or_s file_s
flipped_more s f l h =
    set_of_cong (λ n. has (flipped s f) n || has (file_s (10 - f) (reversed9 (pattern_of s f))) n) (λ n. has s (82 - n) && ltb 10 (f + 1 + file_of 9 n))
    (λ n o.
    ap₂ (λ (p q : Bool). p || q)
    (has-set_of (λ m. has s (82 - m) && ltb 10 (f + file_of 9 m)) n ∙ ap (λ (t : Bool). t && (has s (82 - n) && ltb 10 (f + file_of 9 n))) o)
    (has-set_of (λ m. eqb (file_of 9 m) (10 - f) && bit (rank_of 9 m - 1) (reversed9 (pattern_of s f))) n
    ∙ ap (λ (t : Bool). t && (eqb (file_of 9 n) (10 - f) && bit (rank_of 9 n - 1) (reversed9 (pattern_of s f)))) o)
    ∙ step_rule s f n l h o)

pub reversed_lt : (p : ℕ) → reversed9 p < 512
unfolding reversed9
reversed_lt p = word_lt (λ i. bit (8 - i) p) 0 9
