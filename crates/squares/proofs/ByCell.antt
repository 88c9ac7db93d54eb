-- The words that a walk over the cells makes, one bit at a time, and the sets of these words.
use Rattle.std.proofs.Common.{◌≡◌, ℕ, zero, suc, ◌+◌, ◌-◌, ◌*◌, ◌%◌, ◌^◌, mod-eq_of_lt, ◌<◌, ◌≤◌, Bool, true, false, eqb, leb, List, get_or, set, sym, refl, ap, ◌∙◌, ap₂, ⊎_elim, add-zero, add-suc, suc-add, pow-suc, arith, pow_mono, min, length, take, drop, le-ltb, lt-ltb, eq-eqb, ne_eqb, le-leb}
use Rattle.std.proofs.lemmas.List.{get_or-drop, get_or-take, length-take-le, length-drop}
use lib.Pow.{pow-lt}
use borrow.Author.Tests.{lt-leb}
use Rattle.squares.specs.Bit.{digit, word}
use Rattle.squares.specs.Sets.{tab, cell_at, set_of, family}
use Rattle.squares.specs.Inner.{cell_mark}
use Rattle.squares.specs.declared.bitboard.Bitboard.{Bitboard}
use Rattle.squares.proofs.Bits.{word_lt}
use Rattle.squares.proofs.Steps.{eqb_same}
use Rattle.squares.proofs.Members.{le-or-lt, set_of_cong}
use Rattle.squares.proofs.Lists.{get_d_tab, set-tab, tab-same}

pub mark-low : (c : ℕ) → c < 31 → c + 1 ≡ cell_mark c
unfolding cell_mark
mark-low c h = rw (lt-ltb c 31 h)

pub mark-high : (c : ℕ) → 31 ≤ c → 32 ≡ cell_mark c
unfolding cell_mark
mark-high c h = rw (le-ltb c 31 h)

-- the lesser of the two is a cell's place
pub mark_of : (c : ℕ) {m : ℕ} → m ≡ min c 31 → (m + 1 ≡ cell_mark c) × (m < 32)
mark_of c e =
    ⊎_elim (λ (l : c ≤ 30). let s : min c 31 ≡ c = omega arith in (ap (λ (k : ℕ). k + 1) (e ∙ s) ∙ mark-low c (omega arith), omega (arith, e, s)))
    (λ (l : 30 < c). let s : min c 31 ≡ 31 = omega arith in (ap (λ (k : ℕ). k + 1) (e ∙ s) ∙ mark-high c (omega arith), omega (arith, e, s)))
    (le-or-lt c 30)

-- the next bit of a word
pub next_bit : (b i : ℕ) → b ≡ 2 ^ i → i < 63 → b * 2 % 2 ^ 64 ≡ 2 ^ (i + 1)
next_bit b i e h =
    let s : i + 1 ≡ suc i = omega arith in
    let d : b * 2 ≡ 2 ^ (i + 1) = omega (arith, e, pow-suc 2 i, ap (λ (k : ℕ). 2 ^ k) s) in
    ap (λ (x : ℕ). x % 2 ^ 64) d ∙ mod-eq_of_lt (pow-lt {i = i + 1} {j = 64} (omega arith))

-- one bit more, at the top
word-yes : (f : ℕ → Bool) (s k : ℕ) → f (s + k) ≡ true → word f s (suc k) ≡ word f s k + 2 ^ k
unfolding word digit
word-yes f s zero e = let z : f s ≡ true = ap f (sym (add-zero s)) ∙ e in rw z
word-yes f s (suc k) e =
    let r : word f (suc s) (suc k) ≡ word f (suc s) k + 2 ^ k = word-yes f (suc s) k (ap f (suc-add s k ∙ sym (add-suc s k)) ∙ e) in
    omega (arith, r, pow-suc 2 k)

word-no : (f : ℕ → Bool) (s k : ℕ) → f (s + k) ≡ false → word f s (suc k) ≡ word f s k
unfolding word digit
word-no f s zero e = let z : f s ≡ false = ap f (sym (add-zero s)) ∙ e in rw z
word-no f s (suc k) e =
    let r : word f (suc s) (suc k) ≡ word f (suc s) k = word-no f (suc s) k (ap f (suc-add s k ∙ sym (add-suc s k)) ∙ e) in
    ap (λ (x : ℕ). digit (f s) + 2 * x) r

-- words of bits that agree
word-agrees : (f g : ℕ → Bool) (i j k : ℕ) → ((m : ℕ) → m < k → f (i + m) ≡ g (j + m)) → word f i k ≡ word g j k
unfolding word
word-agrees f g i j zero e = refl
word-agrees f g i j (suc k) e =
    ap₂ (λ (t : Bool) (x : ℕ). digit t + 2 * x) (ap f (sym (add-zero i)) ∙ e 0 (omega arith) ∙ ap g (add-zero j))
    (word-agrees f g (suc i) (suc j) k (λ m h. ap f (suc-add i m ∙ sym (add-suc i m)) ∙ e (suc m) (omega arith) ∙ ap g (add-suc j m ∙ sym (suc-add j m))))

module _ (cells : List ℕ) where
  abbrev pub rule : ℕ → ℕ → Bool
  rule k n = eqb (cell_mark (cell_at cells n)) k

  -- the words of the first i cells
  unfoldable pub words_to : ℕ → List ℕ
  words_to i = tab (λ k. word (rule k) 1 i) 1 32

  pub words_none : tab (λ k. 0) 1 32 ≡ words_to 0
  unfolding words_to word
  words_none = refl

  pub words_all : (i : ℕ) → length cells ≡ i → words_to i ≡ tab (λ k. word (rule k) 1 (length cells)) 1 32
  unfolding words_to
  words_all i e = rw e

  -- a word of i bits has room for the next
  pub words_room : (i at : ℕ) (ws : List ℕ) → ws ≡ words_to i → at < 32 → i < 63 → get_or ws at 0 + 2 ^ i < 2 ^ 64
  unfolding words_to
  words_room i at ws f h l =
      let w : get_or ws at 0 < 2 ^ i = rw (f, get_d_tab (λ k. word (rule k) 1 i) 1 32 at 0 h) (word_lt (rule (1 + at)) 1 i) in
      omega (arith, w, pow_mono {i = i} {j = 63} (omega arith))

  -- the next cell's bit joins the word of its place, and no other
  pub words_more : (i at : ℕ) (ws : List ℕ) → ws ≡ words_to i → at < 32 → at + 1 ≡ cell_mark (get_or cells i 0) → set ws at (get_or ws at 0 + 2 ^ i) ≡ words_to (i + 1)
  unfolding words_to
  words_more i at ws f h e =
      let z : at + 1 - 1 ≡ at = omega arith in
      let y : 1 + at ≡ at + 1 = omega arith in
      let s : i + 1 ≡ suc i = omega arith in
      let n : 1 + i - 1 ≡ i = omega arith in
      let m : cell_mark (cell_at cells (1 + i)) ≡ at + 1 = ap (λ (j : ℕ). cell_mark (get_or cells j 0)) n ∙ sym e in
      let g : get_or ws at 0 ≡ word (rule (at + 1)) 1 i = ap (λ (l : List ℕ). get_or l at 0) f ∙ get_d_tab (λ k. word (rule k) 1 i) 1 32 at 0 h ∙ ap (λ (k : ℕ). word (rule k) 1 i) y in
      ap₂ (λ (l : List ℕ) (j : ℕ). set l j (get_or ws at 0 + 2 ^ i)) f (sym z)
      ∙ set-tab (λ k. word (rule k) 1 i) (λ k. word (rule k) 1 (suc i)) 32 (at + 1) (get_or ws at 0 + 2 ^ i) (omega arith) (omega arith)
      (ap (λ (u : ℕ). u + 2 ^ i) g ∙ sym (word-yes (rule (at + 1)) 1 i (eq-eqb _ _ m)))
      (λ j a b w. sym (word-no (rule j) 1 i (ne_eqb _ _ (λ v. w (sym v ∙ m)))))
      ∙ ap words_to (sym s)

  -- the set of a place, from its two words
  unfoldable pub placed : ℕ → Bitboard
  placed k = set_of (rule k)

  pub placed_at : (k lo hi : ℕ) (low high : List ℕ) → k < 32 → low ≡ tab (λ k. word (rule k) 1 63) 1 32 → high ≡ tab (λ k. word (rule k) 64 18) 1 32
      → lo ≡ get_or low k 0 → hi ≡ get_or high k 0 → record { lo = lo; hi = hi } ≡ placed (1 + k)
  unfolding placed set_of
  placed_at k lo hi low high h el eh a b =
      ap₂ (λ (x y : ℕ). record { lo = x; hi = y })
      (a ∙ ap (λ (l : List ℕ). get_or l k 0) el ∙ get_d_tab (λ k. word (rule k) 1 63) 1 32 k 0 h)
      (b ∙ ap (λ (l : List ℕ). get_or l k 0) eh ∙ get_d_tab (λ k. word (rule k) 64 18) 1 32 k 0 h)

  -- the words of the first 63 cells, and of the rest
  module _ (long : length cells ≡ 81) where
    pub low_words : tab (λ k. word (λ n. eqb (cell_mark (cell_at (take 63 cells) n)) k) 1 (length (take 63 cells))) 1 32 ≡ tab (λ k. word (rule k) 1 63) 1 32
    low_words =
        ap (λ (i : ℕ). tab (λ k. word (λ n. eqb (cell_mark (cell_at (take 63 cells) n)) k) 1 i) 1 32) (length-take-le 63 cells (omega (arith, long)))
        ∙ tab-same (λ k. word (λ n. eqb (cell_mark (cell_at (take 63 cells) n)) k) 1 63) (λ k. word (rule k) 1 63) 32 (λ k a b.
        word-agrees (λ n. eqb (cell_mark (cell_at (take 63 cells) n)) k) (rule k) 1 1 63
        (λ m h. ap (λ (x : ℕ). eqb (cell_mark x) k) (get_or-take 63 cells (1 + m - 1) 0 (omega arith))))

    pub high_words : tab (λ k. word (λ n. eqb (cell_mark (cell_at (take 18 (drop 63 cells)) n)) k) 1 (length (take 18 (drop 63 cells)))) 1 32 ≡ tab (λ k. word (rule k) 64 18) 1 32
    high_words =
        ap (λ (i : ℕ). tab (λ k. word (λ n. eqb (cell_mark (cell_at (take 18 (drop 63 cells)) n)) k) 1 i) 1 32)
        (length-take-le 18 (drop 63 cells) (omega (arith, long, length-drop 63 cells)))
        ∙ tab-same (λ k. word (λ n. eqb (cell_mark (cell_at (take 18 (drop 63 cells)) n)) k) 1 18) (λ k. word (rule k) 64 18) 32 (λ k a b.
        word-agrees (λ n. eqb (cell_mark (cell_at (take 18 (drop 63 cells)) n)) k) (rule k) 1 64 18
        (λ m h.
        let f : 63 + (1 + m - 1) ≡ 64 + m - 1 = omega arith in
        ap (λ (x : ℕ). eqb (cell_mark x) k)
        (get_or-take 18 (drop 63 cells) (1 + m - 1) 0 (omega arith) ∙ get_or-drop 63 cells (1 + m - 1) 0 ∙ ap (λ (j : ℕ). get_or cells j 0) f)))

  pub placed_all : tab placed 1 32 ≡ family cell_mark 32 cells
  unfolding placed family
  placed_all = refl

  -- the sets by place: a number below 31 has its own, and the last is that of all others
  mark_is : (k c : ℕ) → k < 31 → eqb (cell_mark c) (1 + k) ≡ eqb c k
  mark_is k c h =
      ⊎_elim (λ (l : c ≤ 30). ap (λ (m : ℕ). eqb m (1 + k)) (sym (mark-low c (omega arith))) ∙ eqb_same (c + 1) (1 + k) c k (λ q. omega arith) (λ q. omega arith))
      (λ (l : 30 < c). ap (λ (m : ℕ). eqb m (1 + k)) (sym (mark-high c (omega arith))) ∙ ne_eqb 32 (1 + k) (λ q. omega arith) ∙ sym (ne_eqb c k (λ q. omega arith)))
      (le-or-lt c 30)

  mark-last : (c : ℕ) → eqb (cell_mark c) 32 ≡ leb 31 c
  mark-last c =
      ⊎_elim (λ (l : c ≤ 30). ap (λ (m : ℕ). eqb m 32) (sym (mark-low c (omega arith))) ∙ ne_eqb (c + 1) 32 (λ q. omega arith) ∙ sym (lt-leb 31 c (omega arith)))
      (λ (l : 30 < c). ap (λ (m : ℕ). eqb m 32) (sym (mark-high c (omega arith))) ∙ sym (le-leb 31 c (omega arith)))
      (le-or-lt c 30)

  pub set_at : (k : ℕ) → k < 31 → set_of (rule (1 + k)) ≡ set_of (λ n. eqb (cell_at cells n) k)
  set_at k h = set_of_cong (rule (1 + k)) (λ n. eqb (cell_at cells n) k) (λ n o. mark_is k (cell_at cells n) h)

  pub by_cell_at : (k : ℕ) (d : Bitboard) → k < 31 → get_or (family cell_mark 32 cells) k d ≡ set_of (λ n. eqb (cell_at cells n) k)
  unfolding family
  by_cell_at k d h =
      get_d_tab (λ k. set_of (rule k)) 1 32 k d (omega arith) ∙ set_at k h

  pub by_cell_last : (d : Bitboard) → get_or (family cell_mark 32 cells) 31 d ≡ set_of (λ n. leb 31 (cell_at cells n))
  unfolding family
  by_cell_last d =
      get_d_tab (λ k. set_of (rule k)) 1 32 31 d (omega arith) ∙ set_of_cong (rule 32) (λ n. leb 31 (cell_at cells n)) (λ n o. mark-last (cell_at cells n))
