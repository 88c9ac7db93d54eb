-- The colour and kind sets that the cells make, from the sets by cell number, and whether every cell is good.
use Rattle.std.proofs.Common.{◌≡◌, ℕ, ◌+◌, ◌<◌, ◌≤◌, Bool, true, false, not, ◌&&◌, ◌||◌, eqb, ltb, leb, ◌⊎◌, List, [], ◌∷◌, get_or, replicate, take, drop, fold, zero, suc, sym, ap, ◌∙◌, ap₂, inl, inr, ⊎_elim, arith, le-ltb, lt-ltb, eq-eqb, ne_eqb, le-leb}
use mathlib.Core.Bool.{beq, or-false}
use native.Mathlib.Decide.{ℕ_discrete}
use lib.Arith.{lt_of_le-ne}
use borrow.Author.Tests.{lt-leb, not-false}
use Rattle.squares.specs.declared.bitboard.Bitboard.{Bitboard}
use Rattle.squares.specs.Board.{on_board}
use Rattle.squares.specs.Kinds.{good_kind, good_cell, good_piece, colour_of, kind_of}
use Rattle.squares.specs.Sets.{set_of, tab, cell_at, family, empty_s, or_s, is_empty, all_good}
use Rattle.squares.specs.Inner.{cell_mark}
use Rattle.squares.specs.Answers.{MarksValue, marks_answer}
use Rattle.squares.proofs.Lists.{tab-same, get_d_tab}
use Rattle.squares.proofs.Steps.{board_on, board_range, decided}
use Rattle.squares.proofs.Members.{le-or-lt, set_of_cong, has-set_of}
use Rattle.squares.proofs.Tests.{all_at, all_from}
use Rattle.squares.proofs.Numbers.{good-cells, bad_cells}
use Rattle.squares.proofs.Counts.{size_rule}
use Rattle.squares.proofs.Least.{empty-none, empty-has}
use Rattle.squares.proofs.Rules.{empty_rule, or_rules}
use Rattle.squares.proofs.ByCell.{rule, set_at, by_cell_at, by_cell_last}

differ : ◌≡◌ {A = ℕ} 0 2 → ⊥
differ e = omega arith

-- ---- the numbers from lo on, k of them
abbrev within : ℕ → ℕ → ℕ → Bool
within lo k c = leb lo c && ltb c (lo + k)

within_none : (lo c : ℕ) → false ≡ within lo 0 c
within_none lo c =
    ⊎_elim (λ (h : lo ≤ c). rw (le-leb lo c h, le-ltb c (lo + 0) (omega arith))) (λ (h : c < lo). rw (lt-leb lo c h)) (le-or-lt lo c)

within_more : (lo k c : ℕ) → within lo k c || eqb c (lo + k) ≡ within lo (k + 1) c
within_more lo k c = go (ℕ_discrete c (lo + k))
  where
    go : Dec (c ≡ lo + k) → within lo k c || eqb c (lo + k) ≡ within lo (k + 1) c
    go (yes e) =
        rw (eq-eqb c (lo + k) e, le-leb lo c (omega arith), lt-ltb c (lo + (k + 1)) (omega arith), le-ltb c (lo + k) (omega arith))
    go (no d) =
        rw (ne_eqb c (lo + k) d)
        (or-false (within lo k c) ∙ ap (λ (t : Bool). leb lo c && t) (below (le-or-lt c (lo + k))))
      where
        below : (c ≤ lo + k) ⊎ (lo + k < c) → ltb c (lo + k) ≡ ltb c (lo + (k + 1))
        below (inl h) = lt-ltb c (lo + k) (lt_of_le-ne h d) ∙ sym (lt-ltb c (lo + (k + 1)) (omega arith))
        below (inr h) = le-ltb c (lo + k) (omega arith) ∙ sym (le-ltb c (lo + (k + 1)) (omega arith))

module _ (cells : List ℕ) where
  -- ---- a colour's set, kind by kind: the squares of the k pieces from lo on
  unfoldable pub side_to : ℕ → ℕ → Bitboard
  side_to lo k = set_of (λ n. within lo k (cell_at cells n))

  side-none : (lo : ℕ) → empty_s ≡ side_to lo 0
  unfolding side_to
  side-none lo = empty_rule ∙ set_of_cong (λ n. false) (λ n. within lo 0 (cell_at cells n)) (λ n o. within_none lo (cell_at cells n))

  -- the squares where one number stands
  unfoldable pub number_set : ℕ → Bitboard
  number_set k = set_of (λ n. eqb (cell_at cells n) k)

  side_more : (lo k : ℕ) (s : Bitboard) → s ≡ side_to lo k → or_s s (number_set (lo + k)) ≡ side_to lo (k + 1)
  unfolding side_to number_set
  side_more lo k s e =
      ap (λ (x : Bitboard). or_s x (set_of (λ n. eqb (cell_at cells n) (lo + k)))) e
      ∙ or_rules (λ n. within lo k (cell_at cells n)) (λ n. eqb (cell_at cells n) (lo + k))
      ∙ set_of_cong (λ n. within lo k (cell_at cells n) || eqb (cell_at cells n) (lo + k)) (λ n. within lo (k + 1) (cell_at cells n)) (λ n o. within_more lo k (cell_at cells n))

  -- fourteen sets by number: Black's come after 0, White's after 16
  unfoldable pub pieces_after : ℕ → List Bitboard
  pieces_after m = tab (λ k. number_set (m + k)) 1 14

  module _ (sets : List Bitboard) (f : sets ≡ family cell_mark 32 cells) where
    pub black_pieces : take 14 (drop 1 sets) ≡ pieces_after 0
    unfolding family pieces_after number_set tab
    black_pieces = ap (λ (l : List Bitboard). take 14 (drop 1 l)) f ∙ tab-same (λ k. set_of (rule cells (1 + k))) (λ k. number_set (0 + k)) 14 (λ k l h. let e : 0 + k ≡ k = omega arith in set_at cells k (omega arith) ∙ ap number_set (sym e))

    pub white_pieces : take 14 (drop 17 sets) ≡ pieces_after 16
    unfolding family pieces_after number_set tab
    white_pieces = ap (λ (l : List Bitboard). take 14 (drop 17 l)) f ∙ tab-same (λ k. set_of (rule cells (17 + k))) (λ k. number_set (16 + k)) 14 (λ k l h. let e : 17 + k ≡ 1 + (16 + k) = omega arith in ap (λ (x : ℕ). set_of (rule cells x)) e ∙ set_at cells (16 + k) (omega arith))

  gathered : (m i k : ℕ) (s : Bitboard) → s ≡ side_to (m + 1) i → fold or_s s (tab (λ j. number_set (m + j)) (suc i) k) ≡ side_to (m + 1) (i + k)
  unfolding tab
  gathered m i zero s e = e ∙ ap (side_to (m + 1)) (omega arith)
  gathered m i (suc k) s e =
      let j : m + suc i ≡ m + 1 + i = omega arith in
      gathered m (suc i) k _ (ap (λ (x : ℕ). or_s s (number_set x)) j ∙ side_more (m + 1) i s e ∙ ap (side_to (m + 1)) (omega arith))
      ∙ ap (side_to (m + 1)) (omega arith)

  -- together they are the side's set
  pub side-gathered : (m : ℕ) {l : List Bitboard} → l ≡ pieces_after m → fold or_s empty_s l ≡ side_to (m + 1) 14
  unfolding pieces_after
  side-gathered m e = ap (fold or_s empty_s) e ∙ gathered m 0 14 empty_s (side-none (m + 1))

  -- ---- a kind's set: the squares of its two pieces
  unfoldable pub both_of : ℕ → Bitboard
  both_of k = set_of (λ n. eqb (cell_at cells n) k || eqb (cell_at cells n) (k + 16))

  pub both_of_lem : (j : ℕ) (d e : Bitboard) {r : Bitboard} {blacks whites : List Bitboard} → j < 14 → blacks ≡ pieces_after 0 → whites ≡ pieces_after 16
      → r ≡ or_s (get_or blacks j d) (get_or whites j e) → r ≡ both_of (1 + j)
  unfolding both_of pieces_after number_set
  both_of_lem j d e h b w z =
      let y : 16 + (1 + j) ≡ 1 + j + 16 = omega arith in
      let x : 0 + (1 + j) ≡ 1 + j = omega arith in
      z
      ∙ ap₂ or_s
      (ap (λ (l : List Bitboard). get_or l j d) b ∙ get_d_tab (λ k. number_set (0 + k)) 1 14 j d h ∙ ap number_set x)
      (ap (λ (l : List Bitboard). get_or l j e) w ∙ get_d_tab (λ k. number_set (16 + k)) 1 14 j e h ∙ ap number_set y)
      ∙ or_rules (λ n. eqb (cell_at cells n) (1 + j)) (λ n. eqb (cell_at cells n) (1 + j + 16))

  -- ---- the squares of bad cells
  bad_set : (d e f : Bitboard) (sets : List Bitboard) → sets ≡ family cell_mark 32 cells
      → fold or_s empty_s (get_or sets 15 d ∷ get_or sets 16 e ∷ get_or sets 31 f ∷ []) ≡ set_of (λ n. not (good_cell (cell_at cells n)))
  bad_set d e f sets q =
      ap₂ or_s
      (ap₂ or_s
      (ap₂ or_s empty_rule (ap (λ (l : List Bitboard). get_or l 15 d) q ∙ by_cell_at cells 15 d (omega arith)) ∙ or_rules (λ n. false) (λ n. eqb (cell_at cells n) 15))
      (ap (λ (l : List Bitboard). get_or l 16 e) q ∙ by_cell_at cells 16 e (omega arith))
      ∙ or_rules (λ n. eqb (cell_at cells n) 15) (λ n. eqb (cell_at cells n) 16))
      (ap (λ (l : List Bitboard). get_or l 31 f) q ∙ by_cell_last cells f)
      ∙ or_rules (λ n. eqb (cell_at cells n) 15 || eqb (cell_at cells n) 16) (λ n. leb 31 (cell_at cells n))
      ∙ set_of_cong (λ n. (eqb (cell_at cells n) 15 || eqb (cell_at cells n) 16) || leb 31 (cell_at cells n)) (λ n. not (good_cell (cell_at cells n))) (λ n o. bad_cells (cell_at cells n))

  -- ---- every cell is good, as one test and square by square
  good-set : is_empty (set_of (λ n. not (good_cell (cell_at cells n)))) ≡ all_good cells
  unfolding all_good is_empty
  good-set = ap (λ (k : ℕ). eqb k 0) (size_rule (λ n. not (good_cell (cell_at cells n))))

  pub all_good_lem : all_good cells ≡ true → (n : ℕ) → 1 ≤ n → n ≤ 81 → good_cell (cell_at cells n) ≡ true
  all_good_lem e n lo hi =
      not-false (good_cell (cell_at cells n))
      (sym (ap (λ (t : Bool). t && not (good_cell (cell_at cells n))) (board_on 9 n lo hi)) ∙ sym (has-set_of (λ n. not (good_cell (cell_at cells n))) n)
      ∙ empty-has (set_of (λ n. not (good_cell (cell_at cells n)))) (good-set ∙ e) n)

  pub good_all : ((n : ℕ) → 1 ≤ n → n ≤ 81 → good_cell (cell_at cells n) ≡ true) → all_good cells ≡ true
  good_all g =
      sym good-set
      ∙ empty-none (set_of (λ n. not (good_cell (cell_at cells n)))) (λ n.
      has-set_of (λ n. not (good_cell (cell_at cells n))) n
      ∙ ⊎_elim (λ (o : on_board 9 n ≡ true). let b = board_range 9 n o in rw (o, g n b.0 b.1)) (λ (o : on_board 9 n ≡ false). rw o) (decided (on_board 9 n)))

  pub bad_told : (d e f : Bitboard) (sets : List Bitboard) → sets ≡ family cell_mark 32 cells
      → is_empty (fold or_s empty_s (get_or sets 15 d ∷ get_or sets 16 e ∷ get_or sets 31 f ∷ [])) ≡ all_good cells
  bad_told d e f sets q = ap is_empty (bad_set d e f sets q) ∙ good-set

  -- ---- of good cells these are the colour and kind sets
  module _ (good : all_good cells ≡ true) where
    side_colour : (lo c : ℕ) → ((x : ℕ) → good_cell x ≡ true → within lo 14 x ≡ eqb (colour_of x) c) → side_to lo 14 ≡ set_of (λ n. eqb (colour_of (cell_at cells n)) c)
    unfolding side_to
    side_colour lo c same =
        set_of_cong (λ n. within lo 14 (cell_at cells n)) (λ n. eqb (colour_of (cell_at cells n)) c)
        (λ n o. let b = board_range 9 n o in same (cell_at cells n) (all_good_lem good n b.0 b.1))

    colours : (side_to 1 14 ∷ side_to 17 14 ∷ []) ≡ family colour_of 2 cells
    unfolding family tab good_cell good_piece good_kind kind_of colour_of
    colours =
        ap₂ (λ (a b : Bitboard). a ∷ b ∷ []) (side_colour 1 1 (good-cells (within 1 14) (λ x. eqb (colour_of x) 1) tt))
        (side_colour 17 2 (good-cells (within 17 14) (λ x. eqb (colour_of x) 2) tt))

    kind_test : (k x : ℕ) → k ≤ 14 → good_cell x ≡ true → eqb x k || eqb x (k + 16) ≡ eqb (kind_of x) k
    unfolding good_cell good_piece good_kind kind_of
    kind_test k x h e =
        good-cells (λ x. eqb x k || eqb x (k + 16)) (λ x. eqb (kind_of x) k)
        (all_at (λ k. all_from (λ x. beq (good_cell x && (eqb x k || eqb x (k + 16))) (good_cell x && eqb (kind_of x) k)) 0 31) 15 tt k (omega arith)) x e

    kinds_made : tab both_of 1 14 ≡ family kind_of 14 cells
    unfolding family both_of
    kinds_made =
        tab-same both_of (λ k. set_of (λ n. eqb (kind_of (cell_at cells n)) k)) 14 (λ k l h.
        set_of_cong (λ n. eqb (cell_at cells n) k || eqb (cell_at cells n) (k + 16)) (λ n. eqb (kind_of (cell_at cells n)) k)
        (λ n o. let b = board_range 9 n o in kind_test k (cell_at cells n) h (all_good_lem good n b.0 b.1)))

    pub marks-good : (black white : Bitboard) (ks : List Bitboard) → black ≡ side_to 1 14 → white ≡ side_to 17 14 → ks ≡ tab both_of 1 14
        → record { number = 0; players = black ∷ white ∷ []; kinds = ks } ≡ marks_answer cells
    unfolding marks_answer
    marks-good black white ks b w k =
        rw good
        (ap₂ (λ (p q : List Bitboard). record { number = 0; players = p; kinds = q }) (ap₂ (λ (x y : Bitboard). x ∷ y ∷ []) b w ∙ colours) (k ∙ kinds_made))

  pub marks_bad : all_good cells ≡ false → record { number = 2; players = replicate 2 empty_s; kinds = replicate 14 empty_s } ≡ marks_answer cells
  unfolding marks_answer
  marks_bad bad = rw bad

  -- ---- what is told of the cells
  module _ (m : MarksValue) (e : m ≡ marks_answer cells) where
    pub marks_told : m.number ≡ 0 → all_good cells ≡ true
    unfolding marks_answer
    marks_told z = ⊎_elim (λ g. g) (λ b. absurd (differ (sym z ∙ ap (λ (x : MarksValue). x.number) e ∙ rw b))) (decided (all_good cells))

    pub marks-refused : (m.number ≡ 0 → ⊥) → all_good cells ≡ false
    unfolding marks_answer
    marks-refused z = ⊎_elim (λ g. absurd (z (ap (λ (x : MarksValue). x.number) e ∙ rw g))) (λ b. b) (decided (all_good cells))

    pub marks-players : all_good cells ≡ true → m.players ≡ family colour_of 2 cells
    unfolding marks_answer
    marks-players g = ap (λ (x : MarksValue). x.players) e ∙ rw g

    pub marks-kinds : all_good cells ≡ true → m.kinds ≡ family kind_of 14 cells
    unfolding marks_answer
    marks-kinds g = ap (λ (x : MarksValue). x.kinds) e ∙ rw g
