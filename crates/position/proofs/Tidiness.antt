-- A position is sound exactly where its sets are those of its good cells and no fault lies elsewhere; kings and counts can
-- then be read off the sets.
use mathlib.Core.Path.{◌≡◌, refl, sym, ap, ap₂, ◌∙◌}
use Prim.Native.Nat.{ℕ, ◌+◌, ◌-◌, ◌*◌, ◌/◌, ◌%◌, ◌≤◌, ◌<◌}
use mathlib.Core.Bool.{Bool, true, false, ◌&&◌, ◌||◌, not, beq, and-false, false≢true}
use mathlib.Core.Logic.{⊎_elim}
use mathlib.Core.List.{List}
use native.Mathlib.Omega.{arith}
use native.Mathlib.Decide.{ℕ_discrete}
use lib.ListN.{length, get_or}
use lib.Dec.{eqb, leb, ltb, ltb→lt}
use borrow.Author.Tests.{eq-eqb, ne_eqb, eqb-false, eqb-true, le-leb, lt-leb, leb-true, le-ltb, lt-ltb, not-true, not-false}
use Rattle.squares.specs.declared.bitboard.Bitboard.{Bitboard}
use Rattle.squares.specs.declared.marks.Marks.{Marks}
use Rattle.squares.specs.declared.bad_number.BadNumber.{BadNumber}
use Rattle.std.specs.Prelude.{Ok, Err}
use Rattle.squares.specs.Answers.{marks_given, marks_answer}
use Rattle.squares.specs.Board.{on_board}
use Rattle.squares.specs.Kinds.{kinds, kind_row, good_kind, good_piece, good_cell, good_colour, colour_of, kind_of}
use Rattle.squares.specs.Sets.{has, set_of, clean, empty_s, and_s, or_s, size, smallest, without_s, all_good}
use Rattle.squares.proofs.Laws.{both, decided, all_at, all_from, rows_truth, le-or-lt, board_on, board_range, has-set_of, set_of_cong, clean-set_of, clean-has, and_rules, or_rules, First, smallest_is, smallest_at, smallest-none, size_without, size_none, has-without_s, has_off, size_rule, count_same, cell-piece, piece_kind, black_kind, piece_by}
use Rattle.position.specs.Machine.{Sized, cell_at, family}
use Rattle.position.specs.Sound.{any_below, disagrees, faulty_at, reading_at, first_fault, stray_in, king_wrong, standing, over_limit, good_ply, good_last, fault_elsewhere, sound}
use Rattle.position.specs.Inner.{AllClean, AllGood, Compared, Tidy, TidyTold, king_off, promoted_at, sets_size, over_by_sets}
use Rattle.position.specs.Answers.{first_fact, told_by, query_facts, told_query, soundness_told}
use Rattle.position.specs.declared.position.Position.{Position}
use Rattle.squares.proofs.Laws.{length-tab, is_tab, family_at, family-clean, all_good_lem, good_all, marks_told, marks-refused, marks-players, marks-kinds}
use Rattle.position.proofs.Agree.{any_all, any_each, any_same, or_false_both, beq_false, beq_same}
use Rattle.position.proofs.Kings.{KingIs, king_is, king_right}
use Rattle.position.proofs.Reading.{reading_range, reading_all, first_none, first_all}

-- ---- the sets of the cells
module _ (mark : ℕ → ℕ) (count : ℕ) (cells : List ℕ) where
  pub family-length : length (family mark count cells) ≡ count
  unfolding family
  family-length = length-tab (λ k. set_of (λ n. eqb (mark (cell_at cells n)) k)) 1 count

  agrees : (n : ℕ) → 1 ≤ n → n ≤ 81 → any_below (disagrees (family mark count cells) (mark (cell_at cells n)) n) count ≡ false
  unfolding disagrees
  agrees n lo hi =
      any_all (disagrees (family mark count cells) (mark (cell_at cells n)) n) count (λ j h.
      let y : j + 1 ≡ 1 + j = omega arith in
      let e : has (get_or (family mark count cells) j empty_s) n ≡ eqb (mark (cell_at cells n)) (j + 1) =
      ap (λ (s : Bitboard). has s n) (family_at mark count cells j empty_s h) ∙ has-set_of (λ m. eqb (mark (cell_at cells m)) (1 + j)) n
      ∙ ap (λ (t : Bool). t && eqb (mark (cell_at cells n)) (1 + j)) (board_on 9 n lo hi) ∙ ap (eqb (mark (cell_at cells n))) (sym y) in
      rw e (beq_same (eqb (mark (cell_at cells n)) (j + 1))))

  pub family-tidy : AllClean (family mark count cells)
  family-tidy j h = family-clean mark count cells j empty_s (omega (arith, family-length))

  tidy-sets : any_below (stray_in (family mark count cells)) count ≡ false
  unfolding stray_in
  tidy-sets =
      any_all (stray_in (family mark count cells)) count (λ j h.
      ap (λ (s : Bitboard). not (clean s)) (family_at mark count cells j empty_s h) ∙ ap not (clean-set_of (λ n. eqb (mark (cell_at cells n)) (1 + j))))

  -- sets without stray bits that agree with the cells everywhere are those of the cells
  pub sets_match : (sets : List Bitboard) → length sets ≡ count → any_below (stray_in sets) count ≡ false
      → ((n : ℕ) → 1 ≤ n → n ≤ 81 → any_below (disagrees sets (mark (cell_at cells n)) n) count ≡ false) → sets ≡ family mark count cells
  unfolding stray_in disagrees family
  sets_match sets size tidy agree =
      is_tab sets (λ k. set_of (λ n. eqb (mark (cell_at cells n)) k)) count empty_s size (λ j h.
      let y : j + 1 ≡ 1 + j = omega arith in
      sym (clean-has (get_or sets j empty_s) (not-false _ (any_each (stray_in sets) count j tidy h)))
      ∙ set_of_cong (has (get_or sets j empty_s)) (λ n. eqb (mark (cell_at cells n)) (1 + j)) (λ n o.
      let b = board_range 9 n o in
      beq_false _ _ (any_each (disagrees sets (mark (cell_at cells n)) n) count j (agree n b.0 b.1) h) ∙ ap (eqb (mark (cell_at cells n))) y))

-- ---- faults of cells
tidy-cell : (p : Position) (n : ℕ) → 1 ≤ n → n ≤ 81 → Tidy p → faulty_at p n ≡ false
unfolding faulty_at
tidy-cell p n lo hi t =
    let a : any_below (disagrees p.players (colour_of (cell_at p.board n)) n) 2 ≡ false =
    ap (λ (l : List Bitboard). any_below (disagrees l (colour_of (cell_at p.board n)) n) 2) t.players ∙ agrees colour_of 2 p.board n lo hi in
    let b : any_below (disagrees p.kinds (kind_of (cell_at p.board n)) n) 14 ≡ false =
    ap (λ (l : List Bitboard). any_below (disagrees l (kind_of (cell_at p.board n)) n) 14) t.kinds ∙ agrees kind_of 14 p.board n lo hi in
    rw (t.cells n lo hi, a, b)

cell_facts : (p : Position) (n : ℕ) → faulty_at p n ≡ false
    → (good_cell (cell_at p.board n) ≡ true) × (any_below (disagrees p.players (colour_of (cell_at p.board n)) n) 2 ≡ false)
    × (any_below (disagrees p.kinds (kind_of (cell_at p.board n)) n) 14 ≡ false)
unfolding faulty_at
cell_facts p n h =
    let a = or_false_both (not (good_cell (cell_at p.board n))) _ h in
    let b = or_false_both (any_below (disagrees p.players (colour_of (cell_at p.board n)) n) 2) _ a.1 in
    (not-false _ a.0, b.0, b.1)

module _ (p : Position) where
  pub tidy-fault : Tidy p → first_fault p ≡ 0
  unfolding first_fault
  tidy-fault t =
      first_all (faulty_at p) 0 81 (λ n a b. let r = reading_range n (omega arith) in tidy-cell p (reading_at n) r.0 r.1 t)

  no-fault : first_fault p ≡ 0 → (n : ℕ) → 1 ≤ n → n ≤ 81 → faulty_at p n ≡ false
  unfolding first_fault
  no-fault h n lo hi =
      let e : 0 + ((n - 1) % 9 * 9 + (8 - (n - 1) / 9)) ≡ (n - 1) % 9 * 9 + (8 - (n - 1) / 9) = omega arith in
      rw (e, reading_all n lo hi) at (first_none (faulty_at p) 0 81 (omega arith) h ((n - 1) % 9 * 9 + (8 - (n - 1) / 9)) (omega arith))

  -- a sound position is tidy
  pub sound-tidy : Sized p → sound p ≡ true → Tidy p
  unfolding sound fault_elsewhere
  sound-tidy z h =
      let q = both (eqb (first_fault p) 0) (not (fault_elsewhere p)) h in
      let first : first_fault p ≡ 0 = eqb-true (first_fault p) 0 q.0 in
      let a = or_false_both (any_below (stray_in p.players) 2) _ (not-true (fault_elsewhere p) q.1) in
      let b = or_false_both (any_below (stray_in p.kinds) 14) _ a.1 in
      record {
        cells = λ n lo hi. (cell_facts p n (no-fault first n lo hi)).0;
        players = sets_match colour_of 2 p.board p.players z.players a.0 (λ n lo hi. (cell_facts p n (no-fault first n lo hi)).1);
        kinds = sets_match kind_of 14 p.board p.kinds z.kinds b.0 (λ n lo hi. (cell_facts p n (no-fault first n lo hi)).2);
      }

  -- a tidy one is sound where no fault lies elsewhere
  pub tidy-sound : Tidy p → sound p ≡ not (fault_elsewhere p)
  unfolding sound
  tidy-sound t = rw (tidy-fault t)

  pub tidy_strays : Tidy p → (any_below (stray_in p.players) 2 ≡ false) × (any_below (stray_in p.kinds) 14 ≡ false)
  tidy_strays t = (
    ap (λ (l : List Bitboard). any_below (stray_in l) 2) t.players ∙ tidy-sets colour_of 2 p.board,
    ap (λ (l : List Bitboard). any_below (stray_in l) 14) t.kinds ∙ tidy-sets kind_of 14 p.board,
  )

-- ---- the squares of a king
module _ (cells : List ℕ) (king q : ℕ) where
  abbrev kings : Bitboard
  kings = set_of (λ n. eqb (cell_at cells n) king)

  has_king : (n : ℕ) → 1 ≤ n → n ≤ 81 → has kings n ≡ eqb (cell_at cells n) king
  has_king n lo hi = has-set_of (λ m. eqb (cell_at cells m) king) n ∙ ap (λ (t : Bool). t && eqb (cell_at cells n) king) (board_on 9 n lo hi)

  off_board : (n : ℕ) → (1 ≤ n → n ≤ 81 → has kings n ≡ false) → has kings n ≡ false
  off_board n h = ⊎_elim (λ (o : on_board 9 n ≡ true). let b = board_range 9 n o in h b.0 b.1) (has_off kings n) (decided (on_board 9 n))

  none_there : KingIs cells king q → q ≡ 0 → (m : ℕ) → has kings m ≡ false
  none_there o z m = off_board m (λ lo hi. has_king m lo hi ∙ o.only m lo hi ∙ ne_eqb q m (λ e. omega arith))

  only_off : KingIs cells king q → king_off kings q ≡ false
  unfolding king_off
  only_off o = ⊎_elim some none (le-or-lt 1 q)
    where
      none : q < 1 → not (eqb (smallest kings) q && leb (size kings) 1) ≡ false
      none z =
          let e : q ≡ 0 = omega arith in
          rw (smallest-none kings (none_there o e), size_none kings (none_there o e), eq-eqb 0 q (sym e))

      some : 1 ≤ q → not (eqb (smallest kings) q && leb (size kings) 1) ≡ false
      some l =
          let here : has kings q ≡ true = has_king q l o.high ∙ o.only q l o.high ∙ eq-eqb q q refl in
          let f : First (has kings) 1 81 q =
          record {
            from = l;
            to = omega arith;
            passes = here;
            least = λ m a b. has_king m a (omega arith) ∙ o.only m a (omega arith) ∙ ne_eqb q m (λ e. omega arith);
          } in
          let w = size_without kings q l o.high here in
          let z : size (without_s q kings) ≡ 0 = size_none (without_s q kings) (λ m. has-without_s q kings m ∙ gone m (ℕ_discrete m q)) in
          let s : size kings ≡ 1 = omega arith in
          rw (smallest_at kings q f, eq-eqb q q refl, s)
        where
          gone : (m : ℕ) → Dec (m ≡ q) → has kings m && not (eqb m q) ≡ false
          gone m (yes e) = ap (λ (t : Bool). has kings m && not t) (eq-eqb m q e) ∙ and-false (has kings m)
          gone m (no d) = ap (λ (t : Bool). t && not (eqb m q)) (off_board m (λ lo hi. has_king m lo hi ∙ o.only m lo hi ∙ ne_eqb q m (λ e. d (sym e))))

  off_only : king_off kings q ≡ false → KingIs cells king q
  unfolding king_off
  off_only h =
      let b = both (eqb (smallest kings) q) (leb (size kings) 1) (not-false _ h) in
      let at : smallest kings ≡ q = eqb-true (smallest kings) q b.0 in
      let few : size kings ≤ 1 = leb-true (size kings) 1 b.1 in
      ⊎_elim (some at few) (none at) (smallest_is kings)
    where
      none : smallest kings ≡ q → (smallest kings ≡ 0) × ((m : ℕ) → has kings m ≡ false) → KingIs cells king q
      none at z = record { high = omega (arith, z.0); only = λ n lo hi. sym (has_king n lo hi) ∙ z.1 n ∙ sym (ne_eqb q n (λ e. omega (arith, z.0))) }

      some : smallest kings ≡ q → size kings ≤ 1 → First (has kings) 1 81 (smallest kings) → KingIs cells king q
      some at few f = record { high = omega (arith, f.to); only = λ n lo hi. sym (has_king n lo hi) ∙ same n lo hi (ℕ_discrete n q) }
        where
          here : has kings q ≡ true
          here = ap (has kings) (sym at) ∙ f.passes

          same : (n : ℕ) → 1 ≤ n → n ≤ 81 → Dec (n ≡ q) → has kings n ≡ eqb q n
          same n lo hi (yes e) = ap (has kings) e ∙ here ∙ sym (eq-eqb q n (sym e))
          same n lo hi (no d) = ⊎_elim two (λ z. z ∙ sym (ne_eqb q n (λ e. d (sym e)))) (decided (has kings n))
            where
              two : has kings n ≡ true → has kings n ≡ eqb q n
              two t =
                  let w = size_without kings q (omega (arith, f.from)) (omega (arith, f.to)) here in
                  let v = size_without (without_s q kings) n lo hi (has-without_s q kings n ∙ ap₂ (λ (x y : Bool). x && not y) t (ne_eqb n q d)) in
                  absurd (omega arith)

  pub king_law : king_off kings q ≡ king_wrong cells king q
  king_law = ⊎_elim wrong (λ e. only_off (king_is cells king q e) ∙ sym e) (decided (king_wrong cells king q))
    where
      wrong : king_wrong cells king q ≡ true → king_off kings q ≡ king_wrong cells king q
      wrong e = ⊎_elim (λ t. t ∙ sym e) (λ f. absurd (false≢true (sym (king_right cells king q (off_only f)) ∙ e))) (decided (king_off kings q))

-- ---- the sets of a tidy position, by what stands on the squares
module _ (p : Position) (t : Tidy p) where
  pub player_set : (j : ℕ) (d : Bitboard) → j < 2 → get_or p.players j d ≡ set_of (λ n. eqb (colour_of (cell_at p.board n)) (1 + j))
  player_set j d h = ap (λ (l : List Bitboard). get_or l j d) t.players ∙ family_at colour_of 2 p.board j d h

  pub kind-set : (j : ℕ) (d : Bitboard) → j < 14 → get_or p.kinds j d ≡ set_of (λ n. eqb (kind_of (cell_at p.board n)) (1 + j))
  kind-set j d h = ap (λ (l : List Bitboard). get_or l j d) t.kinds ∙ family_at kind_of 14 p.board j d h

  pub piece_of_lem : (v i j : ℕ) (d e : Bitboard) → good_piece v ≡ true → i + 1 ≡ colour_of v → i < 2 → j + 1 ≡ kind_of v → j < 14
      → and_s (get_or p.players i d) (get_or p.kinds j e) ≡ set_of (λ n. eqb (cell_at p.board n) v)
  piece_of_lem v i j d e g ci hi kj hj =
      let a : 1 + i ≡ colour_of v = omega arith in
      let b : 1 + j ≡ kind_of v = omega arith in
      ap₂ and_s (player_set i d hi) (kind-set j e hj)
      ∙ and_rules (λ n. eqb (colour_of (cell_at p.board n)) (1 + i)) (λ n. eqb (kind_of (cell_at p.board n)) (1 + j))
      ∙ set_of_cong (λ n. eqb (colour_of (cell_at p.board n)) (1 + i) && eqb (kind_of (cell_at p.board n)) (1 + j)) (λ n. eqb (cell_at p.board n) v)
      (λ n o. let r = board_range 9 n o in rw (a, b) (piece_by (cell_at p.board n) v (t.cells n r.0 r.1) g))

  pub black_kings : (d e : Bitboard) → and_s (get_or p.players 0 d) (get_or p.kinds 7 e) ≡ set_of (λ n. eqb (cell_at p.board n) 8)
  unfolding good_piece good_kind colour_of kind_of
  black_kings d e = piece_of_lem 8 0 7 d e refl refl (omega arith) refl (omega arith)

  pub white_kings : (d e : Bitboard) → and_s (get_or p.players 1 d) (get_or p.kinds 7 e) ≡ set_of (λ n. eqb (cell_at p.board n) 24)
  unfolding good_piece good_kind colour_of kind_of
  white_kings d e = piece_of_lem 24 1 7 d e refl refl (omega arith) refl (omega arith)

  -- the squares of a king, by the sets of its colour and of kings
  pub black_off : (d e : Bitboard) → king_off (and_s (get_or p.players 0 d) (get_or p.kinds 7 e)) p.bking ≡ king_wrong p.board 8 p.bking
  black_off d e = ap (λ (s : Bitboard). king_off s p.bking) (black_kings d e) ∙ king_law p.board 8 p.bking

  pub white_off : (d e : Bitboard) → king_off (and_s (get_or p.players 1 d) (get_or p.kinds 7 e)) p.wking ≡ king_wrong p.board 24 p.wking
  white_off d e = ap (λ (s : Bitboard). king_off s p.wking) (white_kings d e) ∙ king_law p.board 24 p.wking

-- ---- the counts of a tidy position, by its sets
good-kind : (c : ℕ) → good_cell c ≡ true → kind_of c ≤ 14
good-kind c g = go (ℕ_discrete c 0)
  where
    go : Dec (c ≡ 0) → kind_of c ≤ 14
    go (yes e) = let z = black_kind c (omega arith) in omega arith
    go (no d) = (piece_kind c (cell-piece c g d)).1

-- kind κ counts as kind j + 1 where it is that kind or its promoted form
split : (j κ : ℕ) → j < 7 → κ ≤ 14 → eqb κ (1 + j) || eqb κ (1 + promoted_at j) ≡ eqb (kind_row κ).unpromoted (j + 1)
unfolding kind_row kinds promoted_at
split j κ hj hκ =
    rows_truth (λ κ. eqb κ (1 + j) || eqb κ (1 + promoted_at j)) (λ κ. eqb (kind_row κ).unpromoted (j + 1)) 0 15
    (all_at (λ i. all_from (λ κ. beq (eqb κ (1 + i) || eqb κ (1 + promoted_at i)) (eqb (kind_row κ).unpromoted (i + 1))) 0 15) 7 tt j hj) κ (omega arith) (omega arith)

pub promoted_at_lem : (j : ℕ) → j < 7 → promoted_at j < 14
unfolding kind_row kinds promoted_at
promoted_at_lem j h = ltb→lt (promoted_at j) 14 (all_at (λ i. ltb (promoted_at i) 14) 7 tt j h)

module _ (p : Position) (t : Tidy p) where
  abbrev is_kind : ℕ → ℕ → Bool
  is_kind k n = eqb (kind_of (cell_at p.board n)) k

  sets-size : (j : ℕ) → j < 7 → sets_size p.kinds j ≡ standing p.board (j + 1)
  unfolding sets_size standing
  sets-size j h =
      ap size (ap₂ or_s (kind-set p t j empty_s (omega arith)) (kind-set p t (promoted_at j) empty_s (promoted_at_lem j h)) ∙ or_rules (is_kind (1 + j)) (is_kind (1 + promoted_at j)))
      ∙ size_rule (λ n. is_kind (1 + j) n || is_kind (1 + promoted_at j) n)
      ∙ count_same (λ n. is_kind (1 + j) n || is_kind (1 + promoted_at j) n) (λ n. eqb (kind_row (kind_of (cell_at p.board n))).unpromoted (j + 1)) 1 1 81 (λ e l.
      split j (kind_of (cell_at p.board (1 + e))) h (good-kind (cell_at p.board (1 + e)) (t.cells (1 + e) (omega arith) (omega arith))))

  ltb_not : (a b : ℕ) → not (leb a b) ≡ ltb b a
  ltb_not a b = ⊎_elim (λ (h : a ≤ b). ap not (le-leb a b h) ∙ sym (le-ltb b a h)) (λ (h : b < a). ap not (lt-leb a b h) ∙ sym (lt-ltb b a h)) (le-or-lt a b)

  pub over_law : any_below (over_by_sets p.kinds p.hands) 7 ≡ any_below (over_limit p) 7
  unfolding over_by_sets over_limit
  over_law =
      any_same (over_by_sets p.kinds p.hands) (over_limit p) 7 (λ j h.
      ltb_not (sets_size p.kinds j + (get_or p.hands j 0 + get_or p.hands (j + 7) 0)) (kind_row (j + 1)).limit
      ∙ ap (λ (x : ℕ). ltb (kind_row (j + 1)).limit (x + (get_or p.hands j 0 + get_or p.hands (j + 7) 0))) (sets-size j h))

-- ---- the sets made anew have no stray bits
module _ (cells : List ℕ) (m : Marks) (of : marks_given (Ok m) ≡ marks_answer cells) where
  good : all_good cells ≡ true
  good = marks_told cells _ of refl

  players_are : m.players ≡ family colour_of 2 cells
  players_are = marks-players cells _ of good

  kinds_are : m.kinds ≡ family kind_of 14 cells
  kinds_are = marks-kinds cells _ of good

  pub players-clean : AllClean m.players
  players-clean = rw players_are (family-tidy colour_of 2 cells)

  pub kinds-clean : AllClean m.kinds
  kinds-clean = rw kinds_are (family-tidy kind_of 14 cells)

-- ---- what the comparison with them says
pub never_bad : (cells : List ℕ) (e : BadNumber) → AllGood cells → marks_given (Err e) ≡ marks_answer cells → ⊥
never_bad cells e good of = false≢true (sym (marks-refused cells _ of (eqb-false 2 0 refl)) ∙ good_all cells good)

pub tidy_bad : (p : Position) (e : BadNumber) → marks_given (Err e) ≡ marks_answer p.board → TidyTold p false
tidy_bad p e of =
    record {
      yes = λ z. absurd (false≢true z);
      no = λ _ t. never_bad p.board e t.cells of;
    }

module _ (p : Position) (m : Marks) (of : marks_given (Ok m) ≡ marks_answer p.board) where
  pub tidy-players : (a : Bool) → Compared p.players m.players a → a ≡ false → TidyTold p false
  tidy-players a q f = record { yes = λ z. absurd (false≢true z); no = λ _ t. q.differ f (t.players ∙ sym (players_are p.board m of)) }

  pub tidy-kinds : (a r : Bool) → Compared p.players m.players a → a ≡ true → Compared p.kinds m.kinds r → TidyTold p r
  tidy-kinds a r q f k =
      record {
        yes = λ z.
            record {
              cells = all_good_lem p.board (good p.board m of);
              players = q.same f ∙ players_are p.board m of;
              kinds = k.same z ∙ kinds_are p.board m of;
            };
        no = λ z t. k.differ z (t.kinds ∙ sym (kinds_are p.board m of));
      }

-- ---- the faults elsewhere of a tidy position, as they are looked for
pub elsewhere_tidy : (p : Position) → Tidy p
    → fault_elsewhere p
    ≡ ((king_wrong p.board 8 p.bking || king_wrong p.board 24 p.wking) || any_below (over_by_sets p.kinds p.hands) 7)
    || (not (good_colour p.side) || (not (good_ply p.ply) || not (good_last p.last)))
unfolding fault_elsewhere
elsewhere_tidy p t = let s = tidy_strays p t in rw (s.0, s.1, over_law p t) (grouped (king_wrong p.board 8 p.bking) (king_wrong p.board 24 p.wking) _ _)
  where
    grouped : (a b c d : Bool) → a || (b || (c || d)) ≡ ((a || b) || c) || d
    grouped true b c d = refl
    grouped false true c d = refl
    grouped false false c d = refl

-- ---- the soundness test's answer
pub told_sound : (p : Position) → sound p ≡ true → record { number = 0; square = 0 } ≡ soundness_told p
unfolding soundness_told told_query told_by query_facts first_fact
told_sound p e = rw e

pub told_unsound : (p : Position) → sound p ≡ false → record { number = 1; square = first_fault p } ≡ soundness_told p
unfolding soundness_told told_query told_by query_facts first_fact
told_unsound p e = rw e

pub untidy_unsound : (p : Position) → Sized p → (Tidy p → ⊥) → sound p ≡ false
untidy_unsound p z d = ⊎_elim (λ e. absurd (d (sound-tidy p z e))) (λ e. e) (decided (sound p))

pub told_bad : (p : Position) (bad : Bool) → bad ≡ true → record { number = 2; square = 0 } ≡ told_query bad p
unfolding told_query told_by query_facts first_fact
told_bad p bad e = rw e

pub told_query_lem : (p : Position) (bad : Bool) → bad ≡ false → soundness_told p ≡ told_query bad p
unfolding soundness_told
told_query_lem p bad e = rw e
