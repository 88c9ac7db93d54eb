-- The edits: the answer that goes with each number, the position that an edit makes, and what holds of every edit.
use mathlib.Core.Path.{◌≡◌, refl, sym, ap, ◌∙◌}
use Prim.Native.Nat.{ℕ, zero, suc, ◌+◌, ◌-◌, ◌≤◌, ◌<◌}
use mathlib.Core.Bool.{Bool, true, false, not, ◌&&◌, cond, true≢false}
use mathlib.Core.List.{List, [], ◌∷◌}
use Rattle.std.specs.Prelude.{Ok, Err}
use native.Mathlib.Omega.{arith}
use lib.ListN.{get_or, set}
use lib.Dec.{eqb}
use borrow.Author.Tests.{ne_eqb, not-false}
use Rattle.squares.specs.declared.bitboard.Bitboard.{Bitboard}
use Rattle.squares.specs.Board.{on_board, file_of, rank_of}
use Rattle.squares.specs.declared.marks.Marks.{Marks}
use Rattle.squares.specs.Bit.{digit}
use Rattle.squares.specs.Kinds.{good_colour, good_cell, good_piece, good_kind, colour_of, kind_of}
use Rattle.squares.specs.Sets.{set_of, and_s, has, smallest, first_of, count_of, all_good}
use Rattle.squares.specs.Answers.{pop_answer, marks_given, marks_answer}
use Rattle.squares.proofs.Laws.{both, board_range, board_on, has-set_of, pop-square, pop_nothing, smallest_at, smallest-none, all_good_lem, good_all, marks-players, marks-kinds}
use Rattle.position.specs.Machine.{Machine, machine, full, tab, cell_at, family, king_square, empty_position, start_ranks, start_cells, start_position}
use Rattle.position.specs.Sound.{good_ply, sound, first_fault}
use Rattle.position.specs.Answers.{done, told_of, answer_given, gives, first_fact, told_by, query_facts, told_query, soundness_told}
use Rattle.position.specs.Edits.{edit_facts, edited, with_cells, with_side, with_ply, side_edited, ply_edited}
use Rattle.position.specs.Inner.{AllGood, Tidy, if_sound}
use Rattle.position.specs.declared.position.Position.{Position}
use Rattle.position.specs.declared.mv.MoveNumbers.{MoveNumbers}
use Rattle.position.specs.declared.answers.Told.{Told}
use Rattle.position.specs.declared.answers.Refusal.{Refusal}
use Rattle.position.specs.declared.answers.Refusal.TheVariants.{EditNotSound}
use Rattle.position.proofs.Tidiness.{black_kings, white_kings, sound-tidy}
use Rattle.position.proofs.Asking.{refusal_number, passes_good, passes_sound}
use Rattle.position.proofs.Ladder.{first_refuses}
use Rattle.position.proofs.InOrder.{Sized, sound-full, sound_order, order_sound}
use Rattle.position.proofs.Kept.{store-good}
use Rattle.position.proofs.Exact.{Given, None, given_first, first_given, none_first, first_none}

-- ---- the answer of an edit that makes q of p
module _ (bad : Bool) (p : Position) (m : Machine) where
  pub edit_refused : (r : Refusal) → told_of r ≡ told_query bad p → answer_given p (Err r) ≡ edited bad p m
  unfolding edited edit_facts
  edit_refused r e = first_refuses p bad (gives 13 (not (sound (full m))) ∷ []) (full m) r e

  module _ (e : done ≡ told_query bad p) (q : Position) (made : q ≡ full m) where
    -- with what follows asked
    pub edit_asked : answer_given p (if_sound q) ≡ edited bad p m
    unfolding edited edit_facts told_by first_fact
    edit_asked = rw (passes_good p bad e, passes_sound p bad e, made) (by (sound (full m)))
      where
        by : (s : Bool) → answer_given p (cond s (Ok (full m)) (Err EditNotSound))
            ≡ record { told = record { number = cond (not s) 13 0; square = cond (eqb (cond (not s) 13 0) 1) (first_fault p) 0 }; position = cond (eqb (cond (not s) 13 0) 0) (full m) p }
        by true = refl
        by false = refl

    -- what follows is sound: no need to ask
    pub edit_sure : sound (full m) ≡ true → answer_given p (Ok q) ≡ edited bad p m
    edit_sure sure = let s : sound q ≡ true = ap sound made ∙ sure in rw s at edit_asked

-- ---- what would follow, asked
pub asked_unsound : (q : Position) (r : Refusal) → told_of r ≡ soundness_told q → Err EditNotSound ≡ if_sound q
unfolding soundness_told told_query told_by query_facts first_fact
asked_unsound q r e = by (sound q) (λ z. refusal_number r (ap (λ (x : Told). x.number) e ∙ z))
  where
    by : (s : Bool) → (◌≡◌ {A = ℕ} (cond (not s) 1 0) 0 → ⊥) → Err EditNotSound ≡ cond s (Ok q) (Err EditNotSound)
    by true d = absurd (d refl)
    by false d = refl

pub asked_sound : (q : Position) → done ≡ soundness_told q → Ok q ≡ if_sound q
unfolding soundness_told
asked_sound q e = rw (passes_sound q false e)

-- ---- a sound position with other hands, side or ply
abbrev with_others : Position → List ℕ → ℕ → MoveNumbers → ℕ → Position
with_others p hands side last ply =
    record {
      board = p.board;
      hands = hands;
      bking = p.bking;
      wking = p.wking;
      side = side;
      last = last;
      ply = ply;
      players = p.players;
      kinds = p.kinds;
    }

pub same-cells : (p : Position) → Sized p → sound p ≡ true → (hands : List ℕ) (side : ℕ) (last : MoveNumbers) (ply : ℕ)
    → with_others p hands side last ply ≡ full (record { cells = p.board; hands = hands; side = side; last = last; ply = ply })
unfolding full machine
same-cells p s h hands side last ply = ap (λ (q : Position). with_others q hands side last ply) (sound-full p s h)

-- ---- other cells
pub popped_first : (s : Bitboard) (n : ℕ) (r : Bitboard) → record { number = 0; found = true; square = n; set = r } ≡ pop_answer s → n ≡ smallest s
popped_first s n r e = sym (smallest_at s n (pop-square s n r e).least)

pub popped_none : (s r : Bitboard) → record { number = 0; found = false; square = 0; set = r } ≡ pop_answer s → 0 ≡ smallest s
popped_none s r e = sym (smallest-none s (pop_nothing s r e))

-- the first of the squares where a king stands
first_cong : (f g : ℕ → Bool) (i k : ℕ) → ((n : ℕ) → i ≤ n → n < i + k → f n ≡ g n) → first_of f i k ≡ first_of g i k
unfolding first_of
first_cong f g i zero h = refl
first_cong f g i (suc k) h = rw (h i (omega arith) (omega arith), first_cong f g (suc i) k (λ n a b. h n (omega arith) (omega arith)))

first_king : (cells : List ℕ) (king : ℕ) → smallest (set_of (λ n. eqb (cell_at cells n) king)) ≡ king_square cells king
unfolding king_square smallest
first_king cells king =
    first_cong (has (set_of (λ n. eqb (cell_at cells n) king))) (λ n. eqb (cell_at cells n) king) 1 81 (λ n a b.
    has-set_of (λ m. eqb (cell_at cells m) king) n ∙ ap (λ (t : Bool). t && eqb (cell_at cells n) king) (board_on 9 n a (omega arith)))

module _ (p : Position) (cells : List ℕ) (good : AllGood cells) (r : Marks) (of : marks_given (Ok r) ≡ marks_answer cells) where
  players_are : r.players ≡ family colour_of 2 cells
  players_are = marks-players cells _ of (good_all cells good)

  kinds_are : r.kinds ≡ family kind_of 14 cells
  kinds_are = marks-kinds cells _ of (good_all cells good)

  abbrev made : Position
  made =
      record {
        board = cells;
        hands = p.hands;
        bking = 0;
        wking = 0;
        side = p.side;
        last = p.last;
        ply = p.ply;
        players = r.players;
        kinds = r.kinds;
      }

  made_tidy : Tidy made
  made_tidy = record { cells = good; players = players_are; kinds = kinds_are }

  pub made_full : (d e f g : Bitboard) (b w : ℕ) → b ≡ smallest (and_s (get_or r.players 0 d) (get_or r.kinds 7 e))
      → w ≡ smallest (and_s (get_or r.players 1 f) (get_or r.kinds 7 g))
      → record {
        board = cells;
        hands = p.hands;
        bking = b;
        wking = w;
        side = p.side;
        last = p.last;
        ply = p.ply;
        players = r.players;
        kinds = r.kinds;
      }
      ≡ full (with_cells (machine p) cells)
  unfolding full with_cells machine
  made_full d e f g b w black white =
      rw (
        black ∙ ap smallest (black_kings made made_tidy d e) ∙ first_king cells 8,
        white ∙ ap smallest (white_kings made made_tidy f g) ∙ first_king cells 24,
        players_are,
        kinds_are,
      )

-- the start position from its cells
pub start-good : AllGood start_cells
unfolding all_good count_of digit good_cell good_piece good_kind kind_of start_cells start_ranks tab file_of rank_of
start-good = all_good_lem start_cells refl

pub start_made : full (with_cells (machine empty_position) start_cells) ≡ start_position
unfolding with_cells machine empty_position full start_position
start_made = refl

-- one cell changed, and good numbers
pub cell-good : (p : Position) → Sized p → sound p ≡ true → (n c : ℕ) → not (on_board 9 n && good_cell c) ≡ false
    → (on_board 9 n ≡ true) × AllGood (set p.board (n - 1) c)
cell-good p s h n c g =
    let b = both (on_board 9 n) (good_cell c) (not-false _ g) in
    let r = board_range 9 n b.0 in
    let t = sound-tidy p s h in (
      b.0,
      λ k lo hi.
          store-good p.board n c r.0 (omega (arith, r.1, s.board)) b.1 (λ m o. let q = board_range 9 m o in t.cells m q.0 q.1) k (board_on 9 k lo hi),
    )

-- ---- another side, another ply: a sound position stays sound, and 13 is never given
module _ (p : Position) (s : Sized p) (h : sound p ≡ true) where
  pub side-sound : (c : ℕ) → good_colour c ≡ true → sound (full (with_side (machine p) c)) ≡ true
  unfolding with_side
  side-sound c g =
      let o = sound_order p s h in
      order_sound (with_side (machine p) c) (record { cells = o.cells; black = o.black; white = o.white; counts = o.counts; side = g; ply = o.ply; last = o.last })

  pub ply-sound : (n : ℕ) → good_ply n ≡ true → sound (full (with_ply (machine p) n)) ≡ true
  unfolding with_ply
  ply-sound n g =
      let o = sound_order p s h in
      order_sound (with_ply (machine p) n) (record { cells = o.cells; black = o.black; white = o.white; counts = o.counts; side = o.side; ply = g; last = o.last })

never_unsound : (bad : Bool) (p : Position) (m : Machine) → (bad ≡ false → sound p ≡ true → sound (full m) ≡ true) → (edited bad p m).told.number ≡ 13 → ⊥
unfolding edited edit_facts told_by first_fact
never_unsound bad p m sure = by bad (sound p) (sound (full m)) sure
  where
    by : (a b c : Bool) → (a ≡ false → b ≡ true → c ≡ true) → ◌≡◌ {A = ℕ} (cond a 2 (cond (not b) 1 (cond (not c) 13 0))) 13 → ⊥
    by true b c f z = absurd (omega arith)
    by false false c f z = absurd (omega arith)
    by false true true f z = absurd (omega arith)
    by false true false f z = true≢false (sym (f refl refl))

pub side_never_13 : (p : Position) → Sized p → (c : ℕ) → (side_edited p c).told.number ≡ 13 → ⊥
unfolding side_edited
side_never_13 p s c = never_unsound (not (good_colour c)) p (with_side (machine p) c) (λ g h. side-sound p s h c (not-false _ g))

pub ply_never_13 : (p : Position) → Sized p → (n : ℕ) → (ply_edited p n).told.number ≡ 13 → ⊥
unfolding ply_edited
ply_never_13 p s n = never_unsound (not (good_ply n)) p (with_ply (machine p) n) (λ g h. ply-sound p s h n (not-false _ g))

-- ---- what holds of every edit: its number is given exactly when its fact holds and no earlier one does
module _ (bad : Bool) (p : Position) (m : Machine) where
  pub edit_given : (n : ℕ) → (n ≡ 0 → ⊥) → (edited bad p m).told.number ≡ n → Given n (edit_facts bad p m)
  unfolding edited told_by
  edit_given n d h = first_given n (edit_facts bad p m) d h

  pub given_edit : (n : ℕ) → Given n (edit_facts bad p m) → (edited bad p m).told.number ≡ n
  unfolding edited told_by
  given_edit n g = given_first g

  pub none_edit : None (edit_facts bad p m) → (edited bad p m).told.number ≡ 0
  unfolding edited told_by
  none_edit n = none_first n

  pub edit_none : (edited bad p m).told.number ≡ 0 → None (edit_facts bad p m)
  unfolding edited told_by edit_facts
  edit_none h = first_none (edit_facts bad p m) refl h

  -- a refused edit hands back the position as given
  pub edit_keeps : ((edited bad p m).told.number ≡ 0 → ⊥) → (edited bad p m).position ≡ p
  unfolding edited told_by
  edit_keeps d = rw (ne_eqb (first_fact (edit_facts bad p m)) 0 d)

  -- an accepted one makes the position of the machine, and that is sound
  pub edit_makes : (edited bad p m).told.number ≡ 0 → (edited bad p m).position ≡ full m
  unfolding edited told_by
  edit_makes e = rw e

  made_sound : first_fact (edit_facts bad p m) ≡ 0 → sound (full m) ≡ true
  unfolding edit_facts first_fact
  made_sound = by bad (sound p) (sound (full m))
    where
      by : (a b s : Bool) → ◌≡◌ {A = ℕ} (cond a 2 (cond (not b) 1 (cond (not s) 13 0))) 0 → s ≡ true
      by true b s z = absurd (omega arith)
      by false false s z = absurd (omega arith)
      by false true false z = absurd (omega arith)
      by false true true z = refl

  pub edit_sound : (edited bad p m).told.number ≡ 0 → sound (edited bad p m).position ≡ true
  unfolding edited told_by
  edit_sound e = rw e (made_sound e)
