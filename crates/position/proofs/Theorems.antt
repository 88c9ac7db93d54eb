-- What holds of make_move as it is defined: its numbers, refused calls, soundness, whole games; and the two given positions.
use mathlib.Core.Path.{◌≡◌, refl, ap, ◌∙◌}
use mathlib.Core.Logic.{◌⊎◌, ⊎_elim}
use Prim.Native.Nat.{ℕ, ◌+◌, ◌-◌}
use mathlib.Core.Bool.{Bool, true, false, cond}
use mathlib.Core.List.{List, [], ◌∷◌}
use lib.ListN.{length, get_or, set, replicate, length-set}
use lib.Dec.{eqb, ltb}
use borrow.Author.Tests.{eqb-true, eqb-false, ne_eqb, ltb-false}
use Rattle.squares.specs.Board.{file_of, rank_of}
use Rattle.squares.specs.Bit.{digit}
use Rattle.squares.specs.Kinds.{kind_row, kinds, good_colour, good_cell, good_piece, good_kind, hand_kind, colour_of, kind_of}
use Rattle.squares.specs.Sets.{count_of, all_good}
use Rattle.squares.proofs.Laws.{board_range, decided, all_good_lem}
use Rattle.position.specs.Machine.{Machine, machine, full, tab, cell_at, no_move, empty_position, start_ranks, start_cells, start_position}
use Rattle.position.specs.Sound.{sound, any_below, king_wrong, standing, top_ply, good_ply, good_last}
use Rattle.position.specs.Answers.{Answer, first_fact, told_by, last_move}
use Rattle.position.specs.Moves.{bad_move, normal_facts, drop_facts, rule_facts, move_facts, held, spent, moved, dropped, next, numbers_of, move_played}
use Rattle.position.specs.Games.{played_game, plain_number, plain_next, plain_answer, plain_game}
use Rattle.position.specs.declared.position.Position.{Position}
use Rattle.position.specs.declared.mv.Move.{Move}
use Rattle.position.specs.declared.mv.Move.TheVariants.{Normal, Drop}
use Rattle.std.specs.Prelude.{Some}
use Rattle.position.proofs.Agree.{any_each}
use Rattle.position.proofs.Tidiness.{family-length}
use Rattle.position.proofs.Kings.{king_is}
use Rattle.position.proofs.InOrder.{InOrder, Sized, sound-full, sound_order, order_sound}
use Rattle.position.proofs.Ladder.{never_one, normal_passes, drop_passes}
use Rattle.position.proofs.Kept.{itself, moved_order, dropped_order}
use Rattle.position.proofs.Exact.{Given, None, nonzero, given_first, first_given, none_first, first_none}

numbered : (p : Position) (v : Move) → nonzero (move_facts p v) ≡ true
unfolding move_facts rule_facts normal_facts drop_facts
numbered p (Normal from to promote) = refl
numbered p (Drop piece to) = refl

-- ---- the numbers of make_move, each exactly when its fact holds and no earlier one does
module _ (p : Position) (v : Move) where
  pub number-given : (n : ℕ) → (n ≡ 0 → ⊥) → (move_played p v).told.number ≡ n → Given n (move_facts p v)
  unfolding move_played told_by
  number-given n d h = first_given n (move_facts p v) d h

  pub given-number : (n : ℕ) → Given n (move_facts p v) → (move_played p v).told.number ≡ n
  unfolding move_played told_by
  given-number n g = given_first g

  pub none_done : None (move_facts p v) → (move_played p v).told.number ≡ 0
  unfolding move_played told_by
  none_done n = none_first n

  pub done_none : (move_played p v).told.number ≡ 0 → None (move_facts p v)
  unfolding move_played told_by
  done_none h = first_none (move_facts p v) (numbered p v) h

  -- a refused call hands back the position as given
  pub refused_keeps : ((move_played p v).told.number ≡ 0 → ⊥) → (move_played p v).position ≡ p
  unfolding move_played told_by
  refused_keeps d = rw (ne_eqb (first_fact (move_facts p v)) 0 d)

  pub done_plays : (move_played p v).told.number ≡ 0 → (move_played p v).position ≡ full (next (machine p) v)
  unfolding move_played told_by
  done_plays e = rw e

-- ---- a stored move says what was played
pub recorded : (v : Move) → last_move (numbers_of v) ≡ Some v
unfolding last_move numbers_of
recorded (Normal from to true) = refl
recorded (Normal from to false) = refl
recorded (Drop piece to) = refl

-- ---- the lengths of the arrays stay
held-length : (side t : ℕ) (hands : List ℕ) → length (held side t hands) ≡ length hands
unfolding held
held-length side t hands = by (eqb (hand_kind (kind_of t)) 0) _ _
  where
    by : (b : Bool) (i x : ℕ) → length (cond b hands (set hands i x)) ≡ length hands
    by true i x = refl
    by false i x = length-set hands i x

next-cells : (m : Machine) (v : Move) → length (next m v).cells ≡ length m.cells
unfolding next moved dropped
next-cells m (Normal from to promote) = length-set (set m.cells (from - 1) 0) (to - 1) _ ∙ length-set m.cells (from - 1) 0
next-cells m (Drop piece to) = length-set m.cells (to - 1) piece

next-hands : (m : Machine) (v : Move) → length (next m v).hands ≡ length m.hands
unfolding next moved dropped spent
next-hands m (Normal from to promote) = held-length m.side (cell_at m.cells to) m.hands
next-hands m (Drop piece to) = length-set m.hands _ _

full_sized : (m : Machine) → length m.cells ≡ 81 → length m.hands ≡ 14 → Sized (full m)
unfolding full
full_sized m c h =
    record { board = c; hands = h; players = family-length colour_of 2 m.cells; kinds = family-length kind_of 14 m.cells }

-- ---- on a sound position make_move answers as the plain machine
next_order : (m : Machine) (v : Move) → InOrder m → length m.cells ≡ 81 → length m.hands ≡ 14 → bad_move v ≡ false → first_fact (rule_facts m v) ≡ 0
    → InOrder (next m v)
unfolding next
next_order m (Normal from to promote) g c h e z = moved_order m from to promote g c (normal_passes m from to promote e z) h
next_order m (Drop piece to) g c h e z = dropped_order m piece to g c (drop_passes m piece to e z) h

module _ (p : Position) (s : Sized p) (h : sound p ≡ true) where
  same_number : (v : Move) → first_fact (move_facts p v) ≡ plain_number (machine p) v
  unfolding move_facts plain_number first_fact
  same_number v = rw h

  never : (v : Move) → plain_number (machine p) v ≡ 1 → ⊥
  unfolding plain_number first_fact
  never v = by (bad_move v)
    where
      by : (b : Bool) → cond b 2 (first_fact (rule_facts (machine p) v)) ≡ 1 → ⊥
      by true e = absurd (eqb-false 2 1 refl e)
      by false e = never_one (machine p) v e

  -- THE law of the call
  pub plays_plain : (v : Move) → move_played p v ≡ plain_answer (machine p) v
  unfolding move_played told_by plain_answer plain_next
  plays_plain v =
      rw (same_number v, ne_eqb (plain_number (machine p) v) 1 (never v))
      (ap (λ (q : Position). record { told = record { number = plain_number (machine p) v; square = 0 }; position = q }) (by (eqb (plain_number (machine p) v) 0)))
    where
      by : (b : Bool) → cond b (full (next (machine p) v)) p ≡ full (cond b (next (machine p) v) (machine p))
      by true = refl
      by false = sound-full p s h

-- ---- the plain machine stays in order
module _ (m : Machine) (v : Move) where
  by_number : (P : Machine → Type 0) → P m → (bad_move v ≡ false → first_fact (rule_facts m v) ≡ 0 → P (next m v)) → P (plain_next m v)
  unfolding plain_next plain_number first_fact
  by_number P stay go = by (bad_move v) refl (decided (eqb (cond (bad_move v) 2 (first_fact (rule_facts m v))) 0))
    where
      by : (b : Bool) → bad_move v ≡ b → (eqb (cond (bad_move v) 2 (first_fact (rule_facts m v))) 0 ≡ true) ⊎ (eqb (cond (bad_move v) 2 (first_fact (rule_facts m v))) 0 ≡ false)
          → P (cond (eqb (cond (bad_move v) 2 (first_fact (rule_facts m v))) 0) (next m v) m)
      by true e w = rw e stay
      by false e w =
          ⊎_elim (λ (z : eqb (cond (bad_move v) 2 (first_fact (rule_facts m v))) 0 ≡ true). rw z (go e (eqb-true _ 0 (rw e at z))))
          (λ (z : eqb (cond (bad_move v) 2 (first_fact (rule_facts m v))) 0 ≡ false). rw z stay) w

  plain_cells : length (plain_next m v).cells ≡ length m.cells
  plain_cells = by_number (λ n. length n.cells ≡ length m.cells) refl (λ e z. next-cells m v)

  plain_hands : length (plain_next m v).hands ≡ length m.hands
  plain_hands = by_number (λ n. length n.hands ≡ length m.hands) refl (λ e z. next-hands m v)

  plain_order : InOrder m → length m.cells ≡ 81 → length m.hands ≡ 14 → InOrder (plain_next m v)
  plain_order g c h = by_number InOrder g (next_order m v g c h)

-- ---- a sound position stays sound, whatever the call answers
module _ (p : Position) (s : Sized p) (h : sound p ≡ true) (v : Move) where
  after : (move_played p v).position ≡ full (plain_next (machine p) v)
  unfolding plain_answer
  after = ap (λ (r : Answer). r.position) (plays_plain p s h v)

  pub stays_sound : sound (move_played p v).position ≡ true
  unfolding machine
  stays_sound = rw after (order_sound (plain_next (machine p) v) (plain_order (machine p) v (sound_order p s h) s.board s.hands))

  pub stays_sized : Sized (move_played p v).position
  unfolding machine
  stays_sized = rw after (full_sized (plain_next (machine p) v) (plain_cells (machine p) v ∙ s.board) (plain_hands (machine p) v ∙ s.hands))

plain_position : (m : Machine) (v : Move) → (plain_answer m v).position ≡ full (plain_next m v)
unfolding plain_answer
plain_position m v = refl

machine-full : (m : Machine) → machine (full m) ≡ m
unfolding machine full
machine-full m = refl

-- ---- a whole game: at every move the answer and the position that the plain machine gives
whole-game : (m : Machine) → InOrder m → length m.cells ≡ 81 → length m.hands ≡ 14 → (vs : List Move) → played_game (full m) vs ≡ plain_game m vs
unfolding played_game plain_game
whole-game m g c h [] = refl
whole-game m g c h (v ∷ vs) =
    step (move_played (full m) v) (plays_plain (full m) (full_sized m c h) (order_sound m g) v ∙ ap (λ (n : Machine). plain_answer n v) (machine-full m))
    (whole-game (plain_next m v) (plain_order m v g c h) (plain_cells m v ∙ c) (plain_hands m v ∙ h) vs)
  where
    step : (r : Answer) → r ≡ plain_answer m v → played_game (full (plain_next m v)) vs ≡ plain_game (plain_next m v) vs
        → r ∷ played_game r.position vs ≡ plain_answer m v ∷ plain_game (plain_next m v) vs
    step r e i = rw e (ap (λ (l : List Answer). plain_answer m v ∷ l) (at_plain ∙ i))
      where
        at_plain : played_game (plain_answer m v).position vs ≡ played_game (full (plain_next m v)) vs
        at_plain = ap (λ (q : Position). played_game q vs) (plain_position m v)

pub game_plain : (p : Position) → Sized p → sound p ≡ true → (vs : List Move) → played_game p vs ≡ plain_game (machine p) vs
unfolding machine
game_plain p s h vs = ap (λ (q : Position). played_game q vs) (sound-full p s h) ∙ whole-game (machine p) (sound_order p s h) s.board s.hands vs

-- ---- a machine whose cells, kings, counts, side, ply and last move pass each test of soundness, all of which compute
pub machine-sound : (m : Machine) (b w : ℕ) → all_good m.cells ≡ true → king_wrong m.cells 8 b ≡ false → king_wrong m.cells 24 w ≡ false
    → any_below (λ j. ltb (kind_row (j + 1)).limit (standing m.cells (j + 1) + (get_or m.hands j 0 + get_or m.hands (j + 7) 0))) 7 ≡ false
    → good_colour m.side ≡ true → good_ply m.ply ≡ true → good_last m.last ≡ true → sound (full m) ≡ true
machine-sound m b w good black white few side ply last =
    order_sound m (record {
      cells = λ n o. let r = board_range 9 n o in all_good_lem m.cells good n r.0 r.1;
      black = itself m.cells 8 b (king_is m.cells 8 b black);
      white = itself m.cells 24 w (king_is m.cells 24 w white);
      counts = λ j small.
          ltb-false _ _ (any_each (λ j. ltb (kind_row (j + 1)).limit (standing m.cells (j + 1) + (get_or m.hands j 0 + get_or m.hands (j + 7) 0))) 7 j few small);
      side = side;
      ply = ply;
      last = last;
    })

pub empty-sound : sound empty_position ≡ true
unfolding empty_position all_good any_below king_wrong standing count_of digit good_cell good_piece good_kind kind_of kind_row kinds good_colour good_ply top_ply good_last
empty-sound = machine-sound (record { cells = replicate 81 0; hands = replicate 14 0; side = 1; last = no_move; ply = 1 }) 0 0 refl refl refl refl refl refl refl

pub start-sound : sound start_position ≡ true
unfolding start_position start_cells start_ranks tab file_of rank_of all_good any_below king_wrong standing count_of digit good_cell good_piece good_kind kind_of kind_row kinds good_colour good_ply top_ply good_last
start-sound = machine-sound (record { cells = start_cells; hands = replicate 14 0; side = 1; last = no_move; ply = 1 }) 45 37 refl refl refl refl refl refl refl
