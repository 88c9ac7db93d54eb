-- What the two halves of make_move know of a sound position and good numbers.
use mathlib.Core.Path.{◌≡◌}
use mathlib.Core.Logic.{⊎_elim}
use Prim.Native.Nat.{ℕ, ◌+◌, ◌-◌, ◌≤◌, ◌<◌}
use mathlib.Core.Bool.{Bool, true, false}
use mathlib.Core.List.{List}
use native.Mathlib.Omega.{arith}
use native.Mathlib.Decide.{ℕ_discrete}
use lib.ListN.{get_or}
use lib.Arith.{lt_of_le-ne}
use borrow.Author.Tests.{eq-eqb, ne_eqb, not-false}
use Rattle.squares.specs.Board.{on_board}
use Rattle.squares.specs.Kinds.{kind_row, kinds, hand_kind, good_piece, kind_of}
use Rattle.squares.proofs.Laws.{both, le-or-lt, colour_range, limit-small, held_small}
use Rattle.position.specs.Machine.{machine, cell_at}
use Rattle.position.specs.Sound.{top_ply, sound}
use Rattle.position.specs.declared.answers.Refusal.TheVariants.{NothingThere}
use Rattle.position.specs.Answers.{told_of, first_fact, stood}
use Rattle.position.specs.Moves.{bad_move, normal_facts, rule_facts, held}
use Rattle.position.specs.Plans.{RoomFor, Holds, normal_plan, drop_plan, Playable}
use Rattle.position.specs.Inner.{OnBoard, told_first}
use Rattle.position.specs.declared.position.Position.{Position}
use Rattle.position.specs.declared.mv.Move.TheVariants.{Normal, Drop}
use Rattle.std.specs.Prelude.{Some, None}
use Rattle.position.proofs.InOrder.{Sized, sound_order}
use Rattle.position.proofs.Pieces.{positive}
use Rattle.position.proofs.Elsewhere.{ply_range}
use Rattle.position.proofs.Tallies.{hand_in}
use Rattle.position.proofs.Ladder.{CanMove, CanDrop, on_board_lem}

-- ---- what stands on a cell
pub stood_nothing : (c : ℕ) → stood c ≡ None → c ≡ 0
unfolding stood
stood_nothing c h = by (ℕ_discrete c 0)
  where
    by : Dec (c ≡ 0) → c ≡ 0
    by (yes e) = e
    by (no d) = let q = rw (ne_eqb c 0 d) at h in let z : ◌≡◌ {A = ℕ} 0 1 = cc in absurd (omega arith)

pub stood-piece : (c x : ℕ) → stood c ≡ Some x → (x ≡ c) × (c ≡ 0 → ⊥)
unfolding stood
stood-piece c x h = by (ℕ_discrete c 0)
  where
    by : Dec (c ≡ 0) → (x ≡ c) × (c ≡ 0 → ⊥)
    by (yes e) = let q = rw (eq-eqb c 0 e) at h in let z : ◌≡◌ {A = ℕ} 0 1 = cc in absurd (omega arith)
    by (no d) = let q = rw (ne_eqb c 0 d) at h in ((cc), d)

-- an empty cell is not held
pub held_nothing : (side t : ℕ) (hands : List ℕ) → t ≡ 0 → hands ≡ held side t hands
unfolding held hand_kind kind_row kinds kind_of
held_nothing side t hands e = rw e

-- ---- the numbers of a move that 2 does not refuse
pub normal_squares : (from to : ℕ) (promote : Bool) → bad_move (Normal from to promote) ≡ false → (OnBoard from) × (OnBoard to)
unfolding bad_move
normal_squares from to promote g = let o = both (on_board 9 from) (on_board 9 to) (not-false _ g) in (on_board_lem from o.0, on_board_lem to o.1)

pub drop-numbers : (piece to : ℕ) → bad_move (Drop piece to) ≡ false → (good_piece piece ≡ true) × (OnBoard to)
unfolding bad_move
drop-numbers piece to g = let o = both (good_piece piece) (on_board 9 to) (not-false _ g) in (o.0, on_board_lem to o.1)

-- 3 refuses an empty from square
pub empty-start : (p : Position) (from to : ℕ) (promote : Bool) → cell_at p.board from ≡ 0 → told_of NothingThere ≡ told_first (rule_facts (machine p) (Normal from to promote))
unfolding first_fact rule_facts normal_facts machine
empty-start p from to promote e = rw (eq-eqb (cell_at p.board from) 0 e)

-- ---- a sound position
module _ (p : Position) (s : Sized p) (h : sound p ≡ true) where
  pub sound-side : (1 ≤ p.side) × (p.side ≤ 2)
  unfolding machine
  sound-side = colour_range p.side (sound_order p s h).side

  few-hands : (i : ℕ) → i < 14 → get_or p.hands i 0 ≤ 18
  unfolding machine
  few-hands i small = ⊎_elim low high (le-or-lt 7 i)
    where
      high : i < 7 → get_or p.hands i 0 ≤ 18
      high l = omega (arith, (sound_order p s h).counts i l, limit-small i l)

      low : 7 ≤ i → get_or p.hands i 0 ≤ 18
      low l =
          let x : (i - 7) + 7 ≡ i = omega arith in
          omega (arith, rw x at ((sound_order p s h).counts (i - 7) (omega arith)), limit-small (i - 7) (omega arith))

  pub sound_room : (t : ℕ) → RoomFor p.hands p.side t
  sound_room t =
      record {
        side_low = sound-side.0;
        side_high = sound-side.1;
        few = λ d. omega (arith, few-hands _ (hand_in p.side (hand_kind (kind_of t)) sound-side.0 sound-side.1 (positive _ d) (held_small (kind_of t))));
      }

  early : (p.ply ≡ top_ply → ⊥) → p.ply < top_ply
  unfolding machine
  early d = lt_of_le-ne (ply_range p.ply (sound_order p s h).ply).1 d

  pub normal-fits : (from to : ℕ) (promote : Bool) (c t : ℕ) (hands : List ℕ) → CanMove (machine p) from to promote → Playable p (normal_plan from to promote c t hands)
  unfolding machine normal_plan
  normal-fits from to promote c t hands k = record { at_from = k.start; at_to = k.goal; side = sound-side.1; ply = early k.early }

  pub drop-fits : (piece to : ℕ) (hands : List ℕ) → CanDrop (machine p) piece to → Playable p (drop_plan piece to hands)
  unfolding machine drop_plan
  drop-fits piece to hands k = record { at_from = k.goal; at_to = k.goal; side = sound-side.1; ply = early k.early }

  pub drop-held : (piece to : ℕ) → CanDrop (machine p) piece to → Holds p.hands p.side piece
  unfolding machine
  drop-held piece to k =
      record { side_low = sound-side.0; side_high = sound-side.1; kind_low = k.kind_low; kind_high = k.kind_high; some = k.some }
