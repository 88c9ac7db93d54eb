-- The answers by their facts: what is known of a move that no fact refuses, and the answer that goes with each number.
use mathlib.Core.Path.{◌≡◌, refl, sym, ap, ◌∙◌}
use Prim.Native.Nat.{ℕ, ◌≤◌, ◌<◌}
use mathlib.Core.Bool.{Bool, true, false, not, ◌&&◌, cond}
use mathlib.Core.List.{List, [], ◌∷◌}
use Rattle.std.specs.Prelude.{Ok, Err}
use native.Mathlib.Omega.{arith}
use lib.Dec.{eqb}
use lib.ListN.{get_or}
use lib.Arith.{lt_of_le-ne}
use borrow.Author.Tests.{eqb-true, eqb-false, ne_eqb, leb-false, not-false, not-true}
use Rattle.squares.specs.Board.{on_board}
use Rattle.squares.specs.Kinds.{good_piece, colour_of, kind_of, promoted_piece}
use Rattle.squares.proofs.Laws.{both, board_range, piece_kind}
use Rattle.position.specs.Machine.{Machine, machine, full, cell_at}
use Rattle.position.specs.Sound.{top_ply, sound, first_fault}
use Rattle.position.specs.Answers.{Answer, done, told_of, answer_given, Fact, gives, first_fact, told_by, query_facts, told_query, hand_at}
use Rattle.position.specs.Moves.{bad_move, normal_facts, drop_facts, rule_facts, move_facts, next, move_played}
use Rattle.position.specs.Plans.{Ready}
use Rattle.position.specs.Inner.{OnBoard, told_first}
use Rattle.position.specs.declared.position.Position.{Position}
use Rattle.position.specs.declared.mv.Move.{Move}
use Rattle.position.specs.declared.mv.Move.TheVariants.{Normal, Drop}
use Rattle.position.specs.declared.answers.Told.{Told}
use Rattle.position.specs.declared.answers.Refusal.{Refusal}
use Rattle.position.proofs.Agree.{or_false_both}
use Rattle.position.proofs.Pieces.{positive}
use Rattle.position.proofs.Asking.{refusal_number, passes_good, passes_sound}

-- ---- a move that no fact refuses
pub record CanMove (m : Machine) (from to : ℕ) (promote : Bool) : Type 0 where
  pub start : OnBoard from
  pub goal : OnBoard to
  pub piece : cell_at m.cells from ≡ 0 → ⊥
  pub own : colour_of (cell_at m.cells from) ≡ m.side
  pub form : promote && eqb (promoted_piece (cell_at m.cells from)) 0 ≡ false
  pub other : colour_of (cell_at m.cells to) ≡ m.side → ⊥
  pub no_king : kind_of (cell_at m.cells to) ≡ 8 → ⊥
  pub early : m.ply ≡ top_ply → ⊥

pub moves_apart : (m : Machine) (from to : ℕ) (promote : Bool) → CanMove m from to promote → from ≡ to → ⊥
moves_apart m from to promote k e = k.other (ap (λ (n : ℕ). colour_of (cell_at m.cells n)) (sym e) ∙ k.own)

pub record CanDrop (m : Machine) (piece to : ℕ) : Type 0 where
  pub good : good_piece piece ≡ true
  pub goal : OnBoard to
  pub own : colour_of piece ≡ m.side
  pub kind_low : 1 ≤ kind_of piece
  pub kind_high : kind_of piece ≤ 7
  pub empty : cell_at m.cells to ≡ 0
  pub some : 1 ≤ get_or m.hands (hand_at m.side (kind_of piece)) 0
  pub early : m.ply ≡ top_ply → ⊥

none_of : (b : Bool) (n r : ℕ) → (n ≡ 0 → ⊥) → cond b n r ≡ 0 → (b ≡ false) × (r ≡ 0)
none_of true n r d h = absurd (d h)
none_of false n r d h = (refl, h)

pub on_board_lem : (n : ℕ) → on_board 9 n ≡ true → OnBoard n
on_board_lem n o = let b = board_range 9 n o in record { low = b.0; high = b.1 }

pub normal_passes : (m : Machine) (from to : ℕ) (promote : Bool) → bad_move (Normal from to promote) ≡ false
    → first_fact (rule_facts m (Normal from to promote)) ≡ 0 → CanMove m from to promote
unfolding bad_move first_fact rule_facts normal_facts
normal_passes m from to promote g h =
    let o = both (on_board 9 from) (on_board 9 to) (not-false _ g) in
    let a = none_of _ 3 _ (eqb-false 3 0 refl) h in
    let b = none_of _ 4 _ (eqb-false 4 0 refl) a.1 in
    let e = none_of _ 5 _ (eqb-false 5 0 refl) b.1 in
    let f = none_of _ 6 _ (eqb-false 6 0 refl) e.1 in
    let i = none_of _ 7 _ (eqb-false 7 0 refl) f.1 in
    let j = none_of _ 11 _ (eqb-false 11 0 refl) i.1 in
    record {
      start = on_board_lem from o.0;
      goal = on_board_lem to o.1;
      piece = eqb-false _ _ a.0;
      own = eqb-true _ _ (not-false _ b.0);
      form = e.0;
      other = eqb-false _ _ f.0;
      no_king = eqb-false _ _ i.0;
      early = eqb-false _ _ j.0;
    }

pub drop_passes : (m : Machine) (piece to : ℕ) → bad_move (Drop piece to) ≡ false → first_fact (rule_facts m (Drop piece to)) ≡ 0 → CanDrop m piece to
unfolding bad_move first_fact rule_facts drop_facts
drop_passes m piece to g h =
    let o = both (good_piece piece) (on_board 9 to) (not-false _ g) in
    let a = none_of _ 4 _ (eqb-false 4 0 refl) h in
    let b = none_of _ 8 _ (eqb-false 8 0 refl) a.1 in
    let e = none_of _ 9 _ (eqb-false 9 0 refl) b.1 in
    let f = none_of _ 10 _ (eqb-false 10 0 refl) e.1 in
    let i = none_of _ 11 _ (eqb-false 11 0 refl) f.1 in
    let k = or_false_both (eqb (kind_of piece) 8) _ f.0 in
    let r = piece_kind piece o.0 in
    let s : kind_of piece < 8 = lt_of_le-ne (omega (arith, leb-false 9 (kind_of piece) b.0)) (eqb-false _ _ k.0) in
    record {
      good = o.0;
      goal = on_board_lem to o.1;
      own = eqb-true _ _ (not-false _ a.0);
      kind_low = r.0;
      kind_high = omega arith;
      empty = eqb-true _ _ (not-false _ e.0);
      some = positive _ (eqb-false _ _ k.1);
      early = eqb-false _ _ i.0;
    }

-- ---- a number that no fact of a list has is never given
abbrev free : ℕ → List Fact → Bool
free n [] = true
free n (f ∷ fs) = not (eqb f.number n) && free n fs

neither : (b : Bool) (x r n : ℕ) → (x ≡ n → ⊥) → (r ≡ n → ⊥) → cond b x r ≡ n → ⊥
neither true x r n d e h = d h
neither false x r n d e h = e h

first_free : (fs : List Fact) (n : ℕ) → (n ≡ 0 → ⊥) → free n fs ≡ true → first_fact fs ≡ n → ⊥
unfolding first_fact
first_free [] n d e h = d (sym h)
first_free (f ∷ fs) n d e h =
    let b = both (not (eqb f.number n)) (free n fs) e in
    neither f.fact f.number (first_fact fs) n (eqb-false f.number n (not-true _ b.0)) (first_free fs n d b.1) h

pub never_one : (m : Machine) (v : Move) → first_fact (rule_facts m v) ≡ 1 → ⊥
unfolding rule_facts normal_facts drop_facts
never_one m (Normal from to promote) = first_free (rule_facts m (Normal from to promote)) 1 (eqb-false 1 0 refl) refl
never_one m (Drop piece to) = first_free (rule_facts m (Drop piece to)) 1 (eqb-false 1 0 refl) refl

-- ---- the answer of a call whose first facts are those of a query, and that makes `after`
abbrev by_facts : Position → Bool → List Fact → Position → Answer
by_facts p bad rest after =
    let facts = gives 2 bad ∷ gives 1 (not (sound p)) ∷ rest in
    record { told = told_by p facts; position = cond (eqb (first_fact facts) 0) after p }

-- 2 or 1 refuses: no later fact is asked
pub first_refuses : (p : Position) (bad : Bool) (rest : List Fact) (after : Position) (r : Refusal) → told_of r ≡ told_query bad p
    → answer_given p (Err r) ≡ by_facts p bad rest after
unfolding told_query told_by query_facts first_fact
first_refuses p bad rest after r e = by bad (not (sound p)) (told_of r) e (refusal_number r)
  where
    by : (a b : Bool) (t : Told) → t ≡ record { number = cond a 2 (cond b 1 0); square = cond (eqb (cond a 2 (cond b 1 0)) 1) (first_fault p) 0 } → (t.number ≡ 0 → ⊥)
        → ◌≡◌ {A = Answer} (record { told = t; position = p })
        (record {
          told = record { number = cond a 2 (cond b 1 (first_fact rest)); square = cond (eqb (cond a 2 (cond b 1 (first_fact rest))) 1) (first_fault p) 0 };
          position = cond (eqb (cond a 2 (cond b 1 (first_fact rest))) 0) after p;
        })
    by true b t e d = rw e
    by false true t e d = rw e
    by false false t e d = absurd (d (ap (λ (x : Told). x.number) e))

module _ (p : Position) (m : Move) where
  pub told_refuses : (r : Refusal) → told_of r ≡ told_query (bad_move m) p → answer_given p (Err r) ≡ move_played p m
  unfolding move_played move_facts
  told_refuses r e = first_refuses p (bad_move m) (rule_facts (machine p) m) (full (next (machine p) m)) r e

  pub told_passes : done ≡ told_query (bad_move m) p → Ready p m
  told_passes e = record { good = passes_good p (bad_move m) e; whole = passes_sound p (bad_move m) e }

  module _ (r : Ready p m) where
    number_is : first_fact (move_facts p m) ≡ first_fact (rule_facts (machine p) m)
    unfolding move_facts first_fact
    number_is = rw (r.good, r.whole)

    pub rule_refuses : (f : Refusal) → told_of f ≡ told_first (rule_facts (machine p) m) → answer_given p (Err f) ≡ move_played p m
    unfolding move_played told_by
    rule_refuses f e =
        let d : first_fact (rule_facts (machine p) m) ≡ 0 → ⊥ = λ z. refusal_number f (ap (λ (x : Told). x.number) e ∙ z) in
        rw (number_is, ne_eqb _ 1 (never_one (machine p) m), ne_eqb _ 0 d) (ap (λ (t : Told). record { told = t; position = p }) e)

    pub rule_passes : (after : Position) → first_fact (rule_facts (machine p) m) ≡ 0 → after ≡ full (next (machine p) m)
        → answer_given p (Ok after) ≡ move_played p m
    unfolding move_played told_by
    rule_passes after z e = rw (number_is, z, e)
