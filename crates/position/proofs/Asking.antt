-- What a query of a sound position reads: the sets by what stands on the squares, and the king squares.
use mathlib.Core.Path.{◌≡◌, refl, sym, ap, ap₂, ◌∙◌}
use Prim.Native.Nat.{ℕ, ◌+◌, ◌-◌, ◌*◌, ◌≤◌, ◌<◌}
use mathlib.Core.Bool.{Bool, true, false, not, ◌&&◌, ◌||◌, cond}
use mathlib.Core.Logic.{⊎_elim}
use mathlib.Core.List.{List}
use native.Mathlib.Omega.{arith}
use Rattle.std.specs.Prelude.{Option, Result, Ok, Err, IsErrAnd}
use Rattle.std.proofs.lemmas.Result.{err_from_is_err_and}
use native.Mathlib.Decide.{ℕ_discrete}
use lib.ListN.{length, get_or}
use lib.Dec.{eqb, leb}
use borrow.Author.Tests.{eq-eqb, ne_eqb, eqb-false, leb-true, not-true}
use Rattle.squares.specs.declared.bitboard.Bitboard.{Bitboard}
use Rattle.squares.specs.Kinds.{good_colour, good_kind, good_piece, good_cell, colour_of, kind_of}
use Rattle.squares.specs.Sets.{set_of, empty_s, and_s, or_s, not_s}
use Rattle.squares.proofs.Laws.{both, good-cells, le-or-lt, board_range, get_d_any, set_of_cong, and_rules, or_rules, not_rule, colour_range, kind_range, piece_low_bound, black_colour, white_colour, piece_by, family_at}
use Rattle.position.specs.Machine.{Sized, cell_at, family, king_square}
use Rattle.position.specs.Sound.{any_below, stray_in, king_wrong, first_fault, fault_elsewhere, sound}
use Rattle.position.specs.Inner.{Tidy, mark_set}
use Rattle.position.specs.Answers.{ToldPiece, ToldKing, ToldLast, done, told_of, first_fact, told_by, query_facts, told_query, answered, good_hand_kind}
use Rattle.position.specs.declared.position.Position.{Position}
use Rattle.position.specs.declared.answers.Told.{Told}
use Rattle.position.specs.declared.answers.ToldSet.{ToldSet}
use Rattle.position.specs.declared.answers.ToldNumber.{ToldNumber}
use Rattle.position.specs.declared.answers.ToldPly.{ToldPly}
use Rattle.position.specs.declared.mv.Move.{Move}
use Rattle.position.specs.declared.answers.Refusal.{Refusal}
use Rattle.position.specs.declared.answers.Refusal.TheVariants as Refused
use Rattle.position.proofs.Tidiness.{sound-tidy}
use Rattle.position.proofs.Kings.{king_is, king_square_lem}
use Rattle.position.proofs.Agree.{or_false_both}

-- a refusal has a number
pub refusal_number : (r : Refusal) → (told_of r).number ≡ 0 → ⊥
refusal_number (Refused.NotSound n) = eqb-false 1 0 refl
refusal_number Refused.BadNumber = eqb-false 2 0 refl
refusal_number Refused.NothingThere = eqb-false 3 0 refl
refusal_number Refused.OtherSide = eqb-false 4 0 refl
refusal_number Refused.NoPromotedForm = eqb-false 5 0 refl
refusal_number Refused.OwnPiece = eqb-false 6 0 refl
refusal_number Refused.TakesKing = eqb-false 7 0 refl
refusal_number Refused.PromotedDrop = eqb-false 8 0 refl
refusal_number Refused.Occupied = eqb-false 9 0 refl
refusal_number Refused.NotInHand = eqb-false 10 0 refl
refusal_number Refused.LastPly = eqb-false 11 0 refl
refusal_number Refused.ShortBuffer = eqb-false 12 0 refl
refusal_number Refused.EditNotSound = eqb-false 13 0 refl

module _ (p : Position) (bad : Bool) where
  -- where a query is refused, and where it is not
  pub refused : (r : Refusal) → told_of r ≡ told_query bad p → answered bad p ≡ false
  unfolding told_query told_by answered
  refused r e = ne_eqb _ 0 (λ z. refusal_number r (ap (λ (x : Told). x.number) e ∙ z))

  module _ (e : done ≡ told_query bad p) where
    pub passes : answered bad p ≡ true
    unfolding told_query told_by answered
    passes = eq-eqb _ 0 (sym (ap (λ (x : Told). x.number) e))

    facts : (bad ≡ false) × (sound p ≡ true)
    unfolding told_query told_by query_facts first_fact
    facts = go bad (sound p) (sym (ap (λ (x : Told). x.number) e))
      where
        go : (b s : Bool) → ◌≡◌ {A = ℕ} (cond b 2 (cond (not s) 1 0)) 0 → (b ≡ false) × (s ≡ true)
        go true s z = absurd (omega arith)
        go false false z = absurd (omega arith)
        go false true z = (refl, refl)

    pub passes_good : bad ≡ false
    passes_good = facts.0

    pub passes_sound : sound p ≡ true
    passes_sound = facts.1

-- ---- an answer made of what is told and a value
abbrev pub piece : Told → Option ℕ → ToldPiece
piece t v = record { told = t; stands = v }

abbrev pub king : Told → Option ℕ → ToldKing
king t v = record { told = t; king = v }

abbrev pub last : Told → Option Move → ToldLast
last t v = record { told = t; last = v }

abbrev pub number : Told → ℕ → ToldNumber
number t v = record { told = t; value = v }

abbrev pub ply : Told → ℕ → ToldPly
ply t v = record { told = t; ply = v }

abbrev pub squares : Told → Bitboard → ToldSet
squares t v = record { told = t; set = v }

-- ---- the answer of a query: what it tells, and its value or, where it is refused, `none`
module _ {A V B : Type 0} (given : Result A Refusal → B) (build : Told → V → B) (none : V) (p : Position) (bad : Bool) (value : V) where
  pub query_refused : ((r : Refusal) → given (Err r) ≡ build (told_of r) none) → (a : Result A Refusal) (r : Refusal) → IsErrAnd a (λ (y : Refusal). y ≡ r)
      → told_of r ≡ told_query bad p → given a ≡ build (told_query bad p) (cond (answered bad p) value none)
  query_refused err a r is e =
      let i = err_from_is_err_and a is in
      rw (i.1, i.2, refused p bad r e) (err r ∙ ap (λ (t : Told). build t none) e)

  pub query_done : (v : A) → done ≡ told_query bad p → given (Ok v) ≡ build done value → given (Ok v) ≡ build (told_query bad p) (cond (answered bad p) value none)
  query_done v e is = rw (passes p bad e) (is ∙ ap (λ (t : Told). build t value) e)

-- ---- a cell with a colour is not empty
colour_none : (x : ℕ) → good_cell x ≡ true → eqb (colour_of x) 1 || eqb (colour_of x) 2 ≡ not (eqb x 0)
unfolding good_cell good_piece good_kind colour_of kind_of
colour_none = good-cells (λ x. eqb (colour_of x) 1 || eqb (colour_of x) 2) (λ x. not (eqb x 0)) tt

-- ---- the set of a mark
mark_set_lem : (mark : ℕ → ℕ) (count : ℕ) (cells : List ℕ) (sets : List Bitboard) (k : ℕ) → sets ≡ family mark count cells → 1 ≤ k → k ≤ count
    → mark_set sets k ≡ set_of (λ n. eqb (mark (cell_at cells n)) k)
unfolding mark_set
mark_set_lem mark count cells sets k e l h =
    let z : 1 + (k - 1) ≡ k = omega arith in
    rw e (family_at mark count cells (k - 1) empty_s (omega arith) ∙ ap (λ (i : ℕ). set_of (λ n. eqb (mark (cell_at cells n)) i)) z)

-- as the code reads it
pub mark_at : (sets : List Bitboard) (k : ℕ) (d : Bitboard) → 1 ≤ k → k ≤ length sets → get_or sets (k - 1) d ≡ mark_set sets k
unfolding mark_set
mark_at sets k d l h = get_d_any sets (k - 1) d empty_s (omega arith)

-- ---- a piece has a colour
pub piece_colour : (v : ℕ) → good_piece v ≡ true → good_colour (colour_of v) ≡ true
unfolding good_colour
piece_colour v g =
    ⊎_elim (λ (h : v ≤ 16). rw (black_colour v (piece_low_bound v g) h)) (λ (h : 16 < v). rw (white_colour v h)) (le-or-lt v 16)

-- ---- the sets of a sound position
module _ (p : Position) (z : Sized p) (s : sound p ≡ true) where
  tidy : Tidy p
  tidy = sound-tidy p z s

  pub colour_set : (c : ℕ) → good_colour c ≡ true → mark_set p.players c ≡ set_of (λ n. eqb (colour_of (cell_at p.board n)) c)
  colour_set c g = let r = colour_range c g in mark_set_lem colour_of 2 p.board p.players c tidy.players r.0 r.1

  pub kind-set : (k : ℕ) → good_kind k ≡ true → mark_set p.kinds k ≡ set_of (λ n. eqb (kind_of (cell_at p.board n)) k)
  kind-set k g = let r = kind_range k g in mark_set_lem kind_of 14 p.board p.kinds k tidy.kinds r.0 r.1

  -- a piece's set, by its colour and its kind
  pub piece-set : (v : ℕ) → good_piece v ≡ true → and_s (mark_set p.players (colour_of v)) (mark_set p.kinds (kind_of v)) ≡ set_of (λ n. eqb (cell_at p.board n) v)
  unfolding good_piece
  piece-set v g =
      ap₂ and_s (colour_set (colour_of v) (piece_colour v g)) (kind-set (kind_of v) g)
      ∙ and_rules (λ n. eqb (colour_of (cell_at p.board n)) (colour_of v)) (λ n. eqb (kind_of (cell_at p.board n)) (kind_of v))
      ∙ set_of_cong (λ n. eqb (colour_of (cell_at p.board n)) (colour_of v) && eqb (kind_of (cell_at p.board n)) (kind_of v)) (λ n. eqb (cell_at p.board n) v)
      (λ n o. let r = board_range 9 n o in piece_by (cell_at p.board n) v (tidy.cells n r.0 r.1) g)

  pub occupied_set : or_s (mark_set p.players 1) (mark_set p.players 2) ≡ set_of (λ n. not (eqb (cell_at p.board n) 0))
  unfolding good_colour
  occupied_set =
      ap₂ or_s (colour_set 1 refl) (colour_set 2 refl)
      ∙ or_rules (λ n. eqb (colour_of (cell_at p.board n)) 1) (λ n. eqb (colour_of (cell_at p.board n)) 2)
      ∙ set_of_cong (λ n. eqb (colour_of (cell_at p.board n)) 1 || eqb (colour_of (cell_at p.board n)) 2) (λ n. not (eqb (cell_at p.board n) 0))
      (λ n o. let r = board_range 9 n o in colour_none (cell_at p.board n) (tidy.cells n r.0 r.1))

pub vacant_set : (p : Position) → not_s (set_of (λ n. not (eqb (cell_at p.board n) 0))) ≡ set_of (λ n. eqb (cell_at p.board n) 0)
vacant_set p =
    not_rule (λ n. not (eqb (cell_at p.board n) 0))
    ∙ set_of_cong (λ n. not (not (eqb (cell_at p.board n) 0))) (λ n. eqb (cell_at p.board n) 0) (λ n o. twice (eqb (cell_at p.board n) 0))
  where
    twice : (t : Bool) → not (not t) ≡ t
    twice true = refl
    twice false = refl

-- ---- the king squares of a sound position
pub king_squares : (p : Position) → sound p ≡ true → (king_square p.board 8 ≡ p.bking) × (king_square p.board 24 ≡ p.wking)
unfolding sound fault_elsewhere
king_squares p h =
    let q = both (eqb (first_fault p) 0) (not (fault_elsewhere p)) h in
    let a = or_false_both (any_below (stray_in p.players) 2) _ (not-true (fault_elsewhere p) q.1) in
    let b = or_false_both (any_below (stray_in p.kinds) 14) _ a.1 in
    let c = or_false_both (king_wrong p.board 8 p.bking) _ b.1 in
    let d = or_false_both (king_wrong p.board 24 p.wking) _ c.1 in
    (king_square_lem _ 8 _ (king_is _ 8 _ c.0), king_square_lem _ 24 _ (king_is _ 24 _ d.0))

pub own_king : (p : Position) (c : ℕ) → sound p ≡ true → good_colour c ≡ true → cond (eqb c 1) p.bking p.wking ≡ king_square p.board (16 * c - 8)
own_king p c s g = go (ℕ_discrete c 1)
  where
    go : Dec (c ≡ 1) → cond (eqb c 1) p.bking p.wking ≡ king_square p.board (16 * c - 8)
    go (yes e) = let z : 16 * c - 8 ≡ 8 = omega arith in rw (eq-eqb c 1 e, z) (sym (king_squares p s).0)
    go (no d) =
        let r = colour_range c g in
        let two : c ≡ 2 = only_two c r.0 r.1 d in
        let z : 16 * c - 8 ≡ 24 = omega arith in
        rw (ne_eqb c 1 d, z) (sym (king_squares p s).1)
      where
        only_two : (c : ℕ) → 1 ≤ c → c ≤ 2 → (c ≡ 1 → ⊥) → c ≡ 2
        only_two c lo hi d = ⊎_elim (λ (l : c ≤ 1). absurd (d (omega arith))) (λ (l : 1 < c). omega arith) (le-or-lt c 1)

pub hand_range : (c k : ℕ) → good_colour c && good_hand_kind k ≡ true → (1 ≤ c) × (c ≤ 2) × (1 ≤ k) × (k ≤ 7)
unfolding good_hand_kind
hand_range c k g =
    let b = both (good_colour c) (leb 1 k && leb k 7) g in
    let r = colour_range c b.0 in
    let l = both (leb 1 k) (leb k 7) b.1 in
    (r.0, r.1, leb-true 1 k l.0, leb-true k 7 l.1)
