-- A plan carried out: what the code makes of it, and that it is the move that was planned.
use mathlib.Core.Path.{◌≡◌, sym, ap, ◌∙◌}
use mathlib.Core.Logic.{⊎_elim}
use Prim.Native.Nat.{ℕ, ◌-◌, ◌≤◌, ◌<◌}
use mathlib.Core.Bool.{Bool, true, false, true≢false}
use mathlib.Core.List.{List}
use native.Mathlib.Omega.{arith}
use Rattle.std.specs.Prelude.{Ok}
use lib.ListN.{length, get_or, set}
use borrow.Author.Tests.{le-leb}
use Rattle.squares.specs.declared.bitboard.Bitboard.{Bitboard}
use Rattle.squares.specs.Kinds.{colour_of, kind_of, good_kind, good_piece}
use Rattle.squares.specs.Sets.{single_s, xor_s}
use Rattle.squares.proofs.Laws.{le-or-lt, empty_colour, piece_kind}
use Rattle.position.specs.Machine.{cell_at}
use Rattle.position.specs.Answers.{answer_given}
use Rattle.position.specs.Moves.{arriving, numbers_of, move_played}
use Rattle.position.specs.Inner.{OnBoard}
use Rattle.position.specs.Plans.{toggled, normal_plan, drop_plan, stored_by, toggled_at, played_by, Playable, MovePlan, with_sets}
use Rattle.position.specs.declared.position.Position.{Position}
use Rattle.position.specs.declared.plan.Plan.{Plan}
use Rattle.position.specs.declared.mv.Move.{Move}
use Rattle.position.specs.declared.mv.Move.TheVariants.{Normal, Drop}
use Rattle.position.proofs.Stores.{sets_after, cell_same, cell_other, toggle_in, toggle-low, toggle-high}
use Rattle.position.proofs.Pieces.{colour_in}
use Rattle.position.proofs.Carrying.{carried}

-- ---- the plan of a move
pub plan-moves : (p : Position) (m : Move) (r plan : Plan) → r ≡ plan → Playable p plan → answer_given p (Ok (played_by p plan)) ≡ move_played p m → MovePlan p m r
plan-moves p m r plan e f q = rw e (record { fits = f; does = q })

module _ (p : Position) (size : length p.board ≡ 81) where
  pub normal_plays : (from to : ℕ) (promote : Bool) (hands : List ℕ) → OnBoard from → OnBoard to → (from ≡ to → ⊥)
      → played_by p (normal_plan from to promote (cell_at p.board from) (cell_at p.board to) hands)
      ≡ carried p from to (arriving promote (cell_at p.board from)) hands (numbers_of (Normal from to promote))
  unfolding normal_plan played_by stored_by toggled_at carried sets_after
  normal_plays from to promote hands f t apart = rw (cell_other p.board from to 0 f.low t.low (λ e. apart (sym e)))

  pub drop_plays : (piece to : ℕ) (hands : List ℕ) → OnBoard to → cell_at p.board to ≡ 0
      → played_by p (drop_plan piece to hands) ≡ carried p to to piece hands (numbers_of (Drop piece to))
  unfolding drop_plan played_by stored_by toggled_at carried sets_after
  drop_plays piece to hands t empty = rw (empty, cell_same p.board to 0 t.low (omega (arith, t.high)))

-- ---- as the code turns a square: the colour set first, then the kind set
kind-piece : (x : ℕ) → 1 ≤ kind_of x → kind_of x ≤ 14 → good_piece x ≡ true
unfolding good_piece good_kind
kind-piece x l u = rw (le-leb 1 (kind_of x) l, le-leb (kind_of x) 14 u)

module _ (p : Position) (x n : ℕ) where
  -- the position once the colour set is toggled
  abbrev pub Coloured : Position → Type 0
  Coloured q = q ≡ with_sets p (toggled p.players (colour_of x) (single_s n)) p.kinds

  pub colour_toggled : (k at : ℕ) (one d r : Bitboard) → at ≡ k - 1 → length p.players ≡ 2 → (x ≡ 0 → ⊥) → one ≡ single_s n → k ≡ colour_of x
      → r ≡ xor_s (get_or p.players at d) one → Coloured (with_sets p (set p.players at r) p.kinds)
  colour_toggled k at one d r there size full e ek er =
      let c = colour_in x full in
      rw there (ap (λ (l : List Bitboard). with_sets p l p.kinds) (toggle_in p.players k one d r (omega arith) (omega arith) (rw there at er) ∙ rw (ek, e)))

  pub colour_same : x ≡ 0 → Coloured p
  unfolding toggled
  colour_same z = rw (z, empty_colour)

  pub kind-toggled : (q : Position) (k at : ℕ) (one d r : Bitboard) → at ≡ k - 1 → Coloured q → length p.kinds ≡ 14 → good_piece x ≡ true → one ≡ single_s n
      → k ≡ kind_of x → r ≡ xor_s (get_or q.kinds at d) one
      → with_sets q q.players (set q.kinds at r) ≡ toggled_at p x n
  unfolding toggled_at
  kind-toggled q k at one d r there h size good e ek er =
      let b = piece_kind x good in
      rw (there, h, toggle_in p.kinds k one d r (omega arith) (omega arith) (rw (there, h) at er), ek, e)

  pub kind-same : (q : Position) → Coloured q → length p.kinds ≡ 14 → good_piece x ≡ false → q ≡ toggled_at p x n
  unfolding toggled_at
  kind-same q h size bad = rw (h, ← kept)
    where
      kept : p.kinds ≡ toggled p.kinds (kind_of x) (single_s n)
      kept =
          ⊎_elim
          (λ (l : 1 ≤ kind_of x).
          ⊎_elim (λ (u : kind_of x ≤ 14). absurd (true≢false (sym (kind-piece x l u) ∙ bad))) (λ (u : 14 < kind_of x). toggle-high p.kinds (kind_of x) (single_s n) (omega arith)) (le-or-lt (kind_of x) 14))
          (λ (l : kind_of x < 1). toggle-low p.kinds (kind_of x) (single_s n) l) (le-or-lt 1 (kind_of x))
