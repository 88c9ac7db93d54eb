-- Sets that are given by rules: a caller keeps every set in the form `set_of rule`.
use Rattle.std.proofs.Common.{◌≡◌, ℕ, Bool, false, not, ◌&&◌, ◌||◌, eqb, refl, ap, ◌∙◌, ap₂}
use mathlib.Core.Bool.{beq}
use Rattle.squares.specs.Board.{on_board, opposite, step}
use Rattle.squares.specs.Sets.{has, set_of, empty_s, single_s, or_s, and_s, xor_s, andnot_s, not_s, shift_s}
use Rattle.squares.specs.declared.bitboard.Direction.{Direction}
use Rattle.squares.proofs.Members.{has-set_of, set_of_cong}

rules : (op : Bool → Bool → Bool) (f g : ℕ → Bool) → set_of (λ n. op (has (set_of f) n) (has (set_of g) n)) ≡ set_of (λ n. op (f n) (g n))
rules op f g =
    set_of_cong (λ n. op (has (set_of f) n) (has (set_of g) n)) (λ n. op (f n) (g n))
    (λ n o. ap₂ op (has-set_of f n ∙ ap (λ (t : Bool). t && f n) o) (has-set_of g n ∙ ap (λ (t : Bool). t && g n) o))

pub empty_rule : empty_s ≡ set_of (λ n. false)
unfolding empty_s
empty_rule = refl

pub single_rule : (m : ℕ) → single_s m ≡ set_of (eqb m)
unfolding single_s
single_rule m = refl

pub or_rules : (f g : ℕ → Bool) → or_s (set_of f) (set_of g) ≡ set_of (λ n. f n || g n)
unfolding or_s
or_rules = rules (λ p q. p || q)

pub and_rules : (f g : ℕ → Bool) → and_s (set_of f) (set_of g) ≡ set_of (λ n. f n && g n)
unfolding and_s
and_rules = rules (λ p q. p && q)

pub xor_rules : (f g : ℕ → Bool) → xor_s (set_of f) (set_of g) ≡ set_of (λ n. not (beq (f n) (g n)))
unfolding xor_s
xor_rules = rules (λ p q. not (beq p q))

pub andnot_rules : (f g : ℕ → Bool) → andnot_s (set_of f) (set_of g) ≡ set_of (λ n. not (f n) && g n)
unfolding andnot_s
andnot_rules = rules (λ p q. not p && q)

pub not_rule : (f : ℕ → Bool) → not_s (set_of f) ≡ set_of (λ n. not (f n))
unfolding not_s
not_rule f = rules (λ p q. not p) f f

pub shift_rule : (dir : Direction) (d : ℕ) (f : ℕ → Bool) → shift_s dir d (set_of f) ≡ set_of (λ n. on_board 9 (step 9 (opposite dir) d n) && f (step 9 (opposite dir) d n))
unfolding shift_s
shift_rule dir d f =
    set_of_cong (λ n. has (set_of f) (step 9 (opposite dir) d n)) (λ n. on_board 9 (step 9 (opposite dir) d n) && f (step 9 (opposite dir) d n))
    (λ n o. has-set_of f (step 9 (opposite dir) d n))
