-- The sets of the marks of a board's cells: each by its mark, compared with others, and those of an empty board.
use Rattle.std.proofs.Common.{◌≡◌, ℕ, ◌+◌, ◌-◌, ◌<◌, true, false, eqb, List, get_or, replicate, sym, ap, ◌∙◌, arith, ne_eqb}
use lib.ListN.{length-replicate, get_or-replicate}
use Rattle.squares.specs.Sets.{set_of, clean, empty_s, cell_at, family}
use Rattle.squares.specs.declared.bitboard.Bitboard.{Bitboard}
use Rattle.squares.proofs.Lists.{get_d_tab, is_tab}
use Rattle.squares.proofs.Steps.{board_range}
use Rattle.squares.proofs.Members.{set_of_cong, clean-set_of}
use Rattle.squares.proofs.Rules.{empty_rule}

module _ (mark : ℕ → ℕ) (count : ℕ) (cells : List ℕ) where
  pub family_at : (j : ℕ) (d : Bitboard) → j < count → get_or (family mark count cells) j d ≡ set_of (λ n. eqb (mark (cell_at cells n)) (1 + j))
  unfolding family
  family_at j d h = get_d_tab (λ k. set_of (λ n. eqb (mark (cell_at cells n)) k)) 1 count j d h

  pub family-clean : (j : ℕ) (d : Bitboard) → j < count → clean (get_or (family mark count cells) j d) ≡ true
  family-clean j d h = ap clean (family_at j d h) ∙ clean-set_of (λ n. eqb (mark (cell_at cells n)) (1 + j))

-- the sets of an empty board are empty, where an empty cell has no mark
pub family_zeros : (mark : ℕ → ℕ) (count : ℕ) → mark 0 ≡ 0 → replicate count empty_s ≡ family mark count (replicate 81 0)
unfolding family
family_zeros mark count z =
    is_tab (replicate count empty_s) (λ k. set_of (λ n. eqb (mark (cell_at (replicate 81 0) n)) k)) count empty_s (length-replicate count empty_s)
    (λ j h.
    get_or-replicate count j empty_s empty_s h ∙ empty_rule
    ∙ set_of_cong (λ n. false) (λ n. eqb (mark (cell_at (replicate 81 0) n)) (1 + j)) (λ n o.
    let b = board_range 9 n o in
    sym (ap (λ (c : ℕ). eqb (mark c) (1 + j)) (get_or-replicate 81 (n - 1) 0 0 (omega arith)) ∙ ap (λ (m : ℕ). eqb m (1 + j)) z ∙ ne_eqb 0 (1 + j) (λ e. omega arith))))
