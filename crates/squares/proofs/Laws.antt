-- What a crate above may cite: the members of each set, sets given by rules, the shift law and its consequences at every
-- direction and distance, pop, count, steps on a board of any side, and that an answer is determined by what it says.
use Rattle.std.proofs.Common.{◌≡◌, ℕ, zero, suc, ◌+◌, ◌^◌, ◌<◌, ◌≤◌, Bool, true, false, not, ◌&&◌, ◌||◌, eqb, sym, refl, ap, ◌∙◌, ap₂, ⊎_elim, true≢false, arith, ne_eqb}
use mathlib.Core.Bool.{beq}
use Rattle.squares.specs.Board.{on_board, flip_to, opposite, step}
use Rattle.squares.specs.Sets.{has, set_of, empty_s, single_s, or_s, and_s, xor_s, andnot_s, not_s, flip_s, without_s, shift_s}
use Rattle.std.specs.Prelude.{Option, Some, None, Result, Ok, Err, is_some, unwrap_or}
use Rattle.std.specs.Result.{result_unwrap_or}
use Rattle.squares.specs.declared.bad_number.BadNumber.{BadNumber}
use Rattle.squares.specs.Answers.{number_given, form_given, set_given, truth_given, SetValue, TruthValue, set_if, truth_if, single_answer, contains_answer, NumberValue, FormValue, number_if, form_if, unpromoted_answer, limit_answer, letter_answer, promoted_answer, hand_kind_answer, promoted_piece_answer}
use Rattle.squares.specs.Kinds.{good_kind, kind_row, hand_kind, good_piece, promoted_piece}
use Rattle.squares.specs.declared.bitboard.Bitboard.{Bitboard}
use Rattle.squares.specs.declared.bitboard.Direction.{Direction}
pub use Rattle.squares.proofs.Lists.{length-tab, get_d_tab, get_d_any, is_tab, set-tab, tab-same, Filled, filled_none, filled_more, filled_all}
pub use Rattle.squares.proofs.Steps.{both, decided, eqb_same, board_range, board_on, board-zero, board-low, board-high, side_range, side_on, side_low, side_high}
pub use Rattle.squares.proofs.Steps.{file-side, rank-side, at_back, at_on, at_off, at_board, at_file, at_rank}
pub use Rattle.squares.proofs.Steps.{step_off, step-zero, step-none, step_long, step_add, step_back, step_iff}
pub use Rattle.squares.proofs.Members.{le-or-lt, has-set_of, set_of_cong, set_of-has, clean-set_of, clean-has, has_off, has_on, has-empty_s}
pub use Rattle.squares.proofs.Rules.{empty_rule, single_rule, or_rules, and_rules, xor_rules, andnot_rules, not_rule, shift_rule}
pub use Rattle.squares.proofs.Exact.{exactly-set, set-exactly, exactly-not, exactly-same, exactly_other}
pub use Rattle.squares.proofs.Families.{family_at, family-clean, family_zeros}
pub use Rattle.squares.proofs.Marking.{all_good_lem, good_all, marks_told, marks-refused, marks-players, marks-kinds}
pub use Rattle.squares.proofs.Tests.{all, all_at, all_from, rows_truth}
pub use Rattle.squares.proofs.Counts.{count_same, count_add, count-sum, count-change, size_rule}
pub use Rattle.squares.proofs.Least.{First, smallest_is, smallest_at, smallest-none, size_without, count_none, size_none, size-le, empty-size, empty-none, empty-some, empty-has}
pub use Rattle.squares.proofs.Least.{Popped, pop-square, pop_nothing}
pub use Rattle.squares.proofs.Numbers.{kind_range, colour_range, colour_good, colour_low, colour_high, cell-piece, cell-zero, piece-cell, piece_kind, piece_low_bound}
pub use Rattle.squares.proofs.Numbers.{piece-low, piece_gap, piece-high, piece_black, piece_white, row_bad, promoted-small, letter-small, kind-good, kind_low, kind_high}
pub use Rattle.squares.proofs.Numbers.{black_kind, white_kind, black_colour, white_colour, empty_colour, bad_cells, good-cells}
pub use Rattle.squares.proofs.Numbers.{piece-small, piece_by, other_good, no-promoted, no-held, held_small, limit-small}
pub use Rattle.squares.proofs.Marked.{squares, marked-sets}
pub use Rattle.squares.proofs.Unique.{one_number, one_form, one_set, one_truth, one_pop, one_marks, refused, told-good, told-bad}

-- ---- the members of each operation's set
within : (g : Bool → Bool → Bool) → g false false ≡ false → (a b : Bitboard) (n : ℕ) → on_board 9 n && g (has a n) (has b n) ≡ g (has a n) (has b n)
within g z a b n =
    ⊎_elim (λ (o : on_board 9 n ≡ true). ap (λ (t : Bool). t && g (has a n) (has b n)) o)
    (λ (o : on_board 9 n ≡ false). ap (λ (t : Bool). t && g (has a n) (has b n)) o ∙ sym (ap₂ g (has_off a n o) (has_off b n o) ∙ z))
    (decided (on_board 9 n))

pub has-or_s : (a b : Bitboard) (n : ℕ) → has (or_s a b) n ≡ has a n || has b n
unfolding or_s
has-or_s a b n = has-set_of (λ m. has a m || has b m) n ∙ within (λ p q. p || q) refl a b n

pub has-and_s : (a b : Bitboard) (n : ℕ) → has (and_s a b) n ≡ has a n && has b n
unfolding and_s
has-and_s a b n = has-set_of (λ m. has a m && has b m) n ∙ within (λ p q. p && q) refl a b n

pub has-xor_s : (a b : Bitboard) (n : ℕ) → has (xor_s a b) n ≡ not (beq (has a n) (has b n))
unfolding xor_s
has-xor_s a b n = has-set_of (λ m. not (beq (has a m) (has b m))) n ∙ within (λ p q. not (beq p q)) refl a b n

pub has-andnot_s : (a b : Bitboard) (n : ℕ) → has (andnot_s a b) n ≡ not (has a n) && has b n
unfolding andnot_s
has-andnot_s a b n = has-set_of (λ m. not (has a m) && has b m) n ∙ within (λ p q. not p && q) refl a b n

pub has-not_s : (a : Bitboard) (n : ℕ) → has (not_s a) n ≡ on_board 9 n && not (has a n)
unfolding not_s
has-not_s a n = has-set_of (λ m. not (has a m)) n

pub has-single_s : (m n : ℕ) → has (single_s m) n ≡ on_board 9 n && eqb m n
unfolding single_s
has-single_s m n = has-set_of (eqb m) n

pub has-without_s : (m : ℕ) (s : Bitboard) (n : ℕ) → has (without_s m s) n ≡ has s n && not (eqb n m)
unfolding without_s
has-without_s m s n =
    has-set_of (λ k. has s k && not (eqb k m)) n
    ∙ ⊎_elim (λ (o : on_board 9 n ≡ true). ap (λ (t : Bool). t && (has s n && not (eqb n m))) o)
    (λ (o : on_board 9 n ≡ false). ap (λ (t : Bool). t && (has s n && not (eqb n m))) o ∙ sym (ap (λ (t : Bool). t && not (eqb n m)) (has_off s n o)))
    (decided (on_board 9 n))

pub has-flip_s : (s : Bitboard) (n : ℕ) → has (flip_s s) n ≡ on_board 9 n && has s (flip_to 9 n)
unfolding flip_s
has-flip_s s n = has-set_of (λ m. has s (flip_to 9 m)) n

-- THE shift law: at every direction, distance and number
pub has-shift_s : (dir : Direction) (d : ℕ) (s : Bitboard) (n : ℕ) → has (shift_s dir d s) n ≡ has s (step 9 (opposite dir) d n)
unfolding shift_s
has-shift_s dir d s n =
    has-set_of (λ m. has s (step 9 (opposite dir) d m)) n
    ∙ ⊎_elim (λ (o : on_board 9 n ≡ true). ap (λ (t : Bool). t && has s (step 9 (opposite dir) d n)) o)
    (λ (o : on_board 9 n ≡ false).
    ap (λ (t : Bool). t && has s (step 9 (opposite dir) d n)) o
    ∙ sym (ap (has s) (step_off 9 (opposite dir) d n o) ∙ has_off s 0 (board-zero 9)))
    (decided (on_board 9 n))

-- ---- its consequences
pub shift_long : (dir : Direction) (d : ℕ) (s : Bitboard) → 9 ≤ d → shift_s dir d s ≡ empty_s
unfolding shift_s empty_s
shift_long dir d s h =
    set_of_cong (λ n. has s (step 9 (opposite dir) d n)) (λ n. false) (λ n o. ap (has s) (step_long 9 (opposite dir) d n h) ∙ has_off s 0 (board-zero 9))

pub shift_none : (dir : Direction) (s : Bitboard) → shift_s dir 0 s ≡ set_of (has s)
unfolding shift_s
shift_none dir s = set_of_cong (λ n. has s (step 9 (opposite dir) 0 n)) (has s) (λ n o. ap (has s) (step-none 9 (opposite dir) n o))

pub shift_add : (dir : Direction) (a b : ℕ) (s : Bitboard) → shift_s dir a (shift_s dir b s) ≡ shift_s dir (b + a) s
unfolding shift_s
shift_add dir a b s =
    set_of_cong (λ n. has (shift_s dir b s) (step 9 (opposite dir) a n)) (λ n. has s (step 9 (opposite dir) (b + a) n))
    (λ n o. has-shift_s dir b s (step 9 (opposite dir) a n) ∙ ap (has s) (step_add 9 (opposite dir) b a n))

pub shift-single : (dir : Direction) (d a : ℕ) → shift_s dir d (single_s a) ≡ single_s (step 9 dir d a)
unfolding shift_s single_s
shift-single dir d a =
    set_of_cong (λ n. has (single_s a) (step 9 (opposite dir) d n)) (eqb (step 9 dir d a))
    (λ n o. has-single_s a (step 9 (opposite dir) d n) ∙ step_iff 9 dir d a n o)

-- a set by its members: no stray bit, and the members at every number
pub by_members : (r : Bitboard) (f : ℕ → Bool) → r.lo < 2 ^ 63 → r.hi < 2 ^ 18 → ((n : ℕ) → has r n ≡ on_board 9 n && f n) → r ≡ set_of f
by_members r f hl hh e = sym (set_of-has r hl hh) ∙ set_of_cong (has r) f (λ n o. e n ∙ ap (λ (t : Bool). t && f n) o)

-- ---- what a call gives, told or refused, is what its table or rule says, where that is 0, no or empty for a bad number
number-value : (good : Bool) (w : ℕ) (x : NumberValue) → (good ≡ false → w ≡ 0) → x ≡ number_if good w → x.value ≡ w
number-value true w x bad q = ap (λ (y : NumberValue). y.value) q
number-value false w x bad q = ap (λ (y : NumberValue). y.value) q ∙ sym (bad refl)

form-value : (good : Bool) (w : ℕ) (x : FormValue) → (good ≡ false → w ≡ 0) → x ≡ form_if good w → x.value ≡ w
form-value true w x bad q = ap (λ (y : FormValue). y.value) q
form-value false w x bad q = ap (λ (y : FormValue). y.value) q ∙ sym (bad refl)

truth-value : (good b : Bool) (x : TruthValue) → (good ≡ false → b ≡ false) → x ≡ truth_if good b → x.truth ≡ b
truth-value true b x bad q = ap (λ (y : TruthValue). y.truth) q
truth-value false b x bad q = ap (λ (y : TruthValue). y.truth) q ∙ sym (bad refl)

set_value : (good : Bool) (s : Bitboard) (x : SetValue) → (good ≡ false → s ≡ empty_s) → x ≡ set_if good s → x.set ≡ s
set_value true s x bad q = ap (λ (y : SetValue). y.set) q
set_value false s x bad q = ap (λ (y : SetValue). y.set) q ∙ sym (bad refl)

-- a form that is found is not 0
form-some : (good : Bool) (w : ℕ) (x : FormValue) → x ≡ form_if good w → x.found ≡ true → 1 ≤ w
form-some true zero x q f = absurd (true≢false (sym f ∙ ap (λ (y : FormValue). y.found) q))
form-some true (suc w) x q f = omega arith
form-some false w x q f = absurd (true≢false (sym f ∙ ap (λ (y : FormValue). y.found) q))

-- ---- an answer read with 0, no, the empty set or nothing in a refusal's place
pub number-or : (r : Result ℕ BadNumber) → result_unwrap_or r 0 ≡ (number_given r).value
number-or (Ok v) = refl
number-or (Err e) = refl

pub truth-or : (r : Result Bool BadNumber) → result_unwrap_or r false ≡ (truth_given r).truth
truth-or (Ok b) = refl
truth-or (Err e) = refl

pub set-or : (r : Result Bitboard BadNumber) → result_unwrap_or r empty_s ≡ (set_given r).set
set-or (Ok s) = refl
set-or (Err e) = refl

pub form-or : (r : Result (Option ℕ) BadNumber) → unwrap_or (result_unwrap_or r None) 0 ≡ (form_given r).value
form-or (Ok (Some v)) = refl
form-or (Ok None) = refl
form-or (Err e) = refl

pub form-found : (r : Result (Option ℕ) BadNumber) {v : ℕ} → result_unwrap_or r None ≡ Some v → form_given r ≡ record { number = 0; found = true; value = v }
form-found (Ok o) e = rw e
form-found (Err f) e = absurd (true≢false (sym (ap is_some e)))

module _ (k : ℕ) where
  pub unpromoted-value : (x : NumberValue) → x ≡ unpromoted_answer k → x.value ≡ (kind_row k).unpromoted
  unfolding unpromoted_answer
  unpromoted-value x q = number-value (good_kind k) _ x (λ bad. (row_bad k bad).0) q

  pub limit-value : (x : NumberValue) → x ≡ limit_answer k → x.value ≡ (kind_row k).limit
  unfolding limit_answer
  limit-value x q = number-value (good_kind k) _ x (λ bad. (row_bad k bad).2) q

  pub letter-value : (x : NumberValue) → x ≡ letter_answer k → x.value ≡ (kind_row k).letter
  unfolding letter_answer
  letter-value x q = number-value (good_kind k) _ x (λ bad. (row_bad k bad).3) q

  pub promoted-value : (x : FormValue) → x ≡ promoted_answer k → x.value ≡ (kind_row k).promoted
  unfolding promoted_answer
  promoted-value x q = form-value (good_kind k) _ x (λ bad. (row_bad k bad).1) q

  pub promoted-some : (x : FormValue) → x ≡ promoted_answer k → x.found ≡ true → 1 ≤ (kind_row k).promoted
  unfolding promoted_answer
  promoted-some x q f = form-some (good_kind k) _ x q f

  pub held-value : (x : FormValue) → x ≡ hand_kind_answer k → x.value ≡ hand_kind k
  unfolding hand_kind_answer
  held-value x q = form-value (good_kind k) _ x (no-held k) q

pub promoted-piece-value : (c : ℕ) (x : FormValue) → x ≡ promoted_piece_answer c → x.value ≡ promoted_piece c
unfolding promoted_piece_answer
promoted-piece-value c x q = form-value (good_piece c) _ x (no-promoted c) q

pub contains-value : (s : Bitboard) (n : ℕ) (x : TruthValue) → x ≡ contains_answer s n → x.truth ≡ has s n
unfolding contains_answer
contains-value s n x q = truth-value (on_board 9 n) _ x (has_off s n) q

single_off : (n : ℕ) → on_board 9 n ≡ false → single_s n ≡ empty_s
unfolding single_s empty_s
single_off n off = set_of_cong (eqb n) (λ m. false) (λ m on. ne_eqb n m (λ e. true≢false (sym on ∙ ap (on_board 9) (sym e) ∙ off)))

pub single-value : (n : ℕ) (x : SetValue) → x ≡ single_answer n → x.set ≡ single_s n
unfolding single_answer
single-value n x q = set_value (on_board 9 n) _ x (single_off n) q
