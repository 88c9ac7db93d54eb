-- A sound position's text has at most 136 bytes: at most 81 for cells, 8 between ranks, 38 for promoted pieces and hands
-- together, 4 around the side and the hands, 5 for the ply.
use Prim.Native.Nat.{ℕ, zero, suc, ◌+◌, ◌-◌, ◌*◌, ◌%◌, ◌≤◌, ◌<◌}
use native.Mathlib.Omega.{arith}
use native.Mathlib.Decide.{dec_lt}
use mathlib.Core.Logic.{◌⊎◌, inl, inr, ⊎_elim}
use mathlib.Core.Path.{◌≡◌, refl, sym, ap, ◌∙◌}
use mathlib.Core.Bool.{Bool, true, false, not, cond, false≢true}
use mathlib.Core.List.{List, [], ◌∷◌, ◌++◌}
use lib.Dec.{T, eqb, leb, ltb, lit<, lit≤, leb→le}
use lib.ListN.{length, get_or, length-append}
use borrow.Author.Tests.{lt-ltb}
use Rattle.squares.specs.Bit.{digit}
use Rattle.squares.specs.Kinds.{kinds, kind_row, good_kind, colour_of, kind_of, good_piece, good_cell}
use Rattle.squares.proofs.Laws.{all_at, board_on, le-or-lt, piece-high, cell-piece}
use Rattle.position.specs.declared.position.Position.{Position}
use Rattle.position.specs.Machine.{machine, cell_at}
use Rattle.position.specs.Sound.{top_ply, sound, standing}
use Rattle.position.specs.Answers.{hand_at}
use Rattle.position.proofs.Laws.{Sized, sound_order, ply_range}
use Rattle.sfen.specs.Text.{shogi, letter_of, kind_text, piece_text, run, rank_text, rank_cells, ranks, later_text, ranks_text, board_text, side_byte, number_text, count_text, hand_text, or_dash, hands_text, text, position_text}
use Rattle.sfen.specs.Inner.{place}
use Rattle.sfen.proofs.Cases.{number_places, hands_both}
use Rattle.sfen.proofs.Boards.{concat, plain}
use Rattle.sfen.proofs.Sums.{total, sum_to, total_append, sum_same, sum_less, count_sums, total_cells, length-tab, length_from}

-- ---- a byte for each cell, and one more for a promoted piece
abbrev extra : ℕ → ℕ
extra c = digit (not (plain c))

length-piece : (c : ℕ) → length (piece_text c) ≡ 1 + extra c
unfolding piece_text kind_text digit
length-piece c = go (plain c) (letter_of (colour_of c) (kind_of c))
  where
    go : (t : Bool) (b : ℕ) → length (cond t (b ∷ []) (43 ∷ b ∷ [])) ≡ 1 + digit (not t)
    go true b = refl
    go false b = refl

length_run : (e : ℕ) → length (run e) ≤ e
unfolding run
length_run zero = lit≤ tt
length_run (suc e) = omega arith

length-cells : (e : ℕ) (cs : List ℕ) → length (rank_text e cs) ≤ e + (length cs + total extra cs)
unfolding rank_text
length-cells e [] = omega (arith, length_run e)
length-cells e (zero ∷ cs) = omega (arith, length-cells (suc e) cs)
length-cells e (suc c ∷ cs) =
    omega (
      arith,
      length-append (run e) (piece_text (suc c) ++ rank_text 0 cs),
      length-append (piece_text (suc c)) (rank_text 0 cs),
      length_run e,
      length-piece (suc c),
      length-cells 0 cs,
    )

length_later : (rs : List (List ℕ)) → length (later_text rs) ≤ length rs + (length (concat rs) + total extra (concat rs))
unfolding later_text
length_later [] = lit≤ tt
length_later (r ∷ rs) =
    omega (arith, length-append (rank_text 0 r) (later_text rs), length-cells 0 r, length_later rs, length-append r (concat rs), total_append extra r (concat rs))

length-ranks : (rs : List (List ℕ)) → 0 < length rs → length (ranks_text rs) + 1 ≤ length rs + (length (concat rs) + total extra (concat rs))
unfolding ranks_text
length-ranks [] h = absurd (omega arith)
length-ranks (r ∷ rs) h =
    omega (arith, length-append (rank_text 0 r) (later_text rs), length-cells 0 r, length_later rs, length-append r (concat rs), total_append extra r (concat rs))

length_all : (w : ℕ) (cells : List ℕ) → length (ranks w cells) ≡ w
unfolding ranks
length_all w cells = length-tab (rank_cells w cells) 1 w

length_flat : (w : ℕ) (cells : List ℕ) → length (concat (ranks w cells)) ≡ w * w
unfolding ranks
length_flat w cells = length_from w cells 1 w

-- over any side: at 9 the ranks would be written out
side_bound : (w : ℕ) (cells : List ℕ) → 0 < w → length (ranks_text (ranks w cells)) + 1 ≤ w + (w * w + sum_to (w * w) (λ i. extra (get_or cells i 0)))
side_bound w cells h =
    let n = length_all w cells in
    omega (arith, length-ranks (ranks w cells) (omega arith), n, length_flat w cells, total_cells extra w cells)

-- ---- a promoted piece is one of the kinds that promote
abbrev is_kind : ℕ → ℕ → ℕ
is_kind k c = digit (eqb (kind_row (kind_of c)).unpromoted k)

abbrev promoting : ℕ → ℕ
promoting c = is_kind 1 c + (is_kind 2 c + (is_kind 3 c + (is_kind 4 c + (is_kind 6 c + is_kind 7 c))))

abbrev counted : ℕ → Bool
counted c = leb (extra c) (cond (good_cell c) (promoting c) 1)

counted_all : (c : ℕ) → c < 31 → T (counted c)
unfolding digit kind_of kind_row kinds good_cell good_piece good_kind
counted_all c h = all_at counted 31 tt c h

extra_kind : (c : ℕ) → good_cell c ≡ true → extra c ≤ promoting c
extra_kind c g =
    ⊎_elim (λ (h : 31 ≤ c). absurd (false≢true (sym (piece-high c h) ∙ cell-piece c g (λ z. omega arith))))
    (λ (h : c < 31). leb→le (extra c) (promoting c) (rw g at (counted_all c h))) (le-or-lt 31 c)

abbrev kind_sum : List ℕ → ℕ → ℕ
kind_sum cells k = sum_to 81 (λ i. is_kind k (get_or cells i 0))

sum-kinds : (n : ℕ) (g : ℕ → ℕ) → sum_to n (λ i. promoting (g i))
    ≡ sum_to n (λ i. is_kind 1 (g i)) + (sum_to n (λ i. is_kind 2 (g i)) + (sum_to n (λ i. is_kind 3 (g i)) + (sum_to n (λ i. is_kind 4 (g i)) + (sum_to n (λ i. is_kind 6 (g i)) + sum_to n (λ i. is_kind 7 (g i))))))
unfolding sum_to
sum-kinds zero g = refl
sum-kinds (suc n) g = omega (arith, sum-kinds n g)

standing-sum : (cells : List ℕ) (k : ℕ) → standing cells k ≡ kind_sum cells k
unfolding standing
standing-sum cells k =
    count_sums (λ n. eqb (kind_row (kind_of (cell_at cells n))).unpromoted k) 1 81
    ∙ same 81 (λ i. get_or cells i 0)
  where
    same : (n : ℕ) (g : ℕ → ℕ) → sum_to n (λ j. is_kind k (g (1 + j - 1))) ≡ sum_to n (λ j. is_kind k (g j))
    same n g = sum_same n (λ j. is_kind k (g (1 + j - 1))) (λ j. is_kind k (g j)) (λ j h. ap (λ (i : ℕ). is_kind k (g i)) (omega arith))

-- ---- hands: a count takes no more bytes than it counts
length-place : (unit n : ℕ) → length (place unit n) ≤ 1
unfolding place
length-place unit n = go (ltb n unit) _
  where
    go : (t : Bool) (b : ℕ) → length (cond t [] (b ∷ [])) ≤ 1
    go true b = lit≤ tt
    go false b = lit≤ tt

place-low : (unit n : ℕ) → n < unit → length (place unit n) ≡ 0
unfolding place
place-low unit n h = rw (lt-ltb n unit h)

length-number : (n : ℕ) → n < 100000 → length (number_text n)
    ≡ length (place 10000 n) + (length (place 1000 n) + (length (place 100 n) + (length (place 10 n) + 1)))
length-number n h =
    ap length (number_places n h)
    ∙ omega (
      arith,
      length-append (place 10000 n) (place 1000 n ++ (place 100 n ++ (place 10 n ++ (48 + n % 10) ∷ []))),
      length-append (place 1000 n) (place 100 n ++ (place 10 n ++ (48 + n % 10) ∷ [])),
      length-append (place 100 n) (place 10 n ++ (48 + n % 10) ∷ []),
      length-append (place 10 n) ((48 + n % 10) ∷ []),
    )

number_five : (n : ℕ) → n < 100000 → length (number_text n) ≤ 5
number_five n h = omega (arith, length-number n h, length-place 10000 n, length-place 1000 n, length-place 100 n, length-place 10 n)

number_less : (n : ℕ) → 2 ≤ n → n < 100 → length (number_text n) + 1 ≤ n
number_less n l h = go (dec_lt n 10)
  where
    go : Dec (n < 10) → length (number_text n) + 1 ≤ n
    go (yes p) =
        omega (arith, length-number n (omega arith), place-low 10000 n (omega arith), place-low 1000 n (omega arith), place-low 100 n (omega arith), place-low 10 n p)
    go (no p) =
        omega (arith, length-number n (omega arith), place-low 10000 n (omega arith), place-low 1000 n (omega arith), place-low 100 n (omega arith), length-place 10 n)

length-count : (l n : ℕ) → n < 100 → length (count_text l n) ≤ n
unfolding count_text
length-count l zero h = lit≤ tt
length-count l (suc zero) h = lit≤ tt
length-count l (suc (suc n)) h = omega (arith, length-append (number_text (suc (suc n))) (l ∷ []), number_less (suc (suc n)) (omega arith) h)

abbrev held_in : List ℕ → List ℕ → ℕ → ℕ
held_in [] hands colour = 0
held_in (k ∷ ks) hands colour = get_or hands (hand_at colour k) 0 + held_in ks hands colour

length-hand : (ks hands : List ℕ) (colour : ℕ) → held_in ks hands colour < 100 → length (hand_text ks hands colour) ≤ held_in ks hands colour
unfolding hand_text
length-hand [] hands colour h = lit≤ tt
length-hand (k ∷ ks) hands colour h =
    omega (
      arith,
      length-append (count_text (letter_of colour k) (get_or hands (hand_at colour k) 0)) (hand_text ks hands colour),
      length-count (letter_of colour k) (get_or hands (hand_at colour k) 0) (omega arith),
      length-hand ks hands colour (omega arith),
    )

length_dash : (bs : List ℕ) → (length (or_dash bs) ≤ 1) ⊎ (length (or_dash bs) ≤ length bs)
unfolding or_dash
length_dash [] = inl (lit≤ tt)
length_dash (b ∷ bs) = inr (omega arith)

abbrev count : List ℕ → ℕ → ℕ
count hands j = get_or hands j 0

held_black : (hands : List ℕ) → held_in shogi.held hands 1
    ≡ count hands 6 + (count hands 5 + (count hands 4 + (count hands 3 + (count hands 2 + (count hands 1 + (count hands 0 + 0))))))
unfolding shogi hand_at
held_black hands = refl

held_white : (hands : List ℕ) → held_in shogi.held hands 2
    ≡ count hands 13 + (count hands 12 + (count hands 11 + (count hands 10 + (count hands 9 + (count hands 8 + (count hands 7 + 0))))))
unfolding shogi hand_at
held_white hands = refl

length-hands : (hands : List ℕ) → held_in shogi.held hands 1 < 100 → held_in shogi.held hands 2 < 100
    → (length (hands_text shogi hands) ≤ 1) ⊎ (length (hands_text shogi hands) ≤ held_in shogi.held hands 1 + held_in shogi.held hands 2)
length-hands hands hb hw =
    let b = length-hand shogi.held hands 1 hb in
    let w = length-hand shogi.held hands 2 hw in
    let both = length-append (hand_text shogi.held hands 1) (hand_text shogi.held hands 2) in
    rw (hands_both hands)
    (⊎_elim (λ (d : length (or_dash (hand_text shogi.held hands 1 ++ hand_text shogi.held hands 2)) ≤ 1). inl d)
    (λ (d : length (or_dash (hand_text shogi.held hands 1 ++ hand_text shogi.held hands 2)) ≤ length (hand_text shogi.held hands 1 ++ hand_text shogi.held hands 2)). inr (omega arith))
    (length_dash (hand_text shogi.held hands 1 ++ hand_text shogi.held hands 2)))

text-length : (cells : List ℕ) (side : ℕ) (hands : List ℕ) (ply : ℕ)
    → length (text shogi cells side hands ply) ≡ length (board_text shogi cells) + (3 + (length (hands_text shogi hands) + (1 + length (number_text ply))))
unfolding text
text-length cells side hands ply =
    omega (
      arith,
      length-append (board_text shogi cells) (32 ∷ side_byte side ∷ 32 ∷ (hands_text shogi hands ++ 32 ∷ number_text ply)),
      length-append (hands_text shogi hands) (32 ∷ number_text ply),
    )

-- ---- the bound
module _ (p : Position) (z : Sized p) (s : sound p ≡ true) where
  cell-good : (i : ℕ) → i < 81 → good_cell (get_or p.board i 0) ≡ true
  unfolding machine
  cell-good i h =
      let e : i + 1 - 1 ≡ i = omega arith in
      rw e at ((sound_order p z s).cells (i + 1) (board_on 9 (i + 1) (omega arith) (omega arith)))

  board_bound : length (board_text shogi p.board)
      ≤ 89 + (kind_sum p.board 1 + (kind_sum p.board 2 + (kind_sum p.board 3 + (kind_sum p.board 4 + (kind_sum p.board 6 + kind_sum p.board 7)))))
  unfolding board_text shogi
  board_bound =
      omega (
        arith,
        side_bound 9 p.board (omega arith),
        sum_less 81 (λ i. extra (get_or p.board i 0)) (λ i. promoting (get_or p.board i 0)) (λ i h. extra_kind (get_or p.board i 0) (cell-good i h)),
        sum-kinds 81 (λ i. get_or p.board i 0),
      )

  limit : (j n : ℕ) → j < 7 → (kind_row (j + 1)).limit ≡ n → kind_sum p.board (j + 1) + (count p.hands j + count p.hands (j + 7)) ≤ n
  unfolding machine
  limit j n h e = rw (standing-sum p.board (j + 1), e) at ((sound_order p z s).counts j h)

  -- "The text is never longer than 168 bytes."
  pub text_bound : length (position_text p) ≤ 136
  unfolding position_text kind_row kinds top_ply machine
  text_bound =
      let k1 = limit 0 18 (lit< tt) refl in
      let k2 = limit 1 4 (lit< tt) refl in
      let k3 = limit 2 4 (lit< tt) refl in
      let k4 = limit 3 4 (lit< tt) refl in
      let k5 = limit 4 4 (lit< tt) refl in
      let k6 = limit 5 2 (lit< tt) refl in
      let k7 = limit 6 2 (lit< tt) refl in
      let b = held_black p.hands in
      let w = held_white p.hands in
      let t = text-length p.board p.side p.hands p.ply in
      let n = number_five p.ply (omega (arith, ply_range p.ply (sound_order p z s).ply)) in
      let c = board_bound in
      ⊎_elim (λ (d : length (hands_text shogi p.hands) ≤ 1). omega arith)
      (λ (d : length (hands_text shogi p.hands) ≤ held_in shogi.held p.hands 1 + held_in shogi.held p.hands 2). omega arith)
      (length-hands p.hands (omega arith) (omega arith))
