-- The way back from a number and from the hands' part to the counts: two hands with one text hold the same.
use Prim.Native.Nat.{ℕ, zero, suc, ◌+◌, ◌*◌, ◌-◌, ◌/◌, ◌%◌, ◌≤◌, ◌<◌}
use native.Mathlib.Omega.{arith}
use native.Mathlib.Decide.{dec_lt}
use native.Mathlib.Nat.{zero-add, add_left_cancel}
use mathlib.Core.Path.{◌≡◌, refl, sym, ap, ◌∙◌}
use mathlib.Core.Bool.{Bool, true, false, cond}
use mathlib.Core.List.{List, [], ◌∷◌, ◌++◌, map, append_assoc}
use lib.Dec.{T, eqb, leb, ltb, lit<}
use lib.ListN.{length, get_or, length-append, length-map}
use borrow.Author.Tests.{lt-ltb, le-ltb, ltb-true, le-leb, lt-leb, eq-eqb}
use Rattle.position.specs.Answers.{hand_at}
use Rattle.sfen.specs.Text.{Game, letter_of, decimal, number_text, count_text, hand_text, or_dash, hands_text}
use Rattle.sfen.proofs.Cut.{Over, over_append}

-- ---- the value of digits
abbrev value : ℕ → List ℕ → ℕ
value a [] = a
value a (b ∷ bs) = value (a * 10 + (b - 48)) bs

value-append : (a : ℕ) (xs ys : List ℕ) → value a (xs ++ ys) ≡ value (value a xs) ys
value-append a [] ys = refl
value-append a (x ∷ xs) ys = value-append (a * 10 + (x - 48)) xs ys

value-decimal : (most n : ℕ) → n < most → value 0 (decimal most n) ≡ n
unfolding decimal
value-decimal zero n h = absurd (omega arith)
value-decimal (suc most) n h = go (dec_lt n 10) (value-decimal most (n / 10))
  where
    go : Dec (n < 10) → (n / 10 < most → value 0 (decimal most (n / 10)) ≡ n / 10)
        → value 0 (cond (ltb n 10) ((48 + n) ∷ []) (decimal most (n / 10) ++ (48 + n % 10) ∷ [])) ≡ n
    go (yes p) r = rw (lt-ltb n 10 p) (omega arith)
    go (no p) r = rw (le-ltb n 10 (omega arith)) (value-append 0 (decimal most (n / 10)) _ ∙ rw (r (omega arith)) (omega arith))

-- every number is read back from its text
value-number : (n : ℕ) → value 0 (number_text n) ≡ n
unfolding number_text
value-number n = value-decimal (suc n) n (omega arith)

pub number_same : (m n : ℕ) → number_text m ≡ number_text n → m ≡ n
number_same m n e = sym (value-number m) ∙ ap (value 0) e ∙ value-number n

-- ---- its bytes are digits
abbrev Digits : List ℕ → Type 0
Digits [] = Unit {0}
Digits (b ∷ bs) = ((32 < b) × (b ≤ 57)) × Digits bs

digits_append : (a b : List ℕ) → Digits a → Digits b → Digits (a ++ b)
digits_append [] b p q = q
digits_append (x ∷ xs) b p q = (p.0, digits_append xs b p.1 q)

digits_decimal : (most n : ℕ) → Digits (decimal most n)
unfolding decimal
digits_decimal zero n = tt
digits_decimal (suc most) n = go (ltb n 10) refl (digits_decimal most (n / 10))
  where
    go : (b : Bool) → ltb n 10 ≡ b → Digits (decimal most (n / 10)) → Digits (cond b ((48 + n) ∷ []) (decimal most (n / 10) ++ (48 + n % 10) ∷ []))
    go true e i = let h : n < 10 = ltb-true n 10 e in ((omega arith, omega arith), tt)
    go false e i = digits_append (decimal most (n / 10)) _ i ((omega arith, omega arith), tt)

digits_number : (n : ℕ) → Digits (number_text n)
unfolding number_text
digits_number n = digits_decimal (suc n) n

digits_over : (bs : List ℕ) → Digits bs → Over 32 bs
digits_over [] d = tt
digits_over (b ∷ bs) d = (d.0.0, digits_over bs d.1)

pub number_over : (n : ℕ) → Over 32 (number_text n)
number_over n = digits_over (number_text n) (digits_number n)

-- ---- counts beside letters
abbrev counts_text : List ℕ → List ℕ → List ℕ
counts_text [] cs = []
counts_text (l ∷ ls) [] = []
counts_text (l ∷ ls) (c ∷ cs) = count_text l c ++ counts_text ls cs

-- the count that goes with a letter, n being read of it already
abbrev least : ℕ → ℕ
least zero = 1
least (suc n) = suc n

abbrev tally : ℕ → ℕ → List ℕ → ℕ
tally l n [] = 0
tally l n (b ∷ bs) = cond (leb b 57) (tally l (n * 10 + (b - 48)) bs) (cond (eqb b l) (least n) 0 + tally l 0 bs)

tally_digits : (l n : ℕ) (ds rest : List ℕ) → Digits ds → tally l n (ds ++ rest) ≡ tally l (value n ds) rest
tally_digits l n [] rest d = refl
tally_digits l n (x ∷ ds) rest d = rw (le-leb x 57 d.0.1) (tally_digits l (n * 10 + (x - 48)) ds rest d.1)

cond_same : (b : Bool) (n : ℕ) → cond b n n ≡ n
cond_same true n = refl
cond_same false n = refl

tally_count : (l k c : ℕ) (rest : List ℕ) → 57 < k → tally l 0 (count_text k c ++ rest) ≡ cond (eqb k l) c 0 + tally l 0 rest
unfolding count_text
tally_count l k zero rest h = rw (cond_same (eqb k l) 0) (sym (zero-add _))
tally_count l k (suc zero) rest h = rw (lt-leb k 57 h)
tally_count l k (suc (suc c)) rest h =
    simp append_assoc (tally_digits l 0 (number_text (suc (suc c))) (k ∷ rest) (digits_number (suc (suc c))) ∙ rw (value-number (suc (suc c)), lt-leb k 57 h))

-- the count of a letter in a list
abbrev find : ℕ → List ℕ → List ℕ → ℕ
find l [] cs = 0
find l (k ∷ ks) [] = 0
find l (k ∷ ks) (c ∷ cs) = cond (eqb k l) c 0 + find l ks cs

tally_counts : (l : ℕ) (ks cs : List ℕ) → Over 57 ks → tally l 0 (counts_text ks cs) ≡ find l ks cs
tally_counts l [] cs o = refl
tally_counts l (k ∷ ks) [] o = refl
tally_counts l (k ∷ ks) (c ∷ cs) o = tally_count l k c (counts_text ks cs) o.0 ∙ rw (tally_counts l ks cs o.1)

-- no letter twice
abbrev absent : ℕ → List ℕ → Bool
absent l [] = true
absent l (k ∷ ks) = cond (eqb k l) false (absent l ks)

abbrev pub Distinct : List ℕ → Type 0
Distinct [] = Unit {0}
Distinct (k ∷ ks) = T (absent k ks) × Distinct ks

find_absent : (l : ℕ) (ks cs : List ℕ) → T (absent l ks) → find l ks cs ≡ 0
find_absent l [] cs t = refl
find_absent l (k ∷ ks) [] t = refl
find_absent l (k ∷ ks) (c ∷ cs) t = go (eqb k l) (find_absent l ks cs) t
  where
    go : (b : Bool) → (T (absent l ks) → find l ks cs ≡ 0) → T (cond b false (absent l ks)) → cond b c 0 + find l ks cs ≡ 0
    go true f t = absurd t
    go false f t = omega (arith, f t)

find_same : (ks cs ds : List ℕ) → Distinct ks → length cs ≡ length ks → length ds ≡ length ks → ((l : ℕ) → find l ks cs ≡ find l ks ds) → cs ≡ ds
find_same [] [] [] u p q e = refl
find_same [] [] (d ∷ ds) u p q e = absurd (omega arith)
find_same [] (c ∷ cs) ds u p q e = absurd (omega arith)
find_same (k ∷ ks) [] ds u p q e = absurd (omega arith)
find_same (k ∷ ks) (c ∷ cs) [] u p q e = absurd (omega arith)
find_same (k ∷ ks) (c ∷ cs) (d ∷ ds) u p q e =
    let h : c ≡ d = omega (arith, rw (eq-eqb k k refl, find_absent k ks cs u.0, find_absent k ks ds u.0) at (e k)) in
    let t : cs ≡ ds = find_same ks cs ds u.1 (omega arith) (omega arith) (λ l. add_left_cancel _ (rw h at (e l))) in
    cc

-- ---- both hands as one list of letters and one of counts
abbrev pub letters : List ℕ → List ℕ
letters ks = map (letter_of 1) ks ++ map (letter_of 2) ks

abbrev in_hand : List ℕ → ℕ → List ℕ → List ℕ
in_hand hands colour ks = map (λ k. get_or hands (hand_at colour k) 0) ks

abbrev pub counts : List ℕ → List ℕ → List ℕ
counts ks hands = in_hand hands 1 ks ++ in_hand hands 2 ks

hand-counts : (ks hands : List ℕ) (colour : ℕ) → hand_text ks hands colour ≡ counts_text (map (letter_of colour) ks) (in_hand hands colour ks)
unfolding hand_text
hand-counts [] hands colour = refl
hand-counts (k ∷ ks) hands colour = ap (λ (t : List ℕ). count_text (letter_of colour k) (get_or hands (hand_at colour k) 0) ++ t) (hand-counts ks hands colour)

counts-append : (ls ks cs ds : List ℕ) → length ls ≡ length cs → counts_text (ls ++ ks) (cs ++ ds) ≡ counts_text ls cs ++ counts_text ks ds
counts-append [] ks [] ds h = refl
counts-append [] ks (c ∷ cs) ds h = absurd (omega arith)
counts-append (l ∷ ls) ks [] ds h = absurd (omega arith)
counts-append (l ∷ ls) ks (c ∷ cs) ds h = rw (counts-append ls ks cs ds (omega arith)) (sym (append_assoc (count_text l c) (counts_text ls cs) (counts_text ks ds)))

both_counts : (ks hands : List ℕ) → hand_text ks hands 1 ++ hand_text ks hands 2 ≡ counts_text (letters ks) (counts ks hands)
both_counts ks hands =
    rw (hand-counts ks hands 1, hand-counts ks hands 2)
    (sym (counts-append (map (letter_of 1) ks) (map (letter_of 2) ks) (in_hand hands 1 ks) (in_hand hands 2 ks) (length-map ks (letter_of 1) ∙ sym (length-map ks (λ k. get_or hands (hand_at 1 k) 0)))))

length_both : (ks hands : List ℕ) → length (counts ks hands) ≡ length (letters ks)
length_both ks hands =
    omega (
      arith,
      length-append (in_hand hands 1 ks) (in_hand hands 2 ks),
      length-append (map (letter_of 1) ks) (map (letter_of 2) ks),
      length-map ks (letter_of 1),
      length-map ks (letter_of 2),
      length-map ks (λ k. get_or hands (hand_at 1 k) 0),
      length-map ks (λ k. get_or hands (hand_at 2 k) 0),
    )

tally_dash : (l : ℕ) (bs : List ℕ) → tally l 0 (or_dash bs) ≡ tally l 0 bs
unfolding or_dash
tally_dash l [] = refl
tally_dash l (b ∷ bs) = refl

over_count : (l c : ℕ) → 57 < l → Over 32 (count_text l c)
unfolding count_text
over_count l zero h = tt
over_count l (suc zero) h = (omega arith, tt)
over_count l (suc (suc c)) h = over_append 32 (number_text (suc (suc c))) _ (number_over (suc (suc c))) (omega arith, tt)

over_counts : (ls cs : List ℕ) → Over 57 ls → Over 32 (counts_text ls cs)
over_counts [] cs o = tt
over_counts (l ∷ ls) [] o = tt
over_counts (l ∷ ls) (c ∷ cs) o = over_append 32 (count_text l c) _ (over_count l c o.0) (over_counts ls cs o.1)

over_dash : (bs : List ℕ) → Over 32 bs → Over 32 (or_dash bs)
unfolding or_dash
over_dash [] o = (lit< tt, tt)
over_dash (b ∷ bs) o = o

-- ---- THE law of hands, of any kinds with letters of their own
module _ (game : Game) (above : Over 57 (letters game.held)) where
  pub hands_over : (hs : List ℕ) → Over 32 (hands_text game hs)
  unfolding hands_text
  hands_over hs =
      rw (both_counts game.held hs) (over_dash (counts_text (letters game.held) (counts game.held hs)) (over_counts (letters game.held) (counts game.held hs) above))

  tally_hands : (l : ℕ) (hs : List ℕ) → tally l 0 (hands_text game hs) ≡ find l (letters game.held) (counts game.held hs)
  unfolding hands_text
  tally_hands l hs =
      rw (both_counts game.held hs)
      (tally_dash l (counts_text (letters game.held) (counts game.held hs)) ∙ tally_counts l (letters game.held) (counts game.held hs) above)

  pub hands-same : Distinct (letters game.held) → (hs ks : List ℕ) → hands_text game hs ≡ hands_text game ks → counts game.held hs ≡ counts game.held ks
  hands-same apart hs ks e =
      find_same (letters game.held) (counts game.held hs) (counts game.held ks) apart (length_both game.held hs) (length_both game.held ks)
      (λ l. sym (tally_hands l hs) ∙ ap (tally l 0) e ∙ tally_hands l ks)
