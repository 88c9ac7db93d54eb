-- Lists by their elements: tables, and one element stored.
use Rattle.std.proofs.Common.{◌≡◌, ℕ, zero, suc, ◌+◌, ◌-◌, ◌<◌, ◌≤◌, List, [], ◌∷◌, length, get_or, set, sym, refl, ap, ◌∙◌, le_of_suc-le-suc, not-suc-le-zero, add-zero, add-suc, suc-add, arith, length-set, get_or-set_other, get_or-set_same, ext_get_or}
use native.Mathlib.Decide.{ℕ_discrete}
use lib.Arith.{lt_of_le-ne}
use Rattle.squares.specs.Sets.{tab}

module _ {A : Type 0} where
  pub length-tab : (f : ℕ → A) (i k : ℕ) → length (tab f i k) ≡ k
  unfolding tab
  length-tab f i zero = refl
  length-tab f i (suc k) = ap suc (length-tab f (suc i) k)

  pub get_d_tab : (f : ℕ → A) (i k j : ℕ) (d : A) → j < k → get_or (tab f i k) j d ≡ f (i + j)
  unfolding tab
  get_d_tab f i zero j d h = absurd (omega arith)
  get_d_tab f i (suc k) zero d h = ap f (sym (add-zero i))
  get_d_tab f i (suc k) (suc j) d h = get_d_tab f (suc i) k j d (omega arith) ∙ ap f (suc-add i j ∙ sym (add-suc i j))

  -- an element in range does not depend on the default
  pub get_d_any : (l : List A) (i : ℕ) (d e : A) → i < length l → get_or l i d ≡ get_or l i e
  get_d_any [] i d e h = absurd (not-suc-le-zero h)
  get_d_any (x ∷ xs) zero d e h = refl
  get_d_any (x ∷ xs) (suc i) d e h = get_d_any xs i d e (le_of_suc-le-suc h)

  -- a list is a table where its elements are
  pub is_tab : (l : List A) (f : ℕ → A) (k : ℕ) (d : A) → length l ≡ k → ((j : ℕ) → j < k → get_or l j d ≡ f (1 + j)) → l ≡ tab f 1 k
  is_tab l f k d e h =
      ext_get_or d l (tab f 1 k) (e ∙ sym (length-tab f 1 k)) (λ j q. h j (omega arith) ∙ sym (get_d_tab f 1 k j d (omega arith)))

  -- one element of a table stored: the table of another rule, which differs only there
  pub set-tab : (f g : ℕ → A) (count k : ℕ) (x : A) → 1 ≤ k → k ≤ count → x ≡ g k
      → ((j : ℕ) → 1 ≤ j → j ≤ count → (j ≡ k → ⊥) → f j ≡ g j) → set (tab f 1 count) (k - 1) x ≡ tab g 1 count
  set-tab f g count k x l h e same =
      is_tab (set (tab f 1 count) (k - 1) x) g count x (length-set (tab f 1 count) (k - 1) x ∙ length-tab f 1 count) (λ j q. at j q (ℕ_discrete j (k - 1)))
    where
      at : (j : ℕ) → j < count → Dec (j ≡ k - 1) → get_or (set (tab f 1 count) (k - 1) x) j x ≡ g (1 + j)
      at j q (yes z) =
          let w : k ≡ 1 + j = omega arith in
          ap (λ (i : ℕ). get_or (set (tab f 1 count) (k - 1) x) i x) z ∙ get_or-set_same (tab f 1 count) (k - 1) x x (omega (arith, length-tab f 1 count)) ∙ e ∙ ap g w
      at j q (no z) =
          get_or-set_other (tab f 1 count) (k - 1) j x x z ∙ get_d_tab f 1 count j x q
          ∙ same (1 + j) (omega arith) (omega arith) (λ w. z (omega arith))

  pub tab-same : (f g : ℕ → A) (count : ℕ) → ((j : ℕ) → 1 ≤ j → j ≤ count → f j ≡ g j) → tab f 1 count ≡ tab g 1 count
  unfolding tab
  tab-same f g zero same = refl
  tab-same f g (suc count) same =
      is_tab (tab f 1 (suc count)) g (suc count) (f 1) (length-tab f 1 (suc count))
      (λ j q. get_d_tab f 1 (suc count) j (f 1) q ∙ same (1 + j) (omega arith) (omega arith))

  -- a list of `count` elements is being filled by a rule, and the first i are stored
  pub record Filled (rule : ℕ → A) (count i : ℕ) (l : List A) : Type 0 where
    pub long : length l ≡ count
    pub at : (j : ℕ) (d : A) → j < i → get_or l j d ≡ rule (1 + j)

  pub filled_none : (rule : ℕ → A) (count : ℕ) (l : List A) → length l ≡ count → Filled rule count 0 l
  filled_none rule count l e = record { long = e; at = λ j d h. absurd (not-suc-le-zero h) }

  pub filled_more : (rule : ℕ → A) (count i : ℕ) (l : List A) (x : A) → i < count → Filled rule count i l → x ≡ rule (1 + i) → Filled rule count (i + 1) (set l i x)
  filled_more rule count i l x h f e =
      record { long = length-set l i x ∙ f.long; at = λ j d q. at j d (ℕ_discrete j i) (omega arith) }
    where
      at : (j : ℕ) (d : A) → Dec (j ≡ i) → j < i + 1 → get_or (set l i x) j d ≡ rule (1 + j)
      at j d (yes z) q = ap (λ (k : ℕ). get_or (set l i x) k d) z ∙ get_or-set_same l i x d (omega (arith, f.long)) ∙ e ∙ ap (λ (k : ℕ). rule (1 + k)) (sym z)
      at j d (no z) q = get_or-set_other l i j x d z ∙ f.at j d (lt_of_le-ne (omega arith) z)

  pub filled_all : (rule : ℕ → A) (count i : ℕ) (l : List A) → count ≤ i → Filled rule count i l → l ≡ tab rule 1 count
  filled_all rule count i l h f = is_tab l rule count (rule 1) f.long (λ j q. f.at j (rule 1) (omega arith))
