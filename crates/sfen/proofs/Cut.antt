-- Bytes above a separator, and the cut at it.
use Prim.Native.Nat.{ℕ, ◌≤◌, ◌<◌}
use native.Mathlib.Omega.{arith}
use mathlib.Core.Path.{◌≡◌, refl}
use mathlib.Core.List.{List, [], ◌∷◌, ◌++◌}

-- every byte is above m
abbrev pub Over : ℕ → List ℕ → Type 0
Over m [] = Unit {0}
Over m (b ∷ bs) = (m < b) × Over m bs

pub over_append : (m : ℕ) (a b : List ℕ) → Over m a → Over m b → Over m (a ++ b)
over_append m [] b p q = q
over_append m (x ∷ xs) b p q = (p.0, over_append m xs b p.1 q)

pub over_less : (m n : ℕ) (bs : List ℕ) → m ≤ n → Over n bs → Over m bs
over_less m n [] h o = tt
over_less m n (x ∷ bs) h o = (omega arith, over_less m n bs h o.1)

-- two beginnings free of the separator, each followed by it: equal, and so is what follows
pub cut : (m : ℕ) (a b x y : List ℕ) → Over m a → Over m b → a ++ m ∷ x ≡ b ++ m ∷ y → (a ≡ b) × (x ≡ y)
cut m [] [] x y p q e = (refl, (cc))
cut m [] (c ∷ b) x y p q e = let h : m ≡ c = cc in absurd (omega arith)
cut m (c ∷ a) [] x y p q e = let h : c ≡ m = cc in absurd (omega arith)
cut m (c ∷ a) (d ∷ b) x y p q e =
    let h : c ≡ d = cc in
    let t : a ++ m ∷ x ≡ b ++ m ∷ y = cc in
    let r = cut m a b x y p.1 q.1 t in
    ((cc r.0), r.1)
