-- Lists of positions and their joined texts: the words of demand 3.
use Rattle.std.specs.Prelude.{ℕ, ◌≡◌, true, List, [], ◌∷◌, ◌++◌}
use Rattle.position.specs.declared.position.Position.{Position}
use Rattle.position.specs.Sound.{sound}
use Rattle.position.specs.Machine.{Sized}
use Rattle.sfen.specs.Text.{position_text}

-- "Write each position's text .., with one newline byte after each text, and join them."
unfoldable pub joined : List Position → List ℕ
joined [] = []
joined (p ∷ ps) = position_text p ++ 10 ∷ joined ps

-- "lists of sound positions"
abbrev pub AllSound : List Position → Type 0
AllSound [] = Unit {0}
AllSound (p ∷ ps) = (Sized p × (sound p ≡ true)) × AllSound ps

-- "agree .. in board, side, hands and move number"
pub record Agree (p q : Position) : Type 0 where
  pub board : p.board ≡ q.board
  pub side : p.side ≡ q.side
  pub hands : p.hands ≡ q.hands
  pub ply : p.ply ≡ q.ply

-- "they have the same length and agree place by place"
abbrev pub AllAgree : List Position → List Position → Type 0
AllAgree [] [] = Unit {0}
AllAgree [] (q ∷ qs) = ⊥
AllAgree (p ∷ ps) [] = ⊥
AllAgree (p ∷ ps) (q ∷ qs) = Agree p q × AllAgree ps qs
