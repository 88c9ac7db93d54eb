-- The writer's answer, and the lent bytes after it.
use Rattle.std.specs.Prelude.{ℕ, not, cond, List, [], ◌∷◌, ◌++◌, length, drop, eqb, ltb, Result, Ok, Err}
use Rattle.position.specs.declared.position.Position.{Position}
use Rattle.position.specs.declared.answers.Refusal.{Refusal}
use Rattle.position.specs.Sound.{sound}
use Rattle.position.specs.Answers.{done, told_of, Fact, gives, first_fact, told_by}
use Rattle.sfen.specs.Text.{position_text}
use Rattle.sfen.specs.declared.write.TextAnswer.{TextAnswer}

-- "If an answer is an enum, a definition gives this paper's number and values for each of its cases"
abbrev pub text_given : Result ℕ Refusal → TextAnswer
text_given (Ok n) = record { told = done; length = n }
text_given (Err r) = record { told = told_of r; length = 0 }

-- "Order: 2, then 1, then .. for the writer 12"; "12: lent buffer shorter than the text"
unfoldable pub write_facts : Position → List ℕ → List Fact
write_facts p bytes = gives 1 (not (sound p)) ∷ gives 12 (ltb (length bytes) (length (position_text p))) ∷ []

-- "The writer .. reports how many"; a refused call carries 0
unfoldable pub text_answer : Position → List ℕ → TextAnswer
text_answer p bytes =
    let facts = write_facts p bytes in
    record { told = told_by p facts; length = cond (eqb (first_fact facts) 0) (length (position_text p)) 0 }

-- "The writer fills the first bytes of the lent buffer, .. and changes no other byte"; "Every number but 0 hands back ..
-- no byte written"
unfoldable pub bytes_after : Position → List ℕ → List ℕ
bytes_after p bytes =
    cond (eqb (first_fact (write_facts p bytes)) 0) (position_text p ++ drop (length (position_text p)) bytes) bytes
