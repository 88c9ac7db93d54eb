-- Any two results that a promise allows are equal: one table, a row for each shape that a public promise has, with the calls that have it.
-- docs/check-calls fails at a public call whose promise has none of these shapes, or that is not named here.
use Prim.Native.Nat.{ℕ}
use mathlib.Core.Path.{◌≡◌, refl, sym, ◌∙◌}
use mathlib.Core.List.{List}
use Rattle.std.specs.Prelude.{Bool, Option, Result}
use Rattle.squares.specs.declared.bitboard.Bitboard.{Bitboard}
use Rattle.squares.specs.declared.marks.Marks.{Marks}
use Rattle.squares.specs.declared.bad_number.BadNumber.{BadNumber}
use Rattle.squares.specs.Answers.{NumberValue, FormValue, SetValue, TruthValue, PopValue, MarksValue, number_given, form_given, set_given, truth_given, pop_given, marks_given}
use Rattle.squares.proofs.Laws.{one_number, one_form, one_set, one_truth, one_pop, one_marks}
use Rattle.position.specs.declared.position.Position.{Position}
use Rattle.position.specs.declared.mv.Move.{Move}
use Rattle.position.specs.declared.answers.Refusal.{Refusal}
use Rattle.position.specs.declared.answers.Told.{Told}
use Rattle.position.specs.declared.answers.ToldSet.{ToldSet}
use Rattle.position.specs.declared.answers.ToldNumber.{ToldNumber}
use Rattle.position.specs.declared.answers.ToldPly.{ToldPly}
use Rattle.position.specs.Answers.{ToldPiece, ToldKing, ToldLast, Answer, told_given, told_set_given, told_number_given, told_ply_given, told_piece_given, told_king_given, told_last_given, answer_given}
use Rattle.position.proofs.Laws.{one_answer, one_told, one_told_set, one_told_number, one_told_ply, one_told_piece, one_told_king, one_told_last, one_position}
use Rattle.sfen.specs.Writes.{text_given}
use Rattle.sfen.specs.declared.write.TextAnswer.{TextAnswer}
use Rattle.sfen.specs.Writes.{text_answer, bytes_after}
use Rattle.lent.specs.InPlace.{Leaves}
use Rattle.lent.proofs.Laws.{leaves_once}

pub unique :
    -- r ≡ definition. squares: Square::is_good, Color::is_good, PieceKind::is_good, Piece::is_good, Piece::is_cell, Bitboard::empty, count,
    -- is_empty, is_exactly, or, and, xor, andnot, not, flip. position: Position::startpos, Position::empty, MoveNumbers::none. firmware:
    -- pulfredan_startpos, pulfredan_empty, pulfredan_soundness, pulfredan_piece_at, pulfredan_player_bitboard,
    -- pulfredan_piece_kind_bitboard, pulfredan_piece_bitboard, pulfredan_occupied_bitboard, pulfredan_vacant_bitboard,
    -- pulfredan_side_to_move, pulfredan_ply, pulfredan_hand, pulfredan_king_position, pulfredan_last_move, pulfredan_square_new,
    -- pulfredan_square_file, pulfredan_square_rank, pulfredan_square_flip, pulfredan_color_flip, pulfredan_kind_promote,
    -- pulfredan_kind_unpromote, pulfredan_kind_limit, pulfredan_kind_letter, pulfredan_kind_hand_kind, pulfredan_piece_new,
    -- pulfredan_piece_kind, pulfredan_piece_color, pulfredan_piece_promote, pulfredan_piece_unpromote, pulfredan_set_empty,
    -- pulfredan_set_single, pulfredan_set_count, pulfredan_set_is_empty, pulfredan_set_contains, pulfredan_set_or, pulfredan_set_and,
    -- pulfredan_set_xor, pulfredan_set_andnot, pulfredan_set_not, pulfredan_set_from_file, pulfredan_set_get_file, pulfredan_set_flip,
    -- pulfredan_set_pop, pulfredan_set_shift_down, pulfredan_set_shift_up, pulfredan_set_shift_left, pulfredan_set_shift_right
    ((A : Type 0) (definition r s : A) → r ≡ definition → s ≡ definition → r ≡ s)
    -- number_given r ≡ definition: Square::new, Square::file, Square::rank, Square::flip, Color::flip, PieceKind::unpromote,
    -- PieceKind::limit, PieceKind::letter, Piece::new, Piece::kind, Piece::color, Piece::unpromote, get_file
    × ((v : NumberValue) (r s : Result ℕ BadNumber) → number_given r ≡ v → number_given s ≡ v → r ≡ s)
    -- form_given r ≡ definition: PieceKind::promote, PieceKind::hand_kind, Piece::promote
    × ((v : FormValue) (r s : Result (Option ℕ) BadNumber) → form_given r ≡ v → form_given s ≡ v → r ≡ s)
    -- set_given r ≡ definition: Bitboard::single, Bitboard::from_file, shift, shift_down, shift_up, shift_left, shift_right
    × ((v : SetValue) (r s : Result Bitboard BadNumber) → set_given r ≡ v → set_given s ≡ v → r ≡ s)
    -- truth_given r ≡ definition: contains
    × ((v : TruthValue) (r s : Result Bool BadNumber) → truth_given r ≡ v → truth_given s ≡ v → r ≡ s)
    -- pop_given r ≡ definition: pop
    × ((v : PopValue) (r s : Option (ℕ × Bitboard)) → pop_given r ≡ v → pop_given s ≡ v → r ≡ s)
    -- marks_given r ≡ definition: Marks::of
    × ((v : MarksValue) (r s : Result Marks BadNumber) → marks_given r ≡ v → marks_given s ≡ v → r ≡ s)
    -- told_given r ≡ definition: soundness
    × ((v : Told) (r s : Result (Unit {0}) Refusal) → told_given r ≡ v → told_given s ≡ v → r ≡ s)
    -- told_set_given r ≡ definition: player_bitboard, piece_kind_bitboard, piece_bitboard, occupied_bitboard, vacant_bitboard
    × ((v : ToldSet) (r s : Result Bitboard Refusal) → told_set_given r ≡ v → told_set_given s ≡ v → r ≡ s)
    -- told_number_given r ≡ definition: side_to_move, hand
    × ((v : ToldNumber) (r s : Result ℕ Refusal) → told_number_given r ≡ v → told_number_given s ≡ v → r ≡ s)
    -- told_ply_given r ≡ definition: ply
    × ((v : ToldPly) (r s : Result ℕ Refusal) → told_ply_given r ≡ v → told_ply_given s ≡ v → r ≡ s)
    -- told_piece_given r ≡ definition: piece_at
    × ((v : ToldPiece) (r s : Result (Option ℕ) Refusal) → told_piece_given r ≡ v → told_piece_given s ≡ v → r ≡ s)
    -- told_king_given r ≡ definition: king_position
    × ((v : ToldKing) (r s : Result (Option ℕ) Refusal) → told_king_given r ≡ v → told_king_given s ≡ v → r ≡ s)
    -- told_last_given r ≡ definition: last_move
    × ((v : ToldLast) (r s : Result (Option Move) Refusal) → told_last_given r ≡ v → told_last_given s ≡ v → r ≡ s)
    -- answer_given given r ≡ definition: make_move, piece_set, hand_set, side_to_move_set, ply_set. lent: make_move_through
    × ((given : Position) (v : Answer) (r s : Result Position Refusal) → answer_given given r ≡ v → answer_given given s ≡ v → r ≡ s)
    -- Leaves definition entry (told_given r) exit: lent: make_move_in_place
    × ((a : Answer) (entry : Position) (r s : Result (Unit {0}) Refusal) (x y : Position) → Leaves a entry (told_given r) x → Leaves a entry (told_given s) y → (r ≡ s) × (x ≡ y))
    -- Leaves definition entry r exit: firmware: pulfredan_make_normal, pulfredan_make_drop, pulfredan_piece_set, pulfredan_hand_set,
    -- pulfredan_side_to_move_set, pulfredan_ply_set
    × ((a : Answer) (entry : Position) (r s : Told) (x y : Position) → Leaves a entry r x → Leaves a entry s y → (r ≡ s) × (x ≡ y))
    -- text_given r ≡ text_answer .. and the bytes at exit ≡ bytes_after ..: sfen: write_sfen
    × ((p : Position) (bytes : List ℕ) (r s : Result ℕ Refusal) (x y : List ℕ) → (text_given r ≡ text_answer p bytes) × (x ≡ bytes_after p bytes)
    → (text_given s ≡ text_answer p bytes) × (y ≡ bytes_after p bytes) → (r ≡ s) × (x ≡ y))
    -- r ≡ text_answer .. and the bytes at exit ≡ bytes_after ..: firmware: pulfredan_write_sfen
    × ((p : Position) (bytes : List ℕ) (r s : TextAnswer) (x y : List ℕ) → (r ≡ text_answer p bytes) × (x ≡ bytes_after p bytes)
    → (s ≡ text_answer p bytes) × (y ≡ bytes_after p bytes) → (r ≡ s) × (x ≡ y))
unique = (
  λ A definition r s e f. e ∙ sym f,
  λ v r s e f. one_number r s (e ∙ sym f),
  λ v r s e f. one_form r s (e ∙ sym f),
  λ v r s e f. one_set r s (e ∙ sym f),
  λ v r s e f. one_truth r s (e ∙ sym f),
  λ v r s e f. one_pop r s (e ∙ sym f),
  λ v r s e f. one_marks r s (e ∙ sym f),
  λ v r s e f. one_told r s (e ∙ sym f),
  λ v r s e f. one_told_set r s (e ∙ sym f),
  λ v r s e f. one_told_number r s (e ∙ sym f),
  λ v r s e f. one_told_ply r s (e ∙ sym f),
  λ v r s e f. one_told_piece r s (e ∙ sym f),
  λ v r s e f. one_told_king r s (e ∙ sym f),
  λ v r s e f. one_told_last r s (e ∙ sym f),
  λ given v r s e f. one_position given r s (e ∙ sym f),
  λ a entry r s x y e f. let once = leaves_once (told_given r) (told_given s) x y e f in (one_told r s once.0, once.1),
  λ a entry r s x y e f. leaves_once r s x y e f,
  λ p bytes r s x y e f. (one_answer text_given (λ t. t.told) (λ t. t.length) (λ n. refl) (λ f. refl) (λ n. refl) r s (e.0 ∙ sym f.0), e.1 ∙ sym f.1),
  λ p bytes r s x y e f. (e.0 ∙ sym f.0, e.1 ∙ sym f.1),
)
