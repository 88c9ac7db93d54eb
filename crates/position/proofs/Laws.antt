-- What a crate above may cite: a value of the program's type is sized, a sound position is the position of its machine,
-- make_move on it, whole games, and the edits.
pub use Rattle.position.proofs.Sizes.{sized}
pub use Rattle.position.proofs.Kings.{KingIs}
pub use Rattle.position.proofs.Elsewhere.{ply_range}
pub use Rattle.position.proofs.Asking.{refusal_number, passes_sound}
pub use Rattle.position.proofs.InOrder.{InOrder, Sized, sound-full, sound_order, order_sound}
pub use Rattle.position.proofs.Ladder.{CanMove, CanDrop, normal_passes, drop_passes}
pub use Rattle.position.proofs.Exact.{Given, None, given_first, first_given, none_first, first_none}
pub use Rattle.position.proofs.Theorems.{number-given, given-number, none_done, done_none, refused_keeps, done_plays, recorded}
pub use Rattle.position.proofs.Theorems.{plays_plain, stays_sound, stays_sized, game_plain, machine-sound, empty-sound, start-sound}
pub use Rattle.position.proofs.Editing.{edit_given, given_edit, none_edit, edit_none, edit_keeps, edit_makes, edit_sound, side_never_13, ply_never_13}
pub use Rattle.position.proofs.Once.{one_answer, one_told, one_told_set, one_told_number, one_told_ply, one_told_piece, one_told_king, one_told_last, one_position}
