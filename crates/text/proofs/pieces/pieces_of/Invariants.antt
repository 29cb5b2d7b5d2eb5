use Rattle.std.proofs.Common.{◌≡◌, ◌+◌, ◌-◌, take}
use Rattle.text.proofs.Partway.{Partway}
use Rattle.text.proofs.pieces.pieces_of.Given as goal

abbrev pub invariant-loop-piece : goal.invariant-loop-piece
invariant-loop-piece g l = record {
  count : l.piece-index-end + 1 ≡ g.row.N;
  partway : Partway g.P.FromText.said g.P.FromText.is_sound g.row.N l.fn.text l.line (take l.piece-index l.piece-items) (l.piece-index-end + 1 - l.piece-index) l.rest;
}
