use Rattle.std.proofs.Common.{◌≡◌, ◌++◌, drop}
use Rattle.stack_pieces.specs.Pieces.{rows_of_pieces}
use Rattle.stack_pieces.proofs.pieces.put_pieces.Given as goal

abbrev pub invariant-loop-piece : goal.invariant-loop-piece
invariant-loop-piece l = record {
  code : l.emitter.code.items ++ rows_of_pieces l.doing l.checking (drop l.piece-index l.pieces) ≡ l.initial.emitter.code.items ++ rows_of_pieces l.doing l.checking l.pieces;
  place : l.emitter.place ≡ l.initial.emitter.place;
}
