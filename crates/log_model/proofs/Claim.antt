-- The claim about every log that comes in pieces.
-- Assumes nothing.
use mathlib.Core.List.{List}
use native.Mathlib.Omega.{arith}
use Prim.Native.Nat.{ℕ}
use Rattle.tally.specs.Tally.{zeros}
use Rattle.log_model.specs.Pieces.{joined}
use Rattle.log_model.specs.Claim.{LogClaim}
use Rattle.log_model.proofs.Cut.{however_cut}
use Rattle.log_model.proofs.Kept.{kept_small, place-small}
use Rattle.log_model.proofs.Counts.{tally_is, adds_up, zeros-balanced}

pub log_claim : (pieces : List (List ℕ)) → LogClaim pieces
log_claim pieces = record {
  whole = however_cut zeros pieces;
  tally = tally_is (joined pieces);
  balanced = adds_up zeros (joined pieces) zeros-balanced;
  few = kept_small zeros pieces;
  placed = place-small zeros (omega arith) pieces;
}
