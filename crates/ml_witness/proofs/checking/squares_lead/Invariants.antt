use Rattle.std.proofs.Common.{All, take}
use Rattle.ml_witness.specs.private.Claims.{SquaresLead}
use Rattle.ml_witness.proofs.checking.squares_lead.Given as goal

abbrev pub invariant-loop-edge : goal.invariant-loop-edge
invariant-loop-edge l = All (SquaresLead l.graph l.ranks) (take l.edge-index l.edges)
