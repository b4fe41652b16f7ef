-- Which problems may be answered.
--
--   closed             == a problem may be, where the closure is small and the limit kept
--   closure_fits       == of a problem that may be answered the closure is small
--   closed_by          == a small graph of the problem whose game keeps the limit tells that it may be
--   kept_open          == where it may be answered by the whole game, it doesn't stay open
use Rattle.std.proofs.Common.{ℕ}
use Rattle.ml_front.specs.Graphs.{HasLargeClosure}
use Rattle.ml_front.specs.declared.problem.Problem.{Problem}
use Rattle.ml_front.specs.declared.problem.TheConstants.{MOST_NODES}
use Rattle.ml_graph.specs.Graph.{Graph}
use Rattle.ml_decide.specs.Limits.{IsClosed, PassesLimit, StaysOpen}
use Rattle.ml_decide.specs.declared.cause.Cause.{Cause}
use Rattle.ml_decide.specs.declared.cause.Cause.TheVariants.{Positions, Closure}
use Rattle.ml_decide.specs.declared.way.Way.{Way}
use Rattle.ml_decide.specs.declared.way.Way.TheVariants.{WholeGame, Search}
use Rattle.ml_decide.specs.private.Translated.{HasFewBy, IsTranslated}
use Rattle.ml_decide.proofs.ProblemGraphs.{keeps_limit}

closes : (n : ℕ) (p : Problem)
    → (HasLargeClosure p MOST_NODES → ⊥)
    → (PassesLimit p n → ⊥)
    → (c : Cause)
    → ¬ (StaysOpen n p c)
closes n p fits keeps (Positions m) stays = keeps stays.2
closes n p fits keeps Closure stays = fits stays

pub closed : (w : Way) (n : ℕ) (p : Problem)
    → (HasLargeClosure p MOST_NODES → ⊥)
    → (PassesLimit p n → ⊥)
    → IsClosed w n p
closed WholeGame n p fits keeps = closes n p fits keeps
closed Search n p fits keeps = fits

pub closure_fits : (w : Way) (n : ℕ) (p : Problem) → IsClosed w n p → HasLargeClosure p MOST_NODES → ⊥
closure_fits WholeGame n p is_closed = is_closed Closure
closure_fits Search n p is_closed = is_closed

pub closed_by : (w : Way) (n : ℕ) (p : Problem) (g : Graph) → IsTranslated p g → HasFewBy w g n → IsClosed w n p
closed_by WholeGame n p g is few = closes n p is.fits (keeps_limit p g n is.is_graph_of few)
closed_by Search n p g is few = is.fits
