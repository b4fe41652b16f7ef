-- The step along which an entry is left for another one.
--
-- A `go` leads from a sequent, on a branch with its spread, along a diamond, to the sequent of an entry, which may have
-- less than all that the diamond leads to. The transitions of the step are those of its local traces into that sequent.
--
--   GoStep                        == the sequent, the spread, the diamond, and the sequent of the other entry
--   HasTransition g step p q accepting == some local trace of the step into the other sequent leads from the state p of the
--                                    trace automaton to the state q
use Rattle.std.specs.Prelude.{ℕ, ◌≡◌, Bool, List}
use Rattle.ml_lists.specs.Member.{IsMember}
use Rattle.ml_trace.specs.declared.letters.AutomatonState.{AutomatonState}
use Rattle.ml_trace.specs.declared.letters.Triple.{Triple}
use Rattle.ml_trace.specs.Automaton.{Leads}
use Rattle.ml_graph.specs.Graph.{Graph, odd_priorities}
use Rattle.ml_sequent.specs.Spread.{SpreadList}
use Rattle.ml_sequent.specs.Step.{IsTrace}

pub record GoStep : Type 0 where
  pub sequent : List ℕ
  pub spread : SpreadList
  pub diamond : ℕ
  pub next : List ℕ

-- some local trace of the step, into the sequent that follows, leads from p to q
pub record HasTransition (g : Graph) (step : GoStep) (p q : AutomatonState) (accepting : Bool) : Type 0 where
  pub trace : Triple
  pub is_trace : IsTrace g step.sequent step.spread step.diamond trace
  pub stays : IsMember trace.to step.next
  pub begins : p.node ≡ trace.from
  pub ends : q.node ≡ trace.to
  pub leads : Leads (odd_priorities g) trace.lowest p.odd q.odd accepting
