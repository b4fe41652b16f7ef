-- What the complete decision needs of each logic. A further logic adds its line to each of these.
--
--   IsHeld g     == the names and priorities of g are such as a program holds
--   held_graph   == a well-formed formula has a graph in each sense, with names and priorities that a program holds, or its
--                   closure is large
use Rattle.std.proofs.Common.{◌⊎◌, Bool, true, not, inl, inr}
use Rattle.ml_graph.specs.Graph.{Graph}
use Rattle.ml_front.specs.Graphs.{HasLargeClosureAs, IsGraphAs}
use Rattle.ml_front.specs.WellFormed.{IsWellFormed}
use Rattle.ml_front.specs.declared.problem.AnyFormula.{AnyFormula}
use Rattle.ml_front.specs.declared.problem.AnyFormula.TheVariants.{Mu, Pdl, Ctl, Ltl, Word}
use Rattle.ml_front.specs.declared.problem.TheConstants.{MOST_NODES}
use Rattle.ml_front.proofs.SomeGraph.{some_graph}
use Rattle.ml_blocks.specs.BlockGraph.{linear_start_of, start_of}
use Rattle.ml_blocks.specs.Items.{now}
use Rattle.ml_blocks.proofs.HeldGraphs.{blocks_held, names_of, start_named}
use Rattle.ml_nodes.proofs.HeldNames as names
use Rattle.ml_mu_graph.proofs.HeldGraph.{mu_held}
use Rattle.ml_pdl_graph.proofs.HeldGraph.{pdl_held}
use Rattle.ml_word_graph.proofs.ClosureGraphs as word_graphs
use Rattle.ml_word_graph.proofs.HeldGraph.{word_held}

-- the names and priorities of a graph are such as a program holds
abbrev pub IsHeld : Graph → Type 0
IsHeld g = names.IsHeld g

pub record HeldGraph (f : AnyFormula) (negated : Bool) : Type 0 where
  pub graph : Graph
  pub is_graph : IsGraphAs graph negated f
  pub is_held : IsHeld graph
  pub fits : ¬ (HasLargeClosureAs MOST_NODES negated f)

from_graph : (f : AnyFormula) (negated : Bool)
    → ((g : Graph) → IsGraphAs g negated f → IsHeld g)
    → ((g : Graph) × IsGraphAs g negated f × (¬ (HasLargeClosureAs MOST_NODES negated f)))
    ⊎ HasLargeClosureAs MOST_NODES negated f
    → HeldGraph f negated ⊎ HasLargeClosureAs MOST_NODES negated f
from_graph f negated held (inl (g, is, fits)) =
    inl (record { graph = g; is_graph = is; is_held = held g is; fits = fits })
from_graph f negated held (inr large) = inr large

pub held_graph : (f : AnyFormula) (negated : Bool)
    → IsWellFormed f
    → HeldGraph f negated ⊎ HasLargeClosureAs MOST_NODES negated f
held_graph (Mu f) negated well =
    let made = mu_held f negated well in
    inl (record { graph = made.0; is_graph = made.1.0; is_held = made.1.1; fits = λ large. large })
held_graph (Pdl f) negated well =
    let made = pdl_held f negated well in
    inl (record { graph = made.0; is_graph = made.1.0; is_held = made.1.1; fits = λ large. large })
held_graph (Ctl f) negated well =
    let named = names_of f well.names_are_spelled well.names_are_short in
    from_graph (Ctl f) negated (λ g is. blocks_held (start_of f negated) g is named)
    (some_graph MOST_NODES negated (Ctl f))
held_graph (Ltl f) negated well =
    let named = names_of f well.names_are_spelled well.names_are_short in
    from_graph (Ltl f) negated
    (λ g is. blocks_held (linear_start_of f negated) g is (start_named (now 0 f (not negated)) true named))
    (some_graph MOST_NODES negated (Ltl f))
held_graph (Word f) negated well =
    let made = word_graphs.some_graph f negated in
    inl (record {
      graph = made.0;
      is_graph = made.1;
      is_held = word_held f negated made.0 well.names_are_spelled well.names_are_short made.1;
      fits = λ large. large;
    })
