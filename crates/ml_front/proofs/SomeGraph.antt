-- Each problem has a graph and no large closure, or a large closure: the graph is the one that the program makes.
--
--   some_graph == by the logic of the formula, for any number of nodes that a closure may have
use Rattle.std.proofs.Common.{ℕ, Bool, ◌⊎◌, inl}
use Rattle.ml_blocks.specs.BlockGraph.{linear_start_of, start_of}
use Rattle.ml_graph.specs.Graph.{Graph}
use Rattle.ml_mu_graph.proofs.HeldGraph.{is_mu_graph, mu_graph}
use Rattle.ml_pdl_graph.proofs.HeldGraph.{is_pdl_graph, pdl_graph}
use Rattle.ml_word_graph.proofs.ClosureGraphs as word
use Rattle.ml_front.specs.Graphs.{HasLargeClosureAs, IsGraphAs}
use Rattle.ml_front.proofs.Closures.{some_or_large}
use Rattle.ml_front.specs.declared.problem.AnyFormula.{AnyFormula}
use Rattle.ml_front.specs.declared.problem.AnyFormula.TheVariants.{Mu, Pdl, Ctl, Ltl, Word}

pub some_graph : (n : ℕ) (negated : Bool) (f : AnyFormula)
    → ((g : Graph) × IsGraphAs g negated f × (¬ (HasLargeClosureAs n negated f))) ⊎ HasLargeClosureAs n negated f
some_graph n negated (Mu f) = inl (mu_graph f negated, is_mu_graph f negated, λ large. large)
some_graph n negated (Pdl f) = inl (pdl_graph f negated, is_pdl_graph f negated, λ large. large)
some_graph n negated (Ctl f) = some_or_large (start_of f negated) n
some_graph n negated (Ltl f) = some_or_large (linear_start_of f negated) n
some_graph n negated (Word f) =
    let made = word.some_graph f negated in
    inl (made.0, made.1, λ large. large)
