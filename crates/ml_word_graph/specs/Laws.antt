-- The game on a formula's graph, and the formula's meaning on words.
--
--   HoldsWhere g f negated == on each structure in which each state has exactly one edge by `_`, of any number of states, the
--                     graph g holds at the states at which the formula f does, in this sense
--   GraphsAgree    == of each formula of LTL, in its plain sense and negated: its graph holds where the problem does
--   GraphsAreSmall == a graph has at most four nodes for each occurrence, and five more
--   NegationIsComplement == a negated problem holds at a state exactly where the plain one doesn't
--   OneGraph, SomeGraph == a formula has one graph in each sense, up to the lists of names
--   AsSatisfiable  == a problem is satisfiable on words exactly where it is as a problem of LTL on paths among many
use Rattle.std.specs.Prelude.{ℕ, ◌≡◌, ◌<◌, ◌≤◌, ◌+◌, ◌*◌, ◌↔◌, Bool, true, false}
use Rattle.ml_base.specs.Structure.{Structure}
use Rattle.ml_graph.specs.CheckingGame.{Holds}
use Rattle.ml_graph.specs.Graph.{Graph, size}
use Rattle.ml_nodes.specs.AlikeNodes.{AreAlike}
use Rattle.ml_ctl.specs.Formula.{Formula, occurrences}
use Rattle.ml_ctl.specs.Sorts.{is_linear}
use Rattle.ml_ltl.specs.Problem as ltl
use Rattle.ml_word_graph.specs.Problem.{HoldsAt, IsAdmitted, IsSatisfiable}
use Rattle.ml_word_graph.specs.WordGraph.{IsGraphOf}

abbrev pub HoldsWhere : Graph → Formula → Bool → Type 0
HoldsWhere g f negated =
    (m : Structure) → IsAdmitted m → (s : ℕ) → s < m.states → Holds g m s ↔ HoldsAt m s f negated

abbrev pub GraphsAgree : Type 0
GraphsAgree =
    (f : Formula) (negated : Bool) (g : Graph)
    → is_linear f ≡ true
    → IsGraphOf g f negated
    → HoldsWhere g f negated

abbrev pub GraphsAreSmall : Type 0
GraphsAreSmall =
    (f : Formula) (negated : Bool) (g : Graph)
    → IsGraphOf g f negated
    → size g ≤ 4 * occurrences f + 5

abbrev pub AsSatisfiable : Type 0
AsSatisfiable =
    (f : Formula) (negated : Bool)
    → is_linear f ≡ true
    → IsSatisfiable f negated
    ↔ ltl.IsSatisfiable f negated

abbrev pub NegationIsComplement : Type 0
NegationIsComplement =
    (f : Formula)
    → is_linear f ≡ true
    → (m : Structure)
    → IsAdmitted m
    → (s : ℕ)
    → s < m.states
    → HoldsAt m s f true
    ↔ ¬ (HoldsAt m s f false)

abbrev pub OneGraph : Type 0
OneGraph = (f : Formula) (negated : Bool) (g h : Graph) → IsGraphOf g f negated → IsGraphOf h f negated → AreAlike g h

abbrev pub SomeGraph : Type 0
SomeGraph = (f : Formula) (negated : Bool) → (g : Graph) × IsGraphOf g f negated
