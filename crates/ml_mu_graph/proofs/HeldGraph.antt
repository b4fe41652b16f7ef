-- A graph of a formula of the mu-calculus with names and priorities that a program holds.
--
--   mu_graph, is_mu_graph == the graph that the program makes of a formula, or of its negation
--   mu_held               == a well-formed formula has such a graph in each sense
use Rattle.std.proofs.Common.{ℕ, ◌+◌, ◌*◌, ◌≤◌, Bool, if◌then◌else◌, List, [], ◌∷◌, ◌++◌, refl, arith}
use Rattle.ml_graph.specs.Graph.{Graph}
use Rattle.ml_text.specs.declared.token.Operator.{Operator}
use Rattle.ml_text.specs.declared.token.Operator.TheVariants as operator
use Rattle.ml_text.specs.Names.{Proposition, Action}
use Rattle.ml_mu.specs.Formula.{Formula, Const, Prop, Var, Not, Binary, Modal, Binder, occurrences}
use Rattle.ml_mu.specs.FormulaNames.{names}
use Rattle.ml_mu.specs.declared.term.Fixpoint.{Fixpoint}
use Rattle.ml_mu.specs.declared.term.Fixpoint.TheVariants.{Least, Greatest}
use Rattle.ml_mu.specs.Signs.{own}
use Rattle.ml_mu.specs.WellFormed.{IsWellFormed}
use Rattle.ml_mu_graph.specs.MuGraph.{IsGraphOf, binder_priority, binders, opposite}
use Rattle.ml_nodes.specs.private.Connectives.{operator_priorities}
use Rattle.ml_mu_graph.specs.private.NodeList.{actions_onto, nodes_of, priorities_of, props_onto}
use Rattle.ml_mu_graph.specs.private.Views.{none_around}
use Rattle.ml_mu_graph.proofs.Made.{graph_made}
use Rattle.ml_nodes.proofs.HeldNames.{Every, Fits, IsHeld, every_append, every_cons, held_lists, listed_named}

-- ---- the graph that the program makes

abbrev pub mu_graph : Formula → Bool → Graph
mu_graph f negated = record {
  nodes = nodes_of (props_onto f []) (actions_onto f []) none_around 0 f;
  priorities = priorities_of (2 * binders f) 0 f;
  root = if negated then 1 else 0;
  props = props_onto f [];
  actions = actions_onto f [];
}

pub is_mu_graph : (f : Formula) (negated : Bool) → IsGraphOf (mu_graph f negated) f negated
is_mu_graph f negated = graph_made {g = mu_graph f negated} {t = f} refl refl refl refl refl refl refl

-- ---- priorities

few_binders : (f : Formula) → binders f ≤ occurrences f
few_binders (Const b) = omega arith
few_binders (Prop p) = omega arith
few_binders (Var x) = omega arith
few_binders (Not f) = omega (arith, few_binders f)
few_binders (Binary op f h) = omega (arith, few_binders f, few_binders h)
few_binders (Modal m a f) = omega (arith, few_binders f)
few_binders (Binder q x f) = omega (arith, few_binders f)

module _ (k top : ℕ) (low : k ≤ top) where
  abbrev AtMost : List ℕ → Type 0
  AtMost xs = Every (λ n. n ≤ top) xs

  none : AtMost []
  none x m = absurd m

  two : (x y : ℕ) (xs : List ℕ) → x ≤ top → y ≤ top → AtMost xs → AtMost (x ∷ y ∷ xs)
  two x y xs p q rest = every_cons (λ n. n ≤ top) x (y ∷ xs) p (every_cons (λ n. n ≤ top) y xs q rest)

  of_operator : (op : Operator) → AtMost (operator_priorities op k)
  of_operator operator.And = two k k [] low low none
  of_operator operator.Or = two k k [] low low none
  of_operator operator.Implies = two k k [] low low none
  of_operator operator.Iff =
      two k k (k ∷ k ∷ k ∷ k ∷ []) low low (two k k (k ∷ k ∷ []) low low (two k k [] low low none))

  of_binder : (q : Fixpoint) (d : ℕ) → 2 * d + 1 ≤ top → binder_priority q d ≤ top
  of_binder Least d fits = fits
  of_binder Greatest d fits = omega (arith, fits)

  low_priorities : (f : Formula) (d : ℕ) → 2 * (d + binders f) + 1 ≤ top → AtMost (priorities_of k d f)
  low_priorities (Const b) d fits = two k k [] low low none
  low_priorities (Prop p) d fits = two k k [] low low none
  low_priorities (Var x) d fits = two k k [] low low none
  low_priorities (Not f) d fits = two k k (priorities_of k d f) low low (low_priorities f d fits)
  low_priorities (Binary op f h) d fits =
      every_append (λ n. n ≤ top) (operator_priorities op k) (priorities_of k d f ++ priorities_of k d h) (of_operator op)
      (every_append (λ n. n ≤ top) (priorities_of k d f) (priorities_of k d h)
      (low_priorities f d (omega (arith, fits)))
      (low_priorities h d (omega (arith, fits))))
  low_priorities (Modal m a f) d fits = two k k (priorities_of k d f) low low (low_priorities f d fits)
  low_priorities (Binder q x f) d fits =
      two (binder_priority q d) (binder_priority (opposite q) d) (priorities_of k (d + 1) f)
      (of_binder q d (omega (arith, fits))) (of_binder (opposite q) d (omega (arith, fits)))
      (low_priorities f (d + 1) (omega (arith, fits)))

-- ---- so it is held

pub mu_held : (f : Formula) (negated : Bool) → IsWellFormed f → (g : Graph) × (IsGraphOf g f negated × IsHeld g)
mu_held f negated well = (
  mu_graph f negated,
  (
    is_mu_graph f negated,
    held_lists (mu_graph f negated) (is_mu_graph f negated).is_graph
        (listed_named own Proposition (names f) well.names_are_spelled well.names_are_short)
        (listed_named own Action (names f) well.names_are_spelled well.names_are_short)
        fits,
  ),
)
  where
    fits : Every Fits (priorities_of (2 * binders f) 0 f)
    fits x m =
        let low = low_priorities (2 * binders f) (2 * binders f + 1) (omega arith) f 0 (omega arith) x m in
        omega (arith, low, few_binders f, well.is_small)
