-- A graph of a formula of PDL with names and priorities that a program holds.
--
--   pdl_graph, is_pdl_graph == the graph that the program makes of a formula, or of its negation
--   pdl_held                == a well-formed formula has such a graph in each sense
use Rattle.std.proofs.Common.{ℕ, ◌≤◌, Bool, if◌then◌else◌, List, [], ◌∷◌, ◌++◌, refl, arith}
use Rattle.ml_graph.specs.Graph.{Graph}
use Rattle.ml_text.specs.declared.token.Operator.{Operator}
use Rattle.ml_text.specs.declared.token.Operator.TheVariants as operator
use Rattle.ml_text.specs.Names.{Proposition, Action}
use Rattle.ml_pdl.specs.Formula.{Formula, Const, Prop, Not, Binary, Modal, Repeat, Program, Act, Seq, Alt, Star, Test}
use Rattle.ml_pdl.specs.FormulaNames.{names}
use Rattle.ml_pdl.specs.Signs.{own}
use Rattle.ml_pdl.specs.WellFormed.{IsWellFormed}
use Rattle.ml_pdl_graph.specs.PdlGraph.{IsGraphOf, plain}
use Rattle.ml_nodes.specs.private.Connectives.{operator_priorities}
use Rattle.ml_pdl_graph.specs.private.NodeList.{actions_onto, nodes_of, priorities_of, program_priorities, props_onto}
use Rattle.ml_pdl_graph.proofs.Made.{graph_made}
use Rattle.ml_nodes.proofs.HeldNames.{Every, Fits, IsHeld, every_append, every_cons, held_lists, listed_named}

-- ---- the graph that the program makes

abbrev pub pdl_graph : Formula → Bool → Graph
pdl_graph f negated = record {
  nodes = nodes_of (props_onto f []) (actions_onto f []) 0 f;
  priorities = priorities_of f;
  root = if negated then 1 else 0;
  props = props_onto f [];
  actions = actions_onto f [];
}

pub is_pdl_graph : (f : Formula) (negated : Bool) → IsGraphOf (pdl_graph f negated) f negated
is_pdl_graph f negated = graph_made {g = pdl_graph f negated} {t = f} refl refl refl refl refl refl refl

-- ---- priorities

none : Every Fits []
none x m = absurd m

two : (x y : ℕ) (xs : List ℕ) → x ≤ 4 → y ≤ 4 → Every Fits xs → Every Fits (x ∷ y ∷ xs)
two x y xs p q rest =
    every_cons Fits x (y ∷ xs) (omega (arith, p)) (every_cons Fits y xs (omega (arith, q)) rest)

plain_two : (xs : List ℕ) → Every Fits xs → Every Fits (plain ∷ plain ∷ xs)
plain_two xs rest = two plain plain xs (omega arith) (omega arith) rest

of_operator : (op : Operator) → Every Fits (operator_priorities op plain)
of_operator operator.And = plain_two [] none
of_operator operator.Or = plain_two [] none
of_operator operator.Implies = plain_two [] none
of_operator operator.Iff =
    plain_two (plain ∷ plain ∷ plain ∷ plain ∷ []) (plain_two (plain ∷ plain ∷ []) (plain_two [] none))

mutual
  low_priorities : (f : Formula) → Every Fits (priorities_of f)
  low_priorities (Const b) = plain_two [] none
  low_priorities (Prop p) = plain_two [] none
  low_priorities (Not f) = plain_two (priorities_of f) (low_priorities f)
  low_priorities (Binary op f h) =
      every_append Fits (operator_priorities op plain) (priorities_of f ++ priorities_of h) (of_operator op)
      (every_append Fits (priorities_of f) (priorities_of h) (low_priorities f) (low_priorities h))
  low_priorities (Modal m p f) =
      plain_two (program_priorities p ++ priorities_of f)
      (every_append Fits (program_priorities p) (priorities_of f) (low_program p) (low_priorities f))
  low_priorities (Repeat p) = two 0 1 (program_priorities p) (omega arith) (omega arith) (low_program p)

  low_program : (p : Program) → Every Fits (program_priorities p)
  low_program (Act a) = plain_two [] none
  low_program (Seq p q) =
      plain_two (program_priorities p ++ program_priorities q)
      (every_append Fits (program_priorities p) (program_priorities q) (low_program p) (low_program q))
  low_program (Alt p q) =
      plain_two (program_priorities p ++ program_priorities q)
      (every_append Fits (program_priorities p) (program_priorities q) (low_program p) (low_program q))
  low_program (Star p) = two 3 2 (program_priorities p) (omega arith) (omega arith) (low_program p)
  low_program (Test f) = plain_two (priorities_of f) (low_priorities f)

-- ---- the graph

pub pdl_held : (f : Formula) (negated : Bool) → IsWellFormed f → (g : Graph) × (IsGraphOf g f negated × IsHeld g)
pdl_held f negated well = (
  pdl_graph f negated,
  (
    is_pdl_graph f negated,
    held_lists (pdl_graph f negated) (is_pdl_graph f negated).is_graph
        (listed_named own Proposition (names f) well.names_are_spelled well.names_are_short)
        (listed_named own Action (names f) well.names_are_spelled well.names_are_short)
        (low_priorities f),
  ),
)
