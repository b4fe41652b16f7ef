-- The graph of a formula, worked out by hand from the table: [(a;p?)+b*]repeat(a).
--
-- It has each kind of program, a box, and an infinite repetition. Occurrences 0 to 9 are the box, `+`, `;`, a, the
-- test, p, the star, b, the repetition and its a. What stands behind the program is the repetition: for boxes its
-- positive node, 16, and for diamonds its negative one, 17.
--
--   worked, worked_graph == the formula and its graph
--   is_its_graph         == the graph is the formula's, and with the other root that of its negation
--   turning              == a structure: a leads from 0, where p is true, to 0, and b from 1 to 0
--   holds_at_turn, negation_holds == so by the law the graph holds at 0, and that of the negation at 1
use Rattle.std.proofs.Common.{◌<◌, Bool, true, false, [], ◌∷◌, if◌then◌else◌, codes, refl, arith}
use Rattle.std.specs.List.{IsDistinct}
use Rattle.std.proofs.lemmas.List.Elements.{All-cons, All-nil}
use Rattle.ml_base.specs.declared.structure.Edge.{Edge}
use Rattle.ml_base.specs.Structure.{Structure, IsStructure}
use Rattle.ml_graph.specs.CheckingGame.{Holds}
use Rattle.ml_graph.specs.Graph.{Graph, IsGraph, references}
use Rattle.ml_graph.specs.declared.node.Node.TheVariants as node
use Rattle.ml_graph.proofs.References.{all_in_range}
use Rattle.ml_pdl.specs.Formula.{Formula, Prop, Modal, Repeat, Act, Seq, Alt, Star, Test}
use Rattle.ml_pdl.specs.declared.term.Modality.TheVariants.{Square}
use Rattle.ml_pdl_graph.specs.PdlGraph.{IsGraphOf}
use Rattle.ml_pdl_graph.proofs.Agreement.{graphs_agree}

abbrev worked : Formula
worked =
    Modal Square (Alt (Seq (Act (codes "a")) (Test (Prop (codes "p")))) (Star (Act (codes "b"))))
    (Repeat (Act (codes "a")))

abbrev worked_graph : Bool → Graph
worked_graph negated = record {
  nodes =
      -- the box
      node.And 3 3 ∷ node.And 2 2
      -- (a;p?)+b*
      ∷ node.Or 4 12 ∷ node.And 5 13
      -- a;p?
      ∷ node.And 6 6 ∷ node.And 7 7
      -- a, behind which p? is to be run
      ∷ node.Diamond 0 8 ∷ node.Square 0 9
      -- p?
      ∷ node.And 10 17 ∷ node.Or 11 16
      -- p
      ∷ node.Lit 0 true ∷ node.Lit 0 false
      -- b*
      ∷ node.Or 17 14 ∷ node.And 16 15
      -- b, behind which b* is to be run
      ∷ node.Diamond 1 12 ∷ node.Square 1 13
      -- repeat(a)
      ∷ node.And 18 18 ∷ node.And 19 19
      -- a, behind which repeat(a) is to be run
      ∷ node.Diamond 0 16 ∷ node.Square 0 17 ∷ [];
  priorities =
      4 ∷ 4 ∷ 4 ∷ 4 ∷ 4 ∷ 4 ∷ 4 ∷ 4 ∷ 4 ∷ 4 ∷ 4 ∷ 4 ∷ 3 ∷ 2 ∷ 4 ∷ 4 ∷ 0 ∷ 1 ∷ 4 ∷ 4 ∷ [];
  root = if negated then 1 else 0;
  props = codes "p" ∷ [];
  actions = codes "a" ∷ codes "b" ∷ [];
}

is_a_graph : (negated : Bool) → IsGraph (worked_graph negated)
unfolding IsDistinct
is_a_graph true = record {
  priorities = refl;
  in_range = all_in_range (references (worked_graph true)) refl;
  props_differ = (tt, tt);
  actions_differ = ((refl, tt), (tt, tt));
}
is_a_graph false = record {
  priorities = refl;
  in_range = all_in_range (references (worked_graph false)) refl;
  props_differ = (tt, tt);
  actions_differ = ((refl, tt), (tt, tt));
}

is_its_graph : (negated : Bool) → IsGraphOf (worked_graph negated) worked negated
is_its_graph negated = record {
  is_graph = is_a_graph negated;
  two_for_each = refl;
  stands = (
    (refl, refl),
    (refl, refl),
    (
      (refl, refl),
      (refl, refl),
      (
        (refl, refl),
        (refl, refl),
        (0, (refl, refl), (refl, refl), refl),
        ((refl, refl), (refl, refl), ((0, (refl, refl), refl), (0, (refl, refl), refl))),
      ),
      ((refl, refl), (refl, refl), (1, (refl, refl), (refl, refl), refl)),
    ),
    ((refl, refl), (refl, refl), (0, (refl, refl), (refl, refl), refl)),
  );
  root_is = refl;
}

abbrev by_a : Edge
by_a = record { source = 0; action = codes "a"; target = 0 }

abbrev by_b : Edge
by_b = record { source = 1; action = codes "b"; target = 0 }

abbrev turning : Structure
turning = record {
  states = 2;
  labels = (codes "p" ∷ []) ∷ [] ∷ [];
  edges = by_a ∷ by_b ∷ [];
}

abbrev JoinsTwo : Edge → Type 0
JoinsTwo e = (e.source < 2) × (e.target < 2)

turning_is : IsStructure turning
turning_is = record {
  has_state = omega arith;
  labels_states = refl;
  joins_states =
      All-cons JoinsTwo by_a (by_b ∷ []) (omega arith, omega arith)
      (All-cons JoinsTwo by_b [] (omega arith, omega arith) (All-nil JoinsTwo));
}

holds_at_turn : Holds (worked_graph false) turning 0
holds_at_turn = (graphs_agree worked false (worked_graph false) (is_its_graph false) turning turning_is 0 (omega arith)).1 refl

negation_holds : Holds (worked_graph true) turning 1
negation_holds = (graphs_agree worked true (worked_graph true) (is_its_graph true) turning turning_is 1 (omega arith)).1 refl
