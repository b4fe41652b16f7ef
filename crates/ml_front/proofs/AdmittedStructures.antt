-- A structure that is made along the diamonds of a graph is one of which the problem's logic speaks.
--
--   IsMadeAlong g m s == the graph g holds at the state s of m, each edge has the action of a diamond of g, edges lead from s
--                        to each state, and where g has one diamond at most, edges from one state are one
--   blank             == where a closure's graph is made along, edges have the action `_`
--   is_total          == where the closure asks for edges, each state has one
--   is_word           == and exactly one where it has one diamond
--   is_admitted       == so the logic speaks of it
use Rattle.std.proofs.Common.{◌≡◌, ℕ, ◌<◌, Bool, codes, sym, ◌∙◌}
use Rattle.ml_base.specs.Structure.{Structure, IsStructure}
use Rattle.ml_base.specs.declared.structure.Edge.{Edge}
use Rattle.ml_lists.specs.Member.{IsMember}
use Rattle.ml_graph.specs.CheckingGame.{Holds}
use Rattle.ml_graph.specs.Diamonds.{HasOneDiamond}
use Rattle.ml_graph.specs.Graph.{Graph, action_at, node_at, size}
use Rattle.ml_graph.specs.declared.node.Node.TheVariants as node
use Rattle.ml_nodes.specs.ClosureGraph.{Forms, IsGraphFrom}
use Rattle.ml_nodes.proofs.ClosureNodes.{AsksForEdges, IsAsked, asked_behind, asked_first, diamond_action, has_target}
use Rattle.ml_ctl.specs.Paths.{IsTotal}
use Rattle.ml_ctl.specs.Problem as ctl
use Rattle.ml_blocks.specs.BlockGraph.{linear_start_of, start_of}
use Rattle.ml_blocks.specs.Places as block
use Rattle.ml_blocks.proofs.EdgesGoOn as blocks
use Rattle.ml_blocks.proofs.EdgesGoOn.{edge_step, step_edge}
use Rattle.ml_blocks.proofs.PlaceVertices.{step_target, target_step}
use Rattle.ml_blocks.proofs.SaidItems.{step_states}
use Rattle.ml_word_graph.specs.Problem as word
use Rattle.ml_word_graph.specs.WordGraph as word_graph
use Rattle.ml_word_graph.proofs.OneDiamond as words
use Rattle.ml_front.specs.Graphs.{IsGraphAs, IsGraphOf}
use Rattle.ml_front.specs.Logics.{logic_of}
use Rattle.ml_front.specs.Problems.{IsAdmitted}
use Rattle.ml_front.specs.declared.problem.AnyFormula.{AnyFormula}
use Rattle.ml_front.specs.declared.problem.AnyFormula.TheVariants.{Mu, Pdl, Ctl, Ltl, Word}
use Rattle.ml_front.specs.declared.problem.Problem.{Problem}

-- a diamond of the graph with the action of the edge
pub record DiamondOf (g : Graph) (e : Edge) : Type 0 where
  pub diamond : ℕ
  pub is_node : diamond < size g
  pub action : ℕ
  pub child : ℕ
  pub is_diamond : node_at g diamond ≡ node.Diamond action child
  pub action_is : e.action ≡ action_at g action

pub record IsMadeAlong (g : Graph) (m : Structure) (s : ℕ) : Type 1 where
  pub is_structure : IsStructure m
  pub is_state : s < m.states
  pub holds : Holds g m s
  pub along_diamonds : (e : Edge) → IsMember e m.edges → DiamondOf g e
  pub only_edge : HasOneDiamond g
      → (e f : Edge)
      → IsMember e m.edges
      → IsMember f m.edges
      → e.source ≡ f.source
      → e.target ≡ f.target
  -- what holds of s, and goes along edges, holds of each state
  pub reached : (P : ℕ → Type 0)
      → P s
      → ((e : Edge) → P e.source → IsMember e m.edges → P e.target)
      → (t : ℕ)
      → t < m.states
      → P t

module _ {P : Type 0} (F : Forms P) (root : P) (g : Graph) (is_g : IsGraphFrom F g root) (asks : AsksForEdges F root) (m : Structure)
    (s : ℕ) (made : IsMadeAlong g m s) where
  blank : (e : Edge) → IsMember e m.edges → e.action ≡ codes "_"
  blank e inside =
      let d = made.along_diamonds e inside in
      d.action_is ∙ diamond_action F root g is_g d.diamond d.action d.child d.is_node d.is_diamond

  abbrev IsOn : ℕ → Type 0
  IsOn t = (t < m.states) × IsAsked F root g is_g m made.is_structure asks t

  all_on : (t : ℕ) → t < m.states → IsOn t
  all_on =
      made.reached IsOn
      (made.is_state, asked_first F root g is_g m made.is_structure asks s made.is_state made.holds)
      (λ e on inside.
      let step = edge_step m e inside (blank e inside) in (
        (step_states m made.is_structure e.source e.target step).1,
        asked_behind F root g is_g m made.is_structure asks e.source e.target on.0 on.1 (step_target m e.source e.target step),
      ))

  is_total : IsTotal m
  is_total t low =
      let to = has_target F root g is_g m made.is_structure asks t low (all_on t low).1 in
      (to.0, target_step m t to.0 to.1)

  -- ---- words

  is_word : HasOneDiamond g → word.IsAdmitted m
  is_word one = record {
    is_structure = made.is_structure;
    one_step = λ t low.
        let to = is_total t low in
        let first = step_edge m t to.0 to.1 in
        record {
          target = to.0;
          leads = to.1;
          only = λ u step.
              let other = step_edge m t u step in
              sym other.is_target
              ∙ made.only_edge one other.edge first.edge other.inside first.inside (other.is_source ∙ sym first.is_source)
              ∙ first.is_target;
        };
  }

  total_admitted : ctl.IsAdmitted m
  total_admitted = record { is_structure = made.is_structure; is_total = is_total }

admitted_as : (g : Graph) (negated : Bool) (f : AnyFormula) (m : Structure) (s : ℕ)
    → IsGraphAs g negated f
    → IsMadeAlong g m s
    → IsAdmitted (logic_of f) m
admitted_as g negated (Mu f) m s is made = made.is_structure
admitted_as g negated (Pdl f) m s is made = made.is_structure
admitted_as g negated (Ctl f) m s is made =
    total_admitted block.forms (block.Root (start_of f negated)) g is (blocks.asks (start_of f negated)) m s made
admitted_as g negated (Ltl f) m s is made =
    total_admitted block.forms (block.Root (linear_start_of f negated)) g is (blocks.asks (linear_start_of f negated)) m s made
admitted_as g negated (Word f) m s is made =
    let start = word_graph.start_of f negated in
    is_word word_graph.forms (word_graph.Root start) g is (words.asks start) m s made (words.one_diamond f negated g is)

pub is_admitted : (g : Graph) (p : Problem) (m : Structure) (s : ℕ)
    → IsGraphOf g p
    → IsMadeAlong g m s
    → IsAdmitted (logic_of p.formula) m
is_admitted g p m s is made = admitted_as g p.negated p.formula m s is made
