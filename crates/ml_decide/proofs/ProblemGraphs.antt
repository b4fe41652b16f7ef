-- The graphs of problems, and their decision games: what the program needs of them, logic by logic.
--
--   has_room                == a trace automaton of a graph with so few nodes is small
--   graphs_fit              == so that of the graph of a problem within the limits is
--   translated              == such a graph is a small one
--   admitted                == the structure that is extracted for a graph of a problem is one of which its logic speaks
--   few_positions           == an arena with at most n positions is that of a game without more
--   same_positions          == the graphs of a problem have games with the same positions
--   keeps_limit             == so a graph whose game keeps a limit tells that of its problem
use Rattle.std.proofs.Common.{ℕ, ◌+◌, ◌*◌, ◌^◌, ◌≤◌, ◌%◌, ◌==◌, Bool, length, filter, arith}
use Rattle.std.proofs.lemmas.List.Sums.{count_by-le-length, length-filter}
use Rattle.std.proofs.Math.Nat.{mul-le-mul}
use Rattle.ml_base.specs.Structure.{Structure}
use Rattle.ml_base.specs.declared.structure.Edge.{Edge}
use Rattle.ml_extract.specs.Extraction.{Extracted, IsReachedFrom, itself, along}
use Rattle.ml_front.specs.Graphs.{HasLargeClosure, IsGraphOf}
use Rattle.ml_front.specs.Logics.{IsWellFormed, logic_of}
use Rattle.ml_front.specs.Problems.{IsAdmitted}
use Rattle.ml_front.specs.declared.problem.Problem.{Problem}
use Rattle.ml_front.specs.declared.problem.TheConstants.{MOST_NODES}
use Rattle.ml_front.proofs.Graphs.{graph_is, graph_small, graphs_alike}
use Rattle.ml_graph.specs.Graph.{Graph, IsGraph, odd_priorities, size}
use Rattle.ml_lists.specs.Member.{IsMember}
use Rattle.ml_product.specs.Arena.{Arena, IsArenaOf}
use Rattle.ml_product.specs.DecisionGame.{HasMoreThan}
use Rattle.ml_product.specs.Position.{automaton_states}
use Rattle.ml_front.proofs.AdmittedStructures.{is_admitted}
use Rattle.ml_decide.proofs.SamePositions.{more_there}
use Rattle.ml_decide.specs.Limits.{PassesLimit}
use Rattle.ml_decide.specs.Laws.{GraphsFit}
use Rattle.ml_decide.specs.private.Translated.{IsTranslated}
use Rattle.ml_product.proofs.Explored.{few_reached}
use Rattle.ml_lists.proofs.Ascending.{length-ascending}

module _ (m : Structure) (start : ℕ) (P : ℕ → Type 0) (first : P start)
    (goes_on : (e : Edge) → P e.source → IsMember e m.edges → P e.target) where
  along_edges : (t : ℕ) → IsReachedFrom m start t → P t
  along_edges _ itself = first
  along_edges _ (along e reached inside) = goes_on e (along_edges e.source reached) inside

pub admitted : (g : Graph) (p : Problem) (m : Structure) (start : ℕ)
    → IsGraphOf g p
    → Extracted g m start
    → IsAdmitted (logic_of p.formula) m
admitted g p m start is extracted =
    is_admitted g p m start is
    (record {
      is_structure = extracted.is_structure;
      is_state = extracted.is_state;
      holds = extracted.holds;
      along_diamonds = λ e inside.
          let d = extracted.along_diamonds e inside in
          record {
            diamond = d.diamond;
            is_node = d.is_node;
            action = d.action;
            child = d.child;
            is_diamond = d.is_diamond;
            action_is = d.action_is;
          };
      only_edge = extracted.only_edge;
      reached = λ P first goes_on t low. along_edges m start P first goes_on t (extracted.reached t low);
    })

-- ---- the trace automaton

bounded : (a b : ℕ) → a ≤ 4096 → b ≤ 4097 → a * b ≤ 4096 * 4097
bounded a b low under = mul-le-mul low under

pub has_room : (g : Graph) → IsGraph g → size g ≤ MOST_NODES → automaton_states g ≤ 2 ^ 30
has_room g is small =
    let odds = length-ascending (filter (λ d. d % 2 == 1) g.priorities) in
    let p : ℕ → Bool = λ d. d % 2 == 1 in
    let some = length-filter p g.priorities in
    let few = count_by-le-length p g.priorities in
    let odd : length (odd_priorities g) + 1 ≤ 4097 = omega (arith, odds, some, few, is.priorities, small) in
    omega (arith, bounded (size g) (length (odd_priorities g) + 1) small odd)

pub graphs_fit : GraphsFit
graphs_fit g p well closed is =
    let small = graph_small MOST_NODES g p.negated p.formula (omega arith) well is closed in
    has_room g (graph_is g p.negated p.formula is) small

pub translated : (p : Problem) (g : Graph) → IsWellFormed p.formula → IsGraphOf g p → (HasLargeClosure p MOST_NODES → ⊥)
    → IsTranslated p g
translated p g well is fits = record {
  is_graph_of = is;
  fits = fits;
  small = record {
    is_graph = graph_is g p.negated p.formula is;
    few_nodes = graph_small MOST_NODES g p.negated p.formula (omega arith) well is fits;
  };
}

-- ---- positions

pub few_positions : (g : Graph) (a : Arena) (n : ℕ) → IsArenaOf g a → length a.positions ≤ n → HasMoreThan g n → ⊥
few_positions g a n arena few more =
    omega (
      arith,
      few,
      more.are_more,
      few_reached more.positions a.positions more.are_different
          (λ p m. (arena.are_reached p).1 (more.are_reached p m)),
    )

pub same_positions : (p : Problem) (g h : Graph) (n : ℕ)
    → IsGraphOf g p
    → IsGraphOf h p
    → HasMoreThan g n
    → HasMoreThan h n
same_positions p g h n is other more = more_there g h (graphs_alike p g h is other) n more

pub keeps_limit : (p : Problem) (g : Graph) (n : ℕ) → IsGraphOf g p → (HasMoreThan g n → ⊥) → PassesLimit p n → ⊥
keeps_limit p g n is few passes = few (same_positions p passes.graph g n passes.is_graph is passes.holds)
