-- The graph of a problem, worked out by hand from the table: F p, as a problem of LTL.
--
-- Its block decomposes F p into p, or into F p put off; the latter is an edge back to the block, and bad, since F p is the
-- eventuality in focus.
--
--   worked, worked_graph == the formula and its graph
--   is_its_graph         == the graph is that of the problem
--   turning              == a structure: 0 leads to itself and to 1, and 1, where p is true, to itself
--   holds_at_turn        == so by the law the graph holds at 0
use Rattle.std.proofs.Common.{ℕ, zero, suc, ◌≡◌, ◌+◌, ◌<◌, ◌==◌, inl, inr, true, false, if◌then◌else◌, List, [], ◌∷◌, codes, refl, ⊎_elim, arith, get_or}
use Rattle.std.specs.List.{IsDistinct}
use Rattle.ml_lists.specs.Lasso.{Lasso}
use Rattle.std.proofs.lemmas.List.Elements.{All-cons, All-nil}
use Rattle.ml_base.specs.declared.structure.Edge.{Edge}
use Rattle.ml_base.specs.Structure.{Structure, IsStructure}
use Rattle.ml_parity.specs.declared.players.Player.TheVariants.{Odd}
use Rattle.ml_parity.specs.Winner.{Wins}
use Rattle.ml_graph.specs.CheckingGame.{Pair, Holds, checking_game, vertex_number}
use Rattle.ml_graph.specs.Graph.{Graph, IsGraph, references}
use Rattle.ml_graph.specs.declared.node.Node.TheVariants as node
use Rattle.ml_graph.proofs.References.{all_in_range}
use Rattle.ml_ctl.specs.Formula.{Formula, Prop, Temporal, Quantified}
use Rattle.ml_ctl.specs.declared.term.Tense.TheVariants.{Finally}
use Rattle.ml_ctl.specs.declared.term.Quantifier.TheVariants.{Exists}
use Rattle.ml_ctl.specs.Meaning.{HoldsAt}
use Rattle.ml_ctl.specs.Problem.{IsAdmitted}
use Rattle.ml_ctl.specs.Paths.{IsPathFrom, has_step}
use Rattle.ml_blocks.specs.BlockGraph.{IsGraphAt, linear_start_of}
use Rattle.ml_blocks.specs.BlockClosures.{at_root, behind}
use Rattle.ml_blocks.specs.BlockClosures.{IsReached}
use Rattle.ml_blocks.specs.Items.{Item, now, put_off}
use Rattle.ml_blocks.specs.Places.{Place, Path, Root, Total, HasEdge, LeadsOn, True, Holding, forms}
use Rattle.ml_blocks.proofs.Agreement.{linear_graphs_agree}
use Rattle.ml_blocks.proofs.ListedGraphs.{◌&◌, done, listed_graph}

abbrev p_holds : Formula
p_holds = Prop (codes "p")

abbrev worked : Formula
worked = Temporal Finally p_holds

abbrev worked_graph : Graph
worked_graph = record {
  nodes =
      node.And 1 2
      -- the block, and the part that asks for edges
      ∷ node.Or 3 4 ∷ node.And 5 6
      -- p, and F p put off
      ∷ node.And 7 8 ∷ node.Diamond 0 1
      -- an edge, and all edges
      ∷ node.Diamond 0 8 ∷ node.Square 0 2
      ∷ node.Lit 0 true ∷ node.True ∷ [];
  priorities = 2 ∷ 1 ∷ 0 ∷ 1 ∷ 1 ∷ 2 ∷ 2 ∷ 2 ∷ 2 ∷ [];
  root = 0;
  props = codes "p" ∷ [];
  actions = codes "_" ∷ [];
}

abbrev whole : Item
whole = now 0 worked true

abbrev with_items : Item → Place
with_items x = Path (record { first = whole; positive = true; items = x ∷ []; focus = 0 })

abbrev start : Place
start = with_items whole

is_a_graph : IsGraph worked_graph
unfolding IsDistinct
is_a_graph = record {
  priorities = refl;
  in_range = all_in_range (references worked_graph) refl;
  props_differ = (tt, tt);
  actions_differ = (tt, tt);
}

-- ---- the closure

abbrev rank_of_items : List Item → ℕ
rank_of_items [] = 9
rank_of_items (x ∷ xs) = if x.later then 4 else (if x.number == 0 then 1 else 3)

abbrev rank : Place → ℕ
rank (Root q) = 0
rank (Path b) = rank_of_items b.items
rank Total = 2
rank HasEdge = 5
rank LeadsOn = 6
rank (Holding i f sign) = 7
rank True = 8
rank q = 9

abbrev p_now : Place
p_now = with_items (now 1 p_holds true)

abbrev later : Place
later = with_items (put_off whole)

start_reached : IsReached (Root start) start
start_reached = behind (Root start) start at_root (inl refl)

total_reached : IsReached (Root start) Total
total_reached = behind (Root start) Total at_root (inr (inl refl))

p_reached : IsReached (Root start) p_now
p_reached = behind start p_now start_reached (inl refl)

is_its_graph : IsGraphAt worked_graph (linear_start_of worked false)
is_its_graph =
    listed_graph forms worked_graph (Root start)
    (start ∷ Total ∷ p_now ∷ later ∷ HasEdge ∷ LeadsOn ∷ Holding 1 p_holds true ∷ True ∷ []) rank
    (record {
      is_graph = is_a_graph;
      begins = refl;
      one_each = refl;
      ranks = refl;
      children_stand =
          (refl & refl & done) & (refl & refl & done) & (refl & refl & done) & (refl & refl & done) & (refl & done)
          & (refl & done) & (refl & done) & done & done & done;
      reached =
          at_root & start_reached & total_reached & p_reached
          & behind start later start_reached (inr (inl refl))
          & behind Total HasEdge total_reached (inl refl)
          & behind Total LeadsOn total_reached (inr (inl refl))
          & behind p_now (Holding 1 p_holds true) p_reached (inl refl)
          & behind p_now True p_reached (inr (inl refl))
          & done;
      forms =
          ((1, 2, refl, refl, refl), refl)
          & ((3, 4, refl, refl, refl), refl)
          & ((5, 6, refl, refl, refl), refl)
          & ((7, 8, refl, refl, refl), refl)
          & ((0, 1, refl, refl, refl), refl)
          & ((0, 8, refl, refl, refl), refl)
          & ((0, 2, refl, refl, refl), refl)
          & ((0, refl, refl), refl)
          & (refl, refl)
          & done;
      in_order = refl;
      earlier =
          (0, omega arith, inl refl)
          & (0, omega arith, inr (inl refl))
          & (1, omega arith, inl refl)
          & (1, omega arith, inr (inl refl))
          & (2, omega arith, inl refl)
          & (2, omega arith, inr (inl refl))
          & (3, omega arith, inl refl)
          & (3, omega arith, inr (inl refl))
          & done;
    })

-- ---- the law at work

abbrev edge : (source target : ℕ) → Edge
edge s t = record { source = s; action = codes "_"; target = t }

abbrev turning : Structure
turning = record {
  states = 2;
  labels = [] ∷ (codes "p" ∷ []) ∷ [];
  edges = edge 0 0 ∷ edge 0 1 ∷ edge 1 1 ∷ [];
}

abbrev JoinsTwo : Edge → Type 0
JoinsTwo e = (e.source < 2) × (e.target < 2)

turning_is : IsStructure turning
turning_is = record {
  has_state = omega arith;
  labels_states = refl;
  joins_states =
      All-cons JoinsTwo (edge 0 0) (edge 0 1 ∷ edge 1 1 ∷ []) (omega arith, omega arith)
      (All-cons JoinsTwo (edge 0 1) (edge 1 1 ∷ []) (omega arith, omega arith)
      (All-cons JoinsTwo (edge 1 1) [] (omega arith, omega arith) (All-nil JoinsTwo)));
}

turning_admitted : IsAdmitted turning
turning_admitted = record { is_structure = turning_is; is_total = steps }
  where
    steps : (s : ℕ) → s < 2 → (t : ℕ) × (has_step turning s t ≡ true)
    steps zero low = (0, refl)
    steps (suc zero) low = (1, refl)
    steps (suc (suc s)) low = absurd (omega (arith, low))

abbrev path : Lasso
path = record { entries = 0 ∷ 1 ∷ []; start = 1 }

path_from : IsPathFrom turning 0 path
path_from = record { is_path = record { starts = omega arith; joined = joined }; starts_at = refl }
  where
    joined : (k : ℕ) → k < 2 → has_step turning (get_or (0 ∷ 1 ∷ 1 ∷ []) k 0) (get_or (0 ∷ 1 ∷ 1 ∷ []) (k + 1) 0) ≡ true
    joined zero low = refl
    joined (suc zero) low = refl
    joined (suc (suc k)) low = absurd (omega (arith, low))

some_path : HoldsAt turning (Quantified Exists worked) 0
some_path = (path, path_from, inr (tt, inl refl))

abbrev OddWins : Type 0
OddWins = Wins (checking_game worked_graph turning) Odd (vertex_number worked_graph turning (Pair 0 0))

holds_at_turn : Holds worked_graph turning 0
holds_at_turn =
    ⊎_elim (λ (both : HoldsAt turning (Quantified Exists worked) 0 × Holds worked_graph turning 0). both.1)
    (λ (fails : (HoldsAt turning (Quantified Exists worked) 0 → ⊥) × OddWins). absurd (fails.0 some_path))
    (linear_graphs_agree worked false worked_graph is_its_graph turning turning_admitted 0 (omega arith))
