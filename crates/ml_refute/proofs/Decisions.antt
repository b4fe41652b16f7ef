-- What stands in a decision.
--
--   IsBelow p q     == q has the sequent and the history of p
--   GoIn p f m      == a go of the decision at p, to the entry f with the mark m
--   along_left, along_right == what stands below a split
--   go_to           == each entry to which the decision leads has a go
--   go_of_arc       == so has each arc
--   chosen_facts    == with one side more the same facts are true
--   spread_here     == each decision stands at a spread of its position
--   nodes_low       == so the nodes of the sequent are in the graph
use Rattle.std.proofs.Common.{ℕ, ◌≡◌, ◌<◌, ◌⊎◌, inl, inr, List, refl, sym, subst}
use Rattle.ml_lists.specs.Member.{IsMember}
use Rattle.ml_lists.proofs.Member.{member-append}
use Rattle.ml_graph.specs.Graph.{Graph, size}
use Rattle.ml_parity.specs.declared.one_sided.graph.Arc.{Arc}
use Rattle.ml_parity.specs.Solution.{GameSolution}
use Rattle.ml_product.specs.Arena.{Arena}
use Rattle.ml_product.specs.DecisionGame.{IsResolved}
use Rattle.ml_product.specs.Position.{Position, with_chosen}
use Rattle.ml_product.proofs.NeutralPriority.{sequent_low}
use Rattle.ml_product.proofs.Reached.{Facts}
use Rattle.ml_refutation.specs.Refutation.{Decision, Split, Clash, Go}
use Rattle.ml_sequent.specs.declared.choice.Side.{Side}
use Rattle.ml_sequent.specs.declared.choice.Side.TheVariants.{Left, Right}
use Rattle.ml_sequent.specs.Spread.{SpreadList, IsSpreadOf}
use Rattle.ml_trace.specs.declared.marks.Mark.{Mark}
use Rattle.ml_trace.specs.Marks.{priority}
use Rattle.ml_refute.specs.Extracted.{leads_to, IsGo, IsDecisionAt, arcs_of}

-- a go of the decision at p, to the entry f with the mark m
pub record GoIn (g : Graph) (a : Arena) (s : GameSolution) (ps : List Position) (p : Position) (f : ℕ)
    (m : Mark) : Type 0 where
  pub here : Position
  pub spread : SpreadList
  pub diamond : ℕ
  pub same_sequent : here.sequent ≡ p.sequent
  pub same_history : here.history ≡ p.history
  pub is_spread : IsSpreadOf g here.sequent here.choice spread
  pub is_resolved : IsResolved g spread
  pub is_go : IsGo g a s ps here spread diamond f m

module _ (g : Graph) (a : Arena) (s : GameSolution) (ps : List Position) where
  -- what stands below a split
  abbrev pub above_split : (p : Position) (o : ℕ) (x : Side) (f : ℕ) (m : Mark)
      → GoIn g a s ps (with_chosen g p o x) f m
      → GoIn g a s ps p f m
  above_split p o x f m i = record {
    here = i.here;
    spread = i.spread;
    diamond = i.diamond;
    same_sequent = i.same_sequent;
    same_history = i.same_history;
    is_spread = i.is_spread;
    is_resolved = i.is_resolved;
    is_go = i.is_go;
  }

  -- each entry to which the decision leads has a go
  pub record LedTo (p : Position) (f : ℕ) : Type 0 where
    pub mark : Mark
    pub go : GoIn g a s ps p f mark

  led_above : (p : Position) (o : ℕ) (x : Side) (f : ℕ) → LedTo (with_chosen g p o x) f → LedTo p f
  led_above p o x f l = record { mark = l.mark; go = above_split p o x f l.mark l.go }

  pub go_to : (p : Position) (d : Decision) → IsDecisionAt g a s ps p d → (f : ℕ) → IsMember f (leads_to d) → LedTo p f
  go_to p (Split o left right) is f inside =
      by_side (member-append f (leads_to left) (leads_to right) inside) (go_to (with_chosen g p o Left) left is.1 f)
      (go_to (with_chosen g p o Right) right is.2 f)
    where
      by_side : IsMember f (leads_to left) ⊎ IsMember f (leads_to right)
          → (IsMember f (leads_to left) → LedTo (with_chosen g p o Left) f)
          → (IsMember f (leads_to right) → LedTo (with_chosen g p o Right) f)
          → LedTo p f
      by_side (inl l) at_left at_right = led_above p o Left f (at_left l)
      by_side (inr r) at_left at_right = led_above p o Right f (at_right r)
  go_to p (Clash x) is f inside = absurd inside
  go_to p (Go d e m) is f (inl same) = record {
    mark = m;
    go = record {
      here = p;
      spread = is.spread;
      diamond = d;
      same_sequent = refl;
      same_history = refl;
      is_spread = is.is_spread;
      is_resolved = is.holds.0;
      is_go = subst (λ k. IsGo g a s ps p is.spread d k m) (sym same) is.holds.1;
    };
  }
  go_to p (Go d e m) is f (inr none) = absurd none

  -- so has each arc
  pub record ArcOf (top e : ℕ) (p : Position) (arc : Arc) : Type 0 where
    pub entry : ℕ
    pub mark : Mark
    pub arc_is : arc ≡ record { from = e; priority = priority top mark; to = entry }
    pub go : GoIn g a s ps p entry mark

  arc_above : (top e : ℕ) (p : Position) (o : ℕ) (x : Side) (arc : Arc)
      → ArcOf top e (with_chosen g p o x) arc
      → ArcOf top e p arc
  arc_above top e p o x arc l =
      record { entry = l.entry; mark = l.mark; arc_is = l.arc_is; go = above_split p o x l.entry l.mark l.go }

  pub go_of_arc : (top e : ℕ) (p : Position) (d : Decision)
      → IsDecisionAt g a s ps p d
      → (arc : Arc)
      → IsMember arc (arcs_of top e d)
      → ArcOf top e p arc
  go_of_arc top e p (Split o left right) is arc inside =
      by_side (member-append arc (arcs_of top e left) (arcs_of top e right) inside)
      (go_of_arc top e (with_chosen g p o Left) left is.1 arc) (go_of_arc top e (with_chosen g p o Right) right is.2
      arc)
    where
      by_side : IsMember arc (arcs_of top e left) ⊎ IsMember arc (arcs_of top e right)
          → (IsMember arc (arcs_of top e left) → ArcOf top e (with_chosen g p o Left) arc)
          → (IsMember arc (arcs_of top e right) → ArcOf top e (with_chosen g p o Right) arc)
          → ArcOf top e p arc
      by_side (inl l) at_left at_right = arc_above top e p o Left arc (at_left l)
      by_side (inr r) at_left at_right = arc_above top e p o Right arc (at_right r)
  go_of_arc top e p (Clash x) is arc inside = absurd inside
  go_of_arc top e p (Go d f m) is arc (inl same) = record {
    entry = f;
    mark = m;
    arc_is = same;
    go = record {
      here = p;
      spread = is.spread;
      diamond = d;
      same_sequent = refl;
      same_history = refl;
      is_spread = is.is_spread;
      is_resolved = is.holds.0;
      is_go = is.holds.1;
    };
  }
  go_of_arc top e p (Go d f m) is arc (inr none) = absurd none

  -- each decision stands at a spread of its position
  pub record SpreadHere (p : Position) : Type 0 where
    pub spread : SpreadList
    pub is_spread : IsSpreadOf g p.sequent p.choice spread

  pub spread_here : (p : Position) (d : Decision) → IsDecisionAt g a s ps p d → SpreadHere p
  spread_here p (Split o left right) is = record { spread = is.0.spread; is_spread = is.0.is_spread }
  spread_here p (Clash x) is = record { spread = is.spread; is_spread = is.is_spread }
  spread_here p (Go d f m) is = record { spread = is.spread; is_spread = is.is_spread }

  -- so the nodes of the sequent are in the graph
  pub nodes_low : (p : Position) (d : Decision)
      → IsDecisionAt g a s ps p d
      → (n : ℕ)
      → IsMember n p.sequent
      → n < size g
  nodes_low p d is =
      let here = spread_here p d is in
      sequent_low g p here.spread here.is_spread

-- with one side more the same facts are true
pub chosen_facts : (g : Graph) (p : Position) (o : ℕ) (x : Side) → Facts g p → Facts g (with_chosen g p o x)
chosen_facts g p o x facts =
    record { ascends = facts.ascends; stands = facts.stands; traced = facts.traced; is_history = facts.is_history }
