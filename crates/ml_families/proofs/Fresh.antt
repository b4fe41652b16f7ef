-- Steps at which nothing happens: from one node to one other node, with even priorities alone, and a fresh history.
--
--   node_states odds d  == the states of the node d
--   fresh_at g d        == the position with the node d alone, where all states of d are fresh
--   IsBegun g v p       == p has the node v alone, no choice and a fresh history, in which v stands without a guess
--   fresh_move          == the one move from such a position leads to the fresh position of the diamond's child
use Rattle.std.proofs.Common.{◌≡◌, ℕ, ◌%◌, ◌==◌, ◌⊎◌, Bool, true, false, List, [], ◌∷◌, map, Option, Some, None, inl, inr, refl, sym, ap, subst, ◌∙◌, arith}
use Rattle.std.proofs.lemmas.Bool.{cases_Bool, eqb-true}
use Rattle.ml_lists.specs.Ascending.{ascending}
use Rattle.ml_lists.specs.Member.{IsMember}
use Rattle.ml_lists.proofs.Ascending.{ascending_same, ascending-one, member-ascending}
use Rattle.ml_lists.proofs.Member.{member-map, member-map_from}
use Rattle.ml_graph.specs.Graph.{Graph, node_at, odd_priorities, priority_at}
use Rattle.ml_graph.specs.declared.node.Node.TheVariants as node
use Rattle.ml_history.specs.CycleLaws.{HasState, IsLedTo}
use Rattle.ml_sequent.specs.declared.choice.Side.{Side}
use Rattle.ml_sequent.specs.LocalWalk.{LocalWalk, stays, goes, children_of}
use Rattle.ml_sequent.specs.Spread.{SpreadList}
use Rattle.ml_trace.specs.declared.letters.Transition.{Transition}
use Rattle.ml_trace.specs.declared.letters.Triple.{Triple}
use Rattle.ml_trace.specs.Automaton.{Gives, Leads, number}
use Rattle.ml_trace.specs.Marks.{priority}
use Rattle.ml_trace.specs.Stack.{Item}
use Rattle.ml_product.specs.Position.{Position, neutral, Follows}
use Rattle.ml_product.specs.DecisionGame.{To, Turn}
use Rattle.ml_families.proofs.Beginnings.{AreFresh, IsPlainLetter, fresh, fresh_mark, fresh_stepped}
use Rattle.ml_families.proofs.Forms.{IsFormed, Moved, form_region, moved}
use Rattle.ml_families.proofs.Regions.{AreIn, IsRegion, Nodes, Reaches}
use Rattle.ml_graph.proofs.OddPriorities.{odd_is_odd}

abbrev pub node_states : List ℕ → ℕ → List ℕ
node_states odds d =
    number odds (record { node = d; odd = None }) ∷ map (λ e. number odds (record { node = d; odd = Some e })) odds

abbrev pub fresh_at : Graph → ℕ → Position
fresh_at g d = record {
  sequent = d ∷ [];
  history = map fresh (ascending (node_states (odd_priorities g) d));
  priority = neutral g;
  choice = [];
}

pub record IsBegun (g : Graph) (v : ℕ) (p : Position) : Type 0 where
  pub sequent : p.sequent ≡ v ∷ []
  pub unchosen : p.choice ≡ []
  pub fresh : AreFresh p.history
  pub has_state : HasState p.history (number (odd_priorities g) (record { node = v; odd = None }))

-- a fresh position is so
pub fresh_begun : (g : Graph) (d : ℕ) → IsBegun g d (fresh_at g d)
fresh_begun g d =
    let states = node_states (odd_priorities g) d in
    let first = number (odd_priorities g) (record { node = d; odd = None }) in
    record {
      sequent = refl;
      unchosen = refl;
      fresh = each;
      has_state = record {
        item = fresh first;
        member = member-map fresh first (ascending states) (member-ascending first states (inl refl));
        state_is = refl;
      };
    }
  where
    each : AreFresh (map fresh (ascending (node_states (odd_priorities g) d)))
    each a m =
        let i = member-map_from fresh a (ascending (node_states (odd_priorities g) d)) m in
        ap (λ (x : Item ℕ). x.stack) i.holds

-- ---- letters

-- walks through nodes of even priorities have one
walk_even : (g : Graph) (c : List (ℕ × Side)) (S : Nodes) → IsRegion g c S
    → ((n : ℕ) → S n → priority_at g n % 2 ≡ 0)
    → (n k m : ℕ) → LocalWalk g c n k m → S n → k % 2 ≡ 0
walk_even g c S region even n k m (stays _) here = even n here
walk_even g c S region even n k m (goes {k = j} _ next child w) here =
    let rest = walk_even g c S region even next j m w (region n next here child) in
    let first = even n here in
    omega arith

-- a triple with an even priority gives no accepting transition
plain_leads : (g : Graph) (k : ℕ) (b f : Option ℕ) (accepting : Bool)
    → k % 2 ≡ 0 → Leads (odd_priorities g) k b f accepting → accepting ≡ false
plain_leads g k None None accepting even leads = leads
plain_leads g k None (Some d) accepting even leads = leads.1
plain_leads g k (Some d) None accepting even leads = absurd leads
plain_leads g k (Some d) (Some e) accepting even leads = leads.3 ∙ by_test (cases_Bool (d == k))
  where
    by_test : (d == k ≡ true) ⊎ (d == k ≡ false) → d == k ≡ false
    by_test (inr differ) = differ
    by_test (inl is) =
        let same = eqb-true d k is in
        let odd = odd_is_odd g d leads.1 in
        absurd (omega (arith, odd, even, same))

-- where a transition of a triple leads is a state of the triple's target
led_to : (g : Graph) (t : Triple) (m : Transition) (d : ℕ) → t.to ≡ d → Gives (odd_priorities g) t m
    → IsMember m.to (node_states (odd_priorities g) d)
led_to g t m d same gives =
    subst (λ q. IsMember q (node_states (odd_priorities g) d)) (sym gives.to_is)
    (subst
    (λ n. IsMember (number (odd_priorities g) (record { node = t.to; odd = gives.behind })) (node_states (odd_priorities g) n))
    same
    (by_guess gives.before gives.behind gives.leads))
  where
    by_guess : (b f : Option ℕ) → Leads (odd_priorities g) t.lowest b f m.accepting
        → IsMember (number (odd_priorities g) (record { node = t.to; odd = f })) (node_states (odd_priorities g) t.to)
    by_guess b None leads = inl refl
    by_guess None (Some e) leads =
        inr (member-map (λ k. number (odd_priorities g) (record { node = t.to; odd = Some k })) e (odd_priorities g) leads.0)
    by_guess (Some c) (Some e) leads =
        inr (member-map (λ k. number (odd_priorities g) (record { node = t.to; odd = Some k })) e (odd_priorities g)
        (subst (λ k. IsMember k (odd_priorities g)) (sym leads.0) leads.1))

-- ---- the move

module _ (g : Graph) (p : Position) (S : Nodes) (v d a to : ℕ) (begun : IsBegun g v p) (formed : IsFormed g S d to)
    (is : node_at g d ≡ node.Diamond a to) (here : S v) (reaches : Reaches g p.choice v d) where
  abbrev odds : List ℕ
  odds = odd_priorities g

  sequent_in : AreIn S p.sequent
  sequent_in n m = by_one (subst (IsMember n) begun.sequent m)
    where
      by_one : (n ≡ v) ⊎ ⊥ → S n
      by_one (inl same) = subst S (sym same) here
      by_one (inr none) = absurd none

  first_in : IsMember v p.sequent
  first_in = subst (IsMember v) (sym begun.sequent) (inl refl)

  region : IsRegion g p.choice S
  region = form_region g p.choice S d to formed (ap (children_of p.choice d) is)

  module _ (sp : SpreadList) (choice : sp.choice ≡ p.choice) (q : Position) (f : Follows g p sp d q)
      (has : IsMember to q.sequent) (only : (m : ℕ) → IsMember m q.sequent → (m ≡ to) ⊎ (m ≡ to)) where
    one_node : (m : ℕ) → IsMember m q.sequent → m ≡ to
    one_node m i = by_one (only m i)
      where
        by_one : (m ≡ to) ⊎ (m ≡ to) → m ≡ to
        by_one (inl same) = same
        by_one (inr same) = same

    to_target : (t : Triple) → IsMember t f.traces → t.to ≡ to
    to_target t m =
        let trace = (f.is_step.traces t).0 m in
        one_node t.to ((f.is_step.targets t.to).1 (record { leaving = trace.leaving; leads = trace.leads }))

    plain : IsPlainLetter f.letter
    plain x y m =
        let given = (f.is_letter (record { from = x; to = y; accepting = true })).0 m in
        let trace = (f.is_step.traces given.0).0 given.1 in
        let even = walk_even g p.choice S region formed.even given.0.from given.0.lowest trace.leaving
        (subst (λ c. LocalWalk g c given.0.from given.0.lowest trace.leaving) choice trace.walk)
        (sequent_in given.0.from trace.from) in
        let none = plain_leads g given.0.lowest given.2.before given.2.behind true even given.2.leads in
        cc

    -- the trace from the one node to the other
    abbrev traced : Triple
    traced = record { from = v; lowest = reaches.0; to = to }

    is_traced : IsMember traced f.traces
    is_traced = (f.is_step.traces traced).1 (record {
      from = first_in;
      leaving = d;
      walk = subst (λ c. LocalWalk g c v reaches.0 d) (sym choice) reaches.1;
      leads = record { action = a; child = to; is_diamond = is; leaves = inl (refl, refl) };
    })

    from_begin : (guess : Option ℕ) → Leads odds reaches.0 None guess false
        → IsLedTo p.history f.letter (number odds (record { node = to; odd = guess }))
    from_begin guess leads = record {
      from = number odds (record { node = v; odd = None });
      accepting = false;
      has_stack = begun.has_state;
      transition = (f.is_letter (record {
        from = number odds (record { node = v; odd = None });
        to = number odds (record { node = to; odd = guess });
        accepting = false;
      })).1 (traced, is_traced, record { before = None; behind = guess; leads = leads; from_is = refl; to_is = refl });
    }

    into : (x : ℕ) → IsMember x (node_states odds to) → IsLedTo p.history f.letter x
    into x (inl same) = subst (IsLedTo p.history f.letter) (sym same) (from_begin None refl)
    into x (inr m) =
        let i = member-map_from (λ e. number odds (record { node = to; odd = Some e })) x odds m in
        subst (IsLedTo p.history f.letter) (sym i.holds) (from_begin (Some i.from) (i.member, refl))

    out_of : (x : ℕ) → IsLedTo p.history f.letter x → IsMember x (node_states odds to)
    out_of x led =
        let given = (f.is_letter (record { from = led.from; to = x; accepting = led.accepting })).0 led.transition in
        led_to g given.0 (record { from = led.from; to = x; accepting = led.accepting }) to (to_target given.0 given.1)
        given.2

    fresh_there : q ≡ fresh_at g to
    fresh_there =
        let sequents : q.sequent ≡ to ∷ [] =
        ascending_same q.sequent (to ∷ []) f.is_step.ascends (ascending-one to) (λ m i. inl (one_node m i)) back in
        let histories =
        f.history ∙ fresh_stepped p.history f.letter begun.fresh plain (node_states odds to) into out_of in
        let mark = fresh_mark p.history f.letter begun.fresh plain (number odds (record { node = to; odd = None }))
        (into (number odds (record { node = to; odd = None })) (inl refl)) in
        let priorities : q.priority ≡ neutral g = f.marked ∙ ap (priority (neutral g)) mark in
        λ i. record { sequent = sequents i; history = histories i; priority = priorities i; choice = f.unchosen i }
      where
        back : (m : ℕ) → (m ≡ to) ⊎ ⊥ → IsMember m q.sequent
        back m (inl same) = subst (λ k. IsMember k q.sequent) (sym same) has
        back m (inr none) = absurd none

  pub fresh_move : (t : Turn g p) → t.targets ≡ To (fresh_at g to) ∷ []
  fresh_move t = by_move (moved g p S d to a to formed is sequent_in t v first_in reaches)
    where
      by_move : Moved g p S d to to t.targets → t.targets ≡ To (fresh_at g to) ∷ []
      by_move m =
          m.step.is
          ∙ ap (λ q. To q ∷ []) (fresh_there m.step.spread m.step.choice m.step.to m.step.follows m.has m.only)
