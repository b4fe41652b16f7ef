-- The automaton that is made of places accepts what the word automaton accepts.
--
--   goes_there, goes_back == its edges lead as the letters do
--   accepts_words         == so it accepts exactly the words that satisfy the formula
--   made_labelled         == it is an automaton
--   made_translated       == what is left of it when states that aren't reached go is the formula's automaton
use Rattle.std.proofs.Common.{ℕ, ◌≡◌, ◌<◌, ◌≤◌, ◌^◌, ◌⊎◌, ◌↔◌, ◌==◌, inl, inr, arith, Bool, true, false, List, length, get_or, refl, sym, ap, ◌∙◌, subst}
use Rattle.std.specs.List.{All}
use Rattle.std.proofs.lemmas.Option.{slice_get_within}
use Rattle.ml_base.specs.Name.{IsName}
use Rattle.ml_lists.specs.Member.{IsMember}
use Rattle.ml_lists.proofs.FirstEntries.{none_more}
use Rattle.ml_lists.proofs.Member.{member-place}
use Rattle.ml_graph.specs.Graph.{Graph, node_at, priority_at}
use Rattle.ml_graph.specs.declared.node.Node.{Node}
use Rattle.ml_graph.specs.declared.node.Node.TheVariants as node
use Rattle.ml_trace.specs.WordAutomata.{IsAcceptedFrom, WordLasso}
use Rattle.ml_ctl.specs.Formula.{Formula}
use Rattle.ml_ctl.specs.Sorts.{is_linear}
use Rattle.ml_labelled.specs.declared.labelled.Literal.{Literal}
use Rattle.ml_labelled.specs.Labelled as labelled
use Rattle.ml_labelled.specs.Labelled.{Accepts, AcceptSame, AreReached, Edge, Fits, IsCube, IsEdge, IsLabelled, Letter, edges_of}
use Rattle.ml_labelled.proofs.CarriedRuns.{accepted_over}
use Rattle.ml_word_automaton.specs.Laws.{LeadToStates}
use Rattle.ml_word_automaton.specs.Letters as word
use Rattle.ml_word_automaton.specs.Letters.{HasItsStates, IsAutomatonOf, node_of}
use Rattle.ml_word_automaton.specs.WordAutomaton.{Leads, Walks}
use Rattle.ml_word_automaton.proofs.Acceptance.{accepts_what_satisfies}
use Rattle.ml_word_automaton.proofs.NumberedStates.{state_at}
use Rattle.ml_word_automaton.proofs.RowsAccept.{lead_to_states}
use Rattle.ml_translate.specs.Places.{GoesOnAt, HasMorePlaces, IsPlace, PassesNode, Place, begins, goes_on}
use Rattle.ml_translate.specs.Translation.{AcceptsWords, IsTranslated, IsWordAutomaton, props_of}
use Rattle.ml_translate.specs.private.Finding.{IsMadeOf, Makes, MakesAt}
use Rattle.ml_translate.proofs.CubeWalks.{KnowsLiterals, ascends_place, place_at_walk, walk_of}
use Rattle.ml_translate.proofs.PlaceEquality.{place_eq, place_eq-tells}

module _ (a : word.Automaton) (props : List (List ℕ)) (b : labelled.Automaton) (limit : ℕ) (has : HasItsStates a)
    (made : IsMadeOf a props limit b) where
  abbrev g : Graph
  g = a.graph

  abbrev numbers : List ℕ
  numbers = (made.have_edges).numbers

  states : LeadToStates a
  states = lead_to_states a has

  -- the number of a node is that of its state
  number_of : (q x : ℕ) → x < length a.states → node_of a x ≡ q → get_or numbers q 0 ≡ x
  number_of q x low is =
      ap (λ n. get_or numbers n 0) (sym is) ∙ ((made.have_edges).are_numbers).are x low

  -- an edge of a state is made of a place
  record FromPlace (p : ℕ) (e : Edge) : Type 0 where
    place : Place
    is_place : IsPlace a props place
    state : p ≡ place.state
    makes : Makes g numbers place e

  edge_place : (p : ℕ) (e : Edge) → IsMember e (edges_of b p) → FromPlace p e
  edge_place p e m =
      let of = ((made.have_edges).have_edges p e).0 m in
      record { place = of.0; is_place = ((made.are_places).are of.0).0 of.1; state = of.2; makes = of.3 }

  place_edge : (s : Place) (e : Edge) → IsPlace a props s → Makes g numbers s e → IsMember e (edges_of b s.state)
  place_edge s e is makes = ((made.have_edges).have_edges s.state e).1 (s, ((made.are_places).are s).1 is, refl, makes)

  module _ (knows : KnowsLiterals g props) where
    record Joined (p n : ℕ) : Type 0 where
      low : p < length a.states
      node : node_of a p ≡ n

    there_at : (l : Letter) (p q : ℕ) (c : Bool)
        → p < length a.states
        → Leads g l (node_of a p) q c
        → (x : ℕ) → x < length a.states → node_of a x ≡ q
        → labelled.Leads b l p x c
    there_at l p q c low (inl on) x x_low is =
        let s = place_at_walk a props l knows p on.diamond low on.walks in
        let place : Place = record { state = p; node = on.diamond; cube = s.cube } in
        let e : Edge = record { cube = s.cube; to = get_or numbers q 0; accepting = priority_at g on.diamond == 0 } in
        record {
          edge = e;
          is_edge = place_edge place e s.is_place (subst (λ v. MakesAt g numbers v place e) (sym on.is_diamond) refl);
          fits = subst (λ ps. Fits ps l s.cube) (sym made.same_props) s.fits;
          to_is = number_of q x x_low is;
          accepting_is = sym on.accepts;
        }
    there_at l p q c low (inr end) x x_low is =
        let s = place_at_walk a props l knows p q low end.walks in
        let place : Place = record { state = p; node = q; cube = s.cube } in
        let e : Edge = record { cube = s.cube; to = get_or numbers q 0; accepting = true } in
        record {
          edge = e;
          is_edge = place_edge place e s.is_place (subst (λ v. MakesAt g numbers v place e) (sym end.is_true) refl);
          fits = subst (λ ps. Fits ps l s.cube) (sym made.same_props) s.fits;
          to_is = number_of q x x_low is;
          accepting_is = sym end.accepts;
        }

    goes_there : (l : Letter) (n q : ℕ) (c : Bool) (p : ℕ)
        → Joined p n
        → Leads g l n q c
        → (x : ℕ) × Joined x q × labelled.Leads b l p x c
    goes_there l n q c p j lead =
        let from = subst (λ m. Leads g l m q c) (sym j.node) lead in
        let to = states.lead l p q c j.low from in (
          to.number,
          record { low = to.is_low; node = to.is },
          there_at l p q c j.low from to.number to.is_low to.is,
        )

    -- an edge leads where a letter does
    record Led (l : Letter) (p : ℕ) (e : Edge) : Type 0 where
      node : ℕ
      leads : Leads g l (node_of a p) node e.accepting
      number : e.to ≡ get_or numbers node 0

    led : (l : Letter) (p : ℕ) (e : Edge) (s : Place) (v : Node)
        → IsPlace a props s
        → p ≡ s.state
        → node_at g s.node ≡ v
        → MakesAt g numbers v s e
        → Fits props l e.cube
        → Led l p e
    led l p e s (node.Diamond action q) is at node_is makes fits =
        let walks = walk_of a props l s is (subst (λ (f : Edge). Fits props l f.cube) makes fits) in
        record {
          node = q;
          leads = inl (record {
            diamond = s.node;
            action = action;
            walks = subst (λ m. Walks g l (node_of a m) s.node) (sym at) walks;
            is_diamond = node_is;
            accepts = ap (λ (f : Edge). f.accepting) makes;
          });
          number = ap (λ (f : Edge). f.to) makes;
        }
    led l p e s node.True is at node_is makes fits =
        let walks = walk_of a props l s is (subst (λ (f : Edge). Fits props l f.cube) makes fits) in
        record {
          node = s.node;
          leads = inr (record {
            walks = subst (λ m. Walks g l (node_of a m) s.node) (sym at) walks;
            is_true = node_is;
            accepts = ap (λ (f : Edge). f.accepting) makes;
          });
          number = ap (λ (f : Edge). f.to) makes;
        }
    led l p e s node.False is at node_is makes fits = absurd makes
    led l p e s (node.Lit k c) is at node_is makes fits = absurd makes
    led l p e s (node.And x y) is at node_is makes fits = absurd makes
    led l p e s (node.Or x y) is at node_is makes fits = absurd makes
    led l p e s (node.Square x y) is at node_is makes fits = absurd makes

    goes_back : (l : Letter) (p x : ℕ) (c : Bool) (n : ℕ)
        → Joined p n
        → labelled.Leads b l p x c
        → (q : ℕ) × Joined x q × Leads g l n q c
    goes_back l p x c n j lead =
        let e = lead.edge in
        let of = edge_place p e lead.is_edge in
        let fits = subst (λ ps. Fits ps l e.cube) made.same_props lead.fits in
        let to = led l p e of.place (node_at g (of.place).node) of.is_place of.state refl of.makes fits in
        let one = states.lead l p to.node e.accepting j.low to.leads in
        let same : one.number ≡ x = sym (number_of to.node one.number one.is_low one.is) ∙ sym to.number ∙ lead.to_is in (
          to.node,
          subst (λ y. Joined y to.node) same (record { low = one.is_low; node = one.is }),
          subst (λ m. Leads g l m to.node c) j.node (subst (λ d. Leads g l (node_of a p) to.node d) lead.accepting_is to.leads),
        )

    start : Joined 0 0
    start = record { low = states.has_state; node = states.begins }

    one_number : (n p q : ℕ) → Joined p n → Joined q n → p ≡ q
    one_number n p q j k =
        sym (number_of n p j.low j.node) ∙ number_of n q k.low k.node

    pub same_as_letters : (w : WordLasso Letter) → Accepts b w ↔ IsAcceptedFrom (Leads g) 0 w
    same_as_letters w = (
      accepted_over (labelled.Leads b) (Leads g) Joined goes_back w 0 0 (λ p m n j k. sym j.node ∙ k.node) start,
      accepted_over (Leads g) (labelled.Leads b) (λ n p. Joined p n) goes_there w 0 0 one_number start,
    )

    pub accepts_words : (f : Formula) → is_linear f ≡ true → IsAutomatonOf a f false → AcceptsWords b f
    accepts_words f linear is w lasso =
        let law = accepts_what_satisfies f false g w linear is.is_graph lasso in
        let same = same_as_letters w in
        ((λ k. law.0 (same.0 k)), (λ k. same.1 (law.1 k)))

  -- ---- it is an automaton

  cube_below : (s : Place) → IsPlace a props s → (l : Literal) → IsMember l s.cube → l.prop < length props
  cube_below _ (begins p low) l m = absurd m
  cube_below _ (goes_on s n c is on) l m = on_below (node_at g s.node) on (cube_below s is)
    where
      passed : (v : Node) → PassesNode g props v s.cube c → ((k : Literal) → IsMember k s.cube → k.prop < length props)
          → l.prop < length props
      passed node.True same all = all l (subst (IsMember l) same m)
      passed (node.Lit k d) (x, names, joined) all = by ((joined.literals l).0 m)
        where
          by : IsMember l s.cube ⊎ (l ≡ x) → l.prop < length props
          by (inl i) = all l i
          by (inr same) = subst (λ (y : Literal). y.prop < length props) (sym same) (slice_get_within props x.prop _ names.name)
      passed node.False none all = absurd none
      passed (node.And x y) none all = absurd none
      passed (node.Or x y) none all = absurd none
      passed (node.Diamond x y) none all = absurd none
      passed (node.Square x y) none all = absurd none

      on_below : (v : Node) → GoesOnAt g props v s.cube n c → ((k : Literal) → IsMember k s.cube → k.prop < length props)
          → l.prop < length props
      on_below (node.And x y) (at, inl both) all = all l (subst (IsMember l) both.1 m)
      on_below (node.And x y) (at, inr both) all = passed (node_at g x) both.1 all
      on_below (node.Or x y) (at, same) all = all l (subst (IsMember l) same m)
      on_below node.True none all = absurd none
      on_below node.False none all = absurd none
      on_below (node.Lit k d) none all = absurd none
      on_below (node.Diamond x y) none all = absurd none
      on_below (node.Square x y) none all = absurd none

  cube_fits : (s : Place) → IsPlace a props s → IsCube (length props) s.cube
  cube_fits s is = record { ascends = ascends_place a props s is; below = cube_below s is }

  -- a state's number is below the number of states
  number_low : (n : ℕ) → word.IsState g n → get_or numbers n 0 < length a.states
  number_low n is =
      let at = member-place n a.states ((has.are_states n).1 is) in
      let number = number_of n at.place at.below (at.holds 0) in
      let low = at.below in omega arith

  on_goes : (v : Node) (c d : List Literal) (m : ℕ) → GoesOnAt g props v c m d → word.GoesOn v m
  on_goes (node.And l r) c d m (at, more) = at
  on_goes (node.Or l r) c d m (at, same) = at
  on_goes node.True c d m none = absurd none
  on_goes node.False c d m none = absurd none
  on_goes (node.Lit k b) c d m none = absurd none
  on_goes (node.Diamond x y) c d m none = absurd none
  on_goes (node.Square x y) c d m none = absurd none

  -- a place at True is at a state
  true_state : (s : Place) → IsPlace a props s → node_at g s.node ≡ node.True → word.IsState g s.node
  true_state _ (begins p low) is = state_at a has p low
  true_state _ (goes_on s n c place on) is =
      word.is_true s.node n (on_goes (node_at g s.node) s.cube c n on) is

  edge_fits : (e : Edge) (s : Place) (v : Node)
      → IsPlace a props s
      → node_at g s.node ≡ v
      → MakesAt g numbers v s e
      → IsEdge (length a.states) (length props) e
  edge_fits e s (node.Diamond action q) is at makes =
      subst (IsEdge (length a.states) (length props)) (sym makes)
      (record { is_cube = cube_fits s is; to_state = number_low q (word.behind s.node action q at) })
  edge_fits e s node.True is at makes =
      subst (IsEdge (length a.states) (length props)) (sym makes)
      (record { is_cube = cube_fits s is; to_state = number_low s.node (true_state s is at) })
  edge_fits e s node.False is at makes = absurd makes
  edge_fits e s (node.Lit k c) is at makes = absurd makes
  edge_fits e s (node.And x y) is at makes = absurd makes
  edge_fits e s (node.Or x y) is at makes = absurd makes
  edge_fits e s (node.Square x y) is at makes = absurd makes

  pub made_labelled : length a.states < 2 ^ 32 → length props < 2 ^ 32 → All IsName props → IsLabelled b
  made_labelled few_states few_props names = record {
    some_state = let many = made.as_many in let some = states.has_state in omega arith;
    few_states = let many = made.as_many in omega arith;
    few_props = subst (λ ps. length ps < 2 ^ 32) (sym made.same_props) few_props;
    names = subst (All IsName) (sym made.same_props) names;
    edges = λ p e m.
        let of = edge_place p e m in
        subst (λ n. IsEdge n (length b.props) e) (sym made.as_many)
        (subst (λ ps. IsEdge (length a.states) (length ps) e) (sym made.same_props)
        (edge_fits e of.place (node_at g (of.place).node) of.is_place refl of.makes));
  }

  pub few_places : ¬ (HasMorePlaces a props limit)
  few_places many =
      let few = made.few in
      let more = many.is_longer in
      let short = none_more place_eq place_eq-tells many.places made.places many.once
      (λ s m. ((made.are_places).are s).1 (many.are_places s m)) in
      omega arith

-- ---- all of it

pub made_translated : (f : Formula) (a : word.Automaton) (props : List (List ℕ)) (b c : labelled.Automaton) (limit : ℕ)
    → is_linear f ≡ true
    → IsWordAutomaton f a
    → props ≡ props_of f
    → IsMadeOf a props limit b
    → KnowsLiterals a.graph props
    → IsLabelled c
    → AcceptSame b c
    → c.props ≡ b.props
    → AreReached c
    → length c.edges ≤ length b.edges
    → IsTranslated f limit c
made_translated f a props b c limit linear is props_are made knows labelled_c same same_props reached few = record {
  is_labelled = labelled_c;
  props = same_props ∙ made.same_props ∙ props_are;
  accepts = λ w lasso.
      let words = accepts_words a props b limit ((is.is_of).states) made knows f linear is.is_of w lasso in
      let kept = same w lasso in
      ((λ k. words.0 (kept.1 k)), (λ k. kept.0 (words.1 k)));
  are_reached = reached;
  automaton = a;
  is_automaton = is;
  few_states = let many = made.as_many in omega arith;
  few_places =
      subst (λ ps. ¬ (HasMorePlaces a ps limit)) props_are (few_places a props b limit ((is.is_of).states) made);
}
