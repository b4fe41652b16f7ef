-- The states that are True are one: the True that all blocks share.
--
--   shared_there, shared_back == a state is True exactly where it is the one that blocks share
--   true_states_are_shared == the law
use Rattle.std.proofs.Common.{ℕ, ◌≡◌, ◌<◌, ◌⊎◌, inl, inr, arith, Bool, true, false, not, List, [], ◌∷◌, Some, refl, sym, ap, ◌∙◌, subst}
use Rattle.std.specs.Bool.{beq}
use Rattle.std.proofs.lemmas.Option.{slice_get-get_or}
use Rattle.ml_lists.specs.Member.{IsMember}
use Rattle.ml_lists.proofs.Entries.{some_entry}
use Rattle.ml_lists.proofs.Member.{member-place, member_of_get}
use Rattle.ml_graph.specs.Graph.{Graph, node_at, size}
use Rattle.ml_graph.specs.declared.node.Node.{Node}
use Rattle.ml_graph.specs.declared.node.Node.TheVariants as node
use Rattle.ml_nodes.specs.ClosureGraph.{HasForm, IsNumberOf, IsNumberedBy, IsReached, at_root, behind, children, And, Or, Diamond}
use Rattle.ml_ctl.specs.Formula.{Formula}
use Rattle.ml_ctl.specs.Sorts.{is_linear}
use Rattle.ml_blocks.specs.Items.{Item}
use Rattle.ml_blocks.specs.Places.{Place, Form, Holding, True, form_of, forms}
use Rattle.ml_blocks.proofs.BlockSteps.{block}
use Rattle.ml_blocks.proofs.LocalRuns.{Of}
use Rattle.ml_word_automaton.specs.Laws.{TrueStatesAreShared}
use Rattle.ml_word_automaton.specs.Letters as states
use Rattle.ml_word_automaton.specs.Letters.{GoesOn, IsState, begins, is_true}
use Rattle.ml_word_automaton.proofs.AtomItems.{IsAtom}
use Rattle.ml_word_automaton.proofs.BlockShapes.{Shape, Kind, atom_alone, beside, block_at, edge, either, first_item, kinds, of_atom, of_block, of_first, shape_of, twice}
use Rattle.ml_word_automaton.proofs.MarkedStates.{goes_inside, inside}

module _ (f : Formula) (sign : Bool) (linear : is_linear f ≡ true) where
  abbrev first : Item
  first = first_item f sign

  abbrev at : List Item → ℕ → Place
  at xs k = block_at f sign xs k

  -- ---- by numbers

  module _ (g : Graph) (places : List Place) (N : IsNumberedBy forms g (at (first ∷ []) 0) places) where
    abbrev Stands : ℕ → Place → Type 0
    Stands n p = IsNumberOf places n p

    same_number : (n m : ℕ) (p q : Place) → Stands n p → Stands m q → p ≡ q → n ≡ m
    same_number n m p q at_n at_m e = (N.is_closure).once n m q (at_n ∙ ap Some e) at_m

    known : (n : ℕ) → n < size g → (p : Place) × Stands n p
    known n low = let many = N.one_each in some_entry places n (omega (arith, low, many))

    kind_of : (n : ℕ) (p : Place) → Stands n p → Kind f sign p
    kind_of n p e = kinds f sign linear p (((N.is_closure).are_reached p).0 (member_of_get places n p e))

    -- the node of a number has this form
    has : (n : ℕ) (p q : Place) → Stands n p → p ≡ q → HasForm g places (node_at g n) (form_of q)
    has n p q e is = subst (λ x. HasForm g places (node_at g n) (form_of x)) is (N.has_forms n p e)

    -- n stands for a block, or for the True that blocks share
    record OfBlock (n : ℕ) : Type 0 where
      items : List Item
      focus : ℕ
      of : Of first items
      stands : Stands n (at items focus)

    -- to which numbers a node leads, along an edge or at the place
    abbrev GoesTo : Node → ℕ → Type 0
    GoesTo (node.Diamond a q) n = n ≡ q
    GoesTo v n = GoesOn v n

    block_behind : (v : Node) (form : Form) (n : ℕ)
        → Shape f sign form
        → HasForm g places v form
        → GoesTo v n
        → OfBlock n
    block_behind v form n (edge zs k of e) h goes = from (subst (HasForm g places v) e h)
      where
        from : HasForm g places v (Diamond (at zs k)) → OfBlock n
        from h =
            let is : n ≡ h.1 = subst (λ w. GoesTo w n) h.3 goes in
            record { items = zs; focus = k; of = of; stands = subst (λ m. Stands m (at zs k)) (sym is) h.2 }
    block_behind v form n (beside j f' b zs k atom stands of e) h goes = from (subst (HasForm g places v) e h)
      where
        from : HasForm g places v (And (Holding j f' b) (at zs k)) → OfBlock n
        from h =
            let is : n ≡ h.1 = subst (λ w. GoesTo w n) h.4 goes in
            record { items = zs; focus = k; of = of; stands = subst (λ m. Stands m (at zs k)) (sym is) h.3 }
    block_behind v form n (twice zs k of e) h goes = from (subst (HasForm g places v) e h)
      where
        from : HasForm g places v (And (at zs k) (at zs k)) → OfBlock n
        from h =
            let is : n ≡ h.1 = subst (λ w. GoesTo w n) h.4 goes in
            record { items = zs; focus = k; of = of; stands = subst (λ m. Stands m (at zs k)) (sym is) h.3 }
    block_behind v form n (either ys zs k of_ys of_zs e) h goes = from (subst (HasForm g places v) e h)
      where
        from : HasForm g places v (Or (at ys k) (at zs k)) → OfBlock n
        from h = by_side (subst (λ w. GoesTo w n) h.4 goes)
          where
            by_side : (n ≡ h.0) ⊎ (n ≡ h.1) → OfBlock n
            by_side (inl is) =
                record { items = ys; focus = k; of = of_ys; stands = subst (λ m. Stands m (at ys k)) (sym is) h.2 }
            by_side (inr is) =
                record { items = zs; focus = k; of = of_zs; stands = subst (λ m. Stands m (at zs k)) (sym is) h.3 }

    constant_alone : (v : Node) (b : Bool) (n : ℕ) → v ≡ Rattle.ml_nodes.specs.Nodes.constant b → GoesTo v n → ⊥
    constant_alone v true n e goes = subst (λ w. GoesTo w n) e goes
    constant_alone v false n e goes = subst (λ w. GoesTo w n) e goes

    led_to : (m n : ℕ) → m < size g → GoesTo (node_at g m) n → OfBlock n
    led_to m n low goes = by_kind (known m low).0 (known m low).1 (kind_of m (known m low).0 (known m low).1)
      where
        by_atom : (j : ℕ) (h : Formula) (b : Bool)
            → IsAtom h
            → HasForm g places (node_at g m) (form_of (Holding j h b))
            → OfBlock n
        by_atom j h b (inl (c, is)) has_form =
            absurd (constant_alone (node_at g m) (beq c b) n
            (subst (λ x. HasForm g places (node_at g m) (form_of (Holding j x b))) is has_form) goes)
        by_atom j h b (inr (name, is)) has_form =
            let lit = subst (λ x. HasForm g places (node_at g m) (form_of (Holding j x b))) is has_form in
            absurd (subst (λ w. GoesTo w n) lit.1 goes)

        by_kind : (p : Place) → Stands m p → Kind f sign p → OfBlock n
        by_kind p e (of_block [] k of is) = absurd (constant_alone (node_at g m) true n (has m p (at [] k) e is) goes)
        by_kind p e (of_block (y ∷ ys) k of is) =
            block_behind (node_at g m) (form_of (at (y ∷ ys) k)) n (shape_of f sign linear y ys k of)
            (has m p (at (y ∷ ys) k) e is) goes
        by_kind p e (of_atom j h b atom stands is) = by_atom j h b atom (has m p (Holding j h b) e is)

    -- a block that is True has no items
    not_true : (v : Node) (form : Form) → Shape f sign form → HasForm g places v form → v ≡ node.True → ⊥
    not_true v form (edge zs k of e) h t =
        let h2 = subst (HasForm g places v) e h in let wrong = sym t ∙ h2.3 in absurd (cc)
    not_true v form (beside j f' b zs k atom stands of e) h t =
        let h2 = subst (HasForm g places v) e h in let wrong = sym t ∙ h2.4 in absurd (cc)
    not_true v form (twice zs k of e) h t =
        let h2 = subst (HasForm g places v) e h in let wrong = sym t ∙ h2.4 in absurd (cc)
    not_true v form (either ys zs k of_ys of_zs e) h t =
        let h2 = subst (HasForm g places v) e h in let wrong = sym t ∙ h2.4 in absurd (cc)

    top_of : (n : ℕ) → OfBlock n → node_at g n ≡ node.True → Stands n True
    top_of n block t = by_items block.items block.of block.stands
      where
        by_items : (xs : List Item) → Of first xs → Stands n (at xs block.focus) → Stands n True
        by_items [] of e = e
        by_items (y ∷ ys) of e =
            absurd (not_true (node_at g n) (form_of (at (y ∷ ys) block.focus)) (shape_of f sign linear y ys block.focus of)
            (N.has_forms n (at (y ∷ ys) block.focus) e) t)

    pub shared_there : (n : ℕ) → IsState g n → node_at g n ≡ node.True → Stands n True
    shared_there _ begins t =
        top_of 0
        (record {
          items = first ∷ [];
          focus = 0;
          of = of_first f sign;
          stands = subst (λ m. Stands m (at (first ∷ []) 0)) N.is_first N.root_is;
        })
        t
    shared_there n (states.behind d a _ e) t =
        top_of n (led_to d n (inside g d (λ is. let wrong = sym e ∙ is in cc)) (subst (λ v. GoesTo v n) (sym e) refl)) t
    shared_there n (is_true k _ goes _) t =
        top_of n (led_to k n (goes_inside g k n goes) (goes_to (node_at g k) n goes)) t
      where
        goes_to : (v : Node) (m : ℕ) → GoesOn v m → GoesTo v m
        goes_to (node.And l r) m goes = goes
        goes_to (node.Or l r) m goes = goes
        goes_to node.True m none = absurd none
        goes_to node.False m none = absurd none
        goes_to (node.Lit p b) m none = absurd none
        goes_to (node.Diamond b q) m none = absurd none
        goes_to (node.Square b q) m none = absurd none

    -- what leads to the True that blocks share makes it a state
    made_state : (k n : ℕ) (form : Form)
        → Stands n True
        → node_at g n ≡ node.True
        → Shape f sign form
        → HasForm g places (node_at g k) form
        → IsMember True (children form)
        → IsState g n
    made_state k n form here t (edge zs j of e) h m =
        by_child (subst (HasForm g places (node_at g k)) e h) (subst (λ x. IsMember True (children x)) e m)
      where
        by_child : HasForm g places (node_at g k) (Diamond (at zs j)) → IsMember True (at zs j ∷ []) → IsState g n
        by_child h (inl is) =
            subst (IsState g) (same_number h.1 n (at zs j) True h.2 here (sym is)) (states.behind k h.0 h.1 h.3)
        by_child h (inr none) = absurd none
    made_state k n form here t (beside i f' b zs j atom stands of e) h m =
        by_child (subst (HasForm g places (node_at g k)) e h) (subst (λ x. IsMember True (children x)) e m)
      where
        by_child : HasForm g places (node_at g k) (And (Holding i f' b) (at zs j))
            → IsMember True (Holding i f' b ∷ at zs j ∷ [])
            → IsState g n
        by_child h (inl is) = absurd (cc)
        by_child h (inr (inl is)) =
            let same = same_number h.1 n (at zs j) True h.3 here (sym is) in
            is_true k n (subst (λ v. GoesOn v n) (sym h.4) (sym same)) t
        by_child h (inr (inr none)) = absurd none
    made_state k n form here t (twice zs j of e) h m =
        by_child (subst (HasForm g places (node_at g k)) e h) (subst (λ x. IsMember True (children x)) e m)
      where
        given : (h : HasForm g places (node_at g k) (And (at zs j) (at zs j))) → True ≡ at zs j → IsState g n
        given h is =
            let same = same_number h.1 n (at zs j) True h.3 here (sym is) in
            is_true k n (subst (λ v. GoesOn v n) (sym h.4) (sym same)) t

        by_child : HasForm g places (node_at g k) (And (at zs j) (at zs j))
            → IsMember True (at zs j ∷ at zs j ∷ [])
            → IsState g n
        by_child h (inl is) = given h is
        by_child h (inr (inl is)) = given h is
        by_child h (inr (inr none)) = absurd none
    made_state k n form here t (either ys zs j of_ys of_zs e) h m =
        by_child (subst (HasForm g places (node_at g k)) e h) (subst (λ x. IsMember True (children x)) e m)
      where
        by_child : HasForm g places (node_at g k) (Or (at ys j) (at zs j))
            → IsMember True (at ys j ∷ at zs j ∷ [])
            → IsState g n
        by_child h (inl is) =
            let same = same_number h.0 n (at ys j) True h.2 here (sym is) in
            is_true k n (subst (λ v. GoesOn v n) (sym h.4) (inl (sym same))) t
        by_child h (inr (inl is)) =
            let same = same_number h.1 n (at zs j) True h.3 here (sym is) in
            is_true k n (subst (λ v. GoesOn v n) (sym h.4) (inr (sym same))) t
        by_child h (inr (inr none)) = absurd none

    is_top : (n : ℕ) → Stands n True → node_at g n ≡ node.True
    is_top n e = N.has_forms n True e

    shared_back : (n : ℕ) (p : Place) → Stands n True → p ≡ True → IsReached forms (block_at f sign (first_item f sign ∷ []) 0) p → IsState g n
    shared_back n _ here e at_root = absurd (cc)
    shared_back n p here e (behind q _ reached m) = by_kind (kinds f sign linear q reached)
      where
        number : (k : ℕ) × Stands k q
        number =
            let place = member-place q places (((N.is_closure).are_reached q).1 reached) in
            (place.place, slice_get-get_or places place.place q place.below ∙ ap Some (place.holds q))

        child : IsMember True (children (form_of q))
        child = subst (λ x. IsMember x (children (form_of q))) e m

        by_kind : Kind f sign q → IsState g n
        by_kind (of_block [] j of is) = absurd (subst (λ x. IsMember True (children (form_of x))) is child)
        by_kind (of_block (y ∷ ys) j of is) =
            made_state number.0 n (form_of (at (y ∷ ys) j)) here (is_top n here) (shape_of f sign linear y ys j of)
            (has number.0 q (at (y ∷ ys) j) number.1 is) (subst (λ x. IsMember True (children (form_of x))) is child)
        by_kind (of_atom j h b atom stands is) =
            absurd (atom_alone j h b True atom (subst (λ x. IsMember True (children (form_of x))) is child))

pub true_states_are_shared : TrueStatesAreShared
true_states_are_shared f negated g places n linear N = (
  (λ both. shared_there f (not negated) linear g places N n both.0 both.1),
  (λ here. (
    shared_back f (not negated) linear g places N n True here refl
        (((N.is_closure).are_reached True).0 (member_of_get places n True here)),
    N.has_forms n True here,
  )),
)
