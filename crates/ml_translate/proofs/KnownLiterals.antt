-- The literals in the graph of a formula's block name propositions of the formula.
--
--   named_within == the names in what stands in a formula are names of the formula
--   known_literals == the literals name propositions of the formula
use Rattle.std.proofs.Common.{ℕ, ◌≡◌, ◌+◌, ◌<◌, inl, inr, arith, Bool, true, false, not, List, [], ◌∷◌, Some, slice_get, refl, sym, ap, ◌∙◌, subst}
use Rattle.std.specs.Bool.{beq}
use Rattle.std.specs.List.{AllByRecursion}
use Rattle.std.proofs.lemmas.Option.{slice_get-get_or}
use Rattle.ml_lists.specs.Member.{IsMember}
use Rattle.ml_lists.proofs.Entries.{some_entry}
use Rattle.ml_lists.proofs.Member.{member-append_left, member-append_right, member_of_get}
use Rattle.ml_text.specs.Names.{Action, KindedName, Proposition, Variable, of_kind}
use Rattle.ml_text.specs.NameLists.{place_of}
use Rattle.ml_text.proofs.NameLists.{added_names, is_among, place_found}
use Rattle.ml_graph.specs.Graph.{Graph, node_at, prop_at, size}
use Rattle.ml_graph.specs.declared.node.Node.{Node}
use Rattle.ml_graph.specs.declared.node.Node.TheVariants as node
use Rattle.ml_nodes.specs.ClosureGraph.{HasForm, IsNumberOf, IsNumberedBy, behind}
use Rattle.ml_nodes.specs.Nodes.{constant}
use Rattle.ml_ctl.specs.Formula.{Formula}
use Rattle.ml_ctl.specs.FormulaNames.{names}
use Rattle.ml_ctl.specs.Sorts.{is_linear}
use Rattle.ml_blocks.specs.Items.{Item}
use Rattle.ml_blocks.specs.Places.{Place, Form, Holding, form_of, forms}
use Rattle.ml_blocks.proofs.ItemsWithin.{StandsAt, here, under_not, under_tense, at_left, at_right}
use Rattle.ml_blocks.proofs.ItemsWithin as within
use Rattle.ml_word_automaton.specs.WordAutomaton.{IsBlockGraph}
use Rattle.ml_word_automaton.proofs.AtomItems.{IsAtom}
use Rattle.ml_word_automaton.proofs.BlockShapes.{Shape, Kind, beside, block_at, edge, either, first_item, kinds, of_atom, of_block, shape_of, twice}
use Rattle.ml_word_automaton.proofs.MarkedStates.{inside}
use Rattle.ml_translate.specs.Translation.{props_of}
use Rattle.ml_translate.proofs.CubeWalks.{KnowsLiterals}

-- ---- names

-- all names in g are names in f
AreWithin : Formula → Formula → Type 0
AreWithin f g = (x : KindedName) → IsMember x (names g) → IsMember x (names f)

named_within : (i : ℕ) (f : Formula) (j : ℕ) (g : Formula) → StandsAt i f j g → AreWithin f g
unfolding AreWithin
named_within i f j g (here _ _ _ _ at is) = λ x m. subst (λ h. IsMember x (names h)) is m
named_within i _ j g (under_not _ f _ _ s) = named_within (i + 1) f j g s
named_within i _ j g (under_tense t _ f _ _ s) = named_within (i + 1) f j g s
named_within i _ j g (at_left op _ f k _ _ s) = λ x m. member-append_left x (names f) (names k) (named_within _ f j g s x m)
named_within i _ j g (at_right op _ f k _ _ s) = λ x m. member-append_right x (names f) (names k) (named_within _ k j g s x m)
named_within i _ j g (within.before p _ f k _ _ s) = λ x m. member-append_left x (names f) (names k) (named_within _ f j g s x m)
named_within i _ j g (within.behind p _ f k _ _ s) = λ x m. member-append_right x (names f) (names k) (named_within _ k j g s x m)

of_propositions : (p : List ℕ) (xs : List KindedName) → IsMember (Proposition, p) xs → IsMember p (of_kind Proposition xs)
of_propositions p [] m = absurd m
of_propositions p ((Proposition, q) ∷ xs) (inl same) = inl (ap (λ (x : KindedName). x.1) same)
of_propositions p ((Proposition, q) ∷ xs) (inr m) = inr (of_propositions p xs m)
of_propositions p ((Variable, q) ∷ xs) (inl same) =
    let wrong : Proposition ≡ Variable = ap (λ (x : KindedName). x.0) same in absurd (cc)
of_propositions p ((Variable, q) ∷ xs) (inr m) = of_propositions p xs m
of_propositions p ((Action, q) ∷ xs) (inl same) =
    let wrong : Proposition ≡ Action = ap (λ (x : KindedName). x.0) same in absurd (cc)
of_propositions p ((Action, q) ∷ xs) (inr m) = of_propositions p xs m

-- a proposition of the formula has a place among its propositions
listed : (f : Formula) (p : List ℕ) → IsMember (Proposition, p) (names f) → (i : ℕ) × (slice_get (props_of f) i ≡ Some p)
listed f p m =
    let ps = of_kind Proposition (names f) in
    let found = place_found (props_of f) p (all_among ps p (added_names [] ps) (of_propositions p (names f) m)) in
    (place_of (props_of f) p, slice_get-get_or (props_of f) (place_of (props_of f) p) [] found.below ∙ ap Some found.named)
  where
    all_among : (qs : List (List ℕ)) (q : List ℕ)
        → AllByRecursion (λ r. is_among (props_of f) r ≡ true) qs
        → IsMember q qs
        → is_among (props_of f) q ≡ true
    all_among [] q all m = absurd m
    all_among (r ∷ qs) q all (inl same) = ap (is_among (props_of f)) same ∙ all.0
    all_among (r ∷ qs) q all (inr m) = all_among qs q all.1 m

-- ---- what is reached

module _ (f : Formula) (sign : Bool) (linear : is_linear f ≡ true) where
  abbrev first : Item
  first = first_item f sign

  abbrev at : List Item → ℕ → Place
  at xs k = block_at f sign xs k

  -- ---- by numbers

  module _ (g : Graph) (places : List Place) (N : IsNumberedBy forms g (at (first ∷ []) 0) places) where
    -- no block is a literal
    no_literal : (v : Node) (form : Form) (k : ℕ) (b : Bool) → Shape f sign form → HasForm g places v form → v ≡ node.Lit k b → ⊥
    no_literal v form k b (edge zs j of e) h t =
        let h2 = subst (HasForm g places v) e h in let wrong = sym t ∙ h2.3 in absurd (cc)
    no_literal v form k b (beside i h' c zs j atom stands of e) h t =
        let h2 = subst (HasForm g places v) e h in let wrong = sym t ∙ h2.4 in absurd (cc)
    no_literal v form k b (twice zs j of e) h t =
        let h2 = subst (HasForm g places v) e h in let wrong = sym t ∙ h2.4 in absurd (cc)
    no_literal v form k b (either ys zs j of_ys of_zs e) h t =
        let h2 = subst (HasForm g places v) e h in let wrong = sym t ∙ h2.4 in absurd (cc)

    no_constant : (v : Node) (c : Bool) (k : ℕ) (b : Bool) → v ≡ constant c → v ≡ node.Lit k b → ⊥
    no_constant v true k b e t = let wrong = sym t ∙ e in absurd (cc)
    no_constant v false k b e t = let wrong = sym t ∙ e in absurd (cc)

    atom_named : (v : Node) (n : ℕ) (h : Formula) (c : Bool) (k : ℕ) (b : Bool)
        → IsAtom h
        → AreWithin f h
        → HasForm g places v (form_of (Holding n h c))
        → v ≡ node.Lit k b
        → IsMember (Proposition, prop_at g k) (names f)
    unfolding AreWithin
    atom_named v n h c k b (inl (d, is)) named form t =
        absurd (no_constant v (beq d c) k b (subst (λ x. HasForm g places v (form_of (Holding n x c))) is form) t)
    atom_named v n h c k b (inr (name, is)) named form t =
        let lit = subst (λ x. HasForm g places v (form_of (Holding n x c))) is form in
        let e : node.Lit k b ≡ node.Lit lit.0 c = sym t ∙ lit.1 in
        let same : k ≡ lit.0 = cc in
        let is_name : prop_at g k ≡ name = ap (prop_at g) same ∙ lit.2 in
        subst (λ q. IsMember (Proposition, q) (names f)) (sym is_name)
        (named (Proposition, name) (subst (λ x. IsMember (Proposition, name) (names x)) (sym is) (inl refl)))

    literal_named : (n k : ℕ) (b : Bool) → node_at g n ≡ node.Lit k b → IsMember (Proposition, prop_at g k) (names f)
    literal_named n k b t = by_kind known.0 known.1 (kinds f sign linear known.0 (((N.is_closure).are_reached known.0).0 (member_of_get places n known.0 known.1)))
      where
        low : n < size g
        low = inside g n (λ is. let wrong = sym t ∙ is in absurd (cc))

        known : (p : Place) × IsNumberOf places n p
        known = let many = N.one_each in let below = low in some_entry places n (omega arith)

        by_kind : (p : Place) → IsNumberOf places n p → Kind f sign p → IsMember (Proposition, prop_at g k) (names f)
        by_kind p e (of_block [] j of is) =
            absurd (no_constant (node_at g n) true k b
            (subst (λ x. HasForm g places (node_at g n) (form_of x)) is (N.has_forms n p e)) t)
        by_kind p e (of_block (y ∷ ys) j of is) =
            absurd (no_literal (node_at g n) (form_of (at (y ∷ ys) j)) k b (shape_of f sign linear y ys j of)
            (subst (λ x. HasForm g places (node_at g n) (form_of x)) is (N.has_forms n p e)) t)
        by_kind p e (of_atom i h c atom stands is) =
            atom_named (node_at g n) i h c k b atom (named_within 0 f i h stands)
            (subst (λ x. HasForm g places (node_at g n) (form_of x)) is (N.has_forms n p e)) t

pub known_literals : (f : Formula) (negated : Bool) (g : Graph)
    → is_linear f ≡ true
    → IsBlockGraph g f negated
    → KnowsLiterals g (props_of f)
known_literals f negated g linear is n k b t =
    listed f (prop_at g k)
    (literal_named f (not negated) linear g (is.is_numbered).0 (is.is_numbered).1 n k b t)
