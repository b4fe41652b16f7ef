-- What is made of a formula is its graph.
--
--   reached_key            == what is reached by keys is reached
--   are_inside, all_length, as_many_ranks == what is reached is laid out, with a priority each
--   few_nodes              == no more nodes are reached than are laid out
--   graph_made             == the nodes that are reached, by their numbers, make the graph of the formula
use Rattle.std.proofs.Common.{◌≡◌, ℕ, zero, suc, ◌+◌, ◌*◌, ◌<◌, ◌≤◌, Bool, true, false, List, [], ◌∷◌, map, length, get_or, codes, bytes_eq}
use Rattle.std.proofs.Common.{inl, inr, refl, sym, ap, subst, ◌∙◌, ⊎_elim, arith}
use Rattle.std.specs.List.{IsDistinct}
use Rattle.std.proofs.lemmas.Bool.{cases_lt}
use Rattle.std.proofs.lemmas.List.{length-map, get_or-map}
use Rattle.ml_lists.specs.Member.{IsMember}
use Rattle.ml_graph.specs.declared.node.Node.{Node}
use Rattle.ml_graph.specs.declared.node.Node.TheVariants as node
use Rattle.ml_text.specs.Names.{Proposition, of_kind}
use Rattle.ml_text.proofs.NameLists.{distinct_names, place_found}
use Rattle.ml_text.proofs.Names.{kind_among}
use Rattle.ml_nodes.specs.NumberedValues as numbered
use Rattle.ml_nodes.specs.NumberedValues.{children_of}
use Rattle.ml_nodes.proofs.InRange.{none_twice}
use Rattle.ml_nodes.proofs.NumberedClosures.{HasName, IsViewed, closed_draft, form_view}
use Rattle.ml_ctl.specs.FormulaNames as formula
use Rattle.ml_ctl.specs.Formula.{Formula, occurrences}
use Rattle.ml_word_graph.specs.WordGraph.{Place, Form, Root, Total, HasEdge, LeadsOn, True, Constant, Literal, And, Or, Diamond, Square, IsReached, at_root, behind, IsGraphOf}
use Rattle.ml_word_graph.specs.WordGraph.{children, form_of, forms, priority_of, start_of}
use Rattle.ml_nodes.specs.PathNames.{props_onto}
use Rattle.ml_word_graph.specs.private.Layout as layout
use Rattle.ml_word_graph.specs.private.Layout.{key, made, node_of}
use Rattle.ml_word_graph.specs.private.Reached as listed
use Rattle.ml_word_graph.specs.private.Reached.{AreInside, IsReachedIn, IsTrimmed, form_in, node_in, rank_in}
use Rattle.ml_word_graph.proofs.Laid.{all_found, all_places, nodes_are, places_length, priorities_are}
use Rattle.ml_word_graph.proofs.NamedNodes.{AreAmong, IsAmong, IsNamed, reached_named}
use Rattle.ml_word_graph.proofs.Sizes.{reached_in}

-- the numbers to which a node leads are the keys of the children of its form
row_child : (ps : List (List ℕ)) (f : Form) (k : ℕ) → IsMember k (children_of (listed.form_of (node_of ps f))) → (c : Place) × IsMember c (children f) × (k ≡ key c)
row_child ps (Constant true) k none = absurd none
row_child ps (Constant false) k none = absurd none
row_child ps (Literal p sign) k none = absurd none
row_child ps (And l r) k (inl same) = (l, inl refl, same)
row_child ps (And l r) k (inr (inl same)) = (r, inr (inl refl), same)
row_child ps (And l r) k (inr (inr none)) = absurd none
row_child ps (Or l r) k (inl same) = (l, inl refl, same)
row_child ps (Or l r) k (inr (inl same)) = (r, inr (inl refl), same)
row_child ps (Or l r) k (inr (inr none)) = absurd none
row_child ps (Diamond p) k (inl same) = (p, inl refl, same)
row_child ps (Diamond p) k (inr none) = absurd none
row_child ps (Square p) k (inl same) = (p, inl refl, same)
row_child ps (Square p) k (inr none) = absurd none

get_made : (ps : List (List ℕ)) (P : List Place) (k : ℕ) → get_or (map (made ps) P) k node.True ≡ made ps (get_or P k True)
get_made ps [] k = refl
get_made ps (p ∷ P) zero = refl
get_made ps (p ∷ P) (suc k) = get_made ps P k

beyond : (P : List Place) (k : ℕ) → length P ≤ k → get_or P k True ≡ True
beyond [] k past = refl
beyond (p ∷ P) zero past = absurd (omega (arith, past))
beyond (p ∷ P) (suc k) past = beyond P k (omega (arith, past))

module _ (f : Formula) (negated : Bool) (ps : List (List ℕ)) where
  abbrev root : Place
  root = Root (start_of f negated)

  abbrev all : List Node
  all = layout.all_nodes ps f negated

  abbrev P : List Place
  P = all_places f negated

  abbrev place : ℕ → Place
  place k = get_or P k True

  all_are : all ≡ map (made ps) P
  all_are =
      ap (λ ws. made ps root ∷ made ps Total ∷ made ps HasEdge ∷ made ps LeadsOn ∷ made ps True ∷ ws) (nodes_are ps 0 f)

  node_at_key : (k : ℕ) → node_in all k ≡ made ps (place k)
  node_at_key k = ap (λ vs. get_or vs k node.True) all_are ∙ get_made ps P k

  -- the key of a node that is reached
  place_of_key : (p : Place) → IsReached root p → place (key p) ≡ p
  place_of_key p reached = all_found f negated p (reached_in f negated p reached)

  pub record IsKey (k : ℕ) : Type 0 where
    pub reached : IsReached root (place k)
    pub same : key (place k) ≡ k

  from_child : (j k : ℕ) → IsKey j → (c : Place) × IsMember c (children (form_of (place j))) × (k ≡ key c) → IsKey k
  from_child j k here (c, child, same) =
      let c_reached = behind (place j) c here.reached child in
      let is : place k ≡ c = ap place same ∙ place_of_key c c_reached in
      record { reached = subst (IsReached root) (sym is) c_reached; same = ap key is ∙ sym same }

  pub reached_key : (k : ℕ) → IsReachedIn all k → IsKey k
  reached_key k numbered.at_root = record { reached = at_root; same = refl }
  reached_key k (numbered.behind j _ reached m) =
      from_child j k (reached_key j reached) (row_child ps (form_of (place j)) k (subst (λ v. IsMember k (children_of (listed.form_of v))) (node_at_key j) m))

  long_places : length P ≡ 5 + 6 * occurrences f
  long_places = omega (arith, places_length 0 f)

  pub all_length : length all ≡ 5 + 6 * occurrences f
  all_length = ap length all_are ∙ length-map P (made ps) ∙ long_places

  abbrev ranks : List ℕ
  ranks = layout.all_priorities f

  ranks_are : ranks ≡ map priority_of P
  ranks_are = ap (λ ws. 2 ∷ 2 ∷ 2 ∷ 2 ∷ 2 ∷ ws) (priorities_are 0 f)

  pub as_many_ranks : length ranks ≡ length all
  as_many_ranks = ap length ranks_are ∙ length-map P priority_of ∙ long_places ∙ sym all_length

  key_low : (k : ℕ) → IsKey k → k < length P
  key_low k here =
      ⊎_elim (λ (low : k < length P). low)
      (λ (past : length P ≤ k).
      let four : 4 ≡ k = ap key (sym (beyond P k past)) ∙ here.same in
      absurd (omega (arith, four, past, long_places)))
      (cases_lt k (length P))

  pub are_inside : AreInside all
  are_inside k reached = omega (arith, key_low k (reached_key k reached), all_length, long_places)

  rank_at : (k : ℕ) → IsKey k → get_or ranks k 0 ≡ priority_of (place k)
  rank_at k here = ap (λ us. get_or us k 0) ranks_are ∙ get_or-map priority_of P k True 0 (key_low k here)

  -- ---- keys stand for the nodes of the closure

  form_is : (F : Form)
      → ((c : Place) → IsMember c (children F) → place (key c) ≡ c)
      → IsNamed (IsAmong ps) F
      → form_view ps place (listed.form_of (node_of ps F)) ≡ F
  form_is (Constant true) keyed named = refl
  form_is (Constant false) keyed named = refl
  form_is (Literal p sign) keyed named = ap (λ n. Literal n sign) (place_found ps p named).named
  form_is (And l r) keyed named =
      let left = keyed l (inl refl) in
      let right = keyed r (inr (inl refl)) in
      λ i. And (left i) (right i)
  form_is (Or l r) keyed named =
      let left = keyed l (inl refl) in
      let right = keyed r (inr (inl refl)) in
      λ i. Or (left i) (right i)
  form_is (Diamond p) keyed named = ap Diamond (keyed p (inl refl))
  form_is (Square p) keyed named = ap Square (keyed p (inl refl))

  has_name : (F : Form) → IsNamed (IsAmong ps) F → HasName ps (listed.form_of (node_of ps F))
  has_name (Constant true) named = tt
  has_name (Constant false) named = tt
  has_name (Literal p sign) named = (place_found ps p named).below
  has_name (And l r) named = tt
  has_name (Or l r) named = tt
  has_name (Diamond p) named = tt
  has_name (Square p) named = tt

  module _ (among : AreAmong ps f) where
    named_key : (k : ℕ) → IsKey k → IsNamed (IsAmong ps) (form_of (place k))
    named_key k here = reached_named (IsAmong ps) root (place k) among here.reached

    viewed : IsViewed forms ps (form_in all) (rank_in ranks) 0 place
    viewed = record {
      once = λ j k met_j met_k same. sym (reached_key j met_j).same ∙ ap key same ∙ (reached_key k met_k).same;
      is_form = λ k met.
          let here = reached_key k met in
          ap (λ v. form_view ps place (listed.form_of v)) (node_at_key k)
          ∙ form_is (form_of (place k)) (λ c child. place_of_key c (behind (place k) c here.reached child)) (named_key k here);
      is_priority = λ k met. rank_at k (reached_key k met);
      is_named = λ k met.
          subst (λ v. HasName ps (listed.form_of v)) (sym (node_at_key k))
          (has_name (form_of (place k)) (named_key k (reached_key k met)));
    }

  pub few_nodes : (vs : List Node) (qs : List ℕ) → IsTrimmed all ranks vs qs → length vs ≤ 5 + 6 * occurrences f
  few_nodes vs qs t = let few = t.draft.few in omega (arith, t.whole, few, all_length)

  trimmed_graph : (vs : List Node) (qs : List ℕ) → IsTrimmed all ranks vs qs → AreAmong ps f → IsDistinct bytes_eq ps
      → IsGraphOf (record { nodes = vs; priorities = qs; root = 0; props = ps; actions = codes "_" ∷ [] }) f negated
  trimmed_graph vs qs t among distinct =
      closed_draft forms ps (form_in all) (rank_in ranks) 0 place (viewed among) (length all) t.values vs qs t.draft t.whole distinct

-- the nodes that are reached, by their numbers
pub graph_made : (f : Formula) (negated : Bool) (names actions : List (List ℕ)) (vs : List Node) (qs : List ℕ)
    → names ≡ props_onto f []
    → actions ≡ codes "_" ∷ []
    → IsTrimmed (layout.all_nodes names f negated) (layout.all_priorities f) vs qs
    → IsGraphOf (record { nodes = vs; priorities = qs; root = 0; props = names; actions = actions }) f negated
graph_made f negated names actions vs qs same blank t =
    subst (λ ws. IsGraphOf (record { nodes = vs; priorities = qs; root = 0; props = names; actions = ws }) f negated)
    (sym blank)
    (trimmed_graph f negated names vs qs t
    (kind_among Proposition (formula.names f) same)
    (subst (IsDistinct bytes_eq) (sym same) (distinct_names [] (of_kind Proposition (formula.names f)) none_twice)))
