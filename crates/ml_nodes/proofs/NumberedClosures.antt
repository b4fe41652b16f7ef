-- A draft in which a node was made of each value is the graph of a closure, where each value by which it was made stands for
-- one of the closure's values.
--
--   form_view ns view f == the form that is meant by f, with these names of propositions
--   HasName ns f        == the proposition of f, if it has one, is among these names
--   IsViewed            == each value that is met stands for one of its own, of its form and priority, by names that there are
--   met_reached         == what is met stands for what is reached
--   too_large           == where more values are met more are reached
--   graph               == the graph of a draft, with the action `_`
--   closed_draft        == it is the graph of the closure
use Rattle.std.proofs.Common.{ℕ, ◌≡◌, ◌<◌, inl, inr, arith, true, false, List, [], ◌∷◌, length, map, get_or, Option, None, Some, codes, bytes_eq, All, refl, sym, ap, ◌∙◌, subst}
use Rattle.std.specs.List.{flat_map, range_with_len, slice_get, IsDistinct}
use Rattle.std.specs.Option.{option_map}
use Rattle.std.proofs.lemmas.List.{length-map}
use Rattle.std.proofs.lemmas.List.Elements.{All-append, All-nil}
use Rattle.std.proofs.lemmas.Option.{slice_get-map, slice_get_within, slice_get-get_or, same_Some}
use Rattle.ml_lists.specs.Added.{HasOnePlace}
use Rattle.ml_lists.specs.BreadthFirst.{IsBreadthFirst}
use Rattle.ml_lists.specs.InTurn.{RunsOn}
use Rattle.ml_lists.specs.Member.{IsMember}
use Rattle.ml_lists.proofs.Member.{Image, Place, member-map, member-map_from, member-place, member_of_get}
use Rattle.ml_lists.proofs.RowsInTurn.{AreFromEarlier, turns_in_order}
use Rattle.ml_graph.proofs.Places.{one_name}
use Rattle.ml_graph.specs.Graph.{Graph, IsGraph, Reference, references_of}
use Rattle.ml_graph.specs.declared.node.Node.{Node}
use Rattle.ml_graph.specs.declared.node.Node.TheVariants as node
use Rattle.ml_nodes.specs.ClosureGraph as closure
use Rattle.ml_nodes.specs.ClosureGraph.{Forms, HasForm, HasMoreThan, IsGraphFrom, IsNumberedBy, IsReached, children, row_of}
use Rattle.ml_nodes.specs.NumberedValues.{HasFormIn, IsDraft, IsMet, IsTooLarge, at_root, behind, children_of}
use Rattle.ml_nodes.specs.declared.numbering.Form.{Form}
use Rattle.ml_nodes.specs.declared.numbering.Form.TheVariants as form
use Rattle.ml_nodes.proofs.InRange.{IsInRange, all_in_range, one, two}

abbrev pub form_view : {X P : Type 0} → List (List ℕ) → (X → P) → Form X → closure.Form P
form_view names view (form.Constant b) = closure.Constant b
form_view names view (form.Literal p b) = closure.Literal (get_or names p []) b
form_view names view (form.Two true l r) = closure.And (view l) (view r)
form_view names view (form.Two false l r) = closure.Or (view l) (view r)
form_view names view (form.Twice true x) = closure.And (view x) (view x)
form_view names view (form.Twice false x) = closure.Or (view x) (view x)
form_view names view (form.Edge true x) = closure.Diamond (view x)
form_view names view (form.Edge false x) = closure.Square (view x)

abbrev pub HasName : {X : Type 0} → List (List ℕ) → Form X → Type 0
HasName names (form.Literal p b) = p < length names
HasName names f = Unit {0}

pub record IsViewed {X P : Type 0} (C : Forms P) (names : List (List ℕ)) (F : X → Form X) (K : X → ℕ) (root : X)
    (view : X → P) : Type 0 where
  pub once : (x y : X) → IsMet F root x → IsMet F root y → view x ≡ view y → x ≡ y
  pub is_form : (x : X) → IsMet F root x → form_view names view (F x) ≡ C.form_of (view x)
  pub is_priority : (x : X) → IsMet F root x → K x ≡ C.priority_of (view x)
  pub is_named : (x : X) → IsMet F root x → HasName names (F x)

-- a child has a number
child_inside : {P : Type 0} (g : Graph) (ps : List P) (v : Node) (f : closure.Form P) (p : P)
    → HasForm g ps v f
    → IsMember p (children f)
    → IsMember p ps
child_inside g ps v (closure.Constant b) p has none = absurd none
child_inside g ps v (closure.Literal name sign) p has none = absurd none
child_inside g ps v (closure.And l r) p has (inl e) = subst (λ q. IsMember q ps) (sym e) (member_of_get ps has.0 l has.2)
child_inside g ps v (closure.And l r) p has (inr (inl e)) =
    subst (λ q. IsMember q ps) (sym e) (member_of_get ps has.1 r has.3)
child_inside g ps v (closure.And l r) p has (inr (inr none)) = absurd none
child_inside g ps v (closure.Or l r) p has (inl e) = subst (λ q. IsMember q ps) (sym e) (member_of_get ps has.0 l has.2)
child_inside g ps v (closure.Or l r) p has (inr (inl e)) =
    subst (λ q. IsMember q ps) (sym e) (member_of_get ps has.1 r has.3)
child_inside g ps v (closure.Or l r) p has (inr (inr none)) = absurd none
child_inside g ps v (closure.Diamond q) p has (inl e) = subst (λ q. IsMember q ps) (sym e) (member_of_get ps has.1 q has.2)
child_inside g ps v (closure.Diamond q) p has (inr none) = absurd none
child_inside g ps v (closure.Square q) p has (inl e) = subst (λ q. IsMember q ps) (sym e) (member_of_get ps has.1 q has.2)
child_inside g ps v (closure.Square q) p has (inr none) = absurd none

from_map : {X Y : Type 0} → (h : X → Y) (o : Option X) (y : Y) → option_map h o ≡ Some y → (x : X) × (o ≡ Some x) × (h x ≡ y)
from_map h None y e = absurd (cc)
from_map h (Some x) y e = (x, refl, (let same : h x ≡ y = cc in same))

module _ {X P : Type 0} (names : List (List ℕ)) (view : X → P) where
  value_at : (xs : List X) (n : ℕ) (p : P)
      → slice_get (map view xs) n ≡ Some p
      → (x : X) × (slice_get xs n ≡ Some x) × (view x ≡ p)
  value_at xs n p at = from_map view (slice_get xs n) p (sym (slice_get-map view xs n) ∙ at)

  view_at : (xs : List X) (n : ℕ) (x : X) → slice_get xs n ≡ Some x → slice_get (map view xs) n ≡ Some (view x)
  view_at xs n x at = slice_get-map view xs n ∙ ap (option_map view) at

  child_view : (f : Form X) (x : X) → IsMember x (children_of f) → IsMember (view x) (children (form_view names view f))
  child_view (form.Constant b) x none = absurd none
  child_view (form.Literal p b) x none = absurd none
  child_view (form.Two true l r) x (inl e) = inl (ap view e)
  child_view (form.Two true l r) x (inr (inl e)) = inr (inl (ap view e))
  child_view (form.Two true l r) x (inr (inr none)) = absurd none
  child_view (form.Two false l r) x (inl e) = inl (ap view e)
  child_view (form.Two false l r) x (inr (inl e)) = inr (inl (ap view e))
  child_view (form.Two false l r) x (inr (inr none)) = absurd none
  child_view (form.Twice true y) x (inl e) = inl (ap view e)
  child_view (form.Twice true y) x (inr none) = absurd none
  child_view (form.Twice false y) x (inl e) = inl (ap view e)
  child_view (form.Twice false y) x (inr none) = absurd none
  child_view (form.Edge true y) x (inl e) = inl (ap view e)
  child_view (form.Edge true y) x (inr none) = absurd none
  child_view (form.Edge false y) x (inl e) = inl (ap view e)
  child_view (form.Edge false y) x (inr none) = absurd none

module _ {X P : Type 0} (C : Forms P) (names : List (List ℕ)) (F : X → Form X) (K : X → ℕ) (root : X) (view : X → P)
    (V : IsViewed C names F K root view) where
  abbrev Met : X → Type 0
  Met = IsMet F root

  pub met_reached : (x : X) → Met x → IsReached C (view root) (view x)
  met_reached _ at_root = closure.at_root
  met_reached x (behind y _ met m) =
      closure.behind (view y) (view x) (met_reached y met)
      (subst (λ f. IsMember (view x) (children f)) (V.is_form y met) (child_view names view (F y) x m))

  -- lists of values that are met, each once
  module _ (xs : List X) (once : HasOnePlace xs) (are_met : (n : ℕ) (x : X) → slice_get xs n ≡ Some x → Met x) where
    views_once : (i j : ℕ) (p : P) → slice_get (map view xs) i ≡ Some p → slice_get (map view xs) j ≡ Some p → i ≡ j
    views_once i j p at_i at_j =
        let x = value_at names view xs i p at_i in
        let y = value_at names view xs j p at_j in
        let same = V.once y.0 x.0 (are_met j y.0 y.1) (are_met i x.0 x.1) (y.2 ∙ sym x.2) in
        once i j x.0 x.1 (y.1 ∙ ap Some same)

    views_reached : (p : P) → IsMember p (map view xs) → IsReached C (view root) p
    views_reached p m = of_image (member-map_from view p xs m)
      where
        of_image : Image view p xs → IsReached C (view root) p
        of_image i =
            let seat = member-place i.from xs i.member in
            let met =
            are_met seat.place i.from (slice_get-get_or xs seat.place i.from seat.below ∙ ap Some (seat.holds i.from)) in
            subst (IsReached C (view root)) (sym i.holds) (met_reached i.from met)

  pub too_large : (max : ℕ) → IsTooLarge F root max → HasMoreThan C (view root) max
  too_large max large = record {
    places = map view large.values;
    once = views_once large.values large.once large.are_met;
    are_reached = views_reached large.values large.once large.are_met;
    is_longer = let l = length-map large.values view in let more = large.more in omega (arith, l, more);
  }

  module _ (max : ℕ) (xs : List X) (vs : List Node) (ps : List ℕ) (D : IsDraft F K root max xs vs ps)
      (whole : length vs ≡ length xs) where
    abbrev pub graph : Graph
    graph = record { nodes = vs; priorities = ps; root = 0; props = names; actions = codes "_" ∷ [] }

    abbrev numbers : List P
    numbers = map view xs

    has_view : (v : Node) (f : Form X) → HasFormIn xs v f → HasForm graph numbers v (form_view names view f)
    has_view v (form.Constant true) has = has
    has_view v (form.Constant false) has = has
    has_view v (form.Literal p b) has = (p, has, refl)
    has_view v (form.Two true l r) (i, j, at_i, at_j, is) =
        (i, j, view_at names view xs i l at_i, view_at names view xs j r at_j, is)
    has_view v (form.Two false l r) (i, j, at_i, at_j, is) =
        (i, j, view_at names view xs i l at_i, view_at names view xs j r at_j, is)
    has_view v (form.Twice true x) (i, at, is) = (i, i, view_at names view xs i x at, view_at names view xs i x at, is)
    has_view v (form.Twice false x) (i, at, is) = (i, i, view_at names view xs i x at, view_at names view xs i x at, is)
    has_view v (form.Edge true x) (i, at, is) = (0, i, view_at names view xs i x at, is, refl)
    has_view v (form.Edge false x) (i, at, is) = (0, i, view_at names view xs i x at, is, refl)

    -- what was made of the value with a number
    record Made (n : ℕ) (p : P) : Type 0 where
      has_form : HasForm graph numbers (get_or vs n node.True) (C.form_of p)
      has_priority : get_or ps n 0 ≡ C.priority_of p

    made_of : (n : ℕ) → n < length vs → (x : X) → slice_get xs n ≡ Some x → Made n (view x)
    made_of n low x at =
        let m = D.made n low in
        let met = D.are_met n m.value m.at in
        let same : m.value ≡ x = same_Some m.value x (sym m.at ∙ at) in
        subst (λ y. Made n (view y)) same (record {
          has_form =
              subst (HasForm graph numbers (get_or vs n node.True)) (V.is_form m.value met)
              (has_view (get_or vs n node.True) (F m.value) m.has_form);
          has_priority = m.priority ∙ V.is_priority m.value met;
        })

    made_at : (n : ℕ) (p : P) → slice_get numbers n ≡ Some p → Made n p
    made_at n p at =
        let x = value_at names view xs n p at in
        let low : n < length vs = omega (arith, whole, slice_get_within xs n x.0 x.1) in
        subst (Made n) x.2 (made_of n low x.0 x.1)

    inside : (p : P) → IsReached C (view root) p → IsMember p numbers
    inside _ closure.at_root = member-map view root xs (member_of_get xs 0 root D.begins)
    inside p (closure.behind q _ reached m) = from (member-place q numbers (inside q reached))
      where
        from : (seat : Place q numbers) → IsMember p numbers
        from seat =
            let at : slice_get numbers seat.place ≡ Some q =
            slice_get-get_or numbers seat.place q seat.below ∙ ap Some (seat.holds q) in
            child_inside graph numbers (get_or vs seat.place node.True) (C.form_of q) p (made_at seat.place q at).has_form m

    abbrev rows : List (List ℕ)
    rows = map row_of vs

    order : IsBreadthFirst 0 rows (range_with_len 0 (length vs))
    order =
        turns_in_order rows (length vs) (length-map vs row_of)
        (subst (RunsOn 0 (0 ∷ flat_map (λ r. r) rows)) (sym whole) D.runs_on)
        (subst (AreFromEarlier rows) (sym whole) D.from_earlier)

    numbered : IsNumberedBy C graph (view root) numbers
    numbered = record {
      is_closure = record {
        once = views_once xs D.once D.are_met;
        are_reached = λ p. (views_reached xs D.once D.are_met p, inside p);
      };
      one_each = whole ∙ sym (length-map xs view);
      has_forms = λ n p at. (made_at n p at).has_form;
      has_priorities = λ n p at. (made_at n p at).has_priority;
      root_is = view_at names view xs 0 root D.begins;
      is_first = refl;
      breadth_first = order;
    }

    -- ---- all numbers are in range

    abbrev refs : Node → List Reference
    refs = references_of (length vs) (length names) 1

    within : (n : ℕ) (x : X) → slice_get xs n ≡ Some x → n < length vs
    within n x at = omega (arith, whole, slice_get_within xs n x at)

    abbrev Fits : Node → Type 0
    Fits v = All IsInRange (refs v)

    form_in_range : (v : Node) (f : Form X) → HasName names f → HasFormIn xs v f → Fits v
    form_in_range v (form.Constant true) named has = subst Fits (sym has) (All-nil IsInRange)
    form_in_range v (form.Constant false) named has = subst Fits (sym has) (All-nil IsInRange)
    form_in_range v (form.Literal p b) named has = subst Fits (sym has) (one p (length names) named)
    form_in_range v (form.Two true l r) named (i, j, at_i, at_j, is) =
        subst Fits (sym is) (two i (length vs) j (length vs) (within i l at_i) (within j r at_j))
    form_in_range v (form.Two false l r) named (i, j, at_i, at_j, is) =
        subst Fits (sym is) (two i (length vs) j (length vs) (within i l at_i) (within j r at_j))
    form_in_range v (form.Twice true x) named (i, at, is) =
        subst Fits (sym is) (two i (length vs) i (length vs) (within i x at) (within i x at))
    form_in_range v (form.Twice false x) named (i, at, is) =
        subst Fits (sym is) (two i (length vs) i (length vs) (within i x at) (within i x at))
    form_in_range v (form.Edge true x) named (i, at, is) =
        subst Fits (sym is) (two 0 1 i (length vs) (omega arith) (within i x at))
    form_in_range v (form.Edge false x) named (i, at, is) =
        subst Fits (sym is) (two 0 1 i (length vs) (omega arith) (within i x at))

    made_graph : IsDistinct bytes_eq names → IsGraph graph
    made_graph distinct = record {
      priorities = D.as_many;
      in_range =
          All-append IsInRange (flat_map refs vs) (record { number = 0; bound = length vs } ∷ [])
          (all_in_range refs vs (λ n low.
          let m = D.made n low in
          form_in_range (get_or vs n node.True) (F m.value) (V.is_named m.value (D.are_met n m.value m.at)) m.has_form))
          (one 0 (length vs) (within 0 root D.begins));
      props_differ = distinct;
      actions_differ = one_name (codes "_");
    }

    pub closed_draft : IsDistinct bytes_eq names → IsGraphFrom C graph (view root)
    closed_draft distinct = record { is_graph = made_graph distinct; is_numbered = (numbers, numbered) }
