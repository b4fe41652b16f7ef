-- The graph of a list of values, to which all values belong that are reached: each as the node of its form, with the
-- numbers of its children. A test `eq` tells equal values.
--
--   leads F p         == the values to which p leads
--   named f           == the name in a form
--   names_of F ps     == the names in the forms of these values, each once
--   node_of F eq ps f == the node of a graph that has the form f
--   made_of F eq ps   == the graph of these values
--   is_numbered       == the values that a search met are numbered by it
--   is_graph          == and it is a graph
use Rattle.std.proofs.Common.{ℕ, ◌≡◌, ◌<◌, ◌⊎◌, inl, inr, arith, Bool, true, false, All, List, [], ◌∷◌, ◌++◌, length}
use Rattle.std.proofs.Common.{map, get_or, Some, codes, bytes_eq, refl, sym, ap, ◌∙◌, subst, append-nil}
use Rattle.std.specs.Bool.{Decides}
use Rattle.std.specs.List.{IsDistinct, AllByRecursion, flat_map, range_with_len, slice_get}
use Rattle.std.specs.Option.{option_map}
use Rattle.std.proofs.lemmas.Bool.{cases_Bool}
use Rattle.std.proofs.lemmas.List.{length-map, map-append}
use Rattle.std.proofs.lemmas.List.FromFn.{get_or-range_with_len, length-range_with_len}
use Rattle.std.proofs.lemmas.Option.{slice_get-map, slice_get-get_or, get_or_from_slice_get}
use Rattle.std.proofs.lemmas.Slice.Eq.{bytes_eq-Decides}
use Rattle.ml_lists.specs.BreadthFirst.{each_once}
use Rattle.ml_lists.specs.Member.{IsMember}
use Rattle.ml_lists.proofs.Member.{InList, Image, member-All, member-append, member-flat_map, member-flat_map_from, member-map, member-map_from}
use Rattle.ml_graph.specs.Graph.{Graph, IsGraph, Reference, references_of, references, size, node_at, priority_at}
use Rattle.ml_graph.specs.declared.node.Node.{Node}
use Rattle.ml_graph.specs.declared.node.Node.TheVariants as node
use Rattle.ml_nodes.specs.Nodes.{constant}
use Rattle.ml_nodes.specs.ClosureGraph.{Form, Forms, Constant, Literal, And, Or, Diamond, Square}
use Rattle.ml_nodes.specs.ClosureGraph.{IsReached, at_root, behind, IsClosure, IsNumberedBy, HasForm, children, row_of}
use Rattle.ml_lists.proofs.BreadthFirstSearch.{FromEarlier, Looked, met}
use Rattle.ml_lists.proofs.FirstEntries.{AreApart, apart_places, firsts, firsts-apart, firsts-map, member-firsts, number, number_at, number_is, number_low, numbers_in_turn, one_number}
use Rattle.ml_lists.proofs.Member.{member_of_get}

abbrev pub leads : {P : Type 0} → Forms P → P → List P
leads F p = children (F.form_of p)

abbrev pub named : {P : Type 0} → Form P → List (List ℕ)
named (Literal name sign) = name ∷ []
named _ = []

abbrev pub named_at : {P : Type 0} → Forms P → P → List (List ℕ)
named_at F p = named (F.form_of p)

abbrev pub names_of : {P : Type 0} → Forms P → List P → List (List ℕ)
names_of F ps = firsts bytes_eq (flat_map (named_at F) ps)

abbrev pub node_of : {P : Type 0} → Forms P → (P → P → Bool) → List P → Form P → Node
node_of F eq ps (Constant b) = constant b
node_of F eq ps (Literal name sign) = node.Lit (number bytes_eq (names_of F ps) name) sign
node_of F eq ps (And l r) = node.And (number eq ps l) (number eq ps r)
node_of F eq ps (Or l r) = node.Or (number eq ps l) (number eq ps r)
node_of F eq ps (Diamond p) = node.Diamond 0 (number eq ps p)
node_of F eq ps (Square p) = node.Square 0 (number eq ps p)

abbrev pub node_at_value : {P : Type 0} → Forms P → (P → P → Bool) → List P → P → Node
node_at_value F eq ps p = node_of F eq ps (F.form_of p)

abbrev pub made_of : {P : Type 0} → Forms P → (P → P → Bool) → List P → Graph
made_of F eq ps = record {
  nodes = map (node_at_value F eq ps) ps;
  priorities = map F.priority_of ps;
  root = 0;
  props = names_of F ps;
  actions = codes "_" ∷ [];
}

-- different names, by the test of names
distinct : (xs : List (List ℕ)) → AreApart xs → IsDistinct bytes_eq xs
unfolding IsDistinct
distinct [] apart = tt
distinct (x ∷ xs) apart = (others xs apart.0, distinct xs apart.1)
  where
    by_test : (y : List ℕ) → (x ≡ y → ⊥) → (bytes_eq x y ≡ true) ⊎ (bytes_eq x y ≡ false) → bytes_eq x y ≡ false
    by_test y differ (inl same) = absurd (differ ((bytes_eq-Decides x y).0 same))
    by_test y differ (inr is) = is

    others : (ys : List (List ℕ)) → (IsMember x ys → ⊥) → AllByRecursion (λ y. bytes_eq x y ≡ false) ys
    others [] apart = tt
    others (y ∷ ys) apart =
        (by_test y (λ e. apart (inl e)) (cases_Bool (bytes_eq x y)), others ys (λ m. apart (inr m)))

module _ {P : Type 0} (F : Forms P) (eq : P → P → Bool) (tells : (p q : P) → Decides (eq p q) (p ≡ q)) (root : P) (ps : List P)
    (whole : Looked eq (leads F) root (IsReached F root) ps []) where
  abbrev at : P → ℕ
  at p = number eq ps p

  abbrev g : Graph
  g = made_of F eq ps

  in_order : ps ≡ met eq (leads F) root ps
  in_order = sym (append-nil ps) ∙ whole.in_order

  apart : AreApart ps
  apart = subst AreApart (sym in_order) (firsts-apart eq tells (root ∷ flat_map (leads F) ps))

  starts : slice_get ps 0 ≡ Some root
  starts = ap (λ xs. slice_get xs 0) in_order

  met_member : (p : P) → IsMember p (root ∷ flat_map (leads F) ps) → IsMember p ps
  met_member p m =
      subst (IsMember p) (sym in_order) (member-firsts eq tells p (root ∷ flat_map (leads F) ps) m)

  child_listed : (p : P) → IsMember p ps → (q : P) → IsMember q (leads F p) → IsMember q ps
  child_listed p m q i = met_member q (inr (member-flat_map (leads F) p q ps m i))

  all_listed : (p : P) → IsReached F root p → IsMember p ps
  all_listed p at_root = met_member p (inl refl)
  all_listed p (behind q _ r i) = child_listed q (all_listed q r) p i

  is_closure : IsClosure F root ps
  is_closure = record { once = apart_places ps apart; are_reached = λ p. (whole.reached p, all_listed p) }

  name_listed : (p : P) → IsMember p ps → (name : List ℕ) → IsMember name (named_at F p) → IsMember name (names_of F ps)
  name_listed p m name i =
      member-firsts bytes_eq bytes_eq-Decides name (flat_map (named_at F) ps) (member-flat_map (named_at F) p name ps m i)

  -- ---- nodes

  is_at : (p : P) → IsMember p ps → slice_get ps (at p) ≡ Some p
  is_at p m = number_is eq tells ps p m

  form_made : (f : Form P)
      → ((q : P) → IsMember q (children f) → IsMember q ps)
      → ((name : List ℕ) → IsMember name (named f) → IsMember name (names_of F ps))
      → HasForm g ps (node_of F eq ps f) f
  form_made (Constant true) inside names = refl
  form_made (Constant false) inside names = refl
  form_made (Literal name sign) inside names = (
    number bytes_eq (names_of F ps) name,
    refl,
    get_or_from_slice_get (names_of F ps) (number bytes_eq (names_of F ps) name) name []
        (number_is bytes_eq bytes_eq-Decides (names_of F ps) name (names name (inl refl))),
  )
  form_made (And l r) inside names =
      (at l, at r, is_at l (inside l (inl refl)), is_at r (inside r (inr (inl refl))), refl)
  form_made (Or l r) inside names =
      (at l, at r, is_at l (inside l (inl refl)), is_at r (inside r (inr (inl refl))), refl)
  form_made (Diamond p) inside names = (0, at p, is_at p (inside p (inl refl)), refl, refl)
  form_made (Square p) inside names = (0, at p, is_at p (inside p (inl refl)), refl, refl)

  node_is : (n : ℕ) (p : P) → slice_get ps n ≡ Some p → node_at g n ≡ node_at_value F eq ps p
  node_is n p is =
      get_or_from_slice_get (map (node_at_value F eq ps) ps) n (node_at_value F eq ps p) node.True
      (slice_get-map (node_at_value F eq ps) ps n ∙ ap (option_map (node_at_value F eq ps)) is)

  has_form : (n : ℕ) (p : P) → slice_get ps n ≡ Some p → HasForm g ps (node_at g n) (F.form_of p)
  has_form n p is =
      let m = member_of_get ps n p is in
      subst (λ v. HasForm g ps v (F.form_of p)) (sym (node_is n p is))
      (form_made (F.form_of p) (child_listed p m) (name_listed p m))

  has_priority : (n : ℕ) (p : P) → slice_get ps n ≡ Some p → priority_at g n ≡ F.priority_of p
  has_priority n p is =
      get_or_from_slice_get (map F.priority_of ps) n (F.priority_of p) 0
      (slice_get-map F.priority_of ps n ∙ ap (option_map F.priority_of) is)

  -- ---- numbers in range

  abbrev IsLow : Reference → Type 0
  IsLow r = r.number < r.bound

  low_at : (n : ℕ) (p : P) → n ≡ length ps → IsMember p ps → at p < n
  low_at n p same m = let low = number_low eq tells ps p m in omega (arith, same, low)

  low_made : (n : ℕ) (f : Form P)
      → n ≡ length ps
      → ((q : P) → IsMember q (children f) → IsMember q ps)
      → ((name : List ℕ) → IsMember name (named f) → IsMember name (names_of F ps))
      → (r : Reference)
      → IsMember r (references_of n (length (names_of F ps)) 1 (node_of F eq ps f))
      → IsLow r
  low_made n (Constant true) same inside names r none = absurd none
  low_made n (Constant false) same inside names r none = absurd none
  low_made n (Literal name sign) same inside names r (inl e) =
      subst IsLow (sym e) (number_low bytes_eq bytes_eq-Decides (names_of F ps) name (names name (inl refl)))
  low_made n (Literal name sign) same inside names r (inr none) = absurd none
  low_made n (And p q) same inside names r (inl e) = subst IsLow (sym e) (low_at n p same (inside p (inl refl)))
  low_made n (And p q) same inside names r (inr (inl e)) =
      subst IsLow (sym e) (low_at n q same (inside q (inr (inl refl))))
  low_made n (And p q) same inside names r (inr (inr none)) = absurd none
  low_made n (Or p q) same inside names r (inl e) = subst IsLow (sym e) (low_at n p same (inside p (inl refl)))
  low_made n (Or p q) same inside names r (inr (inl e)) =
      subst IsLow (sym e) (low_at n q same (inside q (inr (inl refl))))
  low_made n (Or p q) same inside names r (inr (inr none)) = absurd none
  low_made n (Diamond p) same inside names r (inl e) = subst IsLow (sym e) (omega arith)
  low_made n (Diamond p) same inside names r (inr (inl e)) =
      subst IsLow (sym e) (low_at n p same (inside p (inl refl)))
  low_made n (Diamond p) same inside names r (inr (inr none)) = absurd none
  low_made n (Square p) same inside names r (inl e) = subst IsLow (sym e) (omega arith)
  low_made n (Square p) same inside names r (inr (inl e)) =
      subst IsLow (sym e) (low_at n p same (inside p (inl refl)))
  low_made n (Square p) same inside names r (inr (inr none)) = absurd none

  pub size_is : size g ≡ length ps
  size_is = length-map ps (node_at_value F eq ps)

  in_range : All IsLow (references g)
  in_range = member-All IsLow (references g) (λ r m. by_part r (member-append r (flat_map refs g.nodes) last m))
    where
      refs : Node → List Reference
      refs = references_of (size g) (length g.props) 1

      last : List Reference
      last = record { number = 0; bound = size g } ∷ []

      has_root : 0 < size g
      has_root = let low = low_at (size g) root size_is (met_member root (inl refl)) in omega (arith, low)

      of_node : (v : Node) (r : Reference) → IsMember r (refs v) → Image (node_at_value F eq ps) v ps → IsLow r
      of_node v r m from =
          low_made (size g) (F.form_of from.from) size_is (child_listed from.from from.member)
          (name_listed from.from from.member) r (subst (λ w. IsMember r (refs w)) from.holds m)

      by_part : (r : Reference) → IsMember r (flat_map refs g.nodes) ⊎ IsMember r last → IsLow r
      by_part r (inl m) =
          let i : InList refs r g.nodes = member-flat_map_from refs r g.nodes m in
          of_node i.from r i.inside (member-map_from (node_at_value F eq ps) i.from ps i.member)
      by_part r (inr (inl e)) = subst IsLow (sym e) has_root
      by_part r (inr (inr none)) = absurd none

  pub is_graph : IsGraph g
  unfolding IsDistinct
  is_graph = record {
    priorities = length-map ps F.priority_of ∙ sym size_is;
    in_range = in_range;
    props_differ = distinct (names_of F ps) (firsts-apart bytes_eq bytes_eq-Decides (flat_map (named_at F) ps));
    actions_differ = (tt, tt);
  }

  -- ---- breadth first

  row_made : (f : Form P) → row_of (node_of F eq ps f) ≡ map (number eq ps) (children f)
  row_made (Constant true) = refl
  row_made (Constant false) = refl
  row_made (Literal name sign) = refl
  row_made (And l r) = refl
  row_made (Or l r) = refl
  row_made (Diamond p) = refl
  row_made (Square p) = refl

  abbrev rows_of : List P → List (List ℕ)
  rows_of qs = map row_of (map (node_at_value F eq ps) qs)

  rows_made : (qs : List P) → flat_map (λ r. r) (rows_of qs) ≡ map (number eq ps) (flat_map (leads F) qs)
  rows_made [] = refl
  rows_made (q ∷ qs) =
      ap (λ r. r ++ flat_map (λ x. x) (rows_of qs)) (row_made (F.form_of q))
      ∙ ap (λ ns. map (number eq ps) (leads F q) ++ ns) (rows_made qs)
      ∙ sym (map-append (number eq ps) (leads F q) (flat_map (leads F) qs))

  in_turn : range_with_len 0 (size g) ≡ each_once (0 ∷ flat_map (λ r. r) (rows_of ps))
  in_turn =
      ap (range_with_len 0) size_is
      ∙ sym (numbers_in_turn eq tells ps root apart)
      ∙ ap (map (number eq ps)) in_order
      ∙ sym (firsts-map eq tells (number eq ps) (root ∷ flat_map (leads F) ps)
      (λ p q m i. one_number eq tells ps p q (met_member p m) (met_member q i)))
      ∙ ap (λ n. each_once (n ∷ map (number eq ps) (flat_map (leads F) ps)))
      (number_at eq tells ps apart 0 root starts)
      ∙ ap (λ ns. each_once (0 ∷ ns)) (sym (rows_made ps))

  abbrev IsLed : ℕ → Type 0
  IsLed k =
      (j : ℕ) × (j < k) × IsMember (get_or (range_with_len 0 (size g)) k 0) (get_or (rows_of ps) j [])

  is_led : (k : ℕ) → 0 < k → k < length (range_with_len 0 (size g)) → IsLed k
  is_led k some low = from (whole.from_earlier k p is)
    where
      within : k < length ps
      within = omega (arith, low, length-range_with_len 0 (size g), size_is)

      p : P
      p = get_or ps k root

      is : slice_get ps k ≡ Some p
      is = slice_get-get_or ps k root within

      its_number : get_or (range_with_len 0 (size g)) k 0 ≡ at p
      its_number =
          let place = get_or-range_with_len 0 (size g) k 0 (omega (arith, within, size_is)) in
          let number = number_at eq tells ps apart k p is in
          omega (arith, place, number)

      row_at : (j : ℕ) (q : P)
          → slice_get ps j ≡ Some q
          → get_or (rows_of ps) j [] ≡ map (number eq ps) (leads F q)
      row_at j q stands =
          get_or_from_slice_get (rows_of ps) j (row_of (node_at_value F eq ps q)) []
          (slice_get-map row_of (map (node_at_value F eq ps) ps) j
          ∙ ap (option_map row_of) (slice_get-map (node_at_value F eq ps) ps j ∙ ap (option_map (node_at_value F eq ps)) stands))
          ∙ row_made (F.form_of q)

      from : (p ≡ root) ⊎ FromEarlier (leads F) ps k p → IsLed k
      from (inl same) =
          let first = apart_places ps apart 0 k root starts (is ∙ ap Some same) in
          absurd (omega (arith, first, some))
      from (inr e) = (
        e.place,
        e.earlier,
        subst (λ n. IsMember n (get_or (rows_of ps) e.place [])) (sym its_number)
            (subst (IsMember (at p)) (sym (row_at e.place e.from e.stands))
            (member-map (number eq ps) p (leads F e.from) e.leads)),
      )

  pub is_numbered : IsNumberedBy F g root ps
  is_numbered = record {
    is_closure = is_closure;
    one_each = size_is;
    has_forms = has_form;
    has_priorities = has_priority;
    root_is = starts;
    is_first = refl;
    breadth_first = record {
      a_row_each = length-map (map (node_at_value F eq ps) ps) row_of ∙ sym (length-range_with_len 0 (size g));
      in_order = in_turn;
      from_earlier = is_led;
    };
  }
