-- Ordered lists make the structure that was asked for.
--
-- A section over what `build` knows when it puts the parts together: the labels ls and the edges es as given, the
-- same labels and edges in ascending order, and a row of labels for each state.
--
--   labels_below  == the states of the ascending labels are in range
--   structure_of  == the number of states, the rows and the ascending edges, as a structure
--   is_structure  == it is a structure
--   is_ordered    == it is in order
--   is_built      == it is built from what was given
use Rattle.std.proofs.Common.{◌≡◌, ◌↔◌, ℕ, ◌<◌, ◌≤◌, List, [], length, map, get_or, All, Contains, None, refl, sym, ap, subst, ◌∙◌, ⊎_elim, arith}
use Rattle.std.specs.List.{range_with_len}
use Rattle.std.specs.List.Sorted.{IsStrictlySortedBy}
use Rattle.std.specs.Ordering.{nat_cmp}
use Rattle.std.specs.Cmp.Lexicographic.{slice_cmp}
use Rattle.std.proofs.lemmas.Bool.{cases_lt}
use Rattle.std.proofs.lemmas.List.{get_or_past}
use Rattle.std.proofs.lemmas.List.Elements.{All-contains, All-map}
use Rattle.std.proofs.lemmas.List.FromFn.{length-map-range_with_len, get_or-map-range_with_len}
use Rattle.ml_base.specs.declared.structure.Edge.{Edge}
use Rattle.ml_base.specs.Structure.{Structure, IsStructure}
use Rattle.ml_kripke.specs.Ordered.{IsOrdered}
use Rattle.ml_kripke.specs.Built.{IsBuiltFrom, first_bad_state, labels_at}
use Rattle.ml_base.specs.EdgeOrder.{edge_cmp}
use Rattle.ml_lists.proofs.Members.{contains_none, All-of_members}
use Rattle.ml_kripke.proofs.Range.{all_in_range}
use Rattle.ml_kripke.proofs.RowOrder.{label_cmp, labels_at-ascends, labels_at-contains, labels_at-contained}

module _ (n : ℕ) (ls sorted_ls : List (ℕ × List ℕ)) (es sorted_es : List Edge)
    (none : first_bad_state n ls es ≡ None)
    (same_ls : (l : ℕ × List ℕ) → Contains sorted_ls l ↔ Contains ls l) where
  pub labels_below : All (λ l. l.0 < n) sorted_ls
  labels_below = All-of_members (λ (l : ℕ × List ℕ). l.0 < n) ls sorted_ls (λ l. (same_ls l).0) (all_in_range n ls es none).0

  module _ (rows : List (List (List ℕ))) (rows_are : rows ≡ map (labels_at sorted_ls) (range_with_len 0 n))
      (same_es : (e : Edge) → Contains sorted_es e ↔ Contains es e) where
    abbrev pub structure_of : Structure
    structure_of = record { states = n; labels = rows; edges = sorted_es }

    pub is_structure : 0 < n → IsStructure structure_of
    is_structure some = record {
      has_state = some;
      labels_states = ap length rows_are ∙ length-map-range_with_len (labels_at sorted_ls) 0 n;
      joins_states =
          All-of_members (λ (e : Edge). (e.source < n) × (e.target < n)) es sorted_es (λ e. (same_es e).0)
          (all_in_range n ls es none).1;
    }

    pub is_ordered : IsStrictlySortedBy label_cmp sorted_ls
        → IsStrictlySortedBy edge_cmp sorted_es
        → IsOrdered structure_of
    is_ordered ls_ascend es_ascend = record {
      labels_ascend =
          subst (All (IsStrictlySortedBy (slice_cmp nat_cmp))) (sym rows_are)
          (All-map (IsStrictlySortedBy (slice_cmp nat_cmp)) (labels_at sorted_ls) (range_with_len 0 n)
          (λ k d below. labels_at-ascends (get_or (range_with_len 0 n) k d) sorted_ls ls_ascend));
      edges_ascend = es_ascend;
    }

    row_of : (s : ℕ) → s < n → get_or rows s [] ≡ labels_at sorted_ls s
    row_of s below = ap (λ rs. get_or rs s []) rows_are ∙ get_or-map-range_with_len (labels_at sorted_ls) 0 n s s [] below (omega arith)

    no_row : (s : ℕ) → n ≤ s → get_or rows s [] ≡ []
    no_row s past =
        get_or_past rows s [] (omega (arith, ap length rows_are ∙ length-map-range_with_len (labels_at sorted_ls) 0 n))

    contained : (s : ℕ) (p : List ℕ) → Contains (get_or rows s []) p → Contains ls (s, p)
    contained s p h =
        ⊎_elim
        (λ (below : s < n). (same_ls (s, p)).0 (labels_at-contains s sorted_ls p (subst (λ row. Contains row p) (row_of s below) h)))
        (λ (past : n ≤ s). absurd (contains_none p (subst (λ row. Contains row p) (no_row s past) h)))
        (cases_lt s n)

    contains : (s : ℕ) (p : List ℕ) → Contains ls (s, p) → Contains (get_or rows s []) p
    contains s p h =
        let below : s < n = All-contains (λ (l : ℕ × List ℕ). l.0 < n) ls (s, p) (all_in_range n ls es none).0 h in
        subst (λ row. Contains row p) (sym (row_of s below)) (labels_at-contained s sorted_ls p ((same_ls (s, p)).1 h))

    pub is_built : IsBuiltFrom n ls es structure_of
    is_built = record {
      has_states = refl;
      has_labels = λ s p. (contained s p, contains s p);
      has_edges = same_es;
    }
