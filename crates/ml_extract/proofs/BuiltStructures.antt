-- Labels and edges in any order, put in order, make a structure. (General; it would belong to `ml_kripke`.)
--
--   same_entries    == a list that is put in order has the same entries
--   labels_exact    == labels of states that are tied are the same
--   BuiltStructure  == a structure in order that is built of these labels and edges
--   some_structure  == there is one, where each state that they name is one
use Rattle.std.proofs.Common.{◌≡◌, ◌↔◌, ℕ, ◌<◌, List, map, Contains, None, Ordering, refl}
use Rattle.std.specs.List.{range_with_len}
use Rattle.std.specs.Ordering.{nat_cmp}
use Rattle.std.specs.Cmp.{IsTotalOrder}
use Rattle.std.specs.Cmp.Lexicographic.{slice_cmp}
use Rattle.std.specs.declared.cmp.Ordering.TheVariants.{Equal}
use Rattle.std.proofs.lemmas.Cmp.{on_total, then_total, nat_cmp_total, nat_list_cmp_total}
use Rattle.std.proofs.lemmas.Map.Lookups.{exact_unsigned, exact_bytes}
use Rattle.ml_base.proofs.Edges.{edges_exact}
use Rattle.ml_base.specs.EdgeOrder.{edge_cmp}
use Rattle.ml_base.specs.declared.structure.Edge.{Edge}
use Rattle.ml_base.specs.Structure.{Structure, IsStructure}
use Rattle.ml_lists.proofs.Members.{member_of_contains, contains_of_member}
use Rattle.ml_lists.proofs.Orderings.{both_tied}
use Rattle.ml_kripke.specs.Ordered.{IsOrdered}
use Rattle.ml_kripke.specs.Built.{IsBuiltFrom, labels_at, first_bad_state}
use Rattle.ml_kripke.proofs.Build as build
use Rattle.ml_kripke.proofs.OneStructure.{edge_order}
use Rattle.ml_kripke.proofs.RowOrder.{label_cmp}
use Rattle.ml_lists.proofs.SortedLists.{Sorted, sorted}

label_order : IsTotalOrder label_cmp
label_order =
    then_total (on_total (λ (x : ℕ × List ℕ). x.0) nat_cmp_total)
    (on_total (λ (x : ℕ × List ℕ). x.1) nat_list_cmp_total)

pub labels_exact : (x y : ℕ × List ℕ) → label_cmp x y ≡ Equal → x ≡ y
labels_exact x y tied =
    let both = both_tied (nat_cmp x.0 y.0) (slice_cmp nat_cmp x.1 y.1) tied in
    let state = exact_unsigned x.0 y.0 both.0 in
    let name = exact_bytes x.1 y.1 both.1 in
    λ i. (state i, name i)

pub same_entries : {K : Type 0} (R : K → K → Ordering) (xs : List K) (s : Sorted R xs) (x : K)
    → Contains s.list x ↔ Contains xs x
same_entries R xs s x = (
  (λ h. contains_of_member x xs (s.inside x (member_of_contains x s.list h))),
  (λ h. contains_of_member x s.list (s.all x (member_of_contains x xs h))),
)

pub record BuiltStructure (n : ℕ) (labels : List (ℕ × List ℕ)) (edges : List Edge) : Type 0 where
  pub structure : Structure
  pub is_structure : IsStructure structure
  pub is_ordered : IsOrdered structure
  pub is_built : IsBuiltFrom n labels edges structure

pub some_structure : (n : ℕ) (labels : List (ℕ × List ℕ)) (edges : List Edge)
    → 0 < n
    → first_bad_state n labels edges ≡ None
    → BuiltStructure n labels edges
some_structure n labels edges some none =
    of_sorted (sorted label_cmp label_order labels_exact labels) (sorted edge_cmp edge_order edges_exact edges)
  where
    of_sorted : Sorted label_cmp labels → Sorted edge_cmp edges → BuiltStructure n labels edges
    of_sorted l e =
        let rows = map (labels_at l.list) (range_with_len 0 n) in
        let same_labels = same_entries label_cmp labels l in
        let same_edges = same_entries edge_cmp edges e in
        record {
          structure = build.structure_of n labels l.list edges e.list none same_labels rows refl same_edges;
          is_structure = build.is_structure n labels l.list edges e.list none same_labels rows refl same_edges some;
          is_ordered =
              build.is_ordered n labels l.list edges e.list none same_labels rows refl same_edges l.ascends e.ascends;
          is_built = build.is_built n labels l.list edges e.list none same_labels rows refl same_edges;
        }
