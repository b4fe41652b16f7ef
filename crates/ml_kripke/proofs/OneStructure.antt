-- An ordered structure is determined by its states, and by its labels and edges as sets.
--
--   edge_order                 == the order of edges is total
--   one_structure              == ordered structures that have the same are equal
use Rattle.std.proofs.Common.{◌≡◌, ℕ, ◌<◌, [], length, get_or, sym, ◌∙◌, arith}
use Rattle.std.specs.Cmp.{IsTotalOrder}
use Rattle.std.specs.Cmp.Lexicographic.{slice_cmp}
use Rattle.std.specs.Ordering.{nat_cmp}
use Rattle.std.proofs.lemmas.Cmp.{on_total, then_total, nat_cmp_total, nat_list_cmp_total}
use Rattle.std.proofs.lemmas.List.{same_lists, get_or_default}
use Rattle.std.proofs.lemmas.Map.Lookups.{exact_bytes}
use Rattle.ml_base.specs.declared.structure.Edge.{Edge}
use Rattle.ml_kripke.specs.Laws.{OneStructure}
use Rattle.ml_base.specs.EdgeOrder.{edge_cmp}
use Rattle.ml_lists.proofs.StrictlySorted.{same_from_members}
use Rattle.ml_base.proofs.Edges.{edges_exact}

pub edge_order : IsTotalOrder edge_cmp
edge_order =
    then_total (on_total (λ (e : Edge). e.source) nat_cmp_total)
    (then_total (on_total (λ (e : Edge). e.action) nat_list_cmp_total)
    (on_total (λ (e : Edge). e.target) nat_cmp_total))

pub one_structure : OneStructure
one_structure m n is_m is_n up_m up_n same =
    λ i. record { states = same.states_same i; labels = labels i; edges = edges i }
  where
    edges : m.edges ≡ n.edges
    edges =
        same_from_members edge_cmp edge_order edges_exact m.edges n.edges up_m.edges_ascend up_n.edges_ascend
        (λ e. (same.edges_same e).0) (λ e. (same.edges_same e).1)

    long : length m.labels ≡ length n.labels
    long = is_m.labels_states ∙ same.states_same ∙ sym is_n.labels_states

    row : (s : ℕ) → s < length m.labels → get_or m.labels s [] ≡ get_or n.labels s []
    row s here =
        same_from_members (slice_cmp nat_cmp) nat_list_cmp_total exact_bytes (get_or m.labels s [])
        (get_or n.labels s [])
        (up_m.labels_ascend s [] here) (up_n.labels_ascend s [] (omega (arith, long)))
        (λ p. (same.labels_same s p).0) (λ p. (same.labels_same s p).1)

    labels : m.labels ≡ n.labels
    labels =
        same_lists m.labels n.labels long
        (λ s d here.
        get_or_default m.labels s d [] here ∙ row s here ∙ sym (get_or_default n.labels s d [] (omega (arith, long))))
