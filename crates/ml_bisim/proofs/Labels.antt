-- States by their labels: the first partition of a refinement.
--
--   same_row    == states with the same propositions have the same row
--   labelled    == so states that are numbered by their rows are a partition that bisimilar states don't leave
use Rattle.std.proofs.Common.{ℕ, ◌≡◌, ◌<◌, ◌↔◌, Bool, true, List, [], length, slice_get, slice_index_or, map, Some, Contains, refl, sym, ap, ◌∙◌, subst, arith}
use Rattle.std.specs.Cmp.Lexicographic.{slice_cmp, bytes_decides, texts_ties, pointwise, pointwise_decides}
use Rattle.std.specs.Global.{Vec}
use Rattle.std.specs.List.{list_any}
use Rattle.std.specs.Option.{option_map}
use Rattle.std.specs.Ordering.{nat_cmp, is_eq}
use Rattle.std.specs.Str.{bytes_eq}
use Rattle.std.specs.declared.cmp.Ordering.TheVariants.{Equal}
use Rattle.std.proofs.lemmas.Cmp.{nat_list_cmp_total}
use Rattle.std.proofs.lemmas.List.{length-map}
use Rattle.std.proofs.lemmas.Option.{slice_get-map, get_or_from_slice_get}
use Rattle.std.proofs.lemmas.Slice.Eq.{bytes_eq-Decides}
use Rattle.ml_base.specs.Structure.{Structure, IsStructure, lists}
use Rattle.ml_lists.proofs.Member.{Passing, list_any-member, member-list_any}
use Rattle.ml_lists.proofs.Members.{member_of_contains, contains_of_member}
use Rattle.ml_lists.proofs.StrictlySorted.{same_from_members}
use Rattle.ml_lists.proofs.Entries.{some_entry}
use Rattle.ml_kripke.specs.Ordered.{IsOrdered}
use Rattle.ml_bisim.specs.private.Numbers.{AreNumbers}
use Rattle.ml_bisim.specs.private.Rounds.{IsPartition}

names_exact : (p q : List ℕ) → slice_cmp nat_cmp p q ≡ Equal → p ≡ q
names_exact p q e = (bytes_decides p q).0 (texts_ties p q ∙ ap is_eq e)

-- the test of a table
abbrev pub row_eq : Vec (List ℕ) → Vec (List ℕ) → Bool
row_eq v w = pointwise bytes_eq v.items w.items

-- the labels of a state
abbrev pub row : Structure → ℕ → List (List ℕ)
row m s = slice_index_or m.labels s []

pub listed : (m : Structure) (s : ℕ) (p : List ℕ) → lists m s p ≡ true ↔ Contains (row m s) p
listed m s p = (
  (λ e. of_passing (list_any-member (λ q. bytes_eq q p) (row m s) e)),
  (λ h. member-list_any (λ q. bytes_eq q p) p (row m s) (member_of_contains p (row m s) h) ((bytes_eq-Decides p p).1 refl)),
)
  where
    of_passing : Passing (λ q. bytes_eq q p) (row m s) → Contains (row m s) p
    of_passing found = subst (λ q. Contains (row m s) q) ((bytes_eq-Decides found.item p).0 found.passes)
        (contains_of_member found.item (row m s) found.member)

pub same_row : (m : Structure) → IsStructure m → IsOrdered m → (s t : ℕ) → s < m.states → t < m.states
    → ((p : List ℕ) → lists m s p ≡ lists m t p) → row m s ≡ row m t
same_row m ok ordered s t s_low t_low same =
    same_from_members (slice_cmp nat_cmp) nat_list_cmp_total names_exact (row m s) (row m t)
    (ordered.labels_ascend s [] (omega (arith, ok.labels_states)))
    (ordered.labels_ascend t [] (omega (arith, ok.labels_states)))
    (λ p h. (listed m t p).0 (sym (same p) ∙ (listed m s p).1 h))
    (λ p h. (listed m s p).0 (same p ∙ (listed m t p).1 h))

module _ (m : Structure) (ok : IsStructure m) (ordered : IsOrdered m) (rows : List (Vec (List ℕ)))
    (are_rows : map (λ (r : Vec (List ℕ)). r.items) rows ≡ m.labels) where
  rows_long : length rows ≡ m.states
  rows_long = sym (length-map rows (λ (r : Vec (List ℕ)). r.items)) ∙ ap length are_rows ∙ ok.labels_states

  record RowAt (s : ℕ) : Type 0 where
    pub vector : Vec (List ℕ)
    pub stands : slice_get rows s ≡ Some vector
    pub is_row : vector.items ≡ row m s

  row_at : (s : ℕ) → s < m.states → RowAt s
  row_at s low =
      let found = some_entry rows s (omega (arith, rows_long)) in
      let at : slice_get m.labels s ≡ Some found.0.items =
      sym (ap (λ ls. slice_get ls s) are_rows)
      ∙ slice_get-map (λ (r : Vec (List ℕ)). r.items) rows s
      ∙ ap (option_map (λ (r : Vec (List ℕ)). r.items)) found.1 in
      record { vector = found.0; stands = found.1; is_row = sym (get_or_from_slice_get m.labels s found.0.items [] at) }

  pub labelled : (ns : List ℕ) (n : ℕ) → AreNumbers row_eq rows ns n → IsPartition m ns
  labelled ns n are = record {
    each_state = are.each_key ∙ rows_long;
    coarse = λ s t s_low t_low b.
        let r = row_at s s_low in
        let u = row_at t t_low in
        (are.same s t r.vector u.vector r.stands u.stands).1
        ((pointwise_decides bytes_eq-Decides r.vector.items u.vector.items).1 (r.is_row
        ∙ same_row m ok ordered s t s_low t_low (b.is_bisimulation.same_labels s t b.joined)
        ∙ sym u.is_row));
    same_labels = λ s t s_low t_low e p.
        let r = row_at s s_low in
        let u = row_at t t_low in
        let items = (pointwise_decides bytes_eq-Decides r.vector.items u.vector.items).0
        ((are.same s t r.vector u.vector r.stands u.stands).0 e) in
        ap (list_any (λ q. bytes_eq q p)) (sym r.is_row ∙ items ∙ u.is_row);
  }
