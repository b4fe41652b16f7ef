-- The structure of a word is in order where its letters are.
--
--   run_ordered    == the structure of a word whose letters ascend is in order
--   run_named      == where its letters are names, it has names
use Rattle.std.proofs.Common.{ℕ, ◌<◌, All, length, get_or, codes, refl, sym, subst, arith}
use Rattle.std.proofs.lemmas.List.FromFn.{get_or-map-range_with_len, length-map-range_with_len}
use Rattle.std.specs.Cmp.Lexicographic.{slice_cmp}
use Rattle.std.specs.List.Sorted.{IsStrictlySortedBy}
use Rattle.std.specs.Ordering.{nat_cmp}
use Rattle.ml_base.specs.Name.{IsAction, IsName}
use Rattle.ml_base.specs.declared.structure.Edge.{Edge}
use Rattle.ml_base.proofs.Edges.{places_ascend}
use Rattle.ml_kripke.specs.Ordered.{HasNames, IsOrdered}
use Rattle.ml_trace.specs.WordAutomata.{WordLasso}
use Rattle.ml_word_automaton.specs.Words.{Letter, next_letter, word_structure}

-- the edge from a place
abbrev edge_from : WordLasso Letter → ℕ → Edge
edge_from w i = record { source = i; action = codes "_"; target = next_letter w i }

pub run_ordered : (w : WordLasso Letter)
    → All (IsStrictlySortedBy (slice_cmp nat_cmp)) w.word
    → IsOrdered (word_structure w)
run_ordered w ascend = record {
  labels_ascend = ascend;
  edges_ascend = places_ascend (edge_from w) (λ i. refl) 0 (length w.word);
}

pub run_named : (w : WordLasso Letter) → All (All IsName) w.word → HasNames (word_structure w)
run_named w named = record {
  labels_named = named;
  actions_named = λ i d low. blank i d (subst (λ n. i < n) (length-map-range_with_len (edge_from w) 0 (length w.word)) low);
}
  where
    blank : (i : ℕ) (d : Edge) → i < length w.word → IsAction (get_or (word_structure w).edges i d).action
    blank i d low =
        let is = get_or-map-range_with_len (edge_from w) 0 (length w.word) i i d low (omega arith) in
        subst (λ (e : Edge). IsAction e.action) (sym is) refl
