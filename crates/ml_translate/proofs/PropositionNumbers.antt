-- The propositions of a formula, by their numbers.
--
--   props_once  == each stands once
--   props_few   == they are few
--   numbers_more, numbers_all == the numbers of a graph's propositions, one after the other
--   place_told, none_told == a name that is looked for
use Rattle.std.proofs.Common.{ℕ, ◌≡◌, ◌≢◌, ◌+◌, ◌<◌, ◌≤◌, ◌^◌, ◌⊎◌, inl, inr, arith, List, [], ◌∷◌, ◌++◌, length, get_or, Option, Some, None, MatchOption, slice_get, refl, sym, ap, ◌∙◌, subst, bytes_eq, false, length-append}
use Rattle.std.specs.List.{IsDistinct, list_any, position}
use Rattle.std.proofs.lemmas.Bool.{cases_eq, true≢false}
use Rattle.std.proofs.lemmas.List.{get_or_append_left, get_or_push}
use Rattle.std.proofs.lemmas.List.Quantifiers.{position-Some}
use Rattle.std.proofs.lemmas.Option.{get_or_from_slice_get, slice_get-get_or, slice_get_within}
use Rattle.std.proofs.lemmas.Slice.Eq.{bytes_eq-Decides}
use Rattle.ml_lists.proofs.Member.{member-list_any, member_of_get}
use Rattle.ml_lists.specs.Added.{HasOnePlace}
use Rattle.ml_text.specs.Limits.{most_occurrences}
use Rattle.ml_text.specs.Names.{Proposition, of_kind}
use Rattle.ml_text.proofs.NameLists.{distinct_names}
use Rattle.ml_text.proofs.Names.{few_added}
use Rattle.ml_graph.specs.Graph.{Graph}
use Rattle.ml_graph.proofs.Places.{same_place}
use Rattle.ml_ctl.specs.Formula.{Formula, occurrences}
use Rattle.ml_ctl.specs.FormulaNames.{names}
use Rattle.ml_ctl.proofs.Counting.{few_names}
use Rattle.ml_translate.specs.Translation.{props_of}
use Rattle.ml_translate.specs.private.Finding.{AreNumbers, number_at}

none_distinct : IsDistinct bytes_eq []
unfolding IsDistinct
none_distinct = tt

pub props_once : (f : Formula) → HasOnePlace (props_of f)
props_once f i j p at_i at_j =
    let ps = props_of f in
    same_place ps (distinct_names [] (of_kind Proposition (names f)) none_distinct) i j
    (slice_get_within ps i p at_i) (slice_get_within ps j p at_j)
    (get_or_from_slice_get ps i p [] at_i ∙ sym (get_or_from_slice_get ps j p [] at_j))

pub props_few : (f : Formula) → occurrences f ≤ most_occurrences → length (props_of f) < 2 ^ 32
props_few f small =
    let few = few_added Proposition (names f) (occurrences f) (few_names f) in omega (arith, few)

-- the first i propositions of the graph are numbered
pub record AreNumbersTo (i : ℕ) (graph_props props : List (List ℕ)) (numbers : List (Option ℕ)) : Type 0 where
  pub as_long : length numbers ≡ i
  pub are : (k : ℕ) → k < i
      → MatchOption (number_at numbers k) ((n : ℕ) → slice_get props n ≢ Some (get_or graph_props k []))
      (λ n. slice_get props n ≡ Some (get_or graph_props k []))

pub numbers_none : (graph_props props : List (List ℕ)) → AreNumbersTo 0 graph_props props []
numbers_none graph_props props = record { as_long = refl; are = λ k low. absurd (omega arith) }

-- what the number of a name tells
abbrev Told : List (List ℕ) → List ℕ → Option ℕ → Type 0
Told props w p = MatchOption p ((n : ℕ) → slice_get props n ≢ Some w) (λ n. slice_get props n ≡ Some w)

pub numbers_more : (i : ℕ) (graph_props props : List (List ℕ)) (numbers : List (Option ℕ)) (o : Option ℕ) (name : List ℕ)
    → AreNumbersTo i graph_props props numbers
    → name ≡ get_or graph_props i []
    → MatchOption o ((n : ℕ) → slice_get props n ≢ Some name) (λ n. slice_get props n ≡ Some name)
    → AreNumbersTo (i + 1) graph_props props (numbers ++ o ∷ [])
numbers_more i graph_props props numbers o name r is found = record {
  as_long = let long = r.as_long in omega (arith, length-append numbers (o ∷ []));
  are = λ k low. by k low (cases_eq k i);
}
  where
    by : (k : ℕ) → k < i + 1 → (k ≡ i) ⊎ (k ≡ i → ⊥)
        → MatchOption (number_at (numbers ++ o ∷ []) k) ((n : ℕ) → slice_get props n ≢ Some (get_or graph_props k []))
        (λ n. slice_get props n ≡ Some (get_or graph_props k []))
    by k low (inl same) =
        let here : number_at (numbers ++ o ∷ []) k ≡ o =
        get_or_push numbers o None k (r.as_long ∙ sym same) in
        let named : name ≡ get_or graph_props k [] = is ∙ ap (λ j. get_or graph_props j []) (sym same) in
        subst (λ p. Told props (get_or graph_props k []) p) (sym here) (subst (λ w. Told props w o) named found)
    by k low (inr other) =
        let long = r.as_long in
        let earlier : number_at (numbers ++ o ∷ []) k ≡ number_at numbers k =
        get_or_append_left numbers (o ∷ []) None k (omega arith) in
        subst (λ p. Told props (get_or graph_props k []) p) (sym earlier) (r.are k (omega arith))

pub numbers_all : (g : Graph) (i : ℕ) (props : List (List ℕ)) (numbers : List (Option ℕ))
    → HasOnePlace props
    → i ≡ length g.props
    → AreNumbersTo i g.props props numbers
    → AreNumbers g props numbers
numbers_all g i props numbers once all r = record {
  once = once;
  as_long = r.as_long ∙ all;
  are = λ k low. r.are k (omega arith);
}

-- ---- names that are looked for

pub place_told : (keys : List (List ℕ)) (name : List ℕ) (at : ℕ)
    → position (bytes_eq name) keys ≡ Some at
    → slice_get keys at ≡ Some name
place_told keys name at found =
    let here = position-Some (bytes_eq name) keys at [] found in
    slice_get-get_or keys at [] here.0 ∙ ap Some (sym ((bytes_eq-Decides name (get_or keys at [])).0 here.1))

pub none_told : (keys : List (List ℕ)) (name : List ℕ) (n : ℕ)
    → list_any (bytes_eq name) keys ≡ false
    → slice_get keys n ≢ Some name
none_told keys name n none at =
    true≢false (sym (member-list_any (bytes_eq name) name keys (member_of_get keys n name at) ((bytes_eq-Decides name name).1 refl)) ∙ none)
