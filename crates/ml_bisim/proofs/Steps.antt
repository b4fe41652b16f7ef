-- The steps of a state, as they are gathered from the last of its edges back to the first.
--
--   Gathered       == the steps of the edges from a place on are there, and the next place is one of the state's
--   gathered_none, gathered_more, gathered_all == at first, with one edge more, and in the end
--   target_below, sources_low, targets_low == edges join states
use Rattle.std.proofs.Common.{ℕ, ◌≡◌, ◌+◌, ◌<◌, ◌≤◌, ◌↔◌, ◌⊎◌, inl, inr, List, [], ◌∷◌, ◌++◌, length, get_or, slice_get, map, Some, All, Contains, sym, ap, ◌∙◌, subst, arith}
use Rattle.std.proofs.lemmas.Bool.{cases_eq, cases_lt}
use Rattle.std.proofs.lemmas.List.{length-map}
use Rattle.std.proofs.lemmas.List.Elements.{All-contains, All-map, Contains-append_left, Contains-append_right, Contains-append_cases}
use Rattle.std.proofs.lemmas.Option.{get_or_from_slice_get, slice_get-map, slice_get_within, same_Some}
use Rattle.std.specs.Option.{option_map}
use Rattle.ml_base.specs.declared.structure.Edge.{Edge}
use Rattle.ml_base.specs.Structure.{Structure, IsStructure}
use Rattle.ml_lists.proofs.Member.{member_of_get}
use Rattle.ml_lists.proofs.Members.{contains_cases, contains_head, contains_none, contains_of_member}
use Rattle.ml_bisim.specs.Quotient.{class_of}
use Rattle.ml_bisim.specs.declared.places.Places.{Places}
use Rattle.ml_bisim.specs.declared.signatures.Step.{Step}
use Rattle.ml_bisim.specs.private.Places.{ArePlaces, IsLastBefore}
use Rattle.ml_bisim.specs.private.Signatures.{StepAt}

-- what a list of one of an edge's numbers has at the place of the edge
pub number_at : (f : Edge → ℕ) (edges : List Edge) (i : ℕ) (e : Edge) → slice_get edges i ≡ Some e
    → get_or (map f edges) i 0 ≡ f e
number_at f edges i e at =
    get_or_from_slice_get (map f edges) i (f e) 0 (slice_get-map f edges i ∙ ap (option_map f) at)

pub target_below : (m : Structure) → IsStructure m → (i : ℕ) (e : Edge) → slice_get m.edges i ≡ Some e → e.target < m.states
target_below m ok i e at =
    (All-contains (λ (f : Edge). (f.source < m.states) × (f.target < m.states)) m.edges e ok.joins_states
    (contains_of_member e m.edges (member_of_get m.edges i e at))).1

pub sources_low : (m : Structure) → IsStructure m → (xs : List ℕ) → xs ≡ map (λ (f : Edge). f.source) m.edges → (n : ℕ)
    → n ≡ m.states
    → All (λ x. x < n) xs
sources_low m ok xs are n is =
    subst (λ k. All (λ x. x < k) xs) (sym is)
    (subst (All (λ x. x < m.states)) (sym are)
    (All-map (λ x. x < m.states) (λ (f : Edge). f.source) m.edges (λ k d low. (ok.joins_states k d low).0)))

pub targets_low : (m : Structure) → IsStructure m → (xs : List ℕ) → xs ≡ map (λ (f : Edge). f.target) m.edges → (n : ℕ)
    → n ≡ m.states
    → All (λ x. x < n) xs
targets_low m ok xs are n is =
    subst (λ k. All (λ x. x < k) xs) (sym is)
    (subst (All (λ x. x < m.states)) (sym are)
    (All-map (λ x. x < m.states) (λ (f : Edge). f.target) m.edges (λ k d low. (ok.joins_states k d low).1)))

pub record Gathered (edges : List Edge) (actions class : List ℕ) (s rest : ℕ) (steps : List Step) : Type 0 where
  pub in_range : rest ≤ length edges
  pub mine : (i : ℕ) → rest ≡ i + 1 → get_or (map (λ (f : Edge). f.source) edges) i 0 ≡ s
  pub same : (x : Step) → Contains steps x ↔ StepAt edges actions class rest s x

module _ (edges : List Edge) (actions class : List ℕ) (n : ℕ) (p : Places)
    (places : ArePlaces (map (λ (f : Edge). f.source) edges) n p) (s : ℕ) (s_low : s < n) where
  abbrev sources : List ℕ
  sources = map (λ (f : Edge). f.source) edges

  edges_long : length sources ≡ length edges
  edges_long = length-map edges (λ (f : Edge). f.source)

  pub gathered_none : (steps : List Step) → steps ≡ [] → Gathered edges actions class s (get_or p.last.items s 0) steps
  gathered_none steps none =
      let is = places.last s s_low in
      record {
        in_range = omega (arith, is.before, edges_long);
        mine = is.stands;
        same = λ x. (
          (λ h. absurd (contains_none x (subst (λ xs. Contains xs x) none h))),
          (λ o. absurd (is.none_later o.place o.from_here
              (omega (arith, slice_get_within edges o.place o.edge o.stands, edges_long))
              (number_at (λ (f : Edge). f.source) edges o.place o.edge o.stands ∙ o.leaves))),
        );
      }

  -- the edge at the next place is one more
  pub gathered_more : (rest place : ℕ) (e : Edge) (step : Step) (steps new : List Step)
      → Gathered edges actions class s rest steps
      → rest ≡ place + 1
      → slice_get edges place ≡ Some e
      → step.action ≡ get_or actions place 0
      → step.class ≡ class_of class e.target
      → new ≡ steps ++ step ∷ []
      → Gathered edges actions class s (get_or p.before.items place 0) new
  gathered_more rest place e step steps new old next stands by_action into_class pushed = record {
    in_range = omega (arith, link.before, old.in_range, next);
    mine = λ i is. link.stands i is ∙ old.mine place next;
    same = λ x. (
      (λ h. there x (Contains-append_cases steps (step ∷ []) x (subst (λ xs. Contains xs x) pushed h))),
      (λ o. subst (λ xs. Contains xs x) (sym pushed) (back x o (cases_lt o.place rest) (cases_eq o.place place))),
    );
  }
    where
      link : IsLastBefore sources place (get_or sources place 0) (get_or p.before.items place 0)
      link = places.links place (omega (arith, old.in_range, next, edges_long))

      there : (x : Step) → Contains steps x ⊎ Contains (step ∷ []) x
          → StepAt edges actions class (get_or p.before.items place 0) s x
      there x (inl h) =
          let o = (old.same x).0 h in
          record {
            place = o.place;
            edge = o.edge;
            stands = o.stands;
            from_here = omega (arith, o.from_here, next, link.before);
            leaves = o.leaves;
            by_action = o.by_action;
            into_class = o.into_class;
          }
      there x (inr h) = from (contains_cases step [] x h)
        where
          from : (step ≡ x) ⊎ Contains [] x → StepAt edges actions class (get_or p.before.items place 0) s x
          from (inr none) = absurd (contains_none x none)
          from (inl same) = record {
            place = place;
            edge = e;
            stands = stands;
            from_here = link.before;
            leaves = sym (number_at (λ (f : Edge). f.source) edges place e stands) ∙ old.mine place next;
            by_action = ap (λ (y : Step). y.action) (sym same) ∙ by_action;
            into_class = ap (λ (y : Step). y.class) (sym same) ∙ into_class;
          }

      back : (x : Step) (o : StepAt edges actions class (get_or p.before.items place 0) s x)
          → (o.place < rest) ⊎ (rest ≤ o.place)
          → (o.place ≡ place) ⊎ (o.place ≡ place → ⊥)
          → Contains (steps ++ step ∷ []) x
      back x o (inr above) c =
          Contains-append_left steps (step ∷ []) x ((old.same x).1 (record {
            place = o.place;
            edge = o.edge;
            stands = o.stands;
            from_here = above;
            leaves = o.leaves;
            by_action = o.by_action;
            into_class = o.into_class;
          }))
      back x o (inl below) (inl same) =
          let edge : o.edge ≡ e = same_Some _ _ (sym o.stands ∙ ap (slice_get edges) same ∙ stands) in
          let action = by_action ∙ sym (ap (λ q. get_or actions q 0) same) ∙ sym o.by_action in
          let class = into_class ∙ sym (ap (λ (f : Edge). class_of class f.target) edge) ∙ sym o.into_class in
          let one : step ≡ x = λ j. record { action = action j; class = class j } in
          subst (λ y. Contains (steps ++ step ∷ []) y) one (Contains-append_right steps (step ∷ []) step
          (contains_head step []))
      back x o (inl below) (inr other) =
          absurd (link.none_later o.place o.from_here (omega (arith, below, other, next))
          (number_at (λ (f : Edge). f.source) edges o.place o.edge o.stands ∙ o.leaves ∙ sym (old.mine place next)))

  pub gathered_all : (rest : ℕ) (steps : List Step)
      → Gathered edges actions class s rest steps
      → rest ≡ 0
      → (x : Step) → Contains steps x ↔ StepAt edges actions class 0 s x
  gathered_all rest steps is end x = subst (λ r. Contains steps x ↔ StepAt edges actions class r s x) end (is.same x)
