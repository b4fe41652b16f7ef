-- The path from a state, as it is walked.
--
--   one_more    == one state more
--   none_read, some_read == what is read at a place
--   fewer_nones == fewer states have no place then
--   comes_again == where a state comes again, the path is whole
--   is_word     == and it is the path from the state
use Rattle.std.proofs.Common.{ℕ, zero, suc, ◌≡◌, ◌+◌, ◌<◌, ◌⊎◌, inl, inr, true, false, List, [], ◌∷◌, ◌++◌, Option, Some, None, length, get_or, set, refl, sym, ap, ◌∙◌, subst, arith, length-append}
use Rattle.std.specs.Option.{is_some}
use Rattle.std.proofs.lemmas.Bool.{cases_eq, true≢false}
use Rattle.std.proofs.lemmas.List.{get_or_append_left, get_or_push, get_or_read_under, get_or-set_other, get_or-set_same, length-set}
use Rattle.ml_base.specs.Structure.{Structure}
use Rattle.ml_lists.proofs.Lasso.{round-entry, round-end}
use Rattle.ml_ctl.specs.Paths.{has_step}
use Rattle.ml_word_graph.specs.Problem.{IsWordFrom}
use Rattle.ml_word_check.specs.private.Walked.{IsWalked, IsWordOf, Leads, lasso_from, nones}

module _ (next : List ℕ) (s : ℕ) (xs : List ℕ) (at : ℕ) (places : List (Option ℕ)) (w : IsWalked next s xs at places)
    (closed : (t : ℕ) → t < length next → get_or next t 0 < length next)
    (new : get_or places at None ≡ None) where
  abbrev ys : List ℕ
  ys = xs ++ at ∷ []

  abbrev marked : List (Option ℕ)
  marked = set places at (Some (length xs))

  long : length ys ≡ length xs + 1
  long = length-append xs (at ∷ [])

  old : (i : ℕ) → i < length xs → get_or ys i 0 ≡ get_or xs i 0
  old i low = get_or_append_left xs (at ∷ []) 0 i low

  at_end : (i : ℕ) → i ≡ length xs → get_or ys i 0 ≡ at
  at_end i is = get_or_push xs at 0 i (sym is)

  -- what holds of the states so far, and of the last one
  each : (P : ℕ → Type 0) → ((i : ℕ) → i < length xs → P i) → P (length xs) → (i : ℕ) → i < length ys → P i
  each P before last i low = by_case (cases_eq i (length xs))
    where
      by_case : (i ≡ length xs) ⊎ (i ≡ length xs → ⊥) → P i
      by_case (inl is) = subst P (sym is) last
      by_case (inr other) = before i (omega (arith, low, long, other))

  apart : (i : ℕ) → i < length xs → get_or xs i 0 ≡ at → ⊥
  apart i low same =
      let wrong = sym (w.stand i low) ∙ ap (λ t. get_or places t None) same ∙ new in absurd (cc)

  first_is : 0 < length ys → get_or ys 0 0 ≡ s
  first_is some = by_case (cases_eq 0 (length xs))
    where
      by_case : (0 ≡ length xs) ⊎ (0 ≡ length xs → ⊥) → get_or ys 0 0 ≡ s
      by_case (inl none) = at_end 0 none ∙ w.none_yet (sym none)
      by_case (inr other) = old 0 (omega (arith, other)) ∙ w.first (omega (arith, other))

  stands : (i : ℕ) → i < length ys → get_or marked (get_or ys i 0) None ≡ Some i
  stands = each (λ i. get_or marked (get_or ys i 0) None ≡ Some i)
      (λ i low.
      ap (λ t. get_or marked t None) (old i low)
      ∙ get_or-set_other places at (get_or xs i 0) (Some (length xs)) None (apart i low)
      ∙ w.stand i low)
      (ap (λ t. get_or marked t None) (at_end (length xs) refl)
      ∙ get_or-set_same places at (Some (length xs)) None (omega (arith, w.inside, w.as_many)))

  found_at : (t i : ℕ) → get_or marked t None ≡ Some i → (i < length ys) × (get_or ys i 0 ≡ t)
  found_at t i is = by_case (cases_eq t at)
    where
      by_case : (t ≡ at) ⊎ (t ≡ at → ⊥) → (i < length ys) × (get_or ys i 0 ≡ t)
      by_case (inl same) =
          let one : Some (length xs) ≡ Some i =
          sym (get_or-set_same places at (Some (length xs)) None (omega (arith, w.inside, w.as_many)))
          ∙ ap (λ k. get_or marked k None) (sym same)
          ∙ is in
          let place : i ≡ length xs = cc in
          (omega (arith, place, long), at_end i place ∙ sym same)
      by_case (inr other) =
          let before = w.found t i (sym (get_or-set_other places at t (Some (length xs)) None other) ∙ is) in
          (omega (arith, before.0, long), old i before.0 ∙ before.1)

  walked_more : IsWalked next s ys (get_or next at 0) marked
  walked_more = record {
    as_many = length-set places at (Some (length xs)) ∙ w.as_many;
    inside = closed at w.inside;
    first = first_is;
    none_yet = λ none. absurd (omega (arith, none, long));
    all_inside = each (λ i. get_or ys i 0 < length next)
        (λ i low. subst (λ t. t < length next) (sym (old i low)) (w.all_inside i low))
        (subst (λ t. t < length next) (sym (at_end (length xs) refl)) w.inside);
    steps = λ i low. step_at i (omega (arith, low, long)) (cases_eq (i + 1) (length xs));
    last = λ i is. ap (λ t. get_or next t 0) (sym (at_end i (omega (arith, is, long))));
    stand = stands;
    found = found_at;
  }
    where
      step_at : (i : ℕ) → i < length xs → (i + 1 ≡ length xs) ⊎ (i + 1 ≡ length xs → ⊥)
          → get_or ys (i + 1) 0 ≡ get_or next (get_or ys i 0) 0
      step_at i low (inl is) = at_end (i + 1) is ∙ w.last i is ∙ ap (λ t. get_or next t 0) (sym (old i low))
      step_at i low (inr other) =
          let inner : i + 1 < length xs = omega (arith, low, other) in
          old (i + 1) inner ∙ w.steps i inner ∙ ap (λ t. get_or next t 0) (sym (old i low))

  -- as the program writes it
  pub one_more : (zs : List ℕ) (count : ℕ)
      → zs ≡ ys
      → count ≡ length xs
      → IsWalked next s zs (get_or next at 0) (set places at (Some count))
  one_more zs count states place =
      subst (λ vs. IsWalked next s vs (get_or next at 0) (set places at (Some count))) (sym states)
      (subst (λ k. IsWalked next s ys (get_or next at 0) (set places at (Some k))) (sym place) walked_more)

-- where a place is read
pub none_read : (ps : List (Option ℕ)) (k : ℕ) (p : Option ℕ)
    → k < length ps
    → p ≡ get_or ps k p
    → is_some p ≡ false
    → get_or ps k None ≡ None
none_read ps k None low is none = sym is
none_read ps k (Some i) low is none = absurd (true≢false none)

pub some_read : (ps : List (Option ℕ)) (k i : ℕ) (p : Option ℕ)
    → k < length ps
    → p ≡ get_or ps k p
    → p ≡ Some i
    → get_or ps k None ≡ Some i
some_read ps k i p low is some = sym (get_or_read_under ps k (length ps) p None is low refl) ∙ some

-- fewer states have no place then
pub fewer_nones : (ps : List (Option ℕ)) (k i : ℕ) → k < length ps → get_or ps k None ≡ None
    → suc (nones (set ps k (Some i))) ≡ nones ps
fewer_nones [] k i low none = absurd (omega (arith, low))
fewer_nones (None ∷ ps) zero i low none = refl
fewer_nones (Some j ∷ ps) zero i low none = absurd (cc)
fewer_nones (None ∷ ps) (suc k) i low none = ap suc (fewer_nones ps k i (omega (arith, low)) none)
fewer_nones (Some j ∷ ps) (suc k) i low none = fewer_nones ps k i (omega (arith, low)) none

-- ---- where a state comes again

pub comes_again : (next : List ℕ) (s : ℕ) (xs : List ℕ) (at : ℕ) (places : List (Option ℕ)) (start : ℕ)
    → IsWalked next s xs at places
    → get_or places at None ≡ Some start
    → IsWordOf next s xs start
comes_again next s xs at places start w is =
    let here = w.found at start is in record {
      start_inside = here.0;
      first = w.first (omega (arith, here.0));
      all_inside = w.all_inside;
      steps = w.steps;
      closes = λ i last. here.1 ∙ w.last i last;
      differ = λ i j low under same.
          let one : Some i ≡ Some j =
          sym (w.stand i low) ∙ ap (λ t. get_or places t None) same ∙ w.stand j under in
          cc;
    }

-- ---- the path

pub is_word : (m : Structure) (next : List ℕ) (s : ℕ) (xs : List ℕ) (start : ℕ)
    → Leads m next
    → IsWordOf next s xs start
    → IsWordFrom m s (lasso_from xs start)
is_word m next s xs start leads w = record {
  is_path = record {
    is_path = record { starts = w.start_inside; joined = λ k low. joined k low (cases_eq (k + 1) (length xs)) };
    starts_at = w.first;
  };
  differ = w.differ;
}
  where
    goes : (k : ℕ) → k < length xs → has_step m (get_or xs k 0) (get_or next (get_or xs k 0) 0) ≡ true
    goes k low = leads.leads (get_or xs k 0) (let inside = w.all_inside k low in omega (arith, inside, leads.each_state))

    joined : (k : ℕ) → k < length xs → (k + 1 ≡ length xs) ⊎ (k + 1 ≡ length xs → ⊥)
        → has_step m (get_or (xs ++ get_or xs start 0 ∷ []) k 0) (get_or (xs ++ get_or xs start 0 ∷ []) (k + 1) 0) ≡ true
    joined k low (inl last) =
        subst (λ t. has_step m t (get_or (xs ++ get_or xs start 0 ∷ []) (k + 1) 0) ≡ true)
        (sym (round-entry (lasso_from xs start) k low))
        (subst (λ t. has_step m (get_or xs k 0) t ≡ true)
        (sym (round-end (lasso_from xs start) (k + 1) last ∙ w.closes k last)) (goes k low))
    joined k low (inr other) =
        subst (λ t. has_step m t (get_or (xs ++ get_or xs start 0 ∷ []) (k + 1) 0) ≡ true)
        (sym (round-entry (lasso_from xs start) k low))
        (subst (λ t. has_step m (get_or xs k 0) t ≡ true)
        (sym (round-entry (lasso_from xs start) (k + 1) inner ∙ w.steps k inner)) (goes k low))
      where
        inner : k + 1 < length xs
        inner = omega (arith, low, other)
