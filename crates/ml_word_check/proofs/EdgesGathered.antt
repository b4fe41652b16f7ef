-- Where the edges by `_` of each state lead, as they are gathered, and when they make a structure of words.
--
--   none_yet       == of no edges there are none
--   one_more       == with an edge more
--   edge_more      == that a structure has
--   none_passes_at == where no entry of a list passes a test, each fails it
--   one_or_fork    == a state from which exactly one edge leads has one step, and every other one is a fork
--   word_found     == so a structure is one of words, or has a first fork
--   all_only, leads_along == where it has none, exactly one edge leads from each state, and it is told where
use Rattle.std.proofs.Common.{ℕ, ◌≡◌, ◌==◌, ◌&&◌, ◌||◌, ◌<◌, ◌≤◌, ◌+◌, ◌⊎◌, inl, inr, Bool, true, false, not, nat_lt, if◌then◌else◌, List, [], ◌∷◌, ◌++◌, All}
use Rattle.std.proofs.Common.{length, map, get_or, set, take, replicate, Option, Some, None, MatchOption, bytes_eq, codes, refl, sym, ap, ◌∙◌, subst, arith}
use Rattle.std.specs.List.{position, position_or_len, slice_get}
use Rattle.std.proofs.lemmas.Bool.{and_parts, cases_eq, cases_lt, cond-true, or_cases, or_left, or_right, false≢true, not-true, true≢false, not-false}
use Rattle.std.proofs.lemmas.Bool.Decides.{Decides-eqb, nat_tests}
use Rattle.std.proofs.lemmas.List.{get_or-set_same, get_or-set_other, get_or-map, get_or-replicate, length-map, length-replicate, length-set, take_more}
use Rattle.std.proofs.lemmas.List.Elements.{All-get_or}
use Rattle.std.proofs.lemmas.Option.{get_or_from_slice_get, slice_get_within}
use Rattle.std.proofs.lemmas.List.Folds.{list_any-append}
use Rattle.std.proofs.lemmas.List.Quantifiers.{position-Some}
use Rattle.std.proofs.lemmas.List.Sums.{fails_before_first}
use Rattle.ml_base.specs.Structure.{Structure, IsStructure}
use Rattle.ml_base.specs.declared.structure.Edge.{Edge}
use Rattle.ml_lists.specs.Search.{IsFirst}
use Rattle.ml_ctl.specs.Paths.{has_step}
use Rattle.ml_word_graph.specs.Problem.{HasOneStep, IsFork}
use Rattle.ml_word_graph.specs.Problem as word
use Rattle.ml_word_graph.proofs.Words.{next_low, only_next}
use Rattle.ml_word_check.specs.declared.steps.Steps.{Steps}
use Rattle.ml_word_check.specs.declared.steps.Steps.TheVariants.{Nowhere, Only, Apart}
use Rattle.ml_word_check.specs.private.Steps.{AllTell, Tells, goes, is_only, leaves, some_goes, target_of, with_edge, with_target}
use Rattle.ml_word_check.specs.private.Walked.{Leads}

-- ---- gathered

pub none_yet : (n : ℕ) → AllTell n [] (replicate n Nowhere)
none_yet n = record {
  each_state = length-replicate n Nowhere;
  tell = λ s low. subst (Tells s []) (sym (get_or-replicate n s Nowhere Nowhere low)) (λ t. refl);
}

module _ (s : ℕ) (es : List Edge) (e : Edge) where
  seen : (t : ℕ) → some_goes s (es ++ e ∷ []) t ≡ (some_goes s es t || (goes s t e || false))
  seen t = list_any-append (goes s t) es (e ∷ [])

  stays_false : (t : ℕ) → some_goes s es t ≡ false → goes s t e ≡ false → some_goes s (es ++ e ∷ []) t ≡ false
  stays_false t a b = seen t ∙ ap (λ x. x || (goes s t e || false)) a ∙ ap (λ x. x || false) b

  stays_true : (t : ℕ) → some_goes s es t ≡ true → some_goes s (es ++ e ∷ []) t ≡ true
  stays_true t a = seen t ∙ or_left (some_goes s es t) (goes s t e || false) a

  came_true : (t : ℕ) → goes s t e ≡ true → some_goes s (es ++ e ∷ []) t ≡ true
  came_true t a = seen t ∙ or_right (some_goes s es t) (goes s t e || false) (or_left (goes s t e) false a)

  before_or_now : (t : ℕ) → some_goes s (es ++ e ∷ []) t ≡ true → (some_goes s es t ≡ true) ⊎ (goes s t e ≡ true)
  before_or_now t a = by_case (or_cases (some_goes s es t) (goes s t e || false) (sym (seen t) ∙ a))
    where
      last : (goes s t e ≡ true) ⊎ (false ≡ true) → goes s t e ≡ true
      last (inl is) = is
      last (inr wrong) = absurd (false≢true wrong)

      by_case : (some_goes s es t ≡ true) ⊎ ((goes s t e || false) ≡ true)
          → (some_goes s es t ≡ true) ⊎ (goes s t e ≡ true)
      by_case (inl is) = inl is
      by_case (inr is) = inr (last (or_cases (goes s t e) false is))

  -- an edge that doesn't leave the state
  kept : leaves s e ≡ false → (x : Steps) → Tells s es x → Tells s (es ++ e ∷ []) x
  kept away x tells = by_steps x tells
    where
      no : (t : ℕ) → goes s t e ≡ false
      no t = ap (λ b. b && (e.target == t)) away

      before : (t : ℕ) → some_goes s (es ++ e ∷ []) t ≡ true → some_goes s es t ≡ true
      before t is = by_case (before_or_now t is)
        where
          by_case : (some_goes s es t ≡ true) ⊎ (goes s t e ≡ true) → some_goes s es t ≡ true
          by_case (inl there) = there
          by_case (inr wrong) = absurd (false≢true (sym (no t) ∙ wrong))

      by_steps : (x : Steps) → Tells s es x → Tells s (es ++ e ∷ []) x
      by_steps Nowhere none = λ t. stays_false t (none t) (no t)
      by_steps (Only t) only = (stays_true t only.0, λ u is. only.1 u (before u is))
      by_steps Apart (t, u, apart, there, also) = (t, u, apart, stays_true t there, stays_true u also)

  -- and one that does
  joined : leaves s e ≡ true → (x : Steps) → Tells s es x → Tells s (es ++ e ∷ []) (with_target x e.target)
  joined here x tells = by_steps x tells
    where
      to_target : goes s e.target e ≡ true
      to_target = ap (λ b. b && (e.target == e.target)) here ∙ (Decides-eqb e.target e.target).1 refl

      now_there : some_goes s (es ++ e ∷ []) e.target ≡ true
      now_there = came_true e.target to_target

      is_target : (u : ℕ) → goes s u e ≡ true → u ≡ e.target
      is_target u is = sym ((Decides-eqb e.target u).0 (and_parts (leaves s e) (e.target == u) is).1)

      by_target : (t : ℕ) → Tells s es (Only t) → (b : Bool) → (t == e.target) ≡ b
          → Tells s (es ++ e ∷ []) (if b then Only t else Apart)
      by_target t only true same = (stays_true t only.0, others)
        where
          others : (u : ℕ) → some_goes s (es ++ e ∷ []) u ≡ true → u ≡ t
          others u is = by_case (before_or_now u is)
            where
              by_case : (some_goes s es u ≡ true) ⊎ (goes s u e ≡ true) → u ≡ t
              by_case (inl there) = only.1 u there
              by_case (inr now) = is_target u now ∙ sym ((Decides-eqb t e.target).0 same)
      by_target t only false differ =
          (t, e.target, (λ same. true≢false (sym ((Decides-eqb t e.target).1 same) ∙ differ)), stays_true t only.0, now_there)

      by_steps : (x : Steps) → Tells s es x → Tells s (es ++ e ∷ []) (with_target x e.target)
      by_steps Nowhere none = (now_there, others)
        where
          others : (u : ℕ) → some_goes s (es ++ e ∷ []) u ≡ true → u ≡ e.target
          others u is = by_case (before_or_now u is)
            where
              by_case : (some_goes s es u ≡ true) ⊎ (goes s u e ≡ true) → u ≡ e.target
              by_case (inl wrong) = absurd (true≢false (sym wrong ∙ none u))
              by_case (inr now) = is_target u now
      by_steps (Only t) only = by_target t only (t == e.target) refl
      by_steps Apart (t, u, apart, there, also) = (t, u, apart, stays_true t there, stays_true u also)

module _ (n : ℕ) (es : List Edge) (e : Edge) (rows : List Steps) (inside : e.source < n) (all : AllTell n es rows) where
  abbrev row : Steps
  row = with_target (get_or rows e.source Nowhere) e.target

  by_blank : (b : Bool)
      → bytes_eq e.action (codes "_") ≡ b
      → AllTell n (es ++ e ∷ []) (if b then set rows e.source row else rows)
  by_blank false other = record {
    each_state = all.each_state;
    tell = λ s low. kept s es e (away s) (get_or rows s Nowhere) (all.tell s low);
  }
    where
      away : (s : ℕ) → leaves s e ≡ false
      away s = by_source (e.source == s)
        where
          by_source : (b : Bool) → (b && bytes_eq e.action (codes "_")) ≡ false
          by_source true = other
          by_source false = refl
  by_blank true blank = record { each_state = length-set rows e.source row ∙ all.each_state; tell = at_state }
    where
      at_state : (s : ℕ) → s < n → Tells s (es ++ e ∷ []) (get_or (set rows e.source row) s Nowhere)
      at_state s low = by_case (cases_eq s e.source)
        where
          by_case : (s ≡ e.source) ⊎ (s ≡ e.source → ⊥)
              → Tells s (es ++ e ∷ []) (get_or (set rows e.source row) s Nowhere)
          by_case (inl same) =
              subst (λ k. Tells k (es ++ e ∷ []) (get_or (set rows e.source row) k Nowhere)) (sym same)
              (subst (Tells e.source (es ++ e ∷ []))
              (sym (get_or-set_same rows e.source row Nowhere (omega (arith, inside, all.each_state))))
              (joined e.source es e (ap (λ b. b && bytes_eq e.action (codes "_")) ((Decides-eqb e.source e.source).1 refl) ∙ blank)
              (get_or rows e.source Nowhere) (all.tell e.source inside)))
          by_case (inr other) =
              subst (Tells s (es ++ e ∷ [])) (sym (get_or-set_other rows e.source s row Nowhere other))
              (kept s es e (ap (λ b. b && bytes_eq e.action (codes "_")) away) (get_or rows s Nowhere) (all.tell s low))
            where
              away : (e.source == s) ≡ false
              away = grind (arith, nat_tests)

  one_more : AllTell n (es ++ e ∷ []) (with_edge rows e)
  one_more = by_blank (bytes_eq e.action (codes "_")) refl

-- an edge more of a structure's
pub edge_more : (m : Structure) → IsStructure m → (i : ℕ) (e : Edge) (rows new : List Steps)
    → slice_get m.edges i ≡ Some e
    → AllTell m.states (take i m.edges) rows
    → new ≡ with_edge rows e
    → AllTell m.states (take (i + 1) m.edges) new
edge_more m is i e rows new at all with =
    let low = slice_get_within m.edges i e at in
    let entry = get_or_from_slice_get m.edges i e e at in
    let inside : e.source < m.states =
    subst (λ x. x.source < m.states) entry
    (All-get_or (λ x. (x.source < m.states) × (x.target < m.states)) m.edges i e low is.joins_states).0 in
    let taken : take (i + 1) m.edges ≡ take i m.edges ++ e ∷ [] =
    take_more m.edges i e low ∙ ap (λ x. take i m.edges ++ x ∷ []) entry in
    subst (AllTell m.states (take (i + 1) m.edges)) (sym with)
    (subst (λ es. AllTell m.states es (with_edge rows e)) (sym taken) (one_more m.states (take i m.edges) e rows inside all))

-- ---- words

-- where none passes, each place fails
none_passes_at : {X : Type 0} (p : X → Bool) (xs : List X) (d : X)
    → position p xs ≡ None
    → (k : ℕ)
    → k < length xs
    → p (get_or xs k d) ≡ false
none_passes_at p xs d none k low = fails_before_first p xs k d (by_case (cases_lt (position_or_len p xs) (length xs)))
  where
    by_case : (position_or_len p xs < length xs) ⊎ (length xs ≤ position_or_len p xs) → k < position_or_len p xs
    by_case (inr past) = omega (arith, past, low)
    by_case (inl less) =
        let test : nat_lt (position_or_len p xs) (length xs) ≡ true = grind (arith, nat_tests) in
        let wrong = sym (cond-true (nat_lt (position_or_len p xs) (length xs)) (Some (position_or_len p xs)) None test) ∙ none in
        absurd (cc)

module _ (m : Structure) (is : IsStructure m) (rows : List Steps) (all : AllTell m.states m.edges rows) where
  one_or_fork : (s : ℕ) (x : Steps)
      → Tells s m.edges x
      → ((is_only x ≡ true) → HasOneStep m s) × ((is_only x ≡ false) → IsFork m s)
  one_or_fork s Nowhere none =
      ((λ e. absurd (false≢true e)), λ e one. true≢false (sym one.leads ∙ none one.target))
  one_or_fork s (Only t) only = ((λ e. record { target = t; leads = only.0; only = only.1 }), λ e. absurd (true≢false e))
  one_or_fork s Apart (t, u, apart, there, also) =
      ((λ e. absurd (false≢true e)), λ e one. apart (one.only t there ∙ sym (one.only u also)))

  at_state : (s : ℕ) → s < m.states
      → ((is_only (get_or rows s Nowhere) ≡ true) → HasOneStep m s) × ((is_only (get_or rows s Nowhere) ≡ false) → IsFork m s)
  at_state s low = one_or_fork s (get_or rows s Nowhere) (all.tell s low)

  pub word_found : (found : Option ℕ)
      → found ≡ position (λ x. not (is_only x)) rows
      → MatchOption found (word.IsAdmitted m) (IsFirst (IsFork m) m.states)
  word_found None none = record {
    is_structure = is;
    one_step = λ s low.
        (at_state s low).0
        (not-false (is_only (get_or rows s Nowhere))
        (none_passes_at (λ x. not (is_only x)) rows Nowhere (sym none) s (omega (arith, low, all.each_state))));
  }
  word_found (Some s) some =
      let at = position-Some (λ x. not (is_only x)) rows s Nowhere (sym some) in
      let low : s < m.states = omega (arith, at.0, all.each_state) in
      record {
        below = low;
        holds = (at_state s low).1 (not-true (is_only (get_or rows s Nowhere)) at.1);
        before = λ t less fork.
            fork ((at_state t (omega (arith, less, low))).0 (not-false (is_only (get_or rows t Nowhere)) (at.2 t less)));
      }

  -- where no state is a fork
  module _ (none : position (λ x. not (is_only x)) rows ≡ None) where
    pub all_only : All (λ x. is_only x ≡ true) rows
    all_only k d low = not-false (is_only (get_or rows k d)) (none_passes_at (λ x. not (is_only x)) rows d none k low)

    goes_there : (s : ℕ) (x : Steps) → Tells s m.edges x → is_only x ≡ true → has_step m s (target_of x) ≡ true
    goes_there s Nowhere no_edge e = absurd (false≢true e)
    goes_there s (Only t) only e = only.0
    goes_there s Apart two e = absurd (false≢true e)

    pub leads_along : (next : List ℕ) → next ≡ map target_of rows → Leads m next
    leads_along next targets = record {
      each_state = ap length targets ∙ length-map rows target_of ∙ all.each_state;
      inside = λ s low.
          subst (λ t. t < m.states) (sym (only_next m ok s low (get_or next s 0) (leads s low))) (next_low m ok s low);
      leads = leads;
    }
      where
        ok : word.IsAdmitted m
        ok = word_found None (sym none)

        inside_rows : (s : ℕ) → s < m.states → s < length rows
        inside_rows s low = omega (arith, low, all.each_state)

        leads : (s : ℕ) → s < m.states → has_step m s (get_or next s 0) ≡ true
        leads s low =
            subst (λ t. has_step m s t ≡ true)
            (sym (ap (λ xs. get_or xs s 0) targets ∙ get_or-map target_of rows s Nowhere 0 (inside_rows s low)))
            (goes_there s (get_or rows s Nowhere) (all.tell s low) (all_only s Nowhere (inside_rows s low)))
