-- The path from each state of a structure in which each state has exactly one edge by `_`.
--
--   next_state m ok s   == where that edge leads from s
--   only_next           == no other edge does
--   path_goes           == each path goes from state to state like this
--   a_word              == from each state goes the lasso of the states until one comes again
use Rattle.std.proofs.Common.{◌≡◌, ◌≢◌, ℕ, zero, suc, ◌+◌, ◌<◌, ◌≤◌, ◌⊎◌, ◌==◌, ◌&&◌, true, codes, bytes_eq, inl, inr, refl, sym, ap, subst, ◌∙◌, ⊎_elim, eqb-true, arith}
use Rattle.std.proofs.lemmas.Bool.{and_parts, cases_eq, cases_lt}
use Rattle.ml_lists.specs.Lasso.{Lasso, entry, next_place}
use Rattle.ml_lists.specs.Walk.{walk}
use Rattle.ml_lists.specs.Found.{Found, First}
use Rattle.ml_lists.specs.Pigeons.{Twice}
use Rattle.ml_lists.proofs.Pigeons.{pigeons}
use Rattle.ml_lists.proofs.Search.{search, search_first}
use Rattle.ml_lists.proofs.Lasso.{lasso_of, lasso_of-length, lasso_of-entry, lasso_of_is}
use Rattle.ml_lists.proofs.Walks.{walk_keeps, walk-add-one}
use Rattle.ml_lists.proofs.Unrolling.{next_step, next_place_low}
use Rattle.ml_lists.proofs.Member.{list_any-member, All-member}
use Rattle.ml_base.specs.declared.structure.Edge.{Edge}
use Rattle.ml_base.specs.Structure.{Structure}
use Rattle.ml_ctl.specs.Paths.{IsPath, IsTotal, has_step}
use Rattle.ml_ctl.specs.Unrolled.{IsPlace, after}
use Rattle.ml_ctl.proofs.TotalPaths.{next, next_steps}
use Rattle.ml_word_graph.specs.Problem.{IsAdmitted, IsWordFrom}

module _ (m : Structure) (ok : IsAdmitted m) where
  total : IsTotal m
  total s low = ((ok.one_step s low).target, (ok.one_step s low).leads)

  pub next_state : ℕ → ℕ
  next_state s = next m total s

  pub next_leads : (s : ℕ) → s < m.states → has_step m s (next_state s) ≡ true
  unfolding next_state
  next_leads s low = next_steps m total s low

  pub only_next : (s : ℕ) → s < m.states → (t : ℕ) → has_step m s t ≡ true → t ≡ next_state s
  only_next s low t leads = (ok.one_step s low).only t leads ∙ sym ((ok.one_step s low).only (next_state s) (next_leads s low))

  step_low : (s t : ℕ) → has_step m s t ≡ true → t < m.states
  step_low s t leads =
      let some = list_any-member (λ e. (e.source == s) && bytes_eq e.action (codes "_") && (e.target == t)) m.edges leads in
      let parts = and_parts ((some.item.source == s) && bytes_eq some.item.action (codes "_")) (some.item.target == t) some.passes in
      let ends = All-member (λ (e : Edge). (e.source < m.states) × (e.target < m.states)) m.edges ok.is_structure.joins_states
      some.item some.member in
      subst (λ u. u < m.states) (eqb-true some.item.target t parts.1) ends.1

  pub next_low : (s : ℕ) → s < m.states → next_state s < m.states
  next_low s low = step_low s (next_state s) (next_leads s low)

  -- ---- along a path

  pub path_step : (l : Lasso) → IsPath m l → (i : ℕ) → IsPlace l i → entry l i < m.states
      → entry l (next_place l i) ≡ next_state (entry l i)
  path_step l path i place low =
      only_next (entry l i) low (entry l (next_place l i)) (next_step (λ s t. has_step m s t ≡ true) l path i place.1)

  pub record Goes (l : Lasso) (i k : ℕ) : Type 0 where
    pub place : IsPlace l (after l i k)
    pub low : entry l (after l i k) < m.states
    pub is : entry l (after l i k) ≡ walk next_state (entry l i) k

  pub path_goes : (l : Lasso) → IsPath m l → (i : ℕ) → IsPlace l i → entry l i < m.states → (k : ℕ) → Goes l i k
  path_goes l path i place low zero = record { place = place; low = low; is = refl }
  path_goes l path i place low (suc k) =
      let so_far = path_goes l path i place low k in
      let step = path_step l path (after l i k) so_far.place so_far.low in
      record {
        place = (place.0, next_place_low l place.0 (after l i k) so_far.place.1);
        low = subst (λ t. t < m.states) (sym step) (next_low (entry l (after l i k)) so_far.low);
        is = step ∙ ap next_state so_far.is;
      }

  -- ---- from each state

  module _ (s : ℕ) (s_low : s < m.states) where
    passed : ℕ → ℕ
    passed k = walk next_state s k

    passed_is : (k : ℕ) → passed k ≡ walk next_state s k
    unfolding passed
    passed_is k = refl

    along : (k : ℕ) → passed k < m.states
    unfolding passed
    along k = walk_keeps next_state (λ t. t < m.states) next_low s s_low k

    steps : (k : ℕ) → has_step m (passed k) (passed (k + 1)) ≡ true
    unfolding passed
    steps k =
        subst (λ t. has_step m (walk next_state s k) t ≡ true) (sym (walk-add-one next_state s k))
        (next_leads (walk next_state s k) (along k))

    -- the state k has come before
    abbrev Comes : ℕ → Type 0
    Comes k = Found (λ j. passed j ≡ passed k) k

    comes_or_not : (k : ℕ) → Comes k ⊎ (Comes k → ⊥)
    comes_or_not k =
        ⊎_elim (λ (found : Comes k). inl found)
        (λ (none : (j : ℕ) → j < k → passed j ≢ passed k). inr (λ found. none found.place found.below found.holds))
        (search (λ j. passed j ≡ passed k) (λ j. passed j ≢ passed k) (λ j. cases_eq (passed j) (passed k)) k)

    from_first : First Comes (suc m.states) → (l : Lasso) × IsWordFrom m s l
    unfolding passed
    from_first f =
        let i : ℕ = f.is_first.holds.place in
        let j : ℕ = f.place in
        let apart = f.is_first.holds.below in (
          lasso_of passed i j,
          record {
            is_path = record {
              is_path = lasso_of_is (λ t u. has_step m t u ≡ true) passed i j apart f.is_first.holds.holds (λ k low. steps k);
              starts_at = lasso_of-entry passed i j 0 (omega (arith, apart));
            };
            differ = λ a b a_low b_low same.
                let size = lasso_of-length passed i j in
                let one = lasso_of-entry passed i j a (omega (arith, a_low, size)) in
                let two = lasso_of-entry passed i j b (omega (arith, b_low, size)) in
                alike f a b (omega (arith, a_low, size)) (omega (arith, b_low, size)) (sym one ∙ same ∙ two);
          },
        )
      where
        alike : (f : First Comes (suc m.states)) (a b : ℕ) → a < f.place → b < f.place → passed a ≡ passed b → a ≡ b
        alike f a b a_low b_low same =
            ⊎_elim (λ (less : a < b). absurd (f.is_first.before b b_low (record { place = a; below = less; holds = same })))
            (λ (more : b ≤ a). ⊎_elim (λ (less : b < a). absurd (f.is_first.before a a_low (record { place = b; below = less; holds = sym same })))
            (λ (le : a ≤ b). omega (arith, more, le)) (cases_lt b a))
            (cases_lt a b)

    pub a_word : (l : Lasso) × IsWordFrom m s l
    a_word =
        ⊎_elim (λ (f : First Comes (suc m.states)). from_first f)
        (λ (none : (k : ℕ) → k < suc m.states → Comes k → ⊥). absurd (never none (pigeons m.states passed (λ k low. along k))))
        (search_first Comes comes_or_not (suc m.states))
      where
        never : ((k : ℕ) → k < suc m.states → Comes k → ⊥) → Twice passed m.states → ⊥
        never none t = none t.second (omega (arith, t.within)) (record { place = t.first; below = t.apart; holds = t.same })
