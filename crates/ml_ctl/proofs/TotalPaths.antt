-- From each state of a structure in which each state has an edge by `_`, some path starts.
--
--   ends_within        == a step ends at a state
--   next, next_steps   == one step from each state
--   paths_start        == the law: walk along one step for each state
use Rattle.std.proofs.Common.{ℕ, ◌≡◌, ◌<◌, ◌≤◌, ◌⊎◌, ◌==◌, ◌&&◌, Bool, true, List, [], ◌∷◌, All, bytes_eq, codes, inl, inr, arith, sym, subst, ⊎_elim, eqb-true, get_or, length, ◌+◌}
use Rattle.std.specs.List.{list_any}
use Rattle.std.proofs.lemmas.Bool.{cases_lt, and_parts, or_cases, false≢true}
use Rattle.std.proofs.lemmas.List.Elements.{All-head, All-tail}
use Rattle.ml_base.specs.Structure.{Structure}
use Rattle.ml_base.specs.declared.structure.Edge.{Edge}
use Rattle.ml_lists.specs.Lasso.{Lasso, round}
use Rattle.ml_lists.proofs.Walks.{WalkLasso, walk_lasso}
use Rattle.ml_ctl.specs.Laws.{PathsStart}
use Rattle.ml_ctl.specs.Paths.{IsPathFrom, IsTotal, has_step}

abbrev goes : ℕ → ℕ → Edge → Bool
goes s t e = (e.source == s) && bytes_eq e.action (codes "_") && (e.target == t)

abbrev Within : ℕ → Edge → Type 0
Within n e = (e.source < n) × (e.target < n)

ends_within : (n s t : ℕ) (es : List Edge) → All (Within n) es → list_any (goes s t) es ≡ true → t < n
ends_within n s t [] all is = absurd (false≢true is)
ends_within n s t (e ∷ es) all is =
    ⊎_elim
    (λ (here : goes s t e ≡ true).
    let parts = and_parts ((e.source == s) && bytes_eq e.action (codes "_")) (e.target == t) here in
    let ends = (All-head (Within n) e es all).1 in
    subst (λ u. u < n) (eqb-true e.target t parts.1) ends)
    (λ (later : list_any (goes s t) es ≡ true). ends_within n s t es (All-tail (Within n) e es all) later)
    (or_cases (goes s t e) (list_any (goes s t) es) is)

-- one step from each state; from other numbers, of which nothing is asked, to 0
module _ (m : Structure) (total : IsTotal m) where
  chosen : (s : ℕ) → (s < m.states) ⊎ (m.states ≤ s) → ℕ
  chosen s (inl low) = (total s low).0
  chosen s (inr past) = 0

  chosen_steps : (s : ℕ) (c : (s < m.states) ⊎ (m.states ≤ s)) → s < m.states → has_step m s (chosen s c) ≡ true
  unfolding chosen
  chosen_steps s (inl low) is = (total s low).1
  chosen_steps s (inr past) is = absurd (omega arith)

  pub next : ℕ → ℕ
  next s = chosen s (cases_lt s m.states)

  pub next_steps : (s : ℕ) → s < m.states → has_step m s (next s) ≡ true
  unfolding next
  next_steps s low = chosen_steps s (cases_lt s m.states) low

pub paths_start : PathsStart
paths_start m admitted s low =
    from (walk_lasso (next m admitted.is_total) (λ t. t < m.states) m.states (λ t is. is) closed s low)
  where
    closed : (t : ℕ) → t < m.states → next m admitted.is_total t < m.states
    closed t is =
        ends_within m.states t (next m admitted.is_total t) m.edges admitted.is_structure.joins_states (next_steps m admitted.is_total t is)

    from : WalkLasso (next m admitted.is_total) (λ t. t < m.states) s → (l : Lasso) × IsPathFrom m s l
    from w = (w.lasso, record { is_path = record { starts = w.starts; joined = joined }; starts_at = w.begins })
      where
        joined : (k : ℕ)
            → k < length w.lasso.entries
            → has_step m (get_or (round w.lasso) k 0) (get_or (round w.lasso) (k + 1) 0) ≡ true
        joined k under =
            subst (λ t. has_step m (get_or (round w.lasso) k 0) t ≡ true) (sym (w.steps k under))
            (next_steps m admitted.is_total (get_or (round w.lasso) k 0) (w.inside k (omega arith)))
