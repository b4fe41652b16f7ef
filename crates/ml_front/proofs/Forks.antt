-- A structure has exactly one edge by `_` from each state, or there is a first state where it hasn't.
--
--   leads_elsewhere  == does an edge by `_` lead from s to another state than t?
--   elsewhere, only_there == where one does, s is a fork; where none does, a step leads to t alone
--   one_step_or_fork == exactly one such edge leads from a state, or the state is a fork
--   word_or_fork     == so it is from each state, or there is a first fork
use Rattle.std.proofs.Common.{arith, ◌≡◌, ◌⊎◌, ◌==◌, ◌&&◌, ◌<◌, ℕ, Bool, true, false, not, bytes_eq, codes, inl, inr, refl, sym, ◌∙◌, eqb-true}
use Rattle.std.specs.List.{list_any}
use Rattle.std.proofs.lemmas.Bool.{and_from, and_parts, cases_eq, true≢false}
use Rattle.std.proofs.lemmas.Bool.Decides.{Decides-eqb, nat_tests}
use Rattle.ml_base.specs.Structure.{Structure, IsStructure}
use Rattle.ml_base.specs.declared.structure.Edge.{Edge}
use Rattle.ml_ctl.specs.Paths.{has_step}
use Rattle.ml_lists.specs.Search.{IsFirst}
use Rattle.ml_lists.specs.Found.{First}
use Rattle.ml_lists.proofs.Decided.{Decided}
use Rattle.ml_lists.proofs.Member.{list_any-member, member-list_any}
use Rattle.ml_lists.proofs.Search.{search_first}
use Rattle.ml_word_graph.specs.Problem.{HasOneStep, IsFork}
use Rattle.ml_word_graph.specs.Problem as word
use Rattle.ml_front.specs.Problems.{IsDeadlock}
use Rattle.ml_front.proofs.Deadlocks.{goes_on, no_deadlock}

module _ (m : Structure) (s t : ℕ) (is : has_step m s t ≡ true) where
  abbrev leaves : Edge → Bool
  leaves e = (e.source == s) && bytes_eq e.action (codes "_")

  abbrev leads_elsewhere : Edge → Bool
  leads_elsewhere e = leaves e && not (e.target == t)

  other_number : (u : ℕ) → not (u == t) ≡ true → u ≡ t → ⊥
  other_number u differs same = grind (arith, nat_tests)

  elsewhere : list_any leads_elsewhere m.edges ≡ true → IsFork m s
  elsewhere some one =
      let found = list_any-member leads_elsewhere m.edges some in
      let e = found.item in
      let parts = and_parts (leaves e) (not (e.target == t)) found.passes in
      let step : has_step m s e.target ≡ true =
      member-list_any (λ x. leaves x && (x.target == e.target)) e m.edges found.member
      (and_from (leaves e) (e.target == e.target) parts.0 ((Decides-eqb e.target e.target).1 refl)) in
      other_number e.target parts.1 (one.only e.target step ∙ sym (one.only t is))

  only_there : list_any leads_elsewhere m.edges ≡ false → (u : ℕ) → has_step m s u ≡ true → u ≡ t
  only_there none u step = by_case (cases_eq u t)
    where
      by_case : (u ≡ t) ⊎ (u ≡ t → ⊥) → u ≡ t
      by_case (inl same) = same
      by_case (inr differ) =
          let found = list_any-member (λ x. leaves x && (x.target == u)) m.edges step in
          let e = found.item in
          let parts = and_parts (leaves e) (e.target == u) found.passes in
          let is_u : e.target ≡ u = eqb-true e.target u parts.1 in
          let away : not (e.target == t) ≡ true = grind (arith, nat_tests) in
          let some =
          member-list_any leads_elsewhere e m.edges found.member (and_from (leaves e) (not (e.target == t)) parts.0 away) in
          absurd (true≢false (sym some ∙ none))

  by_test : (b : Bool) → list_any leads_elsewhere m.edges ≡ b → HasOneStep m s ⊎ IsFork m s
  by_test true some = inr (elsewhere some)
  by_test false none = inl (record { target = t; leads = is; only = only_there none })

  pub another_or_one : HasOneStep m s ⊎ IsFork m s
  another_or_one = by_test (list_any leads_elsewhere m.edges) refl

pub one_step_or_fork : (m : Structure) (s : ℕ) → HasOneStep m s ⊎ IsFork m s
one_step_or_fork m s = by_step (goes_on m s)
  where
    by_step : ((t : ℕ) × (has_step m s t ≡ true)) ⊎ IsDeadlock m s → HasOneStep m s ⊎ IsFork m s
    by_step (inl (t, is)) = another_or_one m s t is
    by_step (inr dead) = inr (λ one. no_deadlock m s (one.target, one.leads) dead)

pub word_or_fork : (m : Structure) → IsStructure m → word.IsAdmitted m ⊎ ((s : ℕ) × IsFirst (IsFork m) m.states s)
word_or_fork m is = by_search (search_first (IsFork m) decided m.states)
  where
    decided : (s : ℕ) → Decided (IsFork m s)
    decided s = turned (one_step_or_fork m s)
      where
        turned : HasOneStep m s ⊎ IsFork m s → Decided (IsFork m s)
        turned (inl one) = inr (λ fork. fork one)
        turned (inr fork) = inl fork

    one_step : ((s : ℕ) → s < m.states → IsFork m s → ⊥) → (s : ℕ) → s < m.states → HasOneStep m s
    one_step none s low = by_case (one_step_or_fork m s)
      where
        by_case : HasOneStep m s ⊎ IsFork m s → HasOneStep m s
        by_case (inl one) = one
        by_case (inr fork) = absurd (none s low fork)

    by_search : First (IsFork m) m.states ⊎ ((s : ℕ) → s < m.states → IsFork m s → ⊥)
        → word.IsAdmitted m ⊎ ((s : ℕ) × IsFirst (IsFork m) m.states s)
    by_search (inl f) = inr (f.place, f.is_first)
    by_search (inr none) = inl (record { is_structure = is; one_step = one_step none })
