-- Deadlocks: the least state without an edge by `_` is the first of them.
--
--   a_step          == a state that goes on has a step
--   goes_with_step  == and a state with a step goes on
--   total_steps     == where each state goes on, each has a step
--   first_deadlock  == the least state that doesn't go on is the first deadlock
--   deadlock_found  == so the one or the other is found
use Rattle.std.proofs.Common.{◌≡◌, ◌==◌, ◌&&◌, ℕ, Bool, true, false, List, [], ◌∷◌, Option, Some, None, IsTrue, MatchOption, bytes_eq, codes, refl, sym, subst, ◌∙◌, ⊎_elim}
use Rattle.std.specs.List.{list_any}
use Rattle.std.proofs.lemmas.Bool.{and_from, and_parts, or_cases, or_left, or_right, false≢true, true≢false}
use Rattle.std.proofs.lemmas.Bool.Decides.{Decides-eqb}
use Rattle.ml_base.specs.Structure.{Structure, IsStructure}
use Rattle.ml_base.specs.declared.structure.Edge.{Edge}
use Rattle.ml_ctl.specs.Paths as paths
use Rattle.ml_ctl.specs.Paths.{has_step}
use Rattle.ml_ctl.specs.Problem as ctl
use Rattle.ml_kripke.specs.Total.{IsLeastDead, IsTotal, goes_on}
use Rattle.ml_lists.specs.Search.{IsFirst}
use Rattle.ml_front.specs.Problems.{IsDeadlock}

abbrev leaves : ℕ → Edge → Bool
leaves s e = (e.source == s) && bytes_eq e.action (codes "_")

abbrev goes : ℕ → ℕ → Edge → Bool
goes s t e = leaves s e && (e.target == t)

a_step : (s : ℕ) (es : List Edge) → list_any (leaves s) es ≡ true → (t : ℕ) × (list_any (goes s t) es ≡ true)
a_step s [] is = absurd (false≢true is)
a_step s (e ∷ es) is =
    ⊎_elim
    (λ (here : leaves s e ≡ true).
    let there = and_from (leaves s e) (e.target == e.target) here ((Decides-eqb e.target e.target).1 refl) in
    (e.target, or_left (goes s e.target e) (list_any (goes s e.target) es) there))
    (λ (later : list_any (leaves s) es ≡ true).
    let step = a_step s es later in (step.0, or_right (goes s step.0 e) (list_any (goes s step.0) es) step.1))
    (or_cases (leaves s e) (list_any (leaves s) es) is)

goes_with_step : (s t : ℕ) (es : List Edge) → list_any (goes s t) es ≡ true → list_any (leaves s) es ≡ true
goes_with_step s t [] is = absurd (false≢true is)
goes_with_step s t (e ∷ es) is =
    ⊎_elim
    (λ (here : goes s t e ≡ true).
    or_left (leaves s e) (list_any (leaves s) es) (and_parts (leaves s e) (e.target == t) here).0)
    (λ (later : list_any (goes s t) es ≡ true).
    or_right (leaves s e) (list_any (leaves s) es) (goes_with_step s t es later))
    (or_cases (goes s t e) (list_any (goes s t) es) is)

module _ (m : Structure) where
  pub total_steps : IsTotal m (codes "_") → paths.IsTotal m
  total_steps total s low = a_step s m.edges (total s low)

  deadlock : (s : ℕ) → ¬ (IsTrue (goes_on m (codes "_") s)) → IsDeadlock m s
  deadlock s dead t = go (has_step m s t) refl
    where
      go : (b : Bool) → has_step m s t ≡ b → b ≡ false
      go false is = refl
      go true is = absurd (dead (goes_with_step s t m.edges is))

  pub first_deadlock : (s : ℕ) → IsLeastDead m (codes "_") s → IsFirst (IsDeadlock m) m.states s
  first_deadlock s least = record {
    below = least.is_state;
    holds = deadlock s least.is_dead;
    before = λ t low dead. let step = a_step t m.edges (least.others_go_on t low) in true≢false (sym step.1 ∙ dead step.0);
  }

-- a is the action `_`, as the program holds it
pub deadlock_found : (m : Structure) (a : List ℕ) (found : Option ℕ)
    → IsStructure m
    → a ≡ codes "_"
    → MatchOption found (IsTotal m a) (IsLeastDead m a)
    → MatchOption found (ctl.IsAdmitted m) (IsFirst (IsDeadlock m) m.states)
deadlock_found m a None is blank total = record {
  is_structure = is;
  is_total = total_steps m (subst (IsTotal m) blank total);
}
deadlock_found m a (Some s) is blank least = first_deadlock m s (subst (λ b. IsLeastDead m b s) blank least)
