-- A structure has an edge from each state, or it has one first deadlock.
--
--   goes_on            == an edge leads from a state, or the state is a deadlock
--   no_deadlock        == and never both
--   total_or_deadlock  == each state has an edge, or there is a first deadlock
use Rattle.std.proofs.Common.{◌≡◌, ◌⊎◌, ◌==◌, ◌&&◌, ◌<◌, ℕ, Bool, true, false, List, [], ◌∷◌, bytes_eq, codes, inl, inr, refl, sym, ap, ◌∙◌, arith}
use Rattle.std.specs.List.{list_any}
use Rattle.std.proofs.lemmas.Bool.{and_from, or_from, or_left, or_right, true≢false}
use Rattle.std.proofs.lemmas.Bool.Decides.{nat_tests}
use Rattle.ml_base.specs.Structure.{Structure}
use Rattle.ml_base.specs.declared.structure.Edge.{Edge}
use Rattle.ml_ctl.specs.Paths.{IsTotal, has_step}
use Rattle.ml_lists.specs.Search.{IsFirst}
use Rattle.ml_lists.specs.Found.{First}
use Rattle.ml_lists.proofs.Decided.{Decided}
use Rattle.ml_lists.proofs.Search.{search_first}
use Rattle.ml_front.specs.Problems.{IsDeadlock}

abbrev leaves : ℕ → Edge → Bool
leaves s e = (e.source == s) && bytes_eq e.action (codes "_")

abbrev goes : ℕ → ℕ → Edge → Bool
goes s t e = leaves s e && (e.target == t)

itself : (t : ℕ) → (t == t) ≡ true
itself t = grind (arith, nat_tests)

abbrev SomeGoes : ℕ → List Edge → Type 0
SomeGoes s es = ((t : ℕ) × (list_any (goes s t) es ≡ true)) ⊎ ((t : ℕ) → list_any (goes s t) es ≡ false)

some_goes : (s : ℕ) (es : List Edge) → SomeGoes s es
some_goes s [] = inr (λ t. refl)
some_goes s (e ∷ es) = by_edge (leaves s e) refl (some_goes s es)
  where
    by_edge : (b : Bool) → leaves s e ≡ b → SomeGoes s es → SomeGoes s (e ∷ es)
    by_edge true is rest =
        let there = and_from (leaves s e) (e.target == e.target) is (itself e.target) in
        inl (e.target, or_left (goes s e.target e) (list_any (goes s e.target) es) there)
    by_edge false is (inl (t, later)) = inl (t, or_right (goes s t e) (list_any (goes s t) es) later)
    by_edge false is (inr none) =
        inr (λ t. or_from (goes s t e) (list_any (goes s t) es) (ap (λ b. b && (e.target == t)) is) (none t))

pub goes_on : (m : Structure) (s : ℕ) → ((t : ℕ) × (has_step m s t ≡ true)) ⊎ IsDeadlock m s
goes_on m s = some_goes s m.edges

pub no_deadlock : (m : Structure) (s : ℕ) → (t : ℕ) × (has_step m s t ≡ true) → IsDeadlock m s → ⊥
no_deadlock m s (t, is) dead = true≢false (sym is ∙ dead t)

decided_deadlock : (m : Structure) (s : ℕ) → Decided (IsDeadlock m s)
decided_deadlock m s = by_step (goes_on m s)
  where
    by_step : ((t : ℕ) × (has_step m s t ≡ true)) ⊎ IsDeadlock m s → Decided (IsDeadlock m s)
    by_step (inl step) = inr (no_deadlock m s step)
    by_step (inr dead) = inl dead

pub total_or_deadlock : (m : Structure) → IsTotal m ⊎ ((s : ℕ) × IsFirst (IsDeadlock m) m.states s)
total_or_deadlock m = by_search (search_first (IsDeadlock m) (decided_deadlock m) m.states)
  where
    total : ((s : ℕ) → s < m.states → IsDeadlock m s → ⊥) → IsTotal m
    total none s low = by_step (goes_on m s)
      where
        by_step : ((t : ℕ) × (has_step m s t ≡ true)) ⊎ IsDeadlock m s → (t : ℕ) × (has_step m s t ≡ true)
        by_step (inl step) = step
        by_step (inr dead) = absurd (none s low dead)

    by_search : First (IsDeadlock m) m.states ⊎ ((s : ℕ) → s < m.states → IsDeadlock m s → ⊥)
        → IsTotal m ⊎ ((s : ℕ) × IsFirst (IsDeadlock m) m.states s)
    by_search (inl f) = inr (f.place, f.is_first)
    by_search (inr none) = inl (total none)
