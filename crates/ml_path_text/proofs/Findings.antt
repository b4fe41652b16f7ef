-- What is found of the paths of a structure from a start.
--
--   one_finding   == one thing is found at most, up to which path is shown
--   some_finding  == and something, where the start is a state and the formula has no quantifier
use Rattle.std.proofs.Common.{ℕ, ◌≡◌, ◌<◌, ◌⊎◌, Bool, true, inl, inr, refl, ap}
use Rattle.ml_base.specs.Structure.{IsStructure, Structure}
use Rattle.ml_ctl.specs.Formula.{Formula}
use Rattle.ml_ctl.specs.Sorts.{is_linear}
use Rattle.ml_front.specs.Problems.{IsAdmitted}
use Rattle.ml_front.specs.declared.logic.Logic.{Logic}
use Rattle.ml_front.proofs.Graphs.{IsFirstUnfit, admitted_or_not, dead_or_fork, never_both, one_deadlock, one_fork}
use Rattle.ml_paths.specs.Paths.{IsFound}
use Rattle.ml_paths.specs.declared.found.Found.{Found}
use Rattle.ml_paths.specs.declared.found.Found.TheVariants as found
use Rattle.ml_paths.proofs.OnePath.{some_path}
use Rattle.ml_path_text.specs.Found.{Finds}
use Rattle.ml_path_text.specs.Laws.{AreAlike}
use Rattle.ml_path_text.specs.WrittenPath.{path_text}
use Rattle.ml_path_text.specs.declared.finding.PathFinding.{PathFinding}
use Rattle.ml_path_text.specs.declared.finding.PathFinding.TheVariants.{ClosureTooLarge, NoPath, NotAWord, NotTotal, Path, Unreadable}

module _ (logic : Logic) (m : Structure) (s : ℕ) (f : Formula) (negated : Bool) where
  never : (state : ℕ) → IsAdmitted logic m → ¬ (IsFirstUnfit logic m state)
  never state = never_both logic m state

  pub one_finding : (x y : PathFinding) → Finds x logic m s f negated → Finds y logic m s f negated → AreAlike x y
  one_finding (Path a) (Path b) x y = tt
  one_finding (Path a) NoPath x y = absurd (y.2 x.2.0 x.2.1)
  one_finding (Path a) ClosureTooLarge x y = absurd (x.1 y.1)
  one_finding (Path a) (NotTotal dead) x y = absurd (never dead x.0 (inl y))
  one_finding (Path a) (NotAWord fork) x y = absurd (never fork x.0 (inr y))
  one_finding NoPath (Path b) x y = absurd (x.2 y.2.0 y.2.1)
  one_finding NoPath NoPath x y = refl
  one_finding NoPath ClosureTooLarge x y = absurd (x.1 y.1)
  one_finding NoPath (NotTotal dead) x y = absurd (never dead x.0 (inl y))
  one_finding NoPath (NotAWord fork) x y = absurd (never fork x.0 (inr y))
  one_finding ClosureTooLarge (Path b) x y = absurd (y.1 x.1)
  one_finding ClosureTooLarge NoPath x y = absurd (y.1 x.1)
  one_finding ClosureTooLarge ClosureTooLarge x y = refl
  one_finding ClosureTooLarge (NotTotal dead) x y = absurd (never dead x.0 (inl y))
  one_finding ClosureTooLarge (NotAWord fork) x y = absurd (never fork x.0 (inr y))
  one_finding (NotTotal dead) (Path b) x y = absurd (never dead y.0 (inl x))
  one_finding (NotTotal dead) NoPath x y = absurd (never dead y.0 (inl x))
  one_finding (NotTotal dead) ClosureTooLarge x y = absurd (never dead y.0 (inl x))
  one_finding (NotTotal dead) (NotTotal other) x y = ap NotTotal (one_deadlock logic m dead other x y)
  one_finding (NotTotal dead) (NotAWord fork) x y = absurd (dead_or_fork logic m dead fork x y)
  one_finding (NotAWord fork) (Path b) x y = absurd (never fork y.0 (inr x))
  one_finding (NotAWord fork) NoPath x y = absurd (never fork y.0 (inr x))
  one_finding (NotAWord fork) ClosureTooLarge x y = absurd (never fork y.0 (inr x))
  one_finding (NotAWord fork) (NotTotal dead) x y = absurd (dead_or_fork logic m dead fork y x)
  one_finding (NotAWord fork) (NotAWord other) x y = ap NotAWord (one_fork logic m fork other x y)
  one_finding (Unreadable fault) y a b = absurd a
  one_finding x (Unreadable fault) a b = absurd b

  abbrev SomeFinds : Type 0
  SomeFinds = (x : PathFinding) × Finds x logic m s f negated

  by_path : IsAdmitted logic m → (x : Found) → IsFound m s f negated x → SomeFinds
  by_path speaks (found.Path l) is = (Path (path_text m l f negated), (speaks, is.0, (l, is.1, refl)))
  by_path speaks found.NoPath is = (NoPath, (speaks, is.0, is.1))
  by_path speaks found.ClosureTooLarge is = (ClosureTooLarge, (speaks, is))

  pub some_finding : IsStructure m → s < m.states → is_linear f ≡ true → SomeFinds
  some_finding ok low linear = by_structure (admitted_or_not logic m ok)
    where
      by_structure : IsAdmitted logic m ⊎ ((state : ℕ) × IsFirstUnfit logic m state) → SomeFinds
      by_structure (inl speaks) = let x = some_path m s f negated ok low linear in by_path speaks x.0 x.1
      by_structure (inr (dead, inl first)) = (NotTotal dead, first)
      by_structure (inr (fork, inr first)) = (NotAWord fork, first)
