-- One step of the reader, in what comes of the signs that are left.
--
--   goes_on      == behind a sign that is read, what comes is what comes of the others
--   stops        == a sign that is refused is what comes
--   told         == and what is told of it
--   told_along   == a refusal, carried along an equation
--   too_soon     == a text may end only behind a vertex
--   ends         == where no signs are left, the stage tells what comes
use Rattle.std.proofs.Common.{◌≡◌, ℕ, List, [], ◌∷◌, Ok, Err, ap, refl, subst, sym}
use Rattle.ml_pgsolver.specs.declared.reader.Stage.{Stage}
use Rattle.ml_pgsolver.specs.declared.reader.Stage.TheVariants as stage
use Rattle.ml_pgsolver.specs.declared.refusal.GameTextRefusal.{GameTextRefusal}
use Rattle.ml_pgsolver.specs.declared.refusal.GameTextRefusal.TheVariants as refusal
use Rattle.ml_pgsolver.specs.declared.scan.Sign.{Sign}
use Rattle.ml_pgsolver.specs.private.Machine.{State, Step, step, at_end, behind, outcome_from, IsTold}

pub goes_on : (end : ℕ) (s next : State) (t : Sign) (at : ℕ) (ts : List (Sign × ℕ))
    → step s t at ≡ Ok next
    → outcome_from end s ((t, at) ∷ ts) ≡ outcome_from end next ts
unfolding outcome_from
goes_on end s next t at ts is = ap (λ q. behind q (λ n. outcome_from end n ts)) is

pub stops : (end : ℕ) (s : State) (t : Sign) (at : ℕ) (ts : List (Sign × ℕ)) (e : GameTextRefusal)
    → step s t at ≡ Err e
    → outcome_from end s ((t, at) ∷ ts) ≡ Err e
unfolding outcome_from
stops end s t at ts e is = ap (λ q. behind q (λ n. outcome_from end n ts)) is

pub told : (end : ℕ) (s : State) (t : Sign) (at : ℕ) (ts : List (Sign × ℕ)) (e : GameTextRefusal)
    → IsTold e (step s t at)
    → IsTold e (outcome_from end s ((t, at) ∷ ts))
told end s t at ts refusal.NoMemory is = tt
told end s t at ts (refusal.Syntax k) is = stops end s t at ts _ is
told end s t at ts (refusal.Repeated k) is = stops end s t at ts _ is
told end s t at ts (refusal.Unknown k) is = stops end s t at ts _ is
told end s t at ts (refusal.TooMany k) is = stops end s t at ts _ is
told end s t at ts (refusal.TooLarge k) is = stops end s t at ts _ is

pub told_along : (e : GameTextRefusal) (out other : Step) → out ≡ other → IsTold e other → IsTold e out
told_along e out other is told = subst (IsTold e) (sym is) told

-- where no signs are left, the stage tells what comes
pub ends : (end : ℕ) (s : State) (ts : List (Sign × ℕ)) → ts ≡ [] → outcome_from end s ts ≡ at_end s.stage s end
unfolding outcome_from
ends end s ts none = ap (outcome_from end s) none

pub too_soon : (q : Stage) (s : State) (end : ℕ) → (q ≡ stage.NextVertex → ⊥) → at_end q s end ≡ Err (refusal.Syntax end)
too_soon stage.NextVertex s end other = absurd (other refl)
too_soon q s end other = refl
