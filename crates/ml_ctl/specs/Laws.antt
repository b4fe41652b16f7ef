-- What is true of the meanings of formulas: what temporal operators say step by step, what they say of the places still to
-- come, that truth depends on the endless path alone, and what is dual to what.
--
--   ReadStepByStep          == U, R, W, F and G at a place, by what holds there and what they are at the next place
--   ReadAhead               == X, U, R, W, F and G at a place, by what holds at the places that are reached from there
--   FollowsThePath          == a formula is true alike at places from which the same states are passed, in whatever lassos
--   LooksAtTheState         == a state formula is true at the places whose state it holds at
--   IsDecided P             == P holds, or it doesn't
--   IsDecidedAlong m l f    == at each place of l, f is true or isn't
--   NegationsOfUntil, NegationsOfRelease, NegationsOfWeak, NegationsOfFinally, NegationsOfGlobally, NegationsOfNext
--                           == what a temporal operator fails to be, where truth is decided
--   AllAreNotSome           == `A f` holds where `E !f` doesn't, if f is true or not along each path
--   SomeAreNotAll           == `E f` holds where `A !f` doesn't, if it holds or not
--   PathsStart              == from each state of an admitted structure some path starts
use Rattle.std.specs.Prelude.{ℕ, ◌≡◌, ◌<◌, ◌⊎◌, ◌↔◌, true}
use Rattle.ml_text.specs.declared.token.Operator.TheVariants as operator
use Rattle.ml_lists.specs.Lasso.{Lasso, entry, next_place}
use Rattle.ml_base.specs.Structure.{Structure}
use Rattle.ml_ctl.specs.Formula.{Formula, Not, Binary, Temporal, Paired, Quantified}
use Rattle.ml_ctl.specs.Sorts.{is_state}
use Rattle.ml_ctl.specs.declared.term.Tense.TheVariants.{Next, Finally, Globally}
use Rattle.ml_ctl.specs.declared.term.Pairing.TheVariants.{Until, Release, Weak}
use Rattle.ml_ctl.specs.declared.term.Quantifier.TheVariants.{Exists, Forall}
use Rattle.ml_ctl.specs.Meaning.{TruthAt, Satisfies, HoldsAt}
use Rattle.ml_ctl.specs.Paths.{IsPathFrom}
use Rattle.ml_ctl.specs.Unrolled.{IsPlace, after}
use Rattle.ml_ctl.specs.Problem.{IsAdmitted}

-- ---- one step

pub record ReadsStepByStep (m : Structure) (l : Lasso) (f g : Formula) (i : ℕ) : Type 0 where
  pub until : TruthAt m l (Paired Until f g) i
      ↔ (TruthAt m l g i ⊎ (TruthAt m l f i × TruthAt m l (Paired Until f g) (next_place l i)))
  pub release : TruthAt m l (Paired Release f g) i
      ↔ (TruthAt m l g i × (TruthAt m l f i ⊎ TruthAt m l (Paired Release f g) (next_place l i)))
  pub weak : TruthAt m l (Paired Weak f g) i
      ↔ (TruthAt m l g i ⊎ (TruthAt m l f i × TruthAt m l (Paired Weak f g) (next_place l i)))
  pub finally : TruthAt m l (Temporal Finally g) i
      ↔ (TruthAt m l g i ⊎ TruthAt m l (Temporal Finally g) (next_place l i))
  pub globally : TruthAt m l (Temporal Globally g) i
      ↔ (TruthAt m l g i × TruthAt m l (Temporal Globally g) (next_place l i))

abbrev pub ReadStepByStep : Type 0
ReadStepByStep = (m : Structure) (l : Lasso) (f g : Formula) (i : ℕ) → IsPlace l i → ReadsStepByStep m l f g i

-- ---- all that is to come

-- f is true at some of the first k places from i on
abbrev pub WasTrue : Structure → Lasso → Formula → ℕ → ℕ → Type 0
WasTrue m l f i k = (j : ℕ) × (j < k) × TruthAt m l f (after l i j)

pub record ReadsAhead (m : Structure) (l : Lasso) (f g : Formula) (i : ℕ) : Type 0 where
  pub next : TruthAt m l (Temporal Next g) i ↔ TruthAt m l g (after l i 1)
  -- g is true after some steps, and f until then
  pub until : TruthAt m l (Paired Until f g) i
      ↔ ((k : ℕ) × TruthAt m l g (after l i k) × ((j : ℕ) → j < k → TruthAt m l f (after l i j)))
  -- g is true after each number of steps, unless f was true before
  pub release : TruthAt m l (Paired Release f g) i ↔ ((k : ℕ) → WasTrue m l f i k ⊎ TruthAt m l g (after l i k))
  -- f or g is true after each number of steps, unless g was true before
  pub weak : TruthAt m l (Paired Weak f g) i
      ↔ ((k : ℕ) → WasTrue m l g i k ⊎ (TruthAt m l f (after l i k) ⊎ TruthAt m l g (after l i k)))
  pub finally : TruthAt m l (Temporal Finally g) i ↔ ((k : ℕ) × TruthAt m l g (after l i k))
  pub globally : TruthAt m l (Temporal Globally g) i ↔ ((k : ℕ) → TruthAt m l g (after l i k))

abbrev pub ReadAhead : Type 0
ReadAhead = (m : Structure) (l : Lasso) (f g : Formula) (i : ℕ) → IsPlace l i → ReadsAhead m l f g i

-- ---- the endless path alone

-- from the place i of l and the place j of k the same states are passed
abbrev pub PassSame : Lasso → ℕ → Lasso → ℕ → Type 0
PassSame l i k j = (n : ℕ) → entry l (after l i n) ≡ entry k (after k j n)

abbrev pub FollowsThePath : Type 0
FollowsThePath = (m : Structure) (f : Formula) (l k : Lasso) (i j : ℕ) → IsPlace l i → IsPlace k j → PassSame l i k j → TruthAt m l f i → TruthAt m k f j

abbrev pub LooksAtTheState : Type 0
LooksAtTheState = (m : Structure) (l : Lasso) (f : Formula) (i : ℕ) → is_state f ≡ true → TruthAt m l f i ↔ HoldsAt m f (entry l i)

-- ---- what is dual

abbrev pub IsDecided : Type 0 → Type 0
IsDecided P = P ⊎ (P → ⊥)

abbrev pub IsDecidedAlong : Structure → Lasso → Formula → Type 0
IsDecidedAlong m l f = (i : ℕ) → IsPlace l i → IsDecided (TruthAt m l f i)

-- two formulas are true at the same places of l
abbrev pub TrueAlike : Structure → Lasso → Formula → Formula → Type 0
TrueAlike m l f g = (i : ℕ) → IsPlace l i → TruthAt m l f i ↔ TruthAt m l g i

abbrev pub NegationsOfNext : Type 0
NegationsOfNext = (m : Structure) (l : Lasso) (f : Formula) → TrueAlike m l (Not (Temporal Next f)) (Temporal Next (Not f))

abbrev pub NegationsOfUntil : Type 0
NegationsOfUntil = (m : Structure) (l : Lasso) (f g : Formula) → IsDecidedAlong m l f
    → TrueAlike m l (Not (Paired Until f g)) (Paired Release (Not f) (Not g))

abbrev pub NegationsOfRelease : Type 0
NegationsOfRelease = (m : Structure) (l : Lasso) (f g : Formula) → IsDecidedAlong m l g
    → TrueAlike m l (Not (Paired Release f g)) (Paired Until (Not f) (Not g))

abbrev pub NegationsOfWeak : Type 0
NegationsOfWeak = (m : Structure) (l : Lasso) (f g : Formula) → IsDecidedAlong m l f → IsDecidedAlong m l g
    → TrueAlike m l (Not (Paired Weak f g)) (Paired Until (Not g) (Binary operator.And (Not f) (Not g)))

abbrev pub NegationsOfFinally : Type 0
NegationsOfFinally = (m : Structure) (l : Lasso) (f : Formula) → TrueAlike m l (Not (Temporal Finally f)) (Temporal Globally (Not f))

abbrev pub NegationsOfGlobally : Type 0
NegationsOfGlobally = (m : Structure) (l : Lasso) (f : Formula) → IsDecidedAlong m l f
    → TrueAlike m l (Not (Temporal Globally f)) (Temporal Finally (Not f))

abbrev pub AllAreNotSome : Type 0
AllAreNotSome = (m : Structure) (f : Formula) (s : ℕ)
    → ((l : Lasso) → IsPathFrom m s l → IsDecided (Satisfies m l f))
    → HoldsAt m (Quantified Forall f) s ↔ HoldsAt m (Not (Quantified Exists (Not f))) s

abbrev pub SomeAreNotAll : Type 0
SomeAreNotAll = (m : Structure) (f : Formula) (s : ℕ)
    → IsDecided (HoldsAt m (Quantified Exists f) s)
    → HoldsAt m (Quantified Exists f) s ↔ HoldsAt m (Not (Quantified Forall (Not f))) s

-- ---- paths

abbrev pub PathsStart : Type 0
PathsStart = (m : Structure) → IsAdmitted m → (s : ℕ) → s < m.states → (l : Lasso) × IsPathFrom m s l
