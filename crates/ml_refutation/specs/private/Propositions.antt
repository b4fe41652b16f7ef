-- What a refutation keeps is a proposition: it holds in one way at most.
--
--   prop_ascending, prop_above, prop_guess, prop_cause, prop_mark, prop_decided == so is each part that goes by cases
--   prop_refutation        == so is the whole
use Rattle.std.proofs.Common.{ℕ, List, [], ◌∷◌, Option, None, Some}
use Rattle.std.proofs.Props.{props}
use Rattle.ml_lists.specs.Ascending.{IsAscending}
use Rattle.ml_trace.specs.declared.letters.AutomatonState.{AutomatonState}
use Rattle.ml_trace.specs.declared.marks.Mark.{Mark}
use Rattle.ml_trace.specs.declared.marks.Mark.TheVariants.{Red, Green, Neutral}
use Rattle.ml_sequent.specs.declared.clashes.ClashCause.{ClashCause}
use Rattle.ml_sequent.specs.declared.clashes.ClashCause.TheVariants as cause
use Rattle.ml_refutation.specs.Refutation.{Refutation, Decision, Split, Clash, Go, FitsCause, IsMarkOf, IsAbove, AreAbove, IsDecided, IsRefutation}
use Rattle.ml_refutation.specs.Guesses.{FitsGuess}

pub prop_ascending : (xs : List ℕ) → IsProp (IsAscending xs)
prop_ascending [] = hlevel props
prop_ascending (x ∷ xs) = hlevel (props, prop_ascending xs)

pub prop_next : (before : Option AutomatonState) (s : AutomatonState) → IsProp (IsAbove before s)
prop_next None s = hlevel props
prop_next (Some b) s = hlevel props

pub prop_above : (before : Option AutomatonState) (ss : List AutomatonState) → IsProp (AreAbove before ss)
prop_above before [] = hlevel props
prop_above before (s ∷ ss) = hlevel (props, prop_next before s, prop_above (Some s) ss)

pub prop_guess : (guess : Option ℕ) → IsProp (FitsGuess guess)
prop_guess None = hlevel props
prop_guess (Some d) = hlevel props

pub prop_cause : (x : ClashCause) → IsProp (FitsCause x)
prop_cause (cause.False n) = hlevel props
prop_cause (cause.Pair p q) = hlevel props
prop_cause (cause.Cycle n) = hlevel props

pub prop_mark : (names : ℕ) (m : Mark) → IsProp (IsMarkOf names m)
prop_mark names (Red x) = hlevel props
prop_mark names (Green x) = hlevel props
prop_mark names Neutral = hlevel props

pub prop_decided : (names entries : ℕ) (d : Decision) → IsProp (IsDecided names entries d)
prop_decided names entries (Split n left right) =
    hlevel (props, prop_decided names entries left, prop_decided names entries right)
prop_decided names entries (Clash x) = prop_cause x
prop_decided names entries (Go d e m) = hlevel (props, prop_mark names m)

pub prop_refutation : (r : Refutation) → IsProp (IsRefutation r)
prop_refutation r = hlevel (props, prop_ascending, prop_above, prop_guess, prop_decided)
