-- A relation that is the one of a grammar's tables: where the machine gets, and where it doesn't.
--
--   Fits g R          == the relation R is that of the tables g
--   fits_viable       == what is run begins a text
--   fits_not_viable   == what isn't run begins none
--   first_run g is    == the state behind the first items
use Rattle.std.proofs.Common.{◌≡◌, List, [], ◌++◌, Option, Some, None}
use Rattle.ml_text.specs.Grammar.{Grammar, StandsFor, IsRegular, IsCompletable}
use Rattle.ml_text.specs.private.Machine.{State, start_state, run}
use Rattle.ml_text.specs.Refusals.{Item, signs_of, BeginsText}
use Rattle.ml_text.proofs.Viable.{viable, not_viable}

-- the relation is that of the tables
pub record Fits (g : Grammar) (R : List g.Sign → g.Tree → Type 0) : Type 0 where
  pub regular : IsRegular g
  pub completable : IsCompletable g
  pub to : (ts : List g.Sign) (f : g.Tree) → R ts f → StandsFor g ts f
  pub from : (ts : List g.Sign) (f : g.Tree) → StandsFor g ts f → R ts f

pub fits_viable : (g : Grammar) (R : List g.Sign → g.Tree → Type 0)
    → Fits g R
    → (ts : List g.Sign) (s : State g)
    → run g (start_state g g.whole) [] ts ≡ Some s
    → BeginsText R ts
fits_viable g R fits ts s is =
    let goes : BeginsText (StandsFor g) ts = viable g fits.regular fits.completable ts s is in
    (goes.0, goes.1, fits.from (ts ++ goes.0) goes.1 goes.2)

pub fits_not_viable : (g : Grammar) (R : List g.Sign → g.Tree → Type 0)
    → Fits g R
    → (ts : List g.Sign)
    → run g (start_state g g.whole) [] ts ≡ None
    → BeginsText R ts
    → ⊥
fits_not_viable g R fits ts is goes =
    not_viable g fits.regular ts is (goes.0, goes.1, fits.to (ts ++ goes.0) goes.1 goes.2)

abbrev pub first_run : (g : Grammar) → List (Item g.Sign) → Option (State g)
first_run g before = run g (start_state g g.whole) [] (signs_of before)
