-- What is true of the places of word automata, and of the texts that are written.
--
--   SamePlaces == two word automata of one formula have as many states, and the same places; so whether more than n are places
--                 doesn't depend on the automaton
--   WrittenAccepts == what is written for a formula stands for an automaton that accepts exactly the words that satisfy it
--   SomeTranslation == of each formula that is well formed an automaton is written, or its word automaton is too large, or has
--                 too many places
--   OneOutcome == and one of the three alone is so
use Rattle.std.specs.Prelude.{ℕ, ◌≡◌, ◌⊎◌, ◌↔◌, Bool, List}
use Rattle.ml_ctl.specs.Formula.{Formula}
use Rattle.ml_ctl.specs.WellFormed.{IsWellFormed}
use Rattle.ml_ctl.specs.declared.language.Language.TheVariants.{Ltl}
use Rattle.ml_word_automaton.specs.Letters.{Automaton, IsAutomatonOf}
use Rattle.ml_translate.specs.Output.{IsWrittenFor, TextAccepts}
use Rattle.ml_translate.specs.Places.{IsPlace, Place}
use Rattle.ml_translate.specs.Translation.{HasTooManyPlaces, IsLarge}

pub record HaveSamePlaces (a b : Automaton) : Type 0 where
  pub states : a.states ≡ b.states
  pub places : (props : List (List ℕ)) (s : Place) → IsPlace a props s ↔ IsPlace b props s

abbrev pub SamePlaces : Type 0
SamePlaces = (f : Formula) (negated : Bool) (a b : Automaton)
    → IsAutomatonOf a f negated
    → IsAutomatonOf b f negated
    → HaveSamePlaces a b

abbrev pub WrittenAccepts : Type 0
WrittenAccepts = (f : Formula) (limit : ℕ) (text : List ℕ) → IsWrittenFor f limit text → TextAccepts f text

abbrev pub SomeTranslation : Type 0
SomeTranslation = (f : Formula) (limit : ℕ)
    → IsWellFormed Ltl f
    → ((text : List ℕ) × IsWrittenFor f limit text) ⊎ (IsLarge f ⊎ HasTooManyPlaces f limit)

pub record IsOneOutcome (f : Formula) (limit : ℕ) : Type 0 where
  pub written_fits : (text : List ℕ) → IsWrittenFor f limit text → ¬ (IsLarge f)
  pub written_few : (text : List ℕ) → IsWrittenFor f limit text → ¬ (HasTooManyPlaces f limit)
  pub many_fits : HasTooManyPlaces f limit → ¬ (IsLarge f)

abbrev pub OneOutcome : Type 0
OneOutcome = (f : Formula) (limit : ℕ) → IsOneOutcome f limit
