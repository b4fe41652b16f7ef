-- Which texts are read, and where the others are refused.
--
-- A text is refused at the first token such that no automaton text within the limits has the tokens up to it as a
-- prefix: for its syntax, if no automaton text at all has, and else for a limit that is passed. A limit is passed at a number
-- of states above 1,000, at a number of propositions above 8, at the `[` of the 100,001st edge, at the operator with which one
-- label passes 1,000 operators, and at the parenthesis with which more than 1,000 are open in one label. Where all
-- tokens are such a prefix but are no automaton text, the text is refused at its end, for its syntax. An automaton text within
-- the limits is refused at the first number in it that is out of range, if any is.
--
--   Begins ts             == with some tokens behind them, ts are an automaton text
--   BeginsSmall ts        == with some tokens behind them, they are one within the limits
--   IsAt text at before t == the token at this byte is t, and these stand before it
--   IsSyntaxAt text at    == the text is refused at this byte, for its syntax
--   IsTooManyAt text at   == it is refused there for a limit
--   IsRangeAt text at     == it is refused there for a number out of range
--   IsReadAs text a       == the text stands for the automaton, and no number in it is out of range
--   IsRefusedBy text e    == the text is refused with this answer
use Rattle.std.specs.Prelude.{ℕ, ◌≡◌, ◌⊎◌, List, [], ◌∷◌, ◌++◌, length}
use Rattle.ml_hoa.specs.Automaton.{Automaton}
use Rattle.ml_hoa.specs.Tokens.{Token, Placed, tokens, signs_of}
use Rattle.ml_hoa.specs.Grammar.{Draft, IsText}
use Rattle.ml_hoa.specs.AutomatonText.{IsSmall, StandsFor, automaton_of, faults}
use Rattle.ml_hoa.specs.declared.refusal.HoaRefusal.{HoaRefusal}
use Rattle.ml_hoa.specs.declared.refusal.HoaRefusal.TheVariants as refusal

abbrev pub Begins : List Token → Type 0
Begins ts = (us : List Token) × (d : Draft) × IsText (ts ++ us) d

abbrev pub BeginsSmall : List Token → Type 0
BeginsSmall ts = (us : List Token) × (d : Draft) × IsText (ts ++ us) d × IsSmall d

pub record IsAt (text : List ℕ) (at : ℕ) (before : List Token) (t : Token) : Type 0 where
  pub first : List Placed
  pub last : List Placed
  pub all : tokens text ≡ first ++ record { token = t; at = at } ∷ last
  pub before_is : before ≡ signs_of first

pub record IsStuckAt (text : List ℕ) (at : ℕ) : Type 0 where
  pub before : List Token
  pub token : Token
  pub there : IsAt text at before token
  pub begins : BeginsSmall before
  pub none : Begins (before ++ token ∷ []) → ⊥

pub record EndsEarly (text : List ℕ) (at : ℕ) : Type 0 where
  pub begins : BeginsSmall (signs_of (tokens text))
  pub no_text : (d : Draft) → IsText (signs_of (tokens text)) d → ⊥
  pub end : at ≡ length text

abbrev pub IsSyntaxAt : List ℕ → ℕ → Type 0
IsSyntaxAt text at = IsStuckAt text at ⊎ EndsEarly text at

pub record IsTooManyAt (text : List ℕ) (at : ℕ) : Type 0 where
  pub before : List Token
  pub token : Token
  pub there : IsAt text at before token
  pub begins : BeginsSmall before
  pub goes_on : Begins (before ++ token ∷ [])
  pub not_small : BeginsSmall (before ++ token ∷ []) → ⊥

pub record IsRangeAt (text : List ℕ) (at : ℕ) : Type 0 where
  pub draft : Draft
  pub stands : StandsFor text draft
  pub others : List ℕ
  pub first : faults draft ≡ at ∷ others

pub record IsReadAs (text : List ℕ) (a : Automaton) : Type 0 where
  pub draft : Draft
  pub stands : StandsFor text draft
  pub in_range : faults draft ≡ []
  pub is_automaton : a ≡ automaton_of draft

abbrev pub IsRefusedBy : List ℕ → HoaRefusal → Type 0
IsRefusedBy text (refusal.Syntax at) = IsSyntaxAt text at
IsRefusedBy text (refusal.Range at) = IsRangeAt text at
IsRefusedBy text (refusal.TooMany at) = IsTooManyAt text at
-- want of memory is the one answer that says nothing of the text
IsRefusedBy text refusal.NoMemory = Unit {0}
