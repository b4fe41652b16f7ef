-- What is true of what is told of texts.
--
--   SomeTold     == something is told of each text, in each form and for each limit of 32 bits
--   NeverAgainst v w == it isn't so that one of v and w is `AsMeant` and the other `Against`
--   AreAlike t u == both are refusals by the same rule at the same place, or both are answers, and never is one as it is meant
--                   and the other against it
--   ToldAlike    == so are two things that are told of one text, in whichever forms, and for whichever limits
--   ToldBySpecification == what is told of one text of a specification is told of each other: so of a text with its
--                   definitions, enumerations and bounds as of the one with these written out
use Rattle.std.specs.Prelude.{ℕ, ◌≡◌, ◌<◌, ◌^◌, List}
use Rattle.ml_front.specs.declared.logic.Logic.{Logic}
use Rattle.ml_spec.specs.Specification.{IsSpecification}
use Rattle.ml_spec.specs.declared.specification.Item.{Item}
use Rattle.ml_ask_text.specs.Told.{IsToldOf}
use Rattle.ml_ask_text.specs.declared.told.Form.{Form}
use Rattle.ml_ask_text.specs.declared.told.Told.{Told}
use Rattle.ml_ask_text.specs.declared.told.Told.TheVariants.{Answered, Refused}
use Rattle.ml_ask_text.specs.declared.told.Verdict.{Verdict}
use Rattle.ml_ask_text.specs.declared.told.Verdict.TheVariants.{AsMeant, Against}

abbrev pub SomeTold : Type 0
SomeTold = (f : Form) (text : List ℕ) (n : ℕ) → n < 2 ^ 32 → (t : Told) × IsToldOf f text n t

abbrev pub NeverAgainst : Verdict → Verdict → Type 0
NeverAgainst AsMeant Against = ⊥
NeverAgainst Against AsMeant = ⊥
NeverAgainst v w = Unit {0}

abbrev pub AreAlike : Told → Told → Type 0
AreAlike (Refused line column rule) (Refused row place other) = (line ≡ row) × (column ≡ place) × (rule ≡ other)
AreAlike (Answered v out) (Answered w other) = NeverAgainst v w
AreAlike t u = ⊥

abbrev pub ToldAlike : Type 0
ToldAlike = (f g : Form) (text : List ℕ) (n k : ℕ) (t u : Told) → IsToldOf f text n t → IsToldOf g text k u → AreAlike t u

abbrev pub ToldBySpecification : Type 0
ToldBySpecification = (f : Form) (text other : List ℕ) (l : Logic) (xs : List Item) (n : ℕ) (t : Told)
    → IsSpecification text l xs → IsSpecification other l xs → IsToldOf f text n t → IsToldOf f other n t
