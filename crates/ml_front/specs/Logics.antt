-- Formulas of all logics, and their texts.
--
-- What is said of a formula is said by its logic; a further logic adds its line to each of these. The logic `word` is LTL read
-- on single words, so its texts are those of LTL.
--
--   logic_of f           == the logic of the formula f
--   logic_word l         == its word
--   logic_named w        == the logic that the word w names, if it names one
--   some_logic w         == the same; of a word that names none, where nobody asks, some logic
--   IsParsedAs text f    == the text stands for f in the logic of f, within the limits
--   IsRefusedBy l text e == the text is refused with e, where a formula of the logic l is wanted
--   canonical_text f     == the canonical text of f
use Rattle.std.specs.Prelude.{ℕ, List, [], ◌∷◌, Option, find, unwrap_or, codes}
use Rattle.std.specs.Str.{bytes_eq}
use Rattle.ml_base.specs.declared.parse_refusal.ParseRefusal.{ParseRefusal}
use Rattle.ml_lines.specs.Lines as lines
use Rattle.ml_ctl.specs.Canonical as ctl_canonical
use Rattle.ml_ctl.specs.declared.language.Language.TheVariants as language
use Rattle.ml_ctl.specs.Parsing as ctl_parsing
use Rattle.ml_mu.specs.Canonical as mu_canonical
use Rattle.ml_mu.specs.Parsing as mu_parsing
use Rattle.ml_pdl.specs.Canonical as pdl_canonical
use Rattle.ml_pdl.specs.Parsing as pdl_parsing
use Rattle.ml_front.specs.declared.logic.Logic.{Logic}
use Rattle.ml_front.specs.declared.logic.Logic.TheVariants as logic
use Rattle.ml_front.specs.declared.problem.AnyFormula.{AnyFormula}
use Rattle.ml_front.specs.declared.problem.AnyFormula.TheVariants.{Mu, Pdl, Ctl, Ltl, Word}
pub use Rattle.ml_front.specs.WellFormed.{IsWellFormed}

abbrev pub logic_of : AnyFormula → Logic
logic_of (Mu f) = logic.Mu
logic_of (Pdl f) = logic.Pdl
logic_of (Ctl f) = logic.Ctl
logic_of (Ltl f) = logic.Ltl
logic_of (Word f) = logic.Word

abbrev pub logic_word : Logic → lines.Word
logic_word logic.Mu = codes "mu"
logic_word logic.Pdl = codes "pdl"
logic_word logic.Ctl = codes "ctl"
logic_word logic.Ltl = codes "ltl"
logic_word logic.Word = codes "word"

abbrev pub logic_named : lines.Word → Option Logic
logic_named word =
    find (λ l. bytes_eq word (logic_word l)) (logic.Mu ∷ logic.Pdl ∷ logic.Ctl ∷ logic.Ltl ∷ logic.Word ∷ [])

abbrev pub some_logic : lines.Word → Logic
some_logic word = unwrap_or (logic_named word) logic.Mu

abbrev pub IsParsedAs : List ℕ → AnyFormula → Type 0
IsParsedAs text (Mu f) = mu_parsing.IsParsedAs text f
IsParsedAs text (Pdl f) = pdl_parsing.IsParsedAs text f
IsParsedAs text (Ctl f) = ctl_parsing.IsParsedAs language.Ctl text f
IsParsedAs text (Ltl f) = ctl_parsing.IsParsedAs language.Ltl text f
IsParsedAs text (Word f) = ctl_parsing.IsParsedAs language.Ltl text f

abbrev pub IsRefusedBy : Logic → List ℕ → ParseRefusal → Type 0
IsRefusedBy logic.Mu text e = mu_parsing.IsRefusedBy text e
IsRefusedBy logic.Pdl text e = pdl_parsing.IsRefusedBy text e
IsRefusedBy logic.Ctl text e = ctl_parsing.IsRefusedBy language.Ctl text e
IsRefusedBy logic.Ltl text e = ctl_parsing.IsRefusedBy language.Ltl text e
IsRefusedBy logic.Word text e = ctl_parsing.IsRefusedBy language.Ltl text e

abbrev pub canonical_text : AnyFormula → List ℕ
canonical_text (Mu f) = mu_canonical.canonical_text f
canonical_text (Pdl f) = pdl_canonical.canonical_text f
canonical_text (Ctl f) = ctl_canonical.canonical_text f
canonical_text (Ltl f) = ctl_canonical.canonical_text f
canonical_text (Word f) = ctl_canonical.canonical_text f
