-- Formulas of all logics as texts of files have them. Those of LTL, also on words, may have bounded operators, which aren't
-- written out yet; the others are those of `decide`.
--
-- What is said of a formula is said by its logic; a further logic adds its line to each of these.
--
--   written_logic w        == the logic of w
--   IsWrittenAs text w     == the text stands for w in the logic of w, within the limits
--   IsRefusedIn l text e   == the text is refused with e, where a formula of the logic l is wanted
--   meaning w              == what w stands for: w with its bounded operators written out, of any size
use Rattle.std.specs.Prelude.{ℕ, List}
use Rattle.ml_base.specs.declared.parse_refusal.ParseRefusal.{ParseRefusal}
use Rattle.ml_bounded.specs.Parsing as bounded_parsing
use Rattle.ml_bounded.specs.WrittenOut.{written_out}
use Rattle.ml_ctl.specs.Parsing as ctl_parsing
use Rattle.ml_ctl.specs.declared.language.Language.TheVariants as language
use Rattle.ml_front.specs.declared.logic.Logic.{Logic}
use Rattle.ml_front.specs.declared.logic.Logic.TheVariants as logic
use Rattle.ml_front.specs.declared.problem.AnyFormula.{AnyFormula}
use Rattle.ml_front.specs.declared.problem.AnyFormula.TheVariants as any
use Rattle.ml_mu.specs.Parsing as mu_parsing
use Rattle.ml_pdl.specs.Parsing as pdl_parsing
use Rattle.ml_written.specs.declared.written.Written.{Written}
use Rattle.ml_written.specs.declared.written.Written.TheVariants.{Mu, Pdl, Ctl, Ltl, Word}

abbrev pub written_logic : Written → Logic
written_logic (Mu f) = logic.Mu
written_logic (Pdl f) = logic.Pdl
written_logic (Ctl f) = logic.Ctl
written_logic (Ltl f) = logic.Ltl
written_logic (Word f) = logic.Word

abbrev pub IsWrittenAs : List ℕ → Written → Type 0
IsWrittenAs text (Mu f) = mu_parsing.IsParsedAs text f
IsWrittenAs text (Pdl f) = pdl_parsing.IsParsedAs text f
IsWrittenAs text (Ctl f) = ctl_parsing.IsParsedAs language.Ctl text f
IsWrittenAs text (Ltl f) = bounded_parsing.IsParsedAs text f
IsWrittenAs text (Word f) = bounded_parsing.IsParsedAs text f

abbrev pub IsRefusedIn : Logic → List ℕ → ParseRefusal → Type 0
IsRefusedIn logic.Mu text e = mu_parsing.IsRefusedBy text e
IsRefusedIn logic.Pdl text e = pdl_parsing.IsRefusedBy text e
IsRefusedIn logic.Ctl text e = ctl_parsing.IsRefusedBy language.Ctl text e
IsRefusedIn logic.Ltl text e = bounded_parsing.IsRefusedBy text e
IsRefusedIn logic.Word text e = bounded_parsing.IsRefusedBy text e

abbrev pub meaning : Written → AnyFormula
meaning (Mu f) = any.Mu f
meaning (Pdl f) = any.Pdl f
meaning (Ctl f) = any.Ctl f
meaning (Ltl f) = any.Ltl (written_out f)
meaning (Word f) = any.Word (written_out f)
