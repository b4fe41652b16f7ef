-- What is answered to a text: which formula of CTL* or of LTL it stands for within the limits, or where it is refused, for
-- the first of the four causes of `Refusals.antt`. There are no variables: a text is never refused for one.
--
--   IsParsedAs w text f   == in the logic w, the text is one of f, and keeps the limits
--   IsRefusedBy w text e  == in the logic w, the text is refused with this answer
use Rattle.std.specs.Prelude.{ℕ, List, length}
use Rattle.ml_base.specs.declared.parse_refusal.ParseRefusal.{ParseRefusal}
use Rattle.ml_text.specs.Refusals as refused
use Rattle.ml_text.specs.Refusals.{IsAccepted}
use Rattle.ml_ctl.specs.Formula.{Formula}
use Rattle.ml_ctl.specs.declared.language.Language.{Language}
use Rattle.ml_ctl.specs.Grammar.{IsReadAs}
use Rattle.ml_ctl.specs.Text.{items}

abbrev pub IsParsedAs : Language → List ℕ → Formula → Type 0
IsParsedAs w text f = IsAccepted (IsReadAs w) (items text) f

abbrev pub IsRefusedBy : Language → List ℕ → ParseRefusal → Type 0
IsRefusedBy w text e = refused.IsRefusedBy (IsReadAs w) (items text) (length text) e
