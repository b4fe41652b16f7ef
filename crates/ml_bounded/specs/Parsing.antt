-- What is answered to a text: which formula it stands for within the limits, or where it is refused, for the first of the four
-- causes of `ml_text/specs/Refusals.antt`. There are no variables: a text is never refused for one.
--
--   IsParsedAs text f   == the text is one of f, and keeps the limits
--   IsRefusedBy text e  == the text is refused with this answer
use Rattle.std.specs.Prelude.{ℕ, List, length}
use Rattle.ml_base.specs.declared.parse_refusal.ParseRefusal.{ParseRefusal}
use Rattle.ml_text.specs.Refusals as refused
use Rattle.ml_text.specs.Refusals.{IsAccepted}
use Rattle.ml_bounded.specs.Formula.{Formula}
use Rattle.ml_bounded.specs.Grammar.{IsReadAs}
use Rattle.ml_bounded.specs.Text.{items}

abbrev pub IsParsedAs : List ℕ → Formula → Type 0
IsParsedAs text f = IsAccepted IsReadAs (items text) f

abbrev pub IsRefusedBy : List ℕ → ParseRefusal → Type 0
IsRefusedBy text e = refused.IsRefusedBy IsReadAs (items text) (length text) e
