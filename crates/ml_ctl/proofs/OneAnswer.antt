-- A text has one formula at most and one answer, and just one.
--
--   one_text_formula  == a text stands for one formula at most
--   one_answer        == a text is parsed as one formula or refused in one way
use Rattle.ml_text.specs.Answers.{HaveOneAnswer, IsUnambiguous}
use Rattle.ml_text.specs.Refusals.{signs_of}
use Rattle.ml_text.proofs.OneAnswer as answer
use Rattle.ml_ctl.specs.declared.language.Language.{Language}
use Rattle.ml_ctl.specs.Grammar.{IsReadAs}
use Rattle.ml_ctl.specs.Parsing.{IsParsedAs, IsRefusedBy}
use Rattle.ml_ctl.specs.Text.{items}
use Rattle.ml_ctl.specs.TextLaws.{IsTextOf}
use Rattle.ml_ctl.proofs.Parsed.{ctl_outcome, found_parsed, comes_first}
use Rattle.ml_ctl.proofs.CtlGrammar.{one_formula}

pub one_text_formula : (w : Language) → IsUnambiguous (IsTextOf w)
one_text_formula w text f g a b = one_formula w (signs_of (items text)) f g a b

pub one_answer : (w : Language) → HaveOneAnswer (IsParsedAs w) (IsRefusedBy w)
one_answer w =
    answer.one_answer (IsReadAs w) items (λ f. f) (ctl_outcome w) (one_formula w) (found_parsed w) (comes_first w)
