-- A text has one formula at most and one answer, and just one.
--
--   one_text_formula  == a text stands for one formula at most
--   one_answer        == a text is parsed as one formula or refused in one way
use Rattle.ml_text.specs.Answers.{HaveOneAnswer, IsUnambiguous}
use Rattle.ml_text.specs.Refusals.{signs_of}
use Rattle.ml_text.proofs.OneAnswer as answer
use Rattle.ml_bounded.specs.Grammar.{IsReadAs}
use Rattle.ml_bounded.specs.Parsing.{IsParsedAs, IsRefusedBy}
use Rattle.ml_bounded.specs.Text.{items}
use Rattle.ml_bounded.specs.TextLaws.{IsTextOf}
use Rattle.ml_bounded.proofs.Parsed.{bounded_outcome, found_parsed, comes_first}
use Rattle.ml_bounded.proofs.BoundedGrammar.{one_formula}

pub one_text_formula : IsUnambiguous IsTextOf
one_text_formula text f g a b = one_formula (signs_of (items text)) f g a b

pub one_answer : HaveOneAnswer IsParsedAs IsRefusedBy
one_answer = answer.one_answer IsReadAs items (λ f. f) bounded_outcome one_formula found_parsed comes_first
