-- The head of a document: in which version it is written, what is answered, of which formula, in which logic and sense.
--
--   version_word v    == `1` or `2`
--   answer_word a     == `satisfiable`, `unsatisfiable` or `undecided`; the answer speaks of the formula in its sense
--   sense_word n      == `plain`, or `negated` where n is true
--   title_line v, answer_line a, logic_line l, sense_line n == the first four lines of a head
--   lines_about v a l n t == the lines of a head in the version v, with the answer a, of the logic l, negated or not, and
--                        the formula's text t
--   head_lines v a p  == the five lines of the head of a written document about the problem p: the formula's text is its
--                        canonical text
use Rattle.std.specs.Prelude.{ℕ, Bool, true, false, List, [], ◌∷◌, codes}
use Rattle.ml_base.specs.declared.version.Version.{Version}
use Rattle.ml_base.specs.declared.version.Version.TheVariants.{One, Two}
use Rattle.ml_lines.specs.Lines.{Word, Line}
use Rattle.ml_front.specs.Logics.{canonical_text, logic_of, logic_word}
use Rattle.ml_front.specs.declared.answer.Answer.{Answer}
use Rattle.ml_front.specs.declared.answer.Answer.TheVariants.{Satisfiable, Unsatisfiable, Undecided}
use Rattle.ml_front.specs.declared.logic.Logic.{Logic}
use Rattle.ml_front.specs.declared.problem.Problem.{Problem}

abbrev pub version_word : Version → Word
version_word One = codes "1"
version_word Two = codes "2"

abbrev pub answer_word : Answer → Word
answer_word Satisfiable = codes "satisfiable"
answer_word Unsatisfiable = codes "unsatisfiable"
answer_word Undecided = codes "undecided"

abbrev pub sense_word : Bool → Word
sense_word false = codes "plain"
sense_word true = codes "negated"

abbrev pub title_line : Version → Line
title_line v = codes "mlsolver" ∷ version_word v ∷ []

abbrev pub answer_line : Answer → Line
answer_line a = codes "answer" ∷ answer_word a ∷ []

abbrev pub logic_line : Logic → Line
logic_line l = codes "logic" ∷ logic_word l ∷ []

abbrev pub sense_line : Bool → Line
sense_line negated = codes "sense" ∷ sense_word negated ∷ []

abbrev pub lines_about : Version → Answer → Logic → Bool → List ℕ → List Line
lines_about v a l negated text =
    title_line v ∷ answer_line a ∷ logic_line l ∷ sense_line negated ∷ (codes "formula" ∷ text ∷ []) ∷ []

abbrev pub head_lines : Version → Answer → Problem → List Line
head_lines v a p = lines_about v a (logic_of p.formula) p.negated (canonical_text p.formula)
