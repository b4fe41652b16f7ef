-- A path as it is written: its states, the place to which the last one leads back, and a document that shows what it shows.
--
-- The document is one of LTL on words, with the formula and the sense of the path problem. Its structure is the word of the
-- labels along the path (`ml_word_automaton/specs/Words`): a state for each place, in order, with all labels of the place's
-- state, and with one edge by `_`, to the next place, from the last one to the place to which it leads back.
--
--   path_line l              == `path`, with the states of the lasso l behind it
--   loop_line l              == `loop`, with its loop start
--   path_lines l             == both lines, as bytes
--   run_of_path m l          == the structure of the word of the labels along the lasso l of m
--   path_document m l f b    == the document that says that the problem of LTL on words holds at its first state
--   path_text m l f b        == the lines, and behind them the document
use Rattle.std.specs.Prelude.{ℕ, Bool, List, [], ◌∷◌, ◌++◌, map, codes}
use Rattle.ml_base.specs.Structure.{Structure}
use Rattle.ml_lines.specs.Lines.{Line, number, text_of}
use Rattle.ml_ctl.specs.Formula.{Formula}
use Rattle.ml_lists.specs.Lasso.{Lasso}
use Rattle.ml_word_automaton.specs.Words.{word_structure}
use Rattle.ml_model_check.specs.WrittenDocument.{satisfiable_document}
use Rattle.ml_paths.specs.Runs.{word_along}
use Rattle.ml_path_text.specs.PathProblems.{on_words}

abbrev pub path_line : Lasso → Line
path_line l = codes "path" ∷ map number l.entries

abbrev pub loop_line : Lasso → Line
loop_line l = codes "loop" ∷ number l.start ∷ []

abbrev pub path_lines : Lasso → List ℕ
path_lines l = text_of (path_line l ∷ loop_line l ∷ [])

abbrev pub run_of_path : Structure → Lasso → Structure
run_of_path m l = word_structure (word_along m l)

abbrev pub path_document : Structure → Lasso → Formula → Bool → List ℕ
path_document m l f negated = satisfiable_document (on_words f negated) (run_of_path m l) 0

abbrev pub path_text : Structure → Lasso → Formula → Bool → List ℕ
path_text m l f negated = path_lines l ++ path_document m l f negated
