-- The kinds of documents, as the first two lines of a text tell them.
--
-- A text whose first line is the title of documents of realizability is read as that of an undecided task where its second
-- line tells `undecided`, and else as that of a machine or an environment. Each other text is read as the document of a
-- problem, with the answer that its second line tells. Where this tells none, the first bad line is this one or the one before
-- it, whichever answer is wanted: it is read as if it told `satisfiable`.
--
--   line_at text i   == the bytes of the i-th line of a text, from 0 on; none where there is no such line
--   answer_in line   == the answer that a line tells, or `satisfiable`
--   told_of_task line == the kind of a document of a task that has this second line
--   kind_of text     == the kind of document that a text is read as
use Rattle.std.specs.Prelude.{ℕ, List, [], codes, slice_index_or, if◌then◌else◌}
use Rattle.std.specs.List.{join_with_byte}
use Rattle.std.specs.Str.{bytes_eq}
use Rattle.ml_front.specs.declared.answer.Answer.{Answer}
use Rattle.ml_front.specs.declared.answer.Answer.TheVariants.{Satisfiable, Unsatisfiable, Undecided}
use Rattle.ml_lines.specs.Reading.{lines_of}
use Rattle.ml_show_text.specs.declared.kind.Kind.{Kind}
use Rattle.ml_show_text.specs.declared.kind.Kind.TheVariants.{Realizability, UndecidedTask, Decision}

-- the words of a line with a blank between them
abbrev pub line_at : List ℕ → ℕ → List ℕ
line_at text i = join_with_byte 32 (slice_index_or (lines_of text) i [])

abbrev pub answer_in : List ℕ → Answer
answer_in line =
    if bytes_eq line (codes "answer unsatisfiable") then Unsatisfiable
    else if bytes_eq line (codes "answer undecided") then Undecided
    else Satisfiable

abbrev pub told_of_task : List ℕ → Kind
told_of_task line = if bytes_eq line (codes "answer undecided") then UndecidedTask else Realizability

abbrev pub kind_of : List ℕ → Kind
kind_of text =
    if bytes_eq (line_at text 0) (codes "mlsolver realize 1") then told_of_task (line_at text 1)
    else Decision (answer_in (line_at text 1))
