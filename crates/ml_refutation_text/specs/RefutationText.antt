-- The lines of the texts of refutations: of the body of an unsatisfiable document, in both versions.
--
-- A body is the number of names, then the number of entries, the lines of each entry, and `end`. In version 1 sequents
-- and stacks are written in full where they stand. In version 2 two tables stand behind the number of names, of sequents
-- and of stacks, and where a sequent or a stack stands there is its number, that is the place of its line in the table,
-- from 0 on. Which lines are a text of which refutation `BodyRules` says.
--
--   names_line, entries_line, sequents_line == `names M`, `entries E`, `sequents S`
--   stacks_line w           == `stacks` with the word w
--   sequent_line q, stack_line ns   == `sequent` with the nodes, `stack` with the names
--   numbered_line i, entry_line i s == `entry i` of version 1, `entry i s` of version 2
--   live_line m, item_line s ws, heights_line hs == `live m`; `item n -` or `item n d` with the words ws; `heights` with
--                              the numbers hs
--   decision_lines d        == the decision in preorder: `split o` with the left and the right decision, `clash` with its
--                              cause, `go D e` with its mark
use Rattle.std.specs.Prelude.{ℕ, List, [], ◌∷◌, ◌++◌, Option, None, Some, map, codes}
use Rattle.ml_lines.specs.Lines.{Word, Line, number}
use Rattle.ml_trace.specs.declared.letters.AutomatonState.{AutomatonState}
use Rattle.ml_trace.specs.declared.marks.Mark.{Mark}
use Rattle.ml_trace.specs.declared.marks.Mark.TheVariants.{Red, Green, Neutral}
use Rattle.ml_sequent.specs.declared.clashes.ClashCause.{ClashCause}
use Rattle.ml_sequent.specs.declared.clashes.ClashCause.TheVariants.{False, Pair, Cycle}
use Rattle.ml_refutation.specs.Refutation.{Decision, Split, Clash, Go}

-- ---- lines

abbrev pub numbers : List ℕ → List Word
numbers ns = map number ns

abbrev pub names_line : ℕ → Line
names_line n = codes "names" ∷ number n ∷ []

abbrev pub entries_line : ℕ → Line
entries_line n = codes "entries" ∷ number n ∷ []

abbrev pub sequents_line : ℕ → Line
sequents_line n = codes "sequents" ∷ number n ∷ []

abbrev pub stacks_line : Word → Line
stacks_line count = codes "stacks" ∷ count ∷ []

abbrev pub sequent_line : List ℕ → Line
sequent_line nodes = codes "sequent" ∷ numbers nodes

abbrev pub stack_line : List ℕ → Line
stack_line names = codes "stack" ∷ numbers names

abbrev pub numbered_line : ℕ → Line
numbered_line i = codes "entry" ∷ number i ∷ []

abbrev pub entry_line : ℕ → ℕ → Line
entry_line i s = codes "entry" ∷ number i ∷ number s ∷ []

abbrev pub live_line : ℕ → Line
live_line live = codes "live" ∷ number live ∷ []

abbrev pub guess_word : Option ℕ → Word
guess_word None = codes "-"
guess_word (Some d) = number d

abbrev pub item_line : AutomatonState → List Word → Line
item_line s words = codes "item" ∷ number s.node ∷ guess_word s.odd ∷ words

abbrev pub heights_line : List ℕ → Line
heights_line heights = codes "heights" ∷ numbers heights

abbrev pub split_line : ℕ → Line
split_line node = codes "split" ∷ number node ∷ []

abbrev pub cause_words : ClashCause → List Word
cause_words (False n) = codes "false" ∷ number n ∷ []
cause_words (Pair p q) = codes "pair" ∷ number p ∷ number q ∷ []
cause_words (Cycle n) = codes "cycle" ∷ number n ∷ []

abbrev pub clash_line : ClashCause → Line
clash_line cause = codes "clash" ∷ cause_words cause

abbrev pub mark_words : Mark → List Word
mark_words (Red x) = codes "red" ∷ number x ∷ []
mark_words (Green x) = codes "green" ∷ number x ∷ []
mark_words Neutral = codes "neutral" ∷ []

abbrev pub go_line : ℕ → ℕ → Mark → Line
go_line diamond entry mark = codes "go" ∷ number diamond ∷ number entry ∷ mark_words mark

abbrev pub decision_lines : Decision → List Line
decision_lines (Split node left right) = split_line node ∷ (decision_lines left ++ decision_lines right)
decision_lines (Clash cause) = clash_line cause ∷ []
decision_lines (Go diamond entry mark) = go_line diamond entry mark ∷ []

abbrev pub end_line : Line
end_line = codes "end" ∷ []
