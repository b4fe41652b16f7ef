-- Families of formulas: each has one formula for each number of its range.
--
-- The formulas are told by their texts, as a user would write them. In three families the formula for n is n parts that
-- are joined; in the other two it is about a program of n actions. Where numbers stand in a text, they are decimal.
--
--   family_word f    == the word that names the family f
--   logic_name f     == the name of the logic that its formulas are of
--   part f i         == what its formula has for the number i
--   parts f sep n    == what it has for 1 to n, with sep between each two
--   formula_text f n == the text of its formula for n
use Rattle.std.specs.Prelude.{ℕ, List, ◌++◌, codes}
use Rattle.std.specs.List.{join_by, range_with_len}
use Rattle.ml_lines.specs.Lines.{Word, number}
use Rattle.ml_gen.specs.declared.family.Family.{Family}
use Rattle.ml_gen.specs.declared.family.Family.TheVariants.{And, Or, Step, Fair, Loop}

abbrev pub family_word : Family → Word
family_word And = codes "and"
family_word Or = codes "or"
family_word Step = codes "step"
family_word Fair = codes "fair"
family_word Loop = codes "loop"

abbrev pub logic_name : Family → Word
logic_name Step = codes "pdl"
logic_name Fair = codes "ltl"
logic_name Loop = codes "pdl"
logic_name _ = codes "mu"

abbrev pub part : Family → ℕ → List ℕ
part And i = codes "p" ++ number i
part Or i = codes "(p" ++ number i ++ codes " | q" ++ number i ++ codes ")"
part Fair i = codes "(G F p" ++ number i ++ codes ")"
part _ i = codes "a"

abbrev pub parts : Family → List ℕ → ℕ → List ℕ
parts family separator n = join_by (part family) separator (range_with_len 1 n)

abbrev pub formula_text : Family → ℕ → List ℕ
formula_text And n = parts And (codes " & ") n
formula_text Or n = parts Or (codes " & ") n
formula_text Step n = codes "<" ++ parts Step (codes ";") n ++ codes ">p & [a*]!p"
formula_text Fair n = parts Fair (codes " & ") n
formula_text Loop n = codes "repeat(" ++ parts Loop (codes ";") n ++ codes ")"
