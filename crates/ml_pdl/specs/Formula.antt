-- The formulas and programs of propositional dynamic logic, as plain data.
--
-- The two kinds hold one another: a modality holds a program, and a test holds a formula. The four binary connectives
-- are one case, with the connective as a part, and so are the two modalities. Names are lists of bytes. Nothing is
-- excluded here: how names have to be spelt (`Spelling.antt`) is said of a formula, not built in.
--
--   Formula        == the formulas: constants, propositions, negations, connectives, modalities, infinite repetition
--   Program        == the programs: actions; one program and then another; one of two; any number of times; a test
--   Operator       == and, or, implies, iff (of `ml_text`, since all logics share them)
--   Modality       == diamond (some run of the program) or square (every run), as trees have it (`src/term.rt`)
--   occurrences f, program_occurrences p == the number of symbols, where iff counts as three and each action as one
use Rattle.std.specs.Prelude.{ℕ, ◌+◌, Bool, List}
use Rattle.ml_text.specs.declared.token.Operator.{Operator}
use Rattle.ml_text.specs.Operators.{weight}
use Rattle.ml_pdl.specs.declared.term.Modality.{Modality}

mutual
  pub data Formula : Type 0 where
    Const : Bool → Formula
    Prop : List ℕ → Formula
    Not : Formula → Formula
    Binary : Operator → Formula → Formula → Formula
    Modal : Modality → Program → Formula → Formula
    -- the program can be run again and again for ever
    Repeat : Program → Formula

  pub data Program : Type 0 where
    Act : List ℕ → Program
    Seq : Program → Program → Program
    Alt : Program → Program → Program
    Star : Program → Program
    Test : Formula → Program

abbrev mutual
  pub occurrences : Formula → ℕ
  occurrences (Not f) = 1 + occurrences f
  occurrences (Binary op f g) = weight op + occurrences f + occurrences g
  occurrences (Modal m p f) = 1 + program_occurrences p + occurrences f
  occurrences (Repeat p) = 1 + program_occurrences p
  occurrences _ = 1

  pub program_occurrences : Program → ℕ
  program_occurrences (Act a) = 1
  program_occurrences (Seq p q) = 1 + program_occurrences p + program_occurrences q
  program_occurrences (Alt p q) = 1 + program_occurrences p + program_occurrences q
  program_occurrences (Star p) = 1 + program_occurrences p
  program_occurrences (Test f) = 1 + occurrences f
