-- The grammar of PDL texts as tables, for the machine of `ml_text`: the forms of operands, and the operators.
--
-- Nobody has to believe them: the law `texts_are_those_of_the_tables` says that they are the grammar of `Grammar.antt`.
--
-- Formulas and programs are two sorts, whose trees are one type. A lower-case name where a program is to come is a tree
-- by itself: the sign `?` behind it makes it the test of a proposition, and without that sign it is an action. No other
-- program takes a `?`: the form of a test reads its own, and counts the negations in front.
--
--   Phrase        == the trees: a formula, a program, or a name that may become either
--   formula_of    == the formula that a tree is; program_of == the program that it is
--   negated n f   == f behind n negations
--   Sort          == formulas or programs
--   Wait          == a form of which a sign is to come
--   Hold          == a form of which an operand is to come
--   shift q t     == what the sign t does to a form
--   resume k v    == a form behind its operand v
--   pdl_grammar   == the tables
use Rattle.std.specs.Prelude.{ℕ, zero, suc, Bool, true, nat_le, List, Option, Some, None, codes}
use Rattle.ml_text.specs.Operators.{operator_level}
use Rattle.ml_text.specs.Grammar.{Grammar, Mode, Whole, More, Turn, Read, Inner, Opens}
use Rattle.ml_text.specs.declared.forms.Role.{Role}
use Rattle.ml_text.specs.declared.forms.Role.TheVariants.{Infix, Postfix, Outside}
pub use Rattle.ml_pdl.specs.declared.forms.Sort.{Sort}
pub use Rattle.ml_pdl.specs.declared.forms.Sort.TheVariants.{Formulas, Programs}
use Rattle.ml_pdl.specs.Formula as plain
use Rattle.ml_pdl.specs.Formula.{Formula, Program}
use Rattle.ml_pdl.specs.declared.term.Modality.{Modality}
use Rattle.ml_pdl.specs.declared.term.Modality.TheVariants.{Diamond, Square}
use Rattle.ml_text.specs.declared.named_signs.Sign.TheVariants.{Not, Connective, Const, Close, Lower, Upper, Added}
use Rattle.ml_pdl.specs.Signs.{Sign}
use Rattle.ml_pdl.specs.declared.signs.Own.TheVariants.{Begins, Ends, Repeats, Plus, Semicolon, Star, Question, Blank, Paren}
use Rattle.ml_pdl.specs.declared.signs.Mark.TheVariants.{Marked, Unmarked}

pub data Phrase : Type 0 where
  OfFormula : Formula → Phrase
  OfProgram : Program → Phrase
  -- a lower-case name where a program is to come
  Name : List ℕ → Phrase

-- a tree of the other sort never comes to these
abbrev pub formula_of : Phrase → Formula
formula_of (OfFormula f) = f
formula_of (OfProgram p) = plain.Const true
formula_of (Name a) = plain.Prop a

abbrev pub program_of : Phrase → Program
program_of (OfFormula f) = plain.Test f
program_of (OfProgram p) = p
program_of (Name a) = plain.Act a

abbrev pub negated : ℕ → Formula → Formula
negated zero f = f
negated (suc n) f = negated n (plain.Not f)

pub data Wait : Type 0 where
  -- a formula or a program is to come
  FormulaStart ProgramStart : Wait
  -- behind `<` or `[`, and behind the program there
  BehindBegin : Modality → Wait
  BehindProgram : Modality → Program → Wait
  -- behind `repeat`, and behind the program in its parentheses
  BehindRepeat : Wait
  BehindRepeatInside : Program → Wait
  -- behind what stands between parentheses: a formula, a program, the formula of a test
  BehindFormulaInside : Formula → Wait
  BehindProgramInside : Program → Wait
  BehindTestInside : Formula → Wait
  -- in a test, behind so many negations; and where its `?` is to come
  BehindNegations : ℕ → Wait
  BehindTested : Formula → Wait

pub data Hold : Type 0 where
  Negation : Hold
  -- the program of a modality, and the formula behind it
  ModalProgram : Modality → Hold
  Modal : Modality → Program → Hold
  -- what stands between parentheses; in a test, behind so many negations
  FormulaGroup ProgramGroup : Hold
  -- the same behind `repeat`
  RepeatGroup : Hold
  TestGroup : ℕ → Hold

abbrev pub PdlTurn : Type 0
PdlTurn = Turn Phrase Wait Hold

abbrev pub blank : Program
blank = plain.Act (codes "_")

abbrev pub shift_formula : Sign → Option PdlTurn
shift_formula Not = Some (Inner Negation)
shift_formula (Const b) = Some (Read (Whole (OfFormula (plain.Const b))))
shift_formula (Lower p) = Some (Read (Whole (OfFormula (plain.Prop p))))
shift_formula (Added (Paren k)) = Some (Inner FormulaGroup)
shift_formula (Added (Begins m)) = Some (Read (More (BehindBegin m)))
shift_formula (Added Repeats) = Some (Read (More BehindRepeat))
shift_formula _ = None

-- in a test, behind n negations
abbrev pub shift_test : ℕ → Sign → Option PdlTurn
shift_test n Not = Some (Read (More (BehindNegations (suc n))))
shift_test n (Const b) = Some (Read (More (BehindTested (negated n (plain.Const b)))))
shift_test n (Lower p) = Some (Read (More (BehindTested (negated n (plain.Prop p)))))
shift_test n (Added (Paren k)) = Some (Inner (TestGroup n))
shift_test n _ = None

abbrev pub shift_program : Sign → Option PdlTurn
shift_program (Added Blank) = Some (Read (Whole (OfProgram blank)))
shift_program (Lower a) = Some (Read (Whole (Name a)))
shift_program (Upper a) = Some (Read (Whole (OfProgram (plain.Act a))))
shift_program (Added (Paren Unmarked)) = Some (Inner ProgramGroup)
shift_program (Added (Paren Marked)) = shift_test 0 (Added (Paren Marked))
shift_program Not = shift_test 0 Not
shift_program (Const b) = shift_test 0 (Const b)
shift_program _ = None

abbrev pub shift_begin : Modality → Sign → Option PdlTurn
shift_begin Diamond (Added (Ends Diamond)) = Some (Inner (Modal Diamond blank))
shift_begin Square (Added (Ends Square)) = Some (Inner (Modal Square blank))
shift_begin m _ = Some (Opens (ModalProgram m))

abbrev pub shift_end : Modality → Program → Sign → Option PdlTurn
shift_end Diamond p (Added (Ends Diamond)) = Some (Inner (Modal Diamond p))
shift_end Square p (Added (Ends Square)) = Some (Inner (Modal Square p))
shift_end _ p _ = None

-- behind what stands between parentheses
abbrev pub shift_close : Mode Phrase Wait → Sign → Option PdlTurn
shift_close m Close = Some (Read m)
shift_close m _ = None

abbrev pub shift_repeat : Sign → Option PdlTurn
shift_repeat (Added (Paren k)) = Some (Inner RepeatGroup)
shift_repeat _ = None

abbrev pub shift_tested : Formula → Sign → Option PdlTurn
shift_tested f (Added Question) = Some (Read (Whole (OfProgram (plain.Test f))))
shift_tested f _ = None

abbrev pub shift : Wait → Sign → Option PdlTurn
shift FormulaStart t = shift_formula t
shift ProgramStart t = shift_program t
shift (BehindBegin m) t = shift_begin m t
shift (BehindProgram m p) t = shift_end m p t
shift BehindRepeat t = shift_repeat t
shift (BehindRepeatInside p) t = shift_close (Whole (OfFormula (plain.Repeat p))) t
shift (BehindFormulaInside f) t = shift_close (Whole (OfFormula f)) t
shift (BehindProgramInside p) t = shift_close (Whole (OfProgram p)) t
shift (BehindTestInside f) t = shift_close (More (BehindTested f)) t
shift (BehindNegations n) t = shift_test n t
shift (BehindTested f) t = shift_tested f t

abbrev pub start : Sort → Wait
start Formulas = FormulaStart
start Programs = ProgramStart

abbrev pub sort : Hold → Sort
sort (ModalProgram m) = Programs
sort ProgramGroup = Programs
sort RepeatGroup = Programs
sort _ = Formulas

abbrev pub level : Hold → ℕ
level Negation = 4
level (Modal m p) = 4
level _ = 0

abbrev pub resume : Hold → Phrase → Mode Phrase Wait
resume Negation v = Whole (OfFormula (plain.Not (formula_of v)))
resume (ModalProgram m) v = More (BehindProgram m (program_of v))
resume (Modal m p) v = Whole (OfFormula (plain.Modal m p (formula_of v)))
resume FormulaGroup v = More (BehindFormulaInside (formula_of v))
resume RepeatGroup v = More (BehindRepeatInside (program_of v))
resume ProgramGroup v = More (BehindProgramInside (program_of v))
resume (TestGroup n) v = More (BehindTestInside (negated n (formula_of v)))

abbrev pub role : Sort → Sign → Role
role Formulas (Connective o) = Infix (operator_level o)
role Programs (Added Plus) = Infix 0
role Programs (Added Semicolon) = Infix 1
role Programs (Added Star) = Postfix
role Programs (Added Question) = Postfix
role _ _ = Outside

-- of formulas the connectives of the levels 2 and 3 group to the left, of programs all operators
abbrev pub groups_left : Sort → ℕ → Bool
groups_left Formulas l = nat_le 2 l
groups_left Programs l = true

abbrev pub join : Sign → Phrase → Phrase → Phrase
join (Connective o) v w = OfFormula (plain.Binary o (formula_of v) (formula_of w))
join (Added Plus) v w = OfProgram (plain.Alt (program_of v) (program_of w))
join (Added Semicolon) v w = OfProgram (plain.Seq (program_of v) (program_of w))
join _ v w = v

abbrev pub test_of : Phrase → Option Phrase
test_of (Name a) = Some (OfProgram (plain.Test (plain.Prop a)))
test_of _ = None

abbrev pub post : Sign → Phrase → Option Phrase
post (Added Star) v = Some (OfProgram (plain.Star (program_of v)))
post (Added Question) v = test_of v
post _ v = None

abbrev pub pdl_grammar : Grammar
pdl_grammar = record {
  Sign = Sign;
  Tree = Phrase;
  Sort = Sort;
  Wait = Wait;
  Hold = Hold;
  whole = Formulas;
  start = start;
  shift = shift;
  sort = sort;
  level = level;
  resume = resume;
  role = role;
  groups_left = groups_left;
  join = join;
  post = post;
}
