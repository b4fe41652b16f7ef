-- The code by which proofs tell formulas apart: a formula as the list of its symbols, operands first, and back. What was
-- read lies on two stacks, one of formulas and one of programs.
--
--   symbols_of f, program_symbols p   == the symbols, each behind its operands
--   Stacks                            == the formulas and the programs read so far, the last one first
--   formula_from ss                   == the formula with these symbols
use Rattle.std.specs.Prelude.{ℕ, ◌==◌, ◌≡◌, true, false, if◌then◌else◌, List, [], ◌∷◌, ◌++◌, refl}
use Rattle.std.specs.Coded.{Coded}
use Rattle.std.proofs.Common.{ap}
use Rattle.ml_text.specs.declared.token.Operator.{Operator}
use Rattle.ml_text.specs.declared.token.Operator.TheVariants.{Iff, Implies, Or, And}
use Rattle.ml_text.specs.private.Codes.{Symbol, Leads, led, one_more, read_symbols, symbols_code, top, two_more, under, with_one, with_two}
use Rattle.ml_pdl.specs.Formula.{Formula, Const, Prop, Not, Binary, Modal, Repeat, Program, Act, Seq, Alt, Star, Test}
use Rattle.ml_pdl.specs.declared.term.Modality.{Modality}
use Rattle.ml_pdl.specs.declared.term.Modality.TheVariants.{Diamond, Square}

abbrev pub operator_kind : Operator → ℕ
operator_kind And = 4
operator_kind Or = 5
operator_kind Implies = 6
operator_kind Iff = 7

abbrev pub modality_kind : Modality → ℕ
modality_kind Diamond = 8
modality_kind Square = 9

abbrev mutual
  pub symbols_of : Formula → List Symbol
  symbols_of (Const true) = (0, []) ∷ []
  symbols_of (Const false) = (1, []) ∷ []
  symbols_of (Prop p) = (2, p) ∷ []
  symbols_of (Not f) = symbols_of f ++ (3, []) ∷ []
  symbols_of (Binary op f g) = symbols_of f ++ (symbols_of g ++ (operator_kind op, []) ∷ [])
  symbols_of (Modal m p f) = program_symbols p ++ (symbols_of f ++ (modality_kind m, []) ∷ [])
  symbols_of (Repeat p) = program_symbols p ++ (10, []) ∷ []

  pub program_symbols : Program → List Symbol
  program_symbols (Act a) = (11, a) ∷ []
  program_symbols (Seq p q) = program_symbols p ++ (program_symbols q ++ (12, []) ∷ [])
  program_symbols (Alt p q) = program_symbols p ++ (program_symbols q ++ (13, []) ∷ [])
  program_symbols (Star p) = program_symbols p ++ (14, []) ∷ []
  program_symbols (Test f) = symbols_of f ++ (15, []) ∷ []

abbrev pub Stacks : Type 0
Stacks = List Formula × List Program

abbrev pub push : Formula → Stacks → Stacks
push f st = (f ∷ st.0, st.1)

abbrev pub push_program : Program → Stacks → Stacks
push_program p st = (st.0, p ∷ st.1)

abbrev pub top_formula : Stacks → Formula
top_formula st = top (Const true) st.0

abbrev pub top_program : Stacks → Program
top_program st = top (Act []) st.1

abbrev pub with_formulas : Operator → Stacks → Stacks
with_formulas op st = (with_two (Const true) (Binary op) st.0, st.1)

abbrev pub with_program : Modality → Stacks → Stacks
with_program m st = (Modal m (top_program st) (top_formula st) ∷ under st.0, under st.1)

abbrev pub with_programs : (Program → Program → Program) → Stacks → Stacks
with_programs h st = (st.0, with_two (Act []) h st.1)

-- the stacks behind one symbol more
abbrev pub behind : Symbol → Stacks → Stacks
behind s st =
    if s.0 == 0 then push (Const true) st
    else if s.0 == 1 then push (Const false) st
    else if s.0 == 2 then push (Prop s.1) st
    else if s.0 == 3 then (with_one (Const true) Not st.0, st.1)
    else if s.0 == 4 then with_formulas And st
    else if s.0 == 5 then with_formulas Or st
    else if s.0 == 6 then with_formulas Implies st
    else if s.0 == 7 then with_formulas Iff st
    else if s.0 == 8 then with_program Diamond st
    else if s.0 == 9 then with_program Square st
    else if s.0 == 10 then (Repeat (top_program st) ∷ st.0, under st.1)
    else if s.0 == 11 then push_program (Act s.1) st
    else if s.0 == 12 then with_programs Seq st
    else if s.0 == 13 then with_programs Alt st
    else if s.0 == 14 then (st.0, with_one (Act []) Star st.1)
    else (under st.0, Test (top_formula st) ∷ st.1)

abbrev pub formula_from : List Symbol → Formula
formula_from ss = top_formula (read_symbols behind ss ([], []))

abbrev OnStacks : List Symbol → Stacks → Stacks → Type 0
OnStacks = Leads behind

-- a symbol behind two formulas, a program and a formula, or two programs
two_formulas : (f g : Formula) (s : Symbol) (st : Stacks)
    → ((to : Stacks) → OnStacks (symbols_of f) to (push f to))
    → ((to : Stacks) → OnStacks (symbols_of g) to (push g to))
    → OnStacks (symbols_of f ++ (symbols_of g ++ s ∷ [])) st (behind s (push g (push f st)))
two_formulas f g s st first second =
    two_more behind (symbols_of f) (symbols_of g) s st (push f st) (push g (push f st)) (first st) (second (push f st))

program_and_formula : (p : Program) (f : Formula) (s : Symbol) (st : Stacks)
    → ((to : Stacks) → OnStacks (program_symbols p) to (push_program p to))
    → ((to : Stacks) → OnStacks (symbols_of f) to (push f to))
    → OnStacks (program_symbols p ++ (symbols_of f ++ s ∷ [])) st (behind s (push f (push_program p st)))
program_and_formula p f s st first second =
    two_more behind (program_symbols p) (symbols_of f) s st (push_program p st) (push f (push_program p st)) (first st)
    (second (push_program p st))

two_programs : (p q : Program) (s : Symbol) (st : Stacks)
    → ((to : Stacks) → OnStacks (program_symbols p) to (push_program p to))
    → ((to : Stacks) → OnStacks (program_symbols q) to (push_program q to))
    → OnStacks (program_symbols p ++ (program_symbols q ++ s ∷ [])) st (behind s (push_program q (push_program p st)))
two_programs p q s st first second =
    two_more behind (program_symbols p) (program_symbols q) s st (push_program p st) (push_program q (push_program p st))
    (first st) (second (push_program p st))

mutual
  -- reading a formula's symbols puts the formula on top of those read before
  pub symbols_lead : (f : Formula) (st : Stacks) → OnStacks (symbols_of f) st (push f st)
  symbols_lead (Const true) st = λ ss. refl
  symbols_lead (Const false) st = λ ss. refl
  symbols_lead (Prop p) st = λ ss. refl
  symbols_lead (Not f) st = one_more behind (symbols_of f) (3, []) st (push f st) (symbols_lead f st)
  symbols_lead (Binary And f g) st = two_formulas f g (4, []) st (symbols_lead f) (symbols_lead g)
  symbols_lead (Binary Or f g) st = two_formulas f g (5, []) st (symbols_lead f) (symbols_lead g)
  symbols_lead (Binary Implies f g) st = two_formulas f g (6, []) st (symbols_lead f) (symbols_lead g)
  symbols_lead (Binary Iff f g) st = two_formulas f g (7, []) st (symbols_lead f) (symbols_lead g)
  symbols_lead (Modal Diamond p f) st =
      program_and_formula p f (8, []) st (program_symbols_lead p) (symbols_lead f)
  symbols_lead (Modal Square p f) st =
      program_and_formula p f (9, []) st (program_symbols_lead p) (symbols_lead f)
  symbols_lead (Repeat p) st =
      one_more behind (program_symbols p) (10, []) st (push_program p st) (program_symbols_lead p st)

  pub program_symbols_lead : (p : Program) (st : Stacks) → OnStacks (program_symbols p) st (push_program p st)
  program_symbols_lead (Act a) st = λ ss. refl
  program_symbols_lead (Seq p q) st = two_programs p q (12, []) st (program_symbols_lead p) (program_symbols_lead q)
  program_symbols_lead (Alt p q) st = two_programs p q (13, []) st (program_symbols_lead p) (program_symbols_lead q)
  program_symbols_lead (Star p) st =
      one_more behind (program_symbols p) (14, []) st (push_program p st) (program_symbols_lead p st)
  program_symbols_lead (Test f) st = one_more behind (symbols_of f) (15, []) st (push f st) (symbols_lead f st)

pub formula_from-symbols_of : (f : Formula) → formula_from (symbols_of f) ≡ f
formula_from-symbols_of f = ap top_formula (led behind (symbols_of f) ([], []) (f ∷ [], []) (symbols_lead f ([], [])))

abbrev pub formula_code : Coded Formula
formula_code = symbols_code symbols_of formula_from formula_from-symbols_of
