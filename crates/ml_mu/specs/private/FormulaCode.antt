-- The code by which proofs tell formulas apart: a formula as the list of its symbols, operands first, and back.
--
--   symbols_of f         == the symbols of f, each behind its operands
--   behind s fs          == the formulas read so far, the last one first, behind the symbol s
--   formula_from ss      == the formula with these symbols
use Rattle.std.specs.Prelude.{ℕ, ◌==◌, ◌≡◌, true, false, if◌then◌else◌, List, [], ◌∷◌, ◌++◌, refl}
use Rattle.std.specs.Coded.{Coded}
use Rattle.std.proofs.Common.{ap}
use Rattle.ml_text.specs.declared.token.Operator.{Operator}
use Rattle.ml_text.specs.declared.token.Operator.TheVariants.{Iff, Implies, Or, And}
use Rattle.ml_text.specs.private.Codes.{Symbol, Reads, led, one_tree, read_symbols, symbols_code, top, two_trees, with_one, with_two}
use Rattle.ml_mu.specs.Formula.{Formula, Const, Prop, Var, Not, Binary, Modal, Binder, Modality, Diamond, Square, Fixpoint, Least, Greatest}

abbrev pub operator_kind : Operator → ℕ
operator_kind And = 5
operator_kind Or = 6
operator_kind Implies = 7
operator_kind Iff = 8

abbrev pub modality_kind : Modality → ℕ
modality_kind Diamond = 9
modality_kind Square = 10

abbrev pub fixpoint_kind : Fixpoint → ℕ
fixpoint_kind Least = 11
fixpoint_kind Greatest = 12

abbrev pub symbols_of : Formula → List Symbol
symbols_of (Const true) = (0, []) ∷ []
symbols_of (Const false) = (1, []) ∷ []
symbols_of (Prop p) = (2, p) ∷ []
symbols_of (Var x) = (3, x) ∷ []
symbols_of (Not f) = symbols_of f ++ (4, []) ∷ []
symbols_of (Binary op f g) = symbols_of f ++ (symbols_of g ++ (operator_kind op, []) ∷ [])
symbols_of (Modal m a f) = symbols_of f ++ (modality_kind m, a) ∷ []
symbols_of (Binder q x f) = symbols_of f ++ (fixpoint_kind q, x) ∷ []

abbrev pub blank : Formula
blank = Const true

abbrev pub behind : Symbol → List Formula → List Formula
behind s fs =
    if s.0 == 0 then Const true ∷ fs
    else if s.0 == 1 then Const false ∷ fs
    else if s.0 == 2 then Prop s.1 ∷ fs
    else if s.0 == 3 then Var s.1 ∷ fs
    else if s.0 == 4 then with_one blank Not fs
    else if s.0 == 5 then with_two blank (Binary And) fs
    else if s.0 == 6 then with_two blank (Binary Or) fs
    else if s.0 == 7 then with_two blank (Binary Implies) fs
    else if s.0 == 8 then with_two blank (Binary Iff) fs
    else if s.0 == 9 then with_one blank (Modal Diamond s.1) fs
    else if s.0 == 10 then with_one blank (Modal Square s.1) fs
    else if s.0 == 11 then with_one blank (Binder Least s.1) fs
    else with_one blank (Binder Greatest s.1) fs

abbrev pub formula_from : List Symbol → Formula
formula_from ss = top blank (read_symbols behind ss [])

pub symbols_read : (f : Formula) → Reads behind symbols_of f
symbols_read (Const true) st = λ ss. refl
symbols_read (Const false) st = λ ss. refl
symbols_read (Prop p) st = λ ss. refl
symbols_read (Var x) st = λ ss. refl
symbols_read (Not f) st = one_tree behind symbols_of f (4, []) st (symbols_read f)
symbols_read (Binary And f g) st = two_trees behind symbols_of f g (5, []) st (symbols_read f) (symbols_read g)
symbols_read (Binary Or f g) st = two_trees behind symbols_of f g (6, []) st (symbols_read f) (symbols_read g)
symbols_read (Binary Implies f g) st = two_trees behind symbols_of f g (7, []) st (symbols_read f) (symbols_read g)
symbols_read (Binary Iff f g) st = two_trees behind symbols_of f g (8, []) st (symbols_read f) (symbols_read g)
symbols_read (Modal Diamond a f) st = one_tree behind symbols_of f (9, a) st (symbols_read f)
symbols_read (Modal Square a f) st = one_tree behind symbols_of f (10, a) st (symbols_read f)
symbols_read (Binder Least x f) st = one_tree behind symbols_of f (11, x) st (symbols_read f)
symbols_read (Binder Greatest x f) st = one_tree behind symbols_of f (12, x) st (symbols_read f)

pub formula_from-symbols_of : (f : Formula) → formula_from (symbols_of f) ≡ f
formula_from-symbols_of f = ap (top blank) (led behind (symbols_of f) [] (f ∷ []) (symbols_read f []))

abbrev pub formula_code : Coded Formula
formula_code = symbols_code symbols_of formula_from formula_from-symbols_of
