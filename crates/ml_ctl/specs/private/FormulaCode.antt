-- The code by which proofs tell formulas apart: a formula as the list of its symbols, operands first, and back.
--
--   symbols_of f         == the symbols of f, each behind its operands
--   behind s fs          == the formulas read so far, the last one first, behind the symbol s
--   formula_from ss      == the formula with these symbols
use Rattle.std.specs.Prelude.{ℕ, ◌==◌, ◌≡◌, true, false, if◌then◌else◌, List, [], ◌∷◌, ◌++◌, refl}
use Rattle.std.specs.Coded.{Coded}
use Rattle.std.proofs.Common.{ap}
use Rattle.ml_text.specs.declared.token.Operator.{Operator}
use Rattle.ml_text.specs.declared.token.Operator.TheVariants.{Iff, Implies, Or, And}
use Rattle.ml_text.specs.private.Codes.{Symbol, Reads, led, one_tree, read_symbols, symbols_code, top, two_trees, with_one, with_two}
use Rattle.ml_ctl.specs.Formula.{Formula, Const, Prop, Not, Binary, Temporal, Paired, Quantified}
use Rattle.ml_ctl.specs.declared.term.Tense.{Tense}
use Rattle.ml_ctl.specs.declared.term.Tense.TheVariants.{Next, Finally, Globally}
use Rattle.ml_ctl.specs.declared.term.Pairing.{Pairing}
use Rattle.ml_ctl.specs.declared.term.Pairing.TheVariants.{Until, Release, Weak}
use Rattle.ml_ctl.specs.declared.term.Quantifier.{Quantifier}
use Rattle.ml_ctl.specs.declared.term.Quantifier.TheVariants.{Exists, Forall}

abbrev pub operator_kind : Operator → ℕ
operator_kind And = 4
operator_kind Or = 5
operator_kind Implies = 6
operator_kind Iff = 7

abbrev pub tense_kind : Tense → ℕ
tense_kind Next = 8
tense_kind Finally = 9
tense_kind Globally = 10

abbrev pub pairing_kind : Pairing → ℕ
pairing_kind Until = 11
pairing_kind Release = 12
pairing_kind Weak = 13

abbrev pub quantifier_kind : Quantifier → ℕ
quantifier_kind Exists = 14
quantifier_kind Forall = 15

abbrev pub symbols_of : Formula → List Symbol
symbols_of (Const true) = (0, []) ∷ []
symbols_of (Const false) = (1, []) ∷ []
symbols_of (Prop p) = (2, p) ∷ []
symbols_of (Not f) = symbols_of f ++ (3, []) ∷ []
symbols_of (Binary op f g) = symbols_of f ++ (symbols_of g ++ (operator_kind op, []) ∷ [])
symbols_of (Temporal t f) = symbols_of f ++ (tense_kind t, []) ∷ []
symbols_of (Paired p f g) = symbols_of f ++ (symbols_of g ++ (pairing_kind p, []) ∷ [])
symbols_of (Quantified q f) = symbols_of f ++ (quantifier_kind q, []) ∷ []

abbrev pub blank : Formula
blank = Const true

abbrev pub behind : Symbol → List Formula → List Formula
behind s fs =
    if s.0 == 0 then Const true ∷ fs
    else if s.0 == 1 then Const false ∷ fs
    else if s.0 == 2 then Prop s.1 ∷ fs
    else if s.0 == 3 then with_one blank Not fs
    else if s.0 == 4 then with_two blank (Binary And) fs
    else if s.0 == 5 then with_two blank (Binary Or) fs
    else if s.0 == 6 then with_two blank (Binary Implies) fs
    else if s.0 == 7 then with_two blank (Binary Iff) fs
    else if s.0 == 8 then with_one blank (Temporal Next) fs
    else if s.0 == 9 then with_one blank (Temporal Finally) fs
    else if s.0 == 10 then with_one blank (Temporal Globally) fs
    else if s.0 == 11 then with_two blank (Paired Until) fs
    else if s.0 == 12 then with_two blank (Paired Release) fs
    else if s.0 == 13 then with_two blank (Paired Weak) fs
    else if s.0 == 14 then with_one blank (Quantified Exists) fs
    else with_one blank (Quantified Forall) fs

abbrev pub formula_from : List Symbol → Formula
formula_from ss = top blank (read_symbols behind ss [])

pub symbols_read : (f : Formula) → Reads behind symbols_of f
symbols_read (Const true) st = λ ss. refl
symbols_read (Const false) st = λ ss. refl
symbols_read (Prop p) st = λ ss. refl
symbols_read (Not f) st = one_tree behind symbols_of f (3, []) st (symbols_read f)
symbols_read (Binary And f g) st = two_trees behind symbols_of f g (4, []) st (symbols_read f) (symbols_read g)
symbols_read (Binary Or f g) st = two_trees behind symbols_of f g (5, []) st (symbols_read f) (symbols_read g)
symbols_read (Binary Implies f g) st = two_trees behind symbols_of f g (6, []) st (symbols_read f) (symbols_read g)
symbols_read (Binary Iff f g) st = two_trees behind symbols_of f g (7, []) st (symbols_read f) (symbols_read g)
symbols_read (Temporal Next f) st = one_tree behind symbols_of f (8, []) st (symbols_read f)
symbols_read (Temporal Finally f) st = one_tree behind symbols_of f (9, []) st (symbols_read f)
symbols_read (Temporal Globally f) st = one_tree behind symbols_of f (10, []) st (symbols_read f)
symbols_read (Paired Until f g) st = two_trees behind symbols_of f g (11, []) st (symbols_read f) (symbols_read g)
symbols_read (Paired Release f g) st = two_trees behind symbols_of f g (12, []) st (symbols_read f) (symbols_read g)
symbols_read (Paired Weak f g) st = two_trees behind symbols_of f g (13, []) st (symbols_read f) (symbols_read g)
symbols_read (Quantified Exists f) st = one_tree behind symbols_of f (14, []) st (symbols_read f)
symbols_read (Quantified Forall f) st = one_tree behind symbols_of f (15, []) st (symbols_read f)

pub formula_from-symbols_of : (f : Formula) → formula_from (symbols_of f) ≡ f
formula_from-symbols_of f = ap (top blank) (led behind (symbols_of f) [] (f ∷ []) (symbols_read f []))

abbrev pub formula_code : Coded Formula
formula_code = symbols_code symbols_of formula_from formula_from-symbols_of
