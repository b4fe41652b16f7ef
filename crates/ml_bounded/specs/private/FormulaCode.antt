-- The code by which proofs tell formulas apart: a formula as the list of its symbols, operands first, and back. The numbers of
-- a bounded operator stand where the name of a proposition does.
--
--   symbols_of f         == the symbols of f, each behind its operands
--   behind s fs          == the formulas read so far, the last one first, behind the symbol s
--   formula_from ss      == the formula with these symbols
use Rattle.std.specs.Prelude.{ℕ, ◌==◌, ◌≡◌, true, false, if◌then◌else◌, List, [], ◌∷◌, ◌++◌, refl}
use Rattle.std.specs.Coded.{Coded}
use Rattle.std.proofs.Common.{ap}
use Rattle.ml_text.specs.declared.token.Operator.TheVariants.{Iff, Implies, Or, And}
use Rattle.ml_text.specs.private.Codes.{Symbol, Reads, led, one_tree, read_symbols}
use Rattle.ml_text.specs.private.Codes.{symbols_code, top, two_trees, under, with_one, with_two}
use Rattle.ml_ctl.specs.declared.term.Tense.TheVariants.{Next, Finally, Globally}
use Rattle.ml_ctl.specs.declared.term.Pairing.TheVariants.{Until, Release, Weak}
use Rattle.ml_ctl.specs.private.FormulaCode.{operator_kind, pairing_kind, tense_kind}
use Rattle.ml_bounded.specs.Formula.{Formula, Const, Prop, Not, Binary, Temporal, Paired, Bounded}
use Rattle.ml_bounded.specs.declared.term.Bound.{Bound}
use Rattle.ml_bounded.specs.declared.term.Bound.TheVariants as bound
use Rattle.ml_bounded.specs.declared.term.Reach.TheVariants.{Eventually, Always}

abbrev pub bound_symbol : Bound → Symbol
bound_symbol (bound.Next n) = (14, n ∷ [])
bound_symbol (bound.Within Eventually m n) = (15, m ∷ n ∷ [])
bound_symbol (bound.Within Always m n) = (16, m ∷ n ∷ [])

abbrev pub symbols_of : Formula → List Symbol
symbols_of (Const true) = (0, []) ∷ []
symbols_of (Const false) = (1, []) ∷ []
symbols_of (Prop p) = (2, p) ∷ []
symbols_of (Not f) = symbols_of f ++ (3, []) ∷ []
symbols_of (Binary op f g) = symbols_of f ++ (symbols_of g ++ (operator_kind op, []) ∷ [])
symbols_of (Temporal t f) = symbols_of f ++ (tense_kind t, []) ∷ []
symbols_of (Paired p f g) = symbols_of f ++ (symbols_of g ++ (pairing_kind p, []) ∷ [])
symbols_of (Bounded b f) = symbols_of f ++ bound_symbol b ∷ []

abbrev pub blank : Formula
blank = Const true

abbrev pub first : List ℕ → ℕ
first ns = top 0 ns

abbrev pub second : List ℕ → ℕ
second ns = top 0 (under ns)

abbrev pub behind : Symbol → List Formula → List Formula
behind s fs =
    if s.0 == 0 then Const true ∷ fs
    else if s.0 == 1 then Const false ∷ fs
    else if s.0 == 2 then Prop s.1 ∷ fs
    else if s.0 == 3 then with_one blank Not fs
    else if s.0 == 4 then with_two blank (Binary And) fs
    else if s.0 == 5 then with_two blank (Binary Or) fs
    else if s.0 == 6 then with_two blank (Binary Implies) fs
    else if s.0 == 7 then with_two blank (Binary Iff) fs
    else if s.0 == 8 then with_one blank (Temporal Next) fs
    else if s.0 == 9 then with_one blank (Temporal Finally) fs
    else if s.0 == 10 then with_one blank (Temporal Globally) fs
    else if s.0 == 11 then with_two blank (Paired Until) fs
    else if s.0 == 12 then with_two blank (Paired Release) fs
    else if s.0 == 13 then with_two blank (Paired Weak) fs
    else if s.0 == 14 then with_one blank (Bounded (bound.Next (first s.1))) fs
    else if s.0 == 15 then with_one blank (Bounded (bound.Within Eventually (first s.1) (second s.1))) fs
    else with_one blank (Bounded (bound.Within Always (first s.1) (second s.1))) fs

abbrev pub formula_from : List Symbol → Formula
formula_from ss = top blank (read_symbols behind ss [])

pub symbols_read : (f : Formula) → Reads behind symbols_of f
symbols_read (Const true) st = λ ss. refl
symbols_read (Const false) st = λ ss. refl
symbols_read (Prop p) st = λ ss. refl
symbols_read (Not f) st = one_tree behind symbols_of f (3, []) st (symbols_read f)
symbols_read (Binary And f g) st = two_trees behind symbols_of f g (4, []) st (symbols_read f) (symbols_read g)
symbols_read (Binary Or f g) st = two_trees behind symbols_of f g (5, []) st (symbols_read f) (symbols_read g)
symbols_read (Binary Implies f g) st = two_trees behind symbols_of f g (6, []) st (symbols_read f) (symbols_read g)
symbols_read (Binary Iff f g) st = two_trees behind symbols_of f g (7, []) st (symbols_read f) (symbols_read g)
symbols_read (Temporal Next f) st = one_tree behind symbols_of f (8, []) st (symbols_read f)
symbols_read (Temporal Finally f) st = one_tree behind symbols_of f (9, []) st (symbols_read f)
symbols_read (Temporal Globally f) st = one_tree behind symbols_of f (10, []) st (symbols_read f)
symbols_read (Paired Until f g) st = two_trees behind symbols_of f g (11, []) st (symbols_read f) (symbols_read g)
symbols_read (Paired Release f g) st = two_trees behind symbols_of f g (12, []) st (symbols_read f) (symbols_read g)
symbols_read (Paired Weak f g) st = two_trees behind symbols_of f g (13, []) st (symbols_read f) (symbols_read g)
symbols_read (Bounded (bound.Next n) f) st = one_tree behind symbols_of f (14, n ∷ []) st (symbols_read f)
symbols_read (Bounded (bound.Within Eventually m n) f) st = one_tree behind symbols_of f (15, m ∷ n ∷ []) st (symbols_read f)
symbols_read (Bounded (bound.Within Always m n) f) st = one_tree behind symbols_of f (16, m ∷ n ∷ []) st (symbols_read f)

pub formula_from-symbols_of : (f : Formula) → formula_from (symbols_of f) ≡ f
formula_from-symbols_of f = ap (top blank) (led behind (symbols_of f) [] (f ∷ []) (symbols_read f []))

abbrev pub formula_code : Coded Formula
formula_code = symbols_code symbols_of formula_from formula_from-symbols_of
