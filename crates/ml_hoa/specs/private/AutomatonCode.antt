-- The code by which proofs tell automata apart: a guard as the list of its symbols, operands first, and back.
--
--   symbols_of g   == the symbols of g, each behind its operands
--   behind s gs    == the guards read so far, the last one first, behind the symbol s
--   guard_from ss  == the guard with these symbols
use Rattle.std.specs.Prelude.{ℕ, ◌≡◌, ◌==◌, Bool, true, false, if◌then◌else◌, List, [], ◌∷◌, ◌++◌, refl}
use Rattle.std.specs.Coded.{Coded, code_by, coded×, coded_ℕ, coded_bool, coded_list}
use Rattle.std.proofs.Common.{ap}
use Rattle.ml_text.specs.private.Codes.{Symbol, Reads, led, one_tree, read_symbols, symbols_code, top, two_trees, with_one, with_two}
use Rattle.ml_hoa.specs.Automaton.{Guard, Const, Ap, Not, And, Or, Edge, Automaton}

abbrev pub symbols_of : Guard → List Symbol
symbols_of (Const true) = (0, []) ∷ []
symbols_of (Const false) = (1, []) ∷ []
symbols_of (Ap n) = (2, n ∷ []) ∷ []
symbols_of (Not g) = symbols_of g ++ (3, []) ∷ []
symbols_of (And g h) = symbols_of g ++ (symbols_of h ++ (4, []) ∷ [])
symbols_of (Or g h) = symbols_of g ++ (symbols_of h ++ (5, []) ∷ [])

abbrev pub blank : Guard
blank = Const true

abbrev pub number_in : List ℕ → ℕ
number_in [] = 0
number_in (n ∷ ns) = n

abbrev pub behind : Symbol → List Guard → List Guard
behind s gs =
    if s.0 == 0 then Const true ∷ gs
    else if s.0 == 1 then Const false ∷ gs
    else if s.0 == 2 then Ap (number_in s.1) ∷ gs
    else if s.0 == 3 then with_one blank Not gs
    else if s.0 == 4 then with_two blank And gs
    else with_two blank Or gs

abbrev pub guard_from : List Symbol → Guard
guard_from ss = top blank (read_symbols behind ss [])

pub symbols_read : (g : Guard) → Reads behind symbols_of g
symbols_read (Const true) st = λ ss. refl
symbols_read (Const false) st = λ ss. refl
symbols_read (Ap n) st = λ ss. refl
symbols_read (Not g) st = one_tree behind symbols_of g (3, []) st (symbols_read g)
symbols_read (And g h) st = two_trees behind symbols_of g h (4, []) st (symbols_read g) (symbols_read h)
symbols_read (Or g h) st = two_trees behind symbols_of g h (5, []) st (symbols_read g) (symbols_read h)

pub guard_from-symbols_of : (g : Guard) → guard_from (symbols_of g) ≡ g
guard_from-symbols_of g = ap (top blank) (led behind (symbols_of g) [] (g ∷ []) (symbols_read g []))

abbrev pub guard_code : Coded Guard
guard_code = symbols_code symbols_of guard_from guard_from-symbols_of

abbrev pub edge_code : Coded Edge
edge_code =
    code_by (ℕ × (Guard × (ℕ × Bool))) (coded× coded_ℕ (coded× guard_code (coded× coded_ℕ coded_bool)))
    (λ e. (e.from, (e.guard, (e.to, e.accepting)))) (λ p. record { from = p.0; guard = p.1.0; to = p.1.1.0; accepting = p.1.1.1 }) (λ _. refl)

abbrev pub automaton_code : Coded Automaton
automaton_code =
    code_by (ℕ × (ℕ × (List (List ℕ) × List Edge)))
    (coded× coded_ℕ (coded× coded_ℕ (coded× (coded_list (coded_list coded_ℕ)) (coded_list edge_code))))
    (λ a. (a.states, (a.start, (a.props, a.edges)))) (λ p. record { states = p.0; start = p.1.0; props = p.1.1.0; edges = p.1.1.1 }) (λ _. refl)
