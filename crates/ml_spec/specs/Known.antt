-- What is known behind some statements, and which statement may come next.
--
-- A proposition is declared as a signal, as a value of an enumeration, or by a definition; those of the last two kinds are made.
-- Where signals stand, each proposition of a formula behind them is to be declared before it.
--
-- Names are noted with something else by `insert_entry`: a name that is new goes last, and one that is there keeps its place.
--
--   Known            == the names of items; the propositions that are declared, and as what; those of which formulas speak;
--                       whether signals stand; and the definitions, written out
--   nothing          == what is known in front of all statements
--   with_all ds a ps == the declared propositions ds, with all of ps declared as a
--   known_behind k s == what is known behind s, where k is known in front of it
--   known_from k ss  == the same of several statements
--   known ss         == what is known behind the statements ss
--   IsDeclared ds p  == p is among the declared propositions ds
--   IsTakenSignal k seen p  == behind the signals `seen`, p is made already, so it can be no signal
--   IsTakenValue k m seen v == behind the values `seen` of m, the proposition of its value v is declared already
--   AreAllDeclared k w == where signals stand, the propositions of w are declared
--   Fits k s         == s may come where k is known
--   AreFitting ss    == each of the statements ss fits those before it
use Rattle.std.specs.Prelude.{ℕ, ◌≡◌, ⊤, Bool, true, false, List, [], ◌∷◌, ◌++◌, Contains, Some, bytes_eq}
use Rattle.std.specs.Map.{keys_of, lookup}
use Rattle.indexmap.specs.IndexMap.{insert_entry}
use Rattle.ml_lists.specs.Member.{IsMember}
use Rattle.ml_text.specs.NameLists.{with_names}
use Rattle.ml_front.specs.Replaced.{Definition, replaced}
use Rattle.ml_spec.specs.Statements.{value_name, value_names, Saying, Statement}
use Rattle.ml_spec.specs.Statements as says
use Rattle.ml_spec.specs.Words.{AreFree}
use Rattle.ml_spec.specs.declared.context.Declared.{Declared}
use Rattle.ml_spec.specs.declared.context.Declared.TheVariants.{Made, Signal}
use Rattle.ml_written.specs.Places.{AreDeclared}
use Rattle.ml_written.specs.Propositions.{propositions}
use Rattle.ml_written.specs.Written.{meaning}
use Rattle.ml_written.specs.declared.written.Written.{Written}

pub record Known : Type 0 where
  pub names : List (List ℕ)
  pub declared : List (List ℕ × Declared)
  pub spoken : List (List ℕ)
  pub has_signals : Bool
  pub definitions : List Definition

abbrev pub nothing : Known
nothing = record { names = []; declared = []; spoken = []; has_signals = false; definitions = [] }

abbrev pub with_all : List (List ℕ × Declared) → Declared → List (List ℕ) → List (List ℕ × Declared)
with_all ds a [] = ds
with_all ds a (p ∷ ps) = with_all (insert_entry bytes_eq ds p a) a ps

abbrev pub known_behind : Known → Saying → Known
known_behind k says.Repeated = k
known_behind k (says.Signals ps) = record {
  names = k.names;
  declared = with_all k.declared Signal ps;
  spoken = k.spoken;
  has_signals = true;
  definitions = k.definitions;
}
known_behind k (says.Enumeration m vs) = record {
  names = k.names ++ m ∷ [];
  declared = with_all k.declared Made (value_names m vs);
  spoken = k.spoken;
  has_signals = k.has_signals;
  definitions = k.definitions;
}
known_behind k (says.Definition p w) = record {
  names = k.names;
  declared = insert_entry bytes_eq k.declared p Made;
  spoken = with_names k.spoken (propositions w);
  has_signals = k.has_signals;
  definitions = insert_entry bytes_eq k.definitions p (replaced k.definitions (meaning w));
}
known_behind k (says.Stated kind n w) = record {
  names = k.names ++ n ∷ [];
  declared = k.declared;
  spoken = with_names k.spoken (propositions w);
  has_signals = k.has_signals;
  definitions = k.definitions;
}

abbrev pub known_from : Known → List Statement → Known
known_from k [] = k
known_from k (s ∷ ss) = known_from (known_behind k s.says) ss

abbrev pub known : List Statement → Known
known ss = known_from nothing ss

-- ---- what may come next

abbrev pub IsDeclared : List (List ℕ × Declared) → List ℕ → Type 0
IsDeclared ds p = IsMember p (keys_of ds)

abbrev pub IsTakenSignal : Known → List (List ℕ) → List ℕ → Type 0
IsTakenSignal k seen p = lookup (bytes_eq p) (with_all k.declared Signal seen) ≡ Some Made

abbrev pub IsTakenValue : Known → List ℕ → List (List ℕ) → List ℕ → Type 0
IsTakenValue k m seen v = IsDeclared (with_all k.declared Made (value_names m seen)) (value_name m v)

abbrev pub AreAllDeclared : Known → Written → Type 0
AreAllDeclared k w = k.has_signals ≡ true → AreDeclared (keys_of k.declared) w

abbrev pub Fits : Known → Saying → Type 0
Fits k says.Repeated = ⊤
Fits k (says.Signals ps) = AreFree (IsTakenSignal k) [] ps
Fits k (says.Enumeration m vs) = (¬ (Contains k.names m)) × AreFree (IsTakenValue k m) [] vs
Fits k (says.Definition p w) =
    (¬ (IsDeclared k.declared p))
    × (¬ (IsMember p k.spoken))
    × (¬ (IsMember p (propositions w)))
    × AreAllDeclared k w
Fits k (says.Stated kind n w) = (¬ (Contains k.names n)) × AreAllDeclared k w

abbrev pub AreFitting : List Statement → Type 0
AreFitting ss =
    (before : List Statement) (s : Statement) (after : List Statement) → ss ≡ before ++ s ∷ after → Fits (known before) s.says
