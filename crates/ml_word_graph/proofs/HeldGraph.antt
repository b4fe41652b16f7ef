-- The graph of a formula has names and priorities that a program holds, where the formula's propositions are names.
--
--   low_priority == priorities are at most 2
--   word_held    == so the graph has names and priorities that a program holds
use Rattle.std.proofs.Common.{◌≡◌, ◌≤◌, Bool, true, false, if◌then◌else◌, arith}
use Rattle.ml_base.specs.Name.{IsName}
use Rattle.ml_graph.specs.Graph.{Graph}
use Rattle.ml_nodes.proofs.HeldClosures.{IsNamedForm, held}
use Rattle.ml_nodes.proofs.HeldNames.{IsHeld, kind_named}
use Rattle.ml_text.specs.Names.{Proposition}
use Rattle.ml_ctl.specs.Formula.{Formula}
use Rattle.ml_ctl.specs.FormulaNames.{names}
use Rattle.ml_ctl.specs.Signs.{own}
use Rattle.ml_ctl.specs.Spelling.{HasShortNames, is_spelled}
use Rattle.ml_word_graph.specs.WordGraph.{Place, Form, Root, Total, HasEdge, LeadsOn, True, Now, Later, Rest, Both, Neither}
use Rattle.ml_word_graph.specs.WordGraph.{Constant, Literal, And, Or, Diamond, Square, IsGraphOf, form_of, forms, is_eventual, priority_of, start_of}
use Rattle.ml_word_graph.proofs.NamedNodes.{IsNamed, reached_named}

low_priority : (p : Place) → priority_of p ≤ 2
low_priority (Root start) = omega arith
low_priority Total = omega arith
low_priority HasEdge = omega arith
low_priority LeadsOn = omega arith
low_priority True = omega arith
low_priority (Now i f sign) = by_kind (is_eventual f sign)
  where
    by_kind : (b : Bool) → (if b then 1 else 2) ≤ 2
    by_kind true = omega arith
    by_kind false = omega arith
low_priority (Later i f sign) = omega arith
low_priority (Rest i k f g sign) = omega arith
low_priority (Both i f g sign) = omega arith
low_priority (Neither i f g sign) = omega arith

named : (k : Form) → IsNamed IsName k → IsNamedForm k
named (Literal name sign) is = is
named (Constant b) is = tt
named (And l r) is = tt
named (Or l r) is = tt
named (Diamond p) is = tt
named (Square p) is = tt

pub word_held : (f : Formula) (negated : Bool) (g : Graph)
    → is_spelled f ≡ true
    → HasShortNames f
    → IsGraphOf g f negated
    → IsHeld g
word_held f negated g spelled short is =
    let root = Root (start_of f negated) in
    held forms root g is
    (λ p reached. named (form_of p) (reached_named IsName root p (kind_named own Proposition (names f) spelled short) reached))
    (λ p. omega (arith, low_priority p))
