-- What holds of all propositions of a formula holds of those of its nodes.
--
--   HasNames Q f         == all propositions of f have the property Q
--   AreAmong ps f        == all are among the names ps
--   IsNamed Q f          == the proposition of a literal has it
--   reached_named        == that of each node that is reached has it
use Rattle.std.proofs.Common.{◌≡◌, ℕ, Bool, true, false, not, List, ◌++◌}
use Rattle.std.specs.List.{AllByRecursion}
use Rattle.ml_text.specs.Names.{Proposition, of_kind}
use Rattle.ml_text.specs.declared.token.Operator.TheVariants as operator
use Rattle.ml_text.proofs.NameLists.{is_among}
use Rattle.ml_text.proofs.Names.{kind_parts}
use Rattle.ml_ctl.specs.Formula.{Formula, Const, Prop, Not, Binary, Temporal, Paired, Quantified}
use Rattle.ml_ctl.specs.FormulaNames.{names}
use Rattle.ml_ctl.specs.declared.term.Tense.TheVariants as tense
use Rattle.ml_ctl.specs.declared.term.Pairing.TheVariants as pairing
use Rattle.ml_word_graph.specs.WordGraph.{Place, Form, Root, Total, HasEdge, LeadsOn, True, Now, Later, Rest, Both, Neither}
use Rattle.ml_word_graph.specs.WordGraph.{Literal, IsReached, all_of, form_of}
use Rattle.ml_word_graph.proofs.Levels.{Inherits, IsInherited, reached_inherits}

abbrev pub HasNames : (List ℕ → Type 0) → Formula → Type 0
HasNames Q f = AllByRecursion Q (of_kind Proposition (names f))

abbrev pub IsAmong : List (List ℕ) → List ℕ → Type 0
IsAmong ps p = is_among ps p ≡ true

abbrev pub AreAmong : List (List ℕ) → Formula → Type 0
AreAmong ps f = HasNames (IsAmong ps) f

operands_named : (Q : List ℕ → Type 0) (f g : Formula)
    → AllByRecursion Q (of_kind Proposition (names f ++ names g))
    → HasNames Q f × HasNames Q g
operands_named Q f g all = kind_parts Q Proposition (names f) (names g) all

-- ---- nodes

module _ (Q : List ℕ → Type 0) where
  abbrev pub IsNamed : Form → Type 0
  IsNamed (Literal name sign) = Q name
  IsNamed f = Unit {0}

  joined_named : (c : Bool) (l r : Place) → IsNamed (all_of c l r)
  joined_named true l r = tt
  joined_named false l r = tt

  form_named : (p : Place) → Inherits (HasNames Q) p → IsNamed (form_of p)
  form_named (Root p) x = tt
  form_named Total x = tt
  form_named HasEdge x = tt
  form_named LeadsOn x = tt
  form_named True x = tt
  form_named (Now i (Const b) sign) x = tt
  form_named (Now i (Prop p) sign) x = x.0
  form_named (Now i (Not f) sign) x = tt
  form_named (Now i (Binary operator.And f g) sign) x = joined_named sign _ _
  form_named (Now i (Binary operator.Or f g) sign) x = joined_named (not sign) _ _
  form_named (Now i (Binary operator.Implies f g) sign) x = joined_named (not sign) _ _
  form_named (Now i (Binary operator.Iff f g) sign) x = tt
  form_named (Now i (Temporal tense.Next f) sign) x = tt
  form_named (Now i (Temporal tense.Finally f) sign) x = joined_named (not sign) _ _
  form_named (Now i (Temporal tense.Globally f) sign) x = joined_named sign _ _
  form_named (Now i (Paired pairing.Until f g) sign) x = joined_named (not sign) _ _
  form_named (Now i (Paired pairing.Weak f g) sign) x = joined_named (not sign) _ _
  form_named (Now i (Paired pairing.Release f g) sign) x = joined_named sign _ _
  form_named (Now i (Quantified k f) sign) x = tt
  form_named (Later i f sign) x = tt
  form_named (Rest i pairing.Until f g sign) x = joined_named sign _ _
  form_named (Rest i pairing.Weak f g sign) x = joined_named sign _ _
  form_named (Rest i pairing.Release f g sign) x = joined_named (not sign) _ _
  form_named (Both i f g sign) x = tt
  form_named (Neither i f g sign) x = tt

  among_inherited : IsInherited (HasNames Q)
  among_inherited = record {
    of_not = λ f x. x;
    of_binary = λ op f g x. operands_named Q f g x;
    of_temporal = λ t f x. x;
    of_paired = λ p f g x. operands_named Q f g x;
  }

  pub reached_named : (root p : Place) → Inherits (HasNames Q) root → IsReached root p → IsNamed (form_of p)
  reached_named root p has reached = form_named p (reached_inherits (HasNames Q) among_inherited root p has reached)
