-- The truth values of nodes at the states of a structure in which each state has exactly one edge by `_`.
--
--   signed b v            == v, or its negation
--   node_value m ok p s   == the value of the node p at s
--   form_value m ok f s   == the value of a node of the form f, by those to which it leads
--   consistent            == the two agree
use Rattle.std.proofs.Common.{◌≡◌, ℕ, ◌+◌, ◌<◌, Bool, true, false, ◌&&◌, ◌||◌, not, refl, sym, ap, ◌∙◌}
use Rattle.std.specs.Bool.{beq}
use Rattle.ml_base.specs.Structure.{Structure, lists}
use Rattle.ml_text.specs.declared.token.Operator.TheVariants as operator
use Rattle.std.proofs.lemmas.Bool.{false≢true}
use Rattle.std.proofs.Math.Bool.{and-true}
use Rattle.ml_lists.proofs.Says.{not-and, not-or}
use Rattle.ml_ctl.specs.Formula.{Formula, Const, Prop, Not, Binary, Temporal, Paired, Quantified}
use Rattle.ml_ctl.specs.Sorts.{is_linear}
use Rattle.ml_ctl.specs.declared.term.Tense.TheVariants as tense
use Rattle.ml_ctl.specs.declared.term.Pairing.{Pairing}
use Rattle.ml_ctl.specs.declared.term.Pairing.TheVariants as pairing
use Rattle.ml_word_graph.specs.Problem.{IsAdmitted}
use Rattle.ml_word_graph.specs.WordGraph.{Place, Form, Root, Total, HasEdge, LeadsOn, True, Now, Later, Rest, Both, Neither}
use Rattle.ml_word_graph.specs.WordGraph.{Constant, Literal, And, Or, Diamond, Square, all_of, form_of, right_at}
use Rattle.ml_word_graph.proofs.Levels.{IsLinear}
use Rattle.ml_word_graph.proofs.StateValues.{next, value, value_prop, value_next, value_finally, value_globally, value_until, value_weak, value_release}

abbrev pub signed : Bool → Bool → Bool
signed true b = b
signed false b = not b

-- the test of a sign
pub const_value : (b sign : Bool) → beq b sign ≡ signed sign b
const_value true true = refl
const_value true false = refl
const_value false true = refl
const_value false false = refl

abbrev pub rest_value : Pairing → Bool → Bool → Bool
rest_value pairing.Until a b = a && b
rest_value pairing.Weak a b = a && b
rest_value pairing.Release a b = a || b

module _ (m : Structure) (ok : IsAdmitted m) where
  abbrev v : Formula → ℕ → Bool
  v f s = value m ok f s

  abbrev behind : ℕ → ℕ
  behind s = next m ok s

  abbrev pub node_value : Place → ℕ → Bool
  node_value (Root p) s = node_value p s
  node_value Total s = true
  node_value HasEdge s = true
  node_value LeadsOn s = true
  node_value True s = true
  node_value (Now i f sign) s = signed sign (value m ok f s)
  node_value (Later i f sign) s = signed sign (value m ok f (next m ok s))
  node_value (Rest i p f g sign) s = signed sign (rest_value p (value m ok f s) (value m ok (Paired p f g) (next m ok s)))
  node_value (Both i f g sign) s = value m ok f s && signed sign (value m ok g s)
  node_value (Neither i f g sign) s = not (value m ok f s) && signed (not sign) (value m ok g s)

  abbrev pub form_value : Form → ℕ → Bool
  form_value (Constant b) s = b
  form_value (Literal p sign) s = signed sign (lists m s p)
  form_value (And l r) s = node_value l s && node_value r s
  form_value (Or l r) s = node_value l s || node_value r s
  form_value (Diamond p) s = node_value p (next m ok s)
  form_value (Square p) s = node_value p (next m ok s)

  -- conjunctions and disjunctions, and their negations
  all_value : (sign : Bool) (l r : Place) (a b : Bool) (s : ℕ) → node_value l s ≡ signed sign a → node_value r s ≡ signed sign b
      → form_value (all_of sign l r) s ≡ signed sign (a && b)
  all_value true l r a b s x y = ap (λ c. c && node_value r s) x ∙ ap (λ c. a && c) y
  all_value false l r a b s x y = ap (λ c. c || node_value r s) x ∙ ap (λ c. not a || c) y ∙ not-and a b

  one_value : (sign : Bool) (l r : Place) (a b : Bool) (s : ℕ) → node_value l s ≡ signed sign a → node_value r s ≡ signed sign b
      → form_value (all_of (not sign) l r) s ≡ signed sign (a || b)
  one_value true l r a b s x y = ap (λ c. c || node_value r s) x ∙ ap (λ c. a || c) y
  one_value false l r a b s x y = ap (λ c. c && node_value r s) x ∙ ap (λ c. not a && c) y ∙ not-or a b

  not_signed : (sign b : Bool) → signed (not sign) b ≡ signed sign (not b)
  not_signed true b = refl
  not_signed false true = refl
  not_signed false false = refl

  twice : (b : Bool) → (b && b) ≡ b
  twice true = refl
  twice false = refl

  cases_of_iff : (sign a b : Bool) → ((a && signed sign b) || (not a && signed (not sign) b)) ≡ signed sign ((not a || b) && (not b || a))
  cases_of_iff true true true = refl
  cases_of_iff true true false = refl
  cases_of_iff true false true = refl
  cases_of_iff true false false = refl
  cases_of_iff false true true = refl
  cases_of_iff false true false = refl
  cases_of_iff false false true = refl
  cases_of_iff false false false = refl

  now_consistent : (i : ℕ) (f : Formula) (sign : Bool) (s : ℕ) → s < m.states → is_linear f ≡ true
      → form_value (form_of (Now i f sign)) s ≡ signed sign (v f s)
  now_consistent i (Const b) sign s low x = const_value b sign
  now_consistent i (Prop p) sign s low x = ap (signed sign) (sym (value_prop m ok s low p))
  now_consistent i (Not f) sign s low x = twice (signed (not sign) (v f s)) ∙ not_signed sign (v f s)
  now_consistent i (Binary operator.And f g) sign s low x =
      all_value sign (Now (i + 1) f sign) (Now (right_at (i + 1) f) g sign) (v f s) (v g s) s refl refl
  now_consistent i (Binary operator.Or f g) sign s low x =
      one_value sign (Now (i + 1) f sign) (Now (right_at (i + 1) f) g sign) (v f s) (v g s) s refl refl
  now_consistent i (Binary operator.Implies f g) sign s low x =
      one_value sign (Now (i + 1) f (not sign)) (Now (right_at (i + 1) f) g sign) (not (v f s)) (v g s) s (not_signed sign (v f s)) refl
  now_consistent i (Binary operator.Iff f g) sign s low x = cases_of_iff sign (v f s) (v g s)
  now_consistent i (Temporal tense.Next f) sign s low x = ap (signed sign) (sym (value_next m ok s low f x))
  now_consistent i (Temporal tense.Finally f) sign s low x =
      let w : Formula = Temporal tense.Finally f in
      one_value sign (Now (i + 1) f sign) (Later i w sign) (v f s) (v w (behind s)) s refl refl
      ∙ ap (signed sign) (sym (value_finally m ok s low f x))
  now_consistent i (Temporal tense.Globally f) sign s low x =
      let w : Formula = Temporal tense.Globally f in
      all_value sign (Now (i + 1) f sign) (Later i w sign) (v f s) (v w (behind s)) s refl refl
      ∙ ap (signed sign) (sym (value_globally m ok s low f x))
  now_consistent i (Paired pairing.Until f g) sign s low x =
      let w : Formula = Paired pairing.Until f g in
      one_value sign (Now (right_at (i + 1) f) g sign) (Rest i pairing.Until f g sign) (v g s) (v f s && v w (behind s)) s refl refl
      ∙ ap (signed sign) (sym (value_until m ok s low f g x))
  now_consistent i (Paired pairing.Weak f g) sign s low x =
      let w : Formula = Paired pairing.Weak f g in
      one_value sign (Now (right_at (i + 1) f) g sign) (Rest i pairing.Weak f g sign) (v g s) (v f s && v w (behind s)) s refl refl
      ∙ ap (signed sign) (sym (value_weak m ok s low f g x))
  now_consistent i (Paired pairing.Release f g) sign s low x =
      let w : Formula = Paired pairing.Release f g in
      all_value sign (Now (right_at (i + 1) f) g sign) (Rest i pairing.Release f g sign) (v g s) (v f s || v w (behind s)) s refl refl
      ∙ ap (signed sign) (sym (value_release m ok s low f g x))
  now_consistent i (Quantified k f) sign s low x = absurd (false≢true x)

  rest_consistent : (i : ℕ) (p : Pairing) (f g : Formula) (sign : Bool) (s : ℕ)
      → form_value (form_of (Rest i p f g sign)) s ≡ node_value (Rest i p f g sign) s
  rest_consistent i pairing.Until f g sign s =
      let w : Formula = Paired pairing.Until f g in
      all_value sign (Now (i + 1) f sign) (Later i w sign) (v f s) (v w (behind s)) s refl refl
  rest_consistent i pairing.Weak f g sign s =
      let w : Formula = Paired pairing.Weak f g in
      all_value sign (Now (i + 1) f sign) (Later i w sign) (v f s) (v w (behind s)) s refl refl
  rest_consistent i pairing.Release f g sign s =
      let w : Formula = Paired pairing.Release f g in
      one_value sign (Now (i + 1) f sign) (Later i w sign) (v f s) (v w (behind s)) s refl refl

  pub consistent : (p : Place) (s : ℕ) → s < m.states → IsLinear p → form_value (form_of p) s ≡ node_value p s
  consistent (Root p) s low x = and-true (node_value p s)
  consistent Total s low x = refl
  consistent HasEdge s low x = refl
  consistent LeadsOn s low x = refl
  consistent True s low x = refl
  consistent (Now i f sign) s low x = now_consistent i f sign s low x
  consistent (Later i f sign) s low x = refl
  consistent (Rest i p f g sign) s low x = rest_consistent i p f g sign s
  consistent (Both i f g sign) s low x = refl
  consistent (Neither i f g sign) s low x = refl
