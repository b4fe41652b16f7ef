-- The induction on formulas, at everything but binders.
--
--   agree_const, agree_prop, agree_var, agree_not, agree_binary, agree_modal == each case
use Rattle.std.proofs.Common.{◌≡◌, ℕ, ◌+◌, ◌<◌, ◌==◌, Bool, true, false, ◌&&◌, ◌||◌, not, List, [], ◌∷◌, refl, sym, ap, ◌∙◌, arith}
use Rattle.std.specs.List.{list_any, list_all}
use Rattle.std.specs.Str.{bytes_eq}
use Rattle.std.proofs.lemmas.Bool.{and_parts}
use Rattle.ml_lists.proofs.Says.{says_same, not-and, not-or, iff_is}
use Rattle.ml_base.specs.declared.structure.Edge.{Edge}
use Rattle.ml_base.specs.Structure.{Structure, lists, is_member}
use Rattle.ml_graph.specs.Graph.{Graph}
use Rattle.ml_graph.specs.CheckingGame.{HoldsAt}
use Rattle.ml_text.specs.declared.token.Operator.{Operator}
use Rattle.ml_text.specs.declared.token.Operator.TheVariants as operator
use Rattle.ml_text.specs.Operators.{weight}
use Rattle.ml_mu.specs.Formula.{Formula, Const, Prop, Var, Not, Binary, Modal, occurrences}
use Rattle.ml_mu.specs.declared.term.Modality.{Modality}
use Rattle.ml_mu.specs.declared.term.Modality.TheVariants.{Diamond, Square}
use Rattle.ml_mu.specs.Meaning.{Given, given_set, meaning, some_edge, every_edge}
use Rattle.ml_mu.specs.Variables.{is_bound, is_positive}
use Rattle.ml_mu.proofs.MeaningFlags.{meaning_flags}
use Rattle.ml_nodes.specs.Nodes.{positive, negative}
use Rattle.ml_mu_graph.specs.MuGraph.{Around, binder_of}
use Rattle.ml_mu_graph.proofs.Told.{names}
use Rattle.ml_mu_graph.proofs.Values.{says_constant, says_literal, says_negative, says_leads, says_and, says_or, says_diamond, says_square}
use Rattle.ml_base.proofs.StateSets.{member_where}
use Rattle.ml_mu_graph.proofs.Situations.{Situation, Agree, member_not, told_of, part}

not_not : (b : Bool) → not (not b) ≡ b
not_not true = refl
not_not false = refl

not_implies : (a b : Bool) → (a && not b) ≡ not (not a || b)
not_implies true b = refl
not_implies false b = refl

not_iff : (a b : Bool) → ((a && not b) || (not a && b)) ≡ not ((not a || b) && (not b || a))
not_iff true true = refl
not_iff true false = refl
not_iff false true = refl
not_iff false false = refl

-- no edge leads there exactly if every edge leads elsewhere
not_some : (t v : Edge → Bool) (es : List Edge)
    → list_all (λ e. not (t e) || not (v e)) es ≡ not (list_any (λ e. t e && v e) es)
not_some t v [] = refl
not_some t v (e ∷ es) =
    ap (λ b. b && list_all (λ d. not (t d) || not (v d)) es) (not-and (t e) (v e))
    ∙ ap (λ b. not (t e && v e) && b) (not_some t v es)
    ∙ not-or (t e && v e) (list_any (λ d. t d && v d) es)

not_every : (t v : Edge → Bool) (es : List Edge)
    → list_any (λ e. t e && not (v e)) es ≡ not (list_all (λ e. not (t e) || v e) es)
not_every t v [] = refl
not_every t v (e ∷ es) =
    ap (λ b. b || list_any (λ d. t d && not (v d)) es) (not_implies (t e) (v e))
    ∙ ap (λ b. not (not (t e) || v e) || b) (not_every t v es)
    ∙ not-and (not (t e) || v e) (list_all (λ d. not (t d) || v d) es)

module _ (m0 : Structure) (gs : Given) (g : Graph) (m : Structure) (k : ℕ) (bs : Around) (i : ℕ) where
  pub agree_const : (b : Bool) → Situation m0 gs (Const b) g m k bs i → Agree m0 gs (Const b) g m i
  agree_const b w = record {
    holds = λ s low. says_same (HoldsAt g m s (positive i)) b _ (sym (member_where m0 (λ t. b) s low))
        (says_constant g m w.is_graph w.is_structure s (positive i) (omega (arith, w.same_states)) (omega (arith, w.room)) b w.stands.0.0);
    fails = λ s low. says_same (HoldsAt g m s (negative i)) (not b) _ (sym (ap not (member_where m0 (λ t. b) s low)))
        (says_constant g m w.is_graph w.is_structure s (negative i) (omega (arith, w.same_states)) (omega (arith, w.room)) (not b) w.stands.1.0);
  }

  pub agree_prop : (p : List ℕ) → Situation m0 gs (Prop p) g m k bs i → Agree m0 gs (Prop p) g m i
  agree_prop p w = record {
    holds = λ s low.
        let here = w.stands.0 in
        says_literal g m w.is_graph w.is_structure s (positive i) (omega (arith, w.same_states)) (omega (arith, w.room))
        here.0 (is_member (meaning m0 gs (Prop p)) s) here.1.0
        (ap (lists m s) here.2 ∙ w.props s low ∙ sym (member_where m0 (λ t. lists m0 t p) s low));
    fails = λ s low.
        let here = w.stands.1 in
        says_negative g m w.is_graph w.is_structure s (negative i) (omega (arith, w.same_states))
        (omega (arith, w.room)) here.0 (is_member (meaning m0 gs (Prop p)) s) here.1.0
        (ap (lists m s) here.2 ∙ w.props s low ∙ sym (member_where m0 (λ t. lists m0 t p) s low));
  }

  pub agree_var : (x : List ℕ) → Situation m0 gs (Var x) g m k bs i → Agree m0 gs (Var x) g m i
  agree_var x w =
      let told = told_of g m m0 bs gs x w.told w.bound in
      record {
        holds = λ s low.
            let here : s < m.states = omega (arith, w.same_states) in
            says_leads g m w.is_graph w.is_structure s (positive i) here (omega (arith, w.room))
            (positive (binder_of bs x)) (is_member (given_set m0 gs x) s) w.stands.0.0
            (says_literal g m w.is_graph w.is_structure s (positive (binder_of bs x)) here (omega (arith, told.inside))
            told.prop (is_member (given_set m0 gs x) s) told.positive_is (told.told s here));
        fails = λ s low.
            let here : s < m.states = omega (arith, w.same_states) in
            says_leads g m w.is_graph w.is_structure s (negative i) here (omega (arith, w.room))
            (negative (binder_of bs x)) (not (is_member (given_set m0 gs x) s)) w.stands.1.0
            (says_negative g m w.is_graph w.is_structure s (negative (binder_of bs x)) here
            (omega (arith, told.inside)) told.prop (is_member (given_set m0 gs x) s) told.negative_is
            (told.told s here));
      }

  pub not_inner : (f : Formula) → Situation m0 gs (Not f) g m k bs i → Situation m0 gs f g m k bs (i + 1)
  not_inner f w = part m0 gs (Not f) g m k bs i w f (i + 1) w.props w.stands.2 w.bound w.positives (omega (arith, w.room)) (omega arith) (omega arith)

  pub agree_not : (f : Formula)
      → Situation m0 gs (Not f) g m k bs i
      → Agree m0 gs f g m (i + 1)
      → Agree m0 gs (Not f) g m i
  agree_not f w inner = record {
    holds = λ s low.
        let is = member_not (meaning m0 gs f) m0.states s (meaning_flags m0 gs f w.flags) low in
        says_same (HoldsAt g m s (positive i)) _ _ (sym is)
        (says_leads g m w.is_graph w.is_structure s (positive i) (omega (arith, w.same_states)) (omega (arith, w.room))
        (negative (i + 1)) _ w.stands.0.0 (inner.fails s low));
    fails = λ s low.
        let is = member_not (meaning m0 gs f) m0.states s (meaning_flags m0 gs f w.flags) low in
        says_same (HoldsAt g m s (negative i)) (is_member (meaning m0 gs f) s) _ (sym (ap not is ∙ not_not (is_member (meaning m0 gs f) s)))
        (says_leads g m w.is_graph w.is_structure s (negative i) (omega (arith, w.same_states)) (omega (arith, w.room))
        (positive (i + 1)) _ w.stands.1.0 (inner.holds s low));
  }

  -- ---- the binary connectives: a truth value of each operand, and where they stand

  left_bound : (op : Operator) (f h : Formula)
      → is_bound (names bs) (Binary op f h) ≡ true
      → is_bound (names bs) f ≡ true
  left_bound op f h both = (and_parts (is_bound (names bs) f) (is_bound (names bs) h) both).0

  right_bound : (op : Operator) (f h : Formula)
      → is_bound (names bs) (Binary op f h) ≡ true
      → is_bound (names bs) h ≡ true
  right_bound op f h both = (and_parts (is_bound (names bs) f) (is_bound (names bs) h) both).1

  pub left_part : (op : Operator) (f h : Formula)
      → Situation m0 gs (Binary op f h) g m k bs i
      → Situation m0 gs f g m k bs (i + weight op)
  left_part op f h w =
      part m0 gs (Binary op f h) g m k bs i w f (i + weight op) w.props.0 w.stands.1 (left_bound op f h w.bound)
      (and_parts (is_positive f) (is_positive h) w.positives).0 (omega (arith, w.room)) (omega arith) (omega arith)

  pub right_part : (op : Operator) (f h : Formula)
      → Situation m0 gs (Binary op f h) g m k bs i
      → Situation m0 gs h g m k bs (i + weight op + occurrences f)
  right_part op f h w =
      part m0 gs (Binary op f h) g m k bs i w h (i + weight op + occurrences f) w.props.1 w.stands.2
      (right_bound op f h w.bound) (and_parts (is_positive f) (is_positive h) w.positives).1 (omega (arith, w.room))
      (omega arith) (omega arith)

  pub agree_binary : (op : Operator) (f h : Formula)
      → Situation m0 gs (Binary op f h) g m k bs i
      → Agree m0 gs f g m (i + weight op)
      → Agree m0 gs h g m (i + weight op + occurrences f) → Agree m0 gs (Binary op f h) g m i
  agree_binary operator.And f h w x y = record {
    holds = λ s low.
        let a : Bool = is_member (meaning m0 gs f) s in let b : Bool = is_member (meaning m0 gs h) s in
        says_same (HoldsAt g m s (positive i)) (a && b) _ (sym (member_where m0 _ s low))
        (says_and g m w.is_graph w.is_structure s (positive i) (omega (arith, w.same_states)) (omega (arith, w.room)) _
        _ a b w.stands.0.0.0 (x.holds s low) (y.holds s low));
    fails = λ s low.
        let a : Bool = is_member (meaning m0 gs f) s in let b : Bool = is_member (meaning m0 gs h) s in
        says_same (HoldsAt g m s (negative i)) (not a || not b) _ (not-and a b ∙ sym (ap not (member_where m0 _ s low)))
        (says_or g m w.is_graph w.is_structure s (negative i) (omega (arith, w.same_states)) (omega (arith, w.room)) _
        _ (not a) (not b) w.stands.0.1.0 (x.fails s low) (y.fails s low));
  }
  agree_binary operator.Or f h w x y = record {
    holds = λ s low.
        let a : Bool = is_member (meaning m0 gs f) s in let b : Bool = is_member (meaning m0 gs h) s in
        says_same (HoldsAt g m s (positive i)) (a || b) _ (sym (member_where m0 _ s low))
        (says_or g m w.is_graph w.is_structure s (positive i) (omega (arith, w.same_states)) (omega (arith, w.room)) _
        _ a b w.stands.0.0.0 (x.holds s low) (y.holds s low));
    fails = λ s low.
        let a : Bool = is_member (meaning m0 gs f) s in let b : Bool = is_member (meaning m0 gs h) s in
        says_same (HoldsAt g m s (negative i)) (not a && not b) _ (not-or a b ∙ sym (ap not (member_where m0 _ s low)))
        (says_and g m w.is_graph w.is_structure s (negative i) (omega (arith, w.same_states)) (omega (arith, w.room)) _
        _ (not a) (not b) w.stands.0.1.0 (x.fails s low) (y.fails s low));
  }
  agree_binary operator.Implies f h w x y = record {
    holds = λ s low.
        let a : Bool = is_member (meaning m0 gs f) s in let b : Bool = is_member (meaning m0 gs h) s in
        says_same (HoldsAt g m s (positive i)) (not a || b) _ (sym (member_where m0 _ s low))
        (says_or g m w.is_graph w.is_structure s (positive i) (omega (arith, w.same_states)) (omega (arith, w.room)) _
        _ (not a) b w.stands.0.0.0 (x.fails s low) (y.holds s low));
    fails = λ s low.
        let a : Bool = is_member (meaning m0 gs f) s in let b : Bool = is_member (meaning m0 gs h) s in
        says_same (HoldsAt g m s (negative i)) (a && not b) _ (not_implies a b ∙ sym (ap not (member_where m0 _ s low)))
        (says_and g m w.is_graph w.is_structure s (negative i) (omega (arith, w.same_states)) (omega (arith, w.room)) _
        _ a (not b) w.stands.0.1.0 (x.holds s low) (y.fails s low));
  }
  agree_binary operator.Iff f h w x y = record {
    holds = λ s low.
        let a : Bool = is_member (meaning m0 gs f) s in let b : Bool = is_member (meaning m0 gs h) s in
        let here : s < m.states = omega (arith, w.same_states) in
        says_same (HoldsAt g m s (positive i)) ((a && b) || (not a && not b)) _ (iff_is a b ∙ sym (member_where m0 _ s low))
        (says_or g m w.is_graph w.is_structure s (positive i) here (omega (arith, w.room)) _ _ (a && b) (not a && not b) w.stands.0.0.0
        (says_and g m w.is_graph w.is_structure s (positive (i + 1)) here (omega (arith, w.room)) _ _ a b
        w.stands.0.2.0 (x.holds s low) (y.holds s low))
        (says_and g m w.is_graph w.is_structure s (positive (i + 2)) here (omega (arith, w.room)) _ _ (not a) (not b)
        w.stands.0.4.0 (x.fails s low) (y.fails s low)));
    fails = λ s low.
        let a : Bool = is_member (meaning m0 gs f) s in let b : Bool = is_member (meaning m0 gs h) s in
        let here : s < m.states = omega (arith, w.same_states) in
        says_same (HoldsAt g m s (negative i)) ((a && not b) || (not a && b)) _ (not_iff a b ∙ sym (ap not (member_where m0 _ s low)))
        (says_or g m w.is_graph w.is_structure s (negative i) here (omega (arith, w.room)) _ _ (a && not b) (not a && b) w.stands.0.1.0
        (says_and g m w.is_graph w.is_structure s (negative (i + 1)) here (omega (arith, w.room)) _ _ a (not b)
        w.stands.0.3.0 (x.holds s low) (y.fails s low))
        (says_and g m w.is_graph w.is_structure s (negative (i + 2)) here (omega (arith, w.room)) _ _ (not a) b
        w.stands.0.5.0 (x.fails s low) (y.holds s low)));
  }

  -- ---- modalities

  pub modal_inner : (d : Modality) (a : List ℕ) (f : Formula)
      → Situation m0 gs (Modal d a f) g m k bs i
      → Situation m0 gs f g m k bs (i + 1)
  modal_inner d a f w =
      part m0 gs (Modal d a f) g m k bs i w f (i + 1) w.props w.stands.2 w.bound w.positives (omega (arith, w.room))
      (omega arith) (omega arith)

  pub agree_modal : (d : Modality) (a : List ℕ) (f : Formula)
      → Situation m0 gs (Modal d a f) g m k bs i
      → Agree m0 gs f g m (i + 1)
      → Agree m0 gs (Modal d a f) g m i
  agree_modal Diamond a f w x = record {
    holds = λ s low.
        let v : ℕ → Bool = is_member (meaning m0 gs f) in
        says_same (HoldsAt g m s (positive i)) (list_any (λ e. (e.source == s) && bytes_eq e.action a && v e.target) m.edges) _
        (ap (list_any (λ e. (e.source == s) && bytes_eq e.action a && v e.target)) w.same_edges
        ∙ sym (member_where m0 (some_edge m0 a (meaning m0 gs f)) s low))
        (says_diamond g m w.is_graph w.is_structure s (positive i) (omega (arith, w.same_states))
        (omega (arith, w.room)) w.stands.0.0 (positive (i + 1)) a v w.stands.0.1.0 w.stands.0.2
        (λ t t_low. x.holds t (omega (arith, w.same_states))));
    fails = λ s low.
        let v : ℕ → Bool = is_member (meaning m0 gs f) in
        says_same (HoldsAt g m s (negative i)) (list_all (λ e. not ((e.source == s) && bytes_eq e.action a) || not (v e.target)) m.edges) _
        (ap (list_all (λ e. not ((e.source == s) && bytes_eq e.action a) || not (v e.target))) w.same_edges
        ∙ not_some (λ e. (e.source == s) && bytes_eq e.action a) (λ e. v e.target) m0.edges
        ∙ sym (ap not (member_where m0 (some_edge m0 a (meaning m0 gs f)) s low)))
        (says_square g m w.is_graph w.is_structure s (negative i) (omega (arith, w.same_states))
        (omega (arith, w.room)) w.stands.1.0 (negative (i + 1)) a (λ t. not (v t)) w.stands.1.1.0 w.stands.1.2
        (λ t t_low. x.fails t (omega (arith, w.same_states))));
  }
  agree_modal Square a f w x = record {
    holds = λ s low.
        let v : ℕ → Bool = is_member (meaning m0 gs f) in
        says_same (HoldsAt g m s (positive i)) (list_all (λ e. not ((e.source == s) && bytes_eq e.action a) || v e.target) m.edges) _
        (ap (list_all (λ e. not ((e.source == s) && bytes_eq e.action a) || v e.target)) w.same_edges
        ∙ sym (member_where m0 (every_edge m0 a (meaning m0 gs f)) s low))
        (says_square g m w.is_graph w.is_structure s (positive i) (omega (arith, w.same_states))
        (omega (arith, w.room)) w.stands.0.0 (positive (i + 1)) a v w.stands.0.1.0 w.stands.0.2
        (λ t t_low. x.holds t (omega (arith, w.same_states))));
    fails = λ s low.
        let v : ℕ → Bool = is_member (meaning m0 gs f) in
        says_same (HoldsAt g m s (negative i)) (list_any (λ e. (e.source == s) && bytes_eq e.action a && not (v e.target)) m.edges) _
        (ap (list_any (λ e. (e.source == s) && bytes_eq e.action a && not (v e.target))) w.same_edges
        ∙ not_every (λ e. (e.source == s) && bytes_eq e.action a) (λ e. v e.target) m0.edges
        ∙ sym (ap not (member_where m0 (every_edge m0 a (meaning m0 gs f)) s low)))
        (says_diamond g m w.is_graph w.is_structure s (negative i) (omega (arith, w.same_states))
        (omega (arith, w.room)) w.stands.1.0 (negative (i + 1)) a (λ t. not (v t)) w.stands.1.1.0 w.stands.1.2
        (λ t t_low. x.fails t (omega (arith, w.same_states))));
  }
