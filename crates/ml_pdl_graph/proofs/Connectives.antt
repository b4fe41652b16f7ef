-- The nodes of formulas, by their operands.
--
--   Both            == a formula is shown at its node of either sign
--   both_const, both_prop, both_not, both_binary, both_modal, both_repeat == each case
use Rattle.std.proofs.Common.{◌≡◌, ℕ, ◌+◌, ◌*◌, ◌<◌, ◌≤◌, Bool, true, false, ◌&&◌, ◌||◌, not, List, [], ◌∷◌, refl, sym, ap, subst, ◌∙◌, arith}
use Rattle.std.specs.List.{list_any, list_all, range_with_len}
use Rattle.std.proofs.lemmas.List.{get_or-map}
use Rattle.ml_lists.proofs.Says.{iff_is}
use Rattle.ml_base.specs.Structure.{Structure, IsStructure, lists, is_member}
use Rattle.ml_graph.specs.Graph.{Graph, IsGraph, size, node_at, prop_at}
use Rattle.ml_graph.specs.declared.node.Node.TheVariants as node
use Rattle.ml_text.specs.declared.token.Operator.{Operator}
use Rattle.ml_text.specs.declared.token.Operator.TheVariants as operator
use Rattle.ml_text.specs.Operators.{weight}
use Rattle.ml_pdl.specs.Formula.{Formula, Const, Prop, Not, Binary, Modal, Repeat, Program, occurrences, program_occurrences}
use Rattle.ml_pdl.specs.declared.term.Modality.{Modality}
use Rattle.ml_pdl.specs.declared.term.Modality.TheVariants.{Diamond, Square}
use Rattle.ml_pdl.specs.Meaning.{some_run, every_run, meaning, relation}
use Rattle.ml_nodes.specs.Nodes.{positive, negative}
use Rattle.ml_pdl_graph.specs.PdlGraph.{StandsAt}
use Rattle.ml_pdl_graph.proofs.Players.{player_of, node_of, own_by, other_by, node_range, Tells, tells_turned, tells_own, tells_other_by}
use Rattle.ml_pdl_graph.proofs.Players.{tells_leads, tells_constant, tells_negated_constant, tells_literal, tells_negated_literal}
use Rattle.ml_pdl.proofs.SomeOccurrence.{some_occurrence}
use Rattle.ml_pdl_graph.proofs.ProgramNodes.{NodesAt, Shown, Tests, nodes_of, turn}
use Rattle.ml_pdl_graph.proofs.Programs.{program_told, repeat_told}
use Rattle.ml_pdl.proofs.MeaningFlags.{meaning_flags}
use Rattle.ml_pdl.proofs.RunsInto.{into}
use Rattle.ml_base.proofs.StateSets.{member_where}

member_not : (m : Structure) (f : Formula) (s : ℕ)
    → s < m.states
    → is_member (meaning m (Not f)) s ≡ not (is_member (meaning m f) s)
member_not m f s low = get_or-map not (meaning m f) s false false (omega (arith, meaning_flags m f, low))

not_not : (b : Bool) → not (not b) ≡ b
not_not true = refl
not_not false = refl

not_iff_is : (a b : Bool) → ((not a || b) && (a || not b)) ≡ ((not a || b) && (not b || a))
not_iff_is true true = refl
not_iff_is true false = refl
not_iff_is false true = refl
not_iff_is false false = refl

not_and : (a b : Bool) → not (a && not b) ≡ (not a || b)
not_and true b = not_not b
not_and false b = refl

not_or : (a b : Bool) → not (a || b) ≡ (not a && not b)
not_or true b = refl
not_or false b = refl

-- no run leads out of the set exactly if every run leads into it
every_is : (r v : ℕ → Bool) (ts : List ℕ)
    → not (list_any (λ t. r t && not (v t)) ts) ≡ list_all (λ t. not (r t) || v t) ts
every_is r v [] = refl
every_is r v (t ∷ ts) =
    not_or (r t && not (v t)) (list_any (λ u. r u && not (v u)) ts)
    ∙ ap (λ b. b && not (list_any (λ u. r u && not (v u)) ts)) (not_and (r t) (v t))
    ∙ ap (λ b. (not (r t) || v t) && b) (every_is r v ts)

module _ (g : Graph) (m : Structure) (g_ok : IsGraph g) (m_ok : IsStructure m) where
  abbrev pub Both : ℕ → Formula → Type 0
  Both i f = (e : Bool) → Shown g m g_ok m_ok e i f

  abbrev TellsAt : Bool → ℕ → ℕ → Bool → Type 0
  TellsAt e s n b = Tells g m g_ok m_ok (player_of e) s n b

  same : (e : Bool) (s n : ℕ) (a b : Bool) → a ≡ b → TellsAt e s n a → TellsAt e s n b
  same e s n a b is says = subst (TellsAt e s n) is says

  low_of : (e : Bool) (i n : ℕ) → 1 ≤ n → 2 * (i + n) ≤ size g → node_of e i < size g
  low_of e i n some room = let range = node_range e i in omega (arith, range.1, room, some)

  -- at the node of the other sign the formula is denied
  denied : (f : Formula) (i : ℕ) → 2 * (i + occurrences f) ≤ size g → Both i f → (e : Bool) (s : ℕ) → s < m.states
      → TellsAt e s (node_of (not e) i) (not (is_member (meaning m f) s))
  denied f i room both true s s_low =
      tells_turned g m g_ok m_ok false s (negative i) s_low (low_of false i (occurrences f) (some_occurrence f) room)
      (is_member (meaning m f) s) (both false s s_low)
  denied f i room both false s s_low =
      tells_turned g m g_ok m_ok true s (positive i) s_low (low_of true i (occurrences f) (some_occurrence f) room)
      (is_member (meaning m f) s) (both true s s_low)

  pub both_const : (b : Bool) (i : ℕ) → StandsAt g i (Const b) → 2 * (i + 1) ≤ size g → Both i (Const b)
  both_const b i w room true s s_low =
      same true s (positive i) b (is_member (meaning m (Const b)) s) (sym (member_where m (λ t. b) s s_low))
      (tells_constant g m g_ok m_ok s (positive i) s_low (omega (arith, room)) b w.0.0)
  both_const b i w room false s s_low =
      same false s (negative i) b (is_member (meaning m (Const b)) s) (sym (member_where m (λ t. b) s s_low))
      (tells_negated_constant g m g_ok m_ok s (negative i) s_low (omega (arith, room)) b w.1.0)

  pub both_prop : (p : List ℕ) (i : ℕ) → StandsAt g i (Prop p) → 2 * (i + 1) ≤ size g → Both i (Prop p)
  both_prop p i w room true s s_low =
      let here = w.0 in
      same true s (positive i) (lists m s (prop_at g here.0)) (is_member (meaning m (Prop p)) s)
      (ap (lists m s) here.2 ∙ sym (member_where m (λ t. lists m t p) s s_low))
      (tells_literal g m g_ok m_ok s (positive i) s_low (omega (arith, room)) here.0 here.1.0)
  both_prop p i w room false s s_low =
      let here = w.1 in
      same false s (negative i) (lists m s (prop_at g here.0)) (is_member (meaning m (Prop p)) s)
      (ap (lists m s) here.2 ∙ sym (member_where m (λ t. lists m t p) s s_low))
      (tells_negated_literal g m g_ok m_ok s (negative i) s_low (omega (arith, room)) here.0 here.1.0)

  -- a node of a connective, by that of an operand of either sign
  module _ (e : Bool) (i n s : ℕ) (s_low : s < m.states) (room : 2 * (i + n) ≤ size g) (some : 1 ≤ n) where
    leads : (t : ℕ) (b : Bool) → node_at g (node_of e i) ≡ node.And t t → TellsAt e s t b → TellsAt e s (node_of e i) b
    leads t b is x = tells_leads g m g_ok m_ok s (node_of e i) s_low (low_of e i n some room) e t b is x

    own : (l r : ℕ) (a b : Bool)
        → node_at g (node_of e i) ≡ own_by e l r
        → TellsAt e s l a
        → TellsAt e s r b
        → TellsAt e s (node_of e i) (a || b)
    own l r a b is x y = tells_own g m g_ok m_ok s (node_of e i) s_low (low_of e i n some room) e l r a b is x y

    other : (l r : ℕ) (a b : Bool)
        → node_at g (node_of e i) ≡ other_by e l r
        → TellsAt e s l a
        → TellsAt e s r b
        → TellsAt e s (node_of e i) (a && b)
    other l r a b is x y = tells_other_by g m g_ok m_ok s (node_of e i) s_low (low_of e i n some room) e l r a b is x y

  pub both_not : (f : Formula) (i : ℕ)
      → StandsAt g i (Not f)
      → 2 * (i + occurrences (Not f)) ≤ size g
      → Both (i + 1) f
      → Both i (Not f)
  both_not f i w room x e s s_low =
      same e s (node_of e i) (not (is_member (meaning m f) s)) (is_member (meaning m (Not f)) s)
      (sym (member_not m f s s_low))
      (leads e i (1 + occurrences f) s s_low room (omega arith) (node_of (not e) (i + 1))
      (not (is_member (meaning m f) s)) (by_sign e)
      (denied f (i + 1) (omega (arith, room)) x e s s_low))
    where
      by_sign : (d : Bool) → node_at g (node_of d i) ≡ node.And (node_of (not d) (i + 1)) (node_of (not d) (i + 1))
      by_sign true = w.0.0
      by_sign false = w.1.0

  pub both_binary : (op : Operator) (f h : Formula) (i : ℕ)
      → StandsAt g i (Binary op f h)
      → 2 * (i + occurrences (Binary op f h)) ≤ size g
      → Both (i + weight op) f → Both (i + weight op + occurrences f) h → Both i (Binary op f h)
  both_binary operator.And f h i w room x y e s s_low =
      same e s (node_of e i) _ (is_member (meaning m (Binary operator.And f h)) s) (sym (member_where m _ s s_low))
      (other e i (1 + occurrences f + occurrences h) s s_low room (omega arith) (node_of e (i + 1))
      (node_of e (i + 1 + occurrences f)) (is_member (meaning m f) s) (is_member (meaning m h) s) (by_sign e)
      (x e s s_low) (y e s s_low))
    where
      by_sign : (d : Bool)
          → node_at g (node_of d i) ≡ other_by d (node_of d (i + 1)) (node_of d (i + 1 + occurrences f))
      by_sign true = w.0.0.0
      by_sign false = w.0.1.0
  both_binary operator.Or f h i w room x y e s s_low =
      same e s (node_of e i) _ (is_member (meaning m (Binary operator.Or f h)) s) (sym (member_where m _ s s_low))
      (own e i (1 + occurrences f + occurrences h) s s_low room (omega arith) (node_of e (i + 1))
      (node_of e (i + 1 + occurrences f)) (is_member (meaning m f) s) (is_member (meaning m h) s) (by_sign e)
      (x e s s_low) (y e s s_low))
    where
      by_sign : (d : Bool) → node_at g (node_of d i) ≡ own_by d (node_of d (i + 1)) (node_of d (i + 1 + occurrences f))
      by_sign true = w.0.0.0
      by_sign false = w.0.1.0
  both_binary operator.Implies f h i w room x y e s s_low =
      same e s (node_of e i) _ (is_member (meaning m (Binary operator.Implies f h)) s) (sym (member_where m _ s s_low))
      (own e i (1 + occurrences f + occurrences h) s s_low room (omega arith) (node_of (not e) (i + 1))
      (node_of e (i + 1 + occurrences f)) (not (is_member (meaning m f) s)) (is_member (meaning m h) s) (by_sign e)
      (denied f (i + 1) (omega (arith, room)) x e s s_low) (y e s s_low))
    where
      by_sign : (d : Bool)
          → node_at g (node_of d i) ≡ own_by d (node_of (not d) (i + 1)) (node_of d (i + 1 + occurrences f))
      by_sign true = w.0.0.0
      by_sign false = w.0.1.0
  both_binary operator.Iff f h i w room x y true s s_low =
      let a : Bool = is_member (meaning m f) s in let b : Bool = is_member (meaning m h) s in
      let n : ℕ = occurrences f + occurrences h in
      same true s (positive i) ((a && b) || (not a && not b)) (is_member (meaning m (Binary operator.Iff f h)) s)
      (iff_is a b ∙ sym (member_where m _ s s_low))
      (own true i (3 + n) s s_low (omega (arith, room)) (omega arith) (positive (i + 1)) (positive (i + 2)) (a && b)
      (not a && not b) w.0.0.0
      (other true (i + 1) (2 + n) s s_low (omega (arith, room)) (omega arith) (positive (i + 3))
      (positive (i + 3 + occurrences f)) a b w.0.2.0 (x true s s_low) (y true s s_low))
      (other true (i + 2) (1 + n) s s_low (omega (arith, room)) (omega arith) (negative (i + 3))
      (negative (i + 3 + occurrences f)) (not a) (not b) w.0.4.0
      (denied f (i + 3) (omega (arith, room)) x true s s_low)
      (denied h (i + 3 + occurrences f) (omega (arith, room)) y true s s_low)))
  both_binary operator.Iff f h i w room x y false s s_low =
      let a : Bool = is_member (meaning m f) s in let b : Bool = is_member (meaning m h) s in
      let n : ℕ = occurrences f + occurrences h in
      same false s (negative i) ((not a || b) && (a || not b)) (is_member (meaning m (Binary operator.Iff f h)) s)
      (not_iff_is a b ∙ sym (member_where m _ s s_low))
      (other false i (3 + n) s s_low (omega (arith, room)) (omega arith) (negative (i + 1)) (negative (i + 2))
      (not a || b) (a || not b) w.0.1.0
      (own false (i + 1) (2 + n) s s_low (omega (arith, room)) (omega arith) (positive (i + 3))
      (negative (i + 3 + occurrences f)) (not a) b w.0.3.0
      (denied f (i + 3) (omega (arith, room)) x false s s_low) (y false s s_low))
      (own false (i + 2) (1 + n) s s_low (omega (arith, room)) (omega arith) (negative (i + 3))
      (positive (i + 3 + occurrences f)) a (not b) w.0.5.0
      (x false s s_low) (denied h (i + 3 + occurrences f) (omega (arith, room)) y false s s_low)))

  continues : (e : Bool) (r : ℕ) → turn e (positive r) (negative r) ≡ node_of e r
  continues true r = refl
  continues false r = refl

  continues_turned : (e : Bool) (r : ℕ) → turn e (negative r) (positive r) ≡ node_of (not e) r
  continues_turned true r = refl
  continues_turned false r = refl

  both_diamond : (p : Program) (f : Formula) (i : ℕ)
      → StandsAt g i (Modal Diamond p f)
      → 2 * (i + occurrences (Modal Diamond p f)) ≤ size g
      → ((e : Bool) → Tests g m g_ok m_ok e (i + 1) p) → Both (i + 1 + program_occurrences p) f → Both i
      (Modal Diamond p f)
  both_diamond p f i w room tests x e s s_low =
      let r : ℕ = i + 1 + program_occurrences p in
      same e s (node_of e i) (into m (relation m p) (is_member (meaning m f)) s)
      (is_member (meaning m (Modal Diamond p f)) s)
      (sym (member_where m (some_run m (relation m p) (meaning m f)) s s_low))
      (leads e i (1 + program_occurrences p + occurrences f) s s_low room (omega arith) (node_of e (i + 1))
      (into m (relation m p) (is_member (meaning m f)) s) (by_sign e)
      (program_told g m g_ok m_ok e p (i + 1) (node_of e r) (is_member (meaning m f))
      (subst (λ k. NodesAt g e (i + 1) k p) (continues e r) (nodes_of g e p (i + 1) (positive r) (negative r) w.2))
      (tests e) (omega (arith, room)) (x e)
      (low_of e r (occurrences f) (some_occurrence f) (omega (arith, room))) s s_low))
    where
      by_sign : (d : Bool) → node_at g (node_of d i) ≡ node.And (node_of d (i + 1)) (node_of d (i + 1))
      by_sign true = w.0.0
      by_sign false = w.1.0

  -- a box is what its negation's diamond denies
  both_square : (p : Program) (f : Formula) (i : ℕ)
      → StandsAt g i (Modal Square p f)
      → 2 * (i + occurrences (Modal Square p f)) ≤ size g
      → ((e : Bool) → Tests g m g_ok m_ok e (i + 1) p) → Both (i + 1 + program_occurrences p) f → Both i
      (Modal Square p f)
  both_square p f i w room tests x e s s_low =
      same e s (node_of e i) (not (into m (relation m p) out s)) (is_member (meaning m (Modal Square p f)) s)
      (every_is (relation m p s) (is_member (meaning m f)) (range_with_len 0 m.states) ∙ sym
      (member_where m (every_run m (relation m p) (meaning m f)) s s_low))
      (leads e i (1 + program_occurrences p + occurrences f) s s_low room (omega arith) (node_of (not e) (i + 1))
      (not (into m (relation m p) out s)) (by_sign e) (turned e))
    where
      out : ℕ → Bool
      out t = not (is_member (meaning m f) t)

      by_sign : (d : Bool) → node_at g (node_of d i) ≡ node.And (node_of (not d) (i + 1)) (node_of (not d) (i + 1))
      by_sign true = w.0.0
      by_sign false = w.1.0

      -- at the program's node of the sign d, whose continuation is the formula's of the other
      found : (d : Bool) → TellsAt d s (node_of d (i + 1)) (into m (relation m p) out s)
      found d =
          let r : ℕ = i + 1 + program_occurrences p in
          program_told g m g_ok m_ok d p (i + 1) (node_of (not d) r) out
          (subst (λ k. NodesAt g d (i + 1) k p) (continues_turned d r)
          (nodes_of g d p (i + 1) (negative r) (positive r) w.2)) (tests d) (omega (arith, room))
          (denied f r (omega (arith, room)) x d)
          (low_of (not d) r (occurrences f) (some_occurrence f) (omega (arith, room))) s s_low

      low : (d : Bool) → node_of d (i + 1) < size g
      low d =
          low_of d (i + 1) (program_occurrences p + occurrences f) (let some = some_occurrence f in omega (arith, some))
          (omega (arith, room))

      turned : (d : Bool) → TellsAt d s (node_of (not d) (i + 1)) (not (into m (relation m p) out s))
      turned true =
          tells_turned g m g_ok m_ok false s (negative (i + 1)) s_low (low false) (into m (relation m p) out s)
          (found false)
      turned false =
          tells_turned g m g_ok m_ok true s (positive (i + 1)) s_low (low true) (into m (relation m p) out s)
          (found true)

  pub both_modal : (d : Modality) (p : Program) (f : Formula) (i : ℕ)
      → StandsAt g i (Modal d p f)
      → 2 * (i + occurrences (Modal d p f)) ≤ size g
      → ((e : Bool) → Tests g m g_ok m_ok e (i + 1) p) → Both (i + 1 + program_occurrences p) f → Both i
      (Modal d p f)
  both_modal Diamond = both_diamond
  both_modal Square = both_square

  pub both_repeat : (p : Program) (i : ℕ) → StandsAt g i (Repeat p) → 2 * (i + occurrences (Repeat p)) ≤ size g
      → ((e : Bool) → Tests g m g_ok m_ok e (i + 1) p) → Both i (Repeat p)
  both_repeat p i w room tests true =
      repeat_told g m g_ok m_ok true p i w.0.0 w.0.1 (nodes_of g true p (i + 1) (positive i) (negative i) w.2)
      (tests true) room
  both_repeat p i w room tests false =
      repeat_told g m g_ok m_ok false p i w.1.0 w.1.1 (nodes_of g false p (i + 1) (positive i) (negative i) w.2)
      (tests false) room
