-- Clashes: what the searches for each kind of cause say of causes.
--
--   is_false-is     == False passes the test for False, and nothing else
--   false_cause, pair_cause, cycle_cause == the first of each kind is the first cause, where none of an earlier kind is
--   negatives_same, negatives_noted == the first negative literals of one node more
--   no_partner      == where there is no negative literal, no node has a partner
--   no_cause        == where there is none of any kind, there is no cause
use Rattle.std.proofs.Common.{ℕ, ◌≡◌, ◌<◌, ◌==◌, ◌⊎◌, inl, inr, Bool, true, false, ◌+◌, List, [], ◌∷◌, length, get_or, take, find, Option, Some, None, is_some, refl, sym, ap, ◌∙◌, arith}
use Rattle.std.proofs.lemmas.Bool.{cases_eq, eqb-true, cond-true, cond-false}
use Rattle.std.proofs.lemmas.List.{take_more}
use Rattle.std.proofs.lemmas.List.Folds.{find-append}
use Rattle.std.specs.Option.{option_or}
use Rattle.std.proofs.lemmas.Bool.Decides.{nat_tests}
use Rattle.ml_lists.specs.Ascending.{IsAscending}
use Rattle.ml_lists.specs.Member.{IsMember}
use Rattle.ml_graph.specs.declared.node.Node.{Node}
use Rattle.ml_graph.specs.declared.node.Node.TheVariants as node
use Rattle.ml_graph.specs.Graph.{Graph, IsGraph, size, node_at}
use Rattle.ml_graph.proofs.References.{prop_in_range}
use Rattle.ml_sequent.specs.declared.clashes.ClashCause.{ClashCause}
use Rattle.ml_sequent.specs.declared.clashes.ClashCause.TheVariants as cause
use Rattle.ml_sequent.specs.Spread.{SpreadList, IsCause, IsPair, IsOddCycle}
use Rattle.ml_sequent.specs.FirstCause.{IsFirstCause, comes_before}
use Rattle.ml_sequent.specs.private.Tests.{is_false, is_negative, negative_sign, negative_of, partner, partner_of, positive_prop}
use Rattle.ml_sequent.specs.private.Tests.{negative_prop, if_positive, if_negative, HasNegatives, IsFirstPair, IsFirstOddCycle}
use Rattle.ml_sequent.proofs.Firsts.{FoundFirst, found_first, found_none, all_fail}

-- ---- nodes by tests

-- False passes the test, and nothing else
pub is_false-is : (x : Node) → is_false x ≡ true → x ≡ node.False
is_false-is node.True e = cc
is_false-is node.False e = refl
is_false-is (node.Lit p positive) e = cc
is_false-is (node.And l r) e = cc
is_false-is (node.Or l r) e = cc
is_false-is (node.Diamond a to) e = cc
is_false-is (node.Square a to) e = cc

negative_is : (p q : ℕ) (b : Bool) → negative_sign p q b ≡ true → node.Lit q b ≡ node.Lit p false
negative_is p q true e = cc
negative_is p q false e = let same = eqb-true q p e in ap (λ k. node.Lit k false) same

is_negative-is : (p : ℕ) (x : Node) → is_negative p x ≡ true → x ≡ node.Lit p false
is_negative-is p node.True e = cc
is_negative-is p node.False e = cc
is_negative-is p (node.Lit q b) e = negative_is p q b e
is_negative-is p (node.And l r) e = cc
is_negative-is p (node.Or l r) e = cc
is_negative-is p (node.Diamond a to) e = cc
is_negative-is p (node.Square a to) e = cc

is_negative-of : (p : ℕ) (x : Node) → x ≡ node.Lit p false → is_negative p x ≡ true
is_negative-of p x e = ap (is_negative p) e ∙ same p
  where
    same : (k : ℕ) → (k == k) ≡ true
    same k = grind (arith, nat_tests)

-- a node with a partner is a positive literal of which the partner is the first negative one
record Partners (g : Graph) (nodes : List ℕ) (x : Node) (q : ℕ) : Type 0 where
  pub prop : ℕ
  pub positive : x ≡ node.Lit prop true
  pub negative : negative_of g nodes prop ≡ Some q

positive_is : (p q : ℕ) (b : Bool) → if_positive q b ≡ Some p → node.Lit q b ≡ node.Lit p true
positive_is p q true e = let same : q ≡ p = cc in ap (λ k. node.Lit k true) same
positive_is p q false e = cc

-- a node with the proposition of a positive literal is that literal
pub positive_prop-is : (p : ℕ) (x : Node) → positive_prop x ≡ Some p → x ≡ node.Lit p true
positive_prop-is p node.True e = cc
positive_prop-is p node.False e = cc
positive_prop-is p (node.Lit q b) e = positive_is p q b e
positive_prop-is p (node.And l r) e = cc
positive_prop-is p (node.Or l r) e = cc
positive_prop-is p (node.Diamond a to) e = cc
positive_prop-is p (node.Square a to) e = cc

partner-is : (g : Graph) (nodes : List ℕ) (x : Node) (q : ℕ) → partner g nodes x ≡ Some q → Partners g nodes x q
partner-is g nodes x q e = by_prop (positive_prop x) refl e
  where
    by_prop : (o : Option ℕ) → positive_prop x ≡ o → partner_of g nodes o ≡ Some q → Partners g nodes x q
    by_prop None is found = cc
    by_prop (Some p) is found = record { prop = p; positive = positive_prop-is p x is; negative = found }

partner-of : (g : Graph) (nodes : List ℕ) (x : Node) (p : ℕ)
    → x ≡ node.Lit p true
    → partner g nodes x ≡ negative_of g nodes p
partner-of g nodes x p e = ap (partner g nodes) e

-- ---- causes

module _ (g : Graph) (sp : SpreadList) (up : IsAscending sp.nodes) where
  pub no_false : find (λ n. is_false (node_at g n)) sp.nodes ≡ None
      → (n : ℕ)
      → IsMember n sp.nodes
      → node_at g n ≡ node.False
      → ⊥
  no_false e n h is = let fails = found_none (λ k. is_false (node_at g k)) sp.nodes e n h in let passes = ap is_false is in cc

  pub no_pair : ((n : ℕ) → IsMember n sp.nodes → partner g sp.nodes (node_at g n) ≡ None)
      → (p q : ℕ) → IsMember p sp.nodes → IsMember q sp.nodes → IsPair g p q → ⊥
  no_pair none p q p_in q_in pair =
      let lonely = sym (partner-of g sp.nodes (node_at g p) pair.prop pair.positive) ∙ none p p_in in
      let fails = found_none (λ k. is_negative pair.prop (node_at g k)) sp.nodes lonely q q_in in
      let passes = is_negative-of pair.prop (node_at g q) pair.negative in
      cc

  -- the first False is the first cause
  pub false_cause : (n : ℕ) → find (λ k. is_false (node_at g k)) sp.nodes ≡ Some n → IsFirstCause g sp (cause.False n)
  false_cause n e = from (found_first (λ k. is_false (node_at g k)) sp.nodes up n e)
    where
      from : FoundFirst (λ k. is_false (node_at g k)) sp.nodes n → IsFirstCause g sp (cause.False n)
      from f = record { is_cause = (f.member, is_false-is (node_at g n) f.passes); first = first }
        where
          first : (y : ClashCause) → IsCause g sp y → comes_before y (cause.False n) → ⊥
          first (cause.False m) c less = let fails = f.first m c.0 less in let passes = ap is_false c.1 in cc
          first (cause.Pair p q) c less = absurd less
          first (cause.Cycle m) c less = absurd less

  -- where nothing is False, the first pair is the first cause
  pub pair_cause : find (λ k. is_false (node_at g k)) sp.nodes ≡ None → (q : ℕ × ℕ) → IsFirstPair g sp.nodes q
      → IsFirstCause g sp (cause.Pair q.0 q.1)
  pair_cause none q f = from (partner-is g sp.nodes (node_at g q.0) q.1 f.has)
    where
      from : Partners g sp.nodes (node_at g q.0) q.1 → IsFirstCause g sp (cause.Pair q.0 q.1)
      from p = with_negative (found_first (λ k. is_negative p.prop (node_at g k)) sp.nodes up q.1 p.negative)
        where
          with_negative : FoundFirst (λ k. is_negative p.prop (node_at g k)) sp.nodes q.1
              → IsFirstCause g sp (cause.Pair q.0 q.1)
          with_negative r = record {
            is_cause = (
              f.member,
              r.member,
              record
                  { prop = p.prop; positive = p.positive; negative = is_negative-is p.prop (node_at g q.1) r.passes },
            );
            first = first;
          }
            where
              earlier : (a b : ℕ) → IsMember a sp.nodes → IsMember b sp.nodes → IsPair g a b → a < q.0 → ⊥
              earlier a b a_in b_in pair less =
                  let lonely = sym (partner-of g sp.nodes (node_at g a) pair.prop pair.positive) ∙ f.first a a_in less in
                  let fails = found_none (λ k. is_negative pair.prop (node_at g k)) sp.nodes lonely b b_in in
                  let passes = is_negative-of pair.prop (node_at g b) pair.negative in
                  cc

              same_prop : (a b : ℕ) → IsPair g a b → a ≡ q.0 → node_at g b ≡ node.Lit p.prop false
              same_prop a b pair same =
                  let one : node.Lit pair.prop true ≡ node.Lit p.prop true = sym pair.positive ∙ ap (node_at g) same ∙ p.positive in
                  let props : pair.prop ≡ p.prop = cc in
                  pair.negative ∙ ap (λ k. node.Lit k false) props

              first : (y : ClashCause) → IsCause g sp y → comes_before y (cause.Pair q.0 q.1) → ⊥
              first (cause.False m) c less = no_false none m c.0 c.1
              first (cause.Pair a b) c (inl less) = earlier a b c.0 c.1 c.2 less
              first (cause.Pair a b) c (inr both) =
                  let fails = r.first b c.1 both.1 in
                  let passes = is_negative-of p.prop (node_at g b) (same_prop a b c.2 both.0) in
                  cc
              first (cause.Cycle m) c less = absurd less

  -- where there is neither, the first odd cycle is
  pub cycle_cause : find (λ k. is_false (node_at g k)) sp.nodes ≡ None
      → ((n : ℕ) → IsMember n sp.nodes → partner g sp.nodes (node_at g n) ≡ None) → (n : ℕ) → IsFirstOddCycle g sp.choice sp.nodes n
      → IsFirstCause g sp (cause.Cycle n)
  cycle_cause no_f no_p n f = record { is_cause = (f.member, f.is); first = first }
    where
      first : (y : ClashCause) → IsCause g sp y → comes_before y (cause.Cycle n) → ⊥
      first (cause.False m) c less = no_false no_f m c.0 c.1
      first (cause.Pair p q) c less = no_pair no_p p q c.0 c.1 c.2
      first (cause.Cycle m) c less = f.first m c.0 less c.1

  -- where there is none of any kind, there is no cause
  pub no_cause : find (λ k. is_false (node_at g k)) sp.nodes ≡ None
      → ((n : ℕ) → IsMember n sp.nodes → partner g sp.nodes (node_at g n) ≡ None)
      → ((n : ℕ) → IsMember n sp.nodes → IsOddCycle g sp.choice n → ⊥) → (x : ClashCause) → IsCause g sp x → ⊥
  no_cause no_f no_p no_c (cause.False n) c = no_false no_f n c.0 c.1
  no_cause no_f no_p no_c (cause.Pair p q) c = no_pair no_p p q c.0 c.1 c.2
  no_cause no_f no_p no_c (cause.Cycle n) c = no_c n c.0 c.1

-- ---- the first negative literals, node by node

negative_prop-tests : (p q : ℕ) (b : Bool) → negative_sign p q b ≡ true → if_negative q b ≡ Some p
negative_prop-tests p q true e = cc
negative_prop-tests p q false e = ap (λ (k : ℕ). Some k) (eqb-true q p e)

-- a node is the negative literal of its proposition, and of no other
negative_here : (x : Node) (q : ℕ) → negative_prop x ≡ Some q → is_negative q x ≡ true
negative_here x q e = is_negative-of q x (of_prop x e)
  where
    of_sign : (k : ℕ) (b : Bool) → if_negative k b ≡ Some q → node.Lit k b ≡ node.Lit q false
    of_sign k true h = cc
    of_sign k false h = let same : k ≡ q = cc in ap (λ i. node.Lit i false) same

    of_prop : (y : Node) → negative_prop y ≡ Some q → y ≡ node.Lit q false
    of_prop node.True h = cc
    of_prop node.False h = cc
    of_prop (node.Lit k b) h = of_sign k b h
    of_prop (node.And l r) h = cc
    of_prop (node.Or l r) h = cc
    of_prop (node.Diamond a to) h = cc
    of_prop (node.Square a to) h = cc

-- the proposition of a negative literal is one of the graph's
pub negative_prop-low : (g : Graph)
    → IsGraph g
    → (n : ℕ)
    → n < size g
    → (q : ℕ)
    → negative_prop (node_at g n) ≡ Some q
    → q < length g.props
negative_prop-low g ok n low q e = prop_in_range g ok n low q false (is_negative-is q (node_at g n) (negative_here (node_at g n) q e))

-- if it is the negative literal of p, its proposition is p
negative_only : (x : Node) (p : ℕ) → is_negative p x ≡ true → negative_prop x ≡ Some p
negative_only x p e = ap negative_prop (is_negative-is p x e)

-- a test that fails adds nothing, one that passes adds the node
module _ (g : Graph) (nodes : List ℕ) (i : ℕ) (low : i < length nodes) where
  of_more : (p : ℕ)
      → negative_of g (take (i + 1) nodes) p
      ≡ option_or (negative_of g (take i nodes) p) (find (λ n. is_negative p (node_at g n)) (get_or nodes i 0 ∷ []))
  of_more p =
      ap (find (λ n. is_negative p (node_at g n))) (take_more nodes i 0 low)
      ∙ find-append (λ n. is_negative p (node_at g n)) (take i nodes) (get_or nodes i 0 ∷ [])

  adds_none : (p : ℕ)
      → is_negative p (node_at g (get_or nodes i 0)) ≡ false
      → negative_of g (take (i + 1) nodes) p ≡ negative_of g (take i nodes) p
  adds_none p fails =
      of_more p
      ∙ ap (option_or (negative_of g (take i nodes) p))
      (cond-false (is_negative p (node_at g (get_or nodes i 0))) (Some (get_or nodes i 0)) None fails)
      ∙ or_none (negative_of g (take i nodes) p)
    where
      or_none : (o : Option ℕ) → option_or o None ≡ o
      or_none None = refl
      or_none (Some x) = refl

  adds_one : (p : ℕ) → is_negative p (node_at g (get_or nodes i 0)) ≡ true
      → negative_of g (take (i + 1) nodes) p ≡ option_or (negative_of g (take i nodes) p) (Some (get_or nodes i 0))
  adds_one p passes =
      of_more p
      ∙ ap (option_or (negative_of g (take i nodes) p))
      (cond-true (is_negative p (node_at g (get_or nodes i 0))) (Some (get_or nodes i 0)) None passes)

  -- a node that is no negative literal changes nothing
  pub negatives_same : (firsts : List (Option ℕ))
      → HasNegatives g (take i nodes) firsts
      → negative_prop (node_at g (get_or nodes i 0)) ≡ None
      → HasNegatives g (take (i + 1) nodes) firsts
  negatives_same firsts has none = record {
    sizes = has.sizes;
    firsts_are = λ p p_low. has.firsts_are p p_low ∙ sym (adds_none p (fails p (is_negative p (node_at g (get_or nodes i 0))) refl));
  }
    where
      fails : (p : ℕ) (b : Bool)
          → is_negative p (node_at g (get_or nodes i 0)) ≡ b
          → is_negative p (node_at g (get_or nodes i 0)) ≡ false
      fails p true e = let some = negative_only (node_at g (get_or nodes i 0)) p e in cc
      fails p false e = e

  -- one that is, is noted if it is the first
  pub negatives_noted : (firsts firsts2 : List (Option ℕ)) (q : ℕ) → HasNegatives g (take i nodes) firsts
      → negative_prop (node_at g (get_or nodes i 0)) ≡ Some q → length firsts2 ≡ length firsts
      → get_or firsts2 q None ≡ option_or (get_or firsts q None) (Some (get_or nodes i 0))
      → ((p : ℕ) → (p ≡ q → ⊥) → get_or firsts2 p None ≡ get_or firsts p None) → HasNegatives g (take (i + 1) nodes) firsts2
  negatives_noted firsts firsts2 q has is sizes noted others = record {
    sizes = sizes ∙ has.sizes;
    firsts_are = λ p p_low. at p p_low (cases_eq p q);
  }
    where
      here : is_negative q (node_at g (get_or nodes i 0)) ≡ true
      here = negative_here (node_at g (get_or nodes i 0)) q is

      fails : (p : ℕ) (b : Bool)
          → (p ≡ q → ⊥)
          → is_negative p (node_at g (get_or nodes i 0)) ≡ b
          → is_negative p (node_at g (get_or nodes i 0)) ≡ false
      fails p true other e =
          let some = negative_only (node_at g (get_or nodes i 0)) p e in
          let same : p ≡ q = cc in
          absurd (other same)
      fails p false other e = e

      at : (p : ℕ)
          → p < length g.props
          → (p ≡ q) ⊎ (p ≡ q → ⊥)
          → get_or firsts2 p None ≡ negative_of g (take (i + 1) nodes) p
      at p p_low (inl e) =
          ap (λ k. get_or firsts2 k None) e
          ∙ noted
          ∙ ap (λ o. option_or o (Some (get_or nodes i 0)))
          (ap (λ k. get_or firsts k None) (sym e) ∙ has.firsts_are p p_low ∙ ap (negative_of g (take i nodes)) e)
          ∙ sym (adds_one q here)
          ∙ ap (negative_of g (take (i + 1) nodes)) (sym e)
      at p p_low (inr other) =
          others p other
          ∙ has.firsts_are p p_low
          ∙ sym (adds_none p (fails p (is_negative p (node_at g (get_or nodes i 0))) other refl))

-- where there is no negative literal, no node has a partner
pub no_partner : (g : Graph) (nodes : List ℕ)
    → find (λ n. is_some (negative_prop (node_at g n))) nodes ≡ None
    → (x : Node)
    → partner g nodes x ≡ None
no_partner g nodes none x = of_prop (positive_prop x)
  where
    fails : (p n : ℕ) (b : Bool) → IsMember n nodes → is_negative p (node_at g n) ≡ b
        → is_negative p (node_at g n) ≡ false
    fails p n true h e =
        let fewer = found_none (λ k. is_some (negative_prop (node_at g k))) nodes none n h in
        let some = ap is_some (negative_only (node_at g n) p e) in
        cc
    fails p n false h e = e

    of_prop : (o : Option ℕ) → partner_of g nodes o ≡ None
    of_prop None = refl
    of_prop (Some p) =
        all_fail (λ n. is_negative p (node_at g n)) nodes (λ n h. fails p n (is_negative p (node_at g n)) h refl)
