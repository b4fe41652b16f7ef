-- Which nodes are on cycles.
--
-- A node leads to nodes of less occurrences, but for a temporal operator that comes back to itself, and for the part of the
-- root on edges. So a cycle stays at one occurrence.
--
--   level p         == how many occurrences the node p has below it
--   Stays p q       == from p one goes on to q without going down
--   child_level     == where a node leads, it leads down or stays
--   stays_level     == where it stays, the level is the same
--   IsInherited Q   == a property of formulas that their operands have too
--   Inherits Q p    == the formula of the node p has it
--   reached_inherits == so have those of all nodes that are reached, if that of the root has
--   IsLinear p      == the formula of the node p is one of LTL
use Rattle.std.proofs.Common.{◌≡◌, ℕ, ◌+◌, ◌<◌, ◌⊎◌, Bool, true, false, not, [], ◌∷◌, inl, inr, ap, subst, sym, arith}
use Rattle.std.proofs.lemmas.Bool.{and_parts}
use Rattle.ml_lists.specs.Member.{IsMember}
use Rattle.ml_text.specs.declared.token.Operator.{Operator}
use Rattle.ml_text.specs.declared.token.Operator.TheVariants as operator
use Rattle.ml_ctl.specs.Formula.{Formula, Const, Prop, Not, Binary, Temporal, Paired, Quantified, occurrences}
use Rattle.ml_ctl.specs.Sorts.{is_linear}
use Rattle.ml_ctl.specs.declared.term.Tense.{Tense}
use Rattle.ml_ctl.specs.declared.term.Tense.TheVariants as tense
use Rattle.ml_ctl.specs.declared.term.Pairing.{Pairing}
use Rattle.ml_ctl.specs.declared.term.Pairing.TheVariants as pairing
use Rattle.ml_word_graph.specs.WordGraph.{Place, Root, Total, HasEdge, LeadsOn, True, Now, Later, Rest, Both, Neither}
use Rattle.ml_word_graph.specs.WordGraph.{IsReached, at_root, behind, all_of, children, form_of, right_at}

abbrev pub level : Place → ℕ
level (Root p) = 3 + level p
level Total = 2
level LeadsOn = 2
level HasEdge = 1
level True = 0
level (Now i f sign) = 2 + occurrences f
level (Later i f sign) = 2 + occurrences f
level (Rest i p f g sign) = 2 + occurrences (Paired p f g)
level (Both i f g sign) = 4 + occurrences f + occurrences g
level (Neither i f g sign) = 4 + occurrences f + occurrences g

abbrev pub stays_now : ℕ → Formula → Bool → Place → Type 0
stays_now i (Temporal tense.Finally f) sign q = q ≡ Later i (Temporal tense.Finally f) sign
stays_now i (Temporal tense.Globally f) sign q = q ≡ Later i (Temporal tense.Globally f) sign
stays_now i (Paired p f g) sign q = q ≡ Rest i p f g sign
stays_now i f sign q = ⊥

abbrev pub Stays : Place → Place → Type 0
Stays Total q = q ≡ LeadsOn
Stays LeadsOn q = q ≡ Total
Stays (Now i f sign) q = stays_now i f sign q
Stays (Later i f sign) q = q ≡ Now i f sign
Stays (Rest i p f g sign) q = q ≡ Later i (Paired p f g) sign
Stays p q = ⊥

abbrev Goes : Place → Place → Type 0
Goes p q = (level q < level p) ⊎ Stays p q

down : (p q r : Place) → level r < level p → q ≡ r → Goes p q
down p q r less same = inl (subst (λ x. level x < level p) (sym same) less)

-- of the two children of a conjunction, or of a disjunction
two : (p l r q : Place) (all : Bool) → (q ≡ l → Goes p q) → (q ≡ r → Goes p q) → IsMember q (children (all_of all l r)) → Goes p q
two p l r q true one other (inl same) = one same
two p l r q true one other (inr (inl same)) = other same
two p l r q true one other (inr (inr none)) = absurd none
two p l r q false one other (inl same) = one same
two p l r q false one other (inr (inl same)) = other same
two p l r q false one other (inr (inr none)) = absurd none

one_child : (p r q : Place) → (q ≡ r → Goes p q) → IsMember q (r ∷ []) → Goes p q
one_child p r q one (inl same) = one same
one_child p r q one (inr none) = absurd none

pub some_occurrence : (f : Formula) → 0 < occurrences f
some_occurrence (Const b) = omega arith
some_occurrence (Prop p) = omega arith
some_occurrence (Not f) = omega arith
some_occurrence (Binary operator.And f g) = omega arith
some_occurrence (Binary operator.Or f g) = omega arith
some_occurrence (Binary operator.Implies f g) = omega arith
some_occurrence (Binary operator.Iff f g) = omega arith
some_occurrence (Temporal t f) = omega arith
some_occurrence (Paired p f g) = omega arith
some_occurrence (Quantified q f) = omega arith

now_child : (i : ℕ) (f : Formula) (sign : Bool) (q : Place) → IsMember q (children (form_of (Now i f sign))) → Goes (Now i f sign) q
now_child i (Const b) sign q h = absurd h
now_child i (Prop p) sign q h = absurd h
now_child i (Not f) sign q h =
    let next : Place = Now (i + 1) f (not sign) in
    two (Now i (Not f) sign) next next q true (down (Now i (Not f) sign) q next (omega arith)) (down (Now i (Not f) sign) q next (omega arith)) h
now_child i (Binary operator.And f g) sign q h =
    let l : Place = Now (i + 1) f sign in
    let r : Place = Now (right_at (i + 1) f) g sign in
    let some_f = some_occurrence f in
    let some_g = some_occurrence g in
    two (Now i (Binary operator.And f g) sign) l r q sign (down (Now i (Binary operator.And f g) sign) q l (omega arith)) (down (Now i (Binary operator.And f g) sign) q r (omega arith)) h
now_child i (Binary operator.Or f g) sign q h =
    let l : Place = Now (i + 1) f sign in
    let r : Place = Now (right_at (i + 1) f) g sign in
    let some_f = some_occurrence f in
    let some_g = some_occurrence g in
    two (Now i (Binary operator.Or f g) sign) l r q (not sign) (down (Now i (Binary operator.Or f g) sign) q l (omega arith)) (down (Now i (Binary operator.Or f g) sign) q r (omega arith)) h
now_child i (Binary operator.Implies f g) sign q h =
    let l : Place = Now (i + 1) f (not sign) in
    let r : Place = Now (right_at (i + 1) f) g sign in
    let some_f = some_occurrence f in
    let some_g = some_occurrence g in
    two (Now i (Binary operator.Implies f g) sign) l r q (not sign) (down (Now i (Binary operator.Implies f g) sign) q l (omega arith)) (down (Now i (Binary operator.Implies f g) sign) q r (omega arith)) h
now_child i (Binary operator.Iff f g) sign q h =
    let l : Place = Both i f g sign in
    let r : Place = Neither i f g sign in
    two (Now i (Binary operator.Iff f g) sign) l r q false (down (Now i (Binary operator.Iff f g) sign) q l (omega arith)) (down (Now i (Binary operator.Iff f g) sign) q r (omega arith)) h
now_child i (Temporal tense.Next f) sign q h =
    let r : Place = Now (i + 1) f sign in one_child (Now i (Temporal tense.Next f) sign) r q (down (Now i (Temporal tense.Next f) sign) q r (omega arith)) h
now_child i (Temporal tense.Finally f) sign q h =
    let l : Place = Now (i + 1) f sign in
    two (Now i (Temporal tense.Finally f) sign) l (Later i (Temporal tense.Finally f) sign) q (not sign)
    (down (Now i (Temporal tense.Finally f) sign) q l (omega arith)) (λ same. inr same) h
now_child i (Temporal tense.Globally f) sign q h =
    let l : Place = Now (i + 1) f sign in
    two (Now i (Temporal tense.Globally f) sign) l (Later i (Temporal tense.Globally f) sign) q sign
    (down (Now i (Temporal tense.Globally f) sign) q l (omega arith)) (λ same. inr same) h
now_child i (Paired pairing.Until f g) sign q h =
    let l : Place = Now (right_at (i + 1) f) g sign in
    let some_f = some_occurrence f in
    two (Now i (Paired pairing.Until f g) sign) l (Rest i pairing.Until f g sign) q (not sign) (down (Now i (Paired pairing.Until f g) sign) q l (omega arith))
    (λ same. inr same) h
now_child i (Paired pairing.Weak f g) sign q h =
    let l : Place = Now (right_at (i + 1) f) g sign in
    let some_f = some_occurrence f in
    two (Now i (Paired pairing.Weak f g) sign) l (Rest i pairing.Weak f g sign) q (not sign) (down (Now i (Paired pairing.Weak f g) sign) q l (omega arith))
    (λ same. inr same) h
now_child i (Paired pairing.Release f g) sign q h =
    let l : Place = Now (right_at (i + 1) f) g sign in
    let some_f = some_occurrence f in
    two (Now i (Paired pairing.Release f g) sign) l (Rest i pairing.Release f g sign) q sign (down (Now i (Paired pairing.Release f g) sign) q l (omega arith))
    (λ same. inr same) h
now_child i (Quantified k f) sign q h = absurd h

rest_child : (i : ℕ) (p : Pairing) (f g : Formula) (sign : Bool) (q : Place) → IsMember q (children (form_of (Rest i p f g sign)))
    → Goes (Rest i p f g sign) q
rest_child i pairing.Until f g sign q h =
    let l : Place = Now (i + 1) f sign in
    two (Rest i pairing.Until f g sign) l (Later i (Paired pairing.Until f g) sign) q sign (down (Rest i pairing.Until f g sign) q l (omega arith)) (λ same. inr same) h
rest_child i pairing.Weak f g sign q h =
    let l : Place = Now (i + 1) f sign in
    two (Rest i pairing.Weak f g sign) l (Later i (Paired pairing.Weak f g) sign) q sign (down (Rest i pairing.Weak f g sign) q l (omega arith)) (λ same. inr same) h
rest_child i pairing.Release f g sign q h =
    let l : Place = Now (i + 1) f sign in
    two (Rest i pairing.Release f g sign) l (Later i (Paired pairing.Release f g) sign) q (not sign) (down (Rest i pairing.Release f g sign) q l (omega arith)) (λ same. inr same) h

pub child_level : (p q : Place) → IsMember q (children (form_of p)) → (level q < level p) ⊎ Stays p q
child_level (Root start) q h = two (Root start) start Total q true (down (Root start) q start (omega arith)) (down (Root start) q Total (omega arith)) h
child_level Total q h = two Total HasEdge LeadsOn q true (down Total q HasEdge (omega arith)) (λ same. inr same) h
child_level HasEdge q h = one_child HasEdge True q (down HasEdge q True (omega arith)) h
child_level LeadsOn q h = one_child LeadsOn Total q (λ same. inr same) h
child_level True q h = absurd h
child_level (Now i f sign) q h = now_child i f sign q h
child_level (Later i f sign) q h = one_child (Later i f sign) (Now i f sign) q (λ same. inr same) h
child_level (Rest i p f g sign) q h = rest_child i p f g sign q h
child_level (Both i f g sign) q h =
    let l : Place = Now (i + 3) f true in
    let r : Place = Now (right_at (i + 3) f) g sign in
    two (Both i f g sign) l r q true (down (Both i f g sign) q l (omega arith)) (down (Both i f g sign) q r (omega arith)) h
child_level (Neither i f g sign) q h =
    let l : Place = Now (i + 3) f false in
    let r : Place = Now (right_at (i + 3) f) g (not sign) in
    two (Neither i f g sign) l r q true (down (Neither i f g sign) q l (omega arith)) (down (Neither i f g sign) q r (omega arith)) h

stays_now_level : (i : ℕ) (f : Formula) (sign : Bool) (q : Place) → stays_now i f sign q → level q ≡ 2 + occurrences f
stays_now_level i (Const b) sign q h = absurd h
stays_now_level i (Prop p) sign q h = absurd h
stays_now_level i (Not f) sign q h = absurd h
stays_now_level i (Binary op f g) sign q h = absurd h
stays_now_level i (Temporal tense.Next f) sign q h = absurd h
stays_now_level i (Temporal tense.Finally f) sign q h = ap level h
stays_now_level i (Temporal tense.Globally f) sign q h = ap level h
stays_now_level i (Paired p f g) sign q h = ap level h
stays_now_level i (Quantified k f) sign q h = absurd h

pub stays_level : (p q : Place) → Stays p q → level q ≡ level p
stays_level (Root start) q h = absurd h
stays_level Total q h = ap level h
stays_level HasEdge q h = absurd h
stays_level LeadsOn q h = ap level h
stays_level True q h = absurd h
stays_level (Now i f sign) q h = stays_now_level i f sign q h
stays_level (Later i f sign) q h = ap level h
stays_level (Rest i p f g sign) q h = ap level h
stays_level (Both i f g sign) q h = absurd h
stays_level (Neither i f g sign) q h = absurd h

-- ---- what formulas inherit

-- a property of formulas that their operands have too
pub record IsInherited (Q : Formula → Type 0) : Type 0 where
  pub of_not : (f : Formula) → Q (Not f) → Q f
  pub of_binary : (op : Operator) (f g : Formula) → Q (Binary op f g) → Q f × Q g
  pub of_temporal : (t : Tense) (f : Formula) → Q (Temporal t f) → Q f
  pub of_paired : (p : Pairing) (f g : Formula) → Q (Paired p f g) → Q f × Q g

module _ (Q : Formula → Type 0) where
  -- the formula of a node has the property
  abbrev pub Inherits : Place → Type 0
  Inherits (Root p) = Inherits p
  Inherits Total = Unit {0}
  Inherits HasEdge = Unit {0}
  Inherits LeadsOn = Unit {0}
  Inherits True = Unit {0}
  Inherits (Now i f sign) = Q f
  Inherits (Later i f sign) = Q f
  Inherits (Rest i p f g sign) = Q (Paired p f g)
  Inherits (Both i f g sign) = Q (Binary operator.Iff f g)
  Inherits (Neither i f g sign) = Q (Binary operator.Iff f g)

  is_one : (r q : Place) → Inherits r → q ≡ r → Inherits q
  is_one r q has same = subst Inherits (sym same) has

  of_two : (l r q : Place) (all : Bool) → Inherits l → Inherits r → IsMember q (children (all_of all l r)) → Inherits q
  of_two l r q true x y (inl same) = is_one l q x same
  of_two l r q true x y (inr (inl same)) = is_one r q y same
  of_two l r q true x y (inr (inr none)) = absurd none
  of_two l r q false x y (inl same) = is_one l q x same
  of_two l r q false x y (inr (inl same)) = is_one r q y same
  of_two l r q false x y (inr (inr none)) = absurd none

  of_one : (r q : Place) → Inherits r → IsMember q (r ∷ []) → Inherits q
  of_one r q x (inl same) = is_one r q x same
  of_one r q x (inr none) = absurd none

  module _ (I : IsInherited Q) where
    now_inherits : (i : ℕ) (f : Formula) (sign : Bool) (q : Place) → Q f → IsMember q (children (form_of (Now i f sign))) → Inherits q
    now_inherits i (Const b) sign q x h = absurd h
    now_inherits i (Prop p) sign q x h = absurd h
    now_inherits i (Not f) sign q x h =
        let y = I.of_not f x in of_two (Now (i + 1) f (not sign)) (Now (i + 1) f (not sign)) q true y y h
    now_inherits i (Binary operator.And f g) sign q x h =
        let both = I.of_binary operator.And f g x in
        of_two (Now (i + 1) f sign) (Now (right_at (i + 1) f) g sign) q sign both.0 both.1 h
    now_inherits i (Binary operator.Or f g) sign q x h =
        let both = I.of_binary operator.Or f g x in
        of_two (Now (i + 1) f sign) (Now (right_at (i + 1) f) g sign) q (not sign) both.0 both.1 h
    now_inherits i (Binary operator.Implies f g) sign q x h =
        let both = I.of_binary operator.Implies f g x in
        of_two (Now (i + 1) f (not sign)) (Now (right_at (i + 1) f) g sign) q (not sign) both.0 both.1 h
    now_inherits i (Binary operator.Iff f g) sign q x h = of_two (Both i f g sign) (Neither i f g sign) q false x x h
    now_inherits i (Temporal tense.Next f) sign q x h = of_one (Now (i + 1) f sign) q (I.of_temporal tense.Next f x) h
    now_inherits i (Temporal tense.Finally f) sign q x h =
        of_two (Now (i + 1) f sign) (Later i (Temporal tense.Finally f) sign) q (not sign) (I.of_temporal tense.Finally f x) x h
    now_inherits i (Temporal tense.Globally f) sign q x h =
        of_two (Now (i + 1) f sign) (Later i (Temporal tense.Globally f) sign) q sign (I.of_temporal tense.Globally f x) x h
    now_inherits i (Paired pairing.Until f g) sign q x h =
        of_two (Now (right_at (i + 1) f) g sign) (Rest i pairing.Until f g sign) q (not sign) (I.of_paired pairing.Until f g x).1 x h
    now_inherits i (Paired pairing.Weak f g) sign q x h =
        of_two (Now (right_at (i + 1) f) g sign) (Rest i pairing.Weak f g sign) q (not sign) (I.of_paired pairing.Weak f g x).1 x h
    now_inherits i (Paired pairing.Release f g) sign q x h =
        of_two (Now (right_at (i + 1) f) g sign) (Rest i pairing.Release f g sign) q sign (I.of_paired pairing.Release f g x).1 x h
    now_inherits i (Quantified k f) sign q x h = absurd h

    rest_inherits : (i : ℕ) (p : Pairing) (f g : Formula) (sign : Bool) (q : Place) → Q (Paired p f g)
        → IsMember q (children (form_of (Rest i p f g sign)))
        → Inherits q
    rest_inherits i pairing.Until f g sign q x h =
        of_two (Now (i + 1) f sign) (Later i (Paired pairing.Until f g) sign) q sign (I.of_paired pairing.Until f g x).0 x h
    rest_inherits i pairing.Weak f g sign q x h =
        of_two (Now (i + 1) f sign) (Later i (Paired pairing.Weak f g) sign) q sign (I.of_paired pairing.Weak f g x).0 x h
    rest_inherits i pairing.Release f g sign q x h =
        of_two (Now (i + 1) f sign) (Later i (Paired pairing.Release f g) sign) q (not sign) (I.of_paired pairing.Release f g x).0 x h

    child_inherits : (p q : Place) → Inherits p → IsMember q (children (form_of p)) → Inherits q
    child_inherits (Root start) q x h = of_two start Total q true x tt h
    child_inherits Total q x h = of_two HasEdge LeadsOn q true tt tt h
    child_inherits HasEdge q x h = of_one True q tt h
    child_inherits LeadsOn q x h = of_one Total q tt h
    child_inherits True q x h = absurd h
    child_inherits (Now i f sign) q x h = now_inherits i f sign q x h
    child_inherits (Later i f sign) q x h = of_one (Now i f sign) q x h
    child_inherits (Rest i p f g sign) q x h = rest_inherits i p f g sign q x h
    child_inherits (Both i f g sign) q x h =
        let both = I.of_binary operator.Iff f g x in
        of_two (Now (i + 3) f true) (Now (right_at (i + 3) f) g sign) q true both.0 both.1 h
    child_inherits (Neither i f g sign) q x h =
        let both = I.of_binary operator.Iff f g x in
        of_two (Now (i + 3) f false) (Now (right_at (i + 3) f) g (not sign)) q true both.0 both.1 h

    pub reached_inherits : (root p : Place) → Inherits root → IsReached root p → Inherits p
    reached_inherits root p has at_root = has
    reached_inherits root p has (behind q _ reached child) = child_inherits q p (reached_inherits root q has reached) child

-- ---- formulas of LTL

abbrev pub Linear : Formula → Type 0
Linear f = is_linear f ≡ true

linear_inherited : IsInherited Linear
linear_inherited = record {
  of_not = λ f x. x;
  of_binary = λ op f g x. and_parts (is_linear f) (is_linear g) x;
  of_temporal = λ t f x. x;
  of_paired = λ p f g x. and_parts (is_linear f) (is_linear g) x;
}

abbrev pub IsLinear : Place → Type 0
IsLinear p = Inherits Linear p

pub reached_linear : (root p : Place) → IsLinear root → IsReached root p → IsLinear p
reached_linear root p has reached = reached_inherits Linear linear_inherited root p has reached
