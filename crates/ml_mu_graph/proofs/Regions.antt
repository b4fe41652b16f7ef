-- What lies below an occurrence: where its nodes stand, what priorities they have, and where they lead.
--
--   IsChild v t        == the node v refers to the node t
--   free_sign          == a variable that occurs with one sign only is free with that sign
--   top_below          == the occurrence itself is below
--   below_range        == what is below has numbers of the formula's occurrences
--   below_priority     == and priorities of binders that stand deeper, or none's
--   Leaves f bs e t    == t is the node of a binder around, of a variable that occurs free in f with its sign
--   below_moves        == from below one comes to what is below, or to the binder of a free variable
use Rattle.std.proofs.Common.{◌≡◌, ℕ, ◌+◌, ◌*◌, ◌<◌, ◌≤◌, ◌⊎◌, Bool, true, false, ◌&&◌, List, ◌∷◌, length, if◌then◌else◌, not, inl, inr, refl, sym, ap, subst, ◌∙◌, ⊎_elim, arith}
use Rattle.std.specs.Cmp.Lexicographic.{nat_list_eq_equiv}
use Rattle.std.specs.Str.{bytes_eq}
use Rattle.std.proofs.lemmas.Bool.{and_parts, false≢true, true≢false}
use Rattle.std.proofs.lemmas.Slice.Eq.{bytes_eq-Decides}
use Rattle.ml_graph.specs.Graph.{Graph, node_at, priority_at}
use Rattle.ml_graph.specs.declared.node.Node.{Node}
use Rattle.ml_graph.specs.declared.node.Node.TheVariants as node
use Rattle.ml_text.specs.declared.token.Operator.TheVariants as operator
use Rattle.ml_mu.specs.Formula.{Formula, Const, Prop, Var, Not, Binary, Modal, Binder, occurrences}
use Rattle.ml_mu.specs.declared.term.Modality.{Modality}
use Rattle.ml_mu.specs.declared.term.Modality.TheVariants.{Diamond, Square}
use Rattle.ml_mu.specs.declared.term.Fixpoint.{Fixpoint}
use Rattle.ml_mu.specs.declared.term.Fixpoint.TheVariants.{Least, Greatest}
use Rattle.ml_mu.specs.Variables.{is_positive, occurs_only}
use Rattle.ml_nodes.specs.Nodes.{positive, negative, constant}
use Rattle.ml_mu_graph.specs.MuGraph.{binders, Around, binder_of, StandsAt, modality, dual, binder_priority, opposite}
use Rattle.ml_mu_graph.proofs.Told.{node_of, Below, FreeAt}

abbrev pub IsChild : Node → ℕ → Type 0
IsChild node.True t = ⊥
IsChild node.False t = ⊥
IsChild (node.Lit p s) t = ⊥
IsChild (node.And l r) t = (t ≡ l) ⊎ (t ≡ r)
IsChild (node.Or l r) t = (t ≡ l) ⊎ (t ≡ r)
IsChild (node.Diamond a to) t = t ≡ to
IsChild (node.Square a to) t = t ≡ to

-- ---- signs of free variables

turned_twice : (sign e : Bool) → (if not sign then not e else not (not e)) ≡ (if sign then e else not e)
turned_twice true true = refl
turned_twice true false = refl
turned_twice false e = refl

var_sign : (sign e : Bool) (x y : List ℕ) (c : Bool) → (if bytes_eq x y then sign else true) ≡ true → y ≡ x → c ≡ e
    → c ≡ (if sign then e else not e)
var_sign true e x y c only same is = is
var_sign false e x y c only same is =
    let here : bytes_eq x y ≡ true = (bytes_eq-Decides x y).1 (sym same) in
    absurd (false≢true (sym (ap (λ b. if b then false else true) here) ∙ only))

-- a variable that may not occur under an iff isn't free there
iff_left : (f : Formula) (e : Bool) (x : List ℕ) (c : Bool)
    → ((sign d : Bool) (y : List ℕ) (k : Bool) → occurs_only sign y f ≡ true → FreeAt f d y k → k ≡ (if sign then d else not d))
    → (occurs_only true x f && occurs_only false x f) ≡ true → FreeAt f e x c → ⊥
iff_left f e x c inner both h =
    let parts = and_parts (occurs_only true x f) (occurs_only false x f) both in
    differ e (sym (inner true e x c parts.0 h) ∙ inner false e x c parts.1 h)
  where
    differ : (d : Bool) → d ≡ not d → ⊥
    differ true same = true≢false same
    differ false same = true≢false (sym same)

pub free_sign : (f : Formula) (sign e : Bool) (x : List ℕ) (c : Bool) → occurs_only sign x f ≡ true → FreeAt f e x c
    → c ≡ (if sign then e else not e)
free_sign (Const b) sign e x c only h = absurd h
free_sign (Prop p) sign e x c only h = absurd h
free_sign (Var y) sign e x c only h = var_sign sign e x y c only h.0 h.1
free_sign (Not f) sign e x c only h = free_sign f (not sign) (not e) x c only h ∙ turned_twice sign e
free_sign (Binary operator.And f g) sign e x c only (inl h) =
    free_sign f sign e x c (and_parts (occurs_only sign x f) (occurs_only sign x g) only).0 h
free_sign (Binary operator.And f g) sign e x c only (inr h) =
    free_sign g sign e x c (and_parts (occurs_only sign x f) (occurs_only sign x g) only).1 h
free_sign (Binary operator.Or f g) sign e x c only (inl h) = free_sign f sign e x c (and_parts (occurs_only sign x f) (occurs_only sign x g) only).0 h
free_sign (Binary operator.Or f g) sign e x c only (inr h) = free_sign g sign e x c (and_parts (occurs_only sign x f) (occurs_only sign x g) only).1 h
free_sign (Binary operator.Implies f g) sign e x c only (inl h) =
    free_sign f (not sign) (not e) x c (and_parts (occurs_only (not sign) x f) (occurs_only sign x g) only).0 h ∙ turned_twice sign e
free_sign (Binary operator.Implies f g) sign e x c only (inr h) =
    free_sign g sign e x c (and_parts (occurs_only (not sign) x f) (occurs_only sign x g) only).1 h
free_sign (Binary operator.Iff f g) sign e x c only (inl (inl h)) = absurd (iff_left f true x c (free_sign f) (and_parts _ _ only).0 h)
free_sign (Binary operator.Iff f g) sign e x c only (inl (inr h)) = absurd (iff_left f false x c (free_sign f) (and_parts _ _ only).0 h)
free_sign (Binary operator.Iff f g) sign e x c only (inr (inl h)) = absurd (iff_left g true x c (free_sign g) (and_parts _ _ only).1 h)
free_sign (Binary operator.Iff f g) sign e x c only (inr (inr h)) = absurd (iff_left g false x c (free_sign g) (and_parts _ _ only).1 h)
free_sign (Modal m a f) sign e x c only h = free_sign f sign e x c only h
free_sign (Binder q y f) sign e x c only h =
    free_sign f sign e x c (sym (ap (λ b. if b then true else occurs_only sign x f) (nat_list_eq_equiv.symm x y ∙ h.0)) ∙ only) h.1

-- ---- where nodes stand

pub top_below : (f : Formula) (i : ℕ) (e : Bool) → Below f i e (node_of e i)
top_below (Const b) i e = refl
top_below (Prop p) i e = refl
top_below (Var x) i e = refl
top_below (Not f) i e = inl refl
top_below (Binary operator.And f g) i e = inl refl
top_below (Binary operator.Or f g) i e = inl refl
top_below (Binary operator.Implies f g) i e = inl refl
top_below (Binary operator.Iff f g) i e = inl refl
top_below (Modal m a f) i e = inl refl
top_below (Binder q x f) i e = inl refl

node_range : (e : Bool) (i : ℕ) → (positive i ≤ node_of e i) × (node_of e i < 2 * i + 2)
node_range true i = (omega arith, omega arith)
node_range false i = (omega arith, omega arith)

abbrev InRange : ℕ → ℕ → ℕ → Type 0
InRange i j n = (positive i ≤ n) × (n < 2 * j)

at_node : (e : Bool) (i j n : ℕ) → i + 1 ≤ j → n ≡ node_of e i → InRange i j n
at_node e i j n some is = let range = node_range e i in (omega (arith, range.0, is), omega (arith, range.1, is, some))

wider : (i j a b n : ℕ) → a ≤ i → j ≤ b → InRange i j n → InRange a b n
wider i j a b n left right range = (omega (arith, range.0, left), omega (arith, range.1, right))

pub below_range : (f : Formula) (i : ℕ) (e : Bool) (n : ℕ)
    → Below f i e n
    → (positive i ≤ n) × (n < 2 * (i + occurrences f))
below_range (Const b) i e n h = at_node e i (i + 1) n (omega arith) h
below_range (Prop p) i e n h = at_node e i (i + 1) n (omega arith) h
below_range (Var x) i e n h = at_node e i (i + 1) n (omega arith) h
below_range (Not f) i e n (inl h) = at_node e i (i + occurrences (Not f)) n (omega arith) h
below_range (Not f) i e n (inr h) =
    wider (i + 1) (i + 1 + occurrences f) i (i + occurrences (Not f)) n (omega arith) (omega arith)
    (below_range f (i + 1) (not e) n h)
below_range (Binary operator.And f g) i e n (inl h) = at_node e i (i + occurrences (Binary operator.And f g)) n (omega arith) h
below_range (Binary operator.And f g) i e n (inr (inl h)) =
    wider (i + 1) (i + 1 + occurrences f) i (i + occurrences (Binary operator.And f g)) n (omega arith) (omega arith) (below_range f (i + 1) e n h)
below_range (Binary operator.And f g) i e n (inr (inr h)) =
    wider (i + 1 + occurrences f) (i + 1 + occurrences f + occurrences g) i (i + occurrences (Binary operator.And f g))
    n (omega arith) (omega arith) (below_range g (i + 1 + occurrences f) e n h)
below_range (Binary operator.Or f g) i e n (inl h) = at_node e i (i + occurrences (Binary operator.Or f g)) n (omega arith) h
below_range (Binary operator.Or f g) i e n (inr (inl h)) =
    wider (i + 1) (i + 1 + occurrences f) i (i + occurrences (Binary operator.Or f g)) n (omega arith) (omega arith) (below_range f (i + 1) e n h)
below_range (Binary operator.Or f g) i e n (inr (inr h)) =
    wider (i + 1 + occurrences f) (i + 1 + occurrences f + occurrences g) i (i + occurrences (Binary operator.Or f g)) n
    (omega arith) (omega arith) (below_range g (i + 1 + occurrences f) e n h)
below_range (Binary operator.Implies f g) i e n (inl h) = at_node e i (i + occurrences (Binary operator.Implies f g)) n (omega arith) h
below_range (Binary operator.Implies f g) i e n (inr (inl h)) =
    wider (i + 1) (i + 1 + occurrences f) i (i + occurrences (Binary operator.Implies f g)) n (omega arith)
    (omega arith) (below_range f (i + 1) (not e) n h)
below_range (Binary operator.Implies f g) i e n (inr (inr h)) =
    wider (i + 1 + occurrences f) (i + 1 + occurrences f + occurrences g) i
    (i + occurrences (Binary operator.Implies f g)) n (omega arith) (omega arith)
    (below_range g (i + 1 + occurrences f) e n h)
below_range (Binary operator.Iff f g) i e n (inl h) = at_node e i (i + occurrences (Binary operator.Iff f g)) n (omega arith) h
below_range (Binary operator.Iff f g) i e n (inr (inl h)) =
    wider (i + 1) (i + 2) i (i + occurrences (Binary operator.Iff f g)) n (omega arith) (omega arith) (at_node e (i + 1) (i + 2) n (omega arith) h)
below_range (Binary operator.Iff f g) i e n (inr (inr (inl h))) =
    wider (i + 2) (i + 3) i (i + occurrences (Binary operator.Iff f g)) n (omega arith) (omega arith) (at_node e (i + 2) (i + 3) n (omega arith) h)
below_range (Binary operator.Iff f g) i e n (inr (inr (inr (inl (inl h))))) =
    wider (i + 3) (i + 3 + occurrences f) i (i + occurrences (Binary operator.Iff f g)) n (omega arith) (omega arith) (below_range f (i + 3) true n h)
below_range (Binary operator.Iff f g) i e n (inr (inr (inr (inl (inr h))))) =
    wider (i + 3) (i + 3 + occurrences f) i (i + occurrences (Binary operator.Iff f g)) n (omega arith) (omega arith)
    (below_range f (i + 3) false n h)
below_range (Binary operator.Iff f g) i e n (inr (inr (inr (inr (inl h))))) =
    wider (i + 3 + occurrences f) (i + 3 + occurrences f + occurrences g) i (i + occurrences (Binary operator.Iff f g))
    n (omega arith) (omega arith) (below_range g (i + 3 + occurrences f) true n h)
below_range (Binary operator.Iff f g) i e n (inr (inr (inr (inr (inr h))))) =
    wider (i + 3 + occurrences f) (i + 3 + occurrences f + occurrences g) i (i + occurrences (Binary operator.Iff f g))
    n (omega arith) (omega arith) (below_range g (i + 3 + occurrences f) false n h)
below_range (Modal m a f) i e n (inl h) = at_node e i (i + occurrences (Modal m a f)) n (omega arith) h
below_range (Modal m a f) i e n (inr h) =
    wider (i + 1) (i + 1 + occurrences f) i (i + occurrences (Modal m a f)) n (omega arith) (omega arith) (below_range f (i + 1) e n h)
below_range (Binder q x f) i e n (inl h) = at_node e i (i + occurrences (Binder q x f)) n (omega arith) h
below_range (Binder q x f) i e n (inr h) =
    wider (i + 1) (i + 1 + occurrences f) i (i + occurrences (Binder q x f)) n (omega arith) (omega arith) (below_range f (i + 1) e n h)

-- ---- priorities

own_priority : (g : Graph) (low : ℕ) (e : Bool) (i n p q : ℕ)
    → priority_at g (positive i) ≡ p
    → priority_at g (negative i) ≡ q
    → low ≤ p → low ≤ q → n ≡ node_of e i → low ≤ priority_at g n
own_priority g low true i n p q is_p is_q p_high q_high here = omega (arith, ap (priority_at g) here, is_p, p_high)
own_priority g low false i n p q is_p is_q p_high q_high here = omega (arith, ap (priority_at g) here, is_q, q_high)

binder_high : (q : Fixpoint) (d : ℕ) → 2 * d ≤ binder_priority q d
binder_high Least d = omega arith
binder_high Greatest d = omega arith

pub below_priority : (g : Graph) (k : ℕ) (bs : Around) (i : ℕ) (f : Formula) (e : Bool) (n : ℕ) → StandsAt g k bs i f
    → 2 * (length bs + binders f) ≤ k → Below f i e n → 2 * length bs ≤ priority_at g n
below_priority g k bs i (Const b) e n s high h = own_priority g (2 * length bs) e i n k k s.0.1 s.1.1 (omega (arith, high)) (omega (arith, high)) h
below_priority g k bs i (Prop p) e n s high h = own_priority g (2 * length bs) e i n k k s.0.1.1 s.1.1.1 (omega (arith, high)) (omega (arith, high)) h
below_priority g k bs i (Var x) e n s high h = own_priority g (2 * length bs) e i n k k s.0.1 s.1.1 (omega (arith, high)) (omega (arith, high)) h
below_priority g k bs i (Not f) e n s high (inl h) =
    own_priority g (2 * length bs) e i n k k s.0.1 s.1.1 (omega (arith, high)) (omega (arith, high)) h
below_priority g k bs i (Not f) e n s high (inr h) = below_priority g k bs (i + 1) f (not e) n s.2 high h
below_priority g k bs i (Binary operator.And f c) e n s high (inl h) =
    own_priority g (2 * length bs) e i n k k s.0.0.1 s.0.1.1 (omega (arith, high)) (omega (arith, high)) h
below_priority g k bs i (Binary operator.And f c) e n s high (inr (inl h)) = below_priority g k bs (i + 1) f e n s.1 (omega (arith, high)) h
below_priority g k bs i (Binary operator.And f c) e n s high (inr (inr h)) =
    below_priority g k bs (i + 1 + occurrences f) c e n s.2 (omega (arith, high)) h
below_priority g k bs i (Binary operator.Or f c) e n s high (inl h) =
    own_priority g (2 * length bs) e i n k k s.0.0.1 s.0.1.1 (omega (arith, high)) (omega (arith, high)) h
below_priority g k bs i (Binary operator.Or f c) e n s high (inr (inl h)) = below_priority g k bs (i + 1) f e n s.1 (omega (arith, high)) h
below_priority g k bs i (Binary operator.Or f c) e n s high (inr (inr h)) =
    below_priority g k bs (i + 1 + occurrences f) c e n s.2 (omega (arith, high)) h
below_priority g k bs i (Binary operator.Implies f c) e n s high (inl h) =
    own_priority g (2 * length bs) e i n k k s.0.0.1 s.0.1.1 (omega (arith, high)) (omega (arith, high)) h
below_priority g k bs i (Binary operator.Implies f c) e n s high (inr (inl h)) = below_priority g k bs (i + 1) f (not e) n s.1 (omega (arith, high)) h
below_priority g k bs i (Binary operator.Implies f c) e n s high (inr (inr h)) =
    below_priority g k bs (i + 1 + occurrences f) c e n s.2 (omega (arith, high)) h
below_priority g k bs i (Binary operator.Iff f c) e n s high (inl h) =
    own_priority g (2 * length bs) e i n k k s.0.0.1 s.0.1.1 (omega (arith, high)) (omega (arith, high)) h
below_priority g k bs i (Binary operator.Iff f c) e n s high (inr (inl h)) =
    own_priority g (2 * length bs) e (i + 1) n k k s.0.2.1 s.0.3.1 (omega (arith, high)) (omega (arith, high)) h
below_priority g k bs i (Binary operator.Iff f c) e n s high (inr (inr (inl h))) =
    own_priority g (2 * length bs) e (i + 2) n k k s.0.4.1 s.0.5.1 (omega (arith, high)) (omega (arith, high)) h
below_priority g k bs i (Binary operator.Iff f c) e n s high (inr (inr (inr (inl (inl h))))) =
    below_priority g k bs (i + 3) f true n s.1 (omega (arith, high)) h
below_priority g k bs i (Binary operator.Iff f c) e n s high (inr (inr (inr (inl (inr h))))) =
    below_priority g k bs (i + 3) f false n s.1 (omega (arith, high)) h
below_priority g k bs i (Binary operator.Iff f c) e n s high (inr (inr (inr (inr (inl h))))) =
    below_priority g k bs (i + 3 + occurrences f) c true n s.2 (omega (arith, high)) h
below_priority g k bs i (Binary operator.Iff f c) e n s high (inr (inr (inr (inr (inr h))))) =
    below_priority g k bs (i + 3 + occurrences f) c false n s.2 (omega (arith, high)) h
below_priority g k bs i (Modal m a f) e n s high (inl h) =
    own_priority g (2 * length bs) e i n k k s.0.1.1 s.1.1.1 (omega (arith, high)) (omega (arith, high)) h
below_priority g k bs i (Modal m a f) e n s high (inr h) = below_priority g k bs (i + 1) f e n s.2 high h
below_priority g k bs i (Binder q x f) e n s high (inl h) =
    own_priority g (2 * length bs) e i n (binder_priority q (length bs)) (binder_priority (opposite q) (length bs)) s.0.1 s.1.1
    (binder_high q (length bs)) (binder_high (opposite q) (length bs)) h
below_priority g k bs i (Binder q x f) e n s high (inr h) =
    let deeper = below_priority g k ((x, i) ∷ bs) (i + 1) f e n s.2 (omega (arith, high)) h in omega (arith, deeper)

-- ---- moves

abbrev pub Leaves : Formula → Around → Bool → ℕ → Type 0
Leaves f bs e t = (x : List ℕ) × ((c : Bool) × (FreeAt f e x c × (t ≡ node_of c (binder_of bs x))))

abbrev Goes : Formula → Around → ℕ → Bool → ℕ → Type 0
Goes f bs i e t = Below f i e t ⊎ Leaves f bs e t

-- from an operand, in the formula that has it
from_operand : (f h : Formula) (bs : Around) (i j : ℕ) (e d : Bool) (t : ℕ) → (Below h j d t → Below f i e t)
    → ((x : List ℕ) (c : Bool) → FreeAt h d x c → FreeAt f e x c) → Goes h bs j d t → Goes f bs i e t
from_operand f h bs i j e d t below free (inl inside) = inl (below inside)
from_operand f h bs i j e d t below free (inr out) = inr (out.0, (out.1.0, (free out.0 out.1.0 out.1.1.0, out.1.1.1)))

-- where the node of an occurrence leads, by its sign
own_child : (g : Graph) (e : Bool) (i n t : ℕ) (P : ℕ → Type 0) → n ≡ node_of e i → (v u : Node)
    → node_at g (positive i) ≡ v → node_at g (negative i) ≡ u
    → (e ≡ true → IsChild v t → P t) → (e ≡ false → IsChild u t → P t) → IsChild (node_at g n) t → P t
own_child g true i n t P here v u is_v is_u on_v on_u child = on_v refl (subst (λ y. IsChild y t) (ap (node_at g) here ∙ is_v) child)
own_child g false i n t P here v u is_v is_u on_v on_u child = on_u refl (subst (λ y. IsChild y t) (ap (node_at g) here ∙ is_u) child)

either_child : (t l r : ℕ) (P : Type 0) → (t ≡ l → P) → (t ≡ r → P) → (t ≡ l) ⊎ (t ≡ r) → P
either_child t l r P on_l on_r child = ⊎_elim on_l on_r child

-- the node of an operand with a sign
below_at : (f : Formula) (j : ℕ) (e d : Bool) (t : ℕ) → t ≡ node_of d j → d ≡ e → Below f j e t
below_at f j e d t here same = subst (Below f j e) (sym (here ∙ ap (λ b. node_of b j) same)) (top_below f j e)

no_child : (b : Bool) (t : ℕ) → IsChild (constant b) t → ⊥
no_child true t child = child
no_child false t child = child

modal_child : (m : Modality) (a to t : ℕ) → IsChild (modality m a to) t → t ≡ to
modal_child Diamond a to t child = child
modal_child Square a to t child = child

flip : (e d : Bool) → e ≡ d → not d ≡ not e
flip e d same = ap not (sym same)

pub below_moves : (g : Graph) (k : ℕ) (bs : Around) (f : Formula) (i : ℕ) (e : Bool) (n t : ℕ) → StandsAt g k bs i f
    → is_positive f ≡ true → Below f i e n → IsChild (node_at g n) t
    → Below f i e t ⊎ ((x : List ℕ) × ((c : Bool) × (FreeAt f e x c × (t ≡ node_of c (binder_of bs x)))))
below_moves g k bs (Const b) i e n t s pos h child =
    own_child g e i n t (Goes (Const b) bs i e) h (constant b) (constant (not b)) s.0.0 s.1.0
    (λ same c. absurd (no_child b t c)) (λ same c. absurd (no_child (not b) t c)) child
below_moves g k bs (Prop p) i e n t s pos h child =
    own_child g e i n t (Goes (Prop p) bs i e) h (node.Lit s.0.0 true) (node.Lit s.1.0 false) s.0.1.0 s.1.1.0
    (λ same c. absurd c) (λ same c. absurd c) child
below_moves g k bs (Var x) i e n t s pos h child =
    own_child g e i n t (Goes (Var x) bs i e) h (node.And (positive (binder_of bs x)) (positive (binder_of bs x)))
    (node.And (negative (binder_of bs x)) (negative (binder_of bs x))) s.0.0 s.1.0
    (λ same c. inr (x, (true, ((refl, sym same), either_child t _ _ _ (λ z. z) (λ z. z) c))))
    (λ same c. inr (x, (false, ((refl, sym same), either_child t _ _ _ (λ z. z) (λ z. z) c)))) child
below_moves g k bs (Not f) i e n t s pos (inl h) child =
    own_child g e i n t (Goes (Not f) bs i e) h (node.And (negative (i + 1)) (negative (i + 1)))
    (node.And (positive (i + 1)) (positive (i + 1))) s.0.0 s.1.0
    (λ same c. inl (inr (below_at f (i + 1) (not e) false t (either_child t _ _ _ (λ z. z) (λ z. z) c) (flip e true same))))
    (λ same c. inl (inr (below_at f (i + 1) (not e) true t (either_child t _ _ _ (λ z. z) (λ z. z) c) (flip e false same)))) child
below_moves g k bs (Not f) i e n t s pos (inr h) child =
    from_operand (Not f) f bs i (i + 1) e (not e) t (λ b. inr b) (λ x c free. free) (below_moves g k bs f (i + 1) (not e) n t s.2 pos h child)
below_moves g k bs (Binary operator.And f c) i e n t s pos (inl h) child =
    own_child g e i n t (Goes (Binary operator.And f c) bs i e) h _ _ s.0.0.0 s.0.1.0
    (λ same d. inl
    (either_child t _ _ _ (λ z. inr (inl (below_at f (i + 1) e true t z (sym same))))
    (λ z. inr (inr (below_at c (i + 1 + occurrences f) e true t z (sym same)))) d))
    (λ same d. inl
    (either_child t _ _ _ (λ z. inr (inl (below_at f (i + 1) e false t z (sym same))))
    (λ z. inr (inr (below_at c (i + 1 + occurrences f) e false t z (sym same)))) d))
    child
below_moves g k bs (Binary operator.And f c) i e n t s pos (inr (inl h)) child =
    from_operand (Binary operator.And f c) f bs i (i + 1) e e t (λ b. inr (inl b)) (λ x d free. inl free)
    (below_moves g k bs f (i + 1) e n t s.1 (and_parts (is_positive f) (is_positive c) pos).0 h child)
below_moves g k bs (Binary operator.And f c) i e n t s pos (inr (inr h)) child =
    from_operand (Binary operator.And f c) c bs i (i + 1 + occurrences f) e e t (λ b. inr (inr b)) (λ x d free. inr free)
    (below_moves g k bs c (i + 1 + occurrences f) e n t s.2 (and_parts (is_positive f) (is_positive c) pos).1 h child)
below_moves g k bs (Binary operator.Or f c) i e n t s pos (inl h) child =
    own_child g e i n t (Goes (Binary operator.Or f c) bs i e) h _ _ s.0.0.0 s.0.1.0
    (λ same d. inl
    (either_child t _ _ _ (λ z. inr (inl (below_at f (i + 1) e true t z (sym same))))
    (λ z. inr (inr (below_at c (i + 1 + occurrences f) e true t z (sym same)))) d))
    (λ same d. inl
    (either_child t _ _ _ (λ z. inr (inl (below_at f (i + 1) e false t z (sym same))))
    (λ z. inr (inr (below_at c (i + 1 + occurrences f) e false t z (sym same)))) d))
    child
below_moves g k bs (Binary operator.Or f c) i e n t s pos (inr (inl h)) child =
    from_operand (Binary operator.Or f c) f bs i (i + 1) e e t (λ b. inr (inl b)) (λ x d free. inl free)
    (below_moves g k bs f (i + 1) e n t s.1 (and_parts (is_positive f) (is_positive c) pos).0 h child)
below_moves g k bs (Binary operator.Or f c) i e n t s pos (inr (inr h)) child =
    from_operand (Binary operator.Or f c) c bs i (i + 1 + occurrences f) e e t (λ b. inr (inr b)) (λ x d free. inr free)
    (below_moves g k bs c (i + 1 + occurrences f) e n t s.2 (and_parts (is_positive f) (is_positive c) pos).1 h child)
below_moves g k bs (Binary operator.Implies f c) i e n t s pos (inl h) child =
    own_child g e i n t (Goes (Binary operator.Implies f c) bs i e) h _ _ s.0.0.0 s.0.1.0
    (λ same d. inl
    (either_child t _ _ _ (λ z. inr (inl (below_at f (i + 1) (not e) false t z (flip e true same))))
    (λ z. inr (inr (below_at c (i + 1 + occurrences f) e true t z (sym same)))) d))
    (λ same d. inl
    (either_child t _ _ _ (λ z. inr (inl (below_at f (i + 1) (not e) true t z (flip e false same))))
    (λ z. inr (inr (below_at c (i + 1 + occurrences f) e false t z (sym same)))) d))
    child
below_moves g k bs (Binary operator.Implies f c) i e n t s pos (inr (inl h)) child =
    from_operand (Binary operator.Implies f c) f bs i (i + 1) e (not e) t (λ b. inr (inl b)) (λ x d free. inl free)
    (below_moves g k bs f (i + 1) (not e) n t s.1 (and_parts (is_positive f) (is_positive c) pos).0 h child)
below_moves g k bs (Binary operator.Implies f c) i e n t s pos (inr (inr h)) child =
    from_operand (Binary operator.Implies f c) c bs i (i + 1 + occurrences f) e e t (λ b. inr (inr b)) (λ x d free. inr free)
    (below_moves g k bs c (i + 1 + occurrences f) e n t s.2 (and_parts (is_positive f) (is_positive c) pos).1 h child)
below_moves g k bs (Binary operator.Iff f c) i e n t s pos (inl h) child =
    own_child g e i n t (Goes (Binary operator.Iff f c) bs i e) h _ _ s.0.0.0 s.0.1.0
    (λ same d. inl
    (either_child t _ _ _ (λ z. inr (inl (z ∙ ap (λ b. node_of b (i + 1)) (sym same))))
    (λ z. inr (inr (inl (z ∙ ap (λ b. node_of b (i + 2)) (sym same))))) d))
    (λ same d. inl
    (either_child t _ _ _ (λ z. inr (inl (z ∙ ap (λ b. node_of b (i + 1)) (sym same))))
    (λ z. inr (inr (inl (z ∙ ap (λ b. node_of b (i + 2)) (sym same))))) d))
    child
below_moves g k bs (Binary operator.Iff f c) i e n t s pos (inr (inl h)) child =
    own_child g e (i + 1) n t (Goes (Binary operator.Iff f c) bs i e) h _ _ s.0.2.0 s.0.3.0
    (λ same d. inl
    (either_child t _ _ _ (λ z. inr (inr (inr (inl (inl (below_at f (i + 3) true true t z refl))))))
    (λ z. inr (inr (inr (inr (inl (below_at c (i + 3 + occurrences f) true true t z refl)))))) d))
    (λ same d. inl
    (either_child t _ _ _ (λ z. inr (inr (inr (inl (inl (below_at f (i + 3) true true t z refl))))))
    (λ z. inr (inr (inr (inr (inr (below_at c (i + 3 + occurrences f) false false t z refl)))))) d))
    child
below_moves g k bs (Binary operator.Iff f c) i e n t s pos (inr (inr (inl h))) child =
    own_child g e (i + 2) n t (Goes (Binary operator.Iff f c) bs i e) h _ _ s.0.4.0 s.0.5.0
    (λ same d. inl
    (either_child t _ _ _ (λ z. inr (inr (inr (inl (inr (below_at f (i + 3) false false t z refl))))))
    (λ z. inr (inr (inr (inr (inr (below_at c (i + 3 + occurrences f) false false t z refl)))))) d))
    (λ same d. inl
    (either_child t _ _ _ (λ z. inr (inr (inr (inl (inr (below_at f (i + 3) false false t z refl))))))
    (λ z. inr (inr (inr (inr (inl (below_at c (i + 3 + occurrences f) true true t z refl)))))) d))
    child
below_moves g k bs (Binary operator.Iff f c) i e n t s pos (inr (inr (inr (inl (inl h))))) child =
    from_operand (Binary operator.Iff f c) f bs i (i + 3) e true t (λ b. inr (inr (inr (inl (inl b))))) (λ x d free. inl (inl free))
    (below_moves g k bs f (i + 3) true n t s.1 (and_parts (is_positive f) (is_positive c) pos).0 h child)
below_moves g k bs (Binary operator.Iff f c) i e n t s pos (inr (inr (inr (inl (inr h))))) child =
    from_operand (Binary operator.Iff f c) f bs i (i + 3) e false t (λ b. inr (inr (inr (inl (inr b))))) (λ x d free. inl (inr free))
    (below_moves g k bs f (i + 3) false n t s.1 (and_parts (is_positive f) (is_positive c) pos).0 h child)
below_moves g k bs (Binary operator.Iff f c) i e n t s pos (inr (inr (inr (inr (inl h))))) child =
    from_operand (Binary operator.Iff f c) c bs i (i + 3 + occurrences f) e true t (λ b. inr (inr (inr (inr (inl b))))) (λ x d free. inr (inl free))
    (below_moves g k bs c (i + 3 + occurrences f) true n t s.2 (and_parts (is_positive f) (is_positive c) pos).1 h child)
below_moves g k bs (Binary operator.Iff f c) i e n t s pos (inr (inr (inr (inr (inr h))))) child =
    from_operand (Binary operator.Iff f c) c bs i (i + 3 + occurrences f) e false t (λ b. inr (inr (inr (inr (inr b))))) (λ x d free. inr (inr free))
    (below_moves g k bs c (i + 3 + occurrences f) false n t s.2 (and_parts (is_positive f) (is_positive c) pos).1 h child)
below_moves g k bs (Modal m a f) i e n t s pos (inl h) child =
    own_child g e i n t (Goes (Modal m a f) bs i e) h (modality m s.0.0 (positive (i + 1)))
    (modality (dual m) s.1.0 (negative (i + 1))) s.0.1.0 s.1.1.0
    (λ same c. inl (inr (below_at f (i + 1) e true t (modal_child m s.0.0 (positive (i + 1)) t c) (sym same))))
    (λ same c. inl (inr (below_at f (i + 1) e false t (modal_child (dual m) s.1.0 (negative (i + 1)) t c) (sym same)))) child
below_moves g k bs (Modal m a f) i e n t s pos (inr h) child =
    from_operand (Modal m a f) f bs i (i + 1) e e t (λ b. inr b) (λ x c free. free) (below_moves g k bs f (i + 1) e n t s.2 pos h child)
below_moves g k bs (Binder q x f) i e n t s pos (inl h) child =
    own_child g e i n t (Goes (Binder q x f) bs i e) h _ _ s.0.0 s.1.0
    (λ same c. inl (inr (below_at f (i + 1) e true t (either_child t _ _ _ (λ z. z) (λ z. z) c) (sym same))))
    (λ same c. inl (inr (below_at f (i + 1) e false t (either_child t _ _ _ (λ z. z) (λ z. z) c) (sym same)))) child
below_moves g k bs (Binder q x f) i e n t s pos (inr h) child =
    leave (below_moves g k ((x, i) ∷ bs) f (i + 1) e n t s.2 (and_parts (occurs_only true x f) (is_positive f) pos).1 h child)
  where
    by_name : (y : List ℕ) (c : Bool)
        → FreeAt f e y c
        → t ≡ node_of c (if bytes_eq x y then i else binder_of bs y)
        → (b : Bool)
        → bytes_eq x y ≡ b
        → Goes (Binder q x f) bs i e t
    by_name y c free is true same =
        let names = (bytes_eq-Decides x y).0 same in
        let sign : c ≡ e =
        free_sign f true e x c (and_parts (occurs_only true x f) (is_positive f) pos).0
        (subst (λ z. FreeAt f e z c) (sym names) free)
        in
        inl (inl (is ∙ ap (λ b. node_of c (if b then i else binder_of bs y)) same ∙ ap (λ d. node_of d i) sign))
    by_name y c free is false same = inr (y, (c, ((same, free), is ∙ ap (λ b. node_of c (if b then i else binder_of bs y)) same)))

    leave : Goes f ((x, i) ∷ bs) (i + 1) e t → Goes (Binder q x f) bs i e t
    leave (inl inside) = inl (inr inside)
    leave (inr out) = by_name out.0 out.1.0 out.1.1.0 out.1.1.1 (bytes_eq x out.0) refl
