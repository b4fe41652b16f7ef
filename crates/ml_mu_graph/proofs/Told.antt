-- Binders told by literals: graphs in which the binders around an occurrence are cut open.
--
-- The agreement of game and meaning is an induction on formulas, with sets given to the free variables. In a graph a
-- given set is a literal: where a binder's two nodes are the two literals of a proposition that is true exactly at the
-- states of the set, a play that comes to the binder ends with the verdict of that set.
--
--   node_of e i           == the node of occurrence i with the sign e: positive where e is true
--   names bs              == the variables of the binders around
--   IsTold g m b S        == the binder at b is cut open in g: its nodes are literals that are true at the states of S
--   AreTold g m bs gs     == each binder around is, with its given set
--   AreOutside i bs       == the binders around have occurrences below i
--   Below f i e n         == the node n is one to which the node of f at i with the sign e leads through operands alone
--   FreeAt f e x c        == x occurs free in f with the sign c, where f has the sign e
use Rattle.std.specs.Prelude.{ℕ, ◌≡◌, ◌+◌, ◌<◌, ◌⊎◌, ⊤, Bool, true, false, not, List, [], ◌∷◌, map}
use Rattle.std.specs.Str.{bytes_eq}
use Rattle.ml_base.specs.Structure.{Structure, StateSet, lists, is_member}
use Rattle.ml_graph.specs.Graph.{Graph, size, node_at, prop_at}
use Rattle.ml_graph.specs.declared.node.Node.TheVariants as node
use Rattle.ml_text.specs.declared.token.Operator.TheVariants as operator
use Rattle.ml_mu.specs.Formula.{Formula, Const, Prop, Var, Not, Binary, Modal, Binder, occurrences}
use Rattle.ml_mu.specs.Meaning.{Given}
use Rattle.ml_nodes.specs.Nodes.{positive, negative}
use Rattle.ml_mu_graph.specs.MuGraph.{Around}

abbrev pub node_of : Bool → ℕ → ℕ
node_of true i = positive i
node_of false i = negative i

abbrev pub names : Around → List (List ℕ)
names bs = map (λ b. b.0) bs

pub record IsTold (g : Graph) (m : Structure) (b : ℕ) (S : StateSet) : Type 0 where
  pub prop : ℕ
  pub inside : negative b < size g
  pub positive_is : node_at g (positive b) ≡ node.Lit prop true
  pub negative_is : node_at g (negative b) ≡ node.Lit prop false
  pub told : (s : ℕ) → s < m.states → lists m s (prop_at g prop) ≡ is_member S s

abbrev pub AreTold : Graph → Structure → Around → Given → Type 0
AreTold g m [] [] = ⊤
AreTold g m [] (s ∷ ss) = ⊥
AreTold g m (b ∷ bs) [] = ⊥
AreTold g m (b ∷ bs) (s ∷ ss) = (b.0 ≡ s.0) × IsTold g m b.1 s.1 × AreTold g m bs ss

abbrev pub AreOutside : ℕ → Around → Type 0
AreOutside i [] = ⊤
AreOutside i (b ∷ bs) = (b.1 < i) × AreOutside i bs

abbrev pub Below : Formula → ℕ → Bool → ℕ → Type 0
Below (Const b) i e n = n ≡ node_of e i
Below (Prop p) i e n = n ≡ node_of e i
Below (Var x) i e n = n ≡ node_of e i
Below (Not f) i e n = (n ≡ node_of e i) ⊎ Below f (i + 1) (not e) n
Below (Binary operator.And f h) i e n =
    (n ≡ node_of e i) ⊎ (Below f (i + 1) e n ⊎ Below h (i + 1 + occurrences f) e n)
Below (Binary operator.Or f h) i e n =
    (n ≡ node_of e i) ⊎ (Below f (i + 1) e n ⊎ Below h (i + 1 + occurrences f) e n)
Below (Binary operator.Implies f h) i e n =
    (n ≡ node_of e i) ⊎ (Below f (i + 1) (not e) n ⊎ Below h (i + 1 + occurrences f) e n)
Below (Binary operator.Iff f h) i e n =
    (n ≡ node_of e i) ⊎ ((n ≡ node_of e (i + 1)) ⊎ ((n ≡ node_of e (i + 2))
    ⊎ ((Below f (i + 3) true n ⊎ Below f (i + 3) false n)
    ⊎ (Below h (i + 3 + occurrences f) true n ⊎ Below h (i + 3 + occurrences f) false n))))
Below (Modal m a f) i e n = (n ≡ node_of e i) ⊎ Below f (i + 1) e n
Below (Binder q x f) i e n = (n ≡ node_of e i) ⊎ Below f (i + 1) e n

abbrev pub FreeAt : Formula → Bool → List ℕ → Bool → Type 0
FreeAt (Const b) e x c = ⊥
FreeAt (Prop p) e x c = ⊥
FreeAt (Var y) e x c = (y ≡ x) × (c ≡ e)
FreeAt (Not f) e x c = FreeAt f (not e) x c
FreeAt (Binary operator.And f h) e x c = FreeAt f e x c ⊎ FreeAt h e x c
FreeAt (Binary operator.Or f h) e x c = FreeAt f e x c ⊎ FreeAt h e x c
FreeAt (Binary operator.Implies f h) e x c = FreeAt f (not e) x c ⊎ FreeAt h e x c
FreeAt (Binary operator.Iff f h) e x c =
    (FreeAt f true x c ⊎ FreeAt f false x c) ⊎ (FreeAt h true x c ⊎ FreeAt h false x c)
FreeAt (Modal m a f) e x c = FreeAt f e x c
FreeAt (Binder q y f) e x c = (bytes_eq y x ≡ false) × FreeAt f e x c
