-- What tells states of one class apart: into which classes their edges lead.
--
--   AreEdges m e             == e has of each edge of m the number of its action, and the places of the edges that leave a
--                               state and that enter it
--   StepAt                   == an edge leaves the state and is this step
--   AreSteps ... s steps     == the steps of s, in strictly ascending order
--   IsSignature ... s k      == the signature of s: its class, and its steps
--   AreSignatures ... ss ks  == those of the states ss
--   SameSteps m class s t    == each edge of s is matched by one of t with the same action into the same class
--   AreParts m class ss ns n == of the states ss, two have one number if they have one class and match each other's edges;
--                               each new number is the next, up to n
use Rattle.std.specs.Prelude.{ℕ, ◌≡◌, ◌<◌, ◌≤◌, ◌↔◌, List, Some, length, get_or, slice_get, map, Contains}
use Rattle.std.specs.Ordering.{nat_cmp, ordering_then}
use Rattle.std.specs.Str.{bytes_eq}
use Rattle.std.specs.declared.cmp.Ordering.{Ordering}
use Rattle.std.specs.List.Sorted.{IsStrictlySortedBy}
use Rattle.ml_base.specs.declared.structure.Edge.{Edge}
use Rattle.ml_base.specs.Structure.{Structure}
use Rattle.ml_lists.specs.InTurn.{RunsOn}
use Rattle.ml_bisim.specs.Bisimilar.{HasEdge}
use Rattle.ml_bisim.specs.Quotient.{class_of}
use Rattle.ml_bisim.specs.declared.edges.Edges.{Edges}
use Rattle.ml_bisim.specs.declared.signatures.Signature.{Signature}
use Rattle.ml_bisim.specs.declared.signatures.Step.{Step}
use Rattle.ml_bisim.specs.private.Numbers.{AreNumbers}
use Rattle.ml_bisim.specs.private.Places.{ArePlaces}

pub record AreEdges (m : Structure) (e : Edges) : Type 0 where
  pub actions : (n : ℕ) × AreNumbers bytes_eq (map (λ (f : Edge). f.action) m.edges) e.actions.items n
  pub leaving : ArePlaces (map (λ (f : Edge). f.source) m.edges) m.states e.leaving
  pub entering : ArePlaces (map (λ (f : Edge). f.target) m.edges) m.states e.entering

-- the edge at a place from k on leaves s, and is this step
pub record StepAt (edges : List Edge) (actions class : List ℕ) (k s : ℕ) (step : Step) : Type 0 where
  pub place : ℕ
  pub edge : Edge
  pub stands : slice_get edges place ≡ Some edge
  pub from_here : k ≤ place
  pub leaves : edge.source ≡ s
  pub by_action : step.action ≡ get_or actions place 0
  pub into_class : step.class ≡ class_of class edge.target

-- steps ascend by action, and then by class
abbrev pub step_cmp : Step → Step → Ordering
step_cmp a b = ordering_then (nat_cmp a.action b.action) (nat_cmp a.class b.class)

pub record AreSteps (edges : List Edge) (actions class : List ℕ) (s : ℕ) (steps : List Step) : Type 0 where
  pub ascends : IsStrictlySortedBy step_cmp steps
  pub same : (step : Step) → Contains steps step ↔ StepAt edges actions class 0 s step

pub record IsSignature (edges : List Edge) (actions class : List ℕ) (s : ℕ) (k : Signature) : Type 0 where
  pub in_class : k.class ≡ class_of class s
  pub steps : AreSteps edges actions class s k.steps.items

pub record AreSignatures (edges : List Edge) (actions class states : List ℕ) (ks : List Signature) : Type 0 where
  pub each_state : length ks ≡ length states
  pub signs : (i : ℕ) → i < length states
      → (k : Signature) × (slice_get ks i ≡ Some k) × IsSignature edges actions class (get_or states i 0) k

pub record SameSteps (m : Structure) (class : List ℕ) (s t : ℕ) : Type 0 where
  pub forth : (a : List ℕ) (x : ℕ) → HasEdge m s a x → (y : ℕ) × HasEdge m t a y × (class_of class x ≡ class_of class y)
  pub back : (a : List ℕ) (y : ℕ) → HasEdge m t a y → (x : ℕ) × HasEdge m s a x × (class_of class x ≡ class_of class y)

pub record AreParts (m : Structure) (class states ns : List ℕ) (n : ℕ) : Type 0 where
  pub each_state : length ns ≡ length states
  pub in_turn : RunsOn 0 ns n
  pub same : (i j : ℕ) → i < length states → j < length states
      → (get_or ns i 0 ≡ get_or ns j 0)
      ↔ ((class_of class (get_or states i 0) ≡ class_of class (get_or states j 0)) × SameSteps m class
      (get_or states i 0) (get_or states j 0))
