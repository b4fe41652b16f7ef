-- The modal graph of a formula of PDL.
--
-- Occurrences of formulas and programs are numbered in preorder from 0: an operator before its operands, left before
-- right, a modality before its program and its program before its formula; an iff takes three numbers in a row.
-- Occurrence i has two nodes, 2i and 2i + 1. Of a formula these are for itself and for its negation. Of a program they
-- are for its diamond and for its box, and each of the two has a continuation: the node at which it goes on where a run
-- has ended. So a node is at one place of a run, and what is still to be run is read off the continuations. A star goes
-- on, or runs its program with itself as the continuation; an infinite repetition is the continuation of its own
-- program.
--
-- The node of a star lies on a cycle that is not to be gone round for ever by the player who looks for a run: its
-- diamond has an odd priority, its box an even one. That of an infinite repetition is to be gone round for ever, so the
-- other way round, and below the stars'. Every other node has a priority above these.
--
-- `ml_nodes/specs/Nodes` has the two nodes of an occurrence, and what it means that a node of a graph is one.
--
--   diamond i, box i       == the two nodes of occurrence i where a program stands
--   own m i, dual m i      == the node of occurrence i that goes on for the modality m, and the one that goes on for the
--                             other modality: a square is the negation of a diamond whose operand is negated
--   IsLiteral g n name b   == the node n is the literal of the proposition with this name, positive where b is true
--   StandsAt g i f         == at the occurrence i of g stands the formula f
--   ProgramStandsAt g i d b p == at the occurrence i of g stands the program p, whose diamond goes on at the node d and
--                             whose box at the node b
--   IsGraphOf g f negated  == g is the graph of f, or of its negation
use Rattle.std.specs.Prelude.{ℕ, ◌≡◌, ◌+◌, ◌*◌, Bool, true, false, not, if◌then◌else◌, List}
use Rattle.ml_graph.specs.Graph.{Graph, IsGraph, size, prop_at, action_at}
use Rattle.ml_graph.specs.declared.node.Node.TheVariants as node
use Rattle.ml_text.specs.Operators.{weight}
use Rattle.ml_nodes.specs.Nodes.{positive, negative, constant, IsNode, LeadsTo, Joins}
use Rattle.ml_pdl.specs.Formula.{Formula, Const, Prop, Not, Binary, Modal, Repeat, Program, Act, Seq, Alt, Star, Test, occurrences, program_occurrences}
use Rattle.ml_pdl.specs.declared.term.Modality.{Modality}
use Rattle.ml_pdl.specs.declared.term.Modality.TheVariants.{Diamond, Square}

abbrev pub diamond : ℕ → ℕ
diamond i = 2 * i

abbrev pub box : ℕ → ℕ
box i = 2 * i + 1

abbrev pub own : Modality → ℕ → ℕ
own Diamond i = diamond i
own Square i = box i

abbrev pub dual : Modality → ℕ → ℕ
dual Diamond i = box i
dual Square i = diamond i

-- the priority of nodes that are of no star and of no infinite repetition
abbrev pub plain : ℕ
plain = 4

abbrev pub IsLiteral : Graph → ℕ → List ℕ → Bool → Type 0
IsLiteral g n name is_positive = (p : ℕ) × IsNode g n (node.Lit p is_positive) plain × (prop_at g p ≡ name)

abbrev mutual
  pub StandsAt : Graph → ℕ → Formula → Type 0
  StandsAt g i (Const b) =
      IsNode g (positive i) (constant b) plain × IsNode g (negative i) (constant (not b)) plain
  StandsAt g i (Prop p) = IsLiteral g (positive i) p true × IsLiteral g (negative i) p false
  StandsAt g i (Not f) =
      LeadsTo g (positive i) (negative (i + 1)) plain × LeadsTo g (negative i) (positive (i + 1)) plain
      × StandsAt g (i + 1) f
  StandsAt g i (Binary op f h) =
      let l = i + weight op in let r = l + occurrences f in
      Joins g plain op i l r × StandsAt g l f × StandsAt g r h
  StandsAt g i (Modal m p f) =
      let l = i + 1 in let r = l + program_occurrences p in
      LeadsTo g (positive i) (own m l) plain × LeadsTo g (negative i) (dual m l) plain
      × ProgramStandsAt g l (own m r) (dual m r) p × StandsAt g r f
  StandsAt g i (Repeat p) =
      let l = i + 1 in
      LeadsTo g (positive i) (diamond l) 0 × LeadsTo g (negative i) (box l) 1
      × ProgramStandsAt g l (positive i) (negative i) p

  pub ProgramStandsAt : Graph → ℕ → ℕ → ℕ → Program → Type 0
  ProgramStandsAt g i d b (Act name) =
      (a : ℕ) × IsNode g (diamond i) (node.Diamond a d) plain × IsNode g (box i) (node.Square a b) plain
      × (action_at g a ≡ name)
  ProgramStandsAt g i d b (Seq p q) =
      let l = i + 1 in let r = l + program_occurrences p in
      LeadsTo g (diamond i) (diamond l) plain × LeadsTo g (box i) (box l) plain
      × ProgramStandsAt g l (diamond r) (box r) p × ProgramStandsAt g r d b q
  ProgramStandsAt g i d b (Alt p q) =
      let l = i + 1 in let r = l + program_occurrences p in
      IsNode g (diamond i) (node.Or (diamond l) (diamond r)) plain × IsNode g (box i) (node.And (box l) (box r)) plain
      × ProgramStandsAt g l d b p × ProgramStandsAt g r d b q
  ProgramStandsAt g i d b (Star p) =
      let l = i + 1 in
      IsNode g (diamond i) (node.Or d (diamond l)) 3 × IsNode g (box i) (node.And b (box l)) 2
      × ProgramStandsAt g l (diamond i) (box i) p
  ProgramStandsAt g i d b (Test f) =
      let l = i + 1 in
      IsNode g (diamond i) (node.And (positive l) d) plain × IsNode g (box i) (node.Or (negative l) b) plain
      × StandsAt g l f

pub record IsGraphOf (g : Graph) (f : Formula) (negated : Bool) : Type 0 where
  pub is_graph : IsGraph g
  pub two_for_each : size g ≡ 2 * occurrences f
  pub stands : StandsAt g 0 f
  pub root_is : g.root ≡ (if negated then negative 0 else positive 0)
