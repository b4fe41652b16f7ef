-- What each logic proves of the graphs of its formulas, said of all: a further logic adds its line to each of these.
--
--   graphs_agree  == the graph of a problem holds where the problem does
--   holds_or_fails == so a problem with a graph holds at a state, or it doesn't
--   meaningful    == a well-formed formula means something
--   graph_is      == the graph of a formula is a graph
--   graph_small   == that of a well-formed problem without a large closure has no more nodes than a closure may have, where
--                    it may have at least 4,005
--   graphs_alike  == two graphs of a problem differ in the numbers of their names alone
--   is_structure  == an admitted structure is a structure
--   admitted_or_not == a structure is admitted, or has a first state that the logic doesn't allow: a deadlock, or a fork
--   never_both    == and never both
--   one_deadlock, one_fork, dead_or_fork == and one such state at most, of one of the two sorts
use Rattle.std.proofs.Common.{ℕ, ◌≡◌, ◌<◌, ◌≤◌, ◌⊎◌, inl, inr, Bool, true, false, not, [], refl, arith}
use Rattle.ml_base.specs.Structure.{Structure, IsStructure, is_member}
use Rattle.ml_blocks.specs.Agreement.{Agrees}
use Rattle.ml_blocks.specs.BlockGraph.{linear_start_of, start_of}
use Rattle.ml_blocks.proofs.Agreement as blocks
use Rattle.ml_blocks.proofs.ClosureGraphs as blocks_graphs
use Rattle.ml_ctl.specs.Paths.{IsTotal}
use Rattle.ml_ctl.specs.Problem as ctl
use Rattle.ml_graph.specs.Graph.{Graph, IsGraph, size}
use Rattle.ml_lists.specs.Search.{IsFirst}
use Rattle.ml_lists.proofs.Decided.{Decided}
use Rattle.ml_lists.proofs.Search.{first_unique}
use Rattle.ml_mu.specs.Meaning as mu_meaning
use Rattle.ml_mu_graph.proofs.Agreement as mu
use Rattle.ml_pdl.specs.Meaning as pdl_meaning
use Rattle.ml_pdl_graph.proofs.Agreement as pdl
use Rattle.ml_word_graph.specs.Problem as word
use Rattle.ml_word_graph.specs.Problem.{IsFork}
use Rattle.ml_word_graph.proofs.Agreement as words
use Rattle.ml_word_graph.proofs.ClosureGraphs as word_graphs
use Rattle.ml_word_graph.proofs.Complement as complement
use Rattle.ml_word_graph.proofs.Sizes as sizes
use Rattle.ml_front.specs.Graphs.{HasLargeClosureAs, IsGraphAs, IsGraphOf}
use Rattle.ml_front.specs.WellFormed.{IsMeaningful, IsWellFormed}
use Rattle.ml_front.specs.Laws.{GraphsAgree, HoldsWhere}
use Rattle.ml_front.specs.Logics.{logic_of}
use Rattle.ml_front.specs.Problems.{HoldsAs, HoldsAt, IsAdmitted, IsDeadlock, IsFirstDeadlock, IsFirstFork}
use Rattle.ml_front.specs.declared.logic.Logic.{Logic}
use Rattle.ml_front.specs.declared.logic.Logic.TheVariants as logic
use Rattle.ml_front.specs.declared.problem.AnyFormula.{AnyFormula}
use Rattle.ml_front.specs.declared.problem.AnyFormula.TheVariants.{Mu, Pdl, Ctl, Ltl, Word}
use Rattle.ml_front.specs.declared.problem.Problem.{Problem}
use Rattle.ml_front.proofs.AlikeGraphs.{AreAlike}
use Rattle.ml_front.proofs.ClosuresAlike as closures_alike
use Rattle.ml_front.proofs.Closures as closure
use Rattle.ml_front.proofs.Deadlocks.{no_deadlock, total_or_deadlock}
use Rattle.ml_front.proofs.Forks.{word_or_fork}
use Rattle.ml_front.proofs.MuAlike as mu_alike
use Rattle.ml_front.proofs.PdlAlike as pdl_alike

agree_as : (f : AnyFormula) (negated : Bool) (g : Graph)
    → IsMeaningful f
    → IsGraphAs g negated f
    → HoldsWhere g (record { formula = f; negated = negated })
agree_as (Mu f) negated g meaningful is = mu.graphs_agree f negated g meaningful.0 meaningful.1 is
agree_as (Pdl f) negated g meaningful is = pdl.graphs_agree f negated g is
agree_as (Ctl f) negated g meaningful is = blocks.graphs_hold f negated g meaningful is
agree_as (Ltl f) negated g meaningful is = blocks.linear_graphs_hold f negated g is
agree_as (Word f) negated g meaningful is = words.graphs_agree f negated g meaningful is

pub graphs_agree : GraphsAgree
graphs_agree p g meaningful is = agree_as p.formula p.negated g meaningful is

same_or_not : (a b : Bool) → Decided (a ≡ b)
same_or_not true true = inl refl
same_or_not false false = inl refl
same_or_not true false = inr (λ e. cc)
same_or_not false true = inr (λ e. cc)

decided_by : (g : Graph) (m : Structure) (s : ℕ) (P : Type 0) → Agrees g m s P → Decided P
decided_by g m s P (inl (holds, won)) = inl holds
decided_by g m s P (inr (fails, lost)) = inr fails

decided_as : (f : AnyFormula) (negated : Bool) (g : Graph) (m : Structure) (s : ℕ)
    → IsMeaningful f
    → IsGraphAs g negated f
    → IsAdmitted (logic_of f) m
    → s < m.states
    → Decided (HoldsAs m s negated f)
decided_as (Mu f) negated g m s meaningful is admitted low = same_or_not (is_member (mu_meaning.meaning m [] f) s) (not negated)
decided_as (Pdl f) negated g m s meaningful is admitted low = same_or_not (is_member (pdl_meaning.meaning m f) s) (not negated)
decided_as (Ctl f) negated g m s meaningful is admitted low =
    decided_by g m s (HoldsAs m s negated (Ctl f)) (blocks.graphs_agree f negated g meaningful is m admitted s low)
decided_as (Ltl f) negated g m s meaningful is admitted low =
    decided_by g m s (HoldsAs m s negated (Ltl f)) (blocks.linear_graphs_agree f negated g is m admitted s low)
decided_as (Word f) negated g m s meaningful is admitted low = complement.holds_or_fails f negated meaningful m admitted s low

pub holds_or_fails : (p : Problem) (g : Graph) (m : Structure) (s : ℕ)
    → IsMeaningful p.formula
    → IsGraphOf g p
    → IsAdmitted (logic_of p.formula) m
    → s < m.states
    → Decided (HoldsAt m s p)
holds_or_fails p g m s meaningful is admitted low = decided_as p.formula p.negated g m s meaningful is admitted low

pub meaningful : (f : AnyFormula) → IsWellFormed f → IsMeaningful f
meaningful (Mu f) well = (well.variables_are_bound, well.variables_are_positive)
meaningful (Pdl f) well = tt
meaningful (Ctl f) well = well.is_of_logic
meaningful (Ltl f) well = tt
meaningful (Word f) well = well.is_of_logic

pub graph_is : (g : Graph) (negated : Bool) (f : AnyFormula) → IsGraphAs g negated f → IsGraph g
graph_is g negated (Mu f) is = is.is_graph
graph_is g negated (Pdl f) is = is.is_graph
graph_is g negated (Ctl f) is = is.is_graph
graph_is g negated (Ltl f) is = is.is_graph
graph_is g negated (Word f) is = is.is_graph

pub graph_small : (n : ℕ) (g : Graph) (negated : Bool) (f : AnyFormula)
    → 4005 ≤ n
    → IsWellFormed f
    → IsGraphAs g negated f
    → ¬ (HasLargeClosureAs n negated f)
    → size g ≤ n
graph_small n g negated (Mu f) room well is closed = omega (arith, room, well.is_small, is.two_for_each)
graph_small n g negated (Pdl f) room well is closed = omega (arith, room, well.is_small, is.two_for_each)
graph_small n g negated (Ctl f) room well is closed = closure.size_at_most (start_of f negated) g n is closed
graph_small n g negated (Ltl f) room well is closed = closure.size_at_most (linear_start_of f negated) g n is closed
graph_small n g negated (Word f) room well is closed = omega (arith, room, well.is_small, sizes.graphs_are_small f negated g is)

alike_as : (g h : Graph) (negated : Bool) (f : AnyFormula)
    → IsGraphAs g negated f
    → IsGraphAs h negated f
    → AreAlike g h
alike_as g h negated (Mu f) x y = mu_alike.alike g h f negated x y
alike_as g h negated (Pdl f) x y = pdl_alike.alike g h f negated x y
alike_as g h negated (Ctl f) x y =
    closures_alike.alike g h (blocks_graphs.one_graph (start_of f negated) g h x y) x.is_graph y.is_graph
alike_as g h negated (Ltl f) x y =
    closures_alike.alike g h (blocks_graphs.one_graph (linear_start_of f negated) g h x y) x.is_graph y.is_graph
alike_as g h negated (Word f) x y =
    closures_alike.alike g h (word_graphs.one_graph f negated g h x y) x.is_graph y.is_graph

pub graphs_alike : (p : Problem) (g h : Graph) → IsGraphOf g p → IsGraphOf h p → AreAlike g h
graphs_alike p g h x y = alike_as g h p.negated p.formula x y

pub is_structure : (l : Logic) (m : Structure) → IsAdmitted l m → IsStructure m
is_structure logic.Mu m is = is
is_structure logic.Pdl m is = is
is_structure logic.Ctl m is = is.is_structure
is_structure logic.Ltl m is = is.is_structure
is_structure logic.Word m is = is.is_structure

total_or_not : (m : Structure) → IsStructure m → ctl.IsAdmitted m ⊎ ((s : ℕ) × IsFirst (IsDeadlock m) m.states s)
total_or_not m is = by_states (total_or_deadlock m)
  where
    by_states : IsTotal m ⊎ ((s : ℕ) × IsFirst (IsDeadlock m) m.states s)
        → ctl.IsAdmitted m ⊎ ((s : ℕ) × IsFirst (IsDeadlock m) m.states s)
    by_states (inl total) = inl (record { is_structure = is; is_total = total })
    by_states (inr dead) = inr dead

-- where the logic doesn't speak of a structure: its first deadlock, or on words its first state without one step
abbrev pub IsFirstUnfit : Logic → Structure → ℕ → Type 0
IsFirstUnfit l m s = IsFirstDeadlock l m s ⊎ IsFirstFork l m s

told_dead : (l : Logic) (m : Structure)
    → ctl.IsAdmitted m ⊎ ((s : ℕ) × IsFirst (IsDeadlock m) m.states s)
    → ((s : ℕ) → IsFirst (IsDeadlock m) m.states s → IsFirstDeadlock l m s)
    → (ctl.IsAdmitted m → IsAdmitted l m)
    → IsAdmitted l m ⊎ ((s : ℕ) × IsFirstUnfit l m s)
told_dead l m (inl total) dead speaks = inl (speaks total)
told_dead l m (inr (s, first)) dead speaks = inr (s, inl (dead s first))

pub admitted_or_not : (l : Logic) (m : Structure) → IsStructure m → IsAdmitted l m ⊎ ((s : ℕ) × IsFirstUnfit l m s)
admitted_or_not logic.Mu m is = inl is
admitted_or_not logic.Pdl m is = inl is
admitted_or_not logic.Ctl m is = told_dead logic.Ctl m (total_or_not m is) (λ s first. first) (λ total. total)
admitted_or_not logic.Ltl m is = told_dead logic.Ltl m (total_or_not m is) (λ s first. first) (λ total. total)
admitted_or_not logic.Word m is = by_states (word_or_fork m is)
  where
    by_states : word.IsAdmitted m ⊎ ((s : ℕ) × IsFirst (IsFork m) m.states s)
        → IsAdmitted logic.Word m ⊎ ((s : ℕ) × IsFirstUnfit logic.Word m s)
    by_states (inl admitted) = inl admitted
    by_states (inr (s, first)) = inr (s, inr first)

total_no_deadlock : (m : Structure) (s : ℕ) → ctl.IsAdmitted m → IsFirst (IsDeadlock m) m.states s → ⊥
total_no_deadlock m s admitted first = no_deadlock m s (admitted.is_total s first.below) first.holds

pub never_both : (l : Logic) (m : Structure) (s : ℕ) → IsAdmitted l m → ¬ (IsFirstUnfit l m s)
never_both logic.Ctl m s is (inl dead) = total_no_deadlock m s is dead
never_both logic.Ltl m s is (inl dead) = total_no_deadlock m s is dead
never_both logic.Word m s is (inr fork) = fork.holds (is.one_step s fork.below)
never_both logic.Mu m s is (inl none) = none
never_both logic.Mu m s is (inr none) = none
never_both logic.Pdl m s is (inl none) = none
never_both logic.Pdl m s is (inr none) = none
never_both logic.Ctl m s is (inr none) = none
never_both logic.Ltl m s is (inr none) = none
never_both logic.Word m s is (inl none) = none

pub one_deadlock : (l : Logic) (m : Structure) (s t : ℕ) → IsFirstDeadlock l m s → IsFirstDeadlock l m t → s ≡ t
one_deadlock logic.Ctl m s t dead other = first_unique (IsDeadlock m) m.states s t dead other
one_deadlock logic.Ltl m s t dead other = first_unique (IsDeadlock m) m.states s t dead other
one_deadlock logic.Mu m s t none other = absurd none
one_deadlock logic.Pdl m s t none other = absurd none
one_deadlock logic.Word m s t none other = absurd none

pub one_fork : (l : Logic) (m : Structure) (s t : ℕ) → IsFirstFork l m s → IsFirstFork l m t → s ≡ t
one_fork logic.Word m s t fork other = first_unique (IsFork m) m.states s t fork other
one_fork logic.Mu m s t none other = absurd none
one_fork logic.Pdl m s t none other = absurd none
one_fork logic.Ctl m s t none other = absurd none
one_fork logic.Ltl m s t none other = absurd none

-- a logic tells deadlocks, or states without one step
pub dead_or_fork : (l : Logic) (m : Structure) (s t : ℕ) → IsFirstDeadlock l m s → ¬ (IsFirstFork l m t)
dead_or_fork logic.Ctl m s t dead none = none
dead_or_fork logic.Ltl m s t dead none = none
dead_or_fork logic.Mu m s t none other = absurd none
dead_or_fork logic.Pdl m s t none other = absurd none
dead_or_fork logic.Word m s t none other = absurd none
