-- Documents that show a structure, and what checking one finds.
--
-- A document shows a structure for a problem where its head answers `satisfiable` about the problem, and its body is
-- the text of a structure in order with a state to start from; the head may be in either version. Whether the problem
-- holds there is not asked of the document: that is what is checked. Where a document shows none, its first bad line
-- tells why. Where it shows one, the problem's logic may want an edge from each state, or exactly one, and then the first
-- state that hasn't is told; and a problem with a closure that is too large isn't checked.
--
--   IsDocument text p m s   == the text shows the structure m with the start s for the problem p
--   Finds c p m s          == c is found of the state s of the structure m for the problem p: that p holds there, or doesn't,
--                              or that m has a deadlock or a fork, or the closure of p is large
--   IsCheckedAs text c      == c is what checking the text finds: its first bad line, or what is found of the structure and
--                              the start that it shows for a problem
use Rattle.std.specs.Prelude.{ℕ, List}
use Rattle.ml_base.specs.Structure.{Structure}
use Rattle.ml_base.specs.declared.version.Version.{Version}
use Rattle.ml_kripke.specs.BodyRules.{IsFaultOf}
use Rattle.ml_kripke.specs.ModelText.{IsWritten, model_text}
use Rattle.ml_kripke.specs.Ordered.{IsOrdered}
use Rattle.ml_front.specs.Documents.{IsDocumentFault}
use Rattle.ml_front.specs.Graphs.{HasLargeClosure}
use Rattle.ml_front.specs.declared.answer.Answer.TheVariants.{Satisfiable}
use Rattle.ml_front.specs.HeadRules.{IsHead}
use Rattle.ml_front.specs.Logics.{logic_of}
use Rattle.ml_front.specs.Problems.{HoldsAt, IsAdmitted, IsFirstDeadlock, IsFirstFork}
use Rattle.ml_front.specs.declared.problem.Problem.{Problem}
use Rattle.ml_front.specs.declared.problem.TheConstants.{MOST_NODES}
use Rattle.ml_model_check.specs.declared.checked.Checked.{Checked}
use Rattle.ml_model_check.specs.declared.checked.Checked.TheVariants.{Holds, Fails, Unreadable, NotTotal, NotAWord, ClosureTooLarge}

-- in either version
abbrev pub IsDocument : List ℕ → Problem → Structure → ℕ → Type 0
IsDocument text p m start = (v : Version) × IsHead Satisfiable text v p (model_text m start) × IsWritten m start × IsOrdered m

-- the logic of the problem speaks of the structure, or the first state without an edge, or without exactly one, tells where
-- it doesn't
abbrev pub Finds : Checked → Problem → Structure → ℕ → Type 0
Finds Holds p m s = IsAdmitted (logic_of p.formula) m × (¬ (HasLargeClosure p MOST_NODES)) × HoldsAt m s p
Finds Fails p m s = IsAdmitted (logic_of p.formula) m × (¬ (HasLargeClosure p MOST_NODES)) × (¬ (HoldsAt m s p))
Finds (NotTotal dead) p m s = IsFirstDeadlock (logic_of p.formula) m dead
Finds (NotAWord fork) p m s = IsFirstFork (logic_of p.formula) m fork
Finds ClosureTooLarge p m s = IsAdmitted (logic_of p.formula) m × HasLargeClosure p MOST_NODES
Finds (Unreadable fault) p m s = ⊥

abbrev pub IsCheckedAs : List ℕ → Checked → Type 0
IsCheckedAs text (Unreadable fault) = IsDocumentFault Satisfiable (λ v. IsFaultOf) text fault
IsCheckedAs text c = (p : Problem) × (m : Structure) × (s : ℕ) × IsDocument text p m s × Finds c p m s
