-- What checking finds of a structure and a start for a problem.
--
--   one_finding      == one thing is found of them at most
--   some_finding     == and something, where s is a state and the formula means something
--   IsFoundIn text c == c is found of what the text shows
--   found_in, told   == what checking a text finds is what is found of what it shows, or its first bad line
use Rattle.std.proofs.Common.{◌≡◌, ℕ, ◌<◌, ◌⊎◌, List, inl, inr, refl, ap}
use Rattle.ml_base.specs.Structure.{Structure, IsStructure}
use Rattle.ml_base.specs.declared.doc_fault.DocFault.{DocFault}
use Rattle.ml_lists.proofs.Decided.{Decided}
use Rattle.ml_kripke.specs.BodyRules.{IsFaultOf}
use Rattle.ml_graph.specs.Graph.{Graph}
use Rattle.ml_front.specs.Documents.{IsDocumentFault}
use Rattle.ml_front.specs.Graphs.{HasLargeClosure, IsGraphOf}
use Rattle.ml_front.specs.WellFormed.{IsMeaningful}
use Rattle.ml_front.specs.Logics.{logic_of}
use Rattle.ml_front.specs.Problems.{HoldsAt, IsAdmitted}
use Rattle.ml_front.specs.declared.answer.Answer.TheVariants.{Satisfiable}
use Rattle.ml_front.specs.declared.problem.Problem.{Problem}
use Rattle.ml_front.specs.declared.problem.TheConstants.{MOST_NODES}
use Rattle.ml_front.proofs.Graphs.{IsFirstUnfit, admitted_or_not, dead_or_fork, holds_or_fails, never_both, one_deadlock, one_fork}
use Rattle.ml_front.proofs.SomeGraph.{some_graph}
use Rattle.ml_model_check.specs.Checked.{Finds, IsCheckedAs, IsDocument}
use Rattle.ml_model_check.specs.declared.checked.Checked.{Checked}
use Rattle.ml_model_check.specs.declared.checked.Checked.TheVariants.{Holds, Fails, Unreadable, NotTotal, NotAWord, ClosureTooLarge}

abbrev IsClosed : Problem → Type 0
IsClosed p = ¬ (HasLargeClosure p MOST_NODES)

-- the logic of the problem speaks of the structure
abbrev SpeaksOf : Problem → Structure → Type 0
SpeaksOf p m = IsAdmitted (logic_of p.formula) m

module _ (p : Problem) (m : Structure) (s : ℕ) where
  never : (state : ℕ) → SpeaksOf p m → ¬ (IsFirstUnfit (logic_of p.formula) m state)
  never state = never_both (logic_of p.formula) m state

  pub one_finding : (c d : Checked) → Finds c p m s → Finds d p m s → c ≡ d
  one_finding Holds Holds x y = refl
  one_finding Holds Fails x y = absurd (y.2 x.2)
  one_finding Holds (NotTotal dead) x y = absurd (never dead x.0 (inl y))
  one_finding Holds (NotAWord fork) x y = absurd (never fork x.0 (inr y))
  one_finding Holds ClosureTooLarge x y = absurd (x.1 y.1)
  one_finding Fails Holds x y = absurd (x.2 y.2)
  one_finding Fails Fails x y = refl
  one_finding Fails (NotTotal dead) x y = absurd (never dead x.0 (inl y))
  one_finding Fails (NotAWord fork) x y = absurd (never fork x.0 (inr y))
  one_finding Fails ClosureTooLarge x y = absurd (x.1 y.1)
  one_finding (NotTotal dead) Holds x y = absurd (never dead y.0 (inl x))
  one_finding (NotTotal dead) Fails x y = absurd (never dead y.0 (inl x))
  one_finding (NotTotal dead) (NotAWord fork) x y = absurd (dead_or_fork (logic_of p.formula) m dead fork x y)
  one_finding (NotTotal dead) (NotTotal other) x y = ap NotTotal (one_deadlock (logic_of p.formula) m dead other x y)
  one_finding (NotTotal dead) ClosureTooLarge x y = absurd (never dead y.0 (inl x))
  one_finding (NotAWord fork) Holds x y = absurd (never fork y.0 (inr x))
  one_finding (NotAWord fork) Fails x y = absurd (never fork y.0 (inr x))
  one_finding (NotAWord fork) (NotTotal dead) x y = absurd (dead_or_fork (logic_of p.formula) m dead fork y x)
  one_finding (NotAWord fork) (NotAWord other) x y = ap NotAWord (one_fork (logic_of p.formula) m fork other x y)
  one_finding (NotAWord fork) ClosureTooLarge x y = absurd (never fork y.0 (inr x))
  one_finding ClosureTooLarge Holds x y = absurd (y.1 x.1)
  one_finding ClosureTooLarge Fails x y = absurd (y.1 x.1)
  one_finding ClosureTooLarge (NotTotal dead) x y = absurd (never dead x.0 (inl y))
  one_finding ClosureTooLarge (NotAWord fork) x y = absurd (never fork x.0 (inr y))
  one_finding ClosureTooLarge ClosureTooLarge x y = refl
  one_finding (Unreadable fault) d x y = absurd x
  one_finding c (Unreadable fault) x y = absurd y

  by_holding : IsClosed p → SpeaksOf p m → Decided (HoldsAt m s p) → (c : Checked) × Finds c p m s
  by_holding closed speaks (inl holds) = (Holds, (speaks, closed, holds))
  by_holding closed speaks (inr none) = (Fails, (speaks, closed, none))

  pub some_finding : IsMeaningful p.formula → IsStructure m → s < m.states → (c : Checked) × Finds c p m s
  some_finding meaningful is_structure low = by_structure (admitted_or_not (logic_of p.formula) m is_structure)
    where
      by_closure : SpeaksOf p m → ((g : Graph) × IsGraphOf g p × IsClosed p) ⊎ HasLargeClosure p MOST_NODES
          → (c : Checked) × Finds c p m s
      by_closure speaks (inl (g, is_graph, closed)) =
          by_holding closed speaks (holds_or_fails p g m s meaningful is_graph speaks low)
      by_closure speaks (inr large) = (ClosureTooLarge, (speaks, large))

      by_structure : SpeaksOf p m ⊎ ((state : ℕ) × IsFirstUnfit (logic_of p.formula) m state)
          → (c : Checked) × Finds c p m s
      by_structure (inl speaks) = by_closure speaks (some_graph MOST_NODES p.negated p.formula)
      by_structure (inr (dead, inl first)) = (NotTotal dead, first)
      by_structure (inr (fork, inr first)) = (NotAWord fork, first)

-- ---- in a text

-- the text shows a structure and a start for a problem, and c is found of them
abbrev pub IsFoundIn : List ℕ → Checked → Type 0
IsFoundIn text c = (p : Problem) × (m : Structure) × (s : ℕ) × IsDocument text p m s × Finds c p m s

abbrev pub IsFault : List ℕ → DocFault → Type 0
IsFault text fault = IsDocumentFault Satisfiable (λ v. IsFaultOf) text fault

-- c is the first bad line of the text
abbrev pub IsFoundBad : List ℕ → Checked → Type 0
IsFoundBad text c = (fault : DocFault) × (c ≡ Unreadable fault) × IsFault text fault

pub found_in : (text : List ℕ) (c : Checked) → IsCheckedAs text c → IsFoundIn text c ⊎ IsFoundBad text c
found_in text (Unreadable fault) x = inr (fault, refl, x)
found_in text Holds x = inl x
found_in text Fails x = inl x
found_in text (NotTotal dead) x = inl x
found_in text (NotAWord fork) x = inl x
found_in text ClosureTooLarge x = inl x

pub told : (text : List ℕ) (c : Checked) → IsFoundIn text c → IsCheckedAs text c
told text (Unreadable fault) (p, m, s, is, finds) = absurd finds
told text Holds x = x
told text Fails x = x
told text (NotTotal dead) x = x
told text (NotAWord fork) x = x
told text ClosureTooLarge x = x
