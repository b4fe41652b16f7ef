-- What holds of heads and of the graphs of problems by their definitions alone.
--
--   HoldsWhere g p  == on each admitted structure, of any number of states, g holds at the states at which p does
--   GraphsAgree     == the graph of a problem whose formula means something holds where the problem does
--   SomeHead        == a text is a head, or has a first bad line
--   HeadOrFault     == a head has no bad line
--   OneHead         == a text is a head in one version and about one problem at most, with one rest
--   OneHeadFault    == a text has one first bad line at most
--   HeadRulesRise   == the rules of each line rise by their numbers, so the first one that is broken is the lowest
--   HeadsReadBack   == the head of a written document about a well-formed formula is read as it was written
use Rattle.std.specs.Prelude.{ℕ, ◌≡◌, ◌<◌, ◌↔◌, ◌⊎◌, List, ◌++◌}
use Rattle.ml_base.specs.declared.doc_fault.DocFault.{DocFault}
use Rattle.ml_base.specs.declared.version.Version.{Version}
use Rattle.ml_base.specs.Structure.{Structure}
use Rattle.ml_lines.specs.Lines.{text_of}
use Rattle.ml_lists.specs.Readings.{NumbersRise}
use Rattle.ml_graph.specs.CheckingGame.{Holds}
use Rattle.ml_graph.specs.Graph.{Graph}
use Rattle.ml_front.specs.Graphs.{IsGraphOf}
use Rattle.ml_front.specs.Head.{head_lines}
use Rattle.ml_front.specs.HeadRules.{IsHead, IsHeadFault, head}
use Rattle.ml_front.specs.Logics.{logic_of}
use Rattle.ml_front.specs.Problems.{HoldsAt, IsAdmitted}
use Rattle.ml_front.specs.WellFormed.{IsMeaningful, IsWellFormed}
use Rattle.ml_front.specs.declared.answer.Answer.{Answer}
use Rattle.ml_front.specs.declared.problem.Problem.{Problem}

-- ---- graphs

abbrev pub HoldsWhere : Graph → Problem → Type 0
HoldsWhere g p =
    (m : Structure) → IsAdmitted (logic_of p.formula) m → (s : ℕ) → s < m.states → Holds g m s ↔ HoldsAt m s p

abbrev pub GraphsAgree : Type 0
GraphsAgree = (p : Problem) (g : Graph) → IsMeaningful p.formula → IsGraphOf g p → HoldsWhere g p

-- ---- heads

-- a text is a head, or has a first bad line
abbrev pub SomeHead : Type 0
SomeHead = (a : Answer) (text : List ℕ)
    → ((v : Version) × (p : Problem) × (rest : List ℕ) × IsHead a text v p rest) ⊎ ((fault : DocFault) × IsHeadFault a text fault)

-- a head has no bad line
abbrev pub HeadOrFault : Type 0
HeadOrFault = (a : Answer) (text : List ℕ) (v : Version) (p : Problem) (rest : List ℕ) (fault : DocFault)
    → IsHead a text v p rest → IsHeadFault a text fault → ⊥

-- a text is a head in one version and about one problem at most, with one rest
abbrev pub OneHead : Type 0
OneHead = (a : Answer) (text : List ℕ) (v w : Version) (p q : Problem) (rest more : List ℕ)
    → IsHead a text v p rest → IsHead a text w q more → (v ≡ w) × (p ≡ q) × (rest ≡ more)

-- a text has one first bad line at most
abbrev pub OneHeadFault : Type 0
OneHeadFault = (a : Answer) (text : List ℕ) (e f : DocFault) → IsHeadFault a text e → IsHeadFault a text f → e ≡ f

-- the rules of each line rise by their numbers, so the first one that is broken is the lowest
abbrev pub HeadRulesRise : Type 0
HeadRulesRise = (a : Answer) → NumbersRise (head a)

-- the head of a written document about a well-formed formula is read as it was written, in either version
abbrev pub HeadsReadBack : Type 0
HeadsReadBack = (a : Answer) (v : Version) (p : Problem) (rest : List ℕ)
    → IsWellFormed p.formula → IsHead a (text_of (head_lines v a p) ++ rest) v p rest
