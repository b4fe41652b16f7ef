-- What is found of the paths of a document.
--
-- The document shows a structure with a start, as one that is checked does, for a problem that has a path problem. Then the
-- problem's logic has to speak of the structure; the word automaton of the path problem may be too large; and if it isn't,
-- a path from the start is told that shows the path problem, or that there is none. Where the bytes are no such document, the
-- first bad line is told, with the lowest rule that it breaks: those of a head and of a structure's body, and one more of
-- line 5, with the number 4, that the problem has a path problem.
--
--   asks_no_path         == line 5 breaks rule 4
--   IsUnreadable text f  == f tells the first bad line of the text, and the lowest rule that it breaks
--   Asks text p m s f b  == the text shows the structure m with the start s for the problem p, and the path problem of p is f,
--                           negated where b is true
--   Finds x l m s f b    == x is found of the paths of m from s for this path problem of a problem of the logic l: the first
--                           deadlock or fork, where l doesn't speak of m; that the word automaton is large; a path as it is
--                           written, or that there is none
--   IsFoundIn text x     == x is what is found of the paths of the document that the text is, or its first bad line
--   IsConfirmed x        == if x is a path, whoever checks documents finds that the one behind its lines holds
use Rattle.std.specs.Prelude.{ℕ, ◌≡◌, ◌⊎◌, ◌++◌, Bool, List}
use Rattle.ml_base.specs.Structure.{Structure}
use Rattle.ml_base.specs.declared.doc_fault.DocFault.{DocFault}
use Rattle.ml_ctl.specs.Formula.{Formula}
use Rattle.ml_kripke.specs.BodyRules.{IsFaultOf}
use Rattle.ml_lists.specs.Lasso.{Lasso}
use Rattle.ml_front.specs.Documents.{Shows, first_body_line}
use Rattle.ml_front.specs.HeadRules.{IsHeadFault}
use Rattle.ml_front.specs.Logics.{logic_of}
use Rattle.ml_front.specs.Problems.{IsAdmitted, IsFirstDeadlock, IsFirstFork}
use Rattle.ml_front.specs.declared.answer.Answer.TheVariants.{Satisfiable}
use Rattle.ml_front.specs.declared.logic.Logic.{Logic}
use Rattle.ml_front.specs.declared.problem.Problem.{Problem}
use Rattle.ml_model_check.specs.Checked.{IsCheckedAs, IsDocument}
use Rattle.ml_model_check.specs.declared.checked.Checked.TheVariants.{Holds}
use Rattle.ml_paths.specs.Paths.{IsLarge, IsShown}
use Rattle.ml_path_text.specs.PathProblems.{AsksFor, AsksForNone, AsksForSome}
use Rattle.ml_path_text.specs.WrittenPath.{path_lines, path_text}
use Rattle.ml_path_text.specs.declared.finding.PathFinding.{PathFinding}
use Rattle.ml_path_text.specs.declared.finding.PathFinding.TheVariants.{ClosureTooLarge, NoPath, NotAWord, NotTotal, Path, Unreadable}

-- ---- the first bad line

abbrev pub asks_no_path : DocFault
asks_no_path = record { line = 5; rule = 4 }

-- behind a readable head: line 5 is bad, or the first bad line is one of the body
abbrev pub IsBadBehind : Problem → List ℕ → DocFault → Type 0
IsBadBehind p body fault =
    (AsksForNone p × (fault ≡ asks_no_path)) ⊎ (AsksForSome p × IsFaultOf body first_body_line fault)

abbrev pub IsUnreadable : List ℕ → DocFault → Type 0
IsUnreadable text fault =
    IsHeadFault Satisfiable text fault ⊎ Shows Satisfiable text (λ v p body. IsBadBehind p body fault)

-- ---- what is found

pub record Asks (text : List ℕ) (p : Problem) (m : Structure) (s : ℕ) (f : Formula) (negated : Bool) : Type 0 where
  pub is_document : IsDocument text p m s
  pub asks_for : AsksFor p f negated

abbrev pub Finds : PathFinding → Logic → Structure → ℕ → Formula → Bool → Type 0
Finds (Path text) logic m s f negated =
    IsAdmitted logic m
    × (¬ (IsLarge f negated))
    × ((l : Lasso) × IsShown m s f negated l × (text ≡ path_text m l f negated))
Finds NoPath logic m s f negated =
    IsAdmitted logic m × (¬ (IsLarge f negated)) × ((l : Lasso) → ¬ (IsShown m s f negated l))
Finds ClosureTooLarge logic m s f negated = IsAdmitted logic m × IsLarge f negated
Finds (NotTotal dead) logic m s f negated = IsFirstDeadlock logic m dead
Finds (NotAWord fork) logic m s f negated = IsFirstFork logic m fork
Finds (Unreadable fault) logic m s f negated = ⊥

abbrev pub IsFoundIn : List ℕ → PathFinding → Type 0
IsFoundIn text (Unreadable fault) = IsUnreadable text fault
IsFoundIn text x =
    (p : Problem) × (m : Structure) × (s : ℕ) × (f : Formula) × (negated : Bool)
    × Asks text p m s f negated × Finds x (logic_of p.formula) m s f negated

-- ---- documents confirmed

abbrev pub IsConfirmedText : List ℕ → Type 0
IsConfirmedText text =
    (l : Lasso) × (document : List ℕ) × (text ≡ path_lines l ++ document) × IsCheckedAs document Holds

abbrev pub IsConfirmed : PathFinding → Type 0
IsConfirmed (Path text) = IsConfirmedText text
IsConfirmed _ = Unit {0}
