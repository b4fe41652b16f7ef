-- A text is a head or has one first bad line, and never both.
--
--   judges          == each line is judged at each place
--   some_head       == one of the two
--   head_or_fault   == never both
--   one_fault       == a text has one first bad line at most
--   head_rules_rise == the numbers of the rules of a line rise
use Rattle.std.proofs.Common.{◌≡◌, Bool, true, false, [], ◌∷◌, codes, inl, inr, sym, ap, ◌∙◌, ⊎_elim, get_or, arith}
use Rattle.ml_base.specs.declared.doc_fault.DocFault.{DocFault}
use Rattle.ml_base.specs.declared.version.Version.{Version}
use Rattle.ml_base.specs.declared.version.Version.TheVariants.{One, Two}
use Rattle.ml_lines.specs.Lines.{Line}
use Rattle.ml_lines.specs.Reading.{lines_of, word}
use Rattle.ml_lines.proofs.DecidedWords.{decided_line}
use Rattle.ml_lines.proofs.Faults as text
use Rattle.ml_lists.proofs.Ascending.{ascending-one, ascending-cons}
use Rattle.ml_lists.specs.Readings.{IsReadable, Judges}
use Rattle.ml_lists.proofs.Decided.{Decided, decided_bytes, decided_same}
use Rattle.ml_lists.proofs.Documents.{judged}
use Rattle.ml_front.specs.Head.{title_line, answer_line, logic_line, sense_line}
use Rattle.ml_front.specs.HeadRules.{AtTitle, AtAnswer, AtLogic, AtSense, AtFormula, Behind, IsFormulaLine, formula_bytes, rules, head, IsHeadFault}
use Rattle.ml_front.specs.Laws.{SomeHead, HeadOrFault, OneHeadFault, HeadRulesRise}
use Rattle.ml_front.specs.Logics.{some_logic}
use Rattle.ml_front.specs.declared.answer.Answer.{Answer}
use Rattle.ml_front.specs.declared.answer.Answer.TheVariants.{Satisfiable, Unsatisfiable, Undecided}
use Rattle.ml_front.specs.declared.logic.Logic.{Logic}
use Rattle.ml_front.proofs.Logics.{has_formula, logic_read}
use Rattle.ml_front.proofs.ReadableHeads.{head_readable, readable_head}

is_title : (line : Line) → Decided ((v : Version) × (line ≡ title_line v))
is_title line = go (decided_line line (title_line One)) (decided_line line (title_line Two))
  where
    go : Decided (line ≡ title_line One)
        → Decided (line ≡ title_line Two)
        → Decided ((v : Version) × (line ≡ title_line v))
    go (inl is) t = inl (One, is)
    go (inr n) (inl is) = inl (Two, is)
    go (inr n) (inr m) = inr none
      where
        none : (v : Version) × (line ≡ title_line v) → ⊥
        none (One, is) = n is
        none (Two, is) = m is

-- the only logic whose line it can be
abbrev named : Line → Logic
named line = some_logic (word line 1)

is_logic : (line : Line) → Decided ((l : Logic) × (line ≡ logic_line l))
is_logic line =
    decided_same (λ (is : line ≡ logic_line (named line)). (named line, is))
    (λ (l, is). is ∙ ap logic_line (sym (ap named is ∙ logic_read l))) (decided_line line (logic_line (named line)))

is_answer : (line : Line) → Decided ((b : Answer) × (line ≡ answer_line b))
is_answer line =
    go (decided_line line (answer_line Satisfiable)) (decided_line line (answer_line Unsatisfiable)) (decided_line line (answer_line Undecided))
  where
    go : Decided (line ≡ answer_line Satisfiable)
        → Decided (line ≡ answer_line Unsatisfiable)
        → Decided (line ≡ answer_line Undecided)
        → Decided ((b : Answer) × (line ≡ answer_line b))
    go (inl is) s t = inl (Satisfiable, is)
    go (inr n) (inl is) t = inl (Unsatisfiable, is)
    go (inr n) (inr m) (inl is) = inl (Undecided, is)
    go (inr n) (inr m) (inr l) = inr none
      where
        none : (b : Answer) × (line ≡ answer_line b) → ⊥
        none (Satisfiable, is) = n is
        none (Unsatisfiable, is) = m is
        none (Undecided, is) = l is

is_sense : (line : Line) → Decided ((negated : Bool) × (line ≡ sense_line negated))
is_sense line = go (decided_line line (sense_line false)) (decided_line line (sense_line true))
  where
    go : Decided (line ≡ sense_line false)
        → Decided (line ≡ sense_line true)
        → Decided ((negated : Bool) × (line ≡ sense_line negated))
    go (inl is) s = inl (false, is)
    go (inr n) (inl is) = inl (true, is)
    go (inr n) (inr m) = inr none
      where
        none : (negated : Bool) × (line ≡ sense_line negated) → ⊥
        none (false, is) = n is
        none (true, is) = m is

is_formula : (line : Line) → Decided (IsFormulaLine line)
is_formula [] = inr (λ (w, ws, is). cc)
is_formula (x ∷ []) = inr (λ (w, ws, is). cc)
is_formula (x ∷ w ∷ ws) =
    decided_same (λ (is : x ≡ codes "formula"). (w, ws, ap (λ v. v ∷ w ∷ ws) is)) (λ (v, vs, is). ap (λ l. get_or l 0 []) is)
    (decided_bytes x (codes "formula"))

pub judges : (a : Answer) → Judges (head a)
judges a AtTitle line = judged line (rules a AtTitle) (is_title line, λ _. tt)
judges a AtAnswer line = judged line (rules a AtAnswer) (is_answer line, λ _. (decided_line line (answer_line a), λ _. tt))
judges a AtLogic line = judged line (rules a AtLogic) (is_logic line, λ _. tt)
judges a (AtSense l) line = judged line (rules a (AtSense l)) (is_sense line, λ _. tt)
judges a (AtFormula l) line =
    judged line (rules a (AtFormula l)) (is_formula line, λ _. (has_formula l (formula_bytes line), λ _. tt))
judges a Behind line = judged line (rules a Behind) tt

pub some_head : SomeHead
some_head a t =
    ⊎_elim
    (λ (readable : IsReadable (head a) AtTitle (lines_of t)). inl (readable_head a t readable))
    (λ (fault : (f : DocFault) × IsHeadFault a t f). inr fault)
    (text.readable_or_fault (λ left. head a) 1 AtTitle t (judges a))

pub head_or_fault : HeadOrFault
head_or_fault a t v p rest fault h found =
    text.readable_no_fault (λ left. head a) 1 AtTitle t fault (head_readable a t v p rest h) found

pub one_fault : OneHeadFault
one_fault a t e f x y = text.one_fault (λ left. head a) 1 AtTitle t e f x y

pub head_rules_rise : HeadRulesRise
head_rules_rise a AtTitle = ascending-one 1
head_rules_rise a AtAnswer = ascending-cons 1 3 [] (omega arith) (ascending-one 3)
head_rules_rise a AtLogic = ascending-one 1
head_rules_rise a (AtSense l) = ascending-one 1
head_rules_rise a (AtFormula l) = ascending-cons 1 2 [] (omega arith) (ascending-one 2)
head_rules_rise a Behind = tt
