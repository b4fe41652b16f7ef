-- Answers are read in one way only.
--
--   answer_once  == the answer to a question, asked of some requirements: its line, and its body
--   first_same   == so is the answer that is due
use Rattle.std.proofs.Common.{◌≡◌, ℕ, ◌+◌, ◌⊎◌, Bool, List, [], ◌∷◌, ◌++◌, inl, inr, refl, sym, ap, subst, ◌∙◌}
use Rattle.std.specs.List.{AllByRecursion}
use Rattle.std.proofs.lemmas.List.{append_assoc}
use Rattle.ml_base.specs.declared.doc_fault.DocFault.{DocFault}
use Rattle.ml_lines.specs.Lines.{line_text, Line}
use Rattle.ml_lines.proofs.Unique.{IsPlain}
use Rattle.ml_lists.specs.Documents.{KeepsAll}
use Rattle.ml_lists.proofs.Documents.{one_broken}
use Rattle.ml_spec.specs.Questions.{IsQuestion}
use Rattle.ml_spec.specs.declared.question.Question.{Question}
use Rattle.ml_spec.specs.declared.specification.Item.{Item}
use Rattle.ml_replies.specs.Replies.{Replied, Reply}
use Rattle.ml_answers.specs.Documents.{IsBlock}
use Rattle.ml_answers.specs.Due.{asked_of, Fits, MayStandFirst}
use Rattle.ml_answers.specs.Lines.{line_of}
use Rattle.ml_answers.specs.Rules.{answer_rules, replied, IsAnswerFault, IsBehind, IsLineFault}
use Rattle.ml_answers.specs.Texts.{next_line, IsLine, IsThen}
use Rattle.ml_answers.proofs.Marking.{AreNamed, Differ}
use Rattle.ml_answers.proofs.OneBody.{body_once, BodyFault, BodyText, IsOfLine}
use Rattle.ml_answers.proofs.OnlyOnce.{fault_same, line_next, once_behind_line, Once}
use Rattle.ml_answers.proofs.PlainAnswers.{answer_keeps, answer_plain}

module _ (xs : List Item) (named : AreNamed xs) (differ : Differ xs) (S : ℕ → Bool) (q : Question) (asked : IsQuestion xs q) where
  abbrev pub AnswerText : Reply → List ℕ → Type 0
  AnswerText r t = Fits xs S q r × IsBlock xs (replied q r) t

  -- behind the line ws
  abbrev TextAt : Line → Reply → List ℕ → Type 0
  TextAt ws r t = IsThen (IsLine ws) (BodyText xs S q ws r) t

  abbrev FaultAt : Line → ℕ → List ℕ → DocFault → Type 0
  FaultAt ws k t e = IsLineFault (answer_rules xs S q) k t e ⊎ IsBehind (IsLine ws) (BodyFault xs S q ws) k t e

  once_at : (ws : Line) (r : Reply) → IsOfLine xs S q ws r → Once Reply (TextAt ws) (FaultAt ws)
  once_at ws r of =
      once_behind_line Reply (BodyText xs S q ws) (BodyFault xs S q ws) ws (answer_rules xs S q)
      (subst IsPlain of.is_line (answer_plain xs named S q asked r of.fits))
      (subst (KeepsAll (answer_rules xs S q)) of.is_line (answer_keeps xs named S q asked r of.fits))
      (body_once xs S q ws named differ r of)

  of_its_line : (r : Reply) → Fits xs S q r → IsOfLine xs S q (line_of xs (replied q r)) r
  of_its_line r fits = record { fits = fits; is_line = refl }

  -- the line of an answer is the next one
  line_here : (r : Reply) (f g : List ℕ) → Fits xs S q r → f ≡ line_text (line_of xs (replied q r))
      → next_line (f ++ g) ≡ line_of xs (replied q r)
  line_here r f g fits is = line_next (line_of xs (replied q r)) f g (answer_plain xs named S q asked r fits) is

  text_line : (r : Reply) (f g : List ℕ) → AnswerText r f → next_line (f ++ g) ≡ line_of xs (replied q r)
  text_line r f g x =
      let block = x.1 in
      ap next_line (ap (λ t. t ++ g) block.are_both ∙ append_assoc block.first block.second g)
      ∙ line_here r block.first (block.second ++ g) x.0 block.is_first

  text_at : (ws : Line) (r : Reply) (f g : List ℕ) → next_line (f ++ g) ≡ ws → AnswerText r f → TextAt ws r f
  text_at ws r f g next x =
      let block = x.1 in
      let is : line_of xs (replied q r) ≡ ws = sym (text_line r f g x) ∙ next in
      record {
        first = block.first;
        second = block.second;
        are_both = block.are_both;
        is_first = block.is_first ∙ ap line_text is;
        is_second = (record { fits = x.0; is_line = is }, block.is_second);
      }

  fault_at : (ws : Line) (k : ℕ) (t : List ℕ) (e : DocFault) → next_line t ≡ ws → IsAnswerFault xs S q k t e → FaultAt ws k t e
  fault_at ws k t e next (inl bad) = inl bad
  fault_at ws k t e next (inr (r, fits, b)) =
      let is : line_of xs (replied q r) ≡ ws =
      sym (ap next_line b.are_both ∙ line_here r b.front b.rest fits b.is_front) ∙ next in
      inr (record {
        front = b.front;
        rest = b.rest;
        are_both = b.are_both;
        is_front = b.is_front ∙ ap line_text is;
        is_fault = (r, record { fits = fits; is_line = is }, b.is_fault);
      })

  pub answer_one : (r p : Reply) (f g u v : List ℕ)
      → AnswerText r f
      → AnswerText p g
      → f ++ u ≡ g ++ v
      → (r ≡ p) × (f ≡ g)
  answer_one r p f g u v x y both =
      let ws = line_of xs (replied q r) in
      let here = text_line r f u x in
      (once_at ws r (of_its_line r x.0)).one r p f g u v (text_at ws r f u here x)
      (text_at ws p g v (ap next_line (sym both) ∙ here) y) both

  pub answer_never : (r : Reply) (f u : List ℕ) (k : ℕ) (e : DocFault) → AnswerText r f → IsAnswerFault xs S q k (f ++ u) e → ⊥
  answer_never r f u k e x bad =
      let ws = line_of xs (replied q r) in
      let here = text_line r f u x in
      (once_at ws r (of_its_line r x.0)).never r f u k e (text_at ws r f u here x) (fault_at ws k (f ++ u) e here bad)

  fault_by : (r : Reply) (k : ℕ) (t : List ℕ) (e d : DocFault)
      → Fits xs S q r
      → next_line t ≡ line_of xs (replied q r)
      → IsAnswerFault xs S q k t e
      → IsAnswerFault xs S q k t d
      → e ≡ d
  fault_by r k t e d fits next x y =
      let ws = line_of xs (replied q r) in
      (once_at ws r (of_its_line r fits)).fault k t e d (fault_at ws k t e next x) (fault_at ws k t d next y)

  pub answer_fault : (k : ℕ) (t : List ℕ) (e d : DocFault) → IsAnswerFault xs S q k t e → IsAnswerFault xs S q k t d → e ≡ d
  answer_fault k t e d (inl x) (inl y) =
      fault_same e d (x.0 ∙ sym y.0) (one_broken (next_line t) (answer_rules xs S q) e.rule d.rule x.1 y.1)
  answer_fault k t e d (inr (r, fits, b)) y =
      fault_by r k t e d fits (ap next_line b.are_both ∙ line_here r b.front b.rest fits b.is_front) (inr (r, fits, b)) y
  answer_fault k t e d (inl x) (inr (r, fits, b)) =
      fault_by r k t e d fits (ap next_line b.are_both ∙ line_here r b.front b.rest fits b.is_front) (inl x) (inr (r, fits, b))

  pub answer_once : Once Reply AnswerText (IsAnswerFault xs S q)
  answer_once = record { one = answer_one; never = answer_never; fault = answer_fault }

-- ---- the answer that is due

module _ (xs : List Item) (named : AreNamed xs) (differ : Differ xs) where
  pub block_as : (r : Replied) (q : Question) (t : List ℕ) → r.question ≡ q → IsBlock xs r t → IsBlock xs (replied q r.reply) t
  block_as r q t is block =
      let same : r ≡ replied q r.reply = λ i. record { question = is i; reply = r.reply } in
      subst (λ z. IsBlock xs z t) same block

  pub first_same : (R : ℕ → Bool) (qs : List Question) (r p : Replied) (f g u v : List ℕ)
      → AllByRecursion (IsQuestion xs) qs
      → MayStandFirst xs R qs r
      → MayStandFirst xs R qs p
      → IsBlock xs r f
      → IsBlock xs p g
      → f ++ u ≡ g ++ v
      → (r ≡ p) × (f ≡ g)
  first_same R [] r p f g u v are may also x y both = absurd may
  first_same R (q ∷ qs) r p f g u v are may also x y both =
      let same =
      answer_one xs named differ (asked_of R q) q are.0 r.reply p.reply f g u v
      (may.1, block_as r q f may.0 x) (also.1, block_as p q g also.0 y) both in
      let question : r.question ≡ p.question = may.0 ∙ sym also.0 in
      ((λ i. record { question = question i; reply = same.0 i }), same.1)
