-- Documents of answers are read in one way only.
--
--   end_never, end_fault == the last line
--   due_fault        == where something is due there is one fault at most
--   none_due         == and none where nothing is due, and the text is the last line
--   texts_of         == blocks are the texts of answers, one behind the other
--   Ends             == the document ends where this is due, or a fault is found there
--   lead_asked       == what is due behind answers are questions
--   runs_same        == two ways of reading a text, up to such a place, are the same
--   Reading          == a document that is read so
--   readings_same    == so there is one reading of a text
use Rattle.std.proofs.Common.{◌≡◌, ℕ, ◌+◌, ◌⊎◌, Bool, List, [], ◌∷◌, ◌++◌, drop, inl, inr, refl, sym, ap, subst, ◌∙◌}
use Rattle.std.specs.List.{AllByRecursion}
use Rattle.std.proofs.lemmas.List.{append-nil, append_assoc, append_cancel_left}
use Rattle.ml_base.specs.declared.doc_fault.DocFault.{DocFault}
use Rattle.ml_lines.specs.Lines.{line_text}
use Rattle.ml_lines.proofs.Unique.{IsPlain}
use Rattle.ml_spec.specs.Questions.{IsQuestion}
use Rattle.ml_spec.specs.declared.question.Question.{Question}
use Rattle.ml_spec.specs.declared.specification.Item.{Item}
use Rattle.ml_replies.specs.Replies.{Replied}
use Rattle.ml_answers.specs.Checked.{AreTexts}
use Rattle.ml_answers.specs.Documents.{last_line, title_line, AreBlocks, IsBlock}
use Rattle.ml_answers.specs.Due as due
use Rattle.ml_answers.specs.Due.{asked_of, begun, Due, LeadTo, MayStandFirst}
use Rattle.ml_answers.specs.Rules.{fixed_rules, IsDueFault, IsEndFault, IsFirstDueFault, IsLineFault}
use Rattle.ml_answers.specs.Texts.{line_count, one_text}
use Rattle.ml_answers.proofs.Judgable.{begun_are, behind_are, tail_are}
use Rattle.ml_answers.proofs.Marking.{AreNamed, Differ}
use Rattle.ml_answers.proofs.OneBlock.{answer_fault, answer_never, block_as, first_same}
use Rattle.ml_answers.proofs.OnlyOnce.{fault_same, once_line}

-- ---- the last line

last_plain : IsPlain last_line
last_plain = ((refl, tt), (refl, tt))

end_front : (k : ℕ) (f g : List ℕ) (e : DocFault)
    → f ≡ line_text last_line
    → IsLineFault (fixed_rules last_line) k (f ++ g) e
    → ⊥
end_front k f g e is bad = (once_line last_line (fixed_rules last_line) last_plain (refl, tt)).never f f g k e (refl, is) bad

pub end_never : (k : ℕ) (t : List ℕ) (e : DocFault) → t ≡ line_text last_line → IsEndFault k t e → ⊥
end_never k t e is (inl bad) =
    end_front k t [] e is (subst (λ u. IsLineFault (fixed_rules last_line) k u e) (sym (append-nil t)) bad)
end_never k t e is (inr b) =
    b.is_fault.0 (append_cancel_left b.front b.rest []
    (sym b.are_both ∙ is ∙ sym b.is_front ∙ sym (append-nil b.front)))

end_fault : (k : ℕ) (t : List ℕ) (e d : DocFault) → IsEndFault k t e → IsEndFault k t d → e ≡ d
end_fault k t e d (inl x) (inl y) =
    (once_line last_line (fixed_rules last_line) last_plain (refl, tt)).fault k t e d x y
end_fault k t e d (inl x) (inr y) =
    absurd (end_front k y.front y.rest e y.is_front
    (subst (λ u. IsLineFault (fixed_rules last_line) k u e) y.are_both x))
end_fault k t e d (inr x) (inl y) =
    absurd (end_front k x.front x.rest d x.is_front
    (subst (λ u. IsLineFault (fixed_rules last_line) k u d) x.are_both y))
end_fault k t e d (inr x) (inr y) =
    fault_same e d
    (x.is_fault.1 ∙ ap (λ u. k + line_count u) (x.is_front ∙ sym y.is_front) ∙ sym y.is_fault.1)
    (x.is_fault.2 ∙ sym y.is_fault.2)

-- ---- texts of answers

pub texts_of : (xs : List Item) (rs : List Replied) (t : List ℕ)
    → AreBlocks xs rs t
    → (ts : List (List ℕ)) × AreTexts xs rs ts × (t ≡ one_text ts)
texts_of xs [] t is = ([], tt, is)
texts_of xs (r ∷ rs) t is =
    let rest = texts_of xs rs is.second is.is_second in (
      is.first ∷ rest.0,
      (is.is_first, rest.1),
      is.are_both ∙ ap (λ u. is.first ++ u) rest.2,
    )

module _ (xs : List Item) (named : AreNamed xs) (differ : Differ xs) where
  -- ---- what is due

  abbrev AreAsked : List Question → Type 0
  AreAsked qs = AllByRecursion (IsQuestion xs) qs

  first_fault : (R : ℕ → Bool) (qs : List Question) (k : ℕ) (t : List ℕ) (e d : DocFault)
      → AreAsked qs
      → IsFirstDueFault xs R qs k t e
      → IsFirstDueFault xs R qs k t d
      → e ≡ d
  first_fault R [] k t e d are x y = end_fault k t e d x y
  first_fault R (q ∷ qs) k t e d are x y = answer_fault xs named differ (asked_of R q) q are.0 k t e d x y

  pub due_fault : (d : Due) (k : ℕ) (t : List ℕ) (e f : DocFault)
      → AreAsked d.questions
      → IsDueFault xs d k t e
      → IsDueFault xs d k t f
      → e ≡ f
  due_fault d k t e f are x y = first_fault d.rest d.questions k t e f are x y

  pub none_due : (R : ℕ → Bool) (qs : List Question) (k : ℕ) (t : List ℕ) (e : DocFault)
      → qs ≡ []
      → t ≡ line_text last_line
      → IsFirstDueFault xs R qs k t e
      → ⊥
  none_due R [] k t e none is bad = end_never k t e is bad
  none_due R (q ∷ qs) k t e none is bad = absurd cc

  -- no answer stands where a document ends, and none where a fault is found
  abbrev EndsFirst : (ℕ → Bool) → List Question → List ℕ → Type 0
  EndsFirst R qs t =
      ((qs ≡ []) × (t ≡ line_text last_line)) ⊎ ((k : ℕ) × (e : DocFault) × IsFirstDueFault xs R qs k t e)

  abbrev pub Ends : Due → List ℕ → Type 0
  Ends d t = EndsFirst d.rest d.questions t

  none_first : (R : ℕ → Bool) (qs : List Question) (t : List ℕ) (r : Replied) (f g : List ℕ)
      → AreAsked qs
      → EndsFirst R qs t
      → MayStandFirst xs R qs r
      → IsBlock xs r f
      → t ≡ f ++ g
      → ⊥
  none_first R [] t r f g are ends may x is = may
  none_first R (q ∷ qs) t r f g are (inl (none, last)) may x is = absurd cc
  none_first R (q ∷ qs) t r f g are (inr (k, e, bad)) may x is =
      answer_never xs named differ (asked_of R q) q are.0 r.reply f g k e
      (may.1, block_as xs named differ r q f may.0 x)
      (subst (λ u. IsFirstDueFault xs R (q ∷ qs) k u e) is bad)

  -- ---- answers one by one

  pub record Run (d : Due) (rs : List Replied) (ts : List (List ℕ)) (e : Due) (rest : List ℕ) : Type 0 where
    pub lead : LeadTo xs d rs e
    pub are_texts : AreTexts xs rs ts
    pub ends : Ends e rest

  abbrev pub AllSame : List Replied → List Replied → List (List ℕ) → List (List ℕ) → Due → Due → Type 0
  AllSame rs ps ts us e f = (rs ≡ ps) × (ts ≡ us) × (e ≡ f)

  asked_behind : (d : Due) (r : Replied) → AreAsked d.questions → AreAsked (due.behind d r).questions
  asked_behind d r are = behind_are xs r.question r.reply (drop 1 d.questions) (tail_are xs d.questions are)

  pub lead_asked : (d e : Due) (rs : List Replied) → LeadTo xs d rs e → AreAsked d.questions → AreAsked e.questions
  lead_asked d e [] lead are = subst (λ z. AreAsked z.questions) lead are
  lead_asked d e (r ∷ rs) lead are = lead_asked (due.behind d r) e rs lead.1 (asked_behind d r are)

  pub runs_same : (d : Due) (rs ps : List Replied) (ts us : List (List ℕ)) (e f : Due) (u v : List ℕ)
      → AreAsked d.questions
      → Run d rs ts e u
      → Run d ps us f v
      → one_text ts ++ u ≡ one_text us ++ v
      → AllSame rs ps ts us e f
  runs_same d [] ps (t ∷ ts) us e f u v are x y both = absurd x.are_texts
  runs_same d (r ∷ rs) ps [] us e f u v are x y both = absurd x.are_texts
  runs_same d [] [] [] (w ∷ us) e f u v are x y both = absurd y.are_texts
  runs_same d [] (p ∷ ps) [] [] e f u v are x y both = absurd y.are_texts
  runs_same d (r ∷ rs) [] (t ∷ ts) (w ∷ us) e f u v are x y both = absurd y.are_texts
  runs_same d (r ∷ rs) (p ∷ ps) (t ∷ ts) [] e f u v are x y both = absurd y.are_texts
  runs_same d [] [] [] [] e f u v are x y both = (refl, refl, sym x.lead ∙ y.lead)
  runs_same d [] (p ∷ ps) [] (w ∷ us) e f u v are x y both =
      absurd (none_first d.rest d.questions u p w (one_text us ++ v) are (subst (λ z. Ends z u) (sym x.lead) x.ends) y.lead.0
      y.are_texts.0 (both ∙ append_assoc w (one_text us) v))
  runs_same d (r ∷ rs) [] (t ∷ ts) [] e f u v are x y both =
      absurd (none_first d.rest d.questions v r t (one_text ts ++ u) are (subst (λ z. Ends z v) (sym y.lead) y.ends) x.lead.0
      x.are_texts.0 (sym both ∙ append_assoc t (one_text ts) u))
  runs_same d (r ∷ rs) (p ∷ ps) (t ∷ ts) (w ∷ us) e f u v are x y both =
      let whole : t ++ (one_text ts ++ u) ≡ w ++ (one_text us ++ v) =
      sym (append_assoc t (one_text ts) u) ∙ both ∙ append_assoc w (one_text us) v in
      let first =
      first_same xs named differ d.rest d.questions r p t w (one_text ts ++ u) (one_text us ++ v) are x.lead.0 y.lead.0
      x.are_texts.0 y.are_texts.0 whole in
      let behind : one_text ts ++ u ≡ one_text us ++ v =
      append_cancel_left t (one_text ts ++ u) (one_text us ++ v)
      (whole ∙ ap (λ z. z ++ (one_text us ++ v)) (sym first.1)) in
      let later =
      runs_same (due.behind d r) rs ps ts us e f u v (asked_behind d r are)
      (record { lead = x.lead.1; are_texts = x.are_texts.1; ends = x.ends })
      (record {
        lead = subst (λ z. LeadTo xs (due.behind d z) ps f) (sym first.0) y.lead.1;
        are_texts = y.are_texts.1;
        ends = y.ends;
      })
      behind in
      ((λ i. first.0 i ∷ later.0 i), (λ i. first.1 i ∷ later.1 i), later.2)

  -- ---- a document

  pub record Reading (text : List ℕ) (rs : List Replied) (ts : List (List ℕ)) (e : Due) (rest : List ℕ) : Type 0 where
    pub is_text : text ≡ line_text title_line ++ (one_text ts ++ rest)
    pub run : Run (begun xs) rs ts e rest

  pub readings_same : (text : List ℕ) (rs ps : List Replied) (ts us : List (List ℕ)) (e f : Due) (u v : List ℕ)
      → Reading text rs ts e u
      → Reading text ps us f v
      → AllSame rs ps ts us e f × (u ≡ v)
  readings_same text rs ps ts us e f u v x y =
      let both : one_text ts ++ u ≡ one_text us ++ v =
      append_cancel_left (line_text title_line) (one_text ts ++ u) (one_text us ++ v) (sym x.is_text ∙ y.is_text) in
      let same = runs_same (begun xs) rs ps ts us e f u v (begun_are xs) x.run y.run both in (
        same,
        append_cancel_left (one_text ts) u v (both ∙ ap (λ zs. one_text zs ++ v) (sym same.1)),
      )
