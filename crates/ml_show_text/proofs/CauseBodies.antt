-- The bodies of undecided documents.
--
--   judges          == each line is judged at each place
--   body_or_fault   == a body is readable or has a first bad line
--   good_line       == a good line and a readable rest are readable
--   bad_behind      == the first bad line behind a good line is the first bad one
--   bad_here, bad_missing == a line that breaks a rule is the first bad one, and one that is missing
--   something_left  == where something is left behind `end`, the line behind it is bad
use Rattle.std.proofs.Common.{◌≡◌, ◌≢◌, ℕ, ◌+◌, ◌⊎◌, List, [], ◌∷◌, ◌++◌, codes, length, inl, inr, refl, sym, ap, subst, ◌∙◌, arith}
use Rattle.ml_base.specs.declared.doc_fault.DocFault.{DocFault}
use Rattle.ml_lines.specs.Faults.{IsFault}
use Rattle.ml_lines.specs.Lines.{Line, text_of}
use Rattle.ml_lines.specs.Reading.{left_of, lines_of, word}
use Rattle.ml_lines.proofs.DecidedWords.{decided_line, decided_number, decided_words}
use Rattle.ml_lines.proofs.Faults as text
use Rattle.ml_lines.proofs.Fronts.{HaveWords, have_words}
use Rattle.ml_lines.proofs.WrittenLines.{text_read}
use Rattle.ml_lists.specs.Documents.{IsFirstBad, IsFirstBroken, IsGood}
use Rattle.ml_lists.specs.Readings.{IsReadable, Judges}
use Rattle.ml_lists.proofs.Decided.{decided_both, decided_bytes, decided_either}
use Rattle.ml_lists.proofs.Documents.{judged}
use Rattle.ml_show_text.specs.UndecidedBodies.{AtCause, AtEnd, AtNothing, IsFaultOf, IsReadableBody, Place, after, body, closure_line, rule_number, rules}
use Rattle.ml_show_text.specs.declared.cause_rule.CauseRule.{CauseRule}
use Rattle.ml_show_text.specs.declared.cause_rule.CauseRule.TheVariants.{OfKind}
use Rattle.ml_show_text.specs.private.CauseLines.{Breaks, IsReadableAt}

pub judges : (left : List ℕ) → Judges (body left)
judges left AtCause line =
    judged line (rules left AtCause) (
      decided_either (decided_line line closure_line)
          (decided_both (decided_words line) (decided_line line (codes "cause" ∷ codes "positions" ∷ word line 2 ∷ []))),
      λ _. (decided_either (decided_line line closure_line) (decided_number (word line 2)), λ _. tt),
    )
judges left AtEnd line = judged line (rules left AtEnd) (decided_line line (codes "end" ∷ []), λ _. tt)
judges left AtNothing line =
    judged line (rules left AtNothing) (decided_both (decided_line line []) (decided_bytes left []), λ _. tt)

pub body_or_fault : (t : List ℕ) (k : ℕ) → IsReadableBody t ⊎ ((fault : DocFault) × IsFaultOf t k fault)
body_or_fault t k = text.readable_or_fault body k AtCause t (judges (left_of t))

module _ (place : Place) (t : List ℕ) where
  module _ (line : Line) (rest : List ℕ) (begins : lines_of t ≡ line ∷ lines_of rest) where
    module _ (left : left_of t ≡ left_of rest) (good : IsGood (body (left_of rest)) place line) where
      pub good_line : IsReadableAt (after place line) rest → IsReadableAt place t
      good_line readable =
          subst (λ ls. IsReadable (body (left_of t)) place ls) (sym begins)
          (subst (λ l. IsReadable (body l) place (line ∷ lines_of rest)) (sym left) (good, readable))

      pub bad_behind : (k : ℕ) (fault : DocFault)
          → IsFault body (k + 1) (after place line) rest fault
          → IsFault body k place t fault
      bad_behind k fault bad =
          subst (λ ls. IsFirstBad (body (left_of t)) k place ls fault.line fault.rule) (sym begins)
          (subst (λ l. IsFirstBad (body l) k place (line ∷ lines_of rest) fault.line fault.rule) (sym left) (inr (good, bad)))

    pub bad_here : (k : ℕ) (r : CauseRule) (fault : DocFault)
        → fault.line ≡ k
        → fault.rule ≡ rule_number r
        → Breaks place line r
        → IsFault body k place t fault
    bad_here k r fault line_is rule_is broken =
        let broken_rule = broken (left_of t) in
        subst (λ ls. IsFirstBad (body (left_of t)) k place ls fault.line fault.rule) (sym begins)
        (inl (line_is, subst (λ n. IsFirstBroken (rules (left_of t) place) line n) (sym rule_is) broken_rule))

  pub bad_missing : (k : ℕ) (r : CauseRule) (fault : DocFault)
      → lines_of t ≡ []
      → fault.line ≡ k
      → fault.rule ≡ rule_number r
      → Breaks place [] r
      → IsFault body k place t fault
  bad_missing k r fault none line_is rule_is broken =
      subst (λ ls. IsFirstBad (body (left_of t)) k place ls fault.line fault.rule) (sym none)
      (line_is, subst (λ n. IsFirstBroken (rules (left_of t) place) [] n) (sym rule_is) (broken (left_of t)))

-- ---- behind `end`

pub something_left : (k : ℕ) (t : List ℕ) (fault : DocFault)
    → t ≢ []
    → fault.line ≡ k
    → fault.rule ≡ rule_number OfKind
    → IsFault body k AtNothing t fault
something_left k t fault some line_is rule_is = go (lines_of t) refl (have_words t)
  where
    go : (lines : List Line) → lines_of t ≡ lines → HaveWords (lines_of t) → IsFault body k AtNothing t fault
    go [] same words =
        let whole : left_of t ≡ t = ap (λ ls. text_of ls ++ left_of t) (sym same) ∙ text_read t in
        subst (λ ls. IsFirstBad (body (left_of t)) k AtNothing ls fault.line fault.rule) (sym same)
        (line_is, inl (rule_is, λ (none, nothing). some (sym whole ∙ nothing)))
    go (l ∷ ls) same words =
        let here = subst HaveWords same words in
        subst (λ ks. IsFirstBad (body (left_of t)) k AtNothing ks fault.line fault.rule) (sym same)
        (inl (line_is, inl (rule_is, λ (none, nothing). absurd (omega (arith, ap length none, here.0)))))
