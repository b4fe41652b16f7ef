-- What is found of a text.
--
--   found_there    == where a line is found, it stands
--   title_there    == so a document begins with its title
--   both_fit       == two parts of a text fit where the text does
--   checked_found  == what comes of the answers that are read is found
--   fault_found    == so is a fault of the document
--   none_found     == that there is no document is found
--   found_from     == what is found of both parts is found of the text
--   refused_from   == so is why nothing is read
use Rattle.std.proofs.Common.{◌≡◌, ℕ, ◌+◌, ◌-◌, ◌<◌, ◌≤◌, Bool, true, false, cond, List, [], ◌∷◌, ◌++◌, None, Some, codes, length, take, drop, refl, sym, ap, subst, ◌∙◌, arith}
use Rattle.std.specs.Str.{bytes_eq}
use Rattle.std.proofs.lemmas.Bool.Decides.{nat_tests}
use Rattle.std.proofs.lemmas.List.{append_assoc, drop-drop, drop_at, length-append, length-drop, length-take}
use Rattle.std.proofs.lemmas.Option.{none-some}
use Rattle.std.proofs.lemmas.Slice.Eq.{bytes_eq-Decides}
use Rattle.ml_base.specs.declared.doc_fault.DocFault.{DocFault}
use Rattle.ml_base.specs.declared.doc_refusal.DocRefusal.TheVariants as refusal
use Rattle.ml_front.specs.declared.logic.Logic.{Logic}
use Rattle.ml_lines.specs.Lines.{line_text}
use Rattle.ml_lines.specs.Reading.{is_line_end}
use Rattle.ml_lines.proofs.Cuts.{slice_end}
use Rattle.ml_spec.specs.Places.{column_at, line_at}
use Rattle.ml_spec.specs.Specification.{IsSpecification}
use Rattle.ml_spec.specs.declared.specification.Item.{Item}
use Rattle.ml_replies.specs.Meeting.{everything}
use Rattle.ml_replies.specs.Replies.{Replied}
use Rattle.ml_answers.specs.Checked.{finding_of, longest_specification, placed, IsCheckedAs, IsFound, IsFoundFrom, IsFoundIn, IsReadAs, IsRefusedAs, IsVerdict}
use Rattle.ml_answers.specs.Documents.{title_line}
use Rattle.ml_answers.specs.Rules.{IsAnswersFault}
use Rattle.ml_answers.specs.Texts.{first_line, line_count, line_from, IsLine, IsThen}
use Rattle.ml_answers.specs.declared.finding.AnswersFinding.{AnswersFinding}
use Rattle.ml_answers.specs.declared.finding.AnswersFinding.TheVariants.{NoDocument, OpenAt, Refused, Right, TooLong, Unreadable, WrongAt}
use Rattle.ml_answers.specs.declared.answered.AnswersRefusal.{AnswersRefusal}
use Rattle.ml_answers.specs.declared.answered.AnswersRefusal.TheVariants as answers_refusal
use Rattle.ml_answers.specs.declared.rest.Rest.{Rest}
use Rattle.ml_answers.specs.private.Reads.{IsRefusedIn, TellsFault}

-- ---- the line that is found

pub record IsThere (w text seen : List ℕ) (at k : ℕ) : Type 0 where
  pub is_behind : at ≤ k
  pub rest : List ℕ
  pub is_line : drop (k - at) (seen ++ text) ≡ w ++ 10 ∷ rest

found_there : (w text : List ℕ) (at : ℕ) (seen : List ℕ) (k : ℕ)
    → line_from w at seen text ≡ Some k
    → IsThere w text seen at k
found_there w [] at seen k e = absurd (none-some k e)
found_there w (b ∷ bs) at seen k e = go (is_line_end b) refl (bytes_eq seen w) refl (found_there w bs) e
  where
    go : (t : Bool)
        → is_line_end b ≡ t
        → (u : Bool)
        → bytes_eq seen w ≡ u
        → ((at : ℕ) (seen : List ℕ) (k : ℕ) → line_from w at seen bs ≡ Some k → IsThere w bs seen at k)
        → cond t (cond u (Some at) (line_from w (at + length seen + 1) [] bs)) (line_from w at (seen ++ b ∷ []) bs)
        ≡ Some k
        → IsThere w (b ∷ bs) seen at k
    go true lf true same rest e =
        let here : at ≡ k = cc in
        let is_lf : b ≡ 10 = grind (arith, nat_tests) in
        let none : k - at ≡ 0 = omega (arith, here) in
        record {
          is_behind = omega (arith, here);
          rest = bs;
          is_line =
              ap (λ n. drop n (seen ++ b ∷ bs)) none
              ∙ ap (λ c. seen ++ c ∷ bs) is_lf
              ∙ ap (λ v. v ++ 10 ∷ bs) ((bytes_eq-Decides seen w).0 same);
        }
    go true lf false other rest e =
        let later = rest (at + length seen + 1) [] k e in
        let skip : k - at ≡ length seen + 1 + (k - (at + length seen + 1)) = omega (arith, later.is_behind) in
        let front : drop (length seen + 1) (seen ++ b ∷ bs) ≡ bs =
        ap (drop (length seen + 1)) (sym (append_assoc seen (b ∷ []) bs))
        ∙ drop_at (seen ++ b ∷ []) bs (length seen + 1) (length-append seen (b ∷ [])) in
        record {
          is_behind = omega (arith, later.is_behind);
          rest = later.rest;
          is_line =
              ap (λ n. drop n (seen ++ b ∷ bs)) skip
              ∙ sym (drop-drop (k - (at + length seen + 1)) (length seen + 1) (seen ++ b ∷ bs))
              ∙ ap (drop (k - (at + length seen + 1))) front
              ∙ later.is_line;
        }
    go false lf u is rest e =
        let later = rest at (seen ++ b ∷ []) k e in
        record {
          is_behind = later.is_behind;
          rest = later.rest;
          is_line = ap (drop (k - at)) (sym (append_assoc seen (b ∷ []) bs)) ∙ later.is_line;
        }

pub title_there : (text : List ℕ) (at : ℕ)
    → first_line (codes "mlsolver answers 1") text ≡ Some at
    → IsThen (IsLine title_line) (λ t. Unit {0}) (drop at text)
title_there text at e =
    let there = found_there (codes "mlsolver answers 1") text 0 [] at e in
    let same : at ≡ at - 0 = omega arith in
    record {
      first = line_text title_line;
      second = there.rest;
      are_both = ap (λ n. drop n text) same ∙ there.is_line;
      is_first = refl;
      is_second = tt;
    }

pub both_fit : (text : List ℕ) (at n : ℕ)
    → at ≤ length text
    → length text < n
    → length (take at text) + length (take (length text - at) (drop at text)) < n
both_fit text at n within fits =
    omega (
      arith,
      within,
      fits,
      length-take at text,
      ap length (sym (slice_end text at)),
      length-drop at text,
    )

-- ---- what is found

pub checked_found : (text : List ℕ) (l : Logic) (xs : List Item) (rs : List Replied) (ks : List ℕ) (x : AnswersFinding)
    → IsReadAs text l xs rs ks
    → IsVerdict l xs (placed everything rs ks) x
    → IsFound text x
checked_found text l xs rs ks x read verdict =
    subst (λ o. IsFoundFrom o text x) (sym read.begins) (by x (record {
      replies = rs;
      lines = ks;
      are_answers = read.is_read.are_answers;
      is_verdict = verdict;
    }))
  where
    by : (x : AnswersFinding)
        → IsCheckedAs l xs (1 + line_count (take read.at text)) (drop read.at text) x
        → IsFoundIn (take read.at text) (drop read.at text) x
    by Right checked = (read.is_read.is_short, (l, xs, read.is_read.is_specification, checked))
    by (OpenAt k) checked = (read.is_read.is_short, (l, xs, read.is_read.is_specification, checked))
    by (WrongAt k) checked = (read.is_read.is_short, (l, xs, read.is_read.is_specification, checked))
    by TooLong checked = absurd checked.is_verdict
    by (NoDocument k c) checked = absurd checked.is_verdict
    by (Refused k c r) checked = absurd checked.is_verdict
    by (Unreadable f) checked = absurd checked.is_verdict

pub fault_found : (spec : List ℕ) (l : Logic) (xs : List Item) (at : Rest) (fault : DocFault)
    → length spec ≤ longest_specification
    → IsSpecification spec l xs
    → at.line ≡ 1 + line_count spec
    → TellsFault (IsAnswersFault xs) at (refusal.Fault fault)
    → IsFoundIn spec at.text.now (Unreadable fault)
fault_found spec l xs at fault short is line tells =
    (short, (l, xs, is, subst (λ k. IsAnswersFault xs k at.text.now fault) line tells))

pub none_found : (text : List ℕ) (line column : ℕ)
    → first_line (codes "mlsolver answers 1") text ≡ None
    → line ≡ line_at text (length text)
    → column ≡ column_at text (length text)
    → IsFound text (NoDocument line column)
none_found text line column none is_line is_column =
    subst (λ o. IsFoundFrom o text (NoDocument line column)) (sym none) (is_line, is_column)

pub found_from : (text : List ℕ) (at : ℕ) (x : AnswersFinding)
    → first_line (codes "mlsolver answers 1") text ≡ Some at
    → IsFoundIn (take at text) (drop at text) x
    → IsFoundFrom (first_line (codes "mlsolver answers 1") text) text x
found_from text at x e found = subst (λ o. IsFoundFrom o text x) (sym e) found

pub refused_from : (text : List ℕ) (at : ℕ) (e : AnswersRefusal)
    → first_line (codes "mlsolver answers 1") text ≡ Some at
    → IsRefusedIn (take at text) (drop at text) e
    → IsRefusedAs text e
refused_from text at answers_refusal.NoMemory there tells = tt
refused_from text at (answers_refusal.Fault fault) there tells = found_from text at (finding_of fault) there tells
