-- A text in which a document of answers begins is read, or why it isn't is found, and never both.
--
--   some_reading  == so it is
--   read_no_fault == never both
--   one_fault     == one such fault is found at most
use Rattle.std.proofs.Common.{◌≡◌, ◌⊎◌, ℕ, Bool, true, false, List, Option, None, Some, codes, take, drop, inl, inr, refl, sym, ap, subst, ◌∙◌}
use Rattle.ml_front.specs.declared.logic.Logic.{Logic}
use Rattle.ml_replies.specs.Meeting.{everything}
use Rattle.ml_replies.specs.Replies.{Replied}
use Rattle.ml_spec.specs.declared.specification.Item.{Item}
use Rattle.ml_answers.specs.Checked.{begins, finding_of, has_answers, placed, IsFound, IsFoundFrom, IsReadAs, IsVerdict}
use Rattle.ml_answers.specs.Laws.{FaultOrRead, OneReadFault, ReadNoFault}
use Rattle.ml_answers.specs.Texts.{first_line}
use Rattle.ml_answers.specs.declared.finding.AnswersFault.{AnswersFault}
use Rattle.ml_answers.specs.declared.finding.AnswersFault.TheVariants as fault
use Rattle.ml_answers.specs.declared.finding.AnswersFinding.{AnswersFinding}
use Rattle.ml_answers.specs.declared.finding.AnswersFinding.TheVariants.{NoDocument, OpenAt, Refused, Right, TooLong, Unreadable, WrongAt}
use Rattle.ml_answers.proofs.Found.{checked_found}
use Rattle.ml_answers.proofs.OneFinding.{one_finding}
use Rattle.ml_answers.proofs.SomeFinding.{some_finding, verdict_of}

-- ---- one of the two

abbrev ReadOrNot : List ℕ → Type 0
ReadOrNot text =
    ((l : Logic) × (xs : List Item) × (rs : List Replied) × (ks : List ℕ) × IsReadAs text l xs rs ks)
    ⊎ ((f : AnswersFault) × IsFound text (finding_of f))

pub some_reading : FaultOrRead
some_reading text has = by (some_finding text)
  where
    checked : (o : Option ℕ) (x : AnswersFinding)
        → first_line (codes "mlsolver answers 1") text ≡ o
        → IsFoundFrom o text x
        → begins o ≡ true
        → ReadOrNot text
    checked None x e found is = absurd cc
    checked (Some at) Right e (short, (l, xs, is_spec, c)) is =
        inl (
          l,
          xs,
          c.replies,
          c.lines,
          record {
            at = at;
            begins = e;
            is_read = record { is_short = short; is_specification = is_spec; are_answers = c.are_answers };
          },
        )
    checked (Some at) (OpenAt k) e (short, (l, xs, is_spec, c)) is =
        inl (
          l,
          xs,
          c.replies,
          c.lines,
          record {
            at = at;
            begins = e;
            is_read = record { is_short = short; is_specification = is_spec; are_answers = c.are_answers };
          },
        )
    checked (Some at) (WrongAt k) e (short, (l, xs, is_spec, c)) is =
        inl (
          l,
          xs,
          c.replies,
          c.lines,
          record {
            at = at;
            begins = e;
            is_read = record { is_short = short; is_specification = is_spec; are_answers = c.are_answers };
          },
        )
    checked (Some at) TooLong e found is = inr (fault.TooLong, subst (λ o. IsFoundFrom o text TooLong) (sym e) found)
    checked (Some at) (NoDocument k c) e found is =
        inr (fault.NoDocument k c, subst (λ o. IsFoundFrom o text (NoDocument k c)) (sym e) found)
    checked (Some at) (Refused k c r) e found is =
        inr (fault.Refused k c r, subst (λ o. IsFoundFrom o text (Refused k c r)) (sym e) found)
    checked (Some at) (Unreadable f) e found is =
        inr (fault.Unreadable f, subst (λ o. IsFoundFrom o text (Unreadable f)) (sym e) found)

    by : (x : AnswersFinding) × IsFound text x → ReadOrNot text
    by (x, found) = checked (first_line (codes "mlsolver answers 1") text) x refl found has

-- ---- never both

no_verdict : (l : Logic) (xs : List Item) (rs : List Replied) (ks : List ℕ) (f : AnswersFault)
    → ¬ (IsVerdict l xs (placed everything rs ks) (finding_of f))
no_verdict l xs rs ks fault.TooLong is = is
no_verdict l xs rs ks (fault.NoDocument k c) is = is
no_verdict l xs rs ks (fault.Refused k c r) is = is
no_verdict l xs rs ks (fault.Unreadable e) is = is

pub read_no_fault : ReadNoFault
read_no_fault text l xs rs ks f read found =
    let is = read.is_read in
    let made = verdict_of (take read.at text) (drop read.at text) is.is_short l xs is.is_specification rs ks is.are_answers in
    let same = one_finding text made.0 (finding_of f) (checked_found text l xs rs ks made.0 read made.1) found in
    no_verdict l xs rs ks f (subst (IsVerdict l xs (placed everything rs ks)) same made.1)

-- ---- one fault

abbrev fault_in : AnswersFault → AnswersFinding → AnswersFault
fault_in other TooLong = fault.TooLong
fault_in other (NoDocument k c) = fault.NoDocument k c
fault_in other (Refused k c r) = fault.Refused k c r
fault_in other (Unreadable e) = fault.Unreadable e
fault_in other x = other

told_back : (other f : AnswersFault) → fault_in other (finding_of f) ≡ f
told_back other fault.TooLong = refl
told_back other (fault.NoDocument k c) = refl
told_back other (fault.Refused k c r) = refl
told_back other (fault.Unreadable e) = refl

pub one_fault : OneReadFault
one_fault text f g x y =
    sym (told_back f f) ∙ ap (fault_in f) (one_finding text (finding_of f) (finding_of g) x y) ∙ told_back f g
