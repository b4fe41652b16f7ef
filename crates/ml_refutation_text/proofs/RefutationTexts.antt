-- A text is of one refutation at most, and has no bad line where it is of one.
--
--   text_lines            == what has the lines of a refutation is a text of it
--   lines_back            == and the lines that it has are these
--   same_end              == what was read is told by the end
--   one_text              == a text is of one refutation at most
--   text_readable         == a text of a refutation has no bad line
--   text_refutation       == what a text is of keeps what refutations keep
--   one_refutation, readable_is_refutation, readable_or_fault, fault_or_readable, one_fault == the laws
use Rattle.std.proofs.Common.{◌≡◌, ℕ, List, [], ◌∷◌, refl, sym, ap, subst, ◌∙◌}
use Rattle.ml_base.specs.declared.version.Version.{Version}
use Rattle.ml_lines.specs.Reading.{lines_of, left_of}
use Rattle.ml_lines.proofs.Faults as text
use Rattle.ml_lines.proofs.WrittenLines.{lines_read}
use Rattle.ml_refutation.specs.Refutation.{Refutation, IsRefutation}
use Rattle.ml_refutation_text.specs.BodyRules.{IsTextOf}
use Rattle.ml_refutation_text.specs.Laws.{OneRefutation, ReadableOrFault, FaultOrReadable, ReadableIsRefutation, IsRefutationText, OneFault}
use Rattle.ml_refutation_text.specs.BodyRules.{Place, AtNames, AtSequents, AtTableSequent, AtStacks, AtTableStack, AtEntries, AtEntry}
use Rattle.ml_refutation_text.specs.BodyRules.{AtSequent, AtLive, AtItem, AtDecision, AtEnd, AtNothing, body}
use Rattle.ml_refutation_text.specs.Laws.{IsReadableBody}
use Rattle.ml_refutation_text.proofs.ReadableTexts.{readable_has_lines}
use Rattle.ml_refutation_text.specs.private.TextLines.{HasLines}
use Rattle.ml_lists.specs.Readings.{Runs}
use Rattle.ml_lists.proofs.Runs.{one_end, run_readable}
use Rattle.ml_refutation_text.proofs.GoodEntries.{body_run}
use Rattle.ml_refutation_text.proofs.JudgedLines.{judges}
use Rattle.ml_refutation_text.proofs.PlainLines.{run_plain}

pub text_lines : (v : Version) (t : List ℕ) (r : Refutation) → IsRefutation r → HasLines v t r → IsTextOf v t r
text_lines v t r is written =
    let plain =
    run_plain v 0 [] AtNames (AtNothing r) written.lines
    (body_run v (0 ∷ []) written.form r written.lines is written.is_form written.are_lines)
    in
    let read = lines_read written.lines plain in record {
      runs =
          subst (λ ls. Runs (body v []) AtNames ls (AtNothing r)) (sym (ap lines_of written.is_text ∙ read.0))
          (body_run v [] written.form r written.lines is written.is_form written.are_lines);
      none_left = ap left_of written.is_text ∙ read.1;
    }

-- what was written is read back line by line
pub lines_back : (v : Version) (t : List ℕ) (r : Refutation) → IsRefutation r → (written : HasLines v t r)
    → lines_of t ≡ written.lines
lines_back v t r is written =
    let plain =
    run_plain v 0 [] AtNames (AtNothing r) written.lines
    (body_run v (0 ∷ []) written.form r written.lines is written.is_form written.are_lines)
    in ap lines_of written.is_text ∙ (lines_read written.lines plain).0

-- the refutation at the end; anywhere else this one
end_of : Refutation → Place → Refutation
end_of other AtNames = other
end_of other (AtSequents n) = other
end_of other (AtTableSequent n size rows) = other
end_of other (AtStacks n qs) = other
end_of other (AtTableStack n qs size rows) = other
end_of other (AtEntries n form) = other
end_of other (AtEntry k es) = other
end_of other (AtSequent k es) = other
end_of other (AtLive k es q) = other
end_of other (AtItem k es q traces) = other
end_of other (AtDecision k es b around) = other
end_of other (AtEnd r) = other
end_of other (AtNothing r) = r

-- what was read is told by the end
pub same_end : (r s : Refutation) → AtNothing r ≡ AtNothing s → r ≡ s
unfolding end_of
same_end r s same = ap (end_of r) same

pub one_text : (v : Version) (t : List ℕ) (r s : Refutation) → IsTextOf v t r → IsTextOf v t s → r ≡ s
one_text v t r s first second =
    same_end r s (one_end (body v []) AtNames (AtNothing r) (AtNothing s) (lines_of t) first.runs second.runs)

pub one_refutation : OneRefutation
one_refutation v t r s is_r is_s first second = one_text v t r s first second

pub text_readable : (v : Version) (t : List ℕ) (r : Refutation) → IsTextOf v t r → IsReadableBody v t
text_readable v t r written =
    run_readable (body v (left_of t)) AtNames (AtNothing r) (lines_of t)
    (subst (λ left. Runs (body v left) AtNames (lines_of t) (AtNothing r)) (sym written.none_left) written.runs)
    ((refl, written.none_left), tt)

readable_refutation : (v : Version) (t : List ℕ) → IsReadableBody v t → IsRefutationText v t
readable_refutation v t readable =
    let found = readable_has_lines v t readable in
    (found.0, found.1, text_lines v t found.0 found.1 found.2)

pub readable_is_refutation : ReadableIsRefutation
readable_is_refutation v t = (readable_refutation v t, λ found. text_readable v t found.0 found.2)

pub text_refutation : (v : Version) (t : List ℕ) (r : Refutation) → IsTextOf v t r → IsRefutation r
text_refutation v t r written =
    let found = readable_refutation v t (text_readable v t r written) in
    subst IsRefutation (one_text v t found.0 r found.2 written) found.1

pub readable_or_fault : ReadableOrFault
readable_or_fault v t first = text.readable_or_fault (body v) first AtNames t (judges v (left_of t))

pub fault_or_readable : FaultOrReadable
fault_or_readable v t first fault readable found = text.readable_no_fault (body v) first AtNames t fault readable found

pub one_fault : OneFault
one_fault v t first e f x y = text.one_fault (body v) first AtNames t e f x y
