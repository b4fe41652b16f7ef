-- A whole body, read from its first line to its end.
--
--   names_goes, count_goes, no_entries, end_goes, not_end, behind_end == the lines that are no part of an entry or a table
--   runs_of             == what was read to a place runs there
--   goes_up             == the numbers of lines rise
--   at_end              == behind the last entry
--   body_read           == a text that was read to its end is one of what was read
--   one_parts           == the parts of the entries of a text begin at one list of lines
use Rattle.std.proofs.Common.{◌≡◌, ◌≢◌, ℕ, ◌+◌, ◌-◌, ◌<◌, ◌≤◌, false, cond, nat_lt, List, [], ◌∷◌, ◌++◌, length, map, codes, inl, inr, refl, sym, ap, subst, ◌∙◌, length-append, append_assoc, arith}
use Rattle.std.specs.List.{slice_split, join_with_byte}
use Rattle.std.proofs.lemmas.Bool.Decides.{nat_tests}
use Rattle.std.proofs.lemmas.List.{append-nil}
use Rattle.std.proofs.lemmas.List.Splits.{join_with_byte-slice_split}
use Rattle.ml_base.specs.declared.version.Version.{Version}
use Rattle.ml_base.specs.declared.version.Version.TheVariants.{One}
use Rattle.ml_base.specs.declared.doc_refusal.DocRefusal.{DocRefusal}
use Rattle.ml_base.specs.declared.doc_refusal.DocRefusal.TheVariants as refused
use Rattle.ml_lines.specs.Lines.{Line, text_of}
use Rattle.ml_lines.specs.Reading.{lines_of, left_of, words_of, fronts, is_line_end, is_blank}
use Rattle.ml_lines.proofs.Cuts.{some_part}
use Rattle.ml_lines.proofs.WrittenLines.{text_read}
use Rattle.ml_lists.specs.Readings.{IsReadTo, nothing_read, line_read, Runs}
use Rattle.ml_refutation.specs.Refutation.{Refutation, Entry, Fits, IsRefutation}
use Rattle.ml_refutation_text.specs.RefutationText.{names_line, entries_line, end_line}
use Rattle.ml_refutation_text.specs.BodyRules.{Form}
use Rattle.ml_refutation_text.specs.BodyRules.{IsTextOf}
use Rattle.ml_refutation_text.specs.BodyRules.{Place, AtNames, AtEntries, AtEntry, AtEnd, AtNothing, after_names, after, at_entry, body}
use Rattle.ml_refutation_text.specs.RuleNumbers.{rule_number}
use Rattle.ml_refutation_text.specs.LineKinds.{kind, Fixed, IsOfKinds}
use Rattle.ml_lines.proofs.Faults.{fault_here, fault_missing}
use Rattle.ml_refutation_text.specs.PartLines.{entries_size, parts_from, AreLinesOf}
use Rattle.ml_refutation_text.specs.private.Reads.{IsNext, Goes, Breaks, TellsFault}
use Rattle.ml_refutation_text.specs.private.ItemReads.{knows}
use Rattle.ml_refutation_text.specs.private.BodyReads.{IsBodyRead}
use Rattle.ml_refutation_text.specs.declared.lines.EntryLines.{EntryLines}
use Rattle.ml_refutation_text.specs.declared.rest.Rest.{Rest}
use Rattle.ml_refutation_text.specs.declared.body_rule.BodyRule.TheVariants.{OfKind, HasEntries}
use Rattle.ml_refutation_text.proofs.ReadWords.{value_back}
use Rattle.ml_lists.proofs.Runs.{run_on}
use Rattle.ml_refutation_text.proofs.GoodLines.{numbered_of, numbered_fits, names_run, entries_run, end_run}
use Rattle.ml_refutation_text.proofs.RefutationTexts.{text_refutation}
use Rattle.ml_refutation_text.proofs.Going.{goes_run}

-- ---- single lines

pub names_goes : (v : Version) {at rest : Rest} (n : ℕ)
    → Fits n
    → IsNext at (names_line n) rest
    → Goes v AtNames at (after_names v n) rest
names_goes v {at = at} {rest = rest} n fits next =
    goes_run v AtNames (after_names v n) at rest (names_line n) (names_line n) next refl
    (λ left. names_run v left n fits)

module _ (v : Version) (at rest : Rest) where
  pub count_goes : (names : ℕ) (F : Form) (count : ℕ) → Fits count → IsNext at (entries_line count) rest → 0 < count
      → Goes v (AtEntries names F) at (at_entry (knows names F count) []) rest
  count_goes names F count fits next some =
      goes_run v (AtEntries names F) (at_entry (knows names F count) []) at rest (entries_line count)
      (entries_line count) next refl
      (λ left. entries_run v left names F count fits some)

  pub end_goes : (r : Refutation) (line : Line)
      → IsNext at line rest
      → line ≡ end_line
      → Goes v (AtEnd r) at (AtNothing r) rest
  end_goes r line next is = goes_run v (AtEnd r) (AtNothing r) at rest line end_line next is (λ left. end_run v left r)

pub no_entries : (names : ℕ) (F : Form) (count : ℕ)
    → Fits count
    → count ≤ 0
    → Breaks (AtEntries names F) (entries_line count) HasEntries
no_entries names F count fits none left =
    inr (
      inl (numbered_of One left (codes "entries") count refl fits),
      inr (
        numbered_fits One left (codes "entries") count fits,
        inl (refl, λ some. absurd (omega (arith, some, none, value_back count fits))),
      ),
    )

pub not_end : (r : Refutation) (bytes : List ℕ) → bytes ≢ codes "end" → Breaks (AtEnd r) (words_of bytes) OfKind
not_end r bytes apart left = inl (refl, none)
  where
    is_end : (line : Line) → IsOfKinds (kind (Fixed (codes "end") ∷ []) ∷ []) line → line ≡ end_line
    is_end [] (inl of) = absurd of.1
    is_end (w ∷ line) (inl of) = λ i. of.1.0 i ∷ of.1.1 i
    is_end line (inr never) = absurd never

    none : IsOfKinds (kind (Fixed (codes "end") ∷ []) ∷ []) (words_of bytes) → ⊥
    none of = apart (sym (join_with_byte-slice_split 32 bytes) ∙ ap (join_with_byte 32) (is_end (words_of bytes) of))

-- where bytes follow the end, the line behind it is the first bad one
pub behind_end : (v : Version) (r : Refutation) (at : Rest) (told : DocRefusal) → at.text.now ≢ []
    → told ≡ refused.Fault (record { line = at.line; rule = rule_number OfKind }) → TellsFault v (AtNothing r) at told
behind_end v r at told some is = go (fronts (slice_split is_line_end at.text.now)) refl
  where
    go : (parts : List (List ℕ))
        → fronts (slice_split is_line_end at.text.now) ≡ parts
        → TellsFault v (AtNothing r) at told
    go [] none =
        let no_lines : lines_of at.text.now ≡ [] = ap (map words_of) none in
        let all_left : left_of at.text.now ≡ at.text.now =
        sym (ap (λ lines. text_of lines ++ left_of at.text.now) no_lines) ∙ text_read at.text.now
        in
        subst (TellsFault v (AtNothing r) at) (sym is)
        (fault_missing (body v) at.line (AtNothing r) at.text.now 21 no_lines
        (inl (refl, λ kind. some (sym all_left ∙ kind.1))))
    go (part ∷ parts) first =
        let begins : lines_of at.text.now ≡ words_of part ∷ map words_of parts = ap (map words_of) first in
        subst (TellsFault v (AtNothing r) at) (sym is)
        (fault_here (body v) at.line (AtNothing r) at.text.now 21 (words_of part) (map words_of parts) begins
        (inl (refl, λ kind. absurd (omega (arith, ap length kind.0, some_part is_blank part)))))

-- ---- what was read to a place

pub record RunsOf (v : Version) (left : List ℕ) (k : ℕ) (p : Place) (lines : List Line) (j : ℕ) (q : Place)
    (rest : List Line) : Type 0 where
  pub front : List Line
  pub is_front : lines ≡ front ++ rest
  pub run : Runs (body v left) p front q
  pub counted : j ≡ k + length front

pub runs_of : (v : Version) (left : List ℕ) (k : ℕ) (p : Place) (lines : List Line) (j : ℕ) (q : Place)
    (rest : List Line)
    → IsReadTo (body v left) k p lines j q rest → RunsOf v left k p lines j q rest
runs_of v left k p lines j q rest nothing_read =
    record { front = []; is_front = refl; run = refl; counted = omega arith }
runs_of v left k p lines j q rest (line_read i at line more before good) =
    let so_far = runs_of v left k p lines i at (line ∷ more) before in record {
      front = so_far.front ++ line ∷ [];
      is_front = so_far.is_front ∙ sym (append_assoc so_far.front (line ∷ []) more);
      run = run_on (body v left) p at (after v at line) so_far.front (line ∷ []) so_far.run (good, refl);
      counted = omega (arith, so_far.counted, length-append so_far.front (line ∷ []));
    }

-- lines are counted up
pub goes_up : {v : Version} {p q : Place} {at rest : Rest} → Goes v p at q rest → at.line ≤ rest.line
goes_up {v = v} {p = p} {q = q} {at = at} {rest = rest} goes =
    let read = runs_of v (left_of at.text.now) at.line p (lines_of at.text.now) rest.line q (lines_of rest.text.now) goes.read in
    omega (arith, read.counted)

-- ---- the parts of a body

-- behind the last entry
pub at_end : {v : Version} {p : Place} {at rest : Rest} (names wanted : ℕ) (F : Form) (es : List Entry)
    → length es ≡ wanted
    → Goes v p at (at_entry (knows names F wanted) es) rest
    → Goes v p at (AtEnd (record { names = names; entries = es })) rest
at_end {v = v} {p = p} {at = at} {rest = rest} names wanted F es whole goes =
    let test : nat_lt (length es) wanted ≡ false = grind (arith, nat_tests, whole) in
    subst (λ b. Goes v p at (cond b (AtEntry (knows names F wanted) es)
    (AtEnd (record { names = names; entries = es }))) rest) test goes

-- ---- a whole text

module _ (v : Version) (at rest : Rest) (r : Refutation) (goes : Goes v AtNames at (AtNothing r) rest)
    (none : rest.text.now ≡ []) where
  pub record IsWhole : Type 0 where
    pub is : IsRefutation r
    pub written : IsTextOf v at.text.now r
    pub counted : rest.line ≡ at.line + length (lines_of at.text.now)

  whole_read : IsWhole
  whole_read =
      let t = at.text.now in
      let read =
      runs_of v (left_of t) at.line AtNames (lines_of t) rest.line (AtNothing r) (lines_of rest.text.now) goes.read in
      let left : left_of t ≡ [] = goes.left_is ∙ ap left_of none in
      let full : lines_of t ≡ read.front =
      read.is_front ∙ ap (λ text. read.front ++ lines_of text) none ∙ append-nil read.front in
      let run = subst (λ ls. Runs (body v (left_of t)) AtNames ls (AtNothing r)) (sym full) read.run in
      let written : IsTextOf v t r = record { runs = subst (λ l. Runs (body v l) AtNames (lines_of t) (AtNothing r)) left run; none_left = left } in
      record {
        is = text_refutation v t r written;
        written = written;
        counted = omega (arith, read.counted, ap length full);
      }

  pub body_read : (start : ℕ) (parts : List EntryLines)
      → at.line ≤ start
      → parts ≡ parts_from v start r.entries
      → rest.line ≡ start + entries_size v r.entries + 1 → IsBodyRead v at.text.now at.line r parts
  body_read start parts behind are counted =
      let whole = whole_read in
      let first : start ≡ at.line + (length (lines_of at.text.now) - (entries_size v r.entries + 1)) =
      omega (arith, behind, counted, whole.counted) in record {
        is_refutation = whole.is;
        are_lines = record { written = whole.written; are_parts = are ∙ ap (λ n. parts_from v n r.entries) first };
      }

pub one_parts : (v : Version) (t : List ℕ) (n : ℕ) (r : Refutation) (ps qs : List EntryLines)
    → AreLinesOf v t n r ps → AreLinesOf v t n r qs → ps ≡ qs
one_parts v t n r ps qs first second = first.are_parts ∙ sym second.are_parts
