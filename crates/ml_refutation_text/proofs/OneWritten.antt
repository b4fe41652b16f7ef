-- What is written of a refutation is one text.
--
--   IsBehind p        == the number of entries stands before the place p
--   behind_run        == behind such a place stands none but such
--   same_front        == in the same lines, the place of the number of entries comes once
--   reads_in_form     == a text that is written of a refutation has the lines of it in the form in which it is written
--   one_written_text  == so there is one such text
--   written_is_read   == and it is a text of the refutation
--   written_is_written == the text that is written line by line is this one
use Rattle.std.proofs.Common.{◌≡◌, ℕ, Bool, true, false, cond, List, [], ◌∷◌, ◌++◌, length, map, drop, codes, refl, sym, ap, subst, ◌∙◌, nat_lt}
use Rattle.std.specs.List.{flat_map}
use Rattle.std.specs.Str.{bytes_eq}
use Rattle.std.proofs.lemmas.List.{append-nil}
use Rattle.ml_base.specs.declared.version.Version.{Version}
use Rattle.ml_base.specs.declared.version.Version.TheVariants.{One, Two}
use Rattle.ml_lines.specs.Lines.{Line, text_of}
use Rattle.ml_lines.specs.Reading.{lines_of, value, word}
use Rattle.ml_lines.proofs.WrittenLines.{text_read}
use Rattle.ml_lists.proofs.Entries.{same_head}
use Rattle.ml_refutation.specs.Refutation.{Refutation, Entry, Decision, Split, IsRefutation}
use Rattle.ml_refutation_text.specs.BodyRules.{Form, InFull, ByTables, Known, Around, InLeft, InRight, Begun, Place, AtNames, AtSequents, AtTableSequent}
use Rattle.ml_refutation_text.specs.BodyRules.{AtStacks, AtTableStack, AtEntries, AtEntry, AtSequent, AtLive, AtItem, AtDecision, AtEnd, AtNothing}
use Rattle.ml_refutation_text.specs.BodyRules.{at_entry, after, after_entry, body, closed, leaf_of, state_of, stack_of, values, whole, with_item}
use Rattle.ml_refutation_text.specs.Canonical.{IsWrittenText, written_form, used_stacks}
use Rattle.ml_refutation_text.specs.Laws.{OneWrittenText, WrittenIsRead, WrittenIsWritten}
use Rattle.ml_refutation_text.specs.RefutationText.{entries_line, end_line}
use Rattle.ml_refutation_text.specs.WrittenText.{written_lines, written_text}
use Rattle.ml_refutation_text.specs.private.TextLines.{BodyLines, HasLines}
use Rattle.ml_refutation_text.proofs.GoodEntries.{first_run, rest_run}
use Rattle.ml_refutation_text.proofs.OneForm.{IsOnceForm, one_body}
use Rattle.ml_refutation_text.proofs.OnePlace.{each_once_once}
use Rattle.ml_refutation_text.proofs.ReadableTexts.{readable_has_lines}
use Rattle.ml_refutation_text.proofs.RefutationTexts.{text_lines, lines_back, one_text, text_readable}
use Rattle.ml_lists.specs.Readings.{Runs}
use Rattle.ml_lists.proofs.Runs.{run_on, one_end}
use Rattle.ml_refutation_text.proofs.WrittenTexts.{written_body}

-- ---- places behind the number of entries

abbrev IsBehind : Place → Type 0
IsBehind AtNames = ⊥
IsBehind (AtSequents n) = ⊥
IsBehind (AtTableSequent n size rows) = ⊥
IsBehind (AtStacks n qs) = ⊥
IsBehind (AtTableStack n qs size rows) = ⊥
IsBehind (AtEntries n F) = ⊥
IsBehind _ = Unit {0}

behind_entries : (k : Known) (es : List Entry) → IsBehind (at_entry k es)
behind_entries k es = go (nat_lt (length es) k.wanted)
  where
    go : (b : Bool) → IsBehind (cond b (AtEntry k es) (AtEnd (record { names = k.names; entries = es })))
    go true = tt
    go false = tt

behind_closed : (k : Known) (es : List Entry) (b : Begun) (around : List Around) (d : Decision)
    → IsBehind (closed k es b around d)
behind_closed k es b [] d = behind_entries k (es ++ whole b d ∷ [])
behind_closed k es b (InLeft n ∷ around) d = tt
behind_closed k es b (InRight n left ∷ around) d = behind_closed k es b around (Split n left d)

behind_entry : (F : Form) (k : Known) (es : List Entry) (line : Line) → IsBehind (after_entry F k es line)
behind_entry InFull k es line = tt
behind_entry (ByTables qs ks) k es line = tt

behind_after : (v : Version) (p : Place) (line : Line) → IsBehind p → IsBehind (after v p line)
behind_after v AtNames line is = absurd is
behind_after v (AtSequents n) line is = absurd is
behind_after v (AtTableSequent n size rows) line is = absurd is
behind_after v (AtStacks n qs) line is = absurd is
behind_after v (AtTableStack n qs size rows) line is = absurd is
behind_after v (AtEntries n F) line is = absurd is
behind_after v (AtEntry k es) line is = behind_entry k.form k es line
behind_after v (AtSequent k es) line is = tt
behind_after v (AtLive k es q) line is = tt
behind_after v (AtItem k es q traces) line is = go (bytes_eq (word line 0) (codes "heights"))
  where
    go : (b : Bool)
        → IsBehind (cond b (AtDecision k es (record { sequent = q; traces = traces; heights = values (drop 1 line) }) [])
        (AtItem k es q (with_item traces (record { state = state_of line; stack = stack_of k.form line }))))
    go true = tt
    go false = tt
behind_after v (AtDecision k es b around) line is = go (bytes_eq (word line 0) (codes "split"))
  where
    go : (t : Bool)
        → IsBehind (cond t (AtDecision k es b (InLeft (value (word line 1)) ∷ around)) (closed k es b around (leaf_of line)))
    go true = tt
    go false = behind_closed k es b around (leaf_of line)
behind_after v (AtEnd r) line is = tt
behind_after v (AtNothing r) line is = tt

module _ (v : Version) (left : List ℕ) where
  abbrev Run : Place → List Line → Place → Type 0
  Run = Runs (body v left)

  behind_run : (p q : Place) (lines : List Line) → IsBehind p → Run p lines q → IsBehind q
  behind_run p q [] is run = subst IsBehind run is
  behind_run p q (line ∷ lines) is run = behind_run (after v p line) q lines (behind_after v p line is) run.1

  no_return : (n m : ℕ) (F G : Form) (line : Line) (lines : List Line) → Run (AtEntries n F) (line ∷ lines) (AtEntries m G) → ⊥
  no_return n m F G line lines run =
      behind_run (after v (AtEntries n F) line) (AtEntries m G) lines
      (behind_entries (record { names = n; form = F; wanted = value (word line 1) }) []) run.1

  same_front : (p : Place) (xs ys more others : List Line) (n m : ℕ) (F G : Form)
      → Run p xs (AtEntries n F)
      → Run p ys (AtEntries m G)
      → xs ++ more ≡ ys ++ others
      → xs ≡ ys
  same_front p [] [] more others n m F G first second same = refl
  same_front p [] (y ∷ ys) more others n m F G first second same =
      absurd (no_return n m F G y ys (subst (λ q. Run q (y ∷ ys) (AtEntries m G)) first second))
  same_front p (x ∷ xs) [] more others n m F G first second same =
      absurd (no_return m n G F x xs (subst (λ q. Run q (x ∷ xs) (AtEntries n F)) second first))
  same_front p (x ∷ xs) (y ∷ ys) more others n m F G first second same =
      let head : x ≡ y = same_head x y (xs ++ more) (ys ++ others) same in
      let rest : xs ++ more ≡ ys ++ others = ap (drop 1) same in
      let tail =
      same_front (after v p x) xs ys more others n m F G first.1
      (subst (λ l. Run (after v p l) ys (AtEntries m G)) (sym head) second.1) rest in
      (λ i. head i ∷ tail i)

same_form : (n m : ℕ) (F G : Form) → AtEntries n F ≡ AtEntries m G → F ≡ G
same_form n m F G is = cc

-- ---- the text

pub written_is_read : WrittenIsRead
written_is_read v text r is = record {
  runs =
      subst (λ ls. Runs (body v []) AtNames ls (AtNothing r)) (sym is.are_lines)
      (run_on (body v []) AtNames (AtEntries r.names (written_form v r)) (AtNothing r) is.first is.others is.to_entries is.to_end);
  none_left = is.none_left;
}

-- in the form in which it is written, the text has the lines of the refutation
reads_in_form : (v : Version) (text : List ℕ) (r : Refutation) → IsRefutation r → IsWrittenText v text r
    → BodyLines (written_form v r) r (lines_of text)
reads_in_form v text r is written =
    let of = written_is_read v text r written in
    let found = readable_has_lines v text (text_readable v text r of) in
    let one = one_text v text found.0 r (text_lines v text found.0 found.1 found.2) of in
    go (subst (HasLines v text) one found.2)
  where
    go : HasLines v text r → BodyLines (written_form v r) r (lines_of text)
    go has =
        let back : lines_of text ≡ has.lines = lines_back v text r is has in
        let read = (first_run v [] has.form r.names has.are_lines.first is.names_fit has.is_form has.are_lines.are_first).0 in
        let fronts : written.first ≡ has.are_lines.first =
        same_front v [] AtNames written.first has.are_lines.first written.others
        (entries_line (length r.entries) ∷ (has.are_lines.entries ++ end_line ∷ [])) r.names r.names (written_form v r) has.form
        written.to_entries read (sym written.are_lines ∙ back ∙ has.are_lines.are_lines) in
        let ends =
        one_end (body v []) AtNames (AtEntries r.names has.form) (AtEntries r.names (written_form v r)) written.first
        (subst (λ ls. Runs (body v []) AtNames ls (AtEntries r.names has.form)) (sym fronts) read) written.to_entries in
        subst (λ F. BodyLines F r (lines_of text)) (same_form r.names r.names has.form (written_form v r) ends)
        (subst (BodyLines has.form r) (sym back) has.are_lines)

once_form : (v : Version) (r : Refutation) → IsOnceForm (written_form v r)
once_form One r = tt
once_form Two r = (each_once_once (map (λ e. e.sequent) r.entries), each_once_once (flat_map used_stacks r.entries))

whole_text : (v : Version) (text : List ℕ) (r : Refutation) → IsWrittenText v text r → text ≡ text_of (lines_of text)
whole_text v text r is =
    sym (text_read text) ∙ ap (λ rest. text_of (lines_of text) ++ rest) is.none_left ∙ append-nil (text_of (lines_of text))

pub one_written_text : OneWrittenText
one_written_text v a b r is first second =
    let same =
    one_body (written_form v r) r (lines_of a) (lines_of b) (once_form v r) (reads_in_form v a r is first)
    (reads_in_form v b r is second) in
    whole_text v a r first ∙ ap text_of same ∙ sym (whole_text v b r second)

pub written_is_written : WrittenIsWritten
written_is_written v r is =
    let whole = written_body v r is in
    let of = whole.are_lines in
    let form = written_form v r in
    let has : HasLines v (written_text v r) r =
    record { form = form; is_form = whole.is_form; lines = written_lines v r; are_lines = of; is_text = refl } in record {
      first = of.first;
      others = entries_line (length r.entries) ∷ (of.entries ++ end_line ∷ []);
      are_lines = lines_back v (written_text v r) r is has ∙ of.are_lines;
      to_entries = (first_run v [] form r.names of.first is.names_fit whole.is_form of.are_first).0;
      to_end = rest_run v [] form r (written_lines v r) is whole.is_form of;
      none_left = (text_lines v (written_text v r) r is has).none_left;
    }
