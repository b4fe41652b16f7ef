-- What has no bad line has the lines of a refutation.
--
--   step              == with one more good line, what was read is what the next place keeps
--   readable_has_lines == a text without a bad line has the lines of a refutation
use Rattle.std.proofs.Common.{◌≡◌, ℕ, ◌+◌, ◌<◌, true, false, cond, List, [], ◌∷◌, ◌++◌, None, length, drop, map, All, codes, refl, sym, ap, subst, ◌∙◌, inl, inr, append_assoc, arith}
use Rattle.std.specs.Str.{bytes_eq}
use Rattle.std.proofs.lemmas.List.{append-nil, length-map, map-append}
use Rattle.std.proofs.lemmas.List.Elements.{All-nil, All-push, All-get_or}
use Rattle.std.proofs.lemmas.Option.{slice_get-get_or}
use Rattle.ml_base.specs.declared.version.Version.{Version}
use Rattle.ml_base.specs.declared.version.Version.TheVariants.{One, Two}
use Rattle.ml_lines.specs.Lines.{Line, text_of}
use Rattle.ml_lines.specs.Reading.{value, word, lines_of, left_of}
use Rattle.ml_lines.proofs.Fronts.{HaveWords, have_words}
use Rattle.ml_lines.proofs.WrittenLines.{text_read}
use Rattle.ml_refutation_text.proofs.PlainLines.{kinds_plain, place_plain}
use Rattle.ml_lists.specs.Ascending.{IsAscending}
use Rattle.ml_lists.specs.Documents.{IsGood}
use Rattle.ml_lists.specs.Readings.{IsReadable}
use Rattle.ml_trace.specs.Stack as traced
use Rattle.ml_trace.specs.declared.letters.AutomatonState.{AutomatonState}
use Rattle.ml_refutation.specs.Refutation.{Refutation, Entry, Fits, AreAbove, IsStack, IsItem, IsEntry, IsRefutation}
use Rattle.ml_refutation_text.specs.RefutationText.{names_line, entries_line, numbered_line, entry_line, live_line, split_line, decision_lines, end_line}
use Rattle.ml_refutation_text.specs.BodyRules.{Form, InFull, ByTables}
use Rattle.ml_refutation_text.specs.private.TextLines.{HeadLines, IsForm, HasLines}
use Rattle.ml_refutation_text.specs.LineKinds.{kind, IsOfKind, HasNumbers, Fixed, ANumber, AGuess, AnySize, IsOfKinds, HaveNumbers}
use Rattle.ml_refutation_text.specs.BodyRules.{kinds, clash_kinds, go_kinds, item_kind, IsNextItem, StackInTable, Known, Around, InLeft, Begun, Place, AtNames}
use Rattle.ml_refutation_text.specs.private.ListKinds.{heights_kind}
use Rattle.ml_refutation_text.specs.BodyRules.{AtSequents, AtTableSequent, AtStacks, AtTableStack, AtEntries, AtEntry, AtSequent, AtLive, AtItem, AtDecision, AtEnd, AtNothing}
use Rattle.ml_refutation_text.specs.BodyRules.{numbered, values, state_of, leaf_of, at_stack_table, closed, with_item, after_names, after, body}
use Rattle.ml_refutation_text.specs.Laws.{IsReadableBody}
use Rattle.ml_refutation_text.proofs.ReadLines.{numbered_line_of, entry_line_of, IsListedLine, listed_line_of, stack_line_of, leaf_line}
use Rattle.ml_refutation_text.proofs.ReadLines.{item_of, IsItemLine, full_line, table_line, tables_of, begins_with}
use Rattle.ml_refutation_text.proofs.Standing.{around_lines, SoFar, Itemed, Undecided, Ended, Whole, Stands, sequents_place, stacks_place}
use Rattle.ml_refutation_text.proofs.Standing.{entries_place, sequents_push, stacks_push, item_lines_push, above_push, close, around_nested}

-- ---- one more line, at each place

module _ (v : Version) (left : List ℕ) where
  abbrev Good : Place → Line → Type 0
  Good = IsGood (body v left)

  names_step : (line : Line) → Good AtNames line → Stands v (after v AtNames line) (line ∷ [])
  names_step line good =
      let is = numbered_line_of (codes "names") line good.0 good.1.0 in
      go v refl is.fits (ap (λ l. l ∷ []) is.is_line)
    where
      go : (u : Version) → v ≡ u → Fits (value (word line 1)) → line ∷ [] ≡ names_line (value (word line 1)) ∷ []
          → Stands v (after_names u (value (word line 1))) (line ∷ [])
      go One same fits is = record {
        names_fit = fits;
        is_form = subst (λ u. IsForm u (value (word line 1)) InFull) (sym same) tt;
        is_first = is;
      }
      go Two same fits is = (same, fits, is)

  item_step : (names wanted : ℕ) (form : Form) (es : List Entry) (q : List ℕ) (traces : traced.Entry AutomatonState)
      (lines : List Line) (line : Line)
      → Itemed v (record { names = names; form = form; wanted = wanted }) es q traces lines
      → IsItemLine form traces.live line → IsNextItem form traces line
      → Itemed v (record { names = names; form = form; wanted = wanted }) es q (with_item traces (item_of form line)) (lines ++ line ∷ [])
  item_step names wanted form es q traces lines line is item next = record {
    before = is.before;
    items = is.items ++ line ∷ [];
    headed = is.headed;
    within = is.within;
    are_items = item_lines_push form traces.items (item_of form line) is.items line is.are_items item.is_item_line;
    ascend =
        subst (AreAbove None) (sym (map-append (λ a. a.state) traces.items (item_of form line ∷ [])))
        (above_push None (map (λ a. a.state) traces.items) (state_of line) is.ascend next.is_above);
    keep = All-push (IsItem traces.live) traces.items (item_of form line) is.keep item.is_item;
    are_lines =
        ap (λ ls. ls ++ line ∷ []) is.are_lines ∙ append_assoc is.before (live_line traces.live ∷ is.items) (line ∷ []);
  }

  item_line_at : (names wanted : ℕ) (form : Form) (es : List Entry) (q : List ℕ) (traces : traced.Entry AutomatonState)
      (lines : List Line) (line : Line)
      → Itemed v (record { names = names; form = form; wanted = wanted }) es q traces lines
      → IsOfKind (item_kind form) line → HasNumbers (item_kind form) line → IsNextItem form traces line → StackInTable form line
      → IsItemLine form traces.live line
  item_line_at names wanted InFull es q traces lines line is kind has next inside =
      full_line traces.live line kind.1 has next.ascends next.in_use
  item_line_at names wanted (ByTables qs ks) es q traces lines line is kind has next inside =
      let tables = tables_of v names qs ks is.headed.so_far.began.is_form in
      table_line qs ks names traces.live line tables.are_stacks kind.1 has inside next.ascends next.in_use

  item_begins : (form : Form) (line : Line) → IsOfKind (item_kind form) line → word line 0 ≡ codes "item"
  item_begins InFull line kind = begins_with true (codes "item") (ANumber ∷ AGuess ∷ ANumber ∷ []) line kind.1
  item_begins (ByTables qs ks) line kind = begins_with false (codes "item") (ANumber ∷ AGuess ∷ AnySize ∷ []) line kind.1

  entry_step : (names wanted : ℕ) (form : Form) (es : List Entry) (lines : List Line) (line : Line)
      → SoFar v (record { names = names; form = form; wanted = wanted }) es lines → length es < wanted
      → Good (AtEntry (record { names = names; form = form; wanted = wanted }) es) line
      → Stands v (after v (AtEntry (record { names = names; form = form; wanted = wanted }) es) line) (lines ++ line ∷ [])
  entry_step names wanted InFull es lines line is below good =
      let one = numbered_line_of (codes "entry") line good.0 good.1.0 in
      (lines, is, below, refl, ap (λ l. lines ++ l ∷ []) (one.is_line ∙ ap numbered_line good.1.1.0))
  entry_step names wanted (ByTables qs ks) es lines line is below good =
      let tables = tables_of v names qs ks is.began.is_form in
      let s = value (word line 2) in
      let inside = good.1.1.1.0 in
      let one = entry_line_of line good.0 good.1.0 in record {
        before = lines;
        head = line ∷ [];
        so_far = is;
        below = below;
        is_head = (s, slice_get-get_or qs s [] inside, ap (λ l. l ∷ []) (one ∙ ap (λ i. entry_line i s) good.1.1.0));
        fit = All-get_or (All Fits) qs s [] inside tables.nodes_fit;
        ascends = All-get_or IsAscending qs s [] inside tables.sequents_ascend;
        are_lines = refl;
      }

  heights_step : (k : Known) (es : List Entry) (q : List ℕ) (traces : traced.Entry AutomatonState) (lines : List Line)
      (line : Line)
      → Itemed v k es q traces lines → IsListedLine (codes "heights") line → length (drop 1 line) ≡ k.names + 1
      → Undecided v k es (record { sequent = q; traces = traces; heights = values (drop 1 line) }) [] (lines ++ line ∷ [])
  heights_step k es q traces lines line is listed count = record {
    before = lines ++ line ∷ [];
    deciding = record {
      before = lines;
      itemed = is;
      fit = listed.fit;
      a_height_each = length-map (drop 1 line) value ∙ count;
      are_lines = ap (λ l. lines ++ l ∷ []) listed.is_line;
    };
    keeps = tt;
    are_lines = sym (append-nil (lines ++ line ∷ []));
  }

  decision_step : (k : Known) (es : List Entry) (b : Begun) (around : List Around) (lines : List Line) (line : Line)
      → Undecided v k es b around lines → Good (AtDecision k es b around) line
      → Stands v (after v (AtDecision k es b around) line) (lines ++ line ∷ [])
  decision_step k es b around lines line is good = go good.0 good.1.0
    where
      go : IsOfKinds (numbered (codes "split") ∷ (clash_kinds ++ go_kinds)) line
          → HaveNumbers (numbered (codes "split") ∷ (clash_kinds ++ go_kinds)) line
          → Stands v (after v (AtDecision k es b around) line) (lines ++ line ∷ [])
      go (inl split) has =
          let one = numbered_line_of (codes "split") line (inl split) (has.0, tt) in
          let first = begins_with false (codes "split") (ANumber ∷ []) line split.1 in
          let e : bytes_eq (word line 0) (codes "split") ≡ true = ap (λ w. bytes_eq w (codes "split")) first in
          let n = value (word line 1) in
          subst (λ t. Stands v (cond t (AtDecision k es b (InLeft n ∷ around)) (closed k es b around (leaf_of line))) (lines ++ line ∷ []))
          (sym e)
          (record {
            before = is.before;
            deciding = is.deciding;
            keeps = (one.fits, good.1.1.1.0 first, is.keeps);
            are_lines =
                (λ i. is.are_lines i ++ one.is_line i ∷ []) ∙ append_assoc is.before (around_lines around) (split_line n ∷ []);
          })
      go (inr others) has =
          let leaf = leaf_line k.names k.wanted line others has.1 in
          let d = leaf.d in
          subst
          (λ t. Stands v
          (cond t (AtDecision k es b (InLeft (value (word line 1)) ∷ around)) (closed k es b around (leaf_of line)))
          (lines ++ line ∷ []))
          (sym leaf.no_split)
          (subst (λ x. Stands v (closed k es b around x) (lines ++ line ∷ [])) (sym leaf.tells)
          (close v k es b around d is.before (lines ++ line ∷ []) is.deciding is.keeps (leaf.keeps good.1.1.0)
          (omega (arith, leaf.is_flat, around_nested k.names k.wanted around is.keeps))
          ((λ i. is.are_lines i ++ leaf.is_line i) ∙ append_assoc is.before (around_lines around) (decision_lines d))))

  traces_step : (k : Known) (es : List Entry) (q : List ℕ) (traces : traced.Entry AutomatonState) (lines : List Line)
      (line : Line)
      → Itemed v k es q traces lines → Good (AtItem k es q traces) line
      → Stands v (after v (AtItem k es q traces) line) (lines ++ line ∷ [])
  traces_step k es q traces lines line is good = go good.0 good.1.0
    where
      go : IsOfKinds (item_kind k.form ∷ heights_kind ∷ []) line
          → HaveNumbers (item_kind k.form ∷ heights_kind ∷ []) line
          → Stands v (after v (AtItem k es q traces) line) (lines ++ line ∷ [])
      go (inl item) has =
          let first = item_begins k.form line item in
          let e : bytes_eq (word line 0) (codes "heights") ≡ false = ap (λ w. bytes_eq w (codes "heights")) first in
          let next = good.1.1.0 first in
          let one = item_line_at k.names k.wanted k.form es q traces lines line is item (has.0 item) next (good.1.1.1.1.0 first) in
          subst (λ t. Stands v (cond t (AtDecision k es (record { sequent = q; traces = traces; heights = values (drop 1 line) }) [])
          (AtItem k es q (with_item traces (item_of k.form line)))) (lines ++ line ∷ [])) (sym e)
          (item_step k.names k.wanted k.form es q traces lines line is one next)
      go (inr (inl heights)) has =
          let first = begins_with true (codes "heights") [] line heights.1 in
          let e : bytes_eq (word line 0) (codes "heights") ≡ true = ap (λ w. bytes_eq w (codes "heights")) first in
          let listed = listed_line_of (codes "heights") line (inl heights) (has.1.0, tt) in
          subst (λ t. Stands v (cond t (AtDecision k es (record { sequent = q; traces = traces; heights = values (drop 1 line) }) [])
          (AtItem k es q (with_item traces (item_of k.form line)))) (lines ++ line ∷ [])) (sym e)
          (heights_step k es q traces lines line is listed (good.1.1.1.0 first))
      go (inr (inr never)) has = absurd never

  end_step : (r : Refutation) (lines : List Line) (line : Line)
      → Ended v r lines
      → IsOfKinds (kind (Fixed (codes "end") ∷ []) ∷ []) line
      → Whole v r (lines ++ line ∷ [])
  end_step r lines line is (inr never) = absurd never
  end_step r lines [] is (inl of) = absurd of.1
  end_step r lines (w ∷ rest) is (inl of) =
      let far = is.so_far in record {
        is_refutation = record {
          names_fit = far.began.names_fit;
          has_start = far.some;
          entries_fit = far.wanted_fits;
          are_entries = far.keep;
        };
        form = is.form;
        is_form = far.began.is_form;
        are_lines = record {
          first = far.first;
          entries = far.entries;
          are_first = far.began.is_first;
          are_entries = far.are_entries;
          are_lines =
              (λ i. far.are_lines i ++ (of.1.0 i ∷ of.1.1 i) ∷ [])
              ∙ append_assoc far.first (entries_line (length r.entries) ∷ far.entries) (end_line ∷ []);
        };
      }

  step : (p : Place) (lines : List Line) (line : Line) → 0 < length line → Stands v p lines → Good p line
      → Stands v (after v p line) (lines ++ line ∷ [])
  step AtNames lines line some is good =
      subst (λ ls. Stands v (after v AtNames line) (ls ++ line ∷ [])) (sym is) (names_step line good)
  step (AtSequents n) lines line some (version, fits, is) good =
      let one = numbered_line_of (codes "sequents") line good.0 good.1.0 in
      sequents_place v n (value (word line 1)) [] (lines ++ line ∷ [])
      (record {
        version = version;
        names_fit = fits;
        size_fits = one.fits;
        within = omega arith;
        nodes_fit = All-nil (All Fits);
        ascend = All-nil IsAscending;
        are_lines = (λ i. is i ++ one.is_line i ∷ []);
      })
  step (AtTableSequent n size rows) lines line some (is, below) good =
      let listed = listed_line_of (codes "sequent") line good.0 good.1.0 in
      sequents_place v n size (rows ++ values (drop 1 line) ∷ []) (lines ++ line ∷ [])
      (sequents_push v n size rows lines line is below listed good.1.1.0)
  step (AtStacks n qs) lines line some is good = stacks_line_step line good.0 good.1.0
    where
      stacks_line_step : (l : Line) → IsOfKinds (kind (Fixed (codes "stacks") ∷ AnySize ∷ []) ∷ []) l
          → HaveNumbers (kind (Fixed (codes "stacks") ∷ AnySize ∷ []) ∷ []) l
          → Stands v (at_stack_table n qs (value (word l 1)) []) (lines ++ l ∷ [])
      stacks_line_step l (inr never) has = absurd never
      stacks_line_step [] (inl of) has = absurd of.1
      stacks_line_step (w ∷ []) (inl of) has = absurd of.1.1
      stacks_line_step (w ∷ x ∷ rest) (inl of) has =
          let spells = (has.0 of).1.0.1 in
          stacks_place v n qs (value x) [] (lines ++ (w ∷ x ∷ rest) ∷ [])
          (record {
            before = lines;
            sequents = is;
            w = x;
            spells = record {
              digits = spells.digits;
              some = spells.some;
              no_zero_leads = spells.no_zero_leads;
              is_value = refl;
            };
            within = omega arith;
            are_stacks = All-nil (IsStack n);
            are_lines = (λ i. lines ++ (of.1.0 i ∷ x ∷ of.1.1.1 i) ∷ []);
          })
  step (AtTableStack n qs size rows) lines line some (is, below) good =
      stacks_place v n qs size (rows ++ values (drop 1 line) ∷ []) (lines ++ line ∷ [])
      (stacks_push v n qs size rows lines line is below (stack_line_of line good.0 good.1.0) good.1.1.0.0 good.1.1.0.1)
  step (AtEntries n form) lines line some is good =
      let one = numbered_line_of (codes "entries") line good.0 good.1.0 in
      entries_place v (record { names = n; form = form; wanted = value (word line 1) }) [] (lines ++ line ∷ [])
      (record {
        first = lines;
        entries = [];
        began = is;
        wanted_fits = one.fits;
        some = good.1.1.0;
        within = omega arith;
        are_entries = refl;
        keep = All-nil (IsEntry n (value (word line 1)));
        are_lines = ap (λ l. lines ++ l ∷ []) one.is_line;
      })
  step (AtEntry k es) lines line some (is, below) good = entry_step k.names k.wanted k.form es lines line is below good
  step (AtSequent k es) lines line some (before, is, below, full, are) good =
      let listed = listed_line_of (codes "sequent") line good.0 good.1.0 in
      let q = values (drop 1 line) in record {
        before = before;
        head = numbered_line (length es) ∷ line ∷ [];
        so_far = is;
        below = below;
        is_head =
            subst (λ form. HeadLines form (length es) q (numbered_line (length es) ∷ line ∷ [])) (sym full)
            (ap (λ l. numbered_line (length es) ∷ l ∷ []) listed.is_line);
        fit = listed.fit;
        ascends = good.1.1.0;
        are_lines = ap (λ ls. ls ++ line ∷ []) are ∙ append_assoc before (numbered_line (length es) ∷ []) (line ∷ []);
      }
  step (AtLive k es q) lines line some is good =
      let one = numbered_line_of (codes "live") line good.0 good.1.0 in record {
        before = lines;
        items = [];
        headed = is;
        within = good.1.1.0;
        are_items = refl;
        ascend = tt;
        keep = All-nil (IsItem (value (word line 1)));
        are_lines = ap (λ l. lines ++ l ∷ []) one.is_line;
      }
  step (AtItem k es q traces) lines line some is good = traces_step k es q traces lines line is good
  step (AtDecision k es b around) lines line some is good = decision_step k es b around lines line is good
  step (AtEnd r) lines line some is good = end_step r lines line is good.0
  step (AtNothing r) lines line some is good = absurd (omega (arith, some, ap length good.0.0))

  -- ---- a whole text

  record Refuted (lines : List Line) : Type 0 where
    pub r : Refutation
    pub is_whole : Whole v r lines
    pub none_left : left ≡ []

  ended : (p : Place) (lines : List Line) → Stands v p lines → Good p [] → Refuted lines
  ended AtNames lines is good = absurd (kinds_plain (kinds AtNames) [] (place_plain AtNames) good.0 good.1.0)
  ended (AtSequents n) lines is good = absurd (kinds_plain (kinds (AtSequents n)) [] (place_plain (AtSequents n)) good.0 good.1.0)
  ended (AtTableSequent n size rows) lines is good =
      absurd (kinds_plain (kinds (AtTableSequent n size rows)) [] (place_plain (AtTableSequent n size rows)) good.0 good.1.0)
  ended (AtStacks n qs) lines is good = absurd (kinds_plain (kinds (AtStacks n qs)) [] (place_plain (AtStacks n qs)) good.0 good.1.0)
  ended (AtTableStack n qs size rows) lines is good =
      absurd (kinds_plain (kinds (AtTableStack n qs size rows)) [] (place_plain (AtTableStack n qs size rows)) good.0 good.1.0)
  ended (AtEntries n form) lines is good =
      absurd (kinds_plain (kinds (AtEntries n form)) [] (place_plain (AtEntries n form)) good.0 good.1.0)
  ended (AtEntry k es) lines is good = absurd (kinds_plain (kinds (AtEntry k es)) [] (place_plain (AtEntry k es)) good.0 good.1.0)
  ended (AtSequent k es) lines is good =
      absurd (kinds_plain (kinds (AtSequent k es)) [] (place_plain (AtSequent k es)) good.0 good.1.0)
  ended (AtLive k es q) lines is good = absurd (kinds_plain (kinds (AtLive k es q)) [] (place_plain (AtLive k es q)) good.0 good.1.0)
  ended (AtItem k es q traces) lines is good =
      absurd (kinds_plain (kinds (AtItem k es q traces)) [] (place_plain (AtItem k es q traces)) good.0 good.1.0)
  ended (AtDecision k es b around) lines is good =
      absurd (kinds_plain (kinds (AtDecision k es b around)) [] (place_plain (AtDecision k es b around)) good.0 good.1.0)
  ended (AtEnd r) lines is good = absurd (kinds_plain (kinds (AtEnd r)) [] (place_plain (AtEnd r)) good.0 good.1.0)
  ended (AtNothing r) lines is good = record { r = r; is_whole = is; none_left = good.0.1 }

  read_on : (p : Place) (before lines : List Line)
      → HaveWords lines
      → Stands v p before
      → IsReadable (body v left) p lines
      → Refuted (before ++ lines)
  read_on p before [] words is readable = subst Refuted (sym (append-nil before)) (ended p before is readable)
  read_on p before (line ∷ lines) words is readable =
      subst Refuted (append_assoc before (line ∷ []) lines)
      (read_on (after v p line) (before ++ line ∷ []) lines words.1 (step p before line words.0 is readable.0) readable.1)

pub readable_has_lines : (v : Version) (t : List ℕ)
    → IsReadableBody v t
    → (r : Refutation) × IsRefutation r × HasLines v t r
readable_has_lines v t readable =
    let found = read_on v (left_of t) AtNames [] (lines_of t) (have_words t) refl readable in
    let is = found.is_whole in (
      found.r,
      is.is_refutation,
      record {
        form = is.form;
        is_form = is.is_form;
        lines = lines_of t;
        are_lines = is.are_lines;
        is_text =
            sym (text_read t) ∙ ap (λ rest. text_of (lines_of t) ++ rest) found.none_left ∙ append-nil (text_of (lines_of t));
      },
    )
