-- The lines of an entry, and of a whole body, are good.
--
--   head_run, items_run, heights_run  == the lines of an entry before its decision
--   entry_run, entries_run            == those of an entry, and of the entries
--   first_run, rest_run, body_run     == those of a body before the number of entries, from it on, and all of them
use Rattle.std.proofs.Common.{◌≡◌, ℕ, ◌+◌, ◌<◌, ◌≤◌, true, false, cond, nat_lt, List, [], ◌∷◌, ◌++◌, None, Some, length, map}
use Rattle.std.proofs.Common.{All, codes, refl, sym, ap, subst, ◌∙◌, inl, inr, length-append, append_assoc, arith}
use Rattle.std.specs.Prelude.{slice_index_or}
use Rattle.std.proofs.lemmas.Bool.Decides.{nat_tests}
use Rattle.std.proofs.lemmas.List.{append-nil, length-map, map-append}
use Rattle.std.proofs.lemmas.List.Elements.{All-nil, All-head, All-tail}
use Rattle.std.proofs.lemmas.Option.{slice_get_within, get_or_from_slice_get}
use Rattle.ml_base.specs.declared.version.Version.{Version}
use Rattle.ml_base.specs.declared.version.Version.TheVariants.{One, Two}
use Rattle.ml_lines.specs.Lines.{Word, Line, number}
use Rattle.ml_lines.specs.Reading.{AreWords, IsNumber, value}
use Rattle.ml_lists.specs.Ascending.{IsAscending}
use Rattle.ml_lists.specs.Last.{last_of}
use Rattle.ml_trace.specs.declared.letters.AutomatonState.{AutomatonState}
use Rattle.ml_trace.specs.Stack as traced
use Rattle.ml_refutation.specs.Refutation.{Refutation, Entry, Fits, IsAbove, AreAbove, IsItem, IsEntry, IsRefutation}
use Rattle.ml_refutation.specs.Guesses.{FitsGuess}
use Rattle.ml_refutation_text.specs.RefutationText.{numbers, names_line, entries_line, sequents_line, stacks_line}
use Rattle.ml_refutation_text.specs.LineKinds.{Spells}
use Rattle.ml_refutation_text.specs.BodyRules.{Form, InFull, ByTables}
use Rattle.ml_refutation_text.specs.RefutationText.{stack_line, sequent_line, live_line, guess_word, item_line, heights_line, decision_lines, end_line}
use Rattle.ml_refutation_text.specs.private.TextLines.{HeadLines, StackWords, ItemLines, EntryLines, EntriesLines, FirstLines, BodyLines, IsForm}
use Rattle.ml_refutation_text.specs.LineKinds.{IsOfKind, HaveNumbers}
use Rattle.ml_refutation_text.specs.BodyRules.{Known, Begun, Place, AtNames, AtSequents, AtStacks, AtEntries, AtEntry, AtLive, AtItem, AtDecision}
use Rattle.ml_refutation_text.specs.BodyRules.{AtEnd, AtNothing, IsNextItem, item_kind, state_of, stack_of, at_entry, body}
use Rattle.ml_refutation_text.specs.private.ListKinds.{heights_kind}
use Rattle.ml_refutation_text.specs.private.ItemReads.{MayStand, SomeIn}
use Rattle.ml_lists.proofs.Runs.{run_on}
use Rattle.ml_refutation_text.proofs.ReadWords.{is_number, are_numbers, words_first, words_number, words_numbers, value_back}
use Rattle.ml_refutation_text.proofs.ReadWords.{values_back, guess_back, guess_word_fits, guess_is_word, differ, spelt_is_word}
use Rattle.ml_refutation_text.proofs.GoodLines.{Run, numbered_of, numbered_fits, names_fit, sequent_good, sequent_fits, names_run}
use Rattle.ml_refutation_text.proofs.GoodLines.{entries_run, end_run, sequents_run, stacks_run, live_run, decision_run}
use Rattle.ml_lists.proofs.Chains.{last_push}

-- what a program knows behind the number of entries
abbrev pub known : ℕ → Form → ℕ → Known
known names form wanted = record { names = names; form = form; wanted = wanted }

abbrev pub SequentsFit : Form → Type 0
SequentsFit InFull = Unit {0}
SequentsFit (ByTables sequents stacks) = Fits (length sequents)

pub state_back : (s : AutomatonState) (words : List Word)
    → Fits s.node
    → FitsGuess s.odd
    → state_of (item_line s words) ≡ s
state_back s words fits guess =
    let node = value_back s.node fits in let odd = guess_back s.odd guess in λ i. record { node = node i; odd = odd i }

item_words : (s : AutomatonState) (words : Line)
    → Fits s.node
    → FitsGuess s.odd
    → AreWords words
    → AreWords (item_line s words)
item_words s words fits guess are =
    words_first (codes "item") (number s.node ∷ guess_word s.odd ∷ words) refl
    (words_number s.node (guess_word s.odd ∷ words) fits
    (words_first (guess_word s.odd) words (guess_is_word s.odd guess) are))

pub no_item : (form : Form) (others : Line) → IsOfKind (item_kind form) (codes "heights" ∷ others) → ⊥
no_item InFull others kind = differ (codes "heights") (codes "item") refl kind.1.0
no_item (ByTables qs ks) others kind = differ (codes "heights") (codes "item") refl kind.1.0

-- a line is of the kind of items, and has its numbers
pub record IsItemLine (form : Form) (line : Line) : Type 0 where
  pub of_kind : IsOfKind (item_kind form) line
  pub numbers_are : HaveNumbers (item_kind form ∷ heights_kind ∷ []) line

no_heights : (others : Line) → IsOfKind heights_kind (codes "item" ∷ others) → ⊥
no_heights others kind = differ (codes "item") (codes "heights") refl kind.1.0

pub full_item : (s : AutomatonState) (ns : List ℕ) → 0 < length ns → All Fits ns → Fits s.node → FitsGuess s.odd
    → IsItemLine InFull (item_line s (numbers ns))
full_item s [] some fit node guess = absurd (omega (arith, some))
full_item s (x ∷ xs) some fit node guess = record {
  of_kind = (item_words s (numbers (x ∷ xs)) node guess (words_numbers (x ∷ xs) fit), (refl, (tt, (tt, (tt, tt)))));
  numbers_are = (
    (λ _. (
      tt,
      (
        is_number s.node node,
        (guess_word_fits s.odd guess, (is_number x (All-head Fits x xs fit), are_numbers xs (All-tail Fits x xs fit))),
      ),
    )),
    ((λ kind. absurd (no_heights (number s.node ∷ guess_word s.odd ∷ numbers (x ∷ xs)) kind)), tt),
  );
}

pub table_item : (qs ks : List (List ℕ)) (s : AutomatonState) (w : Word) (t : ℕ)
    → Spells w t
    → Fits s.node
    → FitsGuess s.odd
    → IsItemLine (ByTables qs ks) (item_line s (w ∷ []))
table_item qs ks s w t spells node guess = record {
  of_kind = (
    item_words s (w ∷ []) node guess (words_first w [] (spelt_is_word w t spells) refl),
    (refl, (tt, (tt, (tt, refl)))),
  );
  numbers_are = (
    (λ _. (tt, (is_number s.node node, (guess_word_fits s.odd guess, ((t, spells), All-nil IsNumber))))),
    ((λ kind. absurd (no_heights (number s.node ∷ guess_word s.odd ∷ w ∷ []) kind)), tt),
  );
}

-- what an item keeps without its table
pub may_stand : (live : ℕ) (a : traced.Item AutomatonState) → IsItem live a → MayStand live a
may_stand live a is = record {
  node_fits = is.node_fits;
  guess_fits = is.guess_fits;
  ascends = is.is_stack.ascends;
  below = is.is_stack.below;
}

some_in : (live : ℕ) (form : Form) (a : traced.Item AutomatonState) → IsItem live a → SomeIn form a.stack
some_in live InFull a is = is.is_stack.some
some_in live (ByTables qs ks) a is = tt

module _ (v : Version) (left : List ℕ) (names wanted : ℕ) (small : Fits names) where
  pub head_run : (form : Form) (es : List Entry) (q : List ℕ) (lines : List Line) → Fits (length es) → SequentsFit form
      → All Fits q → IsAscending q → HeadLines form (length es) q lines
      → Run v left (AtEntry (known names form wanted) es) lines (AtLive (known names form wanted) es q)
  head_run InFull es q lines fits tables fit ascends is =
      let k = known names InFull wanted in
      let i = length es in
      let back = values_back q fit in
      subst (λ ls. Run v left (AtEntry k es) ls (AtLive k es q)) (sym is) (
        (
          inl (numbered_of v left (codes "entry") i refl fits),
          (numbered_fits v left (codes "entry") i fits, (value_back i fits, (tt, tt))),
        ),
        (
          (inl (sequent_good v left q fit), (sequent_fits v left q fit, (subst IsAscending (sym back) ascends, tt))),
          ap (AtLive k es) back,
        ),
      )
  head_run (ByTables qs ks) es q lines fits tables fit ascends (s, there, is) =
      let k = known names (ByTables qs ks) wanted in
      let i = length es in
      let below : s < length qs = slice_get_within qs s q there in
      let small : Fits s = omega (arith, below, tables) in
      let back = value_back s small in
      subst (λ ls. Run v left (AtEntry k es) ls (AtLive k es q)) (sym is) (
        (
          inl (
            words_first (codes "entry") (number i ∷ number s ∷ []) refl
                (words_number i (number s ∷ []) fits (words_number s [] small refl)),
            (refl, (tt, (tt, refl))),
          ),
          (
            ((λ _. (tt, (is_number i fits, (is_number s small, All-nil IsNumber)))), tt),
            (value_back i fits, (omega (arith, back, below), tt)),
          ),
        ),
        ap (λ n. AtLive k es (slice_index_or qs n [])) back ∙ ap (AtLive k es) (get_or_from_slice_get qs s q [] there),
      )

  -- what an item's line tells
  module _ (es : List Entry) (q : List ℕ) (live : ℕ) (within : live ≤ names) where
    abbrev at_item : Form → List (traced.Item AutomatonState) → Place
    at_item form items = AtItem (known names form wanted) es q (record { live = live; items = items })

    next_item : (form : Form) (before : List (traced.Item AutomatonState)) (a : traced.Item AutomatonState)
        (words : List Word)
        → MayStand live a → IsAbove (last_of None (map (λ b. b.state) before)) a.state
        → stack_of form (item_line a.state words) ≡ a.stack
        → IsNextItem form (record { live = live; items = before }) (item_line a.state words)
    next_item form before a words is above back = record {
      is_above =
          subst (IsAbove (last_of None (map (λ b. b.state) before)))
          (sym (state_back a.state words is.node_fits is.guess_fits)) above;
      ascends = subst IsAscending (sym back) is.ascends;
      in_use = subst (All (λ x. x < live)) (sym back) is.below;
    }

    pub item_run : (form : Form) (before : List (traced.Item AutomatonState)) (a : traced.Item AutomatonState)
        (words : List Word)
        → MayStand live a → SomeIn form a.stack → IsAbove (last_of None (map (λ b. b.state) before)) a.state
        → StackWords form a.stack words
        → Run v left (at_item form before) (item_line a.state words ∷ []) (at_item form (before ++ a ∷ []))
    item_run InFull before a words is some above spelt =
        let fit = names_fit v left live a.stack (omega (arith, within, small)) is.below in
        let line = full_item a.state a.stack some fit is.node_fits is.guess_fits in
        let back = values_back a.stack fit in
        subst (λ ws. Run v left (at_item InFull before) (item_line a.state ws ∷ []) (at_item InFull (before ++ a ∷ [])))
        (sym spelt) (
          (
            inl line.of_kind,
            (
              line.numbers_are,
              (
                (λ _. next_item InFull before a (numbers a.stack) is above back),
                ((λ bad. absurd (differ (codes "item") (codes "heights") refl bad)), ((λ _. tt), tt)),
              ),
            ),
          ),
          (λ i. at_item InFull (before ++ record {
            state = state_back a.state (numbers a.stack) is.node_fits
                is.guess_fits i;
            stack = back i;
          } ∷ [])),
        )
    item_run (ByTables qs ks) before a words is some above (t, w, spells, there, spelt) =
        let form = ByTables qs ks in
        let line = table_item qs ks a.state w t spells is.node_fits is.guess_fits in
        let back : slice_index_or ks (value w) [] ≡ a.stack =
        ap (λ n. slice_index_or ks n []) spells.is_value ∙ get_or_from_slice_get ks t a.stack [] there in
        let below : value w < length ks = omega (arith, spells.is_value, slice_get_within ks t a.stack there) in
        subst (λ ws. Run v left (at_item form before) (item_line a.state ws ∷ []) (at_item form (before ++ a ∷ [])))
        (sym spelt) (
          (
            inl line.of_kind,
            (
              line.numbers_are,
              (
                (λ _. next_item form before a (w ∷ []) is above back),
                ((λ bad. absurd (differ (codes "item") (codes "heights") refl bad)), ((λ _. below), tt)),
              ),
            ),
          ),
          (λ i. at_item form (before ++ record {
            state = state_back a.state (w ∷ []) is.node_fits is.guess_fits i;
            stack = back i;
          } ∷ [])),
        )

    items_run : (form : Form) (before items : List (traced.Item AutomatonState)) (lines : List Line)
        → All (IsItem live) items → AreAbove (last_of None (map (λ b. b.state) before)) (map (λ b. b.state) items)
        → ItemLines form items lines → Run v left (at_item form before) lines (at_item form (before ++ items))
    items_run form before [] lines are above is =
        subst (λ ls. Run v left (at_item form before) ls (at_item form (before ++ []))) (sym is)
        (ap (at_item form) (sym (append-nil before)))
    items_run form before (a ∷ items) lines are above (line, others, first, rest, is) =
        let one : Run v left (at_item form before) (line ∷ []) (at_item form (before ++ a ∷ [])) =
        subst (λ l. Run v left (at_item form before) (l ∷ []) (at_item form (before ++ a ∷ []))) (sym first.is_line)
        (item_run form before a first.words (may_stand live a (All-head (IsItem live) a items are))
        (some_in live form a (All-head (IsItem live) a items are)) above.0 first.for_stack) in
        let last : last_of None (map (λ b. b.state) (before ++ a ∷ [])) ≡ Some a.state =
        ap (last_of None) (map-append (λ b. b.state) before (a ∷ []))
        ∙ last_push None (map (λ b. b.state) before) a.state in
        let more =
        items_run form (before ++ a ∷ []) items others (All-tail (IsItem live) a items are)
        (subst (λ b. AreAbove b (map (λ b. b.state) items)) (sym last) above.1) rest in
        subst (λ ls. Run v left (at_item form before) ls (at_item form (before ++ a ∷ items))) (sym is)
        (run_on (body v left) (at_item form before) (at_item form (before ++ a ∷ []))
        (at_item form (before ++ a ∷ items)) (line ∷ []) others one
        (subst (λ all. Run v left (at_item form (before ++ a ∷ [])) others (at_item form all))
        (append_assoc before (a ∷ []) items) more))

    pub heights_run : (form : Form) (items : List (traced.Item AutomatonState)) (hs : List ℕ)
        → All Fits hs
        → length hs ≡ names + 1
        → Run v left (at_item form items) (heights_line hs ∷ [])
        (AtDecision (known names form wanted) es
        (record { sequent = q; traces = record { live = live; items = items }; heights = hs }) [])
    heights_run form items hs fit count = (
      (
        inr (inl (words_first (codes "heights") (numbers hs) refl (words_numbers hs fit), (refl, tt))),
        (
          ((λ no. absurd (no_item form (numbers hs) no)), ((λ _. (tt, are_numbers hs fit)), tt)),
          (
            (λ no. absurd (differ (codes "heights") (codes "item") refl no)),
            (
              (λ _. length-map hs number ∙ count),
              ((λ no. absurd (differ (codes "heights") (codes "item") refl no)), tt),
            ),
          ),
        ),
      ),
      ap
          (λ ns. AtDecision (known names form wanted) es
          (record { sequent = q; traces = record { live = live; items = items }; heights = ns }) [])
          (values_back hs fit),
    )

  -- ---- entries

  pub entry_run : (form : Form) (es : List Entry) (e : Entry) (lines : List Line)
      → Fits wanted
      → length es < wanted
      → SequentsFit form
      → IsEntry names wanted e → EntryLines form (length es) e lines
      → Run v left (AtEntry (known names form wanted) es) lines (at_entry (known names form wanted) (es ++ e ∷ []))
  entry_run form es e lines few here tables is written =
      let k = known names form wanted in
      let F = body v left in
      let live = e.traces.live in
      let within = is.is_traced.within in
      let b : Begun = record { sequent = e.sequent; traces = e.traces; heights = e.heights } in
      let behind = at_entry k (es ++ e ∷ []) in
      let last : List Line = decision_lines e.decision in
      let decided : Run v left (AtDecision k es b []) last behind =
      decision_run v left k es b e.decision [] small few is.is_decided (omega (arith, is.nested)) in
      let heights =
      heights_run es e.sequent live within form e.traces.items e.heights is.heights_fit is.a_height_each in
      let items =
      items_run es e.sequent live within form [] e.traces.items written.items is.is_traced.are_items is.is_traced.ascend
      written.are_items
      in
      let lives = live_run v left k es e.sequent live (omega (arith, within, small)) within in
      let head =
      head_run form es e.sequent written.head (omega (arith, here, few)) tables is.nodes_fit is.ascends written.is_head
      in
      subst (λ ls. Run v left (AtEntry k es) ls behind) (sym written.are_lines)
      (run_on F (AtEntry k es) (AtLive k es e.sequent) behind written.head
      (live_line live ∷ (written.items ++ heights_line e.heights ∷ last)) head
      (run_on F (AtLive k es e.sequent) (AtItem k es e.sequent (record { live = live; items = [] })) behind
      (live_line live ∷ [])
      (written.items ++ heights_line e.heights ∷ last) lives
      (run_on F (AtItem k es e.sequent (record { live = live; items = [] })) (AtItem k es e.sequent e.traces) behind
      written.items
      (heights_line e.heights ∷ last) items
      (run_on F (AtItem k es e.sequent e.traces) (AtDecision k es b []) behind (heights_line e.heights ∷ []) last
      heights decided))))

  entries_from : (form : Form) (es more : List Entry) (lines : List Line)
      → Fits wanted
      → length es + length more ≡ wanted
      → SequentsFit form → All (IsEntry names wanted) more → EntriesLines form (length es) more lines
      → Run v left (at_entry (known names form wanted) es) lines
      (AtEnd (record { names = names; entries = es ++ more }))
  entries_from form es [] lines few full tables are written =
      let none : nat_lt (length es) wanted ≡ false = grind (arith, nat_tests) in
      subst (λ ls. Run v left (at_entry (known names form wanted) es) ls
      (AtEnd (record { names = names; entries = es ++ [] }))) (sym written)
      (ap (λ b. cond b (AtEntry (known names form wanted) es) (AtEnd (record { names = names; entries = es }))) none
      ∙ ap (λ l. AtEnd (record { names = names; entries = l })) (sym (append-nil es)))
  entries_from form es (e ∷ more) lines few full tables are (first, others, one, rest, is) =
      let k = known names form wanted in
      let end = AtEnd (record { names = names; entries = es ++ e ∷ more }) in
      let below : nat_lt (length es) wanted ≡ true = grind (arith, nat_tests) in
      let run =
      entry_run form es e first few (omega (arith, full)) tables (All-head (IsEntry names wanted) e more are) one in
      let next : length es + 1 ≡ length (es ++ e ∷ []) = omega (arith, length-append es (e ∷ [])) in
      let runs =
      entries_from form (es ++ e ∷ []) more others few (omega (arith, full, next)) tables
      (All-tail (IsEntry names wanted) e more are)
      (subst (λ i. EntriesLines form i more others) next rest) in
      subst (λ p. Run v left p lines end)
      (sym (ap (λ b. cond b (AtEntry k es) (AtEnd (record { names = names; entries = es }))) below))
      (subst (λ ls. Run v left (AtEntry k es) ls end) (sym is)
      (run_on (body v left) (AtEntry k es) (at_entry k (es ++ e ∷ [])) end first others run
      (subst (λ l. Run v left (at_entry k (es ++ e ∷ [])) others (AtEnd (record { names = names; entries = l })))
      (append_assoc es (e ∷ []) more) runs)))

-- ---- a body

pub first_run : (v : Version) (left : List ℕ) (form : Form) (names : ℕ) (lines : List Line)
    → Fits names
    → IsForm v names form
    → FirstLines form names lines
    → Run v left AtNames lines (AtEntries names form) × SequentsFit form
first_run One left InFull names lines fits is written =
    (subst (λ ls. Run One left AtNames ls (AtEntries names InFull)) (sym written) (names_run One left names fits), tt)
first_run One left (ByTables qs ks) names lines fits is written = absurd is
first_run Two left InFull names lines fits is written = absurd is
first_run Two left (ByTables qs ks) names lines fits is (w, spells, written) =
    let F = body Two left in
    let tables : List Line = sequents_line (length qs) ∷ map sequent_line qs in
    let stacks : List Line = stacks_line w ∷ map stack_line ks in
    let run =
    run_on F AtNames (AtSequents names) (AtEntries names (ByTables qs ks)) (names_line names ∷ []) (tables ++ stacks)
    (names_run Two left names fits)
    (run_on F (AtSequents names) (AtStacks names qs) (AtEntries names (ByTables qs ks)) tables stacks
    (sequents_run Two left names qs is.sequents_fit is.nodes_fit is.sequents_ascend)
    (stacks_run Two left names qs ks w fits spells is.are_stacks)) in
    (subst (λ ls. Run Two left AtNames ls (AtEntries names (ByTables qs ks))) (sym written) run, is.sequents_fit)

-- the lines from the number of entries on
pub rest_run : (v : Version) (left : List ℕ) (form : Form) (r : Refutation) (lines : List Line)
    → IsRefutation r
    → IsForm v r.names form
    → (written : BodyLines form r lines)
    → Run v left (AtEntries r.names form) (entries_line (length r.entries) ∷ (written.entries ++ end_line ∷ [])) (AtNothing r)
rest_run v left form r lines is is_form written =
    let F = body v left in
    let count = length r.entries in
    let k = known r.names form count in
    let first = first_run v left form r.names written.first is.names_fit is_form written.are_first in
    let counts = entries_run v left r.names form count is.entries_fit is.has_start in
    let entries =
    entries_from v left r.names count is.names_fit form [] r.entries written.entries is.entries_fit (omega arith)
    first.1 is.are_entries written.are_entries
    in
    run_on F (AtEntries r.names form) (at_entry k []) (AtNothing r) (entries_line count ∷ [])
    (written.entries ++ end_line ∷ []) counts
    (run_on F (at_entry k []) (AtEnd r) (AtNothing r) written.entries (end_line ∷ []) entries (end_run v left r))

pub body_run : (v : Version) (left : List ℕ) (form : Form) (r : Refutation) (lines : List Line)
    → IsRefutation r
    → IsForm v r.names form
    → BodyLines form r lines → Run v left AtNames lines (AtNothing r)
body_run v left form r lines is is_form written =
    let first = first_run v left form r.names written.first is.names_fit is_form written.are_first in
    subst (λ ls. Run v left AtNames ls (AtNothing r)) (sym written.are_lines)
    (run_on (body v left) AtNames (AtEntries r.names form) (AtNothing r) written.first
    (entries_line (length r.entries) ∷ (written.entries ++ end_line ∷ [])) first.0
    (rest_run v left form r lines is is_form written))
