-- What was read so far is what the place keeps.
--
--   around_lines, AroundKeeps  == the lines of the splits around a line, and what they keep
--   Stands v p L               == the lines L, behind which stands p, are those of what p keeps
--   sequents_place, stacks_place, entries_place == what stands behind a table and behind the entries
--   sequents_push, stacks_push, item_lines_push, entries_push == one more line of a table, item, entry
--   whole_entry, close         == an entry is whole, and a decision with the splits that it completes
use Rattle.std.proofs.Common.{◌≡◌, ℕ, ◌+◌, ◌-◌, ◌<◌, ◌≤◌, ◌⊎◌, true, false, cond, nat_lt, max, List, [], ◌∷◌, ◌++◌, Option, None, Some, length}
use Rattle.std.proofs.Common.{drop, map, All, codes, refl, sym, ap, subst, ◌∙◌, inl, inr, length-append, append_assoc, arith}
use Rattle.std.proofs.Math.Nat.{max-le}
use Rattle.std.proofs.lemmas.Bool.{cases_lt}
use Rattle.std.proofs.lemmas.Bool.Decides.{nat_tests}
use Rattle.std.proofs.lemmas.List.{append-nil, map-append}
use Rattle.std.proofs.lemmas.List.Elements.{All-push}
use Rattle.ml_base.specs.declared.version.Version.{Version}
use Rattle.ml_base.specs.declared.version.Version.TheVariants.{Two}
use Rattle.ml_lines.specs.Lines.{Word, Line}
use Rattle.ml_lists.specs.Ascending.{IsAscending}
use Rattle.ml_lists.specs.Last.{last_of}
use Rattle.ml_trace.specs.Stack as traced
use Rattle.ml_trace.specs.declared.letters.AutomatonState.{AutomatonState}
use Rattle.ml_refutation.specs.Refutation.{Refutation, Entry, Decision, Split, Fits, IsAbove, AreAbove, IsStack, IsItem, IsDecided, IsEntry, IsRefutation, nesting}
use Rattle.ml_refutation.specs.declared.refutation.TheConstants.{NESTING_LIMIT}
use Rattle.ml_refutation_text.specs.RefutationText.{names_line, entries_line, sequents_line, stacks_line, sequent_line}
use Rattle.ml_refutation_text.specs.LineKinds.{Spells}
use Rattle.ml_refutation_text.specs.BodyRules.{Form, InFull, ByTables}
use Rattle.ml_refutation_text.specs.RefutationText.{stack_line, numbered_line, live_line, heights_line, split_line, decision_lines}
use Rattle.ml_refutation_text.specs.private.TextLines.{HeadLines, ItemLine}
use Rattle.ml_refutation_text.specs.private.TextLines.{ItemLines, EntryLines, EntriesLines, FirstLines, BodyLines, IsForm}
use Rattle.ml_refutation_text.specs.BodyRules.{Known, Around, InLeft, InRight, Begun, Place, AtNames, AtSequents, AtTableSequent, AtStacks}
use Rattle.ml_refutation_text.specs.BodyRules.{AtTableStack, AtEntries, AtEntry, AtSequent, AtLive, AtItem, AtDecision, AtEnd, AtNothing}
use Rattle.ml_refutation_text.specs.BodyRules.{values, at_sequent_table, at_stack_table, at_entry, whole, closed}
use Rattle.ml_refutation_text.proofs.ReadLines.{IsListedLine, IsStackLine}

pub both_nested : (a b c limit : ℕ) → a + c ≤ limit → b + c ≤ limit → max a b + c ≤ limit
both_nested a b c limit first second =
    let most : max a b ≤ limit - c = max-le (omega (arith, first)) (omega (arith, second)) in omega (arith, most, first)

-- ---- what was read so far

-- the lines of the decision whose splits stand around
abbrev pub around_lines : List Around → List Line
around_lines [] = []
around_lines (InLeft n ∷ around) = around_lines around ++ split_line n ∷ []
around_lines (InRight n left ∷ around) = around_lines around ++ split_line n ∷ decision_lines left

abbrev pub AroundKeeps : ℕ → ℕ → List Around → Type 0
AroundKeeps names wanted [] = Unit {0}
AroundKeeps names wanted (InLeft n ∷ around) = Fits n × (length around < NESTING_LIMIT) × AroundKeeps names wanted around
AroundKeeps names wanted (InRight n left ∷ around) =
    Fits n × (nesting left + (length around + 1) ≤ NESTING_LIMIT) × IsDecided names wanted left × AroundKeeps names wanted around

module _ (v : Version) where
  pub record InSequents (n size : ℕ) (rows : List (List ℕ)) (lines : List Line) : Type 0 where
    pub version : v ≡ Two
    pub names_fit : Fits n
    pub size_fits : Fits size
    pub within : length rows ≤ size
    pub nodes_fit : All (All Fits) rows
    pub ascend : All IsAscending rows
    pub are_lines : lines ≡ names_line n ∷ sequents_line size ∷ map sequent_line rows

  pub record InStacks (n : ℕ) (qs : List (List ℕ)) (size : ℕ) (rows : List (List ℕ)) (lines : List Line) : Type 0 where
    pub before : List Line
    pub sequents : InSequents n (length qs) qs before
    pub w : Word
    pub spells : Spells w size
    pub within : length rows ≤ size
    pub are_stacks : All (IsStack n) rows
    pub are_lines : lines ≡ before ++ stacks_line w ∷ map stack_line rows

  pub record Began (n : ℕ) (form : Form) (lines : List Line) : Type 0 where
    pub names_fit : Fits n
    pub is_form : IsForm v n form
    pub is_first : FirstLines form n lines

  pub record SoFar (k : Known) (es : List Entry) (lines : List Line) : Type 0 where
    pub first : List Line
    pub entries : List Line
    pub began : Began k.names k.form first
    pub wanted_fits : Fits k.wanted
    pub some : 0 < k.wanted
    pub within : length es ≤ k.wanted
    pub are_entries : EntriesLines k.form 0 es entries
    pub keep : All (IsEntry k.names k.wanted) es
    pub are_lines : lines ≡ first ++ entries_line k.wanted ∷ entries

  pub record Headed (k : Known) (es : List Entry) (q : List ℕ) (lines : List Line) : Type 0 where
    pub before : List Line
    pub head : List Line
    pub so_far : SoFar k es before
    pub below : length es < k.wanted
    pub is_head : HeadLines k.form (length es) q head
    pub fit : All Fits q
    pub ascends : IsAscending q
    pub are_lines : lines ≡ before ++ head

  pub record Itemed (k : Known) (es : List Entry) (q : List ℕ) (traces : traced.Entry AutomatonState) (lines : List Line) : Type 0 where
    pub before : List Line
    pub items : List Line
    pub headed : Headed k es q before
    pub within : traces.live ≤ k.names
    pub are_items : ItemLines k.form traces.items items
    pub ascend : AreAbove None (map (λ a. a.state) traces.items)
    pub keep : All (IsItem traces.live) traces.items
    pub are_lines : lines ≡ before ++ live_line traces.live ∷ items

  pub record Deciding (k : Known) (es : List Entry) (b : Begun) (lines : List Line) : Type 0 where
    pub before : List Line
    pub itemed : Itemed k es b.sequent b.traces before
    pub fit : All Fits b.heights
    pub a_height_each : length b.heights ≡ k.names + 1
    pub are_lines : lines ≡ before ++ heights_line b.heights ∷ []

  pub record Undecided (k : Known) (es : List Entry) (b : Begun) (around : List Around) (lines : List Line) : Type 0 where
    pub before : List Line
    pub deciding : Deciding k es b before
    pub keeps : AroundKeeps k.names k.wanted around
    pub are_lines : lines ≡ before ++ around_lines around

  pub record Ended (r : Refutation) (lines : List Line) : Type 0 where
    pub form : Form
    pub so_far : SoFar (record { names = r.names; form = form; wanted = length r.entries }) r.entries lines

  pub record Whole (r : Refutation) (lines : List Line) : Type 0 where
    pub is_refutation : IsRefutation r
    pub form : Form
    pub is_form : IsForm v r.names form
    pub are_lines : BodyLines form r lines

  abbrev pub Stands : Place → List Line → Type 0
  Stands AtNames lines = lines ≡ []
  Stands (AtSequents n) lines = (v ≡ Two) × Fits n × (lines ≡ names_line n ∷ [])
  Stands (AtTableSequent n size rows) lines = InSequents n size rows lines × (length rows < size)
  Stands (AtStacks n qs) lines = InSequents n (length qs) qs lines
  Stands (AtTableStack n qs size rows) lines = InStacks n qs size rows lines × (length rows < size)
  Stands (AtEntries n form) lines = Began n form lines
  Stands (AtEntry k es) lines = SoFar k es lines × (length es < k.wanted)
  Stands (AtSequent k es) lines =
      (before : List Line) × SoFar k es before × (length es < k.wanted) × (k.form ≡ InFull) × (lines ≡ before ++ numbered_line (length es) ∷ [])
  Stands (AtLive k es q) lines = Headed k es q lines
  Stands (AtItem k es q traces) lines = Itemed k es q traces lines
  Stands (AtDecision k es b around) lines = Undecided k es b around lines
  Stands (AtEnd r) lines = Ended r lines
  Stands (AtNothing r) lines = Whole r lines

  -- ---- places behind the last line of a table, and of the entries

  pub sequents_place : (n size : ℕ) (rows : List (List ℕ)) (lines : List Line) → InSequents n size rows lines
      → Stands (at_sequent_table n size rows) lines
  sequents_place n size rows lines is = go (cases_lt (length rows) size)
    where
      go : (length rows < size) ⊎ (size ≤ length rows) → Stands (at_sequent_table n size rows) lines
      go (inl below) =
          let e : nat_lt (length rows) size ≡ true = grind (arith, nat_tests) in
          subst (λ b. Stands (cond b (AtTableSequent n size rows) (AtStacks n rows)) lines) (sym e) (is, below)
      go (inr past) =
          let e : nat_lt (length rows) size ≡ false = grind (arith, nat_tests) in
          let same : size ≡ length rows = omega (arith, past, is.within) in
          subst (λ b. Stands (cond b (AtTableSequent n size rows) (AtStacks n rows)) lines) (sym e)
          (subst (λ s. InSequents n s rows lines) same is)

  pub tables_began : (n : ℕ) (qs rows : List (List ℕ)) (lines : List Line) → InStacks n qs (length rows) rows lines
      → Began n (ByTables qs rows) lines
  tables_began n qs rows lines is = record {
    names_fit = is.sequents.names_fit;
    is_form =
        subst (λ u. IsForm u n (ByTables qs rows)) (sym is.sequents.version)
        (record {
          sequents_fit = is.sequents.size_fits;
          nodes_fit = is.sequents.nodes_fit;
          sequents_ascend = is.sequents.ascend;
          are_stacks = is.are_stacks;
        });
    is_first = (is.w, is.spells, is.are_lines ∙ ap (λ first. first ++ stacks_line is.w ∷ map stack_line rows) is.sequents.are_lines);
  }

  pub stacks_place : (n : ℕ) (qs : List (List ℕ)) (size : ℕ) (rows : List (List ℕ)) (lines : List Line)
      → InStacks n qs size rows lines
      → Stands (at_stack_table n qs size rows) lines
  stacks_place n qs size rows lines is = go (cases_lt (length rows) size)
    where
      go : (length rows < size) ⊎ (size ≤ length rows) → Stands (at_stack_table n qs size rows) lines
      go (inl below) =
          let e : nat_lt (length rows) size ≡ true = grind (arith, nat_tests) in
          subst (λ b. Stands (cond b (AtTableStack n qs size rows) (AtEntries n (ByTables qs rows))) lines) (sym e) (is, below)
      go (inr past) =
          let e : nat_lt (length rows) size ≡ false = grind (arith, nat_tests) in
          let same : size ≡ length rows = omega (arith, past, is.within) in
          subst (λ b. Stands (cond b (AtTableStack n qs size rows) (AtEntries n (ByTables qs rows))) lines) (sym e)
          (tables_began n qs rows lines (subst (λ s. InStacks n qs s rows lines) same is))

  pub entries_place : (k : Known) (es : List Entry) (lines : List Line)
      → SoFar k es lines
      → Stands (at_entry k es) lines
  entries_place k es lines is = go (cases_lt (length es) k.wanted)
    where
      go : (length es < k.wanted) ⊎ (k.wanted ≤ length es) → Stands (at_entry k es) lines
      go (inl below) =
          let e : nat_lt (length es) k.wanted ≡ true = grind (arith, nat_tests) in
          subst (λ b. Stands (cond b (AtEntry k es) (AtEnd (record { names = k.names; entries = es }))) lines) (sym e) (is, below)
      go (inr past) =
          let e : nat_lt (length es) k.wanted ≡ false = grind (arith, nat_tests) in
          let same : k.wanted ≡ length es = omega (arith, past, is.within) in
          subst (λ b. Stands (cond b (AtEntry k es) (AtEnd (record { names = k.names; entries = es }))) lines) (sym e)
          (record {
            form = k.form;
            so_far = subst (λ n. SoFar (record { names = k.names; form = k.form; wanted = n }) es lines) same is;
          })

  -- ---- one more line

  pub sequents_push : (n size : ℕ) (rows : List (List ℕ)) (lines : List Line) (line : Line)
      → InSequents n size rows lines
      → length rows < size → IsListedLine (codes "sequent") line → IsAscending (values (drop 1 line))
      → InSequents n size (rows ++ values (drop 1 line) ∷ []) (lines ++ line ∷ [])
  sequents_push n size rows lines line is below listed ascends =
      let q = values (drop 1 line) in record {
        version = is.version;
        names_fit = is.names_fit;
        size_fits = is.size_fits;
        within = omega (arith, below, length-append rows (q ∷ []));
        nodes_fit = All-push (All Fits) rows q is.nodes_fit listed.fit;
        ascend = All-push IsAscending rows q is.ascend ascends;
        are_lines =
            (λ i. is.are_lines i ++ listed.is_line i ∷ [])
            ∙ ap (λ ls. names_line n ∷ sequents_line size ∷ ls) (sym (map-append sequent_line rows (q ∷ [])));
      }

  pub stacks_push : (n : ℕ) (qs : List (List ℕ)) (size : ℕ) (rows : List (List ℕ)) (lines : List Line) (line : Line)
      → InStacks n qs size rows lines → length rows < size → IsStackLine line → IsAscending (values (drop 1 line))
      → All (λ x. x < n) (values (drop 1 line)) → InStacks n qs size (rows ++ values (drop 1 line) ∷ []) (lines ++ line ∷ [])
  stacks_push n qs size rows lines line is below stack ascends in_use =
      let ns = values (drop 1 line) in record {
        before = is.before;
        sequents = is.sequents;
        w = is.w;
        spells = is.spells;
        within = omega (arith, below, length-append rows (ns ∷ []));
        are_stacks = All-push (IsStack n) rows ns is.are_stacks (record { some = stack.some; ascends = ascends; below = in_use });
        are_lines =
            (λ i. is.are_lines i ++ stack.is_line i ∷ [])
            ∙ append_assoc is.before (stacks_line is.w ∷ map stack_line rows) (stack_line ns ∷ [])
            ∙ ap (λ ls. is.before ++ stacks_line is.w ∷ ls) (sym (map-append stack_line rows (ns ∷ [])));
      }

pub item_lines_push : (form : Form) (items : List (traced.Item AutomatonState)) (a : traced.Item AutomatonState)
    (lines : List Line) (line : Line)
    → ItemLines form items lines → ItemLine form a line → ItemLines form (items ++ a ∷ []) (lines ++ line ∷ [])
item_lines_push form [] a lines line is one = (line, [], one, refl, ap (λ ls. ls ++ line ∷ []) is)
item_lines_push form (b ∷ items) a lines line (first, others, is_first, rest, is) one =
    (first, others ++ line ∷ [], is_first, item_lines_push form items a others line rest one, ap (λ ls. ls ++ line ∷ []) is)

pub above_push : (before : Option AutomatonState) (ss : List AutomatonState) (s : AutomatonState) → AreAbove before ss
    → IsAbove (last_of before ss) s → AreAbove before (ss ++ s ∷ [])
above_push before [] s all above = (above, tt)
above_push before (t ∷ ss) s all above = (all.0, above_push (Some t) ss s all.1 above)

pub entries_push : (form : Form) (i : ℕ) (es : List Entry) (e : Entry) (lines more : List Line)
    → EntriesLines form i es lines
    → EntryLines form (i + length es) e more → EntriesLines form i (es ++ e ∷ []) (lines ++ more)
entries_push form i [] e lines more is one =
    let same : i + length {A = Entry} [] ≡ i = omega arith in
    (more, [], subst (λ n. EntryLines form n e more) same one, refl, ap (λ ls. ls ++ more) is ∙ sym (append-nil more))
entries_push form i (x ∷ es) e lines more (first, others, is_first, rest, is) one =
    let same : i + length (x ∷ es) ≡ i + 1 + length es = omega arith in (
      first,
      others ++ more,
      is_first,
      entries_push form (i + 1) es e others more rest (subst (λ n. EntryLines form n e more) same one),
      ap (λ ls. ls ++ more) is ∙ append_assoc first others more,
    )

pub regroup : (a b c d e : List Line) → (((a ++ b) ++ c) ++ d) ++ e ≡ a ++ (b ++ (c ++ (d ++ e)))
regroup a b c d e =
    append_assoc ((a ++ b) ++ c) d e ∙ append_assoc (a ++ b) c (d ++ e) ∙ append_assoc a b (c ++ (d ++ e))

module _ (v : Version) where
  -- an entry is whole
  pub whole_entry : (k : Known) (es : List Entry) (b : Begun) (d : Decision) (before lines : List Line)
      → Deciding v k es b before
      → IsDecided k.names k.wanted d → nesting d ≤ NESTING_LIMIT → lines ≡ before ++ decision_lines d
      → SoFar v k (es ++ whole b d ∷ []) lines
  whole_entry k es b d before lines is decided nested are =
      let item = is.itemed in
      let head = item.headed in
      let far = head.so_far in
      let live = live_line b.traces.live ∷ item.items in
      let heights : List Line = heights_line b.heights ∷ [] in
      let last = decision_lines d in
      let entry : List Line = head.head ++ (live ++ (heights ++ last)) in record {
        first = far.first;
        entries = far.entries ++ entry;
        began = far.began;
        wanted_fits = far.wanted_fits;
        some = far.some;
        within = omega (arith, head.below, length-append es (whole b d ∷ []));
        are_entries =
            let same : length es ≡ 0 + length es = omega arith in
            entries_push k.form 0 es (whole b d) far.entries entry far.are_entries
            (subst (λ n. EntryLines k.form n (whole b d) entry) same
            (record {
              head = head.head;
              items = item.items;
              is_head = head.is_head;
              are_items = item.are_items;
              are_lines = refl;
            }));
        keep =
            All-push (IsEntry k.names k.wanted) es (whole b d) far.keep
            (record {
              nodes_fit = head.fit;
              ascends = head.ascends;
              is_traced = record { within = item.within; ascend = item.ascend; are_items = item.keep };
              heights_fit = is.fit;
              a_height_each = is.a_height_each;
              is_decided = decided;
              nested = nested;
            });
        are_lines =
            are ∙ ap (λ ls. ls ++ last) (is.are_lines ∙ ap (λ ls. ls ++ heights) (item.are_lines ∙ ap (λ ls. ls ++ live) head.are_lines))
            ∙ regroup head.before head.head live heights last
            ∙ ap (λ ls. ls ++ entry) far.are_lines
            ∙ append_assoc far.first (entries_line k.wanted ∷ far.entries) entry;
      }

  -- a decision is whole, and with it each split around whose right one it is
  pub close : (k : Known) (es : List Entry) (b : Begun) (around : List Around) (d : Decision) (before lines : List Line)
      → Deciding v k es b before
      → AroundKeeps k.names k.wanted around → IsDecided k.names k.wanted d → nesting d + length around ≤ NESTING_LIMIT
      → lines ≡ before ++ (around_lines around ++ decision_lines d) → Stands v (closed k es b around d) lines
  close k es b [] d before lines is keeps decided deep are =
      entries_place v k (es ++ whole b d ∷ []) lines (whole_entry k es b d before lines is decided (omega (arith, deep)) are)
  close k es b (InLeft n ∷ around) d before lines is keeps decided deep are = record {
    before = before;
    deciding = is;
    keeps = (keeps.0, omega (arith, deep), decided, keeps.2);
    are_lines = are ∙ ap (λ ls. before ++ ls) (append_assoc (around_lines around) (split_line n ∷ []) (decision_lines d));
  }
  close k es b (InRight n l ∷ around) d before lines is keeps decided deep are =
      let deeper : max (nesting l) (nesting d) + (length around + 1) ≤ NESTING_LIMIT =
      both_nested (nesting l) (nesting d) (length around + 1) NESTING_LIMIT keeps.1 (omega (arith, deep)) in
      close k es b around (Split n l d) before lines is keeps.3 (keeps.0, keeps.2, decided) (omega (arith, deeper))
      (are ∙ ap (λ ls. before ++ ls) (append_assoc (around_lines around) (split_line n ∷ decision_lines l) (decision_lines d)))

-- splits around stand no deeper than they may
pub around_nested : (names wanted : ℕ) (around : List Around)
    → AroundKeeps names wanted around
    → length around ≤ NESTING_LIMIT
around_nested names wanted [] keeps = omega arith
around_nested names wanted (InLeft n ∷ around) keeps = omega (arith, keeps.1)
around_nested names wanted (InRight n l ∷ around) keeps = omega (arith, keeps.1)
