-- The lines of a refutation are good, each at its place.
--
--   names_run, entries_run, end_run  == the first line, the number of entries, the last line
--   sequents_run, stacks_run         == the number of lines of a table, and these
--   head_run, live_run, items_run, heights_run == the lines of an entry before its decision
--   go_usual, mark_back              == a go is of its kind, and tells its mark
--   leaf_run, decision_run           == a clash or a go, and a whole decision
use Rattle.std.proofs.Common.{◌≡◌, ℕ, ◌+◌, ◌<◌, ◌≤◌, true, false, cond, nat_lt, max, List, [], ◌∷◌, ◌++◌, length, map, All}
use Rattle.std.proofs.Common.{codes, refl, sym, ap, subst, ◌∙◌, inl, inr, length-append, append_assoc, arith}
use Rattle.std.proofs.lemmas.Bool.Decides.{nat_tests}
use Rattle.std.proofs.Math.Nat.{le-max_left, le-max_right}
use Rattle.std.proofs.lemmas.List.{append-nil}
use Rattle.std.proofs.lemmas.List.Elements.{All-nil, All-head, All-tail, All-weaker}
use Rattle.ml_base.specs.declared.version.Version.{Version}
use Rattle.ml_lines.specs.Lines.{Word, Line, number}
use Rattle.ml_lines.specs.Reading.{is_word, AreWords, IsNumber, word}
use Rattle.ml_lists.specs.Ascending.{IsAscending}
use Rattle.ml_lists.specs.Documents.{KeepsAll}
use Rattle.std.specs.Str.{bytes_eq}
use Rattle.ml_trace.specs.declared.marks.Mark.{Mark}
use Rattle.ml_trace.specs.declared.marks.Mark.TheVariants.{Red, Green, Neutral}
use Rattle.ml_sequent.specs.declared.clashes.ClashCause.{ClashCause}
use Rattle.ml_sequent.specs.declared.clashes.ClashCause.TheVariants.{False, Pair, Cycle}
use Rattle.ml_refutation.specs.Refutation.{Refutation, Entry, Decision, Split, Clash, Go, Fits, FitsCause, IsMarkOf, IsStack, IsDecided, nesting}
use Rattle.ml_refutation.specs.declared.refutation.TheConstants.{NESTING_LIMIT}
use Rattle.ml_refutation_text.specs.RefutationText.{numbers, names_line, entries_line, sequents_line, stacks_line, sequent_line}
use Rattle.ml_refutation_text.specs.LineKinds.{Spells}
use Rattle.ml_refutation_text.specs.BodyRules.{Form, ByTables}
use Rattle.ml_refutation_text.specs.RefutationText.{stack_line, live_line, split_line, clash_line, go_line, mark_words, decision_lines, end_line}
use Rattle.ml_refutation_text.specs.LineKinds.{Kind, IsOfKind, IsOfKinds, HaveNumbers}
use Rattle.ml_refutation_text.specs.BodyRules.{numbered, stack_kind, clash_kinds, go_kinds, further_rules, mark_of, Known, Around, InLeft, InRight}
use Rattle.ml_refutation_text.specs.private.ListKinds.{sequent_kind}
use Rattle.ml_refutation_text.specs.BodyRules.{Begun, Place, AtNames, AtSequents, AtTableSequent, AtStacks, AtTableStack, AtEntries, AtLive, AtItem, AtDecision}
use Rattle.ml_refutation_text.specs.BodyRules.{AtEnd, AtNothing, at_sequent_table, at_stack_table, at_entry, closed, after_names, body}
use Rattle.ml_refutation_text.specs.private.BranchReads.{FitsMark}
use Rattle.ml_lists.specs.Readings.{Runs}
use Rattle.ml_lists.proofs.Runs.{run_on}
use Rattle.ml_refutation_text.proofs.ReadWords.{is_number, are_numbers, words_first, words_number, words_numbers, value_back, values_back, differ, spelt_is_word}

-- the parts of a split are nested less deep
nest_left : (l r around limit : ℕ) → 1 + max l r + around ≤ limit
    → (around < limit) × (l + (around + 1) ≤ limit) × (r + (around + 1) ≤ limit)
nest_left l r around limit deep =
    let in_left : l ≤ max l r = le-max_left l r in
    let in_right : r ≤ max l r = le-max_right l r in
    (omega (arith, deep), omega (arith, deep, in_left), omega (arith, deep, in_right))

module _ (v : Version) (left : List ℕ) where
  abbrev pub Run : Place → List Line → Place → Type 0
  Run = Runs (body v left)

  -- a fixed word and a number
  pub numbered_of : (fixed : Word) (n : ℕ)
      → is_word fixed ≡ true
      → Fits n
      → IsOfKind (numbered fixed) (fixed ∷ number n ∷ [])
  numbered_of fixed n word fits = (words_first fixed (number n ∷ []) word (words_number n [] fits refl), (refl, (tt, refl)))

  pub numbered_fits : (fixed : Word) (n : ℕ) → Fits n → HaveNumbers (numbered fixed ∷ []) (fixed ∷ number n ∷ [])
  numbered_fits fixed n fits = ((λ _. (tt, (is_number n fits, All-nil IsNumber))), tt)

  pub names_run : (n : ℕ) → Fits n → Run AtNames (names_line n ∷ []) (after_names v n)
  names_run n fits = (
    (inl (numbered_of (codes "names") n refl fits), (numbered_fits (codes "names") n fits, tt)),
    ap (after_names v) (value_back n fits),
  )

  pub entries_run : (n : ℕ) (form : Form) (count : ℕ) → Fits count → 0 < count
      → Run (AtEntries n form) (entries_line count ∷ []) (at_entry (record { names = n; form = form; wanted = count }) [])
  entries_run n form count fits some = (
    (
      inl (numbered_of (codes "entries") count refl fits),
      (numbered_fits (codes "entries") count fits, (omega (arith, value_back count fits, some), tt)),
    ),
    ap (λ c. at_entry (record { names = n; form = form; wanted = c }) []) (value_back count fits),
  )

  pub end_run : (r : Refutation) → Run (AtEnd r) (end_line ∷ []) (AtNothing r)
  end_run r = ((inl (refl, (refl, refl)), (((λ _. (tt, All-nil IsNumber)), tt), tt)), refl)

  -- ---- tables

  pub sequent_good : (q : List ℕ) → All Fits q → IsOfKind sequent_kind (sequent_line q)
  sequent_good q fit = (words_first (codes "sequent") (numbers q) refl (words_numbers q fit), (refl, tt))

  pub sequent_fits : (q : List ℕ) → All Fits q → HaveNumbers (sequent_kind ∷ []) (sequent_line q)
  sequent_fits q fit = ((λ _. (tt, are_numbers q fit)), tt)

  sequents_from : (n : ℕ) (size : ℕ) (rows more : List (List ℕ))
      → length rows + length more ≡ size
      → All (All Fits) more
      → All IsAscending more → Run (at_sequent_table n size rows) (map sequent_line more) (AtStacks n (rows ++ more))
  sequents_from n size rows [] full fit ascend =
      let none : nat_lt (length rows) size ≡ false = grind (arith, nat_tests) in
      ap (λ b. cond b (AtTableSequent n size rows) (AtStacks n rows)) none ∙ ap (AtStacks n) (sym (append-nil rows))
  sequents_from n size rows (q ∷ more) full fit ascend =
      let below : nat_lt (length rows) size ≡ true = grind (arith, nat_tests) in
      let fits = All-head (All Fits) q more fit in
      let ascends = All-head IsAscending q more ascend in
      let back = values_back q fits in
      let all : List (List ℕ) = rows ++ q ∷ [] in
      let others =
      sequents_from n size all more (omega (arith, length-append rows (q ∷ []), full)) (All-tail (All Fits) q more fit)
      (All-tail IsAscending q more ascend) in
      subst (λ p. Run p (map sequent_line (q ∷ more)) (AtStacks n (rows ++ q ∷ more)))
      (sym (ap (λ b. cond b (AtTableSequent n size rows) (AtStacks n rows)) below)) (
        (inl (sequent_good q fits), (sequent_fits q fits, (subst IsAscending (sym back) ascends, tt))),
        subst (λ p. Run p (map sequent_line more) (AtStacks n (rows ++ q ∷ more)))
            (ap (λ ns. at_sequent_table n size (rows ++ ns ∷ [])) (sym back))
            (subst (λ ls. Run (at_sequent_table n size all) (map sequent_line more) (AtStacks n ls)) (append_assoc rows (q ∷ []) more) others),
      )

  pub sequents_run : (n : ℕ) (qs : List (List ℕ)) → Fits (length qs) → All (All Fits) qs → All IsAscending qs
      → Run (AtSequents n) (sequents_line (length qs) ∷ map sequent_line qs) (AtStacks n qs)
  sequents_run n qs small fit ascend = (
    (inl (numbered_of (codes "sequents") (length qs) refl small), (numbered_fits (codes "sequents") (length qs) small, tt)),
    subst (λ size. Run (at_sequent_table n size []) (map sequent_line qs) (AtStacks n qs)) (sym (value_back (length qs) small))
        (sequents_from n (length qs) [] qs (omega arith) fit ascend),
  )

  pub stack_good : (ns : List ℕ) → 0 < length ns → All Fits ns → IsOfKind stack_kind (stack_line ns)
  stack_good [] some fit = absurd (omega (arith, some))
  stack_good (x ∷ xs) some fit = (words_first (codes "stack") (numbers (x ∷ xs)) refl (words_numbers (x ∷ xs) fit), (refl, (tt, tt)))

  pub stack_fits : (ns : List ℕ) → All Fits ns → HaveNumbers (stack_kind ∷ []) (stack_line ns)
  stack_fits [] fit = ((λ _. (tt, tt)), tt)
  stack_fits (x ∷ xs) fit = ((λ _. (tt, (is_number x (All-head Fits x xs fit), are_numbers xs (All-tail Fits x xs fit)))), tt)

  -- the names of a stack fit, where the number of names does
  pub names_fit : (live : ℕ) (ns : List ℕ) → Fits live → All (λ x. x < live) ns → All Fits ns
  names_fit live ns fits below = All-weaker (λ x. x < live) Fits (λ x less. omega (arith, fits, less)) ns below

  stacks_from : (n : ℕ) (qs : List (List ℕ)) (size : ℕ) (rows more : List (List ℕ))
      → Fits n
      → length rows + length more ≡ size
      → All (IsStack n) more → Run (at_stack_table n qs size rows) (map stack_line more) (AtEntries n (ByTables qs (rows ++ more)))
  stacks_from n qs size rows [] fits full are =
      let none : nat_lt (length rows) size ≡ false = grind (arith, nat_tests) in
      ap (λ b. cond b (AtTableStack n qs size rows) (AtEntries n (ByTables qs rows))) none
      ∙ ap (λ ls. AtEntries n (ByTables qs ls)) (sym (append-nil rows))
  stacks_from n qs size rows (ns ∷ more) fits full are =
      let below : nat_lt (length rows) size ≡ true = grind (arith, nat_tests) in
      let is = All-head (IsStack n) ns more are in
      let fit = names_fit n ns fits is.below in
      let back = values_back ns fit in
      let all : List (List ℕ) = rows ++ ns ∷ [] in
      let others =
      stacks_from n qs size all more fits (omega (arith, length-append rows (ns ∷ []), full)) (All-tail (IsStack n) ns more are) in
      subst (λ p. Run p (map stack_line (ns ∷ more)) (AtEntries n (ByTables qs (rows ++ ns ∷ more))))
      (sym (ap (λ b. cond b (AtTableStack n qs size rows) (AtEntries n (ByTables qs rows))) below)) (
        (
          inl (stack_good ns is.some fit),
          (stack_fits ns fit, (subst (λ xs. IsAscending xs × All (λ x. x < n) xs) (sym back) (is.ascends, is.below), tt)),
        ),
        subst (λ p. Run p (map stack_line more) (AtEntries n (ByTables qs (rows ++ ns ∷ more))))
            (ap (λ xs. at_stack_table n qs size (rows ++ xs ∷ [])) (sym back))
            (subst (λ ls. Run (at_stack_table n qs size all) (map stack_line more) (AtEntries n (ByTables qs ls)))
            (append_assoc rows (ns ∷ []) more) others),
      )

  pub stacks_run : (n : ℕ) (qs ks : List (List ℕ)) (w : Word) → Fits n → Spells w (length ks) → All (IsStack n) ks
      → Run (AtStacks n qs) (stacks_line w ∷ map stack_line ks) (AtEntries n (ByTables qs ks))
  stacks_run n qs ks w fits spells are = (
    (
      inl (words_first (codes "stacks") (w ∷ []) refl (words_first w [] (spelt_is_word w (length ks) spells) refl), (refl, (tt, refl))),
      (((λ _. (tt, ((length ks, spells), All-nil IsNumber))), tt), tt),
    ),
    subst (λ size. Run (at_stack_table n qs size []) (map stack_line ks) (AtEntries n (ByTables qs ks))) (sym spells.is_value)
        (stacks_from n qs (length ks) [] ks fits (omega arith) are),
  )

  -- ---- the lines of an entry before its decision

  pub live_run : (k : Known) (es : List Entry) (q : List ℕ) (live : ℕ) → Fits live → live ≤ k.names
      → Run (AtLive k es q) (live_line live ∷ []) (AtItem k es q (record { live = live; items = [] }))
  live_run k es q live fits within = (
    (
      inl (numbered_of (codes "live") live refl fits),
      (numbered_fits (codes "live") live fits, (omega (arith, value_back live fits, within), tt)),
    ),
    ap (λ m. AtItem k es q (record { live = m; items = [] })) (value_back live fits),
  )

  -- ---- decisions

  -- a line that begins with another word is no clash, and no go
  no_clash : (first : Word) (others : Line) (more : List Kind) → bytes_eq first (codes "clash") ≡ false
      → HaveNumbers more (first ∷ others) → HaveNumbers (clash_kinds ++ more) (first ∷ others)
  no_clash first others more other numbers = (
    (λ no. absurd (differ first (codes "clash") other no.1.0)),
    ((λ no. absurd (differ first (codes "clash") other no.1.0)), ((λ no. absurd (differ first (codes "clash") other no.1.0)), numbers)),
  )

  no_go : (first : Word) (others : Line) → bytes_eq first (codes "go") ≡ false → HaveNumbers go_kinds (first ∷ others)
  no_go first others other = (
    (λ no. absurd (differ first (codes "go") other no.1.0)),
    ((λ no. absurd (differ first (codes "go") other no.1.0)), ((λ no. absurd (differ first (codes "go") other no.1.0)), tt)),
  )

  no_split : (first : Word) (others : Line) (more : List Kind) → bytes_eq first (codes "split") ≡ false
      → HaveNumbers more (first ∷ others) → HaveNumbers (numbered (codes "split") ∷ more) (first ∷ others)
  no_split first others more other numbers = ((λ no. absurd (differ first (codes "split") other no.1.0)), numbers)

  module _ (k : Known) (es : List Entry) (b : Begun) where
    pub split_run : (around : List Around) (n : ℕ) → Fits n → length around < NESTING_LIMIT
        → Run (AtDecision k es b around) (split_line n ∷ []) (AtDecision k es b (InLeft n ∷ around))
    split_run around n fits deep = (
      (
        inl (numbered_of (codes "split") n refl fits),
        (
          (
            (λ _. (tt, (is_number n fits, All-nil IsNumber))),
            no_clash (codes "split") (number n ∷ []) go_kinds refl (no_go (codes "split") (number n ∷ []) refl),
          ),
          ((λ no. absurd (differ (codes "split") (codes "go") refl no)), ((λ _. deep), tt)),
        ),
      ),
      ap (λ m. AtDecision k es b (InLeft m ∷ around)) (value_back n fits),
    )

    -- the rules of ranges, for a clash
    clash_ranges : (x : ClashCause) (around : List Around)
        → KeepsAll (further_rules (AtDecision k es b around)) (clash_line x)
    clash_ranges x around = (
      (λ no. absurd (differ (codes "clash") (codes "go") refl no)),
      ((λ no. absurd (differ (codes "clash") (codes "split") refl no)), tt),
    )

    clash_run : (around : List Around) (x : ClashCause) → FitsCause x
        → Run (AtDecision k es b around) (clash_line x ∷ []) (closed k es b around (Clash x))
    clash_run around (False n) fits = (
      (
        inr
            (inl (
              words_first (codes "clash") (codes "false" ∷ number n ∷ []) refl
                  (words_first (codes "false") (number n ∷ []) refl (words_number n [] fits refl)),
              (refl, (refl, (tt, refl))),
            )),
        (
          no_split (codes "clash") (codes "false" ∷ number n ∷ []) (clash_kinds ++ go_kinds) refl (
            (λ _. (tt, (tt, (is_number n fits, All-nil IsNumber)))),
            (
              (λ no. absurd (differ (codes "false") (codes "pair") refl no.1.1.0)),
              ((λ no. absurd (differ (codes "false") (codes "cycle") refl no.1.1.0)), no_go (codes "clash") (codes "false" ∷ number n ∷ []) refl),
            ),
          ),
          clash_ranges (False n) around,
        ),
      ),
      ap (λ m. closed k es b around (Clash (False m))) (value_back n fits),
    )
    clash_run around (Pair p q) fits = (
      (
        inr
            (inr
            (inl (
              words_first (codes "clash") (codes "pair" ∷ number p ∷ number q ∷ []) refl
                  (words_first (codes "pair") (number p ∷ number q ∷ []) refl
                  (words_number p (number q ∷ []) fits.0 (words_number q [] fits.1 refl))),
              (refl, (refl, (tt, (tt, refl)))),
            ))),
        (
          no_split (codes "clash") (codes "pair" ∷ number p ∷ number q ∷ []) (clash_kinds ++ go_kinds) refl (
            (λ no. absurd (differ (codes "pair") (codes "false") refl no.1.1.0)),
            (
              (λ _. (tt, (tt, (is_number p fits.0, (is_number q fits.1, All-nil IsNumber))))),
              (
                (λ no. absurd (differ (codes "pair") (codes "cycle") refl no.1.1.0)),
                no_go (codes "clash") (codes "pair" ∷ number p ∷ number q ∷ []) refl,
              ),
            ),
          ),
          clash_ranges (Pair p q) around,
        ),
      ),
      (λ i. closed k es b around (Clash (Pair (value_back p fits.0 i) (value_back q fits.1 i)))),
    )
    clash_run around (Cycle n) fits = (
      (
        inr
            (inr
            (inr
            (inl (
              words_first (codes "clash") (codes "cycle" ∷ number n ∷ []) refl
                  (words_first (codes "cycle") (number n ∷ []) refl (words_number n [] fits refl)),
              (refl, (refl, (tt, refl))),
            )))),
        (
          no_split (codes "clash") (codes "cycle" ∷ number n ∷ []) (clash_kinds ++ go_kinds) refl (
            (λ no. absurd (differ (codes "cycle") (codes "false") refl no.1.1.0)),
            (
              (λ no. absurd (differ (codes "cycle") (codes "pair") refl no.1.1.0)),
              ((λ _. (tt, (tt, (is_number n fits, All-nil IsNumber)))), no_go (codes "clash") (codes "cycle" ∷ number n ∷ []) refl),
            ),
          ),
          clash_ranges (Cycle n) around,
        ),
      ),
      ap (λ m. closed k es b around (Clash (Cycle m))) (value_back n fits),
    )

    -- the words of a go
    go_words : (d e : ℕ) (others : Line) → Fits d → Fits e → AreWords others
        → AreWords (codes "go" ∷ number d ∷ number e ∷ others)
    go_words d e others fits fits' words =
        words_first (codes "go") (number d ∷ number e ∷ others) refl (words_number d (number e ∷ others) fits (words_number e others fits' words))

    -- the rules of ranges, for a go
    go_ranges : (around : List Around) (d e : ℕ) (m : Mark) (others : Line)
        → Fits e
        → e < k.wanted
        → mark_of (codes "go" ∷ number d ∷ number e ∷ others) ≡ m
        → IsMarkOf k.names m → KeepsAll (further_rules (AtDecision k es b around)) (codes "go" ∷ number d ∷ number e ∷ others)
    go_ranges around d e m others fits within back is = (
      (λ _. (omega (arith, value_back e fits, within), subst (IsMarkOf k.names) (sym back) is)),
      ((λ no. absurd (differ (codes "go") (codes "split") refl no)), tt),
    )

    pub go_usual : (d e : ℕ) (m : Mark) → Fits d → Fits e → FitsMark m
        → IsOfKinds (numbered (codes "split") ∷ (clash_kinds ++ go_kinds)) (go_line d e m)
        × HaveNumbers (numbered (codes "split") ∷ (clash_kinds ++ go_kinds)) (go_line d e m)
    go_usual d e (Red x) fits fits' fit =
        let others : Line = codes "red" ∷ number x ∷ [] in (
          inr (inr (inr (inr (inl (
            go_words d e others fits fits' (words_first (codes "red") (number x ∷ []) refl (words_number x [] fit refl)),
            (refl, (tt, (tt, (refl, (tt, refl))))),
          ))))),
          no_split (codes "go") (number d ∷ number e ∷ others) (clash_kinds ++ go_kinds) refl
              (no_clash (codes "go") (number d ∷ number e ∷ others) go_kinds refl (
                (λ _. (tt, (is_number d fits, (is_number e fits', (tt, (is_number x fit, All-nil IsNumber)))))),
                (
                  (λ no. absurd (differ (codes "red") (codes "green") refl no.1.1.1.1.0)),
                  ((λ no. absurd (differ (codes "red") (codes "neutral") refl no.1.1.1.1.0)), tt),
                ),
              )),
        )
    go_usual d e (Green x) fits fits' fit =
        let others : Line = codes "green" ∷ number x ∷ [] in (
          inr (inr (inr (inr (inr (inl (
            go_words d e others fits fits' (words_first (codes "green") (number x ∷ []) refl (words_number x [] fit refl)),
            (refl, (tt, (tt, (refl, (tt, refl))))),
          )))))),
          no_split (codes "go") (number d ∷ number e ∷ others) (clash_kinds ++ go_kinds) refl
              (no_clash (codes "go") (number d ∷ number e ∷ others) go_kinds refl (
                (λ no. absurd (differ (codes "green") (codes "red") refl no.1.1.1.1.0)),
                (
                  (λ _. (tt, (is_number d fits, (is_number e fits', (tt, (is_number x fit, All-nil IsNumber)))))),
                  ((λ no. absurd (differ (codes "green") (codes "neutral") refl no.1.1.1.1.0)), tt),
                ),
              )),
        )
    go_usual d e Neutral fits fits' fit =
        let others : Line = codes "neutral" ∷ [] in (
          inr (inr (inr (inr (inr (inr (inl (go_words d e others fits fits' refl, (refl, (tt, (tt, (refl, refl))))))))))),
          no_split (codes "go") (number d ∷ number e ∷ others) (clash_kinds ++ go_kinds) refl
              (no_clash (codes "go") (number d ∷ number e ∷ others) go_kinds refl (
                (λ no. absurd (differ (codes "neutral") (codes "red") refl no.1.1.1.1.0)),
                (
                  (λ no. absurd (differ (codes "neutral") (codes "green") refl no.1.1.1.1.0)),
                  ((λ _. (tt, (is_number d fits, (is_number e fits', (tt, All-nil IsNumber))))), tt),
                ),
              )),
        )

    mark_fits : (m : Mark) → Fits k.names → IsMarkOf k.names m → FitsMark m
    mark_fits (Red x) small is = omega (arith, small, is)
    mark_fits (Green x) small is = omega (arith, small, is)
    mark_fits Neutral small is = tt

    -- what the words behind the entry tell
    pub mark_back : (d e : ℕ) (m : Mark) → FitsMark m → mark_of (go_line d e m) ≡ m
    mark_back d e (Red x) fits = ap Red (value_back x fits)
    mark_back d e (Green x) fits = ap Green (value_back x fits)
    mark_back d e Neutral fits = refl

    go_run : (around : List Around) (d e : ℕ) (m : Mark)
        → Fits d
        → Fits e
        → Fits k.names
        → e < k.wanted
        → IsMarkOf k.names m
        → Run (AtDecision k es b around) (go_line d e m ∷ []) (closed k es b around (Go d e m))
    go_run around d e m fits fits' small within is =
        let fit = mark_fits m small is in
        let usual = go_usual d e m fits fits' fit in
        let back = mark_back d e m fit in (
          (usual.0, (usual.1, go_ranges around d e m (mark_words m) fits' within back is)),
          (λ i. closed k es b around (Go (value_back d fits i) (value_back e fits' i) (back i))),
        )

    pub decision_run : (d : Decision) (around : List Around)
        → Fits k.names
        → Fits k.wanted
        → IsDecided k.names k.wanted d
        → nesting d + length around ≤ NESTING_LIMIT
        → Run (AtDecision k es b around) (decision_lines d) (closed k es b around d)
    decision_run (Split n l r) around small few is deep =
        let bound = nest_left (nesting l) (nesting r) (length around) NESTING_LIMIT deep in
        let first = split_run around n is.0 bound.0 in
        let lefts = decision_run l (InLeft n ∷ around) small few is.1 (omega (arith, bound.1)) in
        let rights = decision_run r (InRight n l ∷ around) small few is.2 (omega (arith, bound.2)) in
        run_on (body v left) (AtDecision k es b around) (AtDecision k es b (InLeft n ∷ around)) (closed k es b around (Split n l r))
        (split_line n ∷ []) (decision_lines l ++ decision_lines r) first
        (run_on (body v left) (AtDecision k es b (InLeft n ∷ around)) (AtDecision k es b (InRight n l ∷ around))
        (closed k es b around (Split n l r)) (decision_lines l) (decision_lines r) lefts rights)
    decision_run (Clash x) around small few is deep = clash_run around x is
    decision_run (Go d e m) around small few is deep = go_run around d e m is.0 (omega (arith, is.1, few)) small is.1 is.2
