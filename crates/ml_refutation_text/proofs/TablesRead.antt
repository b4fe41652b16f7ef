-- The tables of version 2, read line by line.
--
--   SequentsTo n at rows rest    == from `at` up to `rest` these rows of a table of n sequents were read
--   StacksTo m n at rows rest    == so of a table of n stacks, with m names
--   rows_begin, row_more, rows_done, and so on == before any line, one more, and behind the last one
use Rattle.std.proofs.Common.{◌≡◌, ℕ, ◌+◌, ◌-◌, ◌<◌, ◌≤◌, ◌^◌, true, false, cond, min, nat_lt, List, [], ◌∷◌, ◌++◌, All, length, refl, sym, ap, subst, length-append, arith}
use Rattle.std.proofs.lemmas.Bool.Decides.{nat_tests}
use Rattle.std.proofs.lemmas.List.Elements.{All-nil, All-cons, All-append}
use Rattle.ml_base.specs.declared.version.Version.{Version}
use Rattle.ml_base.specs.declared.version.Version.TheVariants.{One}
use Rattle.ml_base.specs.declared.doc_refusal.DocRefusal.{DocRefusal}
use Rattle.ml_lists.specs.Ascending.{IsAscending}
use Rattle.ml_lines.specs.Lines.{Word, Line}
use Rattle.ml_lines.specs.Reading.{value}
use Rattle.ml_refutation.specs.Refutation.{Fits, IsStack}
use Rattle.ml_refutation_text.specs.RefutationText.{sequents_line, sequent_line, stacks_line, stack_line}
use Rattle.ml_refutation_text.specs.LineKinds.{Spells}
use Rattle.ml_refutation_text.specs.BodyRules.{ByTables}
use Rattle.ml_refutation_text.specs.BodyRules.{Place, AtSequents, AtTableSequent, AtStacks, AtTableStack, AtEntries, at_sequent_table, at_stack_table, body}
use Rattle.ml_refutation_text.specs.private.Reads.{HasRoom, IsNext, Goes, IsUsual, TellsRule, TellsFault, at_line}
use Rattle.ml_refutation_text.specs.private.EntryReads.{IsSequentRead, TellsSequent}
use Rattle.ml_refutation_text.specs.declared.rest.Rest.{Rest}
use Rattle.ml_lines.specs.declared.refusal.LineRefusal.{LineRefusal}
use Rattle.ml_refutation_text.specs.declared.body_rule.BodyRule.{BodyRule}
use Rattle.ml_lists.specs.Readings.{Runs}
use Rattle.ml_refutation_text.proofs.RowLines.{sequents_first, sequent_row, stacks_first, stack_row}
use Rattle.ml_refutation_text.proofs.Going.{goes_begin, goes_on, goes_run, fault_on, refused_line, room_on}

module _ (size : ℕ) (at : Rest) where
  pub record SequentsTo (rows : List (List ℕ)) (rest : Rest) : Type 0 where
    pub goes : (v : Version) (names : ℕ)
        → Goes v (at_sequent_table names size []) at (at_sequent_table names size rows) rest

  pub rows_begin : SequentsTo [] at
  rows_begin = record { goes = λ v names. goes_begin v (at_sequent_table names size []) at }

  module _ (rows : List (List ℕ)) (rest : Rest) (so_far : SequentsTo rows rest) where
    pub rows_room : HasRoom at → HasRoom rest
    rows_room room = room_on (so_far.goes One 0) room

    module _ (below : length rows < size) where
      -- the next line is one of the table
      at_row : (v : Version) (names : ℕ)
          → Goes v (at_sequent_table names size []) at (AtTableSequent names size rows) rest
      at_row v names =
          let test : nat_lt (length rows) size ≡ true = grind (arith, nat_tests, below) in
          subst
          (λ b. Goes v (at_sequent_table names size []) at
          (cond b (AtTableSequent names size rows) (AtStacks names rows)) rest)
          test (so_far.goes v names)

      pub row_refused : (e : DocRefusal)
          → TellsSequent rest e
          → (v : Version) (names : ℕ)
          → TellsFault v (at_sequent_table names size []) at e
      row_refused e tells v names =
          fault_on e (at_row v names)
          (tells.in_table v names size rows)

      pub row_more : (row : List ℕ) (more : List (List ℕ)) (behind : Rest)
          → IsSequentRead rest row behind
          → more ≡ rows ++ row ∷ []
          → SequentsTo more behind
      row_more row more behind read pushed = record {
        goes = λ v names.
            let p = AtTableSequent names size rows in
            goes_on (at_row v names)
            (goes_run v p (at_sequent_table names size more) rest behind (sequent_line row) (sequent_line row) read.next refl
            (λ left.
            subst (λ rs. Runs (body v left) p (sequent_line row ∷ []) (at_sequent_table names size rs)) (sym pushed)
            (sequent_row v left names size rows row read.fit read.ascends)));
      }

    -- behind the last line
    pub rows_done : size ≤ length rows
        → (v : Version) (names : ℕ)
        → Goes v (at_sequent_table names size []) at (AtStacks names rows) rest
    rows_done full v names =
        let test : nat_lt (length rows) size ≡ false = grind (arith, nat_tests, full) in
        subst
        (λ b. Goes v (at_sequent_table names size []) at
        (cond b (AtTableSequent names size rows) (AtStacks names rows)) rest)
        test (so_far.goes v names)

-- behind the number of sequents
pub sequents_begin : (v : Version) (names size : ℕ) (at behind : Rest)
    → Fits size
    → IsNext at (sequents_line size) behind
    → Goes v (AtSequents names) at (at_sequent_table names size []) behind
sequents_begin v names size at behind fits next =
    goes_run v (AtSequents names) (at_sequent_table names size []) at behind (sequents_line size) (sequents_line size) next refl
    (λ left. sequents_first v left names size fits)

-- ---- stacks

module _ (names size : ℕ) (at : Rest) where
  pub record StacksTo (rows : List (List ℕ)) (rest : Rest) : Type 0 where
    pub goes : (v : Version) (qs : List (List ℕ))
        → Goes v (at_stack_table names qs size []) at (at_stack_table names qs size rows) rest
    pub counted : rest.line ≡ at.line + length rows
    pub ascend : All IsAscending rows

  pub stack_rows_begin : StacksTo [] at
  stack_rows_begin = record {
    goes = λ v qs. goes_begin v (at_stack_table names qs size []) at;
    counted = omega arith;
    ascend = All-nil IsAscending;
  }

  module _ (rows : List (List ℕ)) (rest : Rest) (so_far : StacksTo rows rest) where
    pub stack_rows_room : HasRoom at → HasRoom rest
    stack_rows_room room =
        room_on (so_far.goes One []) room

    module _ (below : length rows < size) where
      at_stack : (v : Version) (qs : List (List ℕ))
          → Goes v (at_stack_table names qs size []) at (AtTableStack names qs size rows) rest
      at_stack v qs =
          let test : nat_lt (length rows) size ≡ true = grind (arith, nat_tests, below) in
          subst
          (λ b. Goes v (at_stack_table names qs size []) at
          (cond b (AtTableStack names qs size rows) (AtEntries names (ByTables qs rows))) rest)
          test (so_far.goes v qs)

      pub stack_missing : (e : DocRefusal) → ((v : Version) (p : Place) → IsUsual p → TellsFault v p rest e)
          → (v : Version) (qs : List (List ℕ)) → TellsFault v (at_stack_table names qs size []) at e
      stack_missing e missing v qs =
          fault_on e (at_stack v qs)
          (missing v (AtTableStack names qs size rows) tt)

      module _ (line : Line) (behind : Rest) (next : IsNext rest line behind) where
        pub stack_refused : (e : LineRefusal BodyRule) (told : DocRefusal) → told ≡ at_line rest.line e
            → ((qs rows : List (List ℕ)) (size : ℕ) → TellsRule (AtTableStack names qs size rows) line e)
            → (v : Version) (qs : List (List ℕ)) → TellsFault v (at_stack_table names qs size []) at told
        stack_refused e told is tells v qs =
            let p = AtTableStack names qs size rows in
            fault_on told (at_stack v qs)
            (subst (TellsFault v p rest) (sym is) (refused_line v p rest behind line e next (tells qs rows size)))

        pub stack_more : (row : List ℕ) (more : List (List ℕ))
            → Fits names
            → line ≡ stack_line row
            → IsStack names row
            → more ≡ rows ++ row ∷ [] → StacksTo more behind
        stack_more row more small is stack pushed = record {
          goes = λ v qs.
              let p = AtTableStack names qs size rows in
              goes_on (at_stack v qs)
              (goes_run v p (at_stack_table names qs size more) rest behind line (stack_line row) next is
              (λ left.
              subst (λ rs. Runs (body v left) p (stack_line row ∷ []) (at_stack_table names qs size rs)) (sym pushed)
              (stack_row v left names qs size rows row small stack)));
          counted = omega (arith, so_far.counted, next.counted, ap length pushed, length-append rows (row ∷ []));
          ascend =
              subst (All IsAscending) (sym pushed)
              (All-append IsAscending rows (row ∷ []) so_far.ascend
              (All-cons IsAscending row [] stack.ascends (All-nil IsAscending)));
        }

    -- behind the last line: fewer were read than there are numbers of 64 bits
    pub stacks_done : (capped : ℕ) → capped ≡ min size (2 ^ 64 - 1) → capped ≤ length rows → 0 < at.line → HasRoom rest
        → (v : Version) (qs : List (List ℕ)) → Goes v (at_stack_table names qs size []) at (AtEntries names (ByTables qs rows)) rest
    stacks_done capped is full some room v qs =
        let all : size ≤ length rows = omega (arith, is, full, some, room, so_far.counted) in
        let test : nat_lt (length rows) size ≡ false = grind (arith, nat_tests, all) in
        subst
        (λ b. Goes v (at_stack_table names qs size []) at
        (cond b (AtTableStack names qs size rows) (AtEntries names (ByTables qs rows))) rest)
        test (so_far.goes v qs)

-- behind the number of stacks
pub stacks_begin : (v : Version) (names : ℕ) (qs : List (List ℕ)) (w : Word) (at behind : Rest) (line : Line)
    → Spells w (value w)
    → IsNext at line behind
    → line ≡ stacks_line w → Goes v (AtStacks names qs) at (at_stack_table names qs (value w) []) behind
stacks_begin v names qs w at behind line spells next is =
    goes_run v (AtStacks names qs) (at_stack_table names qs (value w) []) at behind line (stacks_line w) next is
    (λ left. stacks_first v left names qs w spells)
