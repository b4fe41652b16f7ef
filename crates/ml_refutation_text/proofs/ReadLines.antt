-- Good lines are those of their values.
--
--   own_values             == numbers are those of their values
--   numbered_line_of, entry_line_of, listed_line_of, stack_line_of == good lines with numbers
--   leaf_line              == a good line of a clash or a go is that of the decision that it tells
--   full_line, table_line  == a good line of an item is that of the item that it tells, in full and by tables
use Rattle.std.proofs.Common.{◌≡◌, ℕ, ◌<◌, Bool, true, false, cond, List, [], ◌∷◌, ◌++◌, None, Some, length, drop, All, codes, refl, sym, ap, subst, ◌∙◌, inl, inr, arith}
use Rattle.std.specs.Str.{bytes_eq}
use Rattle.std.proofs.lemmas.List.Elements.{All-nil, All-cons, All-head, All-tail, All-get_or}
use Rattle.std.proofs.lemmas.Option.{slice_get-get_or}
use Rattle.ml_base.specs.declared.version.Version.{Version}
use Rattle.ml_base.specs.declared.version.Version.TheVariants.{One, Two}
use Rattle.ml_lines.specs.Lines.{Word, Line, number}
use Rattle.ml_lines.specs.Reading.{IsNumber, value, word}
use Rattle.ml_lines.proofs.Numbers.{own_value}
use Rattle.ml_refutation_text.proofs.ReadWords.{no_dash}
use Rattle.ml_lists.specs.Ascending.{IsAscending}
use Rattle.ml_trace.specs.declared.marks.Mark.{Mark}
use Rattle.ml_trace.specs.declared.marks.Mark.TheVariants.{Red, Green, Neutral}
use Rattle.ml_trace.specs.Stack as traced
use Rattle.ml_sequent.specs.declared.clashes.ClashCause.{ClashCause}
use Rattle.ml_sequent.specs.declared.clashes.ClashCause.TheVariants.{False, Pair, Cycle}
use Rattle.ml_trace.specs.declared.letters.AutomatonState.{AutomatonState}
use Rattle.ml_refutation.specs.Refutation.{Decision, Clash, Go, IsMarkOf, Fits, FitsCause, IsStack, IsItem, IsDecided, nesting}
use Rattle.ml_refutation.specs.Guesses.{FitsGuess}
use Rattle.ml_refutation_text.specs.RefutationText.{numbers, stack_line, entry_line, guess_word, cause_words, mark_words, decision_lines}
use Rattle.ml_refutation_text.specs.LineKinds.{Spells}
use Rattle.ml_refutation_text.specs.BodyRules.{Form, InFull, ByTables}
use Rattle.ml_refutation_text.specs.private.TextLines.{ItemLine, AreTables, IsForm}
use Rattle.ml_refutation_text.specs.LineKinds.{Slot, kind, FitsSlot, Fixed, ANumber, AGuess, AnySize, InSlots, FitSlots, open_kind, IsOfKinds, HaveNumbers}
use Rattle.ml_refutation_text.specs.BodyRules.{Begins, mark_of, clash_kinds, go_kinds, guess_of, numbered, stack_kind, values, state_of, stack_of, leaf_of}

-- ---- good lines are those of their values

pub own_values : (ws : Line) → All IsNumber ws → (ws ≡ numbers (values ws)) × All Fits (values ws)
own_values [] all = (refl, All-nil Fits)
own_values (w ∷ ws) all =
    let own = own_value w (All-head IsNumber w ws all) in
    let others = own_values ws (All-tail IsNumber w ws all) in
    ((λ i. own.1 i ∷ others.0 i), All-cons Fits (value w) (values ws) own.0 others.1)

pub record IsNumberedLine (fixed : Word) (line : Line) : Type 0 where
  pub is_line : line ≡ fixed ∷ number (value (word line 1)) ∷ []
  pub fits : Fits (value (word line 1))

pub numbered_line_of : (fixed : Word) (line : Line)
    → IsOfKinds (numbered fixed ∷ []) line
    → HaveNumbers (numbered fixed ∷ []) line
    → IsNumberedLine fixed line
numbered_line_of fixed line (inr never) has = absurd never
numbered_line_of fixed [] (inl kind) has = absurd kind.1
numbered_line_of fixed (w ∷ []) (inl kind) has = absurd kind.1.1
numbered_line_of fixed (w ∷ x ∷ rest) (inl kind) has =
    let own = own_value x (has.0 kind).1.0 in record {
      is_line = (λ i. kind.1.0 i ∷ own.1 i ∷ kind.1.1.1 i);
      fits = own.0;
    }

pub entry_line_of : (line : Line) → IsOfKinds (kind (Fixed (codes "entry") ∷ ANumber ∷ ANumber ∷ []) ∷ []) line
    → HaveNumbers (kind (Fixed (codes "entry") ∷ ANumber ∷ ANumber ∷ []) ∷ []) line
    → line ≡ entry_line (value (word line 1)) (value (word line 2))
entry_line_of line (inr never) has = absurd never
entry_line_of [] (inl of) has = absurd of.1
entry_line_of (w ∷ []) (inl of) has = absurd of.1.1
entry_line_of (w ∷ x ∷ []) (inl of) has = absurd of.1.1.1
entry_line_of (w ∷ x ∷ y ∷ rest) (inl of) has =
    let i = own_value x (has.0 of).1.0 in
    let s = own_value y (has.0 of).1.1.0 in λ j. of.1.0 j ∷ i.1 j ∷ s.1 j ∷ of.1.1.1.1 j

pub record IsListedLine (fixed : Word) (line : Line) : Type 0 where
  pub is_line : line ≡ fixed ∷ numbers (values (drop 1 line))
  pub fit : All Fits (values (drop 1 line))

pub listed_line_of : (fixed : Word) (line : Line) → IsOfKinds (open_kind (Fixed fixed ∷ []) ∷ []) line
    → HaveNumbers (open_kind (Fixed fixed ∷ []) ∷ []) line → IsListedLine fixed line
listed_line_of fixed line (inr never) has = absurd never
listed_line_of fixed [] (inl kind) has = absurd kind.1
listed_line_of fixed (w ∷ ws) (inl kind) has =
    let own = own_values ws (has.0 kind).1 in record { is_line = (λ i. kind.1.0 i ∷ own.0 i); fit = own.1 }

pub record IsStackLine (line : Line) : Type 0 where
  pub is_line : line ≡ stack_line (values (drop 1 line))
  pub some : 0 < length (values (drop 1 line))

pub stack_line_of : (line : Line)
    → IsOfKinds (stack_kind ∷ []) line
    → HaveNumbers (stack_kind ∷ []) line
    → IsStackLine line
stack_line_of line (inr never) has = absurd never
stack_line_of [] (inl kind) has = absurd kind.1
stack_line_of (w ∷ []) (inl kind) has = absurd kind.1.1
stack_line_of (w ∷ x ∷ ws) (inl kind) has =
    let fits = (has.0 kind).1 in
    let own = own_value x fits.0 in
    let others = own_values ws fits.1 in record {
      is_line = (λ i. kind.1.0 i ∷ own.1 i ∷ others.0 i);
      some = omega arith;
    }

-- ---- lines of a decision

pub record IsLeaf (names wanted : ℕ) (line : Line) : Type 0 where
  pub d : Decision
  pub tells : leaf_of line ≡ d
  pub is_line : line ∷ [] ≡ decision_lines d
  pub is_flat : nesting d ≡ 0
  pub no_split : bytes_eq (word line 0) (codes "split") ≡ false
  pub keeps : (Begins (codes "go") line → (value (word line 2) < wanted) × IsMarkOf names (mark_of line))
      → IsDecided names wanted d

module _ (names wanted : ℕ) where
  -- a clash at one node
  node_leaf : (fixed : Word) (cause : ℕ → ClashCause)
      → ((y : Word) (rest : Line) → leaf_of (codes "clash" ∷ fixed ∷ y ∷ rest) ≡ Clash (cause (value y)))
      → ((n : ℕ) → cause_words (cause n) ≡ fixed ∷ number n ∷ [])
      → ((n : ℕ) → Fits n → FitsCause (cause n))
      → (line : Line)
      → InSlots false (Fixed (codes "clash") ∷ Fixed fixed ∷ ANumber ∷ []) line
      → FitSlots (Fixed (codes "clash") ∷ Fixed fixed ∷ ANumber ∷ []) line → IsLeaf names wanted line
  node_leaf fixed cause told words fits [] kind has = absurd kind
  node_leaf fixed cause told words fits (w ∷ []) kind has = absurd kind.1
  node_leaf fixed cause told words fits (w ∷ x ∷ []) kind has = absurd kind.1.1
  node_leaf fixed cause told words fits (w ∷ x ∷ y ∷ rest) kind has =
      let own = own_value y has.1.1.0 in record {
        d = Clash (cause (value y));
        tells = ap leaf_of (λ i. kind.0 i ∷ kind.1.0 i ∷ y ∷ rest) ∙ told y rest;
        is_line =
            (λ i. (kind.0 i ∷ kind.1.0 i ∷ own.1 i ∷ kind.1.1.1 i) ∷ [])
            ∙ ap (λ ws. (codes "clash" ∷ ws) ∷ []) (sym (words (value y)));
        is_flat = refl;
        no_split = ap (λ u. bytes_eq u (codes "split")) kind.0;
        keeps = (λ _. fits (value y) own.0);
      }

  pair_leaf : (line : Line)
      → InSlots false (Fixed (codes "clash") ∷ Fixed (codes "pair") ∷ ANumber ∷ ANumber ∷ []) line
      → FitSlots (Fixed (codes "clash") ∷ Fixed (codes "pair") ∷ ANumber ∷ ANumber ∷ []) line → IsLeaf names wanted line
  pair_leaf [] kind has = absurd kind
  pair_leaf (w ∷ []) kind has = absurd kind.1
  pair_leaf (w ∷ x ∷ []) kind has = absurd kind.1.1
  pair_leaf (w ∷ x ∷ y ∷ []) kind has = absurd kind.1.1.1
  pair_leaf (w ∷ x ∷ y ∷ z ∷ rest) kind has =
      let own = own_value y has.1.1.0 in
      let other = own_value z has.1.1.1.0 in record {
        d = Clash (Pair (value y) (value z));
        tells = ap leaf_of (λ i. kind.0 i ∷ kind.1.0 i ∷ y ∷ z ∷ rest);
        is_line = (λ i. (kind.0 i ∷ kind.1.0 i ∷ own.1 i ∷ other.1 i ∷ kind.1.1.1.1 i) ∷ []);
        is_flat = refl;
        no_split = ap (λ u. bytes_eq u (codes "split")) kind.0;
        keeps = (λ _. (own.0, other.0));
      }

  -- a go with the mark of a name
  name_leaf : (color : Word) (mark : ℕ → Mark)
      → ((w x y u : Word) (rest : Line) → mark_of (w ∷ x ∷ y ∷ color ∷ u ∷ rest) ≡ mark (value u))
      → ((n : ℕ) → mark_words (mark n) ≡ color ∷ number n ∷ [])
      → (line : Line)
      → InSlots false (Fixed (codes "go") ∷ ANumber ∷ ANumber ∷ Fixed color ∷ ANumber ∷ []) line
      → FitSlots (Fixed (codes "go") ∷ ANumber ∷ ANumber ∷ Fixed color ∷ ANumber ∷ []) line → IsLeaf names wanted line
  name_leaf color mark told words [] kind has = absurd kind
  name_leaf color mark told words (w ∷ []) kind has = absurd kind.1
  name_leaf color mark told words (w ∷ x ∷ []) kind has = absurd kind.1.1
  name_leaf color mark told words (w ∷ x ∷ y ∷ []) kind has = absurd kind.1.1.1
  name_leaf color mark told words (w ∷ x ∷ y ∷ z ∷ []) kind has = absurd kind.1.1.1.1
  name_leaf color mark told words (w ∷ x ∷ y ∷ z ∷ u ∷ rest) kind has =
      let diamond = own_value x has.1.0 in
      let entry = own_value y has.1.1.0 in
      let name = own_value u has.1.1.1.1.0 in
      let marks = ap mark_of (λ i. w ∷ x ∷ y ∷ kind.1.1.1.0 i ∷ u ∷ rest) ∙ told w x y u rest in record {
        d = Go (value x) (value y) (mark (value u));
        tells =
            ap leaf_of (λ i. kind.0 i ∷ x ∷ y ∷ kind.1.1.1.0 i ∷ u ∷ rest)
            ∙ ap (Go (value x) (value y)) (told (codes "go") x y u rest);
        is_line =
            (λ i. (kind.0 i ∷ diamond.1 i ∷ entry.1 i ∷ kind.1.1.1.0 i ∷ name.1 i ∷ kind.1.1.1.1.1 i) ∷ [])
            ∙ ap (λ ws. (codes "go" ∷ number (value x) ∷ number (value y) ∷ ws) ∷ []) (sym (words (value u)));
        is_flat = refl;
        no_split = ap (λ u. bytes_eq u (codes "split")) kind.0;
        keeps = (λ ranges. let both = ranges kind.0 in (diamond.0, both.0, subst (IsMarkOf names) marks both.1));
      }

  neutral_leaf : (line : Line)
      → InSlots false (Fixed (codes "go") ∷ ANumber ∷ ANumber ∷ Fixed (codes "neutral") ∷ []) line
      → FitSlots (Fixed (codes "go") ∷ ANumber ∷ ANumber ∷ Fixed (codes "neutral") ∷ []) line → IsLeaf names wanted line
  neutral_leaf [] kind has = absurd kind
  neutral_leaf (w ∷ []) kind has = absurd kind.1
  neutral_leaf (w ∷ x ∷ []) kind has = absurd kind.1.1
  neutral_leaf (w ∷ x ∷ y ∷ []) kind has = absurd kind.1.1.1
  neutral_leaf (w ∷ x ∷ y ∷ z ∷ rest) kind has =
      let diamond = own_value x has.1.0 in
      let entry = own_value y has.1.1.0 in
      let marks = ap mark_of (λ i. w ∷ x ∷ y ∷ kind.1.1.1.0 i ∷ rest) in record {
        d = Go (value x) (value y) Neutral;
        tells = ap leaf_of (λ i. kind.0 i ∷ x ∷ y ∷ kind.1.1.1.0 i ∷ rest);
        is_line = (λ i. (kind.0 i ∷ diamond.1 i ∷ entry.1 i ∷ kind.1.1.1.0 i ∷ kind.1.1.1.1 i) ∷ []);
        is_flat = refl;
        no_split = ap (λ u. bytes_eq u (codes "split")) kind.0;
        keeps = (λ ranges. let both = ranges kind.0 in (diamond.0, both.0, tt));
      }

  pub leaf_line : (line : Line)
      → IsOfKinds (clash_kinds ++ go_kinds) line
      → HaveNumbers (clash_kinds ++ go_kinds) line
      → IsLeaf names wanted line
  leaf_line line (inl kind) has =
      node_leaf (codes "false") False (λ y rest. refl) (λ n. refl) (λ n fits. fits) line kind.1 (has.0 kind)
  leaf_line line (inr (inl kind)) has = pair_leaf line kind.1 (has.1.0 kind)
  leaf_line line (inr (inr (inl kind))) has =
      node_leaf (codes "cycle") Cycle (λ y rest. refl) (λ n. refl) (λ n fits. fits) line kind.1 (has.1.1.0 kind)
  leaf_line line (inr (inr (inr (inl kind)))) has =
      name_leaf (codes "red") Red (λ w x y u rest. refl) (λ n. refl) line kind.1 (has.1.1.1.0 kind)
  leaf_line line (inr (inr (inr (inr (inl kind))))) has =
      name_leaf (codes "green") Green (λ w x y u rest. refl) (λ n. refl) line kind.1 (has.1.1.1.1.0 kind)
  leaf_line line (inr (inr (inr (inr (inr (inl kind)))))) has = neutral_leaf line kind.1 (has.1.1.1.1.1.0 kind)
  leaf_line line (inr (inr (inr (inr (inr (inr never)))))) has = absurd never

-- ---- lines of items

pub guess_own : (y : Word) → FitsSlot AGuess y → (y ≡ guess_word (guess_of y)) × FitsGuess (guess_of y)
guess_own y (inl dash) =
    let claim : Word → Type 0 = λ u. (u ≡ guess_word (guess_of u)) × FitsGuess (guess_of u) in subst claim (sym dash) (refl, tt)
guess_own y (inr fits) =
    let own = own_value y fits in
    let e : bytes_eq y (codes "-") ≡ false = ap (λ u. bytes_eq u (codes "-")) own.1 ∙ no_dash (value y) own.0 in
    let claim : Bool → Type 0 =
    λ b. (y ≡ guess_word (cond b None (Some (value y)))) × FitsGuess (cond b None (Some (value y))) in subst claim (sym e) (own.1, own.0)

abbrev pub item_of : Form → Line → traced.Item AutomatonState
item_of form line = record { state = state_of line; stack = stack_of form line }

pub record IsItemLine (form : Form) (live : ℕ) (line : Line) : Type 0 where
  pub is_item_line : ItemLine form (item_of form line) line
  pub is_item : IsItem live (item_of form line)

pub full_line : (live : ℕ) (line : Line) → InSlots true (Fixed (codes "item") ∷ ANumber ∷ AGuess ∷ ANumber ∷ []) line
    → FitSlots (Fixed (codes "item") ∷ ANumber ∷ AGuess ∷ ANumber ∷ []) line → IsAscending (stack_of InFull line)
    → All (λ x. x < live) (stack_of InFull line) → IsItemLine InFull live line
full_line live [] kind has ascends below = absurd kind
full_line live (w ∷ []) kind has ascends below = absurd kind.1
full_line live (w ∷ x ∷ []) kind has ascends below = absurd kind.1.1
full_line live (w ∷ x ∷ y ∷ []) kind has ascends below = absurd kind.1.1.1
full_line live (w ∷ x ∷ y ∷ z ∷ ws) kind has ascends below =
    let node = own_value x has.1.0 in
    let guess = guess_own y has.1.1.0 in
    let first = own_value z has.1.1.1.0 in
    let others = own_values ws has.1.1.1.1 in record {
      is_item_line = record {
        words = numbers (values (z ∷ ws));
        for_stack = refl;
        is_line = (λ i. kind.0 i ∷ node.1 i ∷ guess.0 i ∷ first.1 i ∷ others.0 i);
      };
      is_item = record {
        node_fits = node.0;
        guess_fits = guess.1;
        is_stack = record { some = omega arith; ascends = ascends; below = below };
      };
    }

pub table_line : (qs ks : List (List ℕ)) (names live : ℕ) (line : Line) → All (IsStack names) ks
    → InSlots false (Fixed (codes "item") ∷ ANumber ∷ AGuess ∷ AnySize ∷ []) line
    → FitSlots (Fixed (codes "item") ∷ ANumber ∷ AGuess ∷ AnySize ∷ []) line → value (word line 3) < length ks
    → IsAscending (stack_of (ByTables qs ks) line) → All (λ x. x < live) (stack_of (ByTables qs ks) line)
    → IsItemLine (ByTables qs ks) live line
table_line qs ks names live [] are kind has inside ascends below = absurd kind
table_line qs ks names live (w ∷ []) are kind has inside ascends below = absurd kind.1
table_line qs ks names live (w ∷ x ∷ []) are kind has inside ascends below = absurd kind.1.1
table_line qs ks names live (w ∷ x ∷ y ∷ []) are kind has inside ascends below = absurd kind.1.1.1
table_line qs ks names live (w ∷ x ∷ y ∷ z ∷ rest) are kind has inside ascends below =
    let node = own_value x has.1.0 in
    let guess = guess_own y has.1.1.0 in
    let spells = has.1.1.1.0.1 in
    let own : Spells z (value z) = record {
      digits = spells.digits;
      some = spells.some;
      no_zero_leads = spells.no_zero_leads;
      is_value = refl;
    } in
    let stack = All-get_or (IsStack names) ks (value z) [] inside are in record {
      is_item_line = record {
        words = z ∷ [];
        for_stack = (value z, z, own, slice_get-get_or ks (value z) [] inside, refl);
        is_line = (λ i. kind.0 i ∷ node.1 i ∷ guess.0 i ∷ z ∷ kind.1.1.1.1 i);
      };
      is_item = record {
        node_fits = node.0;
        guess_fits = guess.1;
        is_stack = record { some = stack.some; ascends = ascends; below = below };
      };
    }

pub tables_of : (v : Version) (n : ℕ) (qs ks : List (List ℕ)) → IsForm v n (ByTables qs ks) → AreTables n qs ks
tables_of One n qs ks is = absurd is
tables_of Two n qs ks is = is

pub begins_with : (further : Bool) (fixed : Word) (slots : List Slot) (line : Line)
    → InSlots further (Fixed fixed ∷ slots) line
    → word line 0 ≡ fixed
begins_with further fixed slots [] kind = absurd kind
begins_with further fixed slots (w ∷ line) kind = kind.0
