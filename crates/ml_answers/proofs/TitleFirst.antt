-- The first line that is the title of a document stands behind its specification.
--
-- A line that begins with no blank begins an item, and no item of a specification begins with `m`.
--
--   first_stays    == an item begins with the first byte of its line
--   no_title       == so no line of a text is the title, whose items don't begin with `m`
--   plain_line     == a line stays one where its comment is taken out
--   items_behind_line == the items behind a line are among those of the text
--   whole_lines    == a text of whole lines is made of them
--   lines_passed   == a search for the title passes the lines of such a text
--   others_all     == no item of a specification begins with `m`
--   title_behind   == so the search finds the title behind a specification
use Rattle.std.proofs.Common.{◌≡◌, ◌≢◌, ℕ, zero, suc, ◌+◌, ◌-◌, ◌≤◌, ◌==◌, ◌||◌, Bool, true, false, not, cond, List, [], ◌∷◌, ◌++◌, Option, None, Some, codes, length, take, drop, position, refl, sym, ap, subst, ◌∙◌, arith}
use Rattle.std.specs.Prelude.{reverse}
use Rattle.std.specs.List.{before_first, list_any, prefix_len, suffix_len, AllByRecursion}
use Rattle.std.specs.Str.{bytes_eq}
use Rattle.std.proofs.lemmas.Bool.{or_parts}
use Rattle.std.proofs.lemmas.List.{append_assoc, length-append, length-drop, length-reverse, reverse-append}
use Rattle.std.proofs.lemmas.Slice.Eq.{bytes_eq-Decides}
use Rattle.ml_lines.specs.Lines.{line_text}
use Rattle.ml_lines.specs.Reading.{is_line_end, left_of}
use Rattle.ml_lines.proofs.Cuts.{cut_at, line_at, line_none}
use Rattle.ml_lines.proofs.LineFronts.{IsInLine}
use Rattle.ml_front.specs.declared.logic.Logic.{Logic}
use Rattle.ml_spec.specs.Comments.{uncommented, uncommented_from}
use Rattle.ml_spec.specs.ItemParts.{HasKind}
use Rattle.ml_spec.specs.Items.{begins_item, first_word, items_from, items_of, trimmed, up_to_item, ItemText}
use Rattle.ml_spec.specs.Specification.{IsSpecification, TellsLogic}
use Rattle.ml_spec.specs.Statements.{AreStatements, Definition, Enumeration, IsSaid, Repeated, Saying, Signals, Stated, Statement}
use Rattle.ml_spec.specs.declared.kind.ItemKind.{ItemKind}
use Rattle.ml_spec.specs.declared.kind.ItemKind.TheVariants as item
use Rattle.ml_spec.specs.declared.kind.Kind.TheVariants as kind
use Rattle.ml_spec.specs.declared.specification.Item.{Item}
use Rattle.ml_answers.specs.Documents.{title_line}
use Rattle.ml_answers.specs.Texts.{first_line, line_from}
use Rattle.ml_answers.proofs.FirstLines.{first_in_line, line_passed, text_at}

abbrev pub first_byte : List ℕ → ℕ
first_byte [] = 0
first_byte (b ∷ bs) = b

-- ---- how an item begins

-- p tells of blanks
module _ (p : ℕ → Bool) where
  stops_before : (ys : List ℕ) (b : ℕ) → p b ≡ false → prefix_len p (ys ++ b ∷ []) ≤ length ys
  stops_before [] b other = let none : cond (p b) (1 + 0) 0 ≡ 0 = ap (λ t. cond t (1 + 0) 0) other in omega (arith, none)
  stops_before (y ∷ ys) b other = go (p y) (stops_before ys b other)
    where
      go : (t : Bool)
          → prefix_len p (ys ++ b ∷ []) ≤ length ys
          → cond t (1 + prefix_len p (ys ++ b ∷ [])) 0 ≤ length (y ∷ ys)
      go true rest = omega (arith, rest)
      go false rest = omega arith

  blanks_behind : (b : ℕ) (bs : List ℕ) → p b ≡ false → suffix_len p (b ∷ bs) ≤ length bs
  blanks_behind b bs other =
      let turned : reverse (b ∷ bs) ≡ reverse bs ++ b ∷ [] = reverse-append (b ∷ []) bs in
      subst (λ ys. prefix_len p ys ≤ length bs) (sym turned)
      (omega (arith, stops_before (reverse bs) b other, length-reverse bs))

  word_begins : (b : ℕ) (bs : List ℕ) → p b ≡ false → first_byte (before_first p (b ∷ bs)) ≡ b
  word_begins b bs other =
      let n = prefix_len (λ c. not (p c)) bs in
      let more : 1 + n ≡ suc n = omega arith in
      ap (λ t. first_byte (take (cond (not t) (1 + n) 0) (b ∷ bs))) other
      ∙ ap (λ k. first_byte (take k (b ∷ bs))) more

  pub first_stays : (b : ℕ) (bs : List ℕ)
      → p b ≡ false
      → first_byte (before_first p (take (length (b ∷ bs) - suffix_len p (b ∷ bs)) (b ∷ bs))) ≡ b
  first_stays b bs other =
      let n = length (b ∷ bs) - suffix_len p (b ∷ bs) in
      let more : n ≡ suc (n - 1) = omega (arith, blanks_behind b bs other) in
      ap (λ k. first_byte (before_first p (take k (b ∷ bs)))) more
      ∙ word_begins b (take (n - 1) bs) other

-- it begins with another byte than `m`
abbrev pub IsOther : ItemText → Type 0
IsOther i = first_byte (first_word i.bytes) ≢ 109

pub no_title : (at : ℕ) (rest : List ℕ) → AllByRecursion IsOther (items_from true at (uncommented_from false (109 ∷ rest))) → ⊥
no_title at rest all = all.0 (first_stays _ 109 (up_to_item false (uncommented_from false rest)) refl)

-- ---- line by line

pub record PlainLine (inside : Bool) (line rest : List ℕ) : Type 0 where
  pub plain : List ℕ
  pub is_line : IsInLine plain
  pub is_text : uncommented_from inside (line ++ 10 ∷ rest) ≡ plain ++ 10 ∷ uncommented_from false rest

pub plain_line : (inside : Bool) (line rest : List ℕ) → IsInLine line → PlainLine inside line rest
plain_line inside [] rest is = record { plain = []; is_line = refl; is_text = refl }
plain_line inside (b ∷ bs) rest is =
    by (inside || (b == 35)) refl
    (plain_line false bs rest (or_parts (is_line_end b) (list_any is_line_end bs) is).1)
    (plain_line true bs rest (or_parts (is_line_end b) (list_any is_line_end bs) is).1)
  where
    other : is_line_end b ≡ false
    other = (or_parts (is_line_end b) (list_any is_line_end bs) is).0

    by : (t : Bool)
        → (inside || (b == 35)) ≡ t
        → PlainLine false bs rest
        → PlainLine true bs rest
        → PlainLine inside (b ∷ bs) rest
    by t e out within =
        let outer = b ∷ uncommented_from false (bs ++ 10 ∷ rest) in
        let inner = 32 ∷ uncommented_from true (bs ++ 10 ∷ rest) in
        let here : uncommented_from inside ((b ∷ bs) ++ 10 ∷ rest) ≡ cond t inner outer =
        ap (λ u. cond u (b ∷ uncommented_from false (bs ++ 10 ∷ rest)) (cond (inside || (b == 35)) inner outer)) other
        ∙ ap (λ u. cond u inner outer) e in
        go t here
      where
        go : (u : Bool)
            → uncommented_from inside ((b ∷ bs) ++ 10 ∷ rest)
            ≡ cond u (32 ∷ uncommented_from true (bs ++ 10 ∷ rest)) (b ∷ uncommented_from false (bs ++ 10 ∷ rest))
            → PlainLine inside (b ∷ bs) rest
        go true here = record {
          plain = 32 ∷ within.plain;
          is_line = within.is_line;
          is_text = here ∙ ap (λ text. 32 ∷ text) within.is_text;
        }
        go false here = record {
          plain = b ∷ out.plain;
          is_line = ap (λ u. u || list_any is_line_end out.plain) other ∙ out.is_line;
          is_text = here ∙ ap (λ text. b ∷ text) out.is_text;
        }

pub items_behind_line : (starts : Bool) (at : ℕ) (line rest : List ℕ)
    → IsInLine line
    → AllByRecursion IsOther (items_from starts at (line ++ 10 ∷ rest))
    → (k : ℕ) × AllByRecursion IsOther (items_from true k rest)
items_behind_line true at [] rest is all = (at + 1, all)
items_behind_line false at [] rest is all = (at + 1, all)
items_behind_line starts at (b ∷ bs) rest is all =
    by (begins_item starts b) all
    (items_behind_line false (at + 1) bs rest (or_parts (is_line_end b) (list_any is_line_end bs) is).1)
  where
    by : (t : Bool)
        → AllByRecursion IsOther
        (cond t
        (record { at = at; bytes = trimmed (b ∷ up_to_item false (bs ++ 10 ∷ rest)) } ∷ items_from false (at + 1) (bs ++ 10 ∷ rest))
        (items_from (b == 10) (at + 1) (bs ++ 10 ∷ rest)))
        → (AllByRecursion IsOther (items_from false (at + 1) (bs ++ 10 ∷ rest))
        → (k : ℕ) × AllByRecursion IsOther (items_from true k rest))
        → (k : ℕ) × AllByRecursion IsOther (items_from true k rest)
    by true all behind = behind all.1
    by false all behind =
        behind
        (subst (λ t. AllByRecursion IsOther (items_from t (at + 1) (bs ++ 10 ∷ rest)))
        (or_parts (is_line_end b) (list_any is_line_end bs) is).0 all)

-- ---- whole lines

abbrev pub of_lines : List (List ℕ) → List ℕ
of_lines [] = []
of_lines (line ∷ lines) = line ++ 10 ∷ of_lines lines

pub record AreLinesOf (text : List ℕ) : Type 0 where
  pub lines : List (List ℕ)
  pub are_lines : AllByRecursion IsInLine lines
  pub is_text : text ≡ of_lines lines

pub whole_lines : (n : ℕ) (text : List ℕ) → length text ≤ n → left_of text ≡ [] → AreLinesOf text
whole_lines zero [] fits whole = record { lines = []; are_lines = tt; is_text = refl }
whole_lines zero (b ∷ bs) fits whole = absurd (omega (arith, fits))
whole_lines (suc n) text fits whole = by (position is_line_end text) refl (whole_lines n)
  where
    by : (o : Option ℕ)
        → position is_line_end text ≡ o
        → ((rest : List ℕ) → length rest ≤ n → left_of rest ≡ [] → AreLinesOf rest)
        → AreLinesOf text
    by None none again = record { lines = []; are_lines = tt; is_text = sym (line_none text none).1 ∙ whole }
    by (Some i) some again =
        let low = (cut_at is_line_end text i some).0 in
        let rest =
        again (drop (i + 1) text) (omega (arith, low, fits, length-drop (i + 1) text)) (sym (line_at text i some).1 ∙ whole) in
        record {
          lines = take i text ∷ rest.lines;
          are_lines = (first_in_line text i some, rest.are_lines);
          is_text = text_at text i some ∙ ap (λ t. take i text ++ 10 ∷ t) rest.is_text;
        }

-- ---- the search

abbrev pub title : List ℕ
title = codes "mlsolver answers 1"

pub lines_passed : (lines : List (List ℕ)) (document : List ℕ) (at place : ℕ)
    → AllByRecursion IsInLine lines
    → AllByRecursion IsOther (items_from true place (uncommented_from false (of_lines lines)))
    → line_from title at [] (of_lines lines ++ document) ≡ line_from title (at + length (of_lines lines)) [] document
lines_passed [] document at place are all =
    let same : at ≡ at + 0 = omega arith in ap (λ k. line_from title k [] document) same
lines_passed (line ∷ lines) document at place are all =
    let text = of_lines lines in
    let plain = plain_line false line text are.0 in
    let behind =
    items_behind_line true place plain.plain (uncommented_from false text) plain.is_line
    (subst (λ t. AllByRecursion IsOther (items_from true place t)) plain.is_text all) in
    go (bytes_eq line title) refl (lines_passed lines document (at + length line + 1) behind.0 are.1 behind.1)
  where
    go : (t : Bool)
        → bytes_eq line title ≡ t
        → line_from title (at + length line + 1) [] (of_lines lines ++ document)
        ≡ line_from title (at + length line + 1 + length (of_lines lines)) [] document
        → line_from title at [] (of_lines (line ∷ lines) ++ document)
        ≡ line_from title (at + length (of_lines (line ∷ lines))) [] document
    go true same rest =
        absurd
        (no_title place (drop 1 (title ++ 10 ∷ of_lines lines))
        (subst (λ v. AllByRecursion IsOther (items_from true place (uncommented_from false (v ++ 10 ∷ of_lines lines))))
        ((bytes_eq-Decides line title).0 same) all))
    go false differs rest =
        let size : at + length line + 1 + length (of_lines lines) ≡ at + length (line ++ 10 ∷ of_lines lines) =
        omega (arith, length-append line (10 ∷ of_lines lines)) in
        ap (line_from title at []) (append_assoc line (10 ∷ of_lines lines) document)
        ∙ line_passed title line (of_lines lines ++ document) at [] are.0
        ∙ ap (λ t. cond t (Some at) (line_from title (at + length line + 1) [] (of_lines lines ++ document))) differs
        ∙ rest
        ∙ ap (λ k. line_from title k [] document) size

-- ---- behind a specification

other_kind : (i : ItemText) (k : ItemKind) → HasKind i k → IsOther i
other_kind i item.Logics has same = let wrong : 108 ≡ 109 = sym (ap first_byte has) ∙ same in omega (arith, wrong)
other_kind i item.Signals has same = let wrong : 115 ≡ 109 = sym (ap first_byte has) ∙ same in omega (arith, wrong)
other_kind i item.Enumeration has same = let wrong : 101 ≡ 109 = sym (ap first_byte has) ∙ same in omega (arith, wrong)
other_kind i item.Definition has same = let wrong : 100 ≡ 109 = sym (ap first_byte has) ∙ same in omega (arith, wrong)
other_kind i (item.Stated kind.Require) has same =
    let wrong : 114 ≡ 109 = sym (ap first_byte has) ∙ same in omega (arith, wrong)
other_kind i (item.Stated kind.Possible) has same =
    let wrong : 112 ≡ 109 = sym (ap first_byte has) ∙ same in omega (arith, wrong)
other_kind i (item.Stated kind.Follows) has same =
    let wrong : 102 ≡ 109 = sym (ap first_byte has) ∙ same in omega (arith, wrong)

other_said : (l : Logic) (i : ItemText) (s : Saying) → IsSaid l i s → IsOther i
other_said l i Repeated is = other_kind i item.Logics is.0
other_said l i (Signals ps) is = other_kind i item.Signals is.0
other_said l i (Enumeration m vs) is = other_kind i item.Enumeration is.0.0.0.0.0
other_said l i (Definition p w) is = other_kind i item.Definition is.0.0.0.0.0.0
other_said l i (Stated k n w) is = other_kind i (item.Stated k) is.0.0.0.0.0.0

others_behind : (l : Logic) (parts : List ItemText) (ss : List Statement)
    → AreStatements l parts ss
    → AllByRecursion IsOther parts
others_behind l [] ss are = tt
others_behind l (i ∷ parts) [] are = absurd are
others_behind l (i ∷ parts) (s ∷ ss) are = (other_said l i s.says are.0.is_said, others_behind l parts ss are.1)

pub others_all : (spec : List ℕ) (l : Logic) (xs : List Item)
    → IsSpecification spec l xs
    → AllByRecursion IsOther (items_of (uncommented spec))
others_all spec l xs is =
    let told = is.tells_logic in
    subst (AllByRecursion IsOther) (sym told.are_items) (
      other_head told,
      others_behind l told.others is.statements
          (subst (λ parts. AreStatements l (drop 1 parts) is.statements) told.are_items is.are_read.are_statements),
    )
  where
    other_head : (told : TellsLogic (uncommented spec) l) → IsOther told.first
    other_head told same = let wrong : 108 ≡ 109 = sym (ap first_byte told.begins) ∙ same in omega (arith, wrong)

found_at_once : (w rest : List ℕ) (at : ℕ) → IsInLine w → line_from w at [] (w ++ 10 ∷ rest) ≡ Some at
found_at_once w rest at is =
    line_passed w w rest at [] is
    ∙ ap (λ t. cond t (Some at) (line_from w (at + length w + 1) [] rest)) ((bytes_eq-Decides w w).1 refl)

title_bytes : (rest : List ℕ) → line_text title_line ++ rest ≡ title ++ 10 ∷ rest
title_bytes rest = refl

pub title_behind : (spec rest : List ℕ) (l : Logic) (xs : List Item)
    → left_of spec ≡ []
    → IsSpecification spec l xs
    → first_line title (spec ++ (line_text title_line ++ rest)) ≡ Some (length spec)
title_behind spec rest l xs whole is =
    let made = whole_lines (length spec) spec (omega arith) whole in
    let text = of_lines made.lines in
    let size : 0 + length text ≡ length spec = omega (arith, ap length made.is_text) in
    ap (λ t. first_line title (t ++ (line_text title_line ++ rest))) made.is_text
    ∙ lines_passed made.lines (line_text title_line ++ rest) 0 0 made.are_lines
    (subst (λ t. AllByRecursion IsOther (items_from true 0 (uncommented_from false t))) made.is_text (others_all spec l xs is))
    ∙ ap (line_from title (0 + length text) []) (title_bytes rest)
    ∙ found_at_once title rest (0 + length text) refl
    ∙ ap Some size
