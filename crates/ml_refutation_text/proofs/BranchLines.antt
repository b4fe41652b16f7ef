-- The lines of a decision that are read, and the first rules that others break.
--
--   count_slots, free_slots, fit_numbers == how many words a kind has, and that words of numbers are of it
--   lacks_behind                         == words that aren't of a kind, which begins with their first one
--   lacks_red, lacks_green, no_mark      == words that aren't those of a mark, by their first one
--   lacks_false, lacks_pair, lacks_cycle, no_cause == the same of a cause
--   lacks_go_words, lacks_mark, lacks_diamond, lacks_entry == the same of what stands behind `go`
--   clash_broken, go_broken, split_broken, other_broken    == the rule that a line breaks whose words are so
--   out_of_range, too_deep               == a go that leads nowhere, and a split inside too many
use Rattle.std.proofs.Common.{◌≡◌, ℕ, ◌+◌, ◌<◌, ◌≤◌, false, List, [], ◌∷◌, ◌++◌, length, drop, All, codes, inl, inr, refl, sym, ap, subst, ◌∙◌, arith}
use Rattle.std.specs.Str.{bytes_eq}
use Rattle.std.proofs.lemmas.List.Elements.{All-nil, All-cons, All-head, All-tail}
use Rattle.ml_lines.specs.Lines.{Word, Line, number}
use Rattle.ml_lines.specs.Reading.{AreWords, IsNumber, value, word}
use Rattle.ml_refutation.specs.Refutation.{Fits, IsMarkOf}
use Rattle.ml_trace.specs.declared.marks.Mark.{Mark}
use Rattle.ml_refutation_text.specs.RefutationText.{mark_words, go_line}
use Rattle.ml_refutation_text.specs.BodyRules.{InFull}
use Rattle.ml_refutation_text.specs.LineKinds.{Kind, Slot, Fixed, ANumber, AGuess, AnySize, InSlots, FitSlots, IsOfKinds, HaveNumbers}
use Rattle.ml_refutation_text.specs.BodyRules.{Begun, AtDecision, numbered, clash_kinds, go_kinds, rules, mark_of}
use Rattle.ml_refutation_text.specs.RuleNumbers.{rule_number}
use Rattle.ml_refutation_text.specs.private.ItemReads.{knows}
use Rattle.ml_refutation_text.specs.private.BranchReads.{BreaksBranch, FitsMark, Shape, Lacks, LacksNumbers, IsMarked, LacksMark, IsCaused, LacksCause, IsGo, LacksGo}
use Rattle.ml_refutation_text.specs.declared.body_rule.BodyRule.{BodyRule}
use Rattle.ml_refutation_text.specs.declared.body_rule.BodyRule.TheVariants.{OfKind, Numbers, GoInRange}
use Rattle.ml_lists.specs.Documents.{IsFirstBroken}
use Rattle.ml_base.specs.declared.version.Version.TheVariants.{Two}
use Rattle.ml_refutation_text.proofs.GoodLines.{go_usual, mark_back}
use Rattle.ml_refutation_text.proofs.ReadWords.{differ, value_back}

-- ---- slots

pub count_slots : (slots : List Slot) (words : Line) → InSlots false slots words → length words ≡ length slots
count_slots [] words is = ap length is
count_slots (slot ∷ slots) [] is = absurd is
count_slots (slot ∷ slots) (w ∷ words) is = omega (arith, count_slots slots words is.1)

abbrev pub OnlyNumbers : List Slot → Type 0
OnlyNumbers [] = Unit {0}
OnlyNumbers (ANumber ∷ slots) = OnlyNumbers slots
OnlyNumbers (Fixed w ∷ slots) = ⊥
OnlyNumbers (AGuess ∷ slots) = ⊥
OnlyNumbers (AnySize ∷ slots) = ⊥

pub free_slots : (slots : List Slot) (words : Line)
    → OnlyNumbers slots
    → length words ≡ length slots
    → InSlots false slots words
free_slots [] [] free count = refl
free_slots [] (w ∷ words) free count = absurd (omega (arith, count))
free_slots (ANumber ∷ slots) [] free count = absurd (omega (arith, count))
free_slots (ANumber ∷ slots) (w ∷ words) free count = (tt, free_slots slots words free (omega (arith, count)))
free_slots (Fixed f ∷ slots) words free count = absurd free
free_slots (AGuess ∷ slots) words free count = absurd free
free_slots (AnySize ∷ slots) words free count = absurd free

pub fit_numbers : (slots : List Slot) (words : Line) → OnlyNumbers slots → FitSlots slots words → All IsNumber words
fit_numbers [] words free fits = fits
fit_numbers (ANumber ∷ slots) [] free fits = All-nil IsNumber
fit_numbers (ANumber ∷ slots) (w ∷ words) free fits = All-cons IsNumber w words fits.0 (fit_numbers slots words free fits.1)
fit_numbers (Fixed f ∷ slots) words free fits = absurd free
fit_numbers (AGuess ∷ slots) words free fits = absurd free
fit_numbers (AnySize ∷ slots) words free fits = absurd free

pub numbers_fit : (slots : List Slot) (words : Line) → OnlyNumbers slots → All IsNumber words → FitSlots slots words
numbers_fit [] words free are = are
numbers_fit (ANumber ∷ slots) [] free are = tt
numbers_fit (ANumber ∷ slots) (w ∷ words) free are =
    (All-head IsNumber w words are, numbers_fit slots words free (All-tail IsNumber w words are))
numbers_fit (Fixed f ∷ slots) words free are = absurd free
numbers_fit (AGuess ∷ slots) words free are = absurd free
numbers_fit (AnySize ∷ slots) words free are = absurd free

-- ---- marks and causes, by their first word

-- words of a kind that begins with this word where so many numbers stand behind it
lacks_behind : (OfTheKind : Line → Type 0) (first : Word) (n : ℕ) (words rest : Line) (rule : BodyRule)
    → (length rest ≡ n → OfTheKind (first ∷ rest))
    → (OfTheKind (first ∷ rest) → length rest ≡ n)
    → words ≡ first ∷ rest
    → LacksNumbers n rest rule
    → Lacks OfTheKind (λ ws. All IsNumber (drop 1 ws)) words rule
lacks_behind OfTheKind first n words rest rule there back is lacks =
    subst (λ ws. Lacks OfTheKind (λ l. All IsNumber (drop 1 l)) ws rule) (sym is) (go lacks)
  where
    go : LacksNumbers n rest rule → Lacks OfTheKind (λ l. All IsNumber (drop 1 l)) (first ∷ rest) rule
    go (inl (kind, other)) = inl (kind, λ of. other (back of))
    go (inr (kind, count, bad)) = inr (kind, there count, bad)

pub lacks_red : (words rest : Line) (rule : BodyRule)
    → words ≡ codes "red" ∷ rest
    → LacksNumbers 1 rest rule
    → LacksMark words rule
lacks_red words rest rule =
    lacks_behind IsMarked (codes "red") 1 words rest rule (λ count. inl (refl, omega (arith, count))) back
  where
    back : IsMarked (codes "red" ∷ rest) → length rest ≡ 1
    back (inl red) = omega (arith, red.1)
    back (inr (inl green)) = absurd (differ (codes "red") (codes "green") refl green.0)
    back (inr (inr neutral)) = absurd (differ (codes "red") (codes "neutral") refl neutral.0)

pub lacks_green : (words rest : Line) (rule : BodyRule)
    → words ≡ codes "green" ∷ rest
    → LacksNumbers 1 rest rule
    → LacksMark words rule
lacks_green words rest rule =
    lacks_behind IsMarked (codes "green") 1 words rest rule (λ count. inr (inl (refl, omega (arith, count)))) back
  where
    back : IsMarked (codes "green" ∷ rest) → length rest ≡ 1
    back (inl red) = absurd (differ (codes "green") (codes "red") refl red.0)
    back (inr (inl green)) = omega (arith, green.1)
    back (inr (inr neutral)) = absurd (differ (codes "green") (codes "neutral") refl neutral.0)

-- another word with something behind it
pub no_mark : (words rest : Line) (color : Word)
    → words ≡ color ∷ rest
    → 0 < length rest
    → bytes_eq color (codes "red") ≡ false
    → bytes_eq color (codes "green") ≡ false → LacksMark words OfKind
no_mark words rest color is some no_red no_green = subst (λ ws. LacksMark ws OfKind) (sym is) (inl (refl, none))
  where
    none : IsMarked (color ∷ rest) → ⊥
    none (inl red) = differ color (codes "red") no_red red.0
    none (inr (inl green)) = differ color (codes "green") no_green green.0
    none (inr (inr neutral)) = absurd (omega (arith, some, neutral.1))

pub lacks_false : (words rest : Line) (rule : BodyRule)
    → words ≡ codes "false" ∷ rest
    → LacksNumbers 1 rest rule
    → LacksCause words rule
lacks_false words rest rule =
    lacks_behind IsCaused (codes "false") 1 words rest rule (λ count. inl (refl, omega (arith, count))) back
  where
    back : IsCaused (codes "false" ∷ rest) → length rest ≡ 1
    back (inl lie) = omega (arith, lie.1)
    back (inr (inl pair)) = absurd (differ (codes "false") (codes "pair") refl pair.0)
    back (inr (inr cycle)) = absurd (differ (codes "false") (codes "cycle") refl cycle.0)

pub lacks_pair : (words rest : Line) (rule : BodyRule)
    → words ≡ codes "pair" ∷ rest
    → LacksNumbers 2 rest rule
    → LacksCause words rule
lacks_pair words rest rule =
    lacks_behind IsCaused (codes "pair") 2 words rest rule (λ count. inr (inl (refl, omega (arith, count)))) back
  where
    back : IsCaused (codes "pair" ∷ rest) → length rest ≡ 2
    back (inl lie) = absurd (differ (codes "pair") (codes "false") refl lie.0)
    back (inr (inl pair)) = omega (arith, pair.1)
    back (inr (inr cycle)) = absurd (differ (codes "pair") (codes "cycle") refl cycle.0)

pub lacks_cycle : (words rest : Line) (rule : BodyRule)
    → words ≡ codes "cycle" ∷ rest
    → LacksNumbers 1 rest rule
    → LacksCause words rule
lacks_cycle words rest rule =
    lacks_behind IsCaused (codes "cycle") 1 words rest rule (λ count. inr (inr (refl, omega (arith, count)))) back
  where
    back : IsCaused (codes "cycle" ∷ rest) → length rest ≡ 1
    back (inl lie) = absurd (differ (codes "cycle") (codes "false") refl lie.0)
    back (inr (inl pair)) = absurd (differ (codes "cycle") (codes "pair") refl pair.0)
    back (inr (inr cycle)) = omega (arith, cycle.1)

pub no_cause : (words rest : Line) (first : Word) → words ≡ first ∷ rest → bytes_eq first (codes "false") ≡ false
    → bytes_eq first (codes "pair") ≡ false → bytes_eq first (codes "cycle") ≡ false → LacksCause words OfKind
no_cause words rest first is no_lie no_pair no_cycle = subst (λ ws. LacksCause ws OfKind) (sym is) (inl (refl, none))
  where
    none : IsCaused (first ∷ rest) → ⊥
    none (inl lie) = differ first (codes "false") no_lie lie.0
    none (inr (inl pair)) = differ first (codes "pair") no_pair pair.0
    none (inr (inr cycle)) = differ first (codes "cycle") no_cycle cycle.0

-- ---- what stands behind `go`

pub lacks_go_words : (words : Line) → length words < 2 → LacksGo words OfKind
lacks_go_words words few = inl (refl, λ go. absurd (omega (arith, few, go.0)))

module _ (words others : Line) (diamond entry : Word) (is : words ≡ diamond ∷ entry ∷ others) where
  pub lacks_mark : (rule : BodyRule) → LacksMark others rule → LacksGo words rule
  lacks_mark rule lacks = subst (λ ws. LacksGo ws rule) (sym is) (go lacks)
    where
      go : LacksMark others rule → LacksGo (diamond ∷ entry ∷ others) rule
      go (inl (kind, none)) = inl (kind, λ all. none all.1)
      go (inr (kind, marked, bad)) = inr (kind, (omega arith, marked), λ all. bad all.2)

  pub lacks_diamond : IsMarked others → ¬ (IsNumber diamond) → LacksGo words Numbers
  lacks_diamond marked bad = subst (λ ws. LacksGo ws Numbers) (sym is) (inr (refl, (omega arith, marked), λ all. bad all.0))

  pub lacks_entry : IsMarked others → ¬ (IsNumber entry) → LacksGo words Numbers
  lacks_entry marked bad = subst (λ ws. LacksGo ws Numbers) (sym is) (inr (refl, (omega arith, marked), λ all. bad all.1))

-- ---- lines of decisions

abbrev pub branch_kinds : List Kind
branch_kinds = numbered (codes "split") ∷ (clash_kinds ++ go_kinds)

slots_shape : (f : Word) (slots : List Slot) (words : Line)
    → InSlots false (Fixed f ∷ slots) words
    → (word words 0 ≡ f) × (length words ≡ length slots + 1)
slots_shape f slots [] is = absurd is
slots_shape f slots (w ∷ words) is = (is.0, omega (arith, count_slots slots words is.1))

shape_slots : (f : Word) (slots : List Slot) (words : Line)
    → OnlyNumbers slots
    → word words 0 ≡ f
    → length words ≡ length slots + 1
    → InSlots false (Fixed f ∷ slots) words
shape_slots f slots [] free is count = absurd (omega (arith, count))
shape_slots f slots (w ∷ words) free is count = (is, free_slots slots words free (omega (arith, count)))

fits_behind : (f : Word) (slots : List Slot) (words : Line)
    → OnlyNumbers slots
    → FitSlots (Fixed f ∷ slots) words
    → All IsNumber (drop 1 words)
fits_behind f slots [] free fits = All-nil IsNumber
fits_behind f slots (w ∷ words) free fits = fit_numbers slots words free fits.1

go_shape : (slots : List Slot) (words : Line) → InSlots false (ANumber ∷ ANumber ∷ slots) words
    → (2 ≤ length words) × InSlots false slots (drop 2 words)
go_shape slots [] is = absurd is
go_shape slots (w ∷ []) is = absurd is.1
go_shape slots (w ∷ x ∷ words) is = (omega arith, is.1.1)

go_slots : (slots : List Slot) (words : Line) → 2 ≤ length words → InSlots false slots (drop 2 words)
    → InSlots false (ANumber ∷ ANumber ∷ slots) words
go_slots slots [] some is = absurd (omega (arith, some))
go_slots slots (w ∷ []) some is = absurd (omega (arith, some))
go_slots slots (w ∷ x ∷ words) some is = (tt, (tt, is))

go_fits : (f : Word) (slots : List Slot) (words : Line) → OnlyNumbers slots → 2 ≤ length words
    → FitSlots (ANumber ∷ ANumber ∷ Fixed f ∷ slots) words → IsNumber (word words 0) × IsNumber (word words 1) × All IsNumber (drop 3 words)
go_fits f slots [] free some fits = absurd (omega (arith, some))
go_fits f slots (w ∷ []) free some fits = absurd (omega (arith, some))
go_fits f slots (w ∷ x ∷ words) free some fits = (fits.0, fits.1.0, fits_behind f slots words free fits.1.1)

module _ (names wanted depth : ℕ) where
  module _ (words : Line) (are : AreWords (codes "clash" ∷ words)) where
    clash_kind : IsCaused words → IsOfKinds branch_kinds (codes "clash" ∷ words)
    clash_kind (inl lie) = inr (inl (are, (refl, shape_slots (codes "false") (ANumber ∷ []) words tt lie.0 (omega (arith, lie.1)))))
    clash_kind (inr (inl pair)) =
        inr (inr (inl (are, (refl, shape_slots (codes "pair") (ANumber ∷ ANumber ∷ []) words tt pair.0 (omega (arith, pair.1))))))
    clash_kind (inr (inr cycle)) =
        inr (inr (inr (inl (are, (refl, shape_slots (codes "cycle") (ANumber ∷ []) words tt cycle.0 (omega (arith, cycle.1)))))))

    clash_caused : IsOfKinds branch_kinds (codes "clash" ∷ words) → IsCaused words
    clash_caused (inl split) = absurd (differ (codes "clash") (codes "split") refl split.1.0)
    clash_caused (inr (inl k)) = let s = slots_shape (codes "false") (ANumber ∷ []) words k.1.1 in inl (s.0, omega (arith, s.1))
    clash_caused (inr (inr (inl k))) =
        let s = slots_shape (codes "pair") (ANumber ∷ ANumber ∷ []) words k.1.1 in inr (inl (s.0, omega (arith, s.1)))
    clash_caused (inr (inr (inr (inl k)))) =
        let s = slots_shape (codes "cycle") (ANumber ∷ []) words k.1.1 in inr (inr (s.0, omega (arith, s.1)))
    clash_caused (inr (inr (inr (inr (inl k))))) = absurd (differ (codes "clash") (codes "go") refl k.1.0)
    clash_caused (inr (inr (inr (inr (inr (inl k)))))) = absurd (differ (codes "clash") (codes "go") refl k.1.0)
    clash_caused (inr (inr (inr (inr (inr (inr (inl k))))))) = absurd (differ (codes "clash") (codes "go") refl k.1.0)
    clash_caused (inr (inr (inr (inr (inr (inr (inr never))))))) = absurd never

    clash_numbers : IsCaused words → HaveNumbers branch_kinds (codes "clash" ∷ words) → All IsNumber (drop 1 words)
    clash_numbers (inl lie) have =
        let slots = shape_slots (codes "false") (ANumber ∷ []) words tt lie.0 (omega (arith, lie.1)) in
        fits_behind (codes "false") (ANumber ∷ []) words tt (have.1.0 (are, (refl, slots))).1
    clash_numbers (inr (inl pair)) have =
        let slots = shape_slots (codes "pair") (ANumber ∷ ANumber ∷ []) words tt pair.0 (omega (arith, pair.1)) in
        fits_behind (codes "pair") (ANumber ∷ ANumber ∷ []) words tt (have.1.1.0 (are, (refl, slots))).1
    clash_numbers (inr (inr cycle)) have =
        let slots = shape_slots (codes "cycle") (ANumber ∷ []) words tt cycle.0 (omega (arith, cycle.1)) in
        fits_behind (codes "cycle") (ANumber ∷ []) words tt (have.1.1.1.0 (are, (refl, slots))).1

    clash_first : (rule : BodyRule)
        → LacksCause words rule
        → BreaksBranch names wanted depth (codes "clash" ∷ words) rule
    clash_first rule (inl (kind, none)) F es b around deep left = inl (ap rule_number kind, λ of. none (clash_caused of))
    clash_first rule (inr (kind, caused, bad)) F es b around deep left =
        inr (clash_kind caused, inl (ap rule_number kind, λ have. bad (clash_numbers caused have)))

  pub clash_broken : (line words : Line) (rule : BodyRule)
      → line ≡ codes "clash" ∷ words
      → AreWords line
      → LacksCause words rule
      → BreaksBranch names wanted depth line rule
  clash_broken line words rule is are lacks =
      subst (λ l. BreaksBranch names wanted depth l rule) (sym is) (clash_first words (subst AreWords is are) rule lacks)

  module _ (words : Line) (are : AreWords (codes "go" ∷ words)) where
    red_slots : (2 ≤ length words)
        → Shape (codes "red") 2 (drop 2 words)
        → InSlots false (ANumber ∷ ANumber ∷ Fixed (codes "red") ∷ ANumber ∷ []) words
    red_slots some s =
        go_slots (Fixed (codes "red") ∷ ANumber ∷ []) words some (shape_slots (codes "red") (ANumber ∷ []) (drop 2 words) tt s.0 (omega (arith, s.1)))

    green_slots : (2 ≤ length words)
        → Shape (codes "green") 2 (drop 2 words)
        → InSlots false (ANumber ∷ ANumber ∷ Fixed (codes "green") ∷ ANumber ∷ []) words
    green_slots some s =
        go_slots (Fixed (codes "green") ∷ ANumber ∷ []) words some
        (shape_slots (codes "green") (ANumber ∷ []) (drop 2 words) tt s.0 (omega (arith, s.1)))

    neutral_slots : (2 ≤ length words)
        → Shape (codes "neutral") 1 (drop 2 words)
        → InSlots false (ANumber ∷ ANumber ∷ Fixed (codes "neutral") ∷ []) words
    neutral_slots some s =
        go_slots (Fixed (codes "neutral") ∷ []) words some (shape_slots (codes "neutral") [] (drop 2 words) tt s.0 (omega (arith, s.1)))

    go_kind : (2 ≤ length words) → IsMarked (drop 2 words) → IsOfKinds branch_kinds (codes "go" ∷ words)
    go_kind some (inl red) = inr (inr (inr (inr (inl (are, (refl, red_slots some red))))))
    go_kind some (inr (inl green)) = inr (inr (inr (inr (inr (inl (are, (refl, green_slots some green)))))))
    go_kind some (inr (inr neutral)) = inr (inr (inr (inr (inr (inr (inl (are, (refl, neutral_slots some neutral))))))))

    go_is : IsOfKinds branch_kinds (codes "go" ∷ words) → IsGo words
    go_is (inl split) = absurd (differ (codes "go") (codes "split") refl split.1.0)
    go_is (inr (inl k)) = absurd (differ (codes "go") (codes "clash") refl k.1.0)
    go_is (inr (inr (inl k))) = absurd (differ (codes "go") (codes "clash") refl k.1.0)
    go_is (inr (inr (inr (inl k)))) = absurd (differ (codes "go") (codes "clash") refl k.1.0)
    go_is (inr (inr (inr (inr (inl k))))) =
        let g = go_shape (Fixed (codes "red") ∷ ANumber ∷ []) words k.1.1 in
        let s = slots_shape (codes "red") (ANumber ∷ []) (drop 2 words) g.1 in (g.0, inl (s.0, omega (arith, s.1)))
    go_is (inr (inr (inr (inr (inr (inl k)))))) =
        let g = go_shape (Fixed (codes "green") ∷ ANumber ∷ []) words k.1.1 in
        let s = slots_shape (codes "green") (ANumber ∷ []) (drop 2 words) g.1 in (g.0, inr (inl (s.0, omega (arith, s.1))))
    go_is (inr (inr (inr (inr (inr (inr (inl k))))))) =
        let g = go_shape (Fixed (codes "neutral") ∷ []) words k.1.1 in
        let s = slots_shape (codes "neutral") [] (drop 2 words) g.1 in (g.0, inr (inr (s.0, omega (arith, s.1))))
    go_is (inr (inr (inr (inr (inr (inr (inr never))))))) = absurd never

    go_numbers : (2 ≤ length words) → IsMarked (drop 2 words) → HaveNumbers branch_kinds (codes "go" ∷ words)
        → IsNumber (word words 0) × IsNumber (word words 1) × All IsNumber (drop 3 words)
    go_numbers some (inl red) have =
        go_fits (codes "red") (ANumber ∷ []) words tt some (have.1.1.1.1.0 (are, (refl, red_slots some red))).1
    go_numbers some (inr (inl green)) have =
        go_fits (codes "green") (ANumber ∷ []) words tt some (have.1.1.1.1.1.0 (are, (refl, green_slots some green))).1
    go_numbers some (inr (inr neutral)) have =
        go_fits (codes "neutral") [] words tt some (have.1.1.1.1.1.1.0 (are, (refl, neutral_slots some neutral))).1

    go_first : (rule : BodyRule) → LacksGo words rule → BreaksBranch names wanted depth (codes "go" ∷ words) rule
    go_first rule (inl (kind, none)) F es b around deep left = inl (ap rule_number kind, λ of. none (go_is of))
    go_first rule (inr (kind, go, bad)) F es b around deep left =
        inr (go_kind go.0 go.1, inl (ap rule_number kind, λ have. bad (go_numbers go.0 go.1 have)))

  pub go_broken : (line words : Line) (rule : BodyRule) → line ≡ codes "go" ∷ words → AreWords line → LacksGo words rule
      → BreaksBranch names wanted depth line rule
  go_broken line words rule is are lacks =
      subst (λ l. BreaksBranch names wanted depth l rule) (sym is) (go_first words (subst AreWords is are) rule lacks)

  pub other_broken : (line : Line) → ¬ (IsOfKinds branch_kinds line) → BreaksBranch names wanted depth line OfKind
  other_broken line none F es b around deep left = inl (refl, none)

  -- a line that begins with no word of a branch
  pub no_branch : (line : Line)
      → bytes_eq (word line 0) (codes "split") ≡ false
      → bytes_eq (word line 0) (codes "clash") ≡ false
      → bytes_eq (word line 0) (codes "go") ≡ false → BreaksBranch names wanted depth line OfKind
  no_branch line no_split no_clash no_go = other_broken line (none line no_split no_clash no_go)
    where
      none : (l : Line) → bytes_eq (word l 0) (codes "split") ≡ false → bytes_eq (word l 0) (codes "clash") ≡ false
          → bytes_eq (word l 0) (codes "go") ≡ false → IsOfKinds branch_kinds l → ⊥
      none [] s c g (inl k) = k.1
      none [] s c g (inr (inl k)) = k.1
      none [] s c g (inr (inr (inl k))) = k.1
      none [] s c g (inr (inr (inr (inl k)))) = k.1
      none [] s c g (inr (inr (inr (inr (inl k))))) = k.1
      none [] s c g (inr (inr (inr (inr (inr (inl k)))))) = k.1
      none [] s c g (inr (inr (inr (inr (inr (inr (inl k))))))) = k.1
      none [] s c g (inr (inr (inr (inr (inr (inr (inr never))))))) = never
      none (w ∷ l) s c g (inl k) = differ w (codes "split") s k.1.0
      none (w ∷ l) s c g (inr (inl k)) = differ w (codes "clash") c k.1.0
      none (w ∷ l) s c g (inr (inr (inl k))) = differ w (codes "clash") c k.1.0
      none (w ∷ l) s c g (inr (inr (inr (inl k)))) = differ w (codes "clash") c k.1.0
      none (w ∷ l) s c g (inr (inr (inr (inr (inl k))))) = differ w (codes "go") g k.1.0
      none (w ∷ l) s c g (inr (inr (inr (inr (inr (inl k)))))) = differ w (codes "go") g k.1.0
      none (w ∷ l) s c g (inr (inr (inr (inr (inr (inr (inl k))))))) = differ w (codes "go") g k.1.0
      none (w ∷ l) s c g (inr (inr (inr (inr (inr (inr (inr never))))))) = never

  -- a go that leads to no entry, or has no name of those in use
  no_entry : Begun
  no_entry = record { sequent = []; traces = record { live = 0; items = [] }; heights = [] }

  pub out_of_range : (line words : Line) (d e : ℕ) (m : Mark) → line ≡ codes "go" ∷ words
      → words ≡ number d ∷ number e ∷ mark_words m → Fits d → Fits e → FitsMark m
      → ¬ ((e < wanted) × IsMarkOf names m) → BreaksBranch names wanted depth line GoInRange
  out_of_range line words d e m is_line is fits fits' fit none F es b around deep left =
      let k = knows names F wanted in
      let usual = go_usual Two left k es b d e m fits fits' fit in
      subst (λ l. IsFirstBroken (rules left (AtDecision k es b around)) l 29) (sym (is_line ∙ ap (λ ws. codes "go" ∷ ws) is))
      (inr (usual.0, inr (usual.1, inl (refl, λ keeps. bad (keeps refl)))))
    where
      bad : (value (word (go_line d e m) 2) < wanted) × IsMarkOf names (mark_of (go_line d e m)) → ⊥
      bad keeps =
          none (
            omega (arith, keeps.0, value_back e fits'),
            subst (IsMarkOf names) (mark_back Two [] (knows names InFull wanted) [] no_entry d e m fit) keeps.1,
          )
