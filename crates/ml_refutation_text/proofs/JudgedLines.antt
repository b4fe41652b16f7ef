-- Whether a line keeps the rules of its place in the body of a refutation is decided.
--
--   decided_kinds, decided_numbers == which kind a line is of, and whether it has its numbers
--   judges                         == each line is judged at each place
use Rattle.std.proofs.Common.{◌≡◌, ℕ, ◌+◌, ◌<◌, ◌≤◌, ◌⊎◌, Bool, true, false, List, [], ◌∷◌, Option, None, Some, length, get_or, drop, map, All, codes, inl, inr, refl, arith}
use Rattle.std.specs.Str.{all_ascii_digits}
use Rattle.std.proofs.lemmas.Bool.{cases_lt as less_or_not}
use Rattle.ml_base.specs.declared.version.Version.{Version}
use Rattle.ml_lines.specs.Lines.{Word, Line}
use Rattle.ml_lines.specs.Reading.{IsNumber, value, word}
use Rattle.ml_lines.proofs.DecidedWords.{decided_line, decided_words, decided_number}
use Rattle.ml_lists.specs.Ascending.{IsAscending}
use Rattle.ml_lists.specs.Last.{last_of}
use Rattle.ml_lists.specs.Readings.{Judges}
use Rattle.ml_lists.specs.Member.{IsMember}
use Rattle.ml_lists.proofs.Decided as is
use Rattle.ml_lists.proofs.Decided.{Decided}
use Rattle.ml_lists.proofs.Documents.{AreDecided, judged}
use Rattle.ml_trace.specs.declared.letters.AutomatonState.{AutomatonState}
use Rattle.ml_trace.specs.declared.marks.Mark.{Mark}
use Rattle.ml_trace.specs.declared.marks.Mark.TheVariants.{Red, Green, Neutral}
use Rattle.ml_trace.specs.Stack as traced
use Rattle.ml_refutation.specs.Refutation.{IsAbove, IsMarkOf, comes_before}
use Rattle.ml_refutation.specs.declared.refutation.TheConstants.{NESTING_LIMIT}
use Rattle.ml_refutation_text.specs.BodyRules.{Form, InFull, ByTables}
use Rattle.ml_refutation_text.specs.LineKinds.{Slot, Fixed, ANumber, AGuess, AnySize, Kind, IsSpelt, MayFollow, InSlot, FitsSlot, InSlots, FitSlots, IsOfKind, IsOfKinds, HaveNumbers}
use Rattle.ml_refutation_text.specs.BodyRules.{Place, AtNames, AtSequents, AtTableSequent, AtStacks, AtTableStack, AtEntries, AtEntry}
use Rattle.ml_refutation_text.specs.BodyRules.{AtSequent, AtLive, AtItem, AtDecision, AtEnd, AtNothing, IsNextItem, SequentInTable}
use Rattle.ml_refutation_text.specs.BodyRules.{StackInTable, values, state_of, stack_of, mark_of, kinds, further_rules, rules, body}

decided_implies : {P Q : Type 0} → Decided P → Decided Q → Decided (P → Q)
decided_implies p (inl q) = inl (λ any. q)
decided_implies (inl p) (inr none) = inr (λ h. none (h p))
decided_implies (inr never) (inr none) = inl (λ p. absurd (never p))

-- ---- kinds

spelt : (w : Word) → Decided (IsSpelt w)
spelt w =
    is.decided_same
    (λ (parts : (all_ascii_digits w ≡ true) × ((0 < length w) × (get_or w 0 0 ≡ 48 → length w ≡ 1))).
    (value w, record { digits = parts.0; some = parts.1.0; no_zero_leads = parts.1.1; is_value = refl }))
    (λ s. (s.1.digits, (s.1.some, s.1.no_zero_leads)))
    (is.decided_both (is.decided_test (all_ascii_digits w))
    (is.decided_both (is.decided_less 0 (length w)) (decided_implies (is.decided_number (get_or w 0 0) 48) (is.decided_number (length w) 1))))

in_slot : (slot : Slot) (w : Word) → Decided (InSlot slot w)
in_slot (Fixed word) w = is.decided_bytes w word
in_slot ANumber w = inl tt
in_slot AGuess w = inl tt
in_slot AnySize w = inl tt

fits_slot : (slot : Slot) (w : Word) → Decided (FitsSlot slot w)
fits_slot (Fixed word) w = inl tt
fits_slot ANumber w = decided_number w
fits_slot AGuess w = is.decided_either (is.decided_bytes w (codes "-")) (decided_number w)
fits_slot AnySize w = spelt w

may_follow : (further : Bool) (line : Line) → Decided (MayFollow further line)
may_follow true line = inl tt
may_follow false line = decided_line line []

in_slots : (further : Bool) (slots : List Slot) (line : Line) → Decided (InSlots further slots line)
in_slots further [] line = may_follow further line
in_slots further (slot ∷ slots) [] = inr (λ h. h)
in_slots further (slot ∷ slots) (w ∷ line) = is.decided_both (in_slot slot w) (in_slots further slots line)

fit_slots : (slots : List Slot) (line : Line) → Decided (FitSlots slots line)
fit_slots [] line = is.decided_all IsNumber decided_number line
fit_slots (slot ∷ slots) [] = inl tt
fit_slots (slot ∷ slots) (w ∷ line) = is.decided_both (fits_slot slot w) (fit_slots slots line)

of_kind : (k : Kind) (line : Line) → Decided (IsOfKind k line)
of_kind k line = is.decided_both (decided_words line) (in_slots k.further k.slots line)

decided_kinds : (ks : List Kind) (line : Line) → Decided (IsOfKinds ks line)
decided_kinds [] line = inr (λ h. h)
decided_kinds (k ∷ ks) line = is.decided_either (of_kind k line) (decided_kinds ks line)

decided_numbers : (ks : List Kind) (line : Line) → Decided (HaveNumbers ks line)
decided_numbers [] line = inl tt
decided_numbers (k ∷ ks) line =
    is.decided_both (decided_implies (of_kind k line) (fit_slots k.slots line)) (decided_numbers ks line)

-- ---- orders and ranges

above_all : (x : ℕ) (xs : List ℕ) → Decided ((y : ℕ) → IsMember y xs → x < y)
above_all x [] = inl (λ y h. absurd h)
above_all x (y ∷ ys) = is.decided_same there back (is.decided_both (is.decided_less x y) (above_all x ys))
  where
    there : (x < y) × ((z : ℕ) → IsMember z ys → x < z) → (z : ℕ) → IsMember z (y ∷ ys) → x < z
    there less z (inl same) = omega (arith, same, less.0)
    there less z (inr later) = less.1 z later

    back : ((z : ℕ) → IsMember z (y ∷ ys) → x < z) → (x < y) × ((z : ℕ) → IsMember z ys → x < z)
    back all = (all y (inl refl), λ z later. all z (inr later))

ascends : (xs : List ℕ) → Decided (IsAscending xs)
ascends [] = inl tt
ascends (x ∷ xs) = is.decided_both (above_all x xs) (ascends xs)

below : (bound : ℕ) (xs : List ℕ) → Decided (All (λ x. x < bound) xs)
below bound xs = is.decided_all (λ x. x < bound) (λ x. is.decided_less x bound) xs

is_above : (before : Option AutomatonState) (s : AutomatonState) → Decided (IsAbove before s)
is_above None s = inl tt
is_above (Some b) s = is.decided_test (comes_before b s)

mark_within : (names : ℕ) (m : Mark) → Decided (IsMarkOf names m)
mark_within names (Red x) = is.decided_less x names
mark_within names (Green x) = is.decided_less x names
mark_within names Neutral = inl tt

at_most : (m n : ℕ) → Decided (m ≤ n)
at_most m n = go (less_or_not n m)
  where
    go : (n < m) ⊎ (m ≤ n) → Decided (m ≤ n)
    go (inl more) = inr (λ h. omega (arith, h, more))
    go (inr within) = inl within

next_item : (form : Form) (traces : traced.Entry AutomatonState) (line : Line) → Decided (IsNextItem form traces line)
next_item form traces line =
    is.decided_same (λ parts. record { is_above = parts.0; ascends = parts.1.0; in_use = parts.1.1 })
    (λ item. (item.is_above, (item.ascends, item.in_use)))
    (is.decided_both (is_above (last_of None (map (λ a. a.state) traces.items)) (state_of line))
    (is.decided_both (ascends (stack_of form line)) (below traces.live (stack_of form line))))

sequent_inside : (form : Form) (line : Line) → Decided (SequentInTable form line)
sequent_inside InFull line = inl tt
sequent_inside (ByTables qs ks) line = is.decided_less (value (word line 2)) (length qs)

stack_inside : (form : Form) (line : Line) → Decided (StackInTable form line)
stack_inside InFull line = inl tt
stack_inside (ByTables qs ks) line = is.decided_less (value (word line 3)) (length ks)

-- ---- places

further : (p : Place) (line : Line) → AreDecided line (further_rules p)
further AtNames line = tt
further (AtSequents n) line = tt
further (AtTableSequent n size rows) line = (ascends (values (drop 1 line)), λ _. tt)
further (AtStacks n qs) line = tt
further (AtTableStack n qs size rows) line =
    (is.decided_both (ascends (values (drop 1 line))) (below n (values (drop 1 line))), λ _. tt)
further (AtEntries n form) line = (is.decided_less 0 (value (word line 1)), λ _. tt)
further (AtEntry k es) line =
    (is.decided_number (value (word line 1)) (length es), λ _. (sequent_inside k.form line, λ _. tt))
further (AtSequent k es) line = (ascends (values (drop 1 line)), λ _. tt)
further (AtLive k es q) line = (at_most (value (word line 1)) k.names, λ _. tt)
further (AtItem k es q traces) line = (
  decided_implies (is.decided_bytes (word line 0) (codes "item")) (next_item k.form traces line),
  λ _. (
    decided_implies (is.decided_bytes (word line 0) (codes "heights")) (is.decided_number (length (drop 1 line)) (k.names + 1)),
    λ _. (decided_implies (is.decided_bytes (word line 0) (codes "item")) (stack_inside k.form line), λ _. tt),
  ),
)
further (AtDecision k es b around) line = (
  decided_implies (is.decided_bytes (word line 0) (codes "go"))
      (is.decided_both (is.decided_less (value (word line 2)) k.wanted) (mark_within k.names (mark_of line))),
  λ _. (
    decided_implies (is.decided_bytes (word line 0) (codes "split")) (is.decided_less (length around) NESTING_LIMIT),
    λ _. tt,
  ),
)
further (AtEnd r) line = tt
further (AtNothing r) line = tt

usual : (p : Place) (line : Line) → Decided (IsOfKinds (kinds p) line)
    × (IsOfKinds (kinds p) line → Decided (HaveNumbers (kinds p) line) × (HaveNumbers (kinds p) line → AreDecided line (further_rules p)))
usual p line = (decided_kinds (kinds p) line, λ _. (decided_numbers (kinds p) line, λ _. further p line))

pub judges : (v : Version) (left : List ℕ) → Judges (body v left)
judges v left AtNames line = judged line (rules left AtNames) (usual AtNames line)
judges v left (AtSequents n) line = judged line (rules left (AtSequents n)) (usual (AtSequents n) line)
judges v left (AtTableSequent n size rows) line =
    judged line (rules left (AtTableSequent n size rows)) (usual (AtTableSequent n size rows) line)
judges v left (AtStacks n qs) line = judged line (rules left (AtStacks n qs)) (usual (AtStacks n qs) line)
judges v left (AtTableStack n qs size rows) line =
    judged line (rules left (AtTableStack n qs size rows)) (usual (AtTableStack n qs size rows) line)
judges v left (AtEntries n form) line = judged line (rules left (AtEntries n form)) (usual (AtEntries n form) line)
judges v left (AtEntry k es) line = judged line (rules left (AtEntry k es)) (usual (AtEntry k es) line)
judges v left (AtSequent k es) line = judged line (rules left (AtSequent k es)) (usual (AtSequent k es) line)
judges v left (AtLive k es q) line = judged line (rules left (AtLive k es q)) (usual (AtLive k es q) line)
judges v left (AtItem k es q traces) line = judged line (rules left (AtItem k es q traces)) (usual (AtItem k es q traces) line)
judges v left (AtDecision k es b around) line =
    judged line (rules left (AtDecision k es b around)) (usual (AtDecision k es b around) line)
judges v left (AtEnd r) line = judged line (rules left (AtEnd r)) (usual (AtEnd r) line)
judges v left (AtNothing r) line =
    judged line (rules left (AtNothing r)) (is.decided_both (decided_line line []) (is.decided_bytes left []), λ _. tt)
