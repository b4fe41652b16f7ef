-- The tokens of a label are read as the label.
--
--   Begun l             == what was read before a part of a label that is of the level l
--   before_level        == so it stands in the reader
--   clipped k           == a number, where it is below k, and else 0
--   clipped_guard       == the guard of a label, with clipped numbers
--   after_level         == what the reader holds behind a part of a label
--   noted_by f fs       == the first number out of range, of f and those of fs
--   label_read          == a part of a label is read
use Rattle.std.proofs.Common.{◌≡◌, ℕ, ◌+◌, Bool, true, false, nat_le, if◌then◌else◌, List, [], ◌∷◌, ◌++◌, length, Option, Some, None, refl, sym, ◌∙◌, ap, arith}
use Rattle.std.proofs.lemmas.List.{append_assoc}
use Rattle.ml_hoa.specs.declared.token.Mark.TheVariants as mark
use Rattle.ml_hoa.specs.declared.reader.Stage.TheVariants as stage
use Rattle.ml_hoa.specs.Automaton as automaton
use Rattle.ml_hoa.specs.Automaton.{Guard, most_operators}
use Rattle.ml_hoa.specs.Tokens.{Token, Plain}
use Rattle.ml_hoa.specs.Grammar.{Numeral, Level, Literal, Conjunction, Disjunction, Label, Const, Ap, Not, Inside, Last, And, Least, Or, label_tokens}
use Rattle.ml_hoa.specs.AutomatonText.{number_of, joined, guard_with, operators_in, most_inside, most_open, past, label_faults}
use Rattle.ml_hoa.specs.private.Machine.{LevelState, no_level, with_literal, with_not, level_guard, State, first_of, number_below}
use Rattle.ml_hoa.proofs.Runs.{run, Fits, led_within}

-- ---- numbers out of range

abbrev pub noted_by : Option ℕ → List ℕ → Option ℕ
noted_by f [] = f
noted_by f (x ∷ xs) = first_of f x

pub noted_none : (f : Option ℕ) → noted_by f [] ≡ f
noted_none f = refl

first_stays : (f : Option ℕ) (x : ℕ) (ys : List ℕ) → noted_by (first_of f x) ys ≡ first_of f x
first_stays f x [] = refl
first_stays None x (y ∷ ys) = refl
first_stays (Some z) x (y ∷ ys) = refl

pub noted_both : (f : Option ℕ) (xs ys : List ℕ) → noted_by f (xs ++ ys) ≡ noted_by (noted_by f xs) ys
noted_both f [] ys = refl
noted_both f (x ∷ xs) ys = sym (first_stays f x ys)

pub noted_if : (b : Bool) (f : Option ℕ) (at : ℕ)
    → (if b then first_of f at else f) ≡ noted_by f (if b then at ∷ [] else [])
noted_if true f at = refl
noted_if false f at = refl

-- ---- what stands in the reader

abbrev pub Begun : Level → Type 0
Begun Literal = LevelState
Begun Conjunction = Option Guard × Option Guard
Begun Disjunction = Option Guard

abbrev pub before_level : (l : Level) → Begun l → LevelState
before_level Literal b = b
before_level Conjunction b = record { ors = b.0; ands = b.1; nots = 0 }
before_level Disjunction b = record { ors = b; ands = None; nots = 0 }

abbrev pub clipped : ℕ → Numeral → ℕ
clipped k n = number_below k (number_of n)

abbrev pub clipped_guard : ℕ → {l : Level} → Option Guard → Label l → Guard
clipped_guard k before x = guard_with (clipped k) before x

abbrev pub after_level : ℕ → {l : Level} → Begun l → Label l → LevelState
after_level k b (Const c) = with_literal b (automaton.Const c)
after_level k b (Ap n) = with_literal b (automaton.Ap (clipped k n))
after_level k b (Not l) = with_literal b (clipped_guard k None (Not l))
after_level k b (Inside l) = with_literal b (clipped_guard k None l)
after_level k b (Last l) = record { ors = b.0; ands = Some (clipped_guard k b.1 (Last l)); nots = 0 }
after_level k b (And l c) = after_level k (b.0, Some (joined automaton.And b.1 (clipped_guard k None l))) c
after_level k b (Least c) = record { ors = b; ands = Some (clipped_guard k None c); nots = 0 }
after_level k b (Or c d) = after_level k (Some (joined automaton.Or b (clipped_guard k None c))) d

pub whole_guard : (k : ℕ) (b : Option Guard) (x : Label Disjunction)
    → level_guard (after_level k b x) ≡ clipped_guard k b x
whole_guard k b (Least c) = refl
whole_guard k b (Or c d) = whole_guard k (Some (joined automaton.Or b (clipped_guard k None c))) d

-- before an operand, and behind it
abbrev pub at_operand : State → LevelState → ℕ → State
at_operand s level used = record s { stage = stage.Operand; level = level; operators = used }

abbrev pub at_behind : State → LevelState → ℕ → Option ℕ → State
at_behind s level used f = record s { stage = stage.Behind; level = level; operators = used; fault = f }

-- a literal
behind_literal : (k : ℕ) (b : LevelState) (l : Label Literal)
    → after_level k b l ≡ with_literal b (clipped_guard k None l)
behind_literal k b (Const c) = refl
behind_literal k b (Ap n) = refl
behind_literal k b (Not l) = refl
behind_literal k b (Inside l) = refl

conjunction_is : (k : ℕ) (b : Option Guard × Option Guard) (c : Label Conjunction)
    → after_level k b c ≡ record { ors = b.0; ands = Some (clipped_guard k b.1 c); nots = 0 }
conjunction_is k b (Last l) = refl
conjunction_is k b (And l c) = conjunction_is k (b.0, Some (joined automaton.And b.1 (clipped_guard k None l))) c

pub label_read : (strict : Bool) {l : Level} (x : Label l) (s : State) (b : Begun l) (used total : ℕ) (rest : List Token)
    → total ≡ used + operators_in x
    → Fits strict total most_operators
    → Fits strict (length s.outer + most_inside x) most_open
    → run strict (at_operand s (before_level l b) used) (label_tokens x ++ rest)
    ≡ run strict (at_behind s (after_level s.prop_count b x) total (noted_by s.fault (label_faults s.prop_count x))) rest
label_read strict (Const true) s b used total rest is few open_few =
    let e : used ≡ total = omega arith in
    ap (λ n. run strict (at_behind s (with_literal b (automaton.Const true)) n s.fault) rest) e
label_read strict (Const false) s b used total rest is few open_few =
    let e : used ≡ total = omega arith in
    ap (λ n. run strict (at_behind s (with_literal b (automaton.Const false)) n s.fault) rest) e
label_read strict (Ap n) s b used total rest is few open_few =
    let e : used ≡ total = omega arith in
    let k = s.prop_count in
    ap (λ f. run strict (at_behind s (with_literal b (automaton.Ap (clipped k n))) used f) rest)
    (noted_if (nat_le k (number_of n)) s.fault n.at)
    ∙ ap (λ m. run strict (at_behind s (with_literal b (automaton.Ap (clipped k n))) m (noted_by s.fault (past k n))) rest) e
label_read strict (Not l) s b used total rest is few open_few =
    let k = s.prop_count in
    led_within strict most_operators used (at_operand s (with_not b) (used + 1))
    (λ next. run strict next (label_tokens l ++ rest)) (λ on. let low = few on in omega arith)
    ∙ label_read strict l s (with_not b) (used + 1) total rest (omega arith) few open_few
    ∙ ap (λ v. run strict (at_behind s v total (noted_by s.fault (label_faults k l))) rest) (behind_literal k (with_not b) l)
label_read strict (Inside l) s b used total rest is few open_few =
    let k = s.prop_count in
    let inner : State = record s { outer = b ∷ s.outer } in
    let f = noted_by s.fault (label_faults k l) in
    led_within strict most_open (length s.outer) (at_operand inner no_level used)
    (λ next. run strict next (label_tokens l ++ Plain mark.RightParen ∷ [] ++ rest)) (λ on. let low = open_few on in omega arith)
    ∙ ap (run strict (at_operand inner no_level used)) (append_assoc (label_tokens l) (Plain mark.RightParen ∷ []) rest)
    ∙ label_read strict l inner None used total (Plain mark.RightParen ∷ rest) is few (λ on. let low = open_few on in omega arith)
    ∙ ap (λ g. run strict (at_behind s (with_literal b g) total f) rest) (whole_guard k None l)
label_read strict (Last l) s b used total rest is few open_few =
    let k = s.prop_count in
    let level : LevelState = record { ors = b.0; ands = b.1; nots = 0 } in
    label_read strict l s level used total rest is few open_few
    ∙ ap (λ v. run strict (at_behind s v total (noted_by s.fault (label_faults k l))) rest) (behind_literal k level l)
label_read strict (And l c) s b used total rest is few open_few =
    let k = s.prop_count in
    let middle = used + operators_in l in
    let level : LevelState = record { ors = b.0; ands = b.1; nots = 0 } in
    let next : LevelState = record { ors = b.0; ands = Some (joined automaton.And b.1 (clipped_guard k None l)); nots = 0 } in
    let f = noted_by s.fault (label_faults k l) in
    let more = Plain mark.And ∷ (label_tokens c ++ rest) in
    ap (run strict (at_operand s level used)) (append_assoc (label_tokens l) (Plain mark.And ∷ label_tokens c) rest)
    ∙ label_read strict l s level used middle more refl (λ on. let low = few on in omega arith) (λ on. let low = open_few on in omega arith)
    ∙ ap (λ v. run strict (at_behind s v middle f) more) (behind_literal k level l)
    ∙ led_within strict most_operators middle (record s { stage = stage.Operand; level = next; operators = middle + 1; fault = f })
    (λ to. run strict to (label_tokens c ++ rest)) (λ on. let low = few on in omega arith)
    ∙ label_read strict c (record s { fault = f }) (next.ors, next.ands) (middle + 1) total rest (omega arith) few
    (λ on. let low = open_few on in omega arith)
    ∙ ap (λ g. run strict (at_behind s (after_level k b (And l c)) total g) rest)
    (sym (noted_both s.fault (label_faults k l) (label_faults k c)))
label_read strict (Least c) s b used total rest is few open_few =
    let k = s.prop_count in
    label_read strict c s (b, None) used total rest is few open_few
    ∙ ap (λ v. run strict (at_behind s v total (noted_by s.fault (label_faults k c))) rest) (conjunction_is k (b, None) c)
label_read strict (Or c d) s b used total rest is few open_few =
    let k = s.prop_count in
    let middle = used + operators_in c in
    let level : LevelState = record { ors = b; ands = None; nots = 0 } in
    let behind : LevelState = record { ors = b; ands = Some (clipped_guard k None c); nots = 0 } in
    let next : Option Guard = Some (joined automaton.Or b (clipped_guard k None c)) in
    let f = noted_by s.fault (label_faults k c) in
    let more = Plain mark.Or ∷ (label_tokens d ++ rest) in
    ap (run strict (at_operand s level used)) (append_assoc (label_tokens c) (Plain mark.Or ∷ label_tokens d) rest)
    ∙ label_read strict c s (b, None) used middle more refl (λ on. let low = few on in omega arith) (λ on. let low = open_few on in omega arith)
    ∙ ap (λ v. run strict (at_behind s v middle f) more) (conjunction_is k (b, None) c)
    ∙ led_within strict most_operators middle
    (record s { stage = stage.Operand; level = record { ors = next; ands = None; nots = 0 }; operators = middle + 1; fault = f })
    (λ to. run strict to (label_tokens d ++ rest)) (λ on. let low = few on in omega arith)
    ∙ label_read strict d (record s { fault = f }) next (middle + 1) total rest (omega arith) few
    (λ on. let low = open_few on in omega arith)
    ∙ ap (λ g. run strict (at_behind s (after_level k b (Or c d)) total g) rest)
    (sym (noted_both s.fault (label_faults k c) (label_faults k d)))
