-- Cores, and the marks of the items that they name.
--
--   parts_words      == the words for the parts of a core are the names that its marks give
--   core_fits        == a core that is made by marks fits where they may stand
--   core_marks       == a core that fits is made by marks
use Rattle.std.proofs.Common.{◌≡◌, ◌≢◌, ℕ, zero, suc, ◌+◌, ◌||◌, ◌&&◌, Bool, true, false, not, cond, List, [], ◌∷◌, ◌++◌, Some, codes, length, map, slice_get, refl, sym, ap, subst, ◌∙◌, arith}
use Rattle.std.specs.List.{flat_map, list_any}
use Rattle.std.proofs.lemmas.Bool.{and_parts, false≢true}
use Rattle.ml_lines.specs.Lines.{Word}
use Rattle.ml_spec.specs.Kinds.{is_requirement}
use Rattle.ml_spec.specs.Questions.{is_in}
use Rattle.ml_spec.specs.declared.question.Question.{Question}
use Rattle.ml_spec.specs.declared.specification.Item.{Item}
use Rattle.ml_replies.specs.Meeting.{numbers_from}
use Rattle.ml_replies.specs.Replies.{Core, Part}
use Rattle.ml_answers.specs.Due.{is_of_conflict, item_is_required, FitsCore}
use Rattle.ml_answers.specs.Lines as lines
use Rattle.ml_answers.specs.Lines.{because_words, is_met, name_at, name_of, needed_name, perhaps_words, unsettled_name}
use Rattle.ml_answers.specs.private.Marks.{is_named, is_needed, is_unsettled, may_mark, names_by, or_dash, perhaps, AreMarks}
use Rattle.ml_answers.specs.private.Reads.{ArePartsOf}
use Rattle.ml_answers.specs.declared.names.Mark.{Mark}
use Rattle.ml_answers.specs.declared.names.Mark.TheVariants.{Unnamed, Needed, Perhaps}

-- ---- from a number on

abbrev TakenFrom : (ℕ → Bool) → ℕ → List Bool → Type 0
TakenFrom T n ts = (j : ℕ) → T (n + j) ≡ is_in ts j

abbrev ItemsFrom : List Item → ℕ → List Item → Type 0
ItemsFrom ys n xs = (j : ℕ) → slice_get ys (n + j) ≡ slice_get xs j

taken_head : (T : ℕ → Bool) (n : ℕ) (t : Bool) (ts : List Bool) → TakenFrom T n (t ∷ ts) → T n ≡ t
taken_head T n t ts are = let same : n + 0 ≡ n = omega arith in subst (λ k. T k ≡ t) same (are 0)

taken_tail : (T : ℕ → Bool) (n : ℕ) (t : Bool) (ts : List Bool) → TakenFrom T n (t ∷ ts) → TakenFrom T (n + 1) ts
taken_tail T n t ts are = λ j.
    let same : n + suc j ≡ n + 1 + j = omega arith in subst (λ k. T k ≡ is_in ts j) same (are (suc j))

items_head : (ys : List Item) (n : ℕ) (x : Item) (xs : List Item) → ItemsFrom ys n (x ∷ xs) → slice_get ys n ≡ Some x
items_head ys n x xs are = let same : n + 0 ≡ n = omega arith in subst (λ k. slice_get ys k ≡ Some x) same (are 0)

items_tail : (ys : List Item) (n : ℕ) (x : Item) (xs : List Item) → ItemsFrom ys n (x ∷ xs) → ItemsFrom ys (n + 1) xs
items_tail ys n x xs are = λ j.
    let same : n + suc j ≡ n + 1 + j = omega arith in subst (λ k. slice_get ys k ≡ slice_get xs j) same (are (suc j))

name_there : (ys : List Item) (n k : ℕ) (x : Item) (xs : List Item) → ItemsFrom ys n (x ∷ xs) → k ≡ n → name_at ys k ≡ x.name
name_there ys n k x xs are same = ap (name_at ys) same ∙ ap name_of (items_head ys n x xs are)

-- ---- words of parts

needed_words : (S : ℕ → Bool) (ys : List Item) (n : ℕ) (xs : List Item) (ms : List Mark) (ps : List Part)
    → ItemsFrom ys n xs
    → AreMarks S n xs ms
    → ArePartsOf n ms ps
    → flat_map (needed_name ys) ps ≡ names_by is_needed xs ms
needed_words S ys n [] [] ps items are parts = ap (flat_map (needed_name ys)) parts
needed_words S ys n [] (m ∷ ms) ps items are parts = absurd are
needed_words S ys n (x ∷ xs) [] ps items are parts = absurd are
needed_words S ys n (x ∷ xs) (Unnamed ∷ ms) ps items are parts =
    needed_words S ys (n + 1) xs ms ps (items_tail ys n x xs items) are.1 parts
needed_words S ys n (x ∷ xs) (Needed ∷ ms) [] items are parts = absurd parts
needed_words S ys n (x ∷ xs) (Needed ∷ ms) (p ∷ ps) items are parts =
    ap (λ b. cond b (name_at ys p.requirement ∷ []) [] ++ flat_map (needed_name ys) ps) parts.1
    ∙ ap (λ w. w ∷ flat_map (needed_name ys) ps) (name_there ys n p.requirement x xs items parts.0)
    ∙ ap (λ ws. x.name ∷ ws) (needed_words S ys (n + 1) xs ms ps (items_tail ys n x xs items) are.1 parts.2)
needed_words S ys n (x ∷ xs) (Perhaps ∷ ms) [] items are parts = absurd parts
needed_words S ys n (x ∷ xs) (Perhaps ∷ ms) (p ∷ ps) items are parts =
    ap (λ b. cond b (name_at ys p.requirement ∷ []) [] ++ flat_map (needed_name ys) ps) parts.1
    ∙ needed_words S ys (n + 1) xs ms ps (items_tail ys n x xs items) are.1 parts.2

unsettled_words : (S : ℕ → Bool) (ys : List Item) (n : ℕ) (xs : List Item) (ms : List Mark) (ps : List Part)
    → ItemsFrom ys n xs
    → AreMarks S n xs ms
    → ArePartsOf n ms ps
    → flat_map (unsettled_name ys) ps ≡ names_by is_unsettled xs ms
unsettled_words S ys n [] [] ps items are parts = ap (flat_map (unsettled_name ys)) parts
unsettled_words S ys n [] (m ∷ ms) ps items are parts = absurd are
unsettled_words S ys n (x ∷ xs) [] ps items are parts = absurd are
unsettled_words S ys n (x ∷ xs) (Unnamed ∷ ms) ps items are parts =
    unsettled_words S ys (n + 1) xs ms ps (items_tail ys n x xs items) are.1 parts
unsettled_words S ys n (x ∷ xs) (Needed ∷ ms) [] items are parts = absurd parts
unsettled_words S ys n (x ∷ xs) (Needed ∷ ms) (p ∷ ps) items are parts =
    ap (λ b. cond (not b) (name_at ys p.requirement ∷ []) [] ++ flat_map (unsettled_name ys) ps) parts.1
    ∙ unsettled_words S ys (n + 1) xs ms ps (items_tail ys n x xs items) are.1 parts.2
unsettled_words S ys n (x ∷ xs) (Perhaps ∷ ms) [] items are parts = absurd parts
unsettled_words S ys n (x ∷ xs) (Perhaps ∷ ms) (p ∷ ps) items are parts =
    ap (λ b. cond (not b) (name_at ys p.requirement ∷ []) [] ++ flat_map (unsettled_name ys) ps) parts.1
    ∙ ap (λ w. w ∷ flat_map (unsettled_name ys) ps) (name_there ys n p.requirement x xs items parts.0)
    ∙ ap (λ ws. x.name ∷ ws) (unsettled_words S ys (n + 1) xs ms ps (items_tail ys n x xs items) are.1 parts.2)

-- the words for those that pass a test
module _ (f : Part → Bool) (g : Part → Word) where
  abbrev word_if : Part → List Word
  word_if p = cond (f p) (g p ∷ []) []

  none_chosen : (ps : List Part) → list_any f ps ≡ false → flat_map word_if ps ≡ []
  none_chosen [] none = refl
  none_chosen (p ∷ ps) none = go (f p) none (none_chosen ps)
    where
      go : (b : Bool)
          → (b || list_any f ps) ≡ false
          → (list_any f ps ≡ false → flat_map word_if ps ≡ [])
          → cond b (g p ∷ []) [] ++ flat_map word_if ps ≡ []
      go true none rest = absurd (false≢true (sym none))
      go false none rest = rest none

  some_chosen : (ps : List Part) → list_any f ps ≡ true → (w : Word) × (ws : List Word) × (flat_map word_if ps ≡ w ∷ ws)
  some_chosen [] some = absurd (false≢true some)
  some_chosen (p ∷ ps) some = go (f p) some (some_chosen ps)
    where
      go : (b : Bool)
          → (b || list_any f ps) ≡ true
          → (list_any f ps ≡ true → (w : Word) × (ws : List Word) × (flat_map word_if ps ≡ w ∷ ws))
          → (w : Word) × (ws : List Word) × (cond b (g p ∷ []) [] ++ flat_map word_if ps ≡ w ∷ ws)
      go true some rest = (g p, flat_map word_if ps, refl)
      go false some rest = rest some

because_is : (ys : List Item) (ps : List Part) → because_words ys ps ≡ or_dash (flat_map (needed_name ys) ps)
because_is ys ps = go (list_any lines.is_needed ps) refl
  where
    go : (b : Bool)
        → list_any lines.is_needed ps ≡ b
        → cond b (flat_map (needed_name ys) ps) (codes "-" ∷ []) ≡ or_dash (flat_map (needed_name ys) ps)
    go true is =
        let some = some_chosen lines.is_needed (λ p. name_at ys p.requirement) ps is in
        some.2 ∙ sym (ap or_dash some.2)
    go false is = sym (ap or_dash (none_chosen lines.is_needed (λ p. name_at ys p.requirement) ps is))

perhaps_is : (ys : List Item) (ps : List Part) → perhaps_words ys ps ≡ perhaps (flat_map (unsettled_name ys) ps)
perhaps_is ys ps = go (list_any lines.is_unsettled ps) refl
  where
    go : (b : Bool)
        → list_any lines.is_unsettled ps ≡ b
        → cond b (codes "perhaps:" ∷ flat_map (unsettled_name ys) ps) [] ≡ perhaps (flat_map (unsettled_name ys) ps)
    go true is =
        let some = some_chosen lines.is_unsettled (λ p. name_at ys p.requirement) ps is in
        ap (λ ws. codes "perhaps:" ∷ ws) some.2 ∙ sym (ap perhaps some.2)
    go false is = sym (ap perhaps (none_chosen lines.is_unsettled (λ p. name_at ys p.requirement) ps is))

all_items : (xs : List Item) → ItemsFrom xs 0 xs
all_items xs = λ j. let same : 0 + j ≡ j = omega arith in ap (slice_get xs) same

pub parts_words : (S : ℕ → Bool) (xs : List Item) (ms : List Mark) (ps : List Part)
    → AreMarks S 0 xs ms
    → ArePartsOf 0 ms ps
    → because_words xs ps ++ perhaps_words xs ps
    ≡ or_dash (names_by is_needed xs ms) ++ perhaps (names_by is_unsettled xs ms)
parts_words S xs ms ps are parts =
    ap (λ ws. ws ++ perhaps_words xs ps)
    (because_is xs ps ∙ ap or_dash (needed_words S xs 0 xs ms ps (all_items xs) are parts))
    ∙ ap (λ ws. or_dash (names_by is_needed xs ms) ++ ws)
    (perhaps_is xs ps ∙ ap perhaps (unsettled_words S xs 0 xs ms ps (all_items xs) are parts))

-- ---- numbers of parts

parts_numbers : (S T : ℕ → Bool) (n : ℕ) (xs : List Item) (ms : List Mark) (ps : List Part)
    → TakenFrom T n (map is_named ms)
    → AreMarks S n xs ms
    → ArePartsOf n ms ps
    → map (λ p. p.requirement) ps ≡ numbers_from T n xs
parts_numbers S T n [] [] ps taken are parts = ap (map (λ p. p.requirement)) parts
parts_numbers S T n [] (m ∷ ms) ps taken are parts = absurd are
parts_numbers S T n (x ∷ xs) [] ps taken are parts = absurd are
parts_numbers S T n (x ∷ xs) (Unnamed ∷ ms) ps taken are parts =
    parts_numbers S T (n + 1) xs ms ps (taken_tail T n false (map is_named ms) taken) are.1 parts
    ∙ sym (ap (λ b. cond (b && is_requirement x.kind) (n ∷ numbers_from T (n + 1) xs) (numbers_from T (n + 1) xs))
    (taken_head T n false (map is_named ms) taken))
parts_numbers S T n (x ∷ xs) (Needed ∷ ms) [] taken are parts = absurd parts
parts_numbers S T n (x ∷ xs) (Needed ∷ ms) (p ∷ ps) taken are parts =
    ap (λ k. k ∷ map (λ p. p.requirement) ps) parts.0
    ∙ ap (λ ks. n ∷ ks) (parts_numbers S T (n + 1) xs ms ps (taken_tail T n true (map is_named ms) taken) are.1 parts.2)
    ∙ sym (ap (λ b. cond (b && is_requirement x.kind) (n ∷ numbers_from T (n + 1) xs) (numbers_from T (n + 1) xs))
    (taken_head T n true (map is_named ms) taken)
    ∙ ap (λ b. cond b (n ∷ numbers_from T (n + 1) xs) (numbers_from T (n + 1) xs))
    (and_parts (is_requirement x.kind) (S n) (are.0 refl)).0)
parts_numbers S T n (x ∷ xs) (Perhaps ∷ ms) [] taken are parts = absurd parts
parts_numbers S T n (x ∷ xs) (Perhaps ∷ ms) (p ∷ ps) taken are parts =
    ap (λ k. k ∷ map (λ p. p.requirement) ps) parts.0
    ∙ ap (λ ks. n ∷ ks) (parts_numbers S T (n + 1) xs ms ps (taken_tail T n true (map is_named ms) taken) are.1 parts.2)
    ∙ sym (ap (λ b. cond (b && is_requirement x.kind) (n ∷ numbers_from T (n + 1) xs) (numbers_from T (n + 1) xs))
    (taken_head T n true (map is_named ms) taken)
    ∙ ap (λ b. cond b (n ∷ numbers_from T (n + 1) xs) (numbers_from T (n + 1) xs))
    (and_parts (is_requirement x.kind) (S n) (are.0 refl)).0)

-- ---- what is taken

abbrev AreAmong : (ℕ → Bool) → ℕ → List Item → List Bool → Type 0
AreAmong S n xs ts = (j : ℕ) → is_in ts j ≡ true → (item_is_required (slice_get xs j) && S (n + j)) ≡ true

marks_among : (S : ℕ → Bool) (n : ℕ) (xs : List Item) (ms : List Mark)
    → AreMarks S n xs ms
    → AreAmong S n xs (map is_named ms)
marks_among S n [] [] are = λ j e. absurd (false≢true e)
marks_among S n [] (m ∷ ms) are = absurd are
marks_among S n (x ∷ xs) [] are = absurd are
marks_among S n (x ∷ xs) (m ∷ ms) are = go (marks_among S (n + 1) xs ms are.1)
  where
    go : AreAmong S (n + 1) xs (map is_named ms) → AreAmong S n (x ∷ xs) (map is_named (m ∷ ms))
    go rest zero e =
        let same : n + 0 ≡ n = omega arith in
        subst (λ k. (is_requirement x.kind && S k) ≡ true) (sym same) (are.0 e)
    go rest (suc j) e =
        let same : n + 1 + j ≡ n + suc j = omega arith in
        subst (λ k. (item_is_required (slice_get xs j) && S k) ≡ true) same (rest j e)

marks_length : (S : ℕ → Bool) (n : ℕ) (xs : List Item) (ms : List Mark)
    → AreMarks S n xs ms
    → length (map is_named ms) ≡ length xs
marks_length S n [] [] are = refl
marks_length S n [] (m ∷ ms) are = absurd are
marks_length S n (x ∷ xs) [] are = absurd are
marks_length S n (x ∷ xs) (m ∷ ms) are = ap suc (marks_length S (n + 1) xs ms are.1)

all_taken : (ts : List Bool) → TakenFrom (is_in ts) 0 ts
all_taken ts = λ j. let same : 0 + j ≡ j = omega arith in ap (is_in ts) same

-- parts of marks some of which name an item
some_parts : (n : ℕ) (ms : List Mark) → list_any is_named ms ≡ true → ArePartsOf n ms [] → ⊥
some_parts n [] some parts = false≢true some
some_parts n (Unnamed ∷ ms) some parts = some_parts (n + 1) ms some parts
some_parts n (Needed ∷ ms) some parts = parts
some_parts n (Perhaps ∷ ms) some parts = parts

pub core_fits : (S : ℕ → Bool) (xs : List Item) (q : Question) (ms : List Mark) (c : Core)
    → AreMarks S 0 xs ms
    → (is_of_conflict q ≡ true → list_any is_named ms ≡ true)
    → c.taken ≡ map is_named ms
    → ArePartsOf 0 ms c.parts
    → FitsCore xs S q c
core_fits S xs q ms c are some taken parts = record {
  are_told = ap length taken ∙ marks_length S 0 xs ms are;
  are_among = λ k e.
      let same : 0 + k ≡ k = omega arith in
      subst (λ j. (item_is_required (slice_get xs k) && S j) ≡ true) same
      (marks_among S 0 xs ms are k (sym (ap (λ ts. is_in ts k) taken) ∙ e));
  are_parts =
      parts_numbers S (is_in c.taken) 0 xs ms c.parts
      (subst (TakenFrom (is_in c.taken) 0) taken (all_taken c.taken)) are parts;
  some_named = λ want none. some_parts 0 ms (some want) (subst (ArePartsOf 0 ms) none parts);
}

-- ---- and back

pub record IsMadeBy (S : ℕ → Bool) (n : ℕ) (xs : List Item) (ts : List Bool) (ps : List Part) (ms : List Mark) : Type 0 where
  pub are_marks : AreMarks S n xs ms
  pub taken : ts ≡ map is_named ms
  pub parts : ArePartsOf n ms ps

abbrev Made : (ℕ → Bool) → ℕ → List Item → List Bool → List Part → Type 0
Made S n xs ts ps = (ms : List Mark) × IsMadeBy S n xs ts ps ms

none_left : (ps : List Part) → map (λ p. p.requirement) ps ≡ [] → ps ≡ []
none_left [] e = refl
none_left (p ∷ ps) e = absurd cc

with_named : (S : ℕ → Bool) (n : ℕ) (x : Item) (xs : List Item) (ts : List Bool) (p : Part) (ps : List Part)
    → may_mark S n x ≡ true
    → p.requirement ≡ n
    → Made S (n + 1) xs ts ps
    → Made S n (x ∷ xs) (true ∷ ts) (p ∷ ps)
with_named S n x xs ts p ps may is_n (ms, is) = go (is_met p.without) refl
  where
    go : (b : Bool) → is_met p.without ≡ b → Made S n (x ∷ xs) (true ∷ ts) (p ∷ ps)
    go true met = (
      Needed ∷ ms,
      record {
        are_marks = (λ _. may, is.are_marks);
        taken = ap (λ us. true ∷ us) is.taken;
        parts = (is_n, met, is.parts);
      },
    )
    go false met = (
      Perhaps ∷ ms,
      record {
        are_marks = (λ _. may, is.are_marks);
        taken = ap (λ us. true ∷ us) is.taken;
        parts = (is_n, met, is.parts);
      },
    )

marks_made : (S T : ℕ → Bool) (n : ℕ) (xs : List Item) (ts : List Bool) (ps : List Part)
    → TakenFrom T n ts
    → length ts ≡ length xs
    → AreAmong S n xs ts
    → map (λ p. p.requirement) ps ≡ numbers_from T n xs
    → Made S n xs ts ps
marks_made S T n [] [] ps taken told among numbers =
    ([], record { are_marks = tt; taken = refl; parts = none_left ps numbers })
marks_made S T n [] (t ∷ ts) ps taken told among numbers = absurd (omega (arith, told))
marks_made S T n (x ∷ xs) [] ps taken told among numbers = absurd (omega (arith, told))
marks_made S T n (x ∷ xs) (t ∷ ts) ps taken told among numbers =
    go t (taken_head T n t ts taken) (among 0) ps numbers
    (λ ps numbers. marks_made S T (n + 1) xs ts ps (taken_tail T n t ts taken) (omega (arith, told)) later numbers)
  where
    later : AreAmong S (n + 1) xs ts
    later = λ j e.
        let same : n + suc j ≡ n + 1 + j = omega arith in
        subst (λ k. (item_is_required (slice_get xs j) && S k) ≡ true) same (among (suc j) e)

    go : (t : Bool)
        → T n ≡ t
        → (t ≡ true → (is_requirement x.kind && S (n + 0)) ≡ true)
        → (ps : List Part)
        → map (λ p. p.requirement) ps ≡ numbers_from T n (x ∷ xs)
        → ((ps : List Part) → map (λ p. p.requirement) ps ≡ numbers_from T (n + 1) xs → Made S (n + 1) xs ts ps)
        → Made S n (x ∷ xs) (t ∷ ts) ps
    go false is_t may ps numbers rest =
        let made = rest ps
        (numbers
        ∙ ap (λ b. cond (b && is_requirement x.kind) (n ∷ numbers_from T (n + 1) xs) (numbers_from T (n + 1) xs)) is_t) in (
          Unnamed ∷ made.0,
          record {
            are_marks = (λ e. absurd (false≢true e), made.1.are_marks);
            taken = ap (λ us. false ∷ us) made.1.taken;
            parts = made.1.parts;
          },
        )
    go true is_t may ps numbers rest =
        let same : n + 0 ≡ n = omega arith in
        let may_n : may_mark S n x ≡ true = subst (λ k. (is_requirement x.kind && S k) ≡ true) same (may refl) in
        by ps (numbers
        ∙ ap (λ b. cond (b && is_requirement x.kind) (n ∷ numbers_from T (n + 1) xs) (numbers_from T (n + 1) xs)) is_t
        ∙ ap (λ b. cond b (n ∷ numbers_from T (n + 1) xs) (numbers_from T (n + 1) xs))
        (and_parts (is_requirement x.kind) (S n) may_n).0) may_n
      where
        by : (ps : List Part)
            → map (λ p. p.requirement) ps ≡ n ∷ numbers_from T (n + 1) xs
            → may_mark S n x ≡ true
            → Made S n (x ∷ xs) (true ∷ ts) ps
        by [] e may = absurd cc
        by (p ∷ ps) e may =
            let is_n : p.requirement ≡ n = cc in
            let are : map (λ p. p.requirement) ps ≡ numbers_from T (n + 1) xs = cc in
            with_named S n x xs ts p ps may is_n (rest ps are)

pub core_marks : (S : ℕ → Bool) (xs : List Item) (q : Question) (c : Core)
    → FitsCore xs S q c
    → (ms : List Mark) × IsMadeBy S 0 xs c.taken c.parts ms
core_marks S xs q c fits =
    marks_made S (is_in c.taken) 0 xs c.taken c.parts (all_taken c.taken) fits.are_told
    (λ j e. let same : j ≡ 0 + j = omega arith in
    subst (λ k. (item_is_required (slice_get xs j) && S k) ≡ true) same (fits.are_among j e))
    fits.are_parts

-- where one part is wanted and there is one, some mark names an item
pub some_named : (n : ℕ) (ms : List Mark) (p : Part) (ps : List Part) → ArePartsOf n ms (p ∷ ps) → list_any is_named ms ≡ true
some_named n [] p ps parts = absurd cc
some_named n (Unnamed ∷ ms) p ps parts = some_named (n + 1) ms p ps parts
some_named n (Needed ∷ ms) p ps parts = refl
some_named n (Perhaps ∷ ms) p ps parts = refl
