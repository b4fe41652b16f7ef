-- Marks of items, and the names by which they are told.
--
--   Differ xs          == no two of the items xs have one name
--   AreNamed xs        == each has a name that is one
--   items_differ       == so it is in a specification
--   scan_is            == what a scan finds names what it has read
--   scan_finds         == a scan finds the marks by which words are the items' names
--   names_named        == the names of such items are such names
--   none_named         == where an item is marked, some is named
use Rattle.std.proofs.Common.{◌≡◌, ◌≢◌, ℕ, suc, ◌+◌, ◌||◌, ◌&&◌, Bool, true, false, cond, List, [], ◌∷◌, ◌++◌, codes, drop, refl, sym, ap, subst, ◌∙◌, arith}
use Rattle.std.specs.Prelude.{⊤}
use Rattle.std.specs.List.{AllByRecursion, list_any}
use Rattle.std.specs.Str.{bytes_eq}
use Rattle.std.proofs.lemmas.Bool.{false_from_ne_true}
use Rattle.std.proofs.lemmas.List.{append-nil, append_assoc}
use Rattle.std.proofs.lemmas.Slice.Eq.{bytes_eq-Decides}
use Rattle.ml_lines.specs.Lines.{Word}
use Rattle.ml_spec.specs.Items.{is_name}
use Rattle.ml_spec.specs.Specification.{AreNew}
use Rattle.ml_spec.specs.declared.specification.Item.{Item}
use Rattle.ml_answers.specs.private.Marks.{heads, is_named, is_needed, is_over, is_unsettled, left_by, mark_at, may_mark, names_by, scan, with_mark, AreMarks, Scanned}
use Rattle.ml_answers.specs.declared.names.Mark.{Mark}
use Rattle.ml_answers.specs.declared.names.Mark.TheVariants.{Unnamed, Needed, Perhaps}

-- ---- words

pub same_word : (v w : Word) → bytes_eq v w ≡ true → v ≡ w
same_word v w e = (bytes_eq-Decides v w).0 e

pub word_same : (v w : Word) → v ≡ w → bytes_eq v w ≡ true
word_same v w e = (bytes_eq-Decides v w).1 e

pub other_word : (v w : Word) → v ≢ w → bytes_eq v w ≡ false
other_word v w ne = false_from_ne_true (bytes_eq v w) (λ e. ne (same_word v w e))

-- ---- names of items

abbrev pub Differ : List Item → Type 0
Differ [] = ⊤
Differ (x ∷ xs) = AllByRecursion (λ y. y.name ≢ x.name) xs × Differ xs

abbrev pub AreNamed : List Item → Type 0
AreNamed xs = AllByRecursion (λ x. is_name x.name ≡ true) xs

first_differs : (x : Item) (before xs : List Item)
    → AreNew (x ∷ (before ++ xs))
    → AllByRecursion (λ y. y.name ≢ x.name) xs
first_differs x before [] new = tt
first_differs x before (y ∷ ys) new = (
  (λ e. new (x ∷ before) y ys refl (0, omega arith, sym e)),
  first_differs x (before ++ y ∷ []) ys
      (subst AreNew (ap (λ zs. x ∷ zs) (sym (append_assoc before (y ∷ []) ys))) new),
)

later_new : (x : Item) (xs : List Item) → AreNew (x ∷ xs) → AreNew xs
later_new x xs new = λ before y after e taken.
    new (x ∷ before) y after (ap (λ zs. x ∷ zs) e) (suc taken.0, omega (arith, taken.1), taken.2)

pub items_differ : (xs : List Item) → AreNew xs → Differ xs
items_differ [] new = tt
items_differ (x ∷ xs) new = (first_differs x [] xs new, items_differ xs (later_new x xs new))

pub named_no_mark : (w : Word) → is_name w ≡ true → w ≢ codes "perhaps:"
named_no_mark w named e = let no : is_name (codes "perhaps:") ≡ false = refl in cc

pub named_no_dash : (w : Word) → is_name w ≡ true → w ≢ codes "-"
named_no_dash w named e = let no : is_name (codes "-") ≡ false = refl in cc

-- ---- what a scan finds

abbrev IsScanned : (ℕ → Bool) → ℕ → List Item → List Word → List Word → Scanned → Type 0
IsScanned S n xs a b s =
    AreMarks S n xs s.marks
    × (a ≡ names_by is_needed xs s.marks ++ s.needed)
    × (b ≡ names_by is_unsettled xs s.marks ++ s.unsettled)

-- a list that a word heads
pub head_is : (ws : List Word) (w : Word) → heads ws w ≡ true → ws ≡ w ∷ drop 1 ws
head_is [] w e = absurd cc
head_is (v ∷ vs) w e = ap (λ u. u ∷ vs) (same_word v w e)

-- the mark of one item
abbrev IsMarkedBy : Bool → Word → List Word → List Word → Mark → Type 0
IsMarkedBy may name a b m =
    (is_named m ≡ true → may ≡ true)
    × (is_needed m ≡ true → a ≡ name ∷ drop 1 a)
    × (is_unsettled m ≡ true → b ≡ name ∷ drop 1 b)

mark_is : (may : Bool) (name : Word) (a b : List Word) → IsMarkedBy may name a b (mark_at may name a b)
mark_is false name a b = (λ e. e, λ e. absurd cc, λ e. absurd cc)
mark_is true name a b = go (heads a name) (heads b name) (head_is a name) (head_is b name)
  where
    go : (s t : Bool)
        → (s ≡ true → a ≡ name ∷ drop 1 a)
        → (t ≡ true → b ≡ name ∷ drop 1 b)
        → IsMarkedBy true name a b (cond s Needed (cond t Perhaps Unnamed))
    go true t is_a is_b = (λ e. refl, λ e. is_a refl, λ e. absurd cc)
    go false true is_a is_b = (λ e. refl, λ e. absurd cc, λ e. is_b refl)
    go false false is_a is_b = (λ e. absurd cc, λ e. absurd cc, λ e. absurd cc)

pub scan_is : (S : ℕ → Bool) (n : ℕ) (xs : List Item) (a b : List Word) → IsScanned S n xs a b (scan S n xs a b)
scan_is S n [] a b = (tt, refl, refl)
scan_is S n (x ∷ xs) a b = go (mark_at (may_mark S n x) x.name a b) (mark_is (may_mark S n x) x.name a b) (scan_is S (n + 1) xs)
  where
    go : (m : Mark)
        → IsMarkedBy (may_mark S n x) x.name a b m
        → ((a b : List Word) → IsScanned S (n + 1) xs a b (scan S (n + 1) xs a b))
        → IsScanned S n (x ∷ xs) a b
        (with_mark m (scan S (n + 1) xs (left_by (is_needed m) a) (left_by (is_unsettled m) b)))
    go Unnamed is rest = let r = rest a b in ((is.0, r.0), r.1, r.2)
    go Needed is rest =
        let r = rest (drop 1 a) b in
        ((is.0, r.0), is.1 refl ∙ ap (λ ws. x.name ∷ ws) r.1, r.2)
    go Perhaps is rest =
        let r = rest a (drop 1 b) in
        ((is.0, r.0), r.1, is.2 refl ∙ ap (λ ws. x.name ∷ ws) r.2)

-- ---- the marks that words have

no_head : (p : Mark → Bool) (w : Word) (xs : List Item) (ms : List Mark) (ends : List Word)
    → AllByRecursion (λ y. y.name ≢ w) xs
    → is_name w ≡ true
    → is_over ends ≡ true
    → heads (names_by p xs ms ++ ends) w ≡ false
no_head p w [] ms ends differ named over = by ends over
  where
    by : (ends : List Word) → is_over ends ≡ true → heads ends w ≡ false
    by [] over = refl
    by (v ∷ vs) over = other_word v w (λ e. named_no_mark w named (sym e ∙ same_word v (codes "perhaps:") over))
no_head p w (x ∷ xs) [] ends differ named over = by ends over
  where
    by : (ends : List Word) → is_over ends ≡ true → heads ends w ≡ false
    by [] over = refl
    by (v ∷ vs) over = other_word v w (λ e. named_no_mark w named (sym e ∙ same_word v (codes "perhaps:") over))
no_head p w (x ∷ xs) (m ∷ ms) ends differ named over = go (p m) (no_head p w xs ms ends differ.1 named over)
  where
    go : (t : Bool)
        → heads (names_by p xs ms ++ ends) w ≡ false
        → heads (cond t (x.name ∷ names_by p xs ms) (names_by p xs ms) ++ ends) w ≡ false
    go true rest = other_word x.name w differ.0
    go false rest = rest

pub scan_finds : (S : ℕ → Bool) (n : ℕ) (xs : List Item) (a b : List Word) (ms : List Mark) (ends : List Word)
    → Differ xs
    → AreNamed xs
    → AreMarks S n xs ms
    → a ≡ names_by is_needed xs ms ++ ends
    → is_over ends ≡ true
    → b ≡ names_by is_unsettled xs ms
    → scan S n xs a b ≡ record { marks = ms; needed = ends; unsettled = [] }
scan_finds S n [] a b [] ends differ named are is_a over is_b = cc
scan_finds S n [] a b (m ∷ ms) ends differ named are is_a over is_b = absurd are
scan_finds S n (x ∷ xs) a b [] ends differ named are is_a over is_b = absurd are
scan_finds S n (x ∷ xs) a b (m ∷ ms) ends differ named are is_a over is_b =
    go m are.0 is_a is_b
    (λ a b is_a is_b. scan_finds S (n + 1) xs a b ms ends differ.1 named.1 are.1 is_a over is_b)
  where
    -- what the mark is, in front of words that go on as the marks say
    step : (m : Mark)
        → mark_at (may_mark S n x) x.name a b ≡ m
        → scan S (n + 1) xs (left_by (is_needed m) a) (left_by (is_unsettled m) b)
        ≡ record { marks = ms; needed = ends; unsettled = [] }
        → scan S n (x ∷ xs) a b ≡ record { marks = m ∷ ms; needed = ends; unsettled = [] }
    step m is rest =
        ap (λ k. with_mark k (scan S (n + 1) xs (left_by (is_needed k) a) (left_by (is_unsettled k) b))) is
        ∙ ap (with_mark m) rest

    marks : (may s t : Bool) → may_mark S n x ≡ may → heads a x.name ≡ s → heads b x.name ≡ t
        → mark_at (may_mark S n x) x.name a b ≡ cond (may && s) Needed (cond (may && t) Perhaps Unnamed)
    marks may s t is_may is_s is_t =
        ap (λ k. cond (k && heads a x.name) Needed (cond (k && heads b x.name) Perhaps Unnamed)) is_may
        ∙ ap (λ k. cond (may && k) Needed (cond (may && heads b x.name) Perhaps Unnamed)) is_s
        ∙ ap (λ k. cond (may && s) Needed (cond (may && k) Perhaps Unnamed)) is_t

    by_may : (may : Bool) → cond (may && false) Needed (cond (may && false) Perhaps Unnamed) ≡ Unnamed
    by_may true = refl
    by_may false = refl

    go : (m : Mark)
        → (is_named m ≡ true → may_mark S n x ≡ true)
        → a ≡ names_by is_needed (x ∷ xs) (m ∷ ms) ++ ends
        → b ≡ names_by is_unsettled (x ∷ xs) (m ∷ ms)
        → ((a b : List Word)
        → a ≡ names_by is_needed xs ms ++ ends
        → b ≡ names_by is_unsettled xs ms
        → scan S (n + 1) xs a b ≡ record { marks = ms; needed = ends; unsettled = [] })
        → scan S n (x ∷ xs) a b ≡ record { marks = m ∷ ms; needed = ends; unsettled = [] }
    go Unnamed may is_a is_b rest =
        let no_a : heads a x.name ≡ false =
        ap (λ ws. heads ws x.name) is_a ∙ no_head is_needed x.name xs ms ends differ.0 named.0 over in
        let no_b : heads b x.name ≡ false =
        ap (λ ws. heads ws x.name) (is_b ∙ sym (append-nil (names_by is_unsettled xs ms)))
        ∙ no_head is_unsettled x.name xs ms [] differ.0 named.0 refl in
        step Unnamed (marks (may_mark S n x) false false refl no_a no_b ∙ by_may (may_mark S n x)) (rest a b is_a is_b)
    go Needed may is_a is_b rest =
        let yes : heads a x.name ≡ true = ap (λ ws. heads ws x.name) is_a ∙ word_same x.name x.name refl in
        step Needed (marks true true (heads b x.name) (may refl) yes refl)
        (rest (drop 1 a) b (ap (drop 1) is_a) is_b)
    go Perhaps may is_a is_b rest =
        let no_a : heads a x.name ≡ false =
        ap (λ ws. heads ws x.name) is_a ∙ no_head is_needed x.name xs ms ends differ.0 named.0 over in
        let yes : heads b x.name ≡ true = ap (λ ws. heads ws x.name) is_b ∙ word_same x.name x.name refl in
        step Perhaps (marks true false true (may refl) no_a yes) (rest a (drop 1 b) is_a (ap (drop 1) is_b))

-- ---- what is named

pub names_named : (p : Mark → Bool) (xs : List Item) (ms : List Mark)
    → AreNamed xs
    → AllByRecursion (λ w. is_name w ≡ true) (names_by p xs ms)
names_named p [] ms named = tt
names_named p (x ∷ xs) [] named = tt
names_named p (x ∷ xs) (m ∷ ms) named = go (p m) (names_named p xs ms named.1)
  where
    go : (t : Bool)
        → AllByRecursion (λ w. is_name w ≡ true) (names_by p xs ms)
        → AllByRecursion (λ w. is_name w ≡ true) (cond t (x.name ∷ names_by p xs ms) (names_by p xs ms))
    go true rest = (named.0, rest)
    go false rest = rest

-- a test that only marks with names pass
abbrev pub Names : (Mark → Bool) → Type 0
Names p = (m : Mark) → p m ≡ true → is_named m ≡ true

pub needed_names : Names is_needed
needed_names Needed e = refl
needed_names Unnamed e = absurd cc
needed_names Perhaps e = absurd cc

pub unsettled_names : Names is_unsettled
unsettled_names Perhaps e = refl
unsettled_names Unnamed e = absurd cc
unsettled_names Needed e = absurd cc

pub some_marked : (p : Mark → Bool) → Names p → (xs : List Item) (ms : List Mark) (w : Word) (ws : List Word)
    → names_by p xs ms ≡ w ∷ ws
    → list_any is_named ms ≡ true
some_marked p is [] ms w ws e = absurd cc
some_marked p is (x ∷ xs) [] w ws e = absurd cc
some_marked p is (x ∷ xs) (m ∷ ms) w ws e = go (p m) refl e (some_marked p is xs ms w ws)
  where
    go : (t : Bool)
        → p m ≡ t
        → cond t (x.name ∷ names_by p xs ms) (names_by p xs ms) ≡ w ∷ ws
        → (names_by p xs ms ≡ w ∷ ws → list_any is_named ms ≡ true)
        → (is_named m || list_any is_named ms) ≡ true
    go true is_so e rest = ap (λ k. k || list_any is_named ms) (is m is_so)
    go false is_so e rest = by (is_named m) (rest e)
      where
        by : (k : Bool) → list_any is_named ms ≡ true → (k || list_any is_named ms) ≡ true
        by true some = refl
        by false some = some

pub none_named : (S : ℕ → Bool) (n : ℕ) (xs : List Item) (ms : List Mark)
    → AreMarks S n xs ms
    → names_by is_needed xs ms ≡ []
    → names_by is_unsettled xs ms ≡ []
    → list_any is_named ms ≡ false
none_named S n [] [] are needed unsettled = refl
none_named S n [] (m ∷ ms) are needed unsettled = absurd are
none_named S n (x ∷ xs) [] are needed unsettled = absurd are
none_named S n (x ∷ xs) (Unnamed ∷ ms) are needed unsettled = none_named S (n + 1) xs ms are.1 needed unsettled
none_named S n (x ∷ xs) (Needed ∷ ms) are needed unsettled = absurd cc
none_named S n (x ∷ xs) (Perhaps ∷ ms) are needed unsettled = absurd cc
