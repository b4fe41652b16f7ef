-- How a line of an answer marks items by their names. Private contracts and proofs cite this.
--
--   is_named, is_needed, is_unsettled m == does the mark m name an item? Behind `because`? Behind `perhaps:`?
--   names_by p xs ms     == the names of the items xs whose marks ms pass the test p, in their order
--   AreMarks S n xs ms   == ms marks each of the items xs, the first of which has the number n, and those that it names are
--                           requirements in S
--   or_dash ws           == the words, or `-` where there is none
--   perhaps ws           == `perhaps:` and the words; nothing where there is none
--   MarkedBy S wants xs ms ws == the words are the names that the marks ms give the items xs; one at least, where `wants` says
--                                so
--   heads, is_over ws    == does this word come first? Are the words over, or does `perhaps:` come next?
--   mark_at may w a b    == the mark of an item that may be marked, or not, and has the name w, before the words a and b
--   scan S n xs a b      == the marks of all items, and what is left of a and b
--   behind_perhaps ws    == the words behind `perhaps:`
--   split_words wants ws == the words for needed ones, up to `perhaps:` at least, and those behind it; none where one is
--                           wanting
use Rattle.std.specs.Prelude.{ℕ, ◌≡◌, ◌+◌, ◌++◌, ⊤, Bool, true, false, ◌&&◌, if◌then◌else◌, List, [], ◌∷◌, Option, None, Some, codes, drop}
use Rattle.std.specs.List.{list_any}
use Rattle.std.specs.Str.{bytes_eq}
use Rattle.ml_lines.specs.Lines.{Word}
use Rattle.ml_spec.specs.Kinds.{is_requirement}
use Rattle.ml_spec.specs.declared.specification.Item.{Item}
use Rattle.ml_answers.specs.declared.names.Mark.{Mark}
use Rattle.ml_answers.specs.declared.names.Mark.TheVariants.{Unnamed, Needed, Perhaps}

abbrev pub is_needed : Mark → Bool
is_needed Needed = true
is_needed m = false

abbrev pub is_unsettled : Mark → Bool
is_unsettled Perhaps = true
is_unsettled m = false

abbrev pub is_named : Mark → Bool
is_named Unnamed = false
is_named m = true

abbrev pub names_by : (Mark → Bool) → List Item → List Mark → List Word
names_by p [] ms = []
names_by p (x ∷ xs) [] = []
names_by p (x ∷ xs) (m ∷ ms) = if p m then x.name ∷ names_by p xs ms else names_by p xs ms

abbrev pub may_mark : (ℕ → Bool) → ℕ → Item → Bool
may_mark S n x = is_requirement x.kind && S n

abbrev pub AreMarks : (ℕ → Bool) → ℕ → List Item → List Mark → Type 0
AreMarks S n [] [] = ⊤
AreMarks S n (x ∷ xs) (m ∷ ms) = (is_named m ≡ true → may_mark S n x ≡ true) × AreMarks S (n + 1) xs ms
AreMarks S n _ _ = ⊥

abbrev pub or_dash : List Word → List Word
or_dash [] = codes "-" ∷ []
or_dash (w ∷ ws) = w ∷ ws

abbrev pub perhaps : List Word → List Word
perhaps [] = []
perhaps (w ∷ ws) = codes "perhaps:" ∷ w ∷ ws

pub record MarkedBy (S : ℕ → Bool) (wants : Bool) (xs : List Item) (ms : List Mark) (words : List Word) : Type 0 where
  pub are_marks : AreMarks S 0 xs ms
  pub are_words : words ≡ or_dash (names_by is_needed xs ms) ++ perhaps (names_by is_unsettled xs ms)
  pub some_named : wants ≡ true → list_any is_named ms ≡ true

-- ---- how they are found

abbrev pub heads : List Word → Word → Bool
heads [] w = false
heads (v ∷ vs) w = bytes_eq v w

abbrev pub is_over : List Word → Bool
is_over [] = true
is_over (v ∷ vs) = bytes_eq v (codes "perhaps:")

abbrev pub mark_at : Bool → Word → List Word → List Word → Mark
mark_at may name a b =
    if may && heads a name then Needed else (if may && heads b name then Perhaps else Unnamed)

abbrev pub left_by : Bool → List Word → List Word
left_by taken ws = if taken then drop 1 ws else ws

pub record Scanned : Type 0 where
  pub marks : List Mark
  pub needed : List Word
  pub unsettled : List Word

abbrev pub with_mark : Mark → Scanned → Scanned
with_mark m s = record { marks = m ∷ s.marks; needed = s.needed; unsettled = s.unsettled }

abbrev pub scan : (ℕ → Bool) → ℕ → List Item → List Word → List Word → Scanned
scan S n [] a b = record { marks = []; needed = a; unsettled = b }
scan S n (x ∷ xs) a b =
    with_mark (mark_at (may_mark S n x) x.name a b)
    (scan S (n + 1) xs
    (left_by (is_needed (mark_at (may_mark S n x) x.name a b)) a)
    (left_by (is_unsettled (mark_at (may_mark S n x) x.name a b)) b))

abbrev pub behind_perhaps : List Word → Option (List Word)
behind_perhaps [] = None
behind_perhaps (v ∷ vs) = if bytes_eq v (codes "perhaps:") then Some vs else behind_perhaps vs

abbrev pub some_words : Option (List Word) → List Word
some_words None = []
some_words (Some ws) = ws

-- `perhaps:` stands, and nothing behind it
abbrev pub lacks : Option (List Word) → Bool
lacks (Some []) = true
lacks _ = false

abbrev pub is_empty : List Word → Bool
is_empty [] = true
is_empty (w ∷ ws) = false

abbrev pub split_at : Bool → Bool → List Word → Option (List Word) → Option (List Word × List Word)
split_at wants dashed a b =
    if lacks b then None
    else (if dashed then (if is_over a then (if wants && is_empty (some_words b) then None else Some (a, some_words b)) else None)
    else (if is_over a then None else Some (a, some_words b)))

abbrev pub split_words : Bool → List Word → Option (List Word × List Word)
split_words wants ws =
    split_at wants (heads ws (codes "-")) (left_by (heads ws (codes "-")) ws) (behind_perhaps ws)
