-- Sets of items, as lists in the order of items.
--
-- The items of a set stand in the order of their occurrences; at one occurrence what is to be true comes first, and what is
-- asked now before what is put off. So equal sets are equal lists.
--
--   key x                == the place of x in the order of items
--   put x xs, put_all ys xs, without x xs == the items xs with x, with all of ys, and without x
--   due x                == an item that was put off, at the next place
--   next_items xs        == what items that are put off, or of an X, ask of the next place
--   items_within i f b   == the now-items that come of the formula f at i, by decomposing and by going to the next place
--   eventualities x      == the keys of the eventualities among those that come of x, ascending
use Rattle.std.specs.Prelude.{ℕ, ◌+◌, ◌*◌, ◌==◌, Bool, true, false, not, nat_lt, if◌then◌else◌, List, [], ◌∷◌, ◌++◌, map, filter}
use Rattle.ml_lists.specs.Ascending.{ascending}
use Rattle.ml_text.specs.declared.token.Operator.TheVariants as operator
use Rattle.ml_ctl.specs.Formula.{Formula, Not, Binary, Temporal, Paired, occurrences}
use Rattle.ml_blocks.specs.Items.{Item, now, behind_next, is_least}

-- by occurrences, at one occurrence what is to be true first, now-items before what is put off
abbrev pub key : Item → ℕ
key x = 4 * x.number + (if x.positive then 0 else 2) + (if x.later then 1 else 0)

abbrev pub put : Item → List Item → List Item
put x [] = x ∷ []
put x (y ∷ ys) = if nat_lt (key x) (key y) then x ∷ (y ∷ ys) else (if key x == key y then y ∷ ys else y ∷ put x ys)

abbrev pub put_all : List Item → List Item → List Item
put_all [] xs = xs
put_all (y ∷ ys) xs = put y (put_all ys xs)

abbrev pub without : Item → List Item → List Item
without x = filter (λ y. not (key y == key x))

abbrev pub due : Item → Item
due x = record { number = x.number; formula = x.formula; positive = x.positive; later = false }

-- what an item asks of the next place
abbrev pub next_of : Item → Item
next_of x = if x.later then due x else behind_next x

abbrev pub next_items : List Item → List Item
next_items [] = []
next_items (x ∷ xs) = put (next_of x) (next_items xs)

-- what comes of an operand that is asked both ways comes of it both ways
abbrev pub items_within : ℕ → Formula → Bool → List Item
items_within i (Not f) sign = now i (Not f) sign ∷ items_within (i + 1) f (not sign)
items_within i (Binary operator.And f g) sign =
    now i (Binary operator.And f g) sign ∷ (items_within (i + 1) f sign ++ items_within (i + 1 + occurrences f) g sign)
items_within i (Binary operator.Or f g) sign =
    now i (Binary operator.Or f g) sign ∷ (items_within (i + 1) f sign ++ items_within (i + 1 + occurrences f) g sign)
items_within i (Binary operator.Implies f g) sign =
    now i (Binary operator.Implies f g) sign
    ∷ (items_within (i + 1) f (not sign) ++ items_within (i + 1 + occurrences f) g sign)
items_within i (Binary operator.Iff f g) sign =
    let l = i + 3 in let r = l + occurrences f in
    now i (Binary operator.Iff f g) sign
    ∷ ((items_within l f true ++ items_within l f false) ++ (items_within r g true ++ items_within r g false))
items_within i (Temporal t f) sign = now i (Temporal t f) sign ∷ items_within (i + 1) f sign
items_within i (Paired p f g) sign =
    now i (Paired p f g) sign ∷ (items_within (i + 1) f sign ++ items_within (i + 1 + occurrences f) g sign)
items_within i f sign = now i f sign ∷ []

abbrev pub eventualities : Item → List ℕ
eventualities x = ascending (map key (filter is_least (items_within x.number x.formula x.positive)))
