-- Items by the numbers of their occurrences alone, as a program holds them, and lists of them in the order of items.
--
--   key_of x            == the place of x in the order of items
--   now_at n b          == it is asked now that the formula at the occurrence n be true, or false
--   put_off_of x, due_of x == x put off, and asked now
--   put_in x xs, put_few few xs, others x xs == xs with x, with these, and without x
use Rattle.std.specs.Prelude.{ℕ, ◌+◌, ◌*◌, ◌==◌, Bool, true, false, not, nat_lt, if◌then◌else◌, List, [], ◌∷◌, filter}
use Rattle.ml_blocks.specs.declared.items.Asked.{Asked}
use Rattle.ml_blocks.specs.declared.items.Few.{Few}
use Rattle.ml_blocks.specs.declared.items.Few.TheVariants as few

abbrev pub key_of : Asked → ℕ
key_of x = 4 * x.number + (if x.positive then 0 else 2) + (if x.later then 1 else 0)

abbrev pub now_at : ℕ → Bool → Asked
now_at n b = record { number = n; positive = b; later = false }

abbrev pub put_off_of : Asked → Asked
put_off_of x = record { number = x.number; positive = x.positive; later = true }

abbrev pub due_of : Asked → Asked
due_of x = record { number = x.number; positive = x.positive; later = false }

abbrev pub put_in : Asked → List Asked → List Asked
put_in x [] = x ∷ []
put_in x (y ∷ ys) =
    if nat_lt (key_of x) (key_of y) then x ∷ (y ∷ ys) else (if key_of x == key_of y then y ∷ ys else y ∷ put_in x ys)

abbrev pub put_few : Few → List Asked → List Asked
put_few (few.One x) xs = put_in x xs
put_few (few.Two x y) xs = put_in x (put_in y xs)

abbrev pub others : Asked → List Asked → List Asked
others x = filter (λ y. not (key_of y == key_of x))
