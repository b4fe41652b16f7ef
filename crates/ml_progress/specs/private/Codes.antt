-- Lists within bounds as numbers, in the order of the lists.
--
-- The list of the bounds says how large each number of a list may be. A list within bounds is one number of a mixed
-- base, so that comparing lists, also cut ones, is comparing numbers, and that it can be counted how often a list rises.
--
--   space bs                 == how many lists there are within the bounds
--   code bs xs               == how many lists within the bounds come before xs
--   Fits bs xs, FitsIn bs o  == the list is within the bounds; it is, if there is a list
--   level bs o               == the code of the list, and for the top one more than each list has
--   cut_level c bs o         == the same for the first c numbers of the list
--   step_of t                == one where t says that the priority is bad
--   Steps c bs t a b         == a move progresses, in these numbers, where the one vertex has a and the other b
--   IsTarget c bs t b o      == o is the least value with which a move to where b stands progresses
--   listed b xs              == the list xs, or the top where b is false
use Rattle.std.specs.Prelude.{ℕ, suc, ◌≡◌, ◌+◌, ◌*◌, ◌≤◌, Bool, true, false, List, [], ◌∷◌, take, drop, Option, Some, None}

-- how many lists there are within the bounds
abbrev pub space : List ℕ → ℕ
space [] = 1
space (b ∷ bs) = suc b * space bs

-- how many lists within the bounds come before xs
abbrev pub code : List ℕ → List ℕ → ℕ
code [] xs = 0
code (b ∷ bs) [] = 0
code (b ∷ bs) (x ∷ xs) = x * space bs + code bs xs

-- the list is within the bounds
abbrev pub Fits : List ℕ → List ℕ → Type 0
Fits [] [] = Unit {0}
Fits [] (x ∷ xs) = ⊥
Fits (b ∷ bs) [] = ⊥
Fits (b ∷ bs) (x ∷ xs) = (x ≤ b) × Fits bs xs

-- it is, if there is a list
abbrev pub FitsIn : List ℕ → Option (List ℕ) → Type 0
FitsIn bs None = Unit {0}
FitsIn bs (Some xs) = Fits bs xs

-- the code of the list, and for the top one more than each list has
abbrev pub level : List ℕ → Option (List ℕ) → ℕ
level bs None = space bs
level bs (Some xs) = code bs xs

-- the same for the first c numbers of the list
abbrev pub cut_level : ℕ → List ℕ → Option (List ℕ) → ℕ
cut_level c bs None = space (take c bs)
cut_level c bs (Some xs) = code (take c bs) (take c xs)

-- one where the priority is bad
abbrev pub step_of : Bool → ℕ
step_of true = 1
step_of false = 0

-- a move progresses, where the one vertex has a and the other b
abbrev pub Steps : ℕ → List ℕ → Bool → Option (List ℕ) → Option (List ℕ) → Type 0
Steps c bs t None b = Unit {0}
Steps c bs t (Some xs) b = cut_level c bs b + step_of t ≤ code (take c bs) (take c xs)

-- o is the least value with which a move to where b stands progresses
abbrev pub IsTarget : ℕ → List ℕ → Bool → Option (List ℕ) → Option (List ℕ) → Type 0
IsTarget c bs t b None = space (take c bs) ≤ cut_level c bs b + step_of t
IsTarget c bs t b (Some ys) = Fits bs ys × (code bs ys ≡ (cut_level c bs b + step_of t) * space (drop c bs))

-- the list, if there is one
abbrev pub listed : Bool → List ℕ → Option (List ℕ)
listed true xs = Some xs
listed false xs = None
