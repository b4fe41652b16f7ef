-- What is made of the rows that were read.
--
--   IsReadable rows          == there is a row, no id comes twice, each row has a successor, and numbers are small
--   HasUnknown ids xs        == some of the numbers xs is none of the ids
--   HasUnknownIn ids rows    == some successor in these rows is
--   ArePlaces ids places xs  == these are the places of the numbers xs among the ids
--   AreGiven ids given rows  == each row's successors, as places
--   highest_of n rows        == the highest priority of the rows, and n
--   first_stranger_from refers ids end n ts == the byte of the first sign that is a number at such a place and none of the ids,
--                               where n tokens stand behind the last `;`, or the end
--   unknown_from ids end n ts == the byte of the first sign that is a successor and none of the ids, where n tokens stand
--                               behind the last `;`, or the end
use Rattle.std.specs.Prelude.{ℕ, ◌≡◌, ◌+◌, ◌<◌, ◌≤◌, Bool, false, not, ◌&&◌, nat_le, max, List, [], ◌∷◌, length, map, All, Option, Some, None, if◌then◌else◌}
use Rattle.ml_lists.specs.Member.{IsMember}
use Rattle.ml_lists.specs.Times.{IsApart}
use Rattle.ml_pgsolver.specs.GameText.{Row, id_at}
use Rattle.ml_pgsolver.specs.Refusals.{greatest_number}
use Rattle.ml_pgsolver.specs.declared.scan.Sign.{Sign}
use Rattle.ml_pgsolver.specs.declared.scan.Sign.TheVariants as sign
use Rattle.ml_pgsolver.specs.private.Machine.{is_among}

pub record IsReadable (rows : List Row) : Type 0 where
  pub some : 0 < length rows
  pub apart : IsApart (map (λ r. r.id) rows)
  pub go_on : All (λ r. 0 < length r.successors) rows
  pub small : All (λ r. r.priority ≤ greatest_number) rows

abbrev pub HasUnknown : List ℕ → List ℕ → Type 0
HasUnknown ids xs = (n : ℕ) × IsMember n xs × (IsMember n ids → ⊥)

abbrev pub HasUnknownIn : List ℕ → List Row → Type 0
HasUnknownIn ids rows = (r : Row) × IsMember r rows × HasUnknown ids r.successors

pub record ArePlaces (ids places xs : List ℕ) : Type 0 where
  pub ids_there : map (id_at ids) places ≡ xs
  pub within : All (λ i. i < length ids) places

pub record AreGiven (ids : List ℕ) (given : List (List ℕ)) (rows : List Row) : Type 0 where
  pub ids_there : map (map (id_at ids)) given ≡ map (λ r. r.successors) rows
  pub within : All (All (λ i. i < length ids)) given

abbrev pub highest_of : ℕ → List Row → ℕ
highest_of n [] = n
highest_of n (r ∷ rows) = highest_of (max n r.priority) rows

abbrev pub is_unknown_value : List ℕ → Option ℕ → Bool
is_unknown_value ids None = false
is_unknown_value ids (Some n) = not (is_among ids n)

abbrev pub is_unknown : List ℕ → Sign → Bool
is_unknown ids (sign.Number n) = is_unknown_value ids n.value
is_unknown ids t = false

abbrev pub is_stranger : List ℕ → ℕ → Sign → Bool
is_stranger ids n t = nat_le 3 n && is_unknown ids t

abbrev pub sign_place : ℕ → Sign → ℕ
sign_place n sign.Semicolon = 0
sign_place n t = n + 1

unfoldable pub first_stranger_from : (ℕ → Bool) → List ℕ → ℕ → ℕ → List (Sign × ℕ) → ℕ
first_stranger_from refers ids end n [] = end
first_stranger_from refers ids end n (t ∷ ts) =
    if refers n && is_unknown ids t.0 then t.1 else first_stranger_from refers ids end (sign_place n t.0) ts

abbrev pub unknown_from : List ℕ → ℕ → ℕ → List (Sign × ℕ) → ℕ
unknown_from ids end n ts = first_stranger_from (nat_le 3) ids end n ts
