-- What is made of the entries that were read.
--
--   IsRowClaim ids row v c   == the claim c of the vertex v is what the row says
--   AreRowClaims ids rows cs == for each of these vertices the claim of its row, if it has one
--   AreNoClaims cs n         == n places for claims, all empty
--   RowHasStranger ids row   == the vertex or the move of the row is none of the ids
--   RowsHaveStranger ids rows == some row has one
--   AreEntered b ids rows cs == by b they are the claims of all rows, or some row has a stranger
--   is_reference n           == behind n tokens a number is the vertex or the move of an entry
--   IsBehindName text i j    == j is the byte behind the one at i, and behind the name that begins there
--   stranger_from ids end n ts == the byte of the first sign that ought to be an id and is none, where n tokens stand behind
--                               the last `;`, or the end
--   IsInside ids v           == the vertex that the verdict v names is one of those with these ids
use Rattle.std.specs.Prelude.{ℕ, ◌≡◌, ◌+◌, ◌<◌, Bool, true, false, ◌==◌, ◌||◌, List, [], ◌∷◌, length, get_or, drop, Option, Some, None}
use Rattle.ml_lists.specs.Member.{IsMember}
use Rattle.ml_game_check.specs.RightClaims.{Claims, claim_at}
use Rattle.ml_game_check.specs.declared.claims.Claim.{Claim}
use Rattle.ml_game_check.specs.declared.verdict.Verdict.{Verdict}
use Rattle.ml_game_check.specs.declared.verdict.Verdict.TheVariants as verdict
use Rattle.ml_pgsolver.specs.GameText.{id_at}
use Rattle.ml_pgsolver.specs.declared.entries.EntryRow.{EntryRow}
use Rattle.ml_pgsolver.specs.declared.scan.Sign.{Sign}
use Rattle.ml_pgsolver.specs.private.Assembled.{first_stranger_from}
use Rattle.ml_pgsolver.specs.private.WordSearch.{inside_name}

-- the place of the move, if there is one
abbrev pub IsPlaceOf : List ℕ → Option ℕ → Option ℕ → Type 0
IsPlaceOf ids None None = Unit {0}
IsPlaceOf ids (Some n) (Some w) = (w < length ids) × (id_at ids w ≡ n)
IsPlaceOf ids move_to place = ⊥

pub record IsRowClaim (ids : List ℕ) (row : EntryRow) (v : ℕ) (c : Claim) : Type 0 where
  pub within : v < length ids
  pub vertex : id_at ids v ≡ row.vertex
  pub winner : c.winner ≡ row.winner
  pub move_to : IsPlaceOf ids row.move_to c.move_to

pub record AreRowClaims (ids : List ℕ) (rows : List EntryRow) (cs : Claims) : Type 0 where
  pub places : length cs ≡ length ids
  pub each : (r : EntryRow) → IsMember r rows → (v : ℕ) × (c : Claim) × (claim_at cs v ≡ Some c) × IsRowClaim ids r v c
  pub others : (v : ℕ) (c : Claim) → claim_at cs v ≡ Some c → (r : EntryRow) × IsMember r rows × IsRowClaim ids r v c

-- so many places, all empty
pub record AreNoClaims (cs : Claims) (n : ℕ) : Type 0 where
  pub many : length cs ≡ n
  pub empty : (v : ℕ) → claim_at cs v ≡ None

abbrev pub move_ids : Option ℕ → List ℕ
move_ids None = []
move_ids (Some n) = n ∷ []

abbrev pub row_ids : EntryRow → List ℕ
row_ids row = row.vertex ∷ move_ids row.move_to

abbrev pub RowHasStranger : List ℕ → EntryRow → Type 0
RowHasStranger ids row = (n : ℕ) × IsMember n (row_ids row) × (IsMember n ids → ⊥)

abbrev pub RowsHaveStranger : List ℕ → List EntryRow → Type 0
RowsHaveStranger ids rows = (r : EntryRow) × IsMember r rows × RowHasStranger ids r

-- all were entered, or one can't be
abbrev pub AreEntered : Bool → List ℕ → List EntryRow → Claims → Type 0
AreEntered true ids rows cs = AreRowClaims ids rows cs
AreEntered false ids rows cs = RowsHaveStranger ids rows

abbrev pub is_reference : ℕ → Bool
is_reference n = (n == 0) || (n == 2)

-- j is the byte behind the one at i, and behind the name that begins there
abbrev pub IsBehindName : List ℕ → ℕ → ℕ → Type 0
IsBehindName text i j = j ≡ i + 1 + inside_name (get_or text i 0) (drop (i + 1) text)

abbrev pub stranger_from : List ℕ → ℕ → ℕ → List (Sign × ℕ) → ℕ
stranger_from ids end n ts = first_stranger_from is_reference ids end n ts

-- the vertex that a verdict names is one of those with these ids
abbrev pub IsInside : List ℕ → Verdict → Type 0
IsInside ids verdict.Right = Unit {0}
IsInside ids (verdict.Broken v rule) = v < length ids
