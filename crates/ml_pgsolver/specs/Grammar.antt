-- The grammar of game texts: what was written, as a tree, and its tokens.
--
--   game   = [ "parity" NUM ";" ] vertex { vertex }
--   vertex = NUM NUM ( "0" | "1" ) NUM { "," NUM } [ NAME ] ";"
--
-- The numbers of a vertex are its id, its priority, its owner and its successors; its name and the number of the header
-- are not used. A number is known by its digits, so that an owner is told from `00`.
--
--   Vertex             == the parts of a vertex, as they were written
--   Draft              == the number of the header, if there is one; the first vertex; the others
--   vertex_tokens v    == the tokens of a vertex
--   draft_tokens d     == the tokens of a game text
--   IsGameText ts      == the tokens are those of a game text
--   BeginsGameText ts  == with some tokens behind them they are
use Rattle.std.specs.Prelude.{ℕ, ◌≡◌, List, [], ◌∷◌, ◌++◌, Option, Some, None, codes}
use Rattle.std.specs.List.{flat_map}
use Rattle.ml_parity.specs.declared.players.Player.{Player}
use Rattle.ml_parity.specs.declared.players.Player.TheVariants.{Even, Odd}
use Rattle.ml_pgsolver.specs.Tokens.{Token, Number, Name, Parity, Comma, Semicolon}

pub record Vertex : Type 0 where
  pub id : List ℕ
  pub priority : List ℕ
  pub owner : Player
  pub first : List ℕ
  pub others : List (List ℕ)
  pub name : Option (List ℕ)

pub record Draft : Type 0 where
  pub header : Option (List ℕ)
  pub first : Vertex
  pub others : List Vertex

-- player 0 is Even, player 1 is Odd
abbrev pub owner_digits : Player → List ℕ
owner_digits Even = codes "0"
owner_digits Odd = codes "1"

abbrev pub further : List ℕ → List Token
further digits = Comma ∷ Number digits ∷ []

abbrev pub name_tokens : Option (List ℕ) → List Token
name_tokens None = []
name_tokens (Some inner) = Name inner ∷ []

abbrev pub vertex_tokens : Vertex → List Token
vertex_tokens v =
    Number v.id ∷ Number v.priority ∷ Number (owner_digits v.owner) ∷ Number v.first
    ∷ (flat_map further v.others ++ name_tokens v.name ++ Semicolon ∷ [])

abbrev pub header_tokens : Option (List ℕ) → List Token
header_tokens None = []
header_tokens (Some digits) = Parity ∷ Number digits ∷ Semicolon ∷ []

abbrev pub vertices_of : Draft → List Vertex
vertices_of d = d.first ∷ d.others

abbrev pub draft_tokens : Draft → List Token
draft_tokens d = header_tokens d.header ++ flat_map vertex_tokens (vertices_of d)

abbrev pub IsGameText : List Token → Type 0
IsGameText ts = (d : Draft) × (ts ≡ draft_tokens d)

abbrev pub BeginsGameText : List Token → Type 0
BeginsGameText ts = (us : List Token) × IsGameText (ts ++ us)
