-- The game that a text stands for.
--
-- The vertices of a text have ids, any numbers, of which none comes twice. In the game of `ml_parity` they stand in
-- ascending order of their ids. In a text the HIGHEST priority that is met infinitely often decides, in the game the
-- lowest: a priority p becomes P - p, where P is the least even number that is no smaller than any priority, and an even
-- priority stays even. Leading zeros of a number mean nothing.
--
--   NamedGame              == a game with the id of each vertex
--   HasIds ids game        == there is one id for each vertex of the game, and it has a vertex
--   IsNamed named          == it has so, its ids ascend strictly, and it is a game
--   id_at ids i            == the id of the vertex i
--   Row, row_of v          == what is said of a vertex, in numbers: of the vertex v of a text
--   IsLeastEvenFrom ps P   == P is the least even number that is no smaller than any of ps
--   IsGameOf rows named    == this is the game of these rows
--   StandsFor text named   == the text stands for the game
use Rattle.std.specs.Prelude.{ℕ, ◌≡◌, ◌-◌, ◌*◌, ◌<◌, ◌≤◌, List, ◌∷◌, length, map, get_or, IsPermutation}
use Rattle.ml_lines.specs.Reading.{value}
use Rattle.ml_lists.specs.Ascending.{IsAscending}
use Rattle.ml_lists.specs.Member.{IsMember}
use Rattle.ml_parity.specs.declared.players.Player.{Player}
use Rattle.ml_parity.specs.Game.{ParityGame, IsGame, size}
use Rattle.ml_pgsolver.specs.Tokens.{tokens, signs_of}
use Rattle.ml_pgsolver.specs.Grammar.{Vertex, Draft, vertices_of, draft_tokens}

pub record NamedGame : Type 0 where
  pub ids : List ℕ
  pub game : ParityGame

abbrev pub HasIds : List ℕ → ParityGame → Type 0
HasIds ids game = (length ids ≡ size game) × (0 < size game)

pub record IsNamed (named : NamedGame) : Type 0 where
  pub has_ids : HasIds named.ids named.game
  pub ascends : IsAscending named.ids
  pub game : IsGame named.game

abbrev pub id_at : List ℕ → ℕ → ℕ
id_at ids i = get_or ids i 0

-- its successors are ids
pub record Row : Type 0 where
  pub id : ℕ
  pub priority : ℕ
  pub owner : Player
  pub successors : List ℕ

abbrev pub row_of : Vertex → Row
row_of v = record {
  id = value v.id;
  priority = value v.priority;
  owner = v.owner;
  successors = map value (v.first ∷ v.others);
}

pub record IsLeastEvenFrom (ps : List ℕ) (P : ℕ) : Type 0 where
  pub half : ℕ
  pub even : P ≡ 2 * half
  pub above : (p : ℕ) → IsMember p ps → p ≤ P
  pub least : (k : ℕ) → ((p : ℕ) → IsMember p ps → p ≤ 2 * k) → P ≤ 2 * k

-- `order` has the rows in ascending order of their ids
pub record IsGameOf (rows : List Row) (named : NamedGame) : Type 0 where
  pub is_named : IsNamed named
  pub order : List Row
  pub P : ℕ
  pub reordered : IsPermutation rows order
  pub ids : named.ids ≡ map (λ r. r.id) order
  pub owners : named.game.owner ≡ map (λ r. r.owner) order
  pub highest : IsLeastEvenFrom (map (λ r. r.priority) order) P
  pub priorities : named.game.priority ≡ map (λ r. P - r.priority) order
  -- a move goes to the place of the successor's id
  pub successors : map (map (id_at named.ids)) named.game.successors ≡ map (λ r. r.successors) order

pub record StandsFor (text : List ℕ) (named : NamedGame) : Type 0 where
  pub draft : Draft
  pub spelled : signs_of (tokens text) ≡ draft_tokens draft
  pub is_game : IsGameOf (map row_of (vertices_of draft)) named
