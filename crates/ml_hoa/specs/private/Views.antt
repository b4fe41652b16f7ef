-- What the program holds, as plain values.
--
--   guard_of g    == the plain guard of g, without the places of its boxes
--   edge_of e     == the edge that e holds
--   token_of t    == the token that t holds
--   piece_of p    == the piece that p holds
--   piece_at text i == the piece that begins at the byte i
--   tokens_from text i == the tokens from the byte i on
--   level_of l    == the level that l holds
--   state_of r    == what the reader r knows
use Rattle.std.specs.Prelude.{ℕ, Bool, ◌==◌, ◌&&◌, List, map, reverse, get_or, drop, Option, Some, None}
use Rattle.ml_hoa.specs.Automaton as plain
use Rattle.ml_hoa.specs.Tokens as tokens
use Rattle.ml_hoa.specs.private.Machine.{State, LevelState}
use Rattle.ml_hoa.specs.declared.guard.Guard.{Guard}
use Rattle.ml_hoa.specs.declared.guard.Guard.TheVariants as guard
use Rattle.ml_hoa.specs.declared.buchi.BuchiEdge.{BuchiEdge}
use Rattle.ml_hoa.specs.declared.level.Level.{Level}
use Rattle.ml_hoa.specs.declared.reader.Reader.{Reader}
use Rattle.ml_hoa.specs.declared.token.Token.{Token}
use Rattle.ml_hoa.specs.declared.token.Token.TheVariants as token
use Rattle.ml_hoa.specs.declared.token.Piece.{Piece}

abbrev pub guard_of : Guard → plain.Guard
guard_of (guard.Const b) = plain.Const b
guard_of (guard.Ap n) = plain.Ap n
guard_of (guard.Not' at g) = plain.Not (guard_of g)
guard_of (guard.And' at g at_right h) = plain.And (guard_of g) (guard_of h)
guard_of (guard.Or' at g at_right h) = plain.Or (guard_of g) (guard_of h)

abbrev pub edge_of : BuchiEdge → plain.Edge
edge_of e = record { from = e.from; guard = guard_of e.guard; to = e.to; accepting = e.accepting }

abbrev pub edges_of : List BuchiEdge → List plain.Edge
edges_of es = map edge_of es

abbrev pub token_of : Token → tokens.Token
token_of (token.Number digits at) = tokens.Number digits.now at
token_of (token.Text bytes) = tokens.Text bytes.now
token_of (token.Plain mark) = tokens.Plain mark

abbrev pub token_in : Option Token → Option tokens.Token
token_in None = None
token_in (Some t) = Some (token_of t)

abbrev pub piece_of : Piece → tokens.Piece
piece_of p = record { token = token_in p.token; size = p.size }

-- the piece that begins at this byte
abbrev pub piece_at : List ℕ → ℕ → tokens.Piece
piece_at text at = tokens.front_piece at (get_or text at 0) (drop at text)

-- is this a `"` that is a token by itself?
abbrev pub is_unclosed : List ℕ → ℕ → ℕ → Bool
is_unclosed text at size = (get_or text at 0 == 34) && (size == 1)

-- the tokens from this byte on, where no piece is cut
unfoldable pub tokens_from : List ℕ → ℕ → List tokens.Placed
tokens_from text i = tokens.tokens_at 0 i (drop i text)

abbrev pub guard_in : Option Guard → Option plain.Guard
guard_in None = None
guard_in (Some g) = Some (guard_of g)

abbrev pub level_of : Level → LevelState
level_of l = record { ors = guard_in l.ors; ands = guard_in l.ands; nots = l.nots }

abbrev pub outer_of : List Level → List LevelState
outer_of ls = reverse (map level_of ls)

abbrev pub state_of : Reader → State
state_of r = record {
  stage = r.stage;
  stood = r.stood;
  states = r.states;
  first = r.first;
  first_at = r.first_at;
  prop_count = r.prop_count;
  props = r.props.items;
  acceptance = r.acceptance;
  level = level_of r.level;
  outer = outer_of r.outer.items;
  operators = r.operators;
  seen = r.seen.keys;
  from = r.from;
  in_set = r.in_set;
  edges = edges_of r.edges.items;
  fault = r.fault;
}
