-- Finite systems whose moves have letters, and the words that they make.
--
-- A system has states, numbered from 0, where it begins, and for each state a list of moves: each has a letter, which is a
-- number, and leads to a state. From a state without a move it can't go on. A lasso of the system is one of its states
-- from 0, along moves; its words are those of the letters on the way, which are ultimately periodic. Where several moves
-- join two states, one lasso has several words. What the letters mean is told by who makes the system.
--
--   SystemTable          == for each state its moves
--   table_of rows        == the moves that the vectors hold
--   IsSystem letters s   == there is a state; letters are below `letters`, and moves lead to states
--   Goes s a l b         == a move of the state a has the letter l and leads to b
--   IsWordOn s lasso w   == w has the letters along this lasso of states of s from 0
use Rattle.std.specs.Prelude.{ℕ, ◌≡◌, ◌+◌, ◌<◌, List, [], length, get_or, map}
use Rattle.std.specs.Global.{Vec}
use Rattle.ml_lists.specs.Lasso.{Lasso, entry, round}
use Rattle.ml_lists.specs.Member.{IsMember}
use Rattle.ml_trace.specs.WordAutomata.{WordLasso}
use Rattle.ml_emptiness.specs.declared.systems.Move.{Move}

-- for each state its moves
abbrev pub SystemTable : Type 0
SystemTable = List (List Move)

abbrev pub table_of : List (Vec Move) → SystemTable
table_of rows = map (λ (row : Vec Move). row.items) rows

-- the moves of a state; past the last state none
abbrev pub moves_of : SystemTable → ℕ → List Move
moves_of s a = get_or s a []

-- there is a state; letters are below `letters`, and moves lead to states
pub record IsSystem (letters : ℕ) (s : SystemTable) : Type 0 where
  pub some : 0 < length s
  pub read : (a : ℕ) (m : Move) → IsMember m (moves_of s a) → m.letter < letters
  pub leads : (a : ℕ) (m : Move) → IsMember m (moves_of s a) → m.to < length s

-- a move of the state a has the letter l and leads to b
abbrev pub Goes : SystemTable → ℕ → ℕ → ℕ → Type 0
Goes s a l b = IsMember (record { letter = l; to = b }) (moves_of s a)

-- w has the letters along this lasso of states from 0, and its loop is where the lasso's is
pub record IsWordOn (s : SystemTable) (lasso : Lasso) (w : WordLasso ℕ) : Type 0 where
  pub begins : entry lasso 0 ≡ 0
  pub one_length : length lasso.entries ≡ length w.word
  pub one_loop : lasso.start ≡ w.loop_start
  pub loops : w.loop_start < length w.word
  pub goes_on : (k : ℕ)
      → k < length w.word
      → Goes s (get_or (round lasso) k 0) (get_or w.word k 0) (get_or (round lasso) (k + 1) 0)
