-- Endless words, and automata that read them.
--
-- A word lasso is a nonempty list of letters with a loop start. It stands for the endless word that has the letters of the
-- list, and then those from the loop start on, round and round. An automaton reads an *unrolling* of it: the letters up to
-- the loop and some turns of the loop, and then further turns, behind which it is to be where it was. What the letters are
-- is left open, and so is what the states are.
--
-- A Büchi automaton has transitions, accepting or not (`leads`, as in Run); it may choose among them, and accepts the word if
-- some run has an accepting transition on its loop. A deterministic parity automaton has for each state and letter one
-- next state and one priority; it accepts the word if the lowest priority on the loop of its run is odd. There is one such
-- run, so of two unrollings on which it ends in a loop both have the same lowest priority.
--
--   WordLasso L                  == a list of letters with a loop start
--   IsWordLasso w                == the loop start is below the length
--   stem w, turn w               == the letters before the loop, and those on it
--   IsAcceptedFrom leads q w     == the Büchi automaton accepts w from the state q
--   DetAutomaton S L             == for each state and letter the next state and the priority
--   state_behind d q u           == the state to which the letters u lead from q
--   priorities d q u             == the priorities along the way
--   IsLowest p ps                == p is the lowest of the priorities ps
--   IsDetAcceptedFrom d q w      == the deterministic parity automaton accepts w from the state q
use Rattle.std.specs.Prelude.{◌≡◌, ℕ, ◌<◌, ◌≤◌, ◌%◌, Bool, List, [], ◌∷◌, ◌++◌, length, take, drop, All}
use Rattle.ml_lists.specs.Member.{IsMember}
use Rattle.ml_lists.specs.Repeated.{repeated}
use Rattle.ml_trace.specs.Run.{Run, AcceptingRun}

-- a list of letters with a loop start
pub record WordLasso (L : Type 0) : Type 0 where
  pub word : List L
  pub loop_start : ℕ

-- the loop start is below the length, so there is a letter on the loop
abbrev pub IsWordLasso : {L : Type 0} → WordLasso L → Type 0
IsWordLasso w = w.loop_start < length w.word

-- the letters before the loop
abbrev pub stem : {L : Type 0} → WordLasso L → List L
stem w = take w.loop_start w.word

-- the letters of one turn of the loop
abbrev pub turn : {L : Type 0} → WordLasso L → List L
turn w = drop w.loop_start w.word

-- ---- Büchi automata

-- some run from q over the stem and some turns comes to a state, and from there over further turns back to it, with an
-- accepting transition
pub record IsAcceptedFrom {S L : Type 0} (leads : L → S → S → Bool → Type 0) (q : S) (w : WordLasso L) : Type 0 where
  pub turns : ℕ
  pub state : S
  pub comes : Run leads (stem w ++ repeated turns (turn w)) q state
  pub rounds : ℕ
  pub once : 1 ≤ rounds
  pub returns : AcceptingRun leads (repeated rounds (turn w)) state state

-- ---- deterministic parity automata

-- for each state and letter the next state, and the priority on the way to it
pub record DetAutomaton (S L : Type 0) : Type 0 where
  pub next : S → L → S
  pub priority : S → L → ℕ

-- the state behind the letters
abbrev pub state_behind : {S L : Type 0} → DetAutomaton S L → S → List L → S
state_behind d q [] = q
state_behind d q (l ∷ u) = state_behind d (d.next q l) u

-- the priorities along the way
abbrev pub priorities : {S L : Type 0} → DetAutomaton S L → S → List L → List ℕ
priorities d q [] = []
priorities d q (l ∷ u) = d.priority q l ∷ priorities d (d.next q l) u

-- p is one of the priorities, and none is lower
pub record IsLowest (p : ℕ) (ps : List ℕ) : Type 0 where
  pub is_one : IsMember p ps
  pub is_low : All (λ q. p ≤ q) ps

-- behind the stem and some turns the run comes to a state, and over further turns back to it; on these the lowest
-- priority is odd
pub record IsDetAcceptedFrom {S L : Type 0} (d : DetAutomaton S L) (q : S) (w : WordLasso L) : Type 0 where
  pub turns : ℕ
  pub state : S
  pub comes : state_behind d q (stem w ++ repeated turns (turn w)) ≡ state
  pub rounds : ℕ
  pub once : 1 ≤ rounds
  pub returns : state_behind d state (repeated rounds (turn w)) ≡ state
  pub lowest : ℕ
  pub is_lowest : IsLowest lowest (priorities d state (repeated rounds (turn w)))
  pub is_odd : lowest % 2 ≡ 1
