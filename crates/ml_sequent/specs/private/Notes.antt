-- What is noted of the nodes of a trail. Only private contracts and proofs cite what stands here.
--
-- All of it speaks of the first places of the trail, so that what holds of a longer trail holds of its front.
--
--   LiteralList, NotesList == what is noted of literals, and of all nodes
--   other s                == the other sign
--   HasLiteral g nodes k p s == the literal of p with the sign s stands at one of the first k places
--   AreFirsts g nodes k s firsts == of each proposition with such a literal there, firsts has the first of these places
--   HasFirsts g nodes k x  == so it is for both signs
--   IsConflict g nodes j   == at the place j stands False, or a literal whose opposite stands before it
--   IsFirstPlace P k o     == o is the first of the first k places with P, if there is one
--   IsNoted g ranks nodes k x == x has what is noted of the first k places
--   IsOpenAt g c nodes n == n is an or-node of the list without a side
--   HasOpen g c nodes k t  == t has all or-nodes without a side among these
--   KeepsNotes g ranks c nodes x == what a branch keeps: so it is for the first places of its trail
--   noted_first o b k, cut_first o k, cut k x == one place more is noted; all from the place k on are forgotten
--   with_candidates t x    == the same with other candidates
use Rattle.std.specs.Prelude.{ℕ, ◌≡◌, ◌<◌, ◌≤◌, ◌⊎◌, Bool, true, false, nat_lt, List, Option, Some, None, MatchOption, length, get_or, min, if◌then◌else◌}
use Rattle.ml_lists.specs.Member.{IsMember}
use Rattle.ml_graph.specs.declared.node.Node.TheVariants as node
use Rattle.ml_graph.specs.Graph.{Graph, size, node_at}
use Rattle.ml_sequent.specs.declared.choice.Side.{Side}
use Rattle.ml_sequent.specs.Spread.{IsOpenNode}
use Rattle.ml_sequent.specs.private.Descents.{MayCycle}
use Rattle.ml_sequent.specs.private.Tournament.{TournamentList, Holds}

pub record LiteralList : Type 0 where
  pub positives : List ℕ
  pub negatives : List ℕ

pub record NotesList : Type 0 where
  pub done : ℕ
  pub literals : LiteralList
  pub conflict : Option ℕ
  pub suspect : Option ℕ
  pub candidates : TournamentList

-- the other sign
abbrev pub other : Bool → Bool
other true = false
other false = true

-- the literal stands at one of the first k places
pub record HasLiteral (g : Graph) (nodes : List ℕ) (k p : ℕ) (positive : Bool) : Type 0 where
  pub place : ℕ
  pub before : place < k
  pub is : node_at g (get_or nodes place 0) ≡ node.Lit p positive

-- of each proposition with such a literal, the first of these places
pub record AreFirsts (g : Graph) (nodes : List ℕ) (k : ℕ) (positive : Bool) (firsts : List ℕ) : Type 0 where
  pub sizes : length firsts ≡ length g.props
  pub first : (j p : ℕ) → j < k → node_at g (get_or nodes j 0) ≡ node.Lit p positive
      → (get_or firsts p 0 ≤ j) × (node_at g (get_or nodes (get_or firsts p 0) 0) ≡ node.Lit p positive)

pub record HasFirsts (g : Graph) (nodes : List ℕ) (k : ℕ) (x : LiteralList) : Type 0 where
  pub positives : AreFirsts g nodes k true x.positives
  pub negatives : AreFirsts g nodes k false x.negatives

-- a literal whose opposite stands before it
pub record IsOpposed (g : Graph) (nodes : List ℕ) (j : ℕ) : Type 0 where
  pub prop : ℕ
  pub positive : Bool
  pub here : node_at g (get_or nodes j 0) ≡ node.Lit prop positive
  pub there : HasLiteral g nodes j prop (other positive)

-- at the place stands False, or such a literal
abbrev pub IsConflict : Graph → List ℕ → ℕ → Type 0
IsConflict g nodes j = (node_at g (get_or nodes j 0) ≡ node.False) ⊎ IsOpposed g nodes j

-- the first of the first k places with P, if there is one
abbrev pub IsFirstPlace : (ℕ → Type 0) → ℕ → Option ℕ → Type 0
IsFirstPlace P k o = MatchOption o ((j : ℕ) → j < k → ¬ (P j)) (λ b. (b < k) × P b × ((j : ℕ) → j < b → ¬ (P j)))

-- what is noted of the first k places
pub record IsNoted (g : Graph) (ranks nodes : List ℕ) (k : ℕ) (x : NotesList) : Type 0 where
  pub literals : HasFirsts g nodes k x.literals
  pub conflict : IsFirstPlace (IsConflict g nodes) k x.conflict
  pub suspect : IsFirstPlace (λ j. MayCycle g ranks (get_or nodes j 0)) k x.suspect
  pub room : x.candidates.room ≡ size g

-- n is an or-node of the list without a side
pub record IsOpenAt (g : Graph) (c : List (ℕ × Side)) (nodes : List ℕ) (n : ℕ) : Type 0 where
  pub member : IsMember n nodes
  pub is_open : IsOpenNode g c n

-- all or-nodes without a side among these
abbrev pub HasOpen : Graph → List (ℕ × Side) → List ℕ → ℕ → TournamentList → Type 0
HasOpen g c nodes k t = (j : ℕ) → j < k → IsOpenNode g c (get_or nodes j 0) → Holds t (get_or nodes j 0)

-- what a branch keeps
pub record KeepsNotes (g : Graph) (ranks : List ℕ) (c : List (ℕ × Side)) (nodes : List ℕ) (x : NotesList) : Type 0 where
  pub within : x.done ≤ length nodes
  pub noted : IsNoted g ranks nodes x.done x
  pub has_open : HasOpen g c nodes x.done x.candidates

-- one place more is noted
abbrev pub noted_first : Option ℕ → Bool → ℕ → Option ℕ
noted_first (Some b) holds k = Some b
noted_first None holds k = if holds then Some k else None

-- all from the place k on are forgotten
abbrev pub cut_first : Option ℕ → ℕ → Option ℕ
cut_first None k = None
cut_first (Some b) k = if nat_lt b k then Some b else None

abbrev pub cut : ℕ → NotesList → NotesList
cut k x = record {
  done = min x.done k;
  literals = x.literals;
  conflict = cut_first x.conflict k;
  suspect = cut_first x.suspect k;
  candidates = x.candidates;
}

-- with other candidates
abbrev pub with_candidates : TournamentList → NotesList → NotesList
with_candidates t x = record {
  done = x.done;
  literals = x.literals;
  conflict = x.conflict;
  suspect = x.suspect;
  candidates = t;
}
