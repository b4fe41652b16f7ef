-- What is found while pairs are left, as the program holds it.
--
--   IsBegun f                == the start alone
--   IsNumbered ps x ps' i b  == x has the number i, and is new or not
--   IsJoined k m t f f'      == the arc along m and t from the pair number k was added, with the pair to which it leads
--   AreJoined k m ts f f'    == those along m and each of ts were, and what stood there stands there still
--   IsPartlyFound row s f k  == the pairs before number k are left
--   AreFound row s f         == all pairs are left
use Rattle.std.specs.Prelude.{ℕ, ◌≡◌, ◌+◌, Bool, List, [], ◌∷◌, ◌++◌, length, if◌then◌else◌}
use Rattle.ml_lists.specs.Added.{IsAdded}
use Rattle.ml_trace.specs.declared.letters.Transition.{Transition}
use Rattle.ml_emptiness.specs.Systems.{SystemTable}
use Rattle.ml_emptiness.specs.private.Pairs.{AreKept, IsLeftAlong, IsPartly, arc, pair}
use Rattle.ml_emptiness.specs.declared.pairs.Pair.{Pair}
use Rattle.ml_emptiness.specs.declared.pairs.Pairs.{Pairs}
use Rattle.ml_emptiness.specs.declared.systems.Move.{Move}

pub record IsBegun (f : Pairs) : Type 0 where
  pub pairs_are : f.pairs.keys ≡ pair 0 0 ∷ []
  pub arcs_are : f.arcs.items ≡ []
  pub origins_are : f.origins.items ≡ record { from = 0; letter = 0 } ∷ []

pub record IsNumbered (pairs : List Pair) (x : Pair) (pairs' : List Pair) (i : ℕ) (is_new : Bool) : Type 0 where
  pub added : IsAdded pairs x pairs' i
  pub longer : length pairs' ≡ length pairs + (if is_new then 1 else 0)

pub record IsJoined (k : ℕ) (m : Move) (t : Transition) (f f' : Pairs) : Type 0 where
  pub to : ℕ
  pub is_new : Bool
  pub numbered : IsNumbered f.pairs.keys (pair m.to t.to) f'.pairs.keys to is_new
  pub arcs_are : f'.arcs.items ≡ f.arcs.items ++ arc k t.accepting to ∷ []
  pub origins_are : f'.origins.items
      ≡ f.origins.items ++ (if is_new then record { from = k; letter = m.letter } ∷ [] else [])

pub record AreJoined (k : ℕ) (m : Move) (ts : List Transition) (f f' : Pairs) : Type 0 where
  pub kept : AreKept f.pairs.keys f.arcs.items f'.pairs.keys f'.arcs.items
  pub along : IsLeftAlong f'.pairs.keys f'.arcs.items k m ts

abbrev pub IsPartlyFound : List (List Transition) → SystemTable → Pairs → ℕ → Type 0
IsPartlyFound row s f k = IsPartly row s f.pairs.keys f.arcs.items f.origins.items k

abbrev pub AreFound : List (List Transition) → SystemTable → Pairs → Type 0
AreFound row s f = IsPartlyFound row s f (length f.pairs.keys)
