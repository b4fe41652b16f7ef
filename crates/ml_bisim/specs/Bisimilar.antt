-- Bisimilar states of a structure.
--
-- Two states are bisimilar if some relation joins them whose joined states have the same propositions, and edges that match
-- each other. A relation is a test of two states, as each one on finitely many states is. That these are the states which no
-- formula tells apart is a law (`ml_bisim_problems`).
--
--   HasEdge m s a t      == an edge of m leads from s by the action a to t
--   IsBisimulation m R   == states that R joins list the same propositions, and each edge of one of them is matched by an
--                           edge of the other with the same action to a joined state
--   Bisimilar m s t      == some bisimulation joins s and t
use Rattle.std.specs.Prelude.{ℕ, ◌≡◌, Bool, List, Contains, IsTrue}
use Rattle.ml_base.specs.Structure.{Structure, lists}

abbrev pub HasEdge : Structure → ℕ → List ℕ → ℕ → Type 0
HasEdge m s a t = Contains m.edges (record { source = s; action = a; target = t })

pub record IsBisimulation (m : Structure) (R : ℕ → ℕ → Bool) : Type 0 where
  pub same_labels : (s t : ℕ) → IsTrue (R s t) → (p : List ℕ) → lists m s p ≡ lists m t p
  pub forth : (s t : ℕ) → IsTrue (R s t) → (a : List ℕ) (x : ℕ) → HasEdge m s a x → (y : ℕ) × HasEdge m t a y × IsTrue (R x y)
  pub back : (s t : ℕ) → IsTrue (R s t) → (a : List ℕ) (y : ℕ) → HasEdge m t a y → (x : ℕ) × HasEdge m s a x × IsTrue (R x y)

pub record Bisimilar (m : Structure) (s t : ℕ) : Type 0 where
  pub relation : ℕ → ℕ → Bool
  pub is_bisimulation : IsBisimulation m relation
  pub joined : IsTrue (relation s t)
