-- Structures as systems that begin in a given state, and what is found in them.
--
-- A system begins in its state 0, so the start and state 0 change their numbers. A move has the letter of the state that is
-- left.
--
--   swapped s a              == the number of the state a where s and 0 change theirs
--   steps es x y             == does an edge by `_` of the list es lead from x to y?
--   IsSystemOf m s ns es t   == the system t has the moves of the edges es
--   pushed t k m             == the system t with the move m behind those of the state k
--   IsMoved s ns b e t t'    == the move of the edge e was added to the system t, if b is true
--   path_from s x            == the lasso x of the system, as a path
--   IsPathFound m s f b o    == o is a path that is asked for, or there is none
use Rattle.std.specs.Prelude.{ℕ, ◌≡◌, ◌↔◌, ◌⊎◌, ◌==◌, ◌&&◌, Bool, true, List, [], ◌∷◌, ◌++◌, Option, Some, None, length, map, set, if◌then◌else◌, codes}
use Rattle.std.specs.List.{list_any}
use Rattle.std.specs.Str.{bytes_eq}
use Rattle.ml_base.specs.Structure.{Structure}
use Rattle.ml_base.specs.declared.structure.Edge.{Edge}
use Rattle.ml_ctl.specs.Formula.{Formula}
use Rattle.ml_emptiness.specs.Systems.{Goes, SystemTable, moves_of}
use Rattle.ml_emptiness.specs.declared.systems.Move.{Move}
use Rattle.ml_emptiness.specs.declared.lassos.SystemLasso.{SystemLasso}
use Rattle.ml_lists.specs.Lasso.{Lasso}
use Rattle.ml_paths.specs.Paths.{IsShown}
use Rattle.ml_paths.specs.Shortest.{IsShortest}
use Rattle.ml_paths.specs.private.Letters.{number_of}

abbrev pub swapped : ℕ → ℕ → ℕ
swapped start a = if a == 0 then start else (if a == start then 0 else a)

abbrev pub steps : List Edge → ℕ → ℕ → Bool
steps edges x y = list_any (λ e. (e.source == x) && bytes_eq e.action (codes "_") && (e.target == y)) edges

pub record IsSystemOf (m : Structure) (start : ℕ) (numbers : List ℕ) (edges : List Edge) (s : SystemTable) : Type 0 where
  pub one_each : length s ≡ m.states
  pub goes : (a l b : ℕ)
      → Goes s a l b
      ↔ ((steps edges (swapped start a) (swapped start b) ≡ true) × (l ≡ number_of numbers (swapped start a)))

-- the move m is put behind those of the state k
abbrev pub pushed : SystemTable → ℕ → Move → SystemTable
pushed t k m = set t k (moves_of t k ++ m ∷ [])

pub record IsMoved (start : ℕ) (numbers : List ℕ) (is : Bool) (e : Edge) (s s' : SystemTable) : Type 0 where
  pub one_each : length s' ≡ length s
  pub goes : (a l b : ℕ)
      → Goes s' a l b
      ↔ (Goes s a l b
      ⊎ ((is ≡ true)
      × ((a ≡ swapped start e.source) × ((l ≡ number_of numbers e.source) × (b ≡ swapped start e.target)))))

abbrev pub path_from : ℕ → SystemLasso → Lasso
path_from start x = record { entries = map (swapped start) x.states.items; start = x.loop_start }

abbrev pub IsPathFound : Structure → ℕ → Formula → Bool → Option Lasso → Type 0
IsPathFound m s f negated None = (l : Lasso) → ¬ (IsShown m s f negated l)
IsPathFound m s f negated (Some l) = IsShown m s f negated l × IsShortest l
