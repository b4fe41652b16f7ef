-- Heights of the vertices of a graph whose arcs have priorities: each vertex has one for each even priority.
--
--   height_of rows p v   == the height of vertex v for the even priority p
--   FallsAlong rows a    == along the arc a the heights for its priority and below don't rise, that for its own falls
use Rattle.std.specs.Prelude.{ℕ, ◌≡◌, ◌/◌, ◌%◌, ◌<◌, ◌≤◌, List, [], get_or}
use Rattle.ml_parity.specs.declared.one_sided.graph.Arc.{Arc}

-- the height of vertex v for the even priority p
abbrev pub height_of : List (List ℕ) → ℕ → ℕ → ℕ
height_of rows p v = get_or (get_or rows v []) (p / 2) 0

-- along the arc a the height for each even priority of at most its own doesn't rise, and that for its own falls
pub record FallsAlong (rows : List (List ℕ)) (a : Arc) : Type 0 where
  pub stays : (p : ℕ) → p % 2 ≡ 0 → p ≤ a.priority → height_of rows p a.to ≤ height_of rows p a.from
  pub falls : a.priority % 2 ≡ 0 → height_of rows a.priority a.to < height_of rows a.priority a.from
