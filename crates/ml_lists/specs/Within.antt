-- Lists of which one has the members of another.
--
--   Within xs ys  == each entry of xs is one of ys
use Rattle.std.specs.Prelude.{List}
use Rattle.ml_lists.specs.Member.{IsMember}

-- each entry of the first list is one of the second
abbrev pub Within : {X : Type 0} → List X → List X → Type 0
Within {X} xs ys = (x : X) → IsMember x xs → IsMember x ys
