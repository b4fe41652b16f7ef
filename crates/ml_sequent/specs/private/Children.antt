-- Local children as the program gives them. Only private contracts and proofs cite what stands here.
--
--   child_list x == the children that x stands for
use Rattle.std.specs.Prelude.{ℕ, List, [], ◌∷◌}
use Rattle.ml_sequent.specs.declared.children.LocalChildren.{LocalChildren}
use Rattle.ml_sequent.specs.declared.children.LocalChildren.TheVariants as kids

abbrev pub child_list : LocalChildren → List ℕ
child_list kids.Leaf = []
child_list (kids.One n) = n ∷ []
child_list (kids.Two l r) = l ∷ r ∷ []
