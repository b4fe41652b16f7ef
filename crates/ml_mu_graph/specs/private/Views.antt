-- What the program holds while it makes a graph.
--
--   none_around  == no binder stands around
--   around bs x  == the occurrence of the innermost binder of x around, or 0
use Rattle.std.specs.Prelude.{ℕ, List, unwrap_or}
use Rattle.std.specs.HashMap.{get_by}
use Rattle.std.specs.Str.{bytes_eq}
use Rattle.ml_mu_graph.specs.declared.binders.Binders.{Binders}

abbrev pub none_around : List ℕ → ℕ
none_around x = 0

abbrev pub around : Binders → List ℕ → ℕ
around bs x = unwrap_or (get_by (λ y. bytes_eq x y.now) bs.innermost) 0
