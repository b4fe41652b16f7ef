-- A text behind which an LF is written ends with LF.
use Rattle.std.specs.Prelude.{ℕ, List, [], ◌∷◌, ◌++◌, refl}
use Rattle.ml_show.specs.Pages.{EndsWithLf}

pub ends_with_lf : (bytes : List ℕ) → EndsWithLf (bytes ++ 10 ∷ [])
ends_with_lf [] = refl
ends_with_lf (_ ∷ []) = refl
ends_with_lf (_ ∷ c ∷ cs) = ends_with_lf (c ∷ cs)
