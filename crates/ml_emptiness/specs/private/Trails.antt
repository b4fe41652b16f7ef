-- Trails: states with the letters by which they are left, as the program holds them.
--
--   IsLonger t n l t'  == t' is t with the state n, left by the letter l, behind it
--   IsLassoOf t u x    == x is the lasso with the stem t and the turn u
use Rattle.std.specs.Prelude.{ℕ, ◌≡◌, [], ◌∷◌, ◌++◌, length}
use Rattle.ml_emptiness.specs.declared.lassos.SystemLasso.{SystemLasso}
use Rattle.ml_emptiness.specs.declared.lassos.Trail.{Trail}

pub record IsLonger (t : Trail) (n l : ℕ) (t' : Trail) : Type 0 where
  pub states : t'.states.items ≡ t.states.items ++ n ∷ []
  pub letters : t'.letters.items ≡ t.letters.items ++ l ∷ []

pub record IsLassoOf (t u : Trail) (x : SystemLasso) : Type 0 where
  pub states : x.states.items ≡ t.states.items ++ u.states.items
  pub letters : x.letters.items ≡ t.letters.items ++ u.letters.items
  pub loop_start : x.loop_start ≡ length t.states.items
