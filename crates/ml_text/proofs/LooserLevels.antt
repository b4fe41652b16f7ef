-- What is read at a level of connectives is read at the looser ones.
--
-- R says what is read at each level, by a grammar in which what is read at the next tighter level may stand alone.
--
--   raised        == an operand is read at the level of each connective
--   left_raised   == and as what stands to the left of it
--   right_raised  == and as what stands to the right of it
--   loosest       == what is read at the level of a connective is read at the loosest level
use Rattle.std.proofs.lemmas.Bool.{cond_both}
use Rattle.ml_text.specs.declared.token.Operator.{Operator}
use Rattle.ml_text.specs.declared.token.Operator.TheVariants.{Iff, Implies, Or, And}
use Rattle.ml_text.specs.Levels.{Level, Joined, Operand, tighter, groups_left, left_level, right_level}

module _ (R : Level → Type 0) (alone : (o : Operator) → R (tighter o) → R (Joined o)) where
  tighter_raised : (o : Operator) → R Operand → R (tighter o)
  tighter_raised And r = r
  tighter_raised Or r = alone And r
  tighter_raised Implies r = alone Or (alone And r)
  tighter_raised Iff r = alone Implies (alone Or (alone And r))

  pub raised : (o : Operator) → R Operand → R (Joined o)
  raised o r = alone o (tighter_raised o r)

  pub left_raised : (o : Operator) → R Operand → R (left_level o)
  left_raised o r =
      cond_both (groups_left o) (Joined o) (tighter o) R (λ left. raised o r) (λ right. tighter_raised o r)

  pub right_raised : (o : Operator) → R Operand → R (right_level o)
  right_raised o r =
      cond_both (groups_left o) (tighter o) (Joined o) R (λ left. tighter_raised o r) (λ right. raised o r)

  pub loosest : (o : Operator) → R (Joined o) → R (Joined Iff)
  loosest Iff r = r
  loosest Implies r = alone Iff r
  loosest Or r = alone Iff (alone Implies r)
  loosest And r = alone Iff (alone Implies (alone Or r))
