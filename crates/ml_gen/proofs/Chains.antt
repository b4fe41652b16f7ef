-- Conjunctions of formulas of any logic, grouped to the left, and the tokens of their texts.
--
--   chain f gs     == f joined with each of the formulas gs in turn
--   more_tokens gs == for each of them the sign `&` and its tokens
--   short_more     == their names are short, where those of each part are
--   few_more       == they open few parentheses, where each part opens few
use Rattle.std.proofs.Common.{◌≡◌, ℕ, ◌+◌, ◌≤◌, List, [], ◌∷◌, codes, refl, arith}
use Rattle.std.specs.List.{AllByRecursion}
use Rattle.ml_text.specs.declared.token.Operator.TheVariants as operator
use Rattle.ml_text.specs.declared.token.Token.TheVariants as token
use Rattle.ml_text.proofs.Scans.{Spelt}
use Rattle.ml_text.proofs.TableItems.{IsShort}

abbrev pub and_sign : Spelt
and_sign = (token.Operator operator.And, codes "&")

module _ {F : Type 0} (join : F → F → F) where
  abbrev pub chain : F → List F → F
  chain f [] = f
  chain f (g ∷ gs) = chain (join f g) gs

module _ {F : Type 0} (onto : F → List Spelt → List Spelt) where
  abbrev pub more_tokens : List F → List Spelt
  more_tokens [] = []
  more_tokens (g ∷ gs) = and_sign ∷ onto g (more_tokens gs)

  module _ (IsPart : F → Type 0)
      (short : (g : F) (ss : List Spelt) → IsPart g → AllByRecursion IsShort ss → AllByRecursion IsShort (onto g ss)) where
    pub short_more : (gs : List F) → AllByRecursion IsPart gs → AllByRecursion IsShort (more_tokens gs)
    short_more [] all = tt
    short_more (g ∷ gs) all = (refl, short g (more_tokens gs) all.0 (short_more gs all.1))

  module _ (join : F → F → F) (size : F → ℕ) (opens : List Spelt → ℕ) (none : opens [] ≡ 0)
      (few : (f g : F) (ss : List Spelt) → size f + opens (and_sign ∷ onto g ss) ≤ size (join f g) + opens ss) where
    pub few_more : (gs : List F) (f : F) → size f + opens (more_tokens gs) ≤ size (chain join f gs)
    few_more [] f = omega (arith, none)
    few_more (g ∷ gs) f = omega (arith, few f g (more_tokens gs), few_more gs (join f g))
