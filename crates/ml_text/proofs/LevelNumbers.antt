-- The levels of connectives as numbers, as tables of operators have them.
--
--   number l                 == the number of a level
--   level_of top n           == the level of a number, if `top` is the tightest of all
--   GroupsConnectives g s    == the tables g group the connectives of the sort s as they must
--   tighter_above            == the level next to that of a connective has a greater number
--   left_below, right_below  == the numbers that tables give the operands of a connective are no greater than those of their
--                               levels
--   joined_is                == the level of the number of a connective is that of the connective
--   left_is, right_is        == the levels of the numbers that tables give its operands are those of its operands
--   loosened                 == what is read at the level of a number is read at those of lesser ones
--   from_top                 == what is read at the tightest level is read at all
use Rattle.std.proofs.Common.{◌≡◌, ℕ, zero, suc, ◌+◌, ◌≤◌, Bool, true, false, refl, sym, ◌∙◌, ap, arith, if◌then◌else◌}
use Rattle.ml_text.specs.declared.token.Operator.{Operator}
use Rattle.ml_text.specs.declared.token.Operator.TheVariants.{Iff, Implies, Or, And}
use Rattle.ml_text.specs.Grammar as tables
use Rattle.ml_text.specs.Grammar.{Grammar}
use Rattle.ml_text.specs.Levels.{Level, Joined, Operand, Tight, tighter, groups_left, left_level, right_level}
use Rattle.ml_text.specs.Operators.{operator_level}
use Rattle.ml_text.proofs.Levels.{looser}

abbrev pub number : Level → ℕ
number (Joined o) = operator_level o
number Operand = 4
number Tight = 5

abbrev pub level_of : Level → ℕ → Level
level_of top zero = Joined Iff
level_of top (suc zero) = Joined Implies
level_of top (suc (suc zero)) = Joined Or
level_of top (suc (suc (suc zero))) = Joined And
level_of top (suc (suc (suc (suc zero)))) = Operand
level_of top (suc (suc (suc (suc (suc n))))) = top

abbrev pub GroupsConnectives : (g : Grammar) → g.Sort → Type 0
GroupsConnectives g s = (o : Operator) → g.groups_left s (operator_level o) ≡ groups_left o

-- ---- from levels to numbers

next : (o : Operator) → operator_level o + 1 ≡ number (tighter o)
next Iff = refl
next Implies = refl
next Or = refl
next And = refl

pub tighter_above : (o : Operator) → operator_level o ≤ number (tighter o)
tighter_above o = omega (arith, next o)

left_by : (o : Operator) (b : Bool)
    → (if b then operator_level o else operator_level o + 1) ≡ number (if b then Joined o else tighter o)
left_by o true = refl
left_by o false = next o

right_by : (o : Operator) (b : Bool)
    → (if b then operator_level o + 1 else operator_level o) ≡ number (if b then tighter o else Joined o)
right_by o true = next o
right_by o false = refl

module _ (g : Grammar) (s : g.Sort) (groups : GroupsConnectives g s) where
  left_number : (o : Operator) → tables.left_level g s (operator_level o) ≡ number (left_level o)
  left_number o = ap (λ b. if b then operator_level o else operator_level o + 1) (groups o) ∙ left_by o (groups_left o)

  right_number : (o : Operator) → tables.right_level g s (operator_level o) ≡ number (right_level o)
  right_number o = ap (λ b. if b then operator_level o + 1 else operator_level o) (groups o) ∙ right_by o (groups_left o)

  pub left_below : (o : Operator) → tables.left_level g s (operator_level o) ≤ number (left_level o)
  left_below o = omega (arith, left_number o)

  pub right_below : (o : Operator) → tables.right_level g s (operator_level o) ≤ number (right_level o)
  right_below o = omega (arith, right_number o)

-- ---- from numbers to levels

joined_found : (top : Level) (o : Operator) → level_of top (operator_level o) ≡ Joined o
joined_found top Iff = refl
joined_found top Implies = refl
joined_found top Or = refl
joined_found top And = refl

left_found : (top : Level) (o : Operator) → level_of top (number (left_level o)) ≡ left_level o
left_found top Iff = refl
left_found top Implies = refl
left_found top Or = refl
left_found top And = refl

right_found : (top : Level) (o : Operator) → level_of top (number (right_level o)) ≡ right_level o
right_found top Iff = refl
right_found top Implies = refl
right_found top Or = refl
right_found top And = refl

pub joined_is : (top : Level) (o : Operator) (n : ℕ) → operator_level o ≡ n → level_of top n ≡ Joined o
joined_is top o n is = ap (level_of top) (sym is) ∙ joined_found top o

module _ (g : Grammar) (s : g.Sort) (groups : GroupsConnectives g s) (top : Level) (o : Operator) (n : ℕ)
    (is : operator_level o ≡ n) where
  pub left_is : level_of top (tables.left_level g s n) ≡ left_level o
  left_is =
      ap (λ m. level_of top (tables.left_level g s m)) (sym is) ∙ ap (level_of top) (left_number g s groups o)
      ∙ left_found top o

  pub right_is : level_of top (tables.right_level g s n) ≡ right_level o
  right_is =
      ap (λ m. level_of top (tables.right_level g s m)) (sym is) ∙ ap (level_of top) (right_number g s groups o)
      ∙ right_found top o

-- R says what is read at each level
module _ (top : Level) (R : Level → Type 0) (alone : (o : Operator) → R (tighter o) → R (Joined o)) (last : R top → R Operand) where
  before : (n : ℕ) → R (level_of top (suc n)) → R (level_of top n)
  before zero r = alone Iff r
  before (suc zero) r = alone Implies r
  before (suc (suc zero)) r = alone Or r
  before (suc (suc (suc zero))) r = alone And r
  before (suc (suc (suc (suc zero)))) r = last r
  before (suc (suc (suc (suc (suc n))))) r = r

  pub loosened : (n m : ℕ) → n ≤ m → R (level_of top m) → R (level_of top n)
  loosened = looser (λ n. R (level_of top n)) before

  pub from_top : (n : ℕ) → R top → R (level_of top n)
  from_top n r = loosened n (suc (suc (suc (suc (suc n))))) (omega arith) r
