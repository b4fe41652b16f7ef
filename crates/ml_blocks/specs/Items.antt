-- Items of a path: what is asked of a path from a place on.
--
-- Occurrences of a formula are numbered in preorder from 0: an operator before its operands, left before right; an iff
-- takes three numbers in a row. A now-item asks that the formula at an occurrence be true at a place, or false. A
-- later-item is a temporal operator put off: it asks the same of the next place.
--
-- A now-item may be decomposed into others that say the same together, of the same place or the next: in one way, or in
-- two of which one is enough. Decomposing adds greater occurrences alone, beside the item itself put off.
--
--   Item         == an occurrence with its formula, whether it is to be true, and whether it is put off
--   now i f b    == the item that f at i be true, or false
--   put_off x    == the item x put off to the next place
--   Row          == how a now-item is decomposed: it is about the state alone, one way, two ways, or it waits
--   row x        == how x is decomposed
--   behind_next x == what an item of an X asks of the next place
--   is_least x   == x is an eventuality: it may not be put off for ever
use Rattle.std.specs.Prelude.{ℕ, ◌+◌, Bool, true, false, not, if◌then◌else◌, List, [], ◌∷◌}
use Rattle.ml_text.specs.declared.token.Operator.{Operator}
use Rattle.ml_text.specs.declared.token.Operator.TheVariants as operator
use Rattle.ml_ctl.specs.Formula.{Formula, Not, Binary, Temporal, Paired, occurrences}
use Rattle.ml_ctl.specs.declared.term.Tense.{Tense}
use Rattle.ml_ctl.specs.declared.term.Tense.TheVariants.{Next, Finally, Globally}
use Rattle.ml_ctl.specs.declared.term.Pairing.{Pairing}
use Rattle.ml_ctl.specs.declared.term.Pairing.TheVariants.{Release}
use Rattle.ml_ctl.specs.Eventualities.{is_eventual}

pub record Item : Type 0 where
  pub number : ℕ
  pub formula : Formula
  pub positive : Bool
  pub later : Bool

-- the formula f at the occurrence i is to be true, or false
abbrev pub now : ℕ → Formula → Bool → Item
now i f b = record { number = i; formula = f; positive = b; later = false }

abbrev pub put_off : Item → Item
put_off x = record { number = x.number; formula = x.formula; positive = x.positive; later = true }

pub data Row : Type 0 where
  OfState Waits : Row
  Becomes : (items : List Item) → Row
  Either : (first second : List Item) → Row

-- the row of an item x of a binary connective, true or false, with its operands
abbrev pub row_of_connective : Operator → Bool → (l r : Bool → Item) → Row
row_of_connective operator.And true l r = Becomes (l true ∷ r true ∷ [])
row_of_connective operator.And false l r = Either (l false ∷ []) (r false ∷ [])
row_of_connective operator.Or true l r = Either (l true ∷ []) (r true ∷ [])
row_of_connective operator.Or false l r = Becomes (l false ∷ r false ∷ [])
row_of_connective operator.Implies true l r = Either (l false ∷ []) (r true ∷ [])
row_of_connective operator.Implies false l r = Becomes (l true ∷ r false ∷ [])
row_of_connective operator.Iff true l r = Either (l true ∷ r true ∷ []) (l false ∷ r false ∷ [])
row_of_connective operator.Iff false l r = Either (l true ∷ r false ∷ []) (l false ∷ r true ∷ [])

-- the row of an item x of X, F or G with its operand: now or put off, or now and put off
abbrev pub row_of_tense : Tense → Item → (operand : Item) → Row
row_of_tense Next x g = Waits
row_of_tense Finally x g =
    if x.positive then Either (g ∷ []) (put_off x ∷ []) else Becomes (g ∷ put_off x ∷ [])
row_of_tense Globally x g =
    if x.positive then Becomes (g ∷ put_off x ∷ []) else Either (g ∷ []) (put_off x ∷ [])

-- g, or f and x put off; and g with f, or g and x put off
abbrev pub unless_put_off : Item → (f g : Item) → Row
unless_put_off x f g = Either (g ∷ []) (f ∷ put_off x ∷ [])

abbrev pub until_released : Item → (f g : Item) → Row
until_released x f g = Either (g ∷ f ∷ []) (g ∷ put_off x ∷ [])

-- the row of an item x of U, R or W with its operands, of the sign of x
abbrev pub row_of_pairing : Pairing → Item → (f g : Item) → Row
row_of_pairing Release x f g = if x.positive then until_released x f g else unless_put_off x f g
row_of_pairing _ x f g = if x.positive then unless_put_off x f g else until_released x f g

-- the number of the only operand, or of the left one; the right one comes behind it
abbrev pub left_number : ℕ → Formula → ℕ
left_number i (Binary operator.Iff f g) = i + 3
left_number i _ = i + 1

abbrev pub row_at : Item → Formula → Row
row_at x (Not f) = Becomes (now (x.number + 1) f (not x.positive) ∷ [])
row_at x (Binary op f g) =
    let l = left_number x.number (Binary op f g) in
    row_of_connective op x.positive (now l f) (now (l + occurrences f) g)
row_at x (Temporal t f) = row_of_tense t x (now (x.number + 1) f x.positive)
row_at x (Paired p f g) =
    let l = x.number + 1 in row_of_pairing p x (now l f x.positive) (now (l + occurrences f) g x.positive)
row_at x _ = OfState

abbrev pub row : Item → Row
row x = row_at x x.formula

-- what an item of an X asks of the next place: its operand
abbrev pub operand_of : Item → Formula → Item
operand_of x (Temporal Next f) = now (x.number + 1) f x.positive
operand_of x _ = x

abbrev pub behind_next : Item → Item
behind_next x = operand_of x x.formula

-- what it asks has to come about
abbrev pub is_least : Item → Bool
is_least x = is_eventual x.formula x.positive
