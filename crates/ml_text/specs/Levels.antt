-- How tightly connectives bind, and to which side they group.
--
-- From the loosest to the tightest they are iff, implication, or, and; what they join binds tighter. Iff and implication
-- group to the right, or and and to the left. A text is read at a level: of operands joined by a connective, of what the
-- connectives join, or of what binds tighter still.
--
--   Level          == operands joined by a connective or by tighter ones; an operand of the connectives; what binds tighter
--                     still
--   tighter o      == the level next to that of o
--   groups_left o  == does o group to the left?
--   left_level o   == the level of what stands to the left of o
--   right_level o  == the level of what stands to the right of o
use Rattle.std.specs.Prelude.{Bool, true, false, if◌then◌else◌}
use Rattle.ml_text.specs.declared.token.Operator.{Operator}
use Rattle.ml_text.specs.declared.token.Operator.TheVariants.{Iff, Implies, Or, And}

pub data Level : Type 0 where
  Joined : Operator → Level
  Operand Tight : Level

abbrev pub tighter : Operator → Level
tighter Iff = Joined Implies
tighter Implies = Joined Or
tighter Or = Joined And
tighter And = Operand

abbrev pub groups_left : Operator → Bool
groups_left Iff = false
groups_left Implies = false
groups_left Or = true
groups_left And = true

-- on the side to which a connective groups, it may stand again
abbrev pub left_level : Operator → Level
left_level o = if groups_left o then Joined o else tighter o

abbrev pub right_level : Operator → Level
right_level o = if groups_left o then tighter o else Joined o
