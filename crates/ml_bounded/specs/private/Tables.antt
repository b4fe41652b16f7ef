-- The grammar of LTL texts with bounds as tables, for the machine of `ml_text`: the forms of operands, and the operators.
--
-- Private contracts and proofs cite this. That these tables are the grammar of `Grammar.antt` is proved.
--
--   Wait             == a form of which a sign is to come
--   Hold             == a form of which an operand is to come
--   shift q t        == what the sign t does to a form
--   resume k f       == a form behind its operand f
--   bounded_grammar  == the tables
use Rattle.std.specs.Prelude.{ℕ, ◌&&◌, Bool, nat_le, if◌then◌else◌, Option, Some, None}
use Rattle.ml_text.specs.Operators.{operator_level}
use Rattle.ml_text.specs.Grammar.{Grammar, Mode, Whole, More, Turn, Read, Inner, Opens}
use Rattle.ml_text.specs.declared.forms.Role.{Role}
use Rattle.ml_text.specs.declared.forms.Role.TheVariants.{Infix, Outside}
use Rattle.ml_text.specs.declared.named_signs.Sign.TheVariants.{Not, Connective, Const, Open, Close, Lower, Added}
use Rattle.ml_ctl.specs.declared.term.Tense.{Tense}
use Rattle.ml_ctl.specs.declared.term.Tense.TheVariants as tense
use Rattle.ml_bounded.specs.Formula as plain
use Rattle.ml_bounded.specs.Formula.{Formula}
use Rattle.ml_bounded.specs.declared.term.Bound.{Bound}
use Rattle.ml_bounded.specs.declared.term.Bound.TheVariants.{Next, Within}
use Rattle.ml_bounded.specs.declared.term.Reach.{Reach}
use Rattle.ml_bounded.specs.declared.term.Reach.TheVariants.{Eventually, Always}
use Rattle.ml_bounded.specs.declared.forms.Hold.{Hold}
use Rattle.ml_bounded.specs.declared.forms.Hold.TheVariants.{Negation, Tensing, Bounding, Group}
use Rattle.ml_bounded.specs.Signs.{Sign}
use Rattle.ml_bounded.specs.declared.signs.Own.TheVariants.{Tensed, Pairs, Opening, Closing, Between, Number, Digit}

pub data Wait : Type 0 where
  -- an operand is to come
  Start : Wait
  -- behind what stands between parentheses
  BehindInside : Formula → Wait
  -- behind X, F or G: an operand or `[` is to come
  BehindTense : Tense → Wait
  -- behind `[`: a number is to come
  BehindOpening : Tense → Wait
  -- behind the first number of two
  BehindFirst : Reach → ℕ → Wait
  -- behind `:` or `,`: the second number is to come
  BehindBetween : Reach → ℕ → Wait
  -- behind all numbers
  BehindLast : Bound → Wait

abbrev pub BoundedTurn : Type 0
BoundedTurn = Turn Formula Wait Hold

abbrev pub shift_start : Sign → Option BoundedTurn
shift_start Not = Some (Inner Negation)
shift_start (Const b) = Some (Read (Whole (plain.Const b)))
shift_start (Lower p) = Some (Read (Whole (plain.Prop p)))
shift_start Open = Some (Inner Group)
shift_start (Added (Tensed t)) = Some (Read (More (BehindTense t)))
shift_start _ = None

abbrev pub shift_inside : Formula → Sign → Option BoundedTurn
shift_inside f Close = Some (Read (Whole f))
shift_inside f _ = None

abbrev pub shift_tense : Tense → Sign → Option BoundedTurn
shift_tense t (Added Opening) = Some (Read (More (BehindOpening t)))
shift_tense t _ = Some (Opens (Tensing t))

-- behind the first number in the brackets
abbrev pub behind_number : Tense → ℕ → Wait
behind_number tense.Next n = BehindLast (Next n)
behind_number tense.Finally n = BehindFirst Eventually n
behind_number tense.Globally n = BehindFirst Always n

abbrev pub shift_opening : Tense → Sign → Option BoundedTurn
shift_opening t (Added (Number n)) = Some (Read (More (behind_number t n)))
shift_opening t _ = None

abbrev pub shift_first : Reach → ℕ → Sign → Option BoundedTurn
shift_first r m (Added Digit) = Some (Read (More (BehindFirst r m)))
shift_first r m (Added Between) = Some (Read (More (BehindBetween r m)))
shift_first r m _ = None

-- the second number is no less than the first
abbrev pub shift_between : Reach → ℕ → Sign → Option BoundedTurn
shift_between r m (Added (Number n)) = if nat_le m n then Some (Read (More (BehindLast (Within r m n)))) else None
shift_between r m _ = None

abbrev pub shift_last : Bound → Sign → Option BoundedTurn
shift_last b (Added Digit) = Some (Read (More (BehindLast b)))
shift_last b (Added Closing) = Some (Inner (Bounding b))
shift_last b _ = None

abbrev pub shift : Wait → Sign → Option BoundedTurn
shift Start t = shift_start t
shift (BehindInside f) t = shift_inside f t
shift (BehindTense e) t = shift_tense e t
shift (BehindOpening e) t = shift_opening e t
shift (BehindFirst r m) t = shift_first r m t
shift (BehindBetween r m) t = shift_between r m t
shift (BehindLast b) t = shift_last b t

abbrev pub level : Hold → ℕ
level Group = 0
level _ = 5

abbrev pub resume : Hold → Formula → Mode Formula Wait
resume Negation f = Whole (plain.Not f)
resume (Tensing t) f = Whole (plain.Temporal t f)
resume (Bounding b) f = Whole (plain.Bounded b f)
resume Group f = More (BehindInside f)

-- U, R and W bind tighter than the connectives
abbrev pub role : Sign → Role
role (Connective o) = Infix (operator_level o)
role (Added (Pairs p)) = Infix 4
role _ = Outside

-- the connectives of the levels 2 and 3 group to the left, all other operators to the right
abbrev pub groups_left : ℕ → Bool
groups_left l = nat_le 2 l && nat_le l 3

abbrev pub join : Sign → Formula → Formula → Formula
join (Connective o) f g = plain.Binary o f g
join (Added (Pairs p)) f g = plain.Paired p f g
join _ f g = f

abbrev pub bounded_grammar : Grammar
bounded_grammar = record {
  Sign = Sign;
  Tree = Formula;
  Sort = Unit {0};
  Wait = Wait;
  Hold = Hold;
  whole = tt;
  start = λ s. Start;
  shift = shift;
  sort = λ k. tt;
  level = level;
  resume = resume;
  role = λ s. role;
  groups_left = λ s. groups_left;
  join = join;
  post = λ t f. None;
}
