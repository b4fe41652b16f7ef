-- The grammar of CTL* and LTL texts as tables, for the machine of `ml_text`: the forms of operands, and the operators.
--
-- Private contracts and proofs cite this. That these tables are the grammar of `Grammar.antt` is proved.
--
--   Wait           == a form of which a sign is to come
--   Hold           == a form of which an operand is to come
--   shift w q t    == what the sign t does to a form
--   resume k f     == a form behind its operand f
--   ctl_grammar w  == the tables of a logic
use Rattle.std.specs.Prelude.{ℕ, ◌&&◌, Bool, nat_le, Option, Some, None}
use Rattle.ml_text.specs.Operators.{operator_level}
use Rattle.ml_text.specs.Grammar.{Grammar, Mode, Whole, More, Turn, Read, Inner}
use Rattle.ml_text.specs.declared.forms.Role.{Role}
use Rattle.ml_text.specs.declared.forms.Role.TheVariants.{Infix, Outside}
use Rattle.ml_ctl.specs.Formula as plain
use Rattle.ml_ctl.specs.Formula.{Formula}
use Rattle.ml_ctl.specs.declared.term.Tense.{Tense}
use Rattle.ml_ctl.specs.declared.term.Quantifier.{Quantifier}
use Rattle.ml_ctl.specs.declared.language.Language.{Language}
use Rattle.ml_ctl.specs.declared.language.Language.TheVariants.{Ctl, Ltl}
use Rattle.ml_ctl.specs.Grammar.{sort_of}
use Rattle.ml_ctl.specs.declared.language.Sort.{Sort}
use Rattle.ml_ctl.specs.declared.language.Sort.TheVariants.{State, Path}
use Rattle.ml_ctl.specs.declared.forms.Hold.{Hold}
use Rattle.ml_ctl.specs.declared.forms.Hold.TheVariants.{Negation, Tensing, Quantifying, Group}
use Rattle.ml_text.specs.declared.named_signs.Sign.TheVariants.{Not, Connective, Const, Open, Close, Lower, Added}
use Rattle.ml_ctl.specs.Signs.{Sign}
use Rattle.ml_ctl.specs.declared.signs.Own.TheVariants.{Tensed, Pairs, Quantifies}

pub data Wait : Type 0 where
  -- an operand is to come
  Start : Sort → Wait
  -- behind what stands between parentheses
  BehindInside : Formula → Wait

abbrev pub CtlTurn : Type 0
CtlTurn = Turn Formula Wait Hold

-- X, F and G begin path formulas alone
abbrev pub shift_tense : Sort → Tense → Option CtlTurn
shift_tense State t = None
shift_tense Path t = Some (Inner (Tensing t))

-- E and A begin formulas of CTL* alone
abbrev pub shift_quantifier : Language → Quantifier → Option CtlTurn
shift_quantifier Ctl q = Some (Inner (Quantifying q))
shift_quantifier Ltl q = None

abbrev pub shift_start : Language → Sort → Sign → Option CtlTurn
shift_start w s Not = Some (Inner (Negation s))
shift_start w s (Const b) = Some (Read (Whole (plain.Const b)))
shift_start w s (Lower p) = Some (Read (Whole (plain.Prop p)))
shift_start w s Open = Some (Inner (Group s))
shift_start w s (Added (Tensed t)) = shift_tense s t
shift_start w s (Added (Quantifies q)) = shift_quantifier w q
shift_start w s _ = None

abbrev pub shift_inside : Formula → Sign → Option CtlTurn
shift_inside f Close = Some (Read (Whole f))
shift_inside f _ = None

abbrev pub shift : Language → Wait → Sign → Option CtlTurn
shift w (Start s) t = shift_start w s t
shift w (BehindInside f) t = shift_inside f t

abbrev pub sort : Hold → Sort
sort (Negation s) = s
sort (Tensing t) = Path
sort (Quantifying q) = Path
sort (Group s) = s

abbrev pub level : Hold → ℕ
level (Group s) = 0
level _ = 5

abbrev pub resume : Hold → Formula → Mode Formula Wait
resume (Negation s) f = Whole (plain.Not f)
resume (Tensing t) f = Whole (plain.Temporal t f)
resume (Quantifying q) f = Whole (plain.Quantified q f)
resume (Group s) f = More (BehindInside f)

-- U, R and W bind tighter than the connectives
abbrev pub pairing_role : Sort → Role
pairing_role State = Outside
pairing_role Path = Infix 4

abbrev pub role : Sort → Sign → Role
role s (Connective o) = Infix (operator_level o)
role s (Added (Pairs p)) = pairing_role s
role s _ = Outside

-- the connectives of the levels 2 and 3 group to the left, all other operators to the right
abbrev pub groups_left : ℕ → Bool
groups_left l = nat_le 2 l && nat_le l 3

abbrev pub join : Sign → Formula → Formula → Formula
join (Connective o) f g = plain.Binary o f g
join (Added (Pairs p)) f g = plain.Paired p f g
join _ f g = f

abbrev pub ctl_grammar : Language → Grammar
ctl_grammar w = record {
  Sign = Sign;
  Tree = Formula;
  Sort = Sort;
  Wait = Wait;
  Hold = Hold;
  whole = sort_of w;
  start = Start;
  shift = shift w;
  sort = sort;
  level = level;
  resume = resume;
  role = role;
  groups_left = λ s. groups_left;
  join = join;
  post = λ t f. None;
}
