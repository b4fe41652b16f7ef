-- The grammar of mu texts as tables, for the machine of `ml_text`: the forms of operands, and the operators.
--
-- Private contracts and proofs cite this. That these tables are the grammar of `Grammar.antt` is proved.
--
--   Wait          == a form of which a sign is to come
--   Hold          == a form of which an operand is to come
--   shift q t     == what the sign t does to a form
--   resume k f    == a form behind its operand f
--   mu_grammar    == the tables
use Rattle.std.specs.Prelude.{ℕ, nat_le, List, Option, Some, None, codes}
use Rattle.ml_text.specs.Operators.{operator_level}
use Rattle.ml_text.specs.Grammar.{Grammar, Mode, Whole, More, Turn, Read, Inner}
use Rattle.ml_text.specs.declared.forms.Role.{Role}
use Rattle.ml_text.specs.declared.forms.Role.TheVariants.{Infix, Outside}
use Rattle.ml_mu.specs.Formula as plain
use Rattle.ml_mu.specs.Formula.{Formula, Modality, Diamond, Square, Fixpoint}
use Rattle.ml_text.specs.declared.named_signs.Sign.TheVariants.{Not, Connective, Const, Open, Close, Lower, Upper, Added}
use Rattle.ml_mu.specs.Signs.{Sign}
use Rattle.ml_mu.specs.declared.signs.Own.TheVariants.{Begins, Ends, Binds, Dot, Blank}

pub data Wait : Type 0 where
  -- an operand is to come
  Operand : Wait
  -- behind `<` or `[`, and behind the action there
  BehindBegin : Modality → Wait
  BehindAction : Modality → List ℕ → Wait
  -- behind `mu` or `nu`, and behind the variable there
  BehindFixpoint : Fixpoint → Wait
  BehindVariable : Fixpoint → List ℕ → Wait
  -- behind what stands between parentheses
  BehindInside : Formula → Wait

pub data Hold : Type 0 where
  Negation : Hold
  Modal : Modality → List ℕ → Hold
  Binder : Fixpoint → List ℕ → Hold
  Group : Hold

abbrev pub MuTurn : Type 0
MuTurn = Turn Formula Wait Hold

abbrev pub shift_operand : Sign → Option MuTurn
shift_operand Not = Some (Inner Negation)
shift_operand (Const b) = Some (Read (Whole (plain.Const b)))
shift_operand (Lower p) = Some (Read (Whole (plain.Prop p)))
shift_operand (Upper x) = Some (Read (Whole (plain.Var x)))
shift_operand Open = Some (Inner Group)
shift_operand (Added (Begins m)) = Some (Read (More (BehindBegin m)))
shift_operand (Added (Binds q)) = Some (Read (More (BehindFixpoint q)))
shift_operand _ = None

abbrev pub shift_begin : Modality → Sign → Option MuTurn
shift_begin Diamond (Added (Ends Diamond)) = Some (Inner (Modal Diamond (codes "_")))
shift_begin Square (Added (Ends Square)) = Some (Inner (Modal Square (codes "_")))
shift_begin m (Added Blank) = Some (Read (More (BehindAction m (codes "_"))))
shift_begin m (Lower a) = Some (Read (More (BehindAction m a)))
shift_begin m (Upper a) = Some (Read (More (BehindAction m a)))
shift_begin _ _ = None

abbrev pub shift_action : Modality → List ℕ → Sign → Option MuTurn
shift_action Diamond a (Added (Ends Diamond)) = Some (Inner (Modal Diamond a))
shift_action Square a (Added (Ends Square)) = Some (Inner (Modal Square a))
shift_action _ a _ = None

abbrev pub shift_fixpoint : Fixpoint → Sign → Option MuTurn
shift_fixpoint q (Upper x) = Some (Read (More (BehindVariable q x)))
shift_fixpoint q _ = None

abbrev pub shift_variable : Fixpoint → List ℕ → Sign → Option MuTurn
shift_variable q x (Added Dot) = Some (Inner (Binder q x))
shift_variable q x _ = None

abbrev pub shift_inside : Formula → Sign → Option MuTurn
shift_inside f Close = Some (Read (Whole f))
shift_inside f _ = None

abbrev pub shift : Wait → Sign → Option MuTurn
shift Operand t = shift_operand t
shift (BehindBegin m) t = shift_begin m t
shift (BehindAction m a) t = shift_action m a t
shift (BehindFixpoint q) t = shift_fixpoint q t
shift (BehindVariable q x) t = shift_variable q x t
shift (BehindInside f) t = shift_inside f t

abbrev pub level : Hold → ℕ
level Negation = 4
level (Modal m a) = 4
level (Binder q x) = 0
level Group = 0

abbrev pub resume : Hold → Formula → Mode Formula Wait
resume Negation f = Whole (plain.Not f)
resume (Modal m a) f = Whole (plain.Modal m a f)
resume (Binder q x) f = Whole (plain.Binder q x f)
resume Group f = More (BehindInside f)

abbrev pub role : Sign → Role
role (Connective o) = Infix (operator_level o)
role _ = Outside

abbrev pub join : Sign → Formula → Formula → Formula
join (Connective o) f g = plain.Binary o f g
join _ f g = f

-- the connectives of the levels 2 and 3 group to the left
abbrev pub mu_grammar : Grammar
mu_grammar = record {
  Sign = Sign;
  Tree = Formula;
  Sort = Unit {0};
  Wait = Wait;
  Hold = Hold;
  whole = tt;
  start = λ s. Operand;
  shift = shift;
  sort = λ k. tt;
  level = level;
  resume = resume;
  role = λ s. role;
  groups_left = λ s l. nat_le 2 l;
  join = join;
  post = λ t f. None;
}
