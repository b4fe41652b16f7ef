-- The forms, frames and states that a program holds, as those of the machine.
--
--   mode_view, turn_view, frame_view == the same, of the machine
--   GivesBack t turn sign            == the turn has the sign with which a held operand begins
--   stack_view t frames              == the stack; the program holds its topmost frame last
--   IsStopped g stack n              == the operand of the topmost frame takes n, or nothing is begun
--   IsUntaken g frame n              == the operand of the frame doesn't take n
use Rattle.std.specs.Prelude.{◌≡◌, true, false, List, [], ◌∷◌, Option, Some, None, map, reverse}
use Rattle.ml_text.specs.Grammar as grammar
use Rattle.ml_text.specs.Grammar.{Grammar}
use Rattle.ml_text.specs.private.Machine as machine
use Rattle.ml_text.specs.private.Tables.{Tables}
use Rattle.ml_text.specs.declared.forms.Mode.{Mode}
use Rattle.ml_text.specs.declared.forms.Mode.TheVariants as mode
use Rattle.ml_text.specs.declared.forms.Turn.{Turn}
use Rattle.ml_text.specs.declared.forms.Turn.TheVariants as turn
use Rattle.ml_text.specs.declared.forms.Frame.{Frame}
use Rattle.ml_text.specs.declared.forms.Frame.TheVariants as frame

abbrev pub mode_view : {K C S O T W H : Type 0}
    → (t : Tables K C S O T W H)
    → Mode T W
    → grammar.Mode t.grammar.Tree t.grammar.Wait
mode_view t (mode.Whole v) = grammar.Whole (t.tree v)
mode_view t (mode.More q) = grammar.More (t.wait q)

abbrev pub turn_view : {K C S O T W H : Type 0}
    → (t : Tables K C S O T W H)
    → Turn O T W H
    → grammar.Turn t.grammar.Tree t.grammar.Wait t.grammar.Hold
turn_view t (turn.Read m) = grammar.Read (mode_view t m)
turn_view t (turn.Inner k) = grammar.Inner (t.hold k)
turn_view t (turn.Opens k o) = grammar.Opens (t.hold k)

abbrev pub GivesBack : {K C S O T W H : Type 0}
    → (t : Tables K C S O T W H)
    → Option (Turn O T W H)
    → t.grammar.Sign
    → Type 0
GivesBack t None sign = Unit {0}
GivesBack t (Some (turn.Read m)) sign = Unit {0}
GivesBack t (Some (turn.Inner k)) sign = Unit {0}
GivesBack t (Some (turn.Opens k o)) sign = t.sign o ≡ sign

abbrev pub frame_view : {K C S O T W H : Type 0} → (t : Tables K C S O T W H) → Frame S O T H → machine.Frame t.grammar
frame_view t (frame.Held k) = machine.Held (t.hold k)
frame_view t (frame.Left s l o v) = machine.Left (t.sort s) l (t.sign o) (t.tree v)

abbrev pub stack_view : {K C S O T W H : Type 0}
    → (t : Tables K C S O T W H)
    → List (Frame S O T H)
    → machine.Stack t.grammar
stack_view t frames = reverse (map (frame_view t) frames)

abbrev pub frame_takes : (g : Grammar) → machine.Frame g → g.Sign → Rattle.std.specs.Prelude.Bool
frame_takes g fr n = grammar.takes g (machine.frame_sort g fr) (machine.frame_level g fr) (Some n)

abbrev pub IsStopped : (g : Grammar) → machine.Stack g → g.Sign → Type 0
IsStopped g [] n = Unit {0}
IsStopped g (fr ∷ stack) n = frame_takes g fr n ≡ true

abbrev pub IsUntaken : (g : Grammar) → machine.Frame g → g.Sign → Type 0
IsUntaken g fr n = frame_takes g fr n ≡ false
