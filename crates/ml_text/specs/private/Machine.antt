-- The machine that reads the texts of a grammar: a stack of what is begun, and one sign at a time.
-- What a text stands for is said in `Grammar.antt`.
--
--   Frame               == what is begun: a form that holds an operand, or a left operand with its operator
--   State g             == what is read of the topmost form, and the stack, topmost frame first
--   step g m stack t    == the state behind the sign t, if some text goes on so
--   popped g frame v    == what a popped frame makes of its operand v
--   reduce g n stack v  == the same with all frames popped whose operand v doesn't take n, the sign that follows
--   resolve g m stack t == the state behind the sign t, once these are popped
--   finish g m stack    == the tree, if the text ends here
--   parse g m stack ts  == the tree, if the text goes on with ts and ends there
--   run g m stack ts    == the state behind the signs ts
use Rattle.std.specs.Prelude.{ℕ, if◌then◌else◌, List, [], ◌∷◌, Option, Some, None, option_and_then}
use Rattle.std.specs.Option.{option_map}
use Rattle.ml_text.specs.Grammar.{Grammar, Mode, Whole, More, Turn, Read, Inner, Opens, right_level, takes}
use Rattle.ml_text.specs.declared.forms.Role.{Role}
use Rattle.ml_text.specs.declared.forms.Role.TheVariants.{Infix, Postfix, Outside}

pub data Frame (g : Grammar) : Type 0 where
  Held : g.Hold → Frame g
  Left : g.Sort → ℕ → g.Sign → g.Tree → Frame g

abbrev pub Stack : Grammar → Type 0
Stack g = List (Frame g)

abbrev pub State : Grammar → Type 0
State g = Mode g.Tree g.Wait × List (Frame g)

-- the sort and the level of the operand that is being read
abbrev pub frame_sort : (g : Grammar) → Frame g → g.Sort
frame_sort g (Held k) = g.sort k
frame_sort g (Left s m o u) = s

abbrev pub frame_level : (g : Grammar) → Frame g → ℕ
frame_level g (Held k) = g.level k
frame_level g (Left s m o u) = right_level g s m

abbrev pub sort_of : (g : Grammar) → Stack g → g.Sort
sort_of g [] = g.whole
sort_of g (fr ∷ stack) = frame_sort g fr

abbrev pub level_of : (g : Grammar) → Stack g → ℕ
level_of g [] = 0
level_of g (fr ∷ stack) = frame_level g fr

abbrev pub start_state : (g : Grammar) → g.Sort → Mode g.Tree g.Wait
start_state g s = More (g.start s)

-- a form that holds an operand is begun
abbrev pub hold : (g : Grammar) → Stack g → g.Hold → State g
hold g stack k = (start_state g (g.sort k), Held k ∷ stack)

-- behind a sign with which the operand of the topmost frame begins
abbrev pub begin : (g : Grammar) → Stack g → Option (Turn g.Tree g.Wait g.Hold) → Option (State g)
begin g stack None = None
begin g stack (Some (Read m)) = Some (m, stack)
begin g stack (Some (Inner k)) = Some (hold g stack k)
begin g stack (Some (Opens k)) = None

-- behind a sign, by what it does to the topmost form
abbrev pub enter : (g : Grammar) → Stack g → g.Sign → Option (Turn g.Tree g.Wait g.Hold) → Option (State g)
enter g stack t None = None
enter g stack t (Some (Read m)) = Some (m, stack)
enter g stack t (Some (Inner k)) = Some (hold g stack k)
enter g stack t (Some (Opens k)) = begin g (Held k ∷ stack) (g.shift (g.start (g.sort k)) t)

-- behind an operator or a sign that the operand v takes
abbrev pub take_sign : (g : Grammar) → Stack g → g.Tree → g.Sign → Role → Option (State g)
take_sign g stack v t (Infix m) = Some (start_state g (sort_of g stack), Left (sort_of g stack) m t v ∷ stack)
take_sign g stack v t Postfix = option_map (λ h. (Whole h, stack)) (g.post t v)
take_sign g stack v t Outside = None

-- a form that held an operand goes on: it is whole, or the sign is one of its own
abbrev pub go_on : (g : Grammar)
    → (g.Tree → Option (State g))
    → Mode g.Tree g.Wait
    → Stack g
    → g.Sign
    → Option (State g)
go_on g next (Whole w) stack t = next w
go_on g next (More q) stack t = enter g stack t (g.shift q t)

-- behind a sign that comes behind the operand v: frames whose operand doesn't take it are popped
abbrev pub behind : (g : Grammar) → Stack g → g.Tree → g.Sign → Option (State g)
behind g [] v t = take_sign g [] v t (g.role g.whole t)
behind g (Held k ∷ stack) v t =
    if takes g (g.sort k) (g.level k) (Some t)
    then take_sign g (Held k ∷ stack) v t (g.role (g.sort k) t)
    else go_on g (λ w. behind g stack w t) (g.resume k v) stack t
behind g (Left s m o u ∷ stack) v t =
    if takes g s (right_level g s m) (Some t)
    then take_sign g (Left s m o u ∷ stack) v t (g.role s t)
    else behind g stack (g.join o u v) t

abbrev pub step : (g : Grammar) → Mode g.Tree g.Wait → Stack g → g.Sign → Option (State g)
step g (Whole v) stack t = behind g stack v t
step g (More q) stack t = enter g stack t (g.shift q t)

-- the tree of a whole form
abbrev pub whole_of : {Tree Wait X : Type 0} → (Tree → Option X) → Mode Tree Wait → Option X
whole_of next (Whole w) = next w
whole_of next (More q) = None

abbrev pub close : (g : Grammar) → Stack g → g.Tree → Option g.Tree
close g [] v = Some v
close g (Held k ∷ stack) v = whole_of (λ w. close g stack w) (g.resume k v)
close g (Left s m o u ∷ stack) v = close g stack (g.join o u v)

abbrev pub finish : (g : Grammar) → Mode g.Tree g.Wait → Stack g → Option g.Tree
finish g m stack = whole_of (close g stack) m

abbrev pub parse : (g : Grammar) → Mode g.Tree g.Wait → Stack g → List g.Sign → Option g.Tree
parse g m stack [] = finish g m stack
parse g m stack (t ∷ ts) = option_and_then (λ s. parse g s.0 s.1 ts) (step g m stack t)

abbrev pub run : (g : Grammar) → Mode g.Tree g.Wait → Stack g → List g.Sign → Option (State g)
run g m stack [] = Some (m, stack)
run g m stack (t ∷ ts) = option_and_then (λ s. run g s.0 s.1 ts) (step g m stack t)

-- what a popped frame makes of its operand
abbrev pub popped : (g : Grammar) → Frame g → g.Tree → Mode g.Tree g.Wait
popped g (Held k) v = g.resume k v
popped g (Left s m o u) v = Whole (g.join o u v)

-- a popped form that isn't whole stays to be read on
abbrev pub reduced : (g : Grammar) → (g.Tree → State g) → Mode g.Tree g.Wait → Stack g → State g
reduced g next (Whole w) stack = next w
reduced g next (More q) stack = (More q, stack)

abbrev pub reduce : (g : Grammar) → Option g.Sign → Stack g → g.Tree → State g
reduce g n [] v = (Whole v, [])
reduce g n (Held k ∷ stack) v =
    if takes g (g.sort k) (g.level k) n
    then (Whole v, Held k ∷ stack)
    else reduced g (λ w. reduce g n stack w) (g.resume k v) stack
reduce g n (Left s m o u ∷ stack) v =
    if takes g s (right_level g s m) n
    then (Whole v, Left s m o u ∷ stack)
    else reduce g n stack (g.join o u v)

abbrev pub resolve : (g : Grammar) → Mode g.Tree g.Wait → Stack g → g.Sign → Option (State g)
resolve g (Whole v) stack t = take_sign g stack v t (g.role (sort_of g stack) t)
resolve g (More q) stack t = enter g stack t (g.shift q t)
