-- The machine finds each tree that signs stand for, so signs stand for one tree at most.
--
--   pop       == a frame whose operand can't take what follows is popped
--   push      == an operator that the topmost frame's operand takes is pushed
--   complete  == where ts begins with f, the machine reads f off ts
--   found     == what stands for f is parsed as f
--   one_tree  == signs stand for one tree at most
use Rattle.std.proofs.Common.{◌≡◌, ℕ, ◌≤◌, true, false, List, [], ◌∷◌, Option, Some, None, refl, ◌∙◌, ap, arith, le-leb}
use Rattle.std.specs.Prelude.{option_and_then}
use Rattle.std.proofs.lemmas.Bool.{cond-true, cond-false}
use Rattle.ml_text.specs.Grammar.{Grammar, Mode, Whole, More, Turn, Read, Inner, Opens, Part, Level, Operand, Rest, Behind, Reads, alone, joined, postfixed}
use Rattle.ml_text.specs.Grammar.{form, whole, sign, read, inner, opens, left_level, right_level, role_takes, takes, front, StandsFor, IsRegular}
use Rattle.ml_text.specs.declared.forms.Role.TheVariants.{Infix, Postfix}
use Rattle.ml_text.specs.private.Machine.{Frame, Held, Left, Stack, State, frame_sort, frame_level, sort_of, level_of, start_state, begin, enter, take_sign, go_on, behind, step, parse, popped}
use Rattle.ml_text.proofs.Levels.{Follows, untaken_follows, left_level-above, left_follows, right_follows, right_untaken}

-- what is parsed behind a step
abbrev pub parse_on : (g : Grammar) → List g.Sign → Option (State g) → Option g.Tree
parse_on g ts = option_and_then (λ s. parse g s.0 s.1 ts)

go_on-step : (g : Grammar) (m : Mode g.Tree g.Wait) (stack : Stack g) (t : g.Sign)
    → go_on g (λ w. behind g stack w t) m stack t ≡ step g m stack t
go_on-step g (Whole w) stack t = refl
go_on-step g (More q) stack t = refl

pub behind-popped : (g : Grammar) (fr : Frame g) (stack : Stack g) (v : g.Tree) (t : g.Sign)
    → takes g (frame_sort g fr) (frame_level g fr) (Some t) ≡ false
    → behind g (fr ∷ stack) v t ≡ step g (popped g fr v) stack t
behind-popped g (Held k) stack v t e =
    cond-false (takes g (g.sort k) (g.level k) (Some t)) (take_sign g (Held k ∷ stack) v t (g.role (g.sort k) t))
    (go_on g (λ w. behind g stack w t) (g.resume k v) stack t) e
    ∙ go_on-step g (g.resume k v) stack t
behind-popped g (Left s m o u) stack v t e =
    cond-false (takes g s (right_level g s m) (Some t)) (take_sign g (Left s m o u ∷ stack) v t (g.role s t))
    (behind g stack (g.join o u v) t) e

pub pop : (g : Grammar) (fr : Frame g) (stack : Stack g) (v : g.Tree) (us : List g.Sign)
    → takes g (frame_sort g fr) (frame_level g fr) (front us) ≡ false
    → parse g (Whole v) (fr ∷ stack) us ≡ parse g (popped g fr v) stack us
pop g (Held k) stack v [] e = refl
pop g (Left s m o u) stack v [] e = refl
pop g fr stack v (t ∷ us) e = ap (parse_on g us) (behind-popped g fr stack v t e)

pub behind-taken : (g : Grammar) (stack : Stack g) (v : g.Tree) (t : g.Sign)
    → takes g (sort_of g stack) (level_of g stack) (Some t) ≡ true
    → behind g stack v t ≡ take_sign g stack v t (g.role (sort_of g stack) t)
behind-taken g [] v t e = refl
behind-taken g (Held k ∷ stack) v t e =
    cond-true (takes g (g.sort k) (g.level k) (Some t)) (take_sign g (Held k ∷ stack) v t (g.role (g.sort k) t))
    (go_on g (λ w. behind g stack w t) (g.resume k v) stack t) e
behind-taken g (Left s m o u ∷ stack) v t e =
    cond-true (takes g s (right_level g s m) (Some t)) (take_sign g (Left s m o u ∷ stack) v t (g.role s t))
    (behind g stack (g.join o u v) t) e

-- an operator of the role that it has is taken by an operand whose level is no greater
pub takes-infix : (g : Grammar) (s : g.Sort) (l m : ℕ) (o : g.Sign)
    → g.role s o ≡ Infix m
    → l ≤ m
    → takes g s l (Some o) ≡ true
takes-infix g s l m o is le = ap (role_takes l) is ∙ le-leb l m le

pub push : (g : Grammar) (stack : Stack g) (f : g.Tree) (o : g.Sign) (m : ℕ) (us : List g.Sign)
    → g.role (sort_of g stack) o ≡ Infix m
    → level_of g stack ≤ m
    → parse g (Whole f) stack (o ∷ us)
    ≡ parse g (start_state g (sort_of g stack)) (Left (sort_of g stack) m o f ∷ stack) us
push g stack f o m us is le =
    ap (parse_on g us) (behind-taken g stack f o (takes-infix g (sort_of g stack) (level_of g stack) m o is le)
    ∙ ap (take_sign g stack f o) is)

-- a sign behind the operand f makes it h
pub post_taken : (g : Grammar) (stack : Stack g) (f h : g.Tree) (o : g.Sign) (us : List g.Sign)
    → g.role (sort_of g stack) o ≡ Postfix
    → g.post o f ≡ Some h
    → parse g (Whole f) stack (o ∷ us) ≡ parse g (Whole h) stack us
post_taken g stack f h o us is makes =
    ap (parse_on g us)
    (behind-taken g stack f o (ap (role_takes (level_of g stack)) is)
    ∙ ap (take_sign g stack f o) is
    ∙ ap (λ made. Rattle.std.specs.Option.option_map (λ w. (Whole w, stack)) made) makes)

-- where a form begins with a held operand, the sign begins that operand
begin-enter : (g : Grammar)
    → (s : g.Sort) (stack : Stack g) (t : g.Sign) (turn : Option (Turn g.Tree g.Wait g.Hold))
    → ((k : g.Hold) → turn ≡ Some (Opens k) → ⊥)
    → begin g stack turn ≡ enter g stack t turn
begin-enter g s stack t None regular = refl
begin-enter g s stack t (Some (Read m)) regular = refl
begin-enter g s stack t (Some (Inner k)) regular = refl
begin-enter g s stack t (Some (Opens k)) regular = absurd (regular k refl)

-- what the machine makes of the front of a text: the state that reads the part p on top of a stack
abbrev pub IsRead : (g : Grammar) → Part g → List g.Sign → g.Tree → List g.Sign → Type 0
IsRead g (Level s l) ts f rest = (stack : Stack g) → sort_of g stack ≡ s → level_of g stack ≤ l
    → Follows g s l (front rest) → parse g (start_state g s) stack ts ≡ parse g (Whole f) stack rest
IsRead g (Operand s) ts f rest = (stack : Stack g) → sort_of g stack ≡ s → parse g (start_state g s) stack ts
    ≡ parse g (Whole f) stack rest
IsRead g (Rest m) ts f rest = (stack : Stack g) → parse g m stack ts ≡ parse g (Whole f) stack rest
IsRead g (Behind t turn) ts f rest = (stack : Stack g) → parse_on g ts (enter g stack t turn)
    ≡ parse g (Whole f) stack rest

-- a held operand, once it is read, and the rest of its form
held_read : (g : Grammar) (k : g.Hold) (us rest : List g.Sign) (v f : g.Tree)
    → takes g (g.sort k) (g.level k) (front us) ≡ false
    → IsRead g (Rest (g.resume k v)) us f rest
    → (stack : Stack g)
    → parse g (Whole v) (Held k ∷ stack) us ≡ parse g (Whole f) stack rest
held_read g k us rest v f untaken later stack = pop g (Held k) stack v us untaken ∙ later stack

joined_read : (g : Grammar) (s : g.Sort) (l : ℕ) (ts us rest : List g.Sign) (f h : g.Tree) (o : g.Sign) (m : ℕ)
    → g.role s o ≡ Infix m
    → l ≤ m
    → IsRead g (Level s (left_level g s m)) ts f (o ∷ us)
    → IsRead g (Level s (right_level g s m)) us h rest
    → IsRead g (Level s l) ts (g.join o f h) rest
joined_read g s l ts us rest f h o m is le left right stack same below follows =
    let role : g.role (sort_of g stack) o ≡ Infix m = ap (λ x. g.role x o) same ∙ is in
    let above : level_of g stack ≤ left_level g s m = omega (arith, left_level-above g s m) in
    let here : level_of g stack ≤ m = omega arith in
    let inner_level : right_level g (sort_of g stack) m ≡ right_level g s m = ap (λ x. right_level g x m) same in
    left stack same above (left_follows g s m o is)
    ∙ push g stack f o m us role here
    ∙ ap (λ x. parse g (start_state g x) (Left (sort_of g stack) m o f ∷ stack) us) same
    ∙ right (Left (sort_of g stack) m o f ∷ stack) same (omega (arith, inner_level))
    (right_follows g s l m (front rest) le follows)
    ∙ pop g (Left (sort_of g stack) m o f) stack h rest
    (ap (λ x. takes g x (right_level g x m) (front rest)) same ∙ right_untaken g s l m (front rest) le follows)

opens_read : (g : Grammar)
    → IsRegular g
    → (t : g.Sign) (k : g.Hold) (ts us rest : List g.Sign) (v f : g.Tree)
    → IsRead g (Level (g.sort k) (g.level k)) (t ∷ ts) v us
    → takes g (g.sort k) (g.level k) (front us) ≡ false
    → IsRead g (Rest (g.resume k v)) us f rest
    → IsRead g (Behind t (Some (Opens k))) ts f rest
opens_read g regular t k ts us rest v f first untaken later stack =
    ap (parse_on g ts) (begin-enter g (g.sort k) (Held k ∷ stack) t (g.shift (g.start (g.sort k)) t)
    (λ j e. regular (g.sort k) t j e))
    ∙ first (Held k ∷ stack) refl (omega arith) (untaken_follows g (g.sort k) (g.level k) (front us) untaken)
    ∙ held_read g k us rest v f untaken later stack

pub complete : (g : Grammar)
    → IsRegular g
    → {p : Part g} {ts : List g.Sign} {f : g.Tree} {rest : List g.Sign}
    → Reads g p ts f rest
    → IsRead g p ts f rest
complete g regular (alone r) = λ stack same below follows. complete g regular r stack same
complete g regular (joined {s = s} {l = l} {ts = ts} {us = us} {rest = rest} {f = f} {h = h} o m is le a b) =
    joined_read g s l ts us rest f h o m is le (complete g regular a) (complete g regular b)
complete g regular (postfixed {s = s} {ts = ts} {rest = rest} {f = f} {h = h} o is makes a) =
    λ stack same. complete g regular a stack same ∙ post_taken g stack f h o rest (ap (λ x. g.role x o) same ∙ is) makes
complete g regular (form r) = λ stack same. complete g regular r stack
complete g regular whole = λ stack. refl
complete g regular (sign r) = λ stack. complete g regular r stack
complete g regular (read r) = λ stack. complete g regular r stack
complete g regular (inner {k = k} {ts = ts} {us = us} {rest = rest} {v = v} {f = f} a untaken b) =
    λ stack. complete g regular a (Held k ∷ stack) refl (omega arith)
    (untaken_follows g (g.sort k) (g.level k) (front us) untaken)
    ∙ held_read g k us rest v f untaken (complete g regular b) stack
complete g regular (opens {t = t} {k = k} {ts = ts} {us = us} {rest = rest} {v = v} {f = f} a untaken b) =
    opens_read g regular t k ts us rest v f (complete g regular a) untaken (complete g regular b)

-- what is parsed of a whole text
abbrev pub parsed : (g : Grammar) → List g.Sign → Option g.Tree
parsed g ts = parse g (start_state g g.whole) [] ts

pub found : (g : Grammar) → IsRegular g → (ts : List g.Sign) (f : g.Tree) → StandsFor g ts f → parsed g ts ≡ Some f
found g regular ts f stands = complete g regular stands [] refl (omega arith) tt

pub one_tree : (g : Grammar)
    → IsRegular g
    → (ts : List g.Sign) (f h : g.Tree)
    → StandsFor g ts f
    → StandsFor g ts h
    → f ≡ h
one_tree g regular ts f h a b =
    let first = found g regular ts f a in
    let second = found g regular ts h b in
    cc
