-- What the machine makes of signs, they stand for.
--
--   Pending g text K us   == the stack K is what the text has begun, and the operand that is being read begins with us
--   Known g text m K ts   == the text is read as far as the state m, K says, and goes on with ts
--   Holds g text K v ts   == the same, behind an operand v that no operator of ts has taken yet
--   known_step            == a step keeps what is known
--   sound                 == what is parsed as f stands for f
use Rattle.std.proofs.Common.{◌≡◌, ℕ, ◌<◌, ◌≤◌, ◌⊎◌, Bool, true, false, List, [], ◌∷◌, Option, Some, None, refl, sym, ◌∙◌, ap, subst, ⊎_elim, arith, leb-false, leb-true}
use Rattle.std.specs.Prelude.{option_and_then}
use Rattle.std.specs.Option.{option_map}
use Rattle.std.proofs.lemmas.Bool.{cases_Bool}
use Rattle.ml_text.specs.Grammar.{Grammar, Mode, Whole, More, Turn, Read, Inner, Opens, Level, Operand, Rest, Behind, Reads, alone, joined, postfixed}
use Rattle.ml_text.specs.Grammar.{form, whole, sign, read, inner, opens, left_level, right_level, role_takes, takes, front, StandsFor}
use Rattle.ml_text.specs.declared.forms.Role.{Role}
use Rattle.ml_text.specs.declared.forms.Role.TheVariants.{Infix, Postfix, Outside}
use Rattle.ml_text.specs.private.Machine.{Frame, Held, Left, Stack, State, frame_sort, frame_level, sort_of, level_of, start_state}
use Rattle.ml_text.specs.private.Machine.{begin, enter, take_sign, behind, step, whole_of, close, parse, popped}
use Rattle.ml_text.proofs.Levels.{left_level-right_level}
use Rattle.ml_text.proofs.Complete.{behind-popped, behind-taken}

-- what a frame on the stack below promises: ts begins what the frame is part of, us the operand that it waits for
abbrev pub Lifts : (g : Grammar) → Frame g → Stack g → List g.Sign → List g.Sign → Type 0
Lifts g (Held k) stack ts us = (v f : g.Tree) (vs rest : List g.Sign) → Reads g (Level (g.sort k) (g.level k)) us v vs
    → takes g (g.sort k) (g.level k) (front vs) ≡ false → Reads g (Rest (g.resume k v)) vs f rest
    → Reads g (Operand (sort_of g stack)) ts f rest
Lifts g (Left s m o u) stack ts us = (s ≡ sort_of g stack) × (level_of g stack ≤ m) × (g.role s o ≡ Infix m)
    × Reads g (Level s (left_level g s m)) ts u (o ∷ us)

abbrev pub Pending : (g : Grammar) → List g.Sign → Stack g → List g.Sign → Type 0
Pending g text [] us = us ≡ text
Pending g text (fr ∷ stack) us = (ts : List g.Sign) × (Pending g text stack ts × Lifts g fr stack ts us)

pub record Known (g : Grammar) (text : List g.Sign) (m : Mode g.Tree g.Wait) (stack : Stack g) (ts : List g.Sign) : Type
    0 where
  pub us : List g.Sign
  pub pending : Pending g text stack us
  pub goes : (f : g.Tree) (rest : List g.Sign)
      → Reads g (Rest m) ts f rest
      → Reads g (Operand (sort_of g stack)) us f rest

-- an operand of the sort s and the level l, as far as the operator behind it can ask
pub record Current (g : Grammar) (s : g.Sort) (l : ℕ) (us : List g.Sign) (v : g.Tree) (ts : List g.Sign) : Type 0 where
  pub base : Reads g (Level s l) us v ts
  pub left : (t : g.Sign) (m : ℕ)
      → front ts ≡ Some t
      → g.role s t ≡ Infix m
      → Reads g (Level s (left_level g s m)) us v ts
  pub post : (t : g.Sign) → front ts ≡ Some t → g.role s t ≡ Postfix → Reads g (Operand s) us v ts

pub record Holds (g : Grammar) (text : List g.Sign) (stack : Stack g) (v : g.Tree) (ts : List g.Sign) : Type 0 where
  pub us : List g.Sign
  pub pending : Pending g text stack us
  pub current : Current g (sort_of g stack) (level_of g stack) us v ts

-- what is read of a whole form is its tree
whole_only : (g : Grammar) {h f : g.Tree} {ts rest : List g.Sign}
    → Reads g (Rest (Whole h)) ts f rest
    → (P : g.Tree → List g.Sign → Type 0)
    → P h ts
    → P f rest
whole_only g whole P x = x

known_holds : (g : Grammar) (text : List g.Sign) (v : g.Tree) (stack : Stack g) (ts : List g.Sign)
    → Known g text (Whole v) stack ts
    → Holds g text stack v ts
known_holds g text v stack ts known =
    let is : Reads g (Operand (sort_of g stack)) known.us v ts = known.goes v ts whole in
    record {
      us = known.us;
      pending = known.pending;
      current = record { base = alone is; left = λ t m at role. alone is; post = λ t at role. is };
    }

-- ---- a frame is popped

pop_held : (g : Grammar) (text : List g.Sign) (k : g.Hold) (stack : Stack g) (v : g.Tree) (ts : List g.Sign)
    → Holds g text (Held k ∷ stack) v ts
    → takes g (g.sort k) (g.level k) (front ts) ≡ false
    → Known g text (g.resume k v) stack ts
pop_held g text k stack v ts holds untaken =
    let under = holds.pending in
    record {
      us = under.0;
      pending = (under.1).0;
      goes = λ f rest r. (under.1).1 v f ts rest holds.current.base untaken r;
    }

untaken_infix : (g : Grammar) (s : g.Sort) (l m : ℕ) (n : Option g.Sign) (t : g.Sign)
    → takes g s l n ≡ false
    → n ≡ Some t
    → g.role s t ≡ Infix m
    → m < l
untaken_infix g s l m n t untaken at role = leb-false l m (sym (ap (takes g s l) at ∙ ap (role_takes l) role) ∙ untaken)

untaken_postfix : (g : Grammar) (s : g.Sort) (l : ℕ) (n : Option g.Sign) (t : g.Sign)
    → takes g s l n ≡ false
    → n ≡ Some t
    → g.role s t ≡ Postfix
    → ⊥
untaken_postfix g s l n t untaken at role =
    let is : true ≡ false = sym (ap (takes g s l) at ∙ ap (role_takes l) role) ∙ untaken in
    cc

joined_current : (g : Grammar) (s : g.Sort) (l m : ℕ) (o : g.Sign) (u v : g.Tree) (ts us rest : List g.Sign)
    → l ≤ m
    → g.role s o ≡ Infix m
    → Reads g (Level s (left_level g s m)) ts u (o ∷ us)
    → Reads g (Level s (right_level g s m)) us v rest
    → takes g s (right_level g s m) (front rest) ≡ false
    → Current g s l ts (g.join o u v) rest
joined_current g s l m o u v ts us rest le role first second untaken = record {
  base = joined o m role le first second;
  left = λ t n at is. joined o m role (left_level-right_level g s n m
      (untaken_infix g s (right_level g s m) n (front rest) t untaken at is)) first second;
  post = λ t at is. absurd (untaken_postfix g s (right_level g s m) (front rest) t untaken at is);
}

pop_left : (g : Grammar) (text : List g.Sign) (s : g.Sort) (m : ℕ) (o : g.Sign) (u : g.Tree) (stack : Stack g)
    (v : g.Tree) (ts : List g.Sign)
    → Holds g text (Left s m o u ∷ stack) v ts
    → takes g s (right_level g s m) (front ts) ≡ false
    → Holds g text stack (g.join o u v) ts
pop_left g text s m o u stack v ts holds untaken =
    let under = holds.pending in
    let lift = (under.1).1 in
    record {
      us = under.0;
      pending = (under.1).0;
      current = subst (λ x. Current g x (level_of g stack) under.0 (g.join o u v) ts) lift.0
          (joined_current g s (level_of g stack) m o u v under.0 holds.us ts lift.1 lift.2 lift.3 holds.current.base
          untaken);
    }

-- ---- a sign is taken

abbrev pub KnownState : (g : Grammar) → List g.Sign → State g → List g.Sign → Type 0
KnownState g text s ts = Known g text s.0 s.1 ts

-- what is known of a form behind a sign, by what the sign does
abbrev pub Goes : (g : Grammar)
    → g.Sort
    → g.Sign
    → Option (Turn g.Tree g.Wait g.Hold)
    → List g.Sign
    → List g.Sign
    → Type 0
Goes g s t turn us ts = (f : g.Tree) (rest : List g.Sign) → Reads g (Behind t turn) ts f rest
    → Reads g (Operand s) us f rest

known_start : (g : Grammar) (text : List g.Sign) (s : g.Sort) (stack : Stack g) (ts : List g.Sign)
    → s ≡ sort_of g stack
    → Pending g text stack ts
    → Known g text (start_state g s) stack ts
known_start g text s stack ts same pending =
    record { us = ts; pending = pending; goes = λ f rest r. subst (λ x. Reads g (Operand x) ts f rest) same (form r) }

known_inner : (g : Grammar) (text : List g.Sign) (stack : Stack g) (t : g.Sign) (k : g.Hold) (us ts : List g.Sign)
    → Pending g text stack us
    → Goes g (sort_of g stack) t (Some (Inner k)) us ts
    → KnownState g text (start_state g (g.sort k), Held k ∷ stack) ts
known_inner g text stack t k us ts pending goes =
    known_start g text (g.sort k) (Held k ∷ stack) ts refl
    (us, (pending, λ v f vs rest a untaken r. goes f rest (inner a untaken r)))

begin_known : (g : Grammar) (text : List g.Sign) (stack : Stack g) (t : g.Sign)
    (turn : Option (Turn g.Tree g.Wait g.Hold)) (us ts : List g.Sign) (s : State g)
    → Pending g text stack us
    → Goes g (sort_of g stack) t turn us ts
    → begin g stack turn ≡ Some s
    → KnownState g text s ts
begin_known g text stack t None us ts s pending goes is = absurd (cc)
begin_known g text stack t (Some (Read m)) us ts s pending goes is =
    let e : (m, stack) ≡ s = cc in
    subst (λ x. KnownState g text x ts) e
    (record { us = us; pending = pending; goes = λ f rest r. goes f rest (read r) })
begin_known g text stack t (Some (Inner k)) us ts s pending goes is =
    let e : (start_state g (g.sort k), Held k ∷ stack) ≡ s = cc in
    subst (λ x. KnownState g text x ts) e (known_inner g text stack t k us ts pending goes)
begin_known g text stack t (Some (Opens k)) us ts s pending goes is = absurd (cc)

enter_known : (g : Grammar) (text : List g.Sign) (stack : Stack g) (t : g.Sign)
    (turn : Option (Turn g.Tree g.Wait g.Hold)) (us ts : List g.Sign) (s : State g)
    → Pending g text stack us
    → Goes g (sort_of g stack) t turn us ts
    → enter g stack t turn ≡ Some s
    → KnownState g text s ts
enter_known g text stack t None us ts s pending goes is = absurd (cc)
enter_known g text stack t (Some (Read m)) us ts s pending goes is =
    begin_known g text stack t (Some (Read m)) us ts s pending goes is
enter_known g text stack t (Some (Inner k)) us ts s pending goes is =
    begin_known g text stack t (Some (Inner k)) us ts s pending goes is
enter_known g text stack t (Some (Opens k)) us ts s pending goes is =
    begin_known g text (Held k ∷ stack) t (g.shift (g.start (g.sort k)) t) (t ∷ ts) ts s
    (us, (pending, λ v f vs rest a untaken r. goes f rest (opens a untaken r)))
    (λ f rest r. form (sign r))
    is

-- an operator or a sign behind the operand v, by its role
take_known : (g : Grammar) (text : List g.Sign) (stack : Stack g) (v : g.Tree) (t : g.Sign) (ts : List g.Sign)
    (s : State g) (r : Role)
    → g.role (sort_of g stack) t ≡ r
    → role_takes (level_of g stack) r ≡ true
    → Holds g text stack v (t ∷ ts)
    → take_sign g stack v t r ≡ Some s
    → KnownState g text s ts
take_known g text stack v t ts s (Infix m) role taken holds is =
    let e : (start_state g (sort_of g stack), Left (sort_of g stack) m t v ∷ stack) ≡ s = cc in
    subst (λ x. KnownState g text x ts) e
    (known_start g text (sort_of g stack) (Left (sort_of g stack) m t v ∷ stack) ts refl (
      holds.us,
      (holds.pending, (refl, leb-true (level_of g stack) m taken, role, holds.current.left t m refl role)),
    ))
take_known g text stack v t ts s Postfix role taken holds is = made (g.post t v) refl is
  where
    made : (h : Option g.Tree) → g.post t v ≡ h → option_map (λ w. (Whole w, stack)) h ≡ Some s → KnownState g text s ts
    made None makes is = absurd (cc)
    made (Some h) makes is =
        let e : (Whole h, stack) ≡ s = cc in
        let read : Reads g (Operand (sort_of g stack)) holds.us h ts =
        postfixed t role makes (holds.current.post t refl role) in
        subst (λ x. KnownState g text x ts) e
        (record {
          us = holds.us;
          pending = holds.pending;
          goes = λ f rest r. whole_only g r (λ f rest. Reads g (Operand (sort_of g stack)) holds.us f rest) read;
        })
take_known g text stack v t ts s Outside role taken holds is = absurd (cc)

-- ---- a step

-- what is known behind a sign, where that is known of each operand
known_next : (g : Grammar) (text : List g.Sign) (m : Mode g.Tree g.Wait) (stack : Stack g) (t : g.Sign)
    (ts : List g.Sign) (s : State g)
    → ((v : g.Tree) → Holds g text stack v (t ∷ ts) → behind g stack v t ≡ Some s → KnownState g text s ts)
    → Known g text m stack (t ∷ ts)
    → step g m stack t ≡ Some s
    → KnownState g text s ts
known_next g text (Whole v) stack t ts s later known is = later v (known_holds g text v stack (t ∷ ts) known) is
known_next g text (More q) stack t ts s later known is =
    enter_known g text stack t (g.shift q t) known.us ts s known.pending (λ f rest r. known.goes f rest (sign r)) is

frame_known : (g : Grammar) (text : List g.Sign) (fr : Frame g) (stack : Stack g) (v : g.Tree) (t : g.Sign)
    (ts : List g.Sign) (s : State g)
    → ((v : g.Tree) → Holds g text stack v (t ∷ ts) → behind g stack v t ≡ Some s → KnownState g text s ts)
    → Holds g text (fr ∷ stack) v (t ∷ ts)
    → takes g (frame_sort g fr) (frame_level g fr) (Some t) ≡ false
    → step g (popped g fr v) stack t ≡ Some s
    → KnownState g text s ts
frame_known g text (Held k) stack v t ts s later holds untaken is =
    known_next g text (g.resume k v) stack t ts s later (pop_held g text k stack v (t ∷ ts) holds untaken) is
frame_known g text (Left x m o u) stack v t ts s later holds untaken is =
    later (g.join o u v) (pop_left g text x m o u stack v (t ∷ ts) holds untaken) is

taken_zero : (r : Role) (g : Grammar) (v : g.Tree) (t : g.Sign) (s : State g)
    → take_sign g [] v t r ≡ Some s
    → role_takes 0 r ≡ true
taken_zero (Infix m) g v t s is = Rattle.std.proofs.Common.le-leb 0 m (omega arith)
taken_zero Postfix g v t s is = refl
taken_zero Outside g v t s is = absurd (cc)

pub behind_known : (g : Grammar) (text : List g.Sign) (stack : Stack g) (v : g.Tree) (t : g.Sign) (ts : List g.Sign)
    (s : State g)
    → Holds g text stack v (t ∷ ts)
    → behind g stack v t ≡ Some s
    → KnownState g text s ts
behind_known g text [] v t ts s holds is =
    take_known g text [] v t ts s (g.role g.whole t) refl (taken_zero (g.role g.whole t) g v t s is) holds is
behind_known g text (fr ∷ stack) v t ts s holds is =
    ⊎_elim
    (λ (taken : takes g (frame_sort g fr) (frame_level g fr) (Some t) ≡ true). take_known g text (fr ∷ stack) v t ts s
    (g.role (frame_sort g fr) t) refl taken holds (sym (behind-taken g (fr ∷ stack) v t taken) ∙ is))
    (λ (untaken : takes g (frame_sort g fr) (frame_level g fr) (Some t) ≡ false). frame_known g text fr stack v t ts s
    (λ w h e. behind_known g text stack w t ts s h e) holds untaken
    (sym (behind-popped g fr stack v t untaken) ∙ is))
    (cases_Bool (takes g (frame_sort g fr) (frame_level g fr) (Some t)))

pub known_step : (g : Grammar) (text : List g.Sign) (m : Mode g.Tree g.Wait) (stack : Stack g) (t : g.Sign)
    (ts : List g.Sign) (s : State g)
    → Known g text m stack (t ∷ ts)
    → step g m stack t ≡ Some s
    → KnownState g text s ts
known_step g text m stack t ts s known is =
    known_next g text m stack t ts s (λ v h e. behind_known g text stack v t ts s h e) known is

-- ---- the end

known_end : (g : Grammar) (text : List g.Sign) (m : Mode g.Tree g.Wait) (stack : Stack g) (f : g.Tree)
    → ((v : g.Tree) → Holds g text stack v [] → close g stack v ≡ Some f → StandsFor g text f)
    → Known g text m stack []
    → whole_of (close g stack) m ≡ Some f
    → StandsFor g text f
known_end g text (Whole v) stack f later known is = later v (known_holds g text v stack [] known) is
known_end g text (More q) stack f later known is = absurd (cc)

pub close_stands : (g : Grammar) (text : List g.Sign) (stack : Stack g) (v f : g.Tree)
    → Holds g text stack v []
    → close g stack v ≡ Some f
    → StandsFor g text f
close_stands g text [] v f holds is =
    let e : v ≡ f = cc in
    let read : Reads g (Level g.whole 0) holds.us v [] = holds.current.base in
    subst (λ h. Reads g (Level g.whole 0) text h []) e
    (subst (λ ts. Reads g (Level g.whole 0) ts v []) holds.pending read)
close_stands g text (Held k ∷ stack) v f holds is =
    known_end g text (g.resume k v) stack f (λ w h e. close_stands g text stack w f h e)
    (pop_held g text k stack v [] holds refl) is
close_stands g text (Left s m o u ∷ stack) v f holds is =
    close_stands g text stack (g.join o u v) f (pop_left g text s m o u stack v [] holds refl) is

parse_more : (g : Grammar) (text ts : List g.Sign) (f : g.Tree) (o : Option (State g))
    → ((s : State g) → o ≡ Some s → parse g s.0 s.1 ts ≡ Some f → StandsFor g text f)
    → option_and_then (λ s. parse g s.0 s.1 ts) o ≡ Some f
    → StandsFor g text f
parse_more g text ts f None later is = absurd (cc)
parse_more g text ts f (Some s) later is = later s refl is

pub sound : (g : Grammar) (text : List g.Sign) (m : Mode g.Tree g.Wait) (stack : Stack g) (ts : List g.Sign)
    (f : g.Tree)
    → Known g text m stack ts
    → parse g m stack ts ≡ Some f
    → StandsFor g text f
sound g text m stack [] f known is = known_end g text m stack f (λ v h e. close_stands g text stack v f h e) known is
sound g text m stack (t ∷ ts) f known is =
    parse_more g text ts f (step g m stack t)
    (λ s e read. sound g text s.0 s.1 ts f (known_step g text m stack t ts s known e) read) is

pub stands : (g : Grammar) (ts : List g.Sign) (f : g.Tree)
    → parse g (start_state g g.whole) [] ts ≡ Some f
    → StandsFor g ts f
stands g ts f is = sound g ts (start_state g g.whole) [] ts f (known_start g ts g.whole [] ts refl refl) is
