-- Signs that the machine gets behind begin a text, and signs at which it fails begin none.
--
--   Closing g stack v  == signs that end a text behind the operand v, and that no operand takes
--   run-parse          == parsing signs and more is parsing more behind the signs
--   viable             == what is run begins a text
--   not_viable         == what isn't run begins none
use Rattle.std.proofs.Common.{◌≡◌, List, [], ◌∷◌, ◌++◌, Option, Some, None, refl, ◌∙◌, ap}
use Rattle.std.specs.Prelude.{option_and_then}
use Rattle.ml_text.specs.Grammar.{Grammar, Mode, Whole, More, front, StandsFor, IsRegular, IsStop, Ending, IsCompletable}
use Rattle.ml_text.specs.Refusals.{BeginsText}
use Rattle.ml_text.specs.private.Machine.{Held, Left, Stack, State, start_state, step, parse, run}
use Rattle.ml_text.proofs.Complete.{pop, complete, found}
use Rattle.ml_text.proofs.Sound.{stands}

pub record Completed (g : Grammar) (m : Mode g.Tree g.Wait) (stack : Stack g) : Type 0 where
  pub more : List g.Sign
  pub tree : g.Tree
  pub stops : IsStop g (front more)
  pub is : parse g m stack more ≡ Some tree

-- a form that is begun is ended, and then the stack closed
ended : (g : Grammar)
    → IsRegular g
    → (q : g.Wait) (stack : Stack g) (e : Ending g q)
    → (closed : Completed g (Whole e.tree) stack)
    → parse g (More q) stack (e.signs ++ closed.more) ≡ Some closed.tree
ended g regular q stack e closed = complete g regular (e.reads closed.more closed.stops) stack ∙ closed.is

held_closing : (g : Grammar)
    → IsRegular g
    → (completable : IsCompletable g)
    → (k : g.Hold) (v : g.Tree) (stack : Stack g)
    → ((w : g.Tree) → Completed g (Whole w) stack)
    → (m : Mode g.Tree g.Wait)
    → g.resume k v ≡ m
    → Completed g (Whole v) (Held k ∷ stack)
held_closing g regular completable k v stack later (Whole w) resumed =
    let closed : Completed g (Whole w) stack = later w in
    record {
      more = closed.more;
      tree = closed.tree;
      stops = closed.stops;
      is = pop g (Held k) stack v closed.more (closed.stops (g.sort k) (g.level k))
          ∙ ap (λ m. parse g m stack closed.more) resumed ∙ closed.is;
    }
held_closing g regular completable k v stack later (More q) resumed =
    let e : Ending g q = completable.ending q in
    let closed : Completed g (Whole e.tree) stack = later e.tree in
    let stops : IsStop g (front (e.signs ++ closed.more)) = completable.closes k v q resumed closed.more in
    record {
      more = e.signs ++ closed.more;
      tree = closed.tree;
      stops = stops;
      is = pop g (Held k) stack v (e.signs ++ closed.more) (stops (g.sort k) (g.level k))
          ∙ ap (λ m. parse g m stack (e.signs ++ closed.more)) resumed ∙ ended g regular q stack e closed;
    }

pub closing : (g : Grammar)
    → IsRegular g
    → IsCompletable g
    → (stack : Stack g) (v : g.Tree)
    → Completed g (Whole v) stack
closing g regular completable [] v = record { more = []; tree = v; stops = λ s l. refl; is = refl }
closing g regular completable (Held k ∷ stack) v =
    held_closing g regular completable k v stack (λ w. closing g regular completable stack w) (g.resume k v) refl
closing g regular completable (Left s m o u ∷ stack) v =
    let closed : Completed g (Whole (g.join o u v)) stack = closing g regular completable stack (g.join o u v) in
    record {
      more = closed.more;
      tree = closed.tree;
      stops = closed.stops;
      is = pop g (Left s m o u) stack v closed.more (closed.stops s _) ∙ closed.is;
    }

-- signs that end the text behind any state
pub record Ended (g : Grammar) (m : Mode g.Tree g.Wait) (stack : Stack g) : Type 0 where
  pub more : List g.Sign
  pub tree : g.Tree
  pub is : parse g m stack more ≡ Some tree

pub every_state_ends : (g : Grammar)
    → IsRegular g
    → IsCompletable g
    → (m : Mode g.Tree g.Wait) (stack : Stack g)
    → Ended g m stack
every_state_ends g regular completable (Whole v) stack =
    let closed : Completed g (Whole v) stack = closing g regular completable stack v in
    record { more = closed.more; tree = closed.tree; is = closed.is }
every_state_ends g regular completable (More q) stack =
    let e : Ending g q = completable.ending q in
    let closed : Completed g (Whole e.tree) stack = closing g regular completable stack e.tree in
    record { more = e.signs ++ closed.more; tree = closed.tree; is = ended g regular q stack e closed }

run-parse_by : (g : Grammar) (ts us : List g.Sign) (o : Option (State g))
    → ((s : State g) → parse g s.0 s.1 (ts ++ us) ≡ option_and_then (λ s. parse g s.0 s.1 us) (run g s.0 s.1 ts))
    → option_and_then (λ s. parse g s.0 s.1 (ts ++ us)) o
    ≡ option_and_then (λ s. parse g s.0 s.1 us) (option_and_then (λ s. run g s.0 s.1 ts) o)
run-parse_by g ts us None later = refl
run-parse_by g ts us (Some s) later = later s

pub run-parse : (g : Grammar) (m : Mode g.Tree g.Wait) (stack : Stack g) (ts us : List g.Sign)
    → parse g m stack (ts ++ us) ≡ option_and_then (λ s. parse g s.0 s.1 us) (run g m stack ts)
run-parse g m stack [] us = refl
run-parse g m stack (t ∷ ts) us = run-parse_by g ts us (step g m stack t) (λ s. run-parse g s.0 s.1 ts us)

pub viable : (g : Grammar)
    → IsRegular g
    → IsCompletable g
    → (ts : List g.Sign) (s : State g)
    → run g (start_state g g.whole) [] ts ≡ Some s
    → BeginsText (StandsFor g) ts
viable g regular completable ts s is =
    let end : Ended g s.0 s.1 = every_state_ends g regular completable s.0 s.1 in (
      end.more,
      end.tree,
      stands g (ts ++ end.more) end.tree
          (run-parse g (start_state g g.whole) [] ts end.more
          ∙ ap (option_and_then (λ (x : State g). parse g x.0 x.1 end.more)) is ∙ end.is),
    )

pub not_viable : (g : Grammar)
    → IsRegular g
    → (ts : List g.Sign)
    → run g (start_state g g.whole) [] ts ≡ None
    → BeginsText (StandsFor g) ts
    → ⊥
not_viable g regular ts is goes =
    let read = found g regular (ts ++ goes.0) goes.1 goes.2 in
    let fails = run-parse g (start_state g g.whole) [] ts goes.0
    ∙ ap (option_and_then (λ (x : State g). parse g x.0 x.1 goes.0)) is in
    cc

-- one sign more
run-last_by : (g : Grammar) (ts : List g.Sign) (t : g.Sign) (o : Option (State g))
    → ((s : State g) → run g s.0 s.1 (ts ++ t ∷ []) ≡ option_and_then (λ s. step g s.0 s.1 t) (run g s.0 s.1 ts))
    → option_and_then (λ s. run g s.0 s.1 (ts ++ t ∷ [])) o
    ≡ option_and_then (λ s. step g s.0 s.1 t) (option_and_then (λ s. run g s.0 s.1 ts) o)
run-last_by g ts t None later = refl
run-last_by g ts t (Some s) later = later s

run-one : {g : Grammar} (o : Option (State g)) → option_and_then (λ (s : State g). Some s) o ≡ o
run-one None = refl
run-one (Some s) = refl

pub run-last : (g : Grammar) (m : Mode g.Tree g.Wait) (stack : Stack g) (ts : List g.Sign) (t : g.Sign)
    → run g m stack (ts ++ t ∷ []) ≡ option_and_then (λ s. step g s.0 s.1 t) (run g m stack ts)
run-last g m stack [] t = run-one {g = g} (step g m stack t)
run-last g m stack (u ∷ ts) t = run-last_by g ts t (step g m stack u) (λ s. run-last g s.0 s.1 ts t)
