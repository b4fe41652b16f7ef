-- What comes of tokens, within the limits or whatever they are.
--
--   led strict t go         == what follows behind a turn; beyond a limit nothing does, where it is strict
--   run strict s ts         == what the reader knows behind the tokens ts, if it reads them
--   Fits strict n most      == n keeps the limit, where it is strict
--   led_within              == what keeps a limit leads on
--   run-append              == tokens behind tokens
--   loose                   == what is read within the limits is read whatever they are
use Rattle.std.proofs.Common.{◌≡◌, ℕ, ◌<◌, ◌≤◌, Bool, true, false, nat_le, List, [], ◌∷◌, ◌++◌, Option, Some, None, refl, arith}
use Rattle.std.proofs.lemmas.Bool.Decides.{nat_tests}
use Rattle.ml_hoa.specs.Tokens.{Token}
use Rattle.ml_hoa.specs.private.Machine.{State, Turn, Next, Past, Stuck, turn, limited}

abbrev pub led : Bool → Turn → (State → Option State) → Option State
led strict (Next s) go = go s
led true (Past s) go = None
led false (Past s) go = go s
led strict Stuck go = None

abbrev pub run : Bool → State → List Token → Option State
run strict s [] = Some s
run strict s (t ∷ ts) = led strict (turn s t) (λ next. run strict next ts)

abbrev pub Fits : Bool → ℕ → ℕ → Type 0
Fits strict n most = strict ≡ true → n ≤ most

led_by : (strict b : Bool) (s : State) (go : State → Option State) → (strict ≡ true → b ≡ false)
    → led strict (limited b s) go ≡ go s
led_by true true s go not = let e : true ≡ false = not refl in absurd (cc)
led_by false true s go not = refl
led_by strict false s go not = refl

pub led_within : (strict : Bool) (most n : ℕ) (s : State) (go : State → Option State) → (strict ≡ true → n < most)
    → led strict (limited (nat_le most n) s) go ≡ go s
led_within strict most n s go fits =
    led_by strict (nat_le most n) s go (λ is. let low : n < most = fits is in let e : nat_le most n ≡ false = grind (arith, nat_tests) in e)

abbrev pub behind : Bool → Option State → List Token → Option State
behind strict None ts = None
behind strict (Some s) ts = run strict s ts

led-append : (strict : Bool) (t : Turn) (ts us : List Token)
    → ((s : State) → run strict s (ts ++ us) ≡ behind strict (run strict s ts) us)
    → led strict t (λ next. run strict next (ts ++ us)) ≡ behind strict (led strict t (λ next. run strict next ts)) us
led-append strict (Next s) ts us more = more s
led-append true (Past s) ts us more = refl
led-append false (Past s) ts us more = more s
led-append strict Stuck ts us more = refl

pub run-append : (strict : Bool) (s : State) (ts us : List Token)
    → run strict s (ts ++ us) ≡ behind strict (run strict s ts) us
run-append strict s [] us = refl
run-append strict s (t ∷ ts) us = led-append strict (turn s t) ts us (λ next. run-append strict next ts us)

led-loose : (t : Turn) (ts : List Token) (to : State)
    → ((s : State) → run true s ts ≡ Some to → run false s ts ≡ Some to)
    → led true t (λ next. run true next ts) ≡ Some to
    → led false t (λ next. run false next ts) ≡ Some to
led-loose (Next s) ts to more is = more s is
led-loose (Past s) ts to more is = absurd (cc)
led-loose Stuck ts to more is = absurd (cc)

pub loose : (s : State) (ts : List Token) (to : State) → run true s ts ≡ Some to → run false s ts ≡ Some to
loose s [] to is = is
loose s (t ∷ ts) to is = led-loose (turn s t) ts to (λ next. loose next ts to) is
