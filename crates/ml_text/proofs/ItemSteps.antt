-- What comes of an item, by what the program finds there.
--
--   item_stuck    == no text goes on with it
--   item_limited  == some text does, and a limit is passed
--   item_goes     == the item keeps the limits: what comes is what comes of the rest
--   unlimited     == what it is to keep them
--   stuck_like, limited_like, goes_as == the same, where the step was taken with a sign that is like the item's
--   short_bytes   == the name of a token that is not too long is made of all its bytes
use Rattle.std.proofs.Common.{◌≡◌, ℕ, ◌+◌, ◌-◌, ◌≤◌, Bool, true, false, nat_lt, List, [], ◌∷◌, ◌++◌, append_assoc, Option, Some, None, is_some, refl, sym, ◌∙◌, ap, subst, cond, ltb-false, take, drop}
use Rattle.std.specs.Option.{option_map}
use Rattle.ml_base.specs.declared.parse_refusal.ParseRefusal.{ParseRefusal}
use Rattle.ml_text.specs.Grammar.{Grammar, Mode}
use Rattle.ml_text.specs.Items.{bytes_of, is_long_word}
use Rattle.ml_text.specs.NotedItems.{name_bytes}
use Rattle.ml_text.specs.Refusals.{Item, Cause, Syntax, TooMany, TooNested, NameTooLong, open_behind_one}
use Rattle.ml_text.specs.Limits.{most_occurrences, most_open}
use Rattle.ml_text.specs.private.Machine.{Stack, State, step}
use Rattle.ml_text.specs.private.Progress.{IsRefusal, refusal_of, limit_refusal}
use Rattle.ml_text.specs.private.Reading.{Outcome, Refused, cause_at, next_outcome, outcome}
use Rattle.ml_text.specs.private.Tables.{IsLike}
use Rattle.ml_text.specs.declared.token.Placed.{Placed}
use Rattle.ml_text.proofs.Alike.{goes_alike}

-- what comes of the rest, behind an item
abbrev then_comes : (g : Grammar) → ℕ → ℕ → ℕ → List (Item g.Sign) → State g → Outcome g.Tree
then_comes g end count depth rest s = outcome g end s.0 s.1 count depth rest

stuck_by : {Tree S : Type 0} (next : S → Outcome Tree) (c : Option Cause) (o : Option S) (at : ℕ)
    → is_some o ≡ false
    → next_outcome next c o at ≡ Refused Syntax at
stuck_by next None None at is = refl
stuck_by next (Some c) None at is = refl
stuck_by next c (Some s) at is = absurd (cc)

pub item_stuck : (g : Grammar) (end : ℕ) (m : Mode g.Tree g.Wait) (stack : Stack g) (count depth : ℕ) (i : Item g.Sign)
    (rest : List (Item g.Sign))
    → is_some (step g m stack i.sign) ≡ false
    → outcome g end m stack count depth (i ∷ rest) ≡ Refused Syntax i.at
item_stuck g end m stack count depth i rest is =
    stuck_by (then_comes g end (count + i.weight) (open_behind_one i.bracket depth) rest)
    (cause_at (count + i.weight) (open_behind_one i.bracket depth) i.is_long) (step g m stack i.sign) i.at is

is_refusal : {Tree : Type 0} (c : Cause) (at : ℕ) (out : Outcome Tree)
    → out ≡ Refused c at
    → IsRefusal (refusal_of c at) out
is_refusal Syntax at out is = is
is_refusal TooMany at out is = is
is_refusal TooNested at out is = is
is_refusal NameTooLong at out is = is

limited_by : {Tree S : Type 0} (next : S → Outcome Tree) (c : Option Cause) (o : Option S) (at : ℕ) (e : ParseRefusal)
    → is_some o ≡ true
    → option_map (λ c. refusal_of c at) c ≡ Some e
    → IsRefusal e (next_outcome next c o at)
limited_by next c None at e some is = absurd (cc)
limited_by next None (Some s) at e some is = absurd (cc)
limited_by {Tree = Tree} next (Some c) (Some s) at e some is =
    let same : refusal_of c at ≡ e = cc in
    let out : Outcome Tree = Refused c at in
    subst (λ r. IsRefusal {Tree = Tree} r out) same (is_refusal {Tree = Tree} c at out refl)

pub item_limited : (g : Grammar) (end : ℕ) (m : Mode g.Tree g.Wait) (stack : Stack g) (count depth : ℕ)
    (i : Item g.Sign) (rest : List (Item g.Sign)) (e : ParseRefusal)
    → is_some (step g m stack i.sign) ≡ true
    → limit_refusal (count + i.weight) (open_behind_one i.bracket depth) i.is_long i.at ≡ Some e
    → IsRefusal e (outcome g end m stack count depth (i ∷ rest))
item_limited g end m stack count depth i rest e goes is =
    limited_by (then_comes g end (count + i.weight) (open_behind_one i.bracket depth) rest)
    (cause_at (count + i.weight) (open_behind_one i.bracket depth) i.is_long) (step g m stack i.sign) i.at e goes is

-- the item keeps all limits
pub record IsWithin (count depth : ℕ) (long : Bool) : Type 0 where
  pub few : count ≤ most_occurrences
  pub flat : depth ≤ most_open
  pub short : long ≡ false
  pub none : cause_at count depth long ≡ None

no_refusal : (c : Option Cause) (at : ℕ) → option_map (λ c. refusal_of c at) c ≡ None → c ≡ None
no_refusal None at is = refl
no_refusal (Some c) at is = absurd (cc)

within_by : (count depth : ℕ) (long a b : Bool)
    → nat_lt most_occurrences count ≡ a
    → nat_lt most_open depth ≡ b
    → cause_at count depth long ≡ None
    → cond a (Some TooMany) (cond b (Some TooNested) (cond long (Some NameTooLong) None)) ≡ None
    → IsWithin count depth long
within_by count depth long true b x y none is = absurd (cc)
within_by count depth long false true x y none is = absurd (cc)
within_by count depth true false false x y none is = absurd (cc)
within_by count depth false false false x y none is =
    record { few = ltb-false most_occurrences count x; flat = ltb-false most_open depth y; short = refl; none = none }

pub unlimited : (count depth : ℕ) (long : Bool) (at : ℕ)
    → limit_refusal count depth long at ≡ None
    → IsWithin count depth long
unlimited count depth long at is =
    let none = no_refusal (cause_at count depth long) at is in
    within_by count depth long (nat_lt most_occurrences count) (nat_lt most_open depth) refl refl none none

pub item_goes : (g : Grammar) (end : ℕ) (m : Mode g.Tree g.Wait) (stack : Stack g) (count depth : ℕ) (i : Item g.Sign)
    (rest : List (Item g.Sign)) (s : State g)
    → step g m stack i.sign ≡ Some s
    → IsWithin (count + i.weight) (open_behind_one i.bracket depth) i.is_long
    → outcome g end m stack count depth (i ∷ rest)
    ≡ outcome g end s.0 s.1 (count + i.weight) (open_behind_one i.bracket depth) rest
item_goes g end m stack count depth i rest s goes within =
    let next = then_comes g end (count + i.weight) (open_behind_one i.bracket depth) rest in
    ap (λ o. next_outcome next (cause_at (count + i.weight) (open_behind_one i.bracket depth) i.is_long) o i.at) goes
    ∙ ap (λ c. next_outcome next c (Some s) i.at) within.none

pub short_bytes : (text : List ℕ) (p : Placed) → is_long_word p ≡ false → name_bytes text p ≡ bytes_of text p
short_bytes text p short = ap (λ b.
    take (cond b Rattle.ml_base.specs.Name.longest_name (p.end - p.start)) (drop p.start text)) short

-- ---- with the sign that the program made, whose name may be cut

pub like_of : (g : Grammar) (named : List ℕ → g.Sign)
    → ((w o : List ℕ) → IsLike g (named w) (named o))
    → (a b : g.Sign) (whole part : List ℕ)
    → named whole ≡ a
    → b ≡ named part
    → IsLike g a b
like_of g named alike a b whole part is made =
    subst (λ x. IsLike g x b) is (subst (λ y. IsLike g (named whole) y) (sym made) (alike whole part))

pub stuck_like : (g : Grammar) (end : ℕ) (m : Mode g.Tree g.Wait) (stack : Stack g) (count depth : ℕ) (i : Item g.Sign)
    (rest : List (Item g.Sign)) (t : g.Sign)
    → IsLike g i.sign t
    → None ≡ step g m stack t
    → outcome g end m stack count depth (i ∷ rest) ≡ Refused Syntax i.at
stuck_like g end m stack count depth i rest t like is =
    item_stuck g end m stack count depth i rest (goes_alike g i.sign t like m stack ∙ ap is_some (sym is))

pub limited_like : (g : Grammar) (end : ℕ) (m : Mode g.Tree g.Wait) (stack : Stack g) (count depth : ℕ)
    (i : Item g.Sign) (rest : List (Item g.Sign)) (t : g.Sign) (s : State g) (total open_now : ℕ) (long : Bool)
    (e : ParseRefusal)
    → IsLike g i.sign t
    → Some s ≡ step g m stack t
    → total ≡ count + i.weight
    → open_now ≡ open_behind_one i.bracket depth
    → long ≡ i.is_long
    → Some e ≡ limit_refusal total open_now long i.at
    → IsRefusal e (outcome g end m stack count depth (i ∷ rest))
limited_like g end m stack count depth i rest t s total open_now long e like goes sum deep is refused =
    item_limited g end m stack count depth i rest e (goes_alike g i.sign t like m stack ∙ ap is_some (sym goes))
    (sym (refused ∙ ap (λ n. limit_refusal n open_now long i.at) sum
    ∙ ap (λ n. limit_refusal (count + i.weight) n long i.at) deep
    ∙ ap (λ b. limit_refusal (count + i.weight) (open_behind_one i.bracket depth) b i.at) is))

pub record Kept (g : Grammar) (m : Mode g.Tree g.Wait) (stack : Stack g) (count depth : ℕ) (i : Item g.Sign)
    (s : State g) (total open_now : ℕ) : Type 0 where
  pub few : total ≤ most_occurrences
  pub flat : open_now ≤ most_open
  pub comes : (end : ℕ) (rest : List (Item g.Sign))
      → outcome g end m stack count depth (i ∷ rest) ≡ outcome g end s.0 s.1 total open_now rest

pub goes_as : (g : Grammar) (m : Mode g.Tree g.Wait) (stack : Stack g) (count depth : ℕ) (i : Item g.Sign) (t : g.Sign)
    (s : State g) (total open_now : ℕ) (long : Bool)
    → (long ≡ false → t ≡ i.sign)
    → Some s ≡ step g m stack t
    → total ≡ count + i.weight
    → open_now ≡ open_behind_one i.bracket depth
    → long ≡ i.is_long
    → None ≡ limit_refusal total open_now long i.at
    → Kept g m stack count depth i s total open_now
goes_as g m stack count depth i t s total open_now long same goes sum deep is none =
    let within : IsWithin total open_now long = unlimited total open_now long i.at (sym none) in
    let inside : IsWithin (count + i.weight) (open_behind_one i.bracket depth) i.is_long =
    subst (λ b. IsWithin (count + i.weight) (open_behind_one i.bracket depth) b) is
    (subst (λ d. IsWithin (count + i.weight) d long) deep (subst (λ n. IsWithin n open_now long) sum within)) in
    let stepped : step g m stack i.sign ≡ Some s = ap (step g m stack) (sym (same within.short)) ∙ sym goes in
    record {
      few = within.few;
      flat = within.flat;
      comes = λ end rest.
          item_goes g end m stack count depth i rest s stepped inside
          ∙ ap (λ n. outcome g end s.0 s.1 n (open_behind_one i.bracket depth) rest) (sym sum)
          ∙ ap (λ d. outcome g end s.0 s.1 total d rest) (sym deep);
    }

-- the places kept behind an item, and those of the rest
pub noted_more : (b : Bool) (at : ℕ) (places rest : List ℕ)
    → places ++ cond b (at ∷ rest) rest ≡ cond b (places ++ at ∷ []) places ++ rest
noted_more true at places rest = sym (append_assoc places (at ∷ []) rest)
noted_more false at places rest = refl
