-- The grammar of LTL texts with bounds is the one of the tables.
--
--   tight     == no operand of the level of pun goes on
--   tabled    == what the grammar reads, the tables read
--   untabled  == what the tables read, the grammar reads
use Rattle.std.proofs.Common.{◌≡◌, ℕ, ◌≤◌, Bool, true, false, nat_le, if◌then◌else◌, List, [], ◌∷◌, Option, Some, None, refl, sym, subst, arith}
use Rattle.std.proofs.lemmas.Bool.{le-leb, leb-true}
use Rattle.ml_text.specs.declared.token.Operator.TheVariants as operator
use Rattle.ml_text.specs.Grammar as tables
use Rattle.ml_text.specs.Grammar.{Whole, More, Read, Inner, Opens, Part, Rest, Behind, postfixed}
use Rattle.ml_text.specs.Grammar.{form, whole, sign, read, inner, opens, takes, front}
use Rattle.ml_text.specs.declared.forms.Role.TheVariants.{Infix}
use Rattle.ml_text.specs.Operators.{operator_level}
use Rattle.ml_text.specs.Levels.{Level, Joined, Tight}
use Rattle.ml_text.proofs.LevelNumbers.{number, level_of, GroupsConnectives, tighter_above, left_below, right_below}
use Rattle.ml_text.proofs.LevelNumbers.{joined_is, left_is, right_is, loosened, from_top}
use Rattle.ml_ctl.specs.declared.term.Tense.{Tense}
use Rattle.ml_ctl.specs.declared.term.Tense.TheVariants as tense
use Rattle.ml_bounded.specs.Formula as plain
use Rattle.ml_bounded.specs.Formula.{Formula}
use Rattle.ml_bounded.specs.declared.term.Bound.{Bound}
use Rattle.ml_bounded.specs.declared.term.Bound.TheVariants.{Within}
use Rattle.ml_bounded.specs.declared.term.Reach.{Reach}
use Rattle.ml_bounded.specs.declared.term.Reach.TheVariants.{Eventually, Always}
use Rattle.ml_text.specs.declared.named_signs.Sign.TheVariants.{Not, Connective, Const, Open, Close, Lower, Added}
use Rattle.ml_bounded.specs.Signs.{Sign}
use Rattle.ml_bounded.specs.declared.signs.Own.TheVariants.{Tensed, Pairs, Opening, Closing, Between, Number, Digit}
use Rattle.ml_bounded.specs.Grammar as grammar
use Rattle.ml_bounded.specs.Grammar.{ReadsDigits, last, digit, ReadsNumber, tense_of, ReadsBound, Reads}
use Rattle.ml_bounded.specs.Grammar.{alone, joined, pair_alone, pair, negation, temporal, bounded, group, constant, proposition}
use Rattle.ml_bounded.specs.private.Tables.{Wait, Start, BehindInside, BehindTense, BehindOpening, BehindFirst}
use Rattle.ml_bounded.specs.private.Tables.{BehindBetween, BehindLast}
use Rattle.ml_bounded.specs.private.Tables.{BoundedTurn, shift, level, resume, role, join, bounded_grammar}
use Rattle.ml_bounded.specs.declared.forms.Hold.{Hold}
use Rattle.ml_bounded.specs.declared.forms.Hold.TheVariants.{Negation, Tensing, Bounding, Group}

-- what the tables read
abbrev pub Tabled : Part bounded_grammar → List Sign → Formula → List Sign → Type 0
Tabled p ts f rest = tables.Reads bounded_grammar p ts f rest

abbrev pub Awaits : Wait → List Sign → Formula → List Sign → Type 0
Awaits q ts f rest = Tabled (Rest (More q)) ts f rest

-- ---- no operand of the level of pun goes on

pub tight : (n : Option Sign) → takes bounded_grammar tt 5 n ≡ false
tight None = refl
tight (Some (Connective operator.Iff)) = refl
tight (Some (Connective operator.Implies)) = refl
tight (Some (Connective operator.Or)) = refl
tight (Some (Connective operator.And)) = refl
tight (Some (Added (Pairs p))) = refl
tight (Some _) = refl

-- ---- from the grammar to the tables

pub groups : GroupsConnectives bounded_grammar tt
groups operator.Iff = refl
groups operator.Implies = refl
groups operator.Or = refl
groups operator.And = refl

-- a sign of a form, by what it does
pub sign_by : {q : Wait} {t : Sign} {ts rest : List Sign} {f : Formula} (turn : Option BoundedTurn)
    → shift q t ≡ turn
    → Tabled (Behind t turn) ts f rest
    → Awaits q (t ∷ ts) f rest
sign_by {q} {t} {ts} {rest} {f} turn is r = sign (subst (λ x. Tabled (Behind t x) ts f rest) (sym is) r)

-- an operand begins with no bracket
abbrev pub BeginsOperand : List Sign → Type 0
BeginsOperand [] = ⊥
BeginsOperand (Added Opening ∷ ts) = ⊥
BeginsOperand (_ ∷ ts) = Unit {0}

bound_begins : {b : Bound} {ts us : List Sign} → ReadsBound b ts us → BeginsOperand ts
bound_begins (grammar.next n r) = tt
bound_begins (grammar.within Eventually m n le a b) = tt
bound_begins (grammar.within Always m n le a b) = tt

begins : {l : Level} {ts rest : List Sign} {f : Formula} → Reads l ts f rest → BeginsOperand ts
begins (alone o r) = begins r
begins (joined o a b) = begins a
begins (pair_alone r) = begins r
begins (pair p a b) = begins a
begins (negation r) = tt
begins (temporal t r) = tt
begins (bounded b is r) = bound_begins is
begins (group r) = tt
begins (constant b) = tt
begins (proposition p) = tt

operand_opens : (t : Tense) (u : Sign) (us : List Sign)
    → BeginsOperand (u ∷ us)
    → shift (BehindTense t) u ≡ Some (Opens (Tensing t))
operand_opens t (Added Opening) us is = absurd is
operand_opens t _ us is = refl

tense_read : (t : Tense) (ts rest : List Sign) (f : Formula)
    → BeginsOperand ts
    → Tabled (tables.Level tt 5) ts f rest
    → Awaits (BehindTense t) ts (plain.Temporal t f) rest
tense_read t [] rest f is r = absurd is
tense_read t (u ∷ us) rest f is r =
    sign_by (Some (Opens (Tensing t))) (operand_opens t u us is) (opens r (tight (front rest)) whole)

-- the digits of a number behind its first one
last_digits : {b : Bound} {ts us rest : List Sign} {f : Formula}
    → ReadsDigits ts us
    → Awaits (BehindLast b) us f rest
    → Awaits (BehindLast b) ts f rest
last_digits last r = r
last_digits (digit d) r = sign (read (last_digits d r))

first_digits : {e : Reach} {m : ℕ} {ts us rest : List Sign} {f : Formula}
    → ReadsDigits ts us
    → Awaits (BehindFirst e m) us f rest
    → Awaits (BehindFirst e m) ts f rest
first_digits last r = r
first_digits (digit d) r = sign (read (first_digits d r))

-- what a second number does, by whether it is no less than the first
abbrev Second : Reach → ℕ → ℕ → Bool → Option BoundedTurn
Second e m n b = if b then Some (Read (More (BehindLast (Within e m n)))) else None

second_shifts : (e : Reach) (m n : ℕ) (b : Bool)
    → b ≡ true
    → Second e m n b ≡ Some (Read (More (BehindLast (Within e m n))))
second_shifts e m n true is = refl
second_shifts e m n false is = absurd (cc)

pub second_number : {e : Reach} {m n : ℕ} {ts rest : List Sign} {f : Formula}
    → m ≤ n
    → Awaits (BehindLast (Within e m n)) ts f rest
    → Awaits (BehindBetween e m) (Added (Number n) ∷ ts) f rest
second_number {e} {m} {n} le r =
    sign_by (Some (Read (More (BehindLast (Within e m n))))) (second_shifts e m n (nat_le m n) (le-leb m n le)) (read r)

first_number : {e : Reach} {m n : ℕ} {ts us rest : List Sign} {f : Formula}
    → m ≤ n
    → ReadsNumber m ts (Added Between ∷ us)
    → Awaits (BehindBetween e m) us f rest
    → Awaits (BehindOpening (tense_of e)) ts f rest
first_number {e = Eventually} le (grammar.number m d) r = sign (read (first_digits d (sign (read r))))
first_number {e = Always} le (grammar.number m d) r = sign (read (first_digits d (sign (read r))))

last_number : {e : Reach} {m n : ℕ} {us vs rest : List Sign} {f : Formula}
    → m ≤ n
    → ReadsNumber n us vs
    → Awaits (BehindLast (Within e m n)) vs f rest
    → Awaits (BehindBetween e m) us f rest
last_number le (grammar.number n d) r = second_number le (last_digits d r)

bound_read : {b : Bound} {ts us rest : List Sign} {f : Formula}
    → ReadsBound b ts us
    → Awaits (BehindLast b) (Added Closing ∷ us) f rest
    → Awaits Start ts f rest
bound_read (grammar.next n (grammar.number k d)) r = sign (read (sign (read (sign (read (last_digits d r))))))
bound_read (grammar.within e m n le a b) r =
    sign (read (sign (read (first_number le a (last_number le b r)))))

-- what is read at a level, the tables read at each number up to that of the level
pub tabled : {l : Level} {ts rest : List Sign} {f : Formula}
    → Reads l ts f rest
    → (n : ℕ)
    → n ≤ number l
    → Tabled (tables.Level tt n) ts f rest
tabled (alone o r) n le = tabled r n (omega (arith, tighter_above o))
tabled (joined o a b) n le =
    let m = operator_level o in
    tables.joined (Connective o) m refl le
    (tabled a (tables.left_level bounded_grammar tt m) (left_below bounded_grammar tt groups o))
    (tabled b (tables.right_level bounded_grammar tt m) (right_below bounded_grammar tt groups o))
tabled (pair_alone r) n le = tabled r n (omega arith)
tabled (pair p a b) n le =
    tables.joined (Added (Pairs p)) 4 refl le (tabled a 5 (omega arith)) (tabled b 4 (omega arith))
tabled (negation {rest = rest} r) n le =
    tables.alone (form (sign (inner (tabled r 5 (omega arith)) (tight (front rest)) whole)))
tabled (temporal {ts = ts} {rest = rest} {f = f} t r) n le =
    tables.alone (form (sign (read (tense_read t ts rest f (begins r) (tabled r 5 (omega arith))))))
tabled (bounded {rest = rest} b is r) n le =
    tables.alone (form (bound_read is (sign (inner (tabled r 5 (omega arith)) (tight (front rest)) whole))))
tabled (group r) n le = tables.alone (form (sign (inner (tabled r 0 (omega arith)) refl (sign (read whole)))))
tabled (constant b) n le = tables.alone (form (sign (read whole)))
tabled (proposition p) n le = tables.alone (form (sign (read whole)))

-- ---- from the tables to the grammar

-- signs behind a letter and `[`
abbrev pub before : Tense → List Sign → List Sign
before t ts = Added (Tensed t) ∷ Added Opening ∷ ts

-- what the rest of a form makes of the signs that were read of it
abbrev pub Completes : Wait → List Sign → Formula → List Sign → Type 0
Completes Start ts f rest = Reads Tight ts f rest
Completes (BehindInside h) ts f rest =
    (us : List Sign)
    → Reads (Joined operator.Iff) us h ts
    → Reads Tight (Open ∷ us) f rest
Completes (BehindTense t) ts f rest = Reads Tight (Added (Tensed t) ∷ ts) f rest
Completes (BehindOpening t) ts f rest = Reads Tight (before t ts) f rest
Completes (BehindFirst e m) ts f rest =
    (us : List Sign)
    → ReadsDigits us ts
    → Reads Tight (before (tense_of e) (Added (Number m) ∷ us)) f rest
Completes (BehindBetween e m) ts f rest =
    (us : List Sign)
    → ReadsNumber m us (Added Between ∷ ts)
    → Reads Tight (before (tense_of e) us) f rest
Completes (BehindLast b) ts f rest =
    (us vs : List Sign)
    → ReadsDigits vs ts
    → ((ws : List Sign) → ReadsDigits vs (Added Closing ∷ ws) → ReadsBound b us ws)
    → Reads Tight us f rest

-- a held operand with what its form makes of it
abbrev pub Enters : Hold → List Sign → Formula → List Sign → Type 0
Enters Negation ts f rest = (h : Formula) × (plain.Not h ≡ f) × Reads Tight ts h rest
Enters (Tensing t) ts f rest = (h : Formula) × (plain.Temporal t h ≡ f) × Reads Tight ts h rest
Enters (Bounding b) ts f rest = (h : Formula) × (plain.Bounded b h ≡ f) × Reads Tight ts h rest
Enters Group ts f rest = Reads Tight (Open ∷ ts) f rest

abbrev pub OfMode : tables.Mode Formula Wait → List Sign → Formula → List Sign → Type 0
OfMode (Whole h) ts f rest = (h ≡ f) × (ts ≡ rest)
OfMode (More q) ts f rest = Completes q ts f rest

abbrev pub OfTurn : Sign → Option BoundedTurn → List Sign → Formula → List Sign → Type 0
OfTurn t None ts f rest = ⊥
OfTurn t (Some (Read m)) ts f rest = OfMode m ts f rest
OfTurn t (Some (Inner k)) ts f rest = Enters k ts f rest
OfTurn t (Some (Opens k)) ts f rest = Enters k (t ∷ ts) f rest

abbrev pub Untabled : Part bounded_grammar → List Sign → Formula → List Sign → Type 0
Untabled (tables.Level s n) ts f rest = Reads (level_of Tight n) ts f rest
Untabled (tables.Operand s) ts f rest = Reads Tight ts f rest
Untabled (Rest m) ts f rest = OfMode m ts f rest
Untabled (Behind t turn) ts f rest = OfTurn t turn ts f rest

-- what is read, by another name
as_read : {ts us rest : List Sign} {f g : Formula} → Reads Tight ts f us → f ≡ g → us ≡ rest → Reads Tight ts g rest
as_read {ts} {us} {rest} {f} r e d = subst (λ h. Reads Tight ts h rest) e (subst (λ vs. Reads Tight ts f vs) d r)

one_digit_more : {us ts : List Sign} → ReadsDigits us (Added Digit ∷ ts) → ReadsDigits us ts
one_digit_more last = digit last
one_digit_more (digit d) = digit (one_digit_more d)

-- the first number in the brackets
number_completes : (t : Tense) (n : ℕ) (ts rest : List Sign) (f : Formula)
    → OfTurn (Added (Number n)) (shift (BehindOpening t) (Added (Number n))) ts f rest
    → Reads Tight (before t (Added (Number n) ∷ ts)) f rest
number_completes tense.Next n ts rest f r =
    r (before tense.Next (Added (Number n) ∷ ts)) ts last (λ ws d. grammar.next n (grammar.number n d))
number_completes tense.Finally n ts rest f r = r ts last
number_completes tense.Globally n ts rest f r = r ts last

-- the second one
second_completes : (e : Reach) (m n : ℕ) (ts rest : List Sign) (f : Formula) (b : Bool)
    → nat_le m n ≡ b
    → OfTurn (Added (Number n)) (Second e m n b) ts f rest
    → Completes (BehindBetween e m) (Added (Number n) ∷ ts) f rest
second_completes e m n ts rest f true is r =
    λ us a. r (before (tense_of e) us) ts last (λ ws d. grammar.within e m n (leb-true m n is) a (grammar.number n d))
second_completes e m n ts rest f false is r = absurd r

sign_completes : (q : Wait) (t : Sign) (ts rest : List Sign) (f : Formula)
    → OfTurn t (shift q t) ts f rest
    → Completes q (t ∷ ts) f rest
sign_completes Start Not ts rest f r = as_read (negation r.2) r.1 refl
sign_completes Start (Const b) ts rest f r = as_read (constant b) r.0 r.1
sign_completes Start (Lower p) ts rest f r = as_read (proposition p) r.0 r.1
sign_completes Start Open ts rest f r = r
sign_completes Start (Added (Tensed t)) ts rest f r = r
sign_completes Start _ ts rest f r = absurd r
sign_completes (BehindInside h) Close ts rest f r =
    λ us a. subst (λ x. Reads Tight (Open ∷ us) x rest) r.0
    (group (subst (λ vs. Reads (Joined operator.Iff) us h (Close ∷ vs)) r.1 a))
sign_completes (BehindInside h) _ ts rest f r = absurd r
sign_completes (BehindTense t) (Added Opening) ts rest f r = r
sign_completes (BehindTense t) _ ts rest f r = as_read (temporal t r.2) r.1 refl
sign_completes (BehindOpening t) (Added (Number n)) ts rest f r = number_completes t n ts rest f r
sign_completes (BehindOpening t) _ ts rest f r = absurd r
sign_completes (BehindFirst e m) (Added Digit) ts rest f r = λ us d. r us (one_digit_more d)
sign_completes (BehindFirst e m) (Added Between) ts rest f r = λ us d. r (Added (Number m) ∷ us) (grammar.number m d)
sign_completes (BehindFirst e m) _ ts rest f r = absurd r
sign_completes (BehindBetween e m) (Added (Number n)) ts rest f r = second_completes e m n ts rest f (nat_le m n) refl r
sign_completes (BehindBetween e m) _ ts rest f r = absurd r
sign_completes (BehindLast b) (Added Digit) ts rest f r = λ us vs d make. r us vs (one_digit_more d) make
sign_completes (BehindLast b) (Added Closing) ts rest f r = λ us vs d make. as_read (bounded b (make ts d) r.2) r.1 refl
sign_completes (BehindLast b) _ ts rest f r = absurd r

inner_enters : (k : Hold) (ts us rest : List Sign) (v f : Formula)
    → Untabled (tables.Level tt (level k)) ts v us
    → OfMode (resume k v) us f rest
    → Enters k ts f rest
inner_enters Negation ts us rest v f a r = (v, r.0, subst (λ vs. Reads Tight ts v vs) r.1 a)
inner_enters (Tensing t) ts us rest v f a r = (v, r.0, subst (λ vs. Reads Tight ts v vs) r.1 a)
inner_enters (Bounding b) ts us rest v f a r = (v, r.0, subst (λ vs. Reads Tight ts v vs) r.1 a)
inner_enters Group ts us rest v f a r = r ts a

joined_back : (o : Sign) (n : ℕ) (ts us rest : List Sign) (f h : Formula)
    → role o ≡ Infix n
    → Untabled (tables.Level tt (tables.left_level bounded_grammar tt n)) ts f (o ∷ us)
    → Untabled (tables.Level tt (tables.right_level bounded_grammar tt n)) us h rest
    → Untabled (tables.Level tt n) ts (join o f h) rest
joined_back (Connective o) n ts us rest f h is a b =
    let same : operator_level o ≡ n = cc in
    subst (λ l. Reads l ts (plain.Binary o f h) rest) (sym (joined_is Tight o n same))
    (joined o
    (subst (λ l. Reads l ts f (Connective o ∷ us)) (left_is bounded_grammar tt groups Tight o n same) a)
    (subst (λ l. Reads l us h rest) (right_is bounded_grammar tt groups Tight o n same) b))
joined_back (Added (Pairs p)) n ts us rest f h is a b =
    let same : n ≡ 4 = cc in
    let left = subst (λ m. Reads (level_of Tight (tables.left_level bounded_grammar tt m)) ts f (Added (Pairs p) ∷ us)) same a in
    let right = subst (λ m. Reads (level_of Tight (tables.right_level bounded_grammar tt m)) us h rest) same b in
    subst (λ m. Reads (level_of Tight m) ts (plain.Paired p f h) rest) (sym same) (pair p left right)
joined_back _ n ts us rest f h is a b = absurd (cc)

pub untabled : {p : Part bounded_grammar} {ts rest : List Sign} {f : Formula}
    → Tabled p ts f rest
    → Untabled p ts f rest
untabled (tables.alone {l = n} {ts = ts} {rest = rest} {f = f} r) =
    from_top Tight (λ l. Reads l ts f rest) alone pair_alone n (untabled r)
untabled (tables.joined {l = n} {ts = ts} {us = us} {rest = rest} {f = f} {h = h} o m is le a b) =
    loosened Tight (λ l. Reads l ts (join o f h) rest) alone pair_alone n m le
    (joined_back o m ts us rest f h is (untabled a) (untabled b))
untabled (postfixed o is makes r) = absurd (cc)
untabled (form r) = untabled r
untabled whole = (refl, refl)
untabled (sign {q = q} {t = t} {ts = ts} {rest = rest} {f = f} r) = sign_completes q t ts rest f (untabled r)
untabled (read r) = untabled r
untabled (inner {k = k} {ts = ts} {us = us} {rest = rest} {v = v} {f = f} a un b) =
    inner_enters k ts us rest v f (untabled a) (untabled b)
untabled (opens {t = t} {k = k} {ts = ts} {us = us} {rest = rest} {v = v} {f = f} a un b) =
    inner_enters k (t ∷ ts) us rest v f (untabled a) (untabled b)
