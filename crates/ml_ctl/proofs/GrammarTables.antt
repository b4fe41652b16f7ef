-- The grammar of CTL* and LTL texts is the one of the tables.
--
--   tabled    == what the grammar reads, the tables read
--   untabled  == what the tables read, the grammar reads
use Rattle.std.proofs.Common.{◌≡◌, ℕ, ◌≤◌, false, List, ◌∷◌, Option, Some, None, refl, sym, subst, arith}
use Rattle.ml_text.specs.declared.token.Operator.TheVariants as operator
use Rattle.ml_text.specs.Grammar as tables
use Rattle.ml_text.specs.Grammar.{Whole, More, Read, Inner, Opens, Part, Rest, Behind, postfixed}
use Rattle.ml_text.specs.Grammar.{form, whole, sign, read, inner, opens, takes, front}
use Rattle.ml_text.specs.declared.forms.Role.TheVariants.{Infix}
use Rattle.ml_text.specs.Operators.{operator_level}
use Rattle.ml_text.specs.Levels.{Level, Joined, Tight}
use Rattle.ml_text.proofs.LevelNumbers.{number, level_of, GroupsConnectives, tighter_above, left_below, right_below}
use Rattle.ml_text.proofs.LevelNumbers.{joined_is, left_is, right_is, loosened, from_top}
use Rattle.ml_ctl.specs.Formula as plain
use Rattle.ml_ctl.specs.Formula.{Formula}
use Rattle.ml_ctl.specs.declared.term.Tense.{Tense}
use Rattle.ml_ctl.specs.declared.term.Quantifier.{Quantifier}
use Rattle.ml_ctl.specs.declared.language.Language.{Language}
use Rattle.ml_ctl.specs.declared.language.Language.TheVariants.{Ctl, Ltl}
use Rattle.ml_text.specs.declared.named_signs.Sign.TheVariants.{Not, Connective, Const, Open, Close, Lower, Added}
use Rattle.ml_ctl.specs.Signs.{Sign}
use Rattle.ml_ctl.specs.declared.signs.Own.TheVariants.{Tensed, Pairs, Quantifies}
use Rattle.ml_ctl.specs.Grammar.{Reads, alone, joined, pair_alone, pair, negation, temporal, quantified, group, constant, proposition}
use Rattle.ml_ctl.specs.declared.language.Sort.{Sort}
use Rattle.ml_ctl.specs.declared.language.Sort.TheVariants.{State, Path}
use Rattle.ml_ctl.specs.private.Tables.{Wait, Start, BehindInside, CtlTurn, shift, resume, role, ctl_grammar}
use Rattle.ml_ctl.specs.declared.forms.Hold.{Hold}
use Rattle.ml_ctl.specs.declared.forms.Hold.TheVariants.{Negation, Tensing, Quantifying, Group}

-- what the tables read
abbrev pub Tabled : (w : Language) → Part (ctl_grammar w) → List Sign → Formula → List Sign → Type 0
Tabled w p ts f rest = tables.Reads (ctl_grammar w) p ts f rest

-- ---- no operand of the level of un goes on

pub tight : (w : Language) (s : Sort) (n : Option Sign) → takes (ctl_grammar w) s 5 n ≡ false
tight w s None = refl
tight w s (Some (Connective operator.Iff)) = refl
tight w s (Some (Connective operator.Implies)) = refl
tight w s (Some (Connective operator.Or)) = refl
tight w s (Some (Connective operator.And)) = refl
tight w State (Some (Added (Pairs p))) = refl
tight w Path (Some (Added (Pairs p))) = refl
tight w s (Some _) = refl

-- ---- from the grammar to the tables

ctl_groups : (w : Language) (s : Sort) → GroupsConnectives (ctl_grammar w) s
ctl_groups w s operator.Iff = refl
ctl_groups w s operator.Implies = refl
ctl_groups w s operator.Or = refl
ctl_groups w s operator.And = refl

-- a sign that begins an operand, by what it does
begun : (w : Language) {s : Sort} {t : Sign} {ts rest : List Sign} {f : Formula} (turn : Option CtlTurn)
    → shift w (Start s) t ≡ turn
    → Tabled w (Behind t turn) ts f rest
    → Tabled w (tables.Operand s) (t ∷ ts) f rest
begun w {s} {t} {ts} {rest} {f} turn is r = form (sign (subst (λ x. Tabled w (Behind t x) ts f rest) (sym is) r))

quantifier_begins : (w : Language) (s : Sort) (q : Quantifier)
    → w ≡ Ctl
    → shift w (Start s) (Added (Quantifies q)) ≡ Some (Inner (Quantifying q))
quantifier_begins Ctl s q is = refl
quantifier_begins Ltl s q is = absurd (cc)

quantified_read : (w : Language) {t : Sign} {ts rest : List Sign} {f : Formula} (q : Quantifier)
    → Tabled w (tables.Level Path 5) ts f rest
    → Tabled w (Behind t (Some (Inner (Quantifying q)))) ts (plain.Quantified q f) rest
quantified_read w {rest = rest} q r = inner r (tight w Path (front rest)) whole

-- what is read at a level, the tables read at each number up to that of the level
pub tabled : {w : Language} {s : Sort} {l : Level} {ts rest : List Sign} {f : Formula}
    → Reads w s l ts f rest
    → (n : ℕ)
    → n ≤ number l
    → Tabled w (tables.Level s n) ts f rest
tabled (alone o r) n le = tabled r n (omega (arith, tighter_above o))
tabled {w = w} {s = s} (joined o a b) n le =
    let m = operator_level o in
    tables.joined (Connective o) m refl le
    (tabled a (tables.left_level (ctl_grammar w) s m) (left_below (ctl_grammar w) s (ctl_groups w s) o))
    (tabled b (tables.right_level (ctl_grammar w) s m) (right_below (ctl_grammar w) s (ctl_groups w s) o))
tabled (pair_alone r) n le = tabled r n (omega arith)
tabled (pair p a b) n le =
    tables.joined (Added (Pairs p)) 4 refl le (tabled a 5 (omega arith)) (tabled b 4 (omega arith))
tabled {w = w} (negation {s = s} {rest = rest} r) n le =
    tables.alone (form (sign (inner (tabled r 5 (omega arith)) (tight w s (front rest)) whole)))
tabled {w = w} (temporal {rest = rest} t r) n le =
    tables.alone (form (sign (inner (tabled r 5 (omega arith)) (tight w Path (front rest)) whole)))
tabled {w = w} (quantified {s = s} q is r) n le =
    let body = quantified_read w q (tabled r 5 (omega arith)) in
    tables.alone (begun w (Some (Inner (Quantifying q))) (quantifier_begins w s q is) body)
tabled (group r) n le = tables.alone (form (sign (inner (tabled r 0 (omega arith)) refl (sign (read whole)))))
tabled (constant b) n le = tables.alone (form (sign (read whole)))
tabled (proposition p) n le = tables.alone (form (sign (read whole)))

-- ---- from the tables to the grammar

-- what the rest of a form makes of the signs that were read of it
abbrev pub Completes : Language → Wait → List Sign → Formula → List Sign → Type 0
Completes w (Start s) ts f rest = Reads w s Tight ts f rest
Completes w (BehindInside h) ts f rest = (s : Sort) (us : List Sign) → Reads w s (Joined operator.Iff) us h ts → Reads w s Tight (Open ∷ us) f rest

-- a held operand with what its form makes of it
abbrev pub Enters : Language → Hold → List Sign → Formula → List Sign → Type 0
Enters w (Negation s) ts f rest = (h : Formula) × (plain.Not h ≡ f) × Reads w s Tight ts h rest
Enters w (Tensing t) ts f rest = (h : Formula) × (plain.Temporal t h ≡ f) × Reads w Path Tight ts h rest
Enters w (Quantifying q) ts f rest = (h : Formula) × (plain.Quantified q h ≡ f) × Reads w Path Tight ts h rest
Enters w (Group s) ts f rest = Reads w s Tight (Open ∷ ts) f rest

abbrev pub OfMode : Language → tables.Mode Formula Wait → List Sign → Formula → List Sign → Type 0
OfMode w (Whole h) ts f rest = (h ≡ f) × (ts ≡ rest)
OfMode w (More q) ts f rest = Completes w q ts f rest

abbrev pub OfTurn : Language → Option CtlTurn → List Sign → Formula → List Sign → Type 0
OfTurn w None ts f rest = ⊥
OfTurn w (Some (Read m)) ts f rest = OfMode w m ts f rest
OfTurn w (Some (Inner k)) ts f rest = Enters w k ts f rest
OfTurn w (Some (Opens k)) ts f rest = Unit {0}

abbrev pub Untabled : (w : Language) → Part (ctl_grammar w) → List Sign → Formula → List Sign → Type 0
Untabled w (tables.Level s n) ts f rest = Reads w s (level_of Tight n) ts f rest
Untabled w (tables.Operand s) ts f rest = Reads w s Tight ts f rest
Untabled w (Rest m) ts f rest = OfMode w m ts f rest
Untabled w (Behind t turn) ts f rest = OfTurn w turn ts f rest

-- the formula of a form, which is equal to the one that is read
same_tree : {w : Language} {s : Sort} {l : Level} {ts rest : List Sign} {f g : Formula}
    → f ≡ g
    → Reads w s l ts f rest
    → Reads w s l ts g rest
same_tree {w} {s} {l} {ts} {rest} e r = subst (λ h. Reads w s l ts h rest) e r

both_same : {w : Language} {s : Sort} {l : Level} {t : Sign} {ts rest : List Sign} {h f : Formula}
    → (h ≡ f) × (ts ≡ rest)
    → Reads w s l (t ∷ ts) h ts
    → Reads w s l (t ∷ ts) f rest
both_same {w} {s} {l} {t} {ts} {rest} {h} {f} e r = subst (λ x. Reads w s l (t ∷ ts) x rest) e.0 (subst (λ us. Reads w s l (t ∷ ts) h us) e.1 r)

tense_completes : (w : Language) (s : Sort) (t : Tense) (ts rest : List Sign) (f : Formula)
    → OfTurn w (shift w (Start s) (Added (Tensed t))) ts f rest
    → Reads w s Tight (Added (Tensed t) ∷ ts) f rest
tense_completes w State t ts rest f r = absurd r
tense_completes w Path t ts rest f r = same_tree r.1 (temporal t r.2)

quantifier_completes : (w : Language) (s : Sort) (q : Quantifier) (ts rest : List Sign) (f : Formula)
    → OfTurn w (shift w (Start s) (Added (Quantifies q))) ts f rest
    → Reads w s Tight (Added (Quantifies q) ∷ ts) f rest
quantifier_completes Ctl s q ts rest f r = same_tree r.1 (quantified q refl r.2)
quantifier_completes Ltl s q ts rest f r = absurd r

sign_completes : (w : Language) (q : Wait) (t : Sign) (ts rest : List Sign) (f : Formula)
    → OfTurn w (shift w q t) ts f rest
    → Completes w q (t ∷ ts) f rest
sign_completes w (Start s) Not ts rest f r = same_tree r.1 (negation r.2)
sign_completes w (Start s) (Const b) ts rest f r = both_same r (constant b)
sign_completes w (Start s) (Lower p) ts rest f r = both_same r (proposition p)
sign_completes w (Start s) Open ts rest f r = r
sign_completes w (Start s) (Added (Tensed t)) ts rest f r = tense_completes w s t ts rest f r
sign_completes w (Start s) (Added (Quantifies q)) ts rest f r = quantifier_completes w s q ts rest f r
sign_completes w (Start s) _ ts rest f r = absurd r
sign_completes w (BehindInside h) Close ts rest f r =
    λ s us a. subst (λ x. Reads w s Tight (Open ∷ us) x rest) r.0
    (group (subst (λ vs. Reads w s (Joined operator.Iff) us h (Close ∷ vs)) r.1 a))
sign_completes w (BehindInside h) _ ts rest f r = absurd r

inner_enters : (w : Language) (k : Hold) (ts us rest : List Sign) (v f : Formula)
    → Untabled w (tables.Level (Rattle.ml_ctl.specs.private.Tables.sort k) (Rattle.ml_ctl.specs.private.Tables.level k)) ts v us
    → OfMode w (resume k v) us f rest
    → Enters w k ts f rest
inner_enters w (Negation s) ts us rest v f a r = (v, r.0, subst (λ vs. Reads w s Tight ts v vs) r.1 a)
inner_enters w (Tensing t) ts us rest v f a r = (v, r.0, subst (λ vs. Reads w Path Tight ts v vs) r.1 a)
inner_enters w (Quantifying q) ts us rest v f a r = (v, r.0, subst (λ vs. Reads w Path Tight ts v vs) r.1 a)
inner_enters w (Group s) ts us rest v f a r = r s ts a

joined_back : (w : Language) (s : Sort) (o : Sign) (n : ℕ) (ts us rest : List Sign) (f h : Formula)
    → role s o ≡ Infix n
    → Untabled w (tables.Level s (tables.left_level (ctl_grammar w) s n)) ts f (o ∷ us)
    → Untabled w (tables.Level s (tables.right_level (ctl_grammar w) s n)) us h rest
    → Untabled w (tables.Level s n) ts (Rattle.ml_ctl.specs.private.Tables.join o f h) rest
joined_back w s (Connective o) n ts us rest f h is a b =
    let same : operator_level o ≡ n = cc in
    subst (λ l. Reads w s l ts (plain.Binary o f h) rest) (sym (joined_is Tight o n same))
    (joined o
    (subst (λ l. Reads w s l ts f (Connective o ∷ us)) (left_is (ctl_grammar w) s (ctl_groups w s) Tight o n same) a)
    (subst (λ l. Reads w s l us h rest) (right_is (ctl_grammar w) s (ctl_groups w s) Tight o n same) b))
joined_back w State (Added (Pairs p)) n ts us rest f h is a b = absurd (cc)
joined_back w Path (Added (Pairs p)) n ts us rest f h is a b =
    let same : n ≡ 4 = cc in
    let left = subst (λ m. Reads w Path (level_of Tight (tables.left_level (ctl_grammar w) Path m)) ts f (Added (Pairs p) ∷ us)) same a in
    let right = subst (λ m. Reads w Path (level_of Tight (tables.right_level (ctl_grammar w) Path m)) us h rest) same b in
    subst (λ m. Reads w Path (level_of Tight m) ts (plain.Paired p f h) rest) (sym same) (pair p left right)
joined_back w s _ n ts us rest f h is a b = absurd (cc)

pub untabled : (w : Language) {p : Part (ctl_grammar w)} {ts rest : List Sign} {f : Formula}
    → Tabled w p ts f rest
    → Untabled w p ts f rest
untabled w (tables.alone {s = s} {l = n} {ts = ts} {rest = rest} {f = f} r) =
    from_top Tight (λ l. Reads w s l ts f rest) alone pair_alone n (untabled w r)
untabled w (tables.joined {s = s} {l = n} {ts = ts} {us = us} {rest = rest} {f = f} {h = h} o m is le a b) =
    loosened Tight (λ l. Reads w s l ts (Rattle.ml_ctl.specs.private.Tables.join o f h) rest) alone pair_alone n m le
    (joined_back w s o m ts us rest f h is (untabled w a) (untabled w b))
untabled w (postfixed o is makes r) = absurd (cc)
untabled w (form r) = untabled w r
untabled w whole = (refl, refl)
untabled w (sign {q = q} {t = t} {ts = ts} {rest = rest} {f = f} r) = sign_completes w q t ts rest f (untabled w r)
untabled w (read r) = untabled w r
untabled w (inner {k = k} {ts = ts} {us = us} {rest = rest} {v = v} {f = f} a un b) = inner_enters w k ts us rest v f (untabled w a) (untabled w b)
untabled w (opens a un b) = tt
