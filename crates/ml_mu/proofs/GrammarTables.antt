-- The grammar of mu texts is the one of the tables.
--
--   tabled    == what the grammar reads, the tables read
--   untabled  == what the tables read, the grammar reads
use Rattle.std.proofs.Common.{◌≡◌, ℕ, ◌≤◌, false, List, [], ◌∷◌, Option, Some, None, refl, sym, ◌∙◌, ap, subst, arith, leb-false, codes}
use Rattle.ml_text.specs.declared.token.Operator.TheVariants as operator
use Rattle.ml_text.specs.Grammar as tables
use Rattle.ml_text.specs.Grammar.{Whole, More, Read, Inner, Opens, Part, Rest, Behind, postfixed}
use Rattle.ml_text.specs.Grammar.{form, whole, sign, read, inner, opens, takes, front}
use Rattle.ml_text.specs.declared.forms.Role.TheVariants.{Infix}
use Rattle.ml_text.specs.Operators.{operator_level}
use Rattle.ml_text.specs.Levels.{Level, Joined, Operand}
use Rattle.ml_text.proofs.LevelNumbers.{number, level_of, GroupsConnectives, tighter_above, left_below, right_below}
use Rattle.ml_text.proofs.LevelNumbers.{joined_is, left_is, right_is, loosened, from_top}
use Rattle.ml_mu.specs.Formula as plain
use Rattle.ml_mu.specs.Formula.{Formula, Modality, Diamond, Square}
use Rattle.ml_text.specs.declared.named_signs.Sign.TheVariants.{Not, Connective, Const, Open, Close, Lower, Upper, Added}
use Rattle.ml_mu.specs.Signs.{Sign, action_of}
use Rattle.ml_mu.specs.declared.signs.Own.TheVariants.{Begins, Ends, Binds, Dot, Blank}
use Rattle.ml_mu.specs.Grammar.{Reads, alone, joined, negation, modal, modal_blank, binder, group, constant, proposition, variable, begins_operator}
use Rattle.ml_mu.specs.private.Tables.{Wait, BehindBegin, BehindAction, BehindFixpoint, BehindVariable, BehindInside, Hold, Negation, Modal, Binder, Group, MuTurn, shift, resume, role, mu_grammar}

-- what the tables read
abbrev pub Tabled : Part mu_grammar → List Sign → Formula → List Sign → Type 0
Tabled p ts f rest = tables.Reads mu_grammar p ts f rest

-- ---- no operand of the level of un goes on

pub tight : (n : Option Sign) → takes mu_grammar tt 4 n ≡ false
tight None = refl
tight (Some (Connective operator.Iff)) = refl
tight (Some (Connective operator.Implies)) = refl
tight (Some (Connective operator.Or)) = refl
tight (Some (Connective operator.And)) = refl
tight (Some _) = refl

untaken : (ts : List Sign) → begins_operator ts ≡ false → takes mu_grammar tt 0 (front ts) ≡ false
untaken [] e = refl
untaken (Connective o ∷ ts) e = absurd (cc)
untaken (_ ∷ ts) e = refl

no_operator : (ts : List Sign) → takes mu_grammar tt 0 (front ts) ≡ false → begins_operator ts ≡ false
no_operator [] e = refl
no_operator (Connective o ∷ ts) e = let below = leb-false 0 (operator_level o) e in absurd (omega (arith, below))
no_operator (_ ∷ ts) e = refl

-- ---- from the grammar to the tables

mu_groups : GroupsConnectives mu_grammar tt
mu_groups operator.Iff = refl
mu_groups operator.Implies = refl
mu_groups operator.Or = refl
mu_groups operator.And = refl

shift_begin_action : (m : Modality) (s : Sign) (a : List ℕ)
    → action_of s ≡ Some a
    → shift (BehindBegin m) s ≡ Some (Read (More (BehindAction m a)))
shift_begin_action Diamond (Added Blank) a e = let same : codes "_" ≡ a = cc in ap (λ b. Some (Read (More (BehindAction Diamond b)))) same
shift_begin_action Square (Added Blank) a e = let same : codes "_" ≡ a = cc in ap (λ b. Some (Read (More (BehindAction Square b)))) same
shift_begin_action Diamond (Lower b) a e = let same : b ≡ a = cc in ap (λ b. Some (Read (More (BehindAction Diamond b)))) same
shift_begin_action Square (Lower b) a e = let same : b ≡ a = cc in ap (λ b. Some (Read (More (BehindAction Square b)))) same
shift_begin_action Diamond (Upper b) a e = let same : b ≡ a = cc in ap (λ b. Some (Read (More (BehindAction Diamond b)))) same
shift_begin_action Square (Upper b) a e = let same : b ≡ a = cc in ap (λ b. Some (Read (More (BehindAction Square b)))) same
shift_begin_action m _ a e = absurd (cc)

shift_begin_end : (m : Modality) → shift (BehindBegin m) (Added (Ends m)) ≡ Some (Inner (Modal m (codes "_")))
shift_begin_end Diamond = refl
shift_begin_end Square = refl

shift_action_end : (m : Modality) (a : List ℕ) → shift (BehindAction m a) (Added (Ends m)) ≡ Some (Inner (Modal m a))
shift_action_end Diamond a = refl
shift_action_end Square a = refl

-- a sign of a form, by what it does
sign_by : {q : Wait} {t : Sign} {ts rest : List Sign} {f : Formula} (turn : Option MuTurn)
    → shift q t ≡ turn
    → Tabled (Behind t turn) ts f rest
    → Tabled (Rest (More q)) (t ∷ ts) f rest
sign_by {q} {t} {ts} {rest} {f} turn is r = sign (subst (λ x. Tabled (Behind t x) ts f rest) (sym is) r)

modal_read : {t : Sign} {ts rest : List Sign} {f : Formula} (m : Modality) (a : List ℕ)
    → Tabled (tables.Level tt 4) ts f rest
    → Tabled (Behind t (Some (Inner (Modal m a)))) ts (plain.Modal m a f) rest
modal_read {rest = rest} m a r = inner r (tight (front rest)) whole

-- what is read at a level, the tables read at each number up to that of the level
pub tabled : {l : Level} {ts rest : List Sign} {f : Formula}
    → Reads l ts f rest
    → (n : ℕ)
    → n ≤ number l
    → Tabled (tables.Level tt n) ts f rest
tabled (alone o r) n le = tabled r n (omega (arith, tighter_above o))
tabled (joined o a b) n le =
    let m = operator_level o in
    tables.joined (Connective o) m refl le
    (tabled a (tables.left_level mu_grammar tt m) (left_below mu_grammar tt mu_groups o))
    (tabled b (tables.right_level mu_grammar tt m) (right_below mu_grammar tt mu_groups o))
tabled (negation {rest = rest} r) n le =
    tables.alone (form (sign (inner (tabled r 4 (omega arith)) (tight (front rest)) whole)))
tabled (modal m a s is r) n le =
    tables.alone
    (form
    (sign
    (read
    (sign_by (Some (Read (More (BehindAction m a)))) (shift_begin_action m s a is)
    (read (sign_by (Some (Inner (Modal m a))) (shift_action_end m a) (modal_read m a (tabled r 4 (omega arith)))))))))
tabled (modal_blank m r) n le =
    let body = modal_read m (codes "_") (tabled r 4 (omega arith)) in
    tables.alone (form (sign (read (sign_by (Some (Inner (Modal m (codes "_")))) (shift_begin_end m) body))))
tabled (binder {rest = rest} q x r e) n le =
    let body = inner (tabled r 0 (omega arith)) (untaken rest e) whole in
    tables.alone (form (sign (read (sign (read (sign body))))))
tabled (group r) n le = tables.alone (form (sign (inner (tabled r 0 (omega arith)) refl (sign (read whole)))))
tabled (constant b) n le = tables.alone (form (sign (read whole)))
tabled (proposition p) n le = tables.alone (form (sign (read whole)))
tabled (variable x) n le = tables.alone (form (sign (read whole)))

-- ---- from the tables to the grammar

-- what the rest of a form makes of the signs that were read of it
abbrev pub Completes : Wait → List Sign → Formula → List Sign → Type 0
Completes Wait.Operand ts f rest = Reads Operand ts f rest
Completes (BehindBegin m) ts f rest = Reads Operand (Added (Begins m) ∷ ts) f rest
Completes (BehindAction m a) ts f rest = (s : Sign) → action_of s ≡ Some a → Reads Operand (Added (Begins m) ∷ s ∷ ts) f rest
Completes (BehindFixpoint q) ts f rest = Reads Operand (Added (Binds q) ∷ ts) f rest
Completes (BehindVariable q x) ts f rest = Reads Operand (Added (Binds q) ∷ Upper x ∷ ts) f rest
Completes (BehindInside h) ts f rest = (us : List Sign) → Reads (Joined operator.Iff) us h ts → Reads Operand (Open ∷ us) f rest

-- a held operand with what its form makes of it
abbrev pub Enters : Hold → List Sign → Formula → List Sign → Type 0
Enters Negation ts f rest = (h : Formula) × (plain.Not h ≡ f) × Reads Operand ts h rest
Enters (Modal m a) ts f rest = (h : Formula) × (plain.Modal m a h ≡ f) × Reads Operand ts h rest
Enters (Binder q x) ts f rest = (h : Formula) × (plain.Binder q x h ≡ f) × Reads (Joined operator.Iff) ts h rest × (begins_operator rest ≡ false)
Enters Group ts f rest = Reads Operand (Open ∷ ts) f rest

abbrev pub OfMode : tables.Mode Formula Wait → List Sign → Formula → List Sign → Type 0
OfMode (Whole h) ts f rest = (h ≡ f) × (ts ≡ rest)
OfMode (More q) ts f rest = Completes q ts f rest

abbrev pub OfTurn : Option MuTurn → List Sign → Formula → List Sign → Type 0
OfTurn None ts f rest = ⊥
OfTurn (Some (Read m)) ts f rest = OfMode m ts f rest
OfTurn (Some (Inner k)) ts f rest = Enters k ts f rest
OfTurn (Some (Opens k)) ts f rest = Unit {0}

abbrev pub Untabled : Part mu_grammar → List Sign → Formula → List Sign → Type 0
Untabled (tables.Level s n) ts f rest = Reads (level_of Operand n) ts f rest
Untabled (tables.Operand s) ts f rest = Reads Operand ts f rest
Untabled (Rest m) ts f rest = OfMode m ts f rest
Untabled (Behind t turn) ts f rest = OfTurn turn ts f rest

-- the formula of a form, which is equal to the one that is read
same_tree : {l : Level} {ts rest : List Sign} {f g : Formula} → f ≡ g → Reads l ts f rest → Reads l ts g rest
same_tree {l} {ts} {rest} e r = subst (λ h. Reads l ts h rest) e r

both_same : {l : Level} {t : Sign} {ts rest : List Sign} {h f : Formula}
    → (h ≡ f) × (ts ≡ rest)
    → Reads l (t ∷ ts) h ts
    → Reads l (t ∷ ts) f rest
both_same {l} {t} {ts} {rest} {h} {f} e r = subst (λ x. Reads l (t ∷ ts) x rest) e.0 (subst (λ us. Reads l (t ∷ ts) h us) e.1 r)

begin_completes : (m : Modality) (t : Sign) (ts rest : List Sign) (f : Formula)
    → OfTurn (shift (BehindBegin m) t) ts f rest
    → Reads Operand (Added (Begins m) ∷ t ∷ ts) f rest
begin_completes Diamond (Added (Ends Diamond)) ts rest f r = same_tree r.1 (modal_blank Diamond r.2)
begin_completes Square (Added (Ends Square)) ts rest f r = same_tree r.1 (modal_blank Square r.2)
begin_completes Diamond (Added Blank) ts rest f r = r (Added Blank) refl
begin_completes Square (Added Blank) ts rest f r = r (Added Blank) refl
begin_completes Diamond (Lower a) ts rest f r = r (Lower a) refl
begin_completes Square (Lower a) ts rest f r = r (Lower a) refl
begin_completes Diamond (Upper a) ts rest f r = r (Upper a) refl
begin_completes Square (Upper a) ts rest f r = r (Upper a) refl
begin_completes Diamond (Added (Ends Square)) ts rest f r = absurd r
begin_completes Square (Added (Ends Diamond)) ts rest f r = absurd r
begin_completes Diamond _ ts rest f r = absurd r
begin_completes Square _ ts rest f r = absurd r

action_completes : (m : Modality) (a : List ℕ) (t : Sign) (ts rest : List Sign) (f : Formula)
    → OfTurn (shift (BehindAction m a) t) ts f rest
    → (s : Sign)
    → action_of s ≡ Some a
    → Reads Operand (Added (Begins m) ∷ s ∷ t ∷ ts) f rest
action_completes Diamond a (Added (Ends Diamond)) ts rest f r s is = same_tree r.1 (modal Diamond a s is r.2)
action_completes Square a (Added (Ends Square)) ts rest f r s is = same_tree r.1 (modal Square a s is r.2)
action_completes Diamond a (Added (Ends Square)) ts rest f r s is = absurd r
action_completes Square a (Added (Ends Diamond)) ts rest f r s is = absurd r
action_completes Diamond a _ ts rest f r s is = absurd r
action_completes Square a _ ts rest f r s is = absurd r

sign_completes : (q : Wait) (t : Sign) (ts rest : List Sign) (f : Formula)
    → OfTurn (shift q t) ts f rest
    → Completes q (t ∷ ts) f rest
sign_completes Wait.Operand Not ts rest f r = same_tree r.1 (negation r.2)
sign_completes Wait.Operand (Const b) ts rest f r = both_same r (constant b)
sign_completes Wait.Operand (Lower p) ts rest f r = both_same r (proposition p)
sign_completes Wait.Operand (Upper x) ts rest f r = both_same r (variable x)
sign_completes Wait.Operand Open ts rest f r = r
sign_completes Wait.Operand (Added (Begins m)) ts rest f r = r
sign_completes Wait.Operand (Added (Binds q)) ts rest f r = r
sign_completes Wait.Operand _ ts rest f r = absurd r
sign_completes (BehindBegin m) t ts rest f r = begin_completes m t ts rest f r
sign_completes (BehindAction m a) t ts rest f r = action_completes m a t ts rest f r
sign_completes (BehindFixpoint q) (Upper x) ts rest f r = r
sign_completes (BehindFixpoint q) _ ts rest f r = absurd r
sign_completes (BehindVariable q x) (Added Dot) ts rest f r = same_tree r.1 (binder q x r.2 r.3)
sign_completes (BehindVariable q x) _ ts rest f r = absurd r
sign_completes (BehindInside h) Close ts rest f r =
    λ us a. subst (λ x. Reads Operand (Open ∷ us) x rest) r.0
    (group (subst (λ vs. Reads (Joined operator.Iff) us h (Close ∷ vs)) r.1 a))
sign_completes (BehindInside h) _ ts rest f r = absurd r

inner_enters : (k : Hold) (ts us rest : List Sign) (v f : Formula)
    → Untabled (tables.Level tt (Rattle.ml_mu.specs.private.Tables.level k)) ts v us
    → takes mu_grammar tt (Rattle.ml_mu.specs.private.Tables.level k) (front us) ≡ false
    → OfMode (resume k v) us f rest
    → Enters k ts f rest
inner_enters Negation ts us rest v f a un r = (v, r.0, subst (λ vs. Reads Operand ts v vs) r.1 a)
inner_enters (Modal m b) ts us rest v f a un r = (v, r.0, subst (λ vs. Reads Operand ts v vs) r.1 a)
inner_enters (Binder q x) ts us rest v f a un r = (
  v,
  r.0,
  subst (λ vs. Reads (Joined operator.Iff) ts v vs) r.1 a,
  ap begins_operator (sym r.1) ∙ no_operator us un,
)
inner_enters Group ts us rest v f a un r = r ts a

joined_back : (o : Sign) (n : ℕ) (ts us rest : List Sign) (f h : Formula)
    → role o ≡ Infix n
    → Untabled (tables.Level tt (tables.left_level mu_grammar tt n)) ts f (o ∷ us)
    → Untabled (tables.Level tt (tables.right_level mu_grammar tt n)) us h rest
    → Untabled (tables.Level tt n) ts (Rattle.ml_mu.specs.private.Tables.join o f h) rest
joined_back (Connective o) n ts us rest f h is a b =
    let same : operator_level o ≡ n = cc in
    subst (λ l. Reads l ts (plain.Binary o f h) rest) (sym (joined_is Operand o n same))
    (joined o
    (subst (λ l. Reads l ts f (Connective o ∷ us)) (left_is mu_grammar tt mu_groups Operand o n same) a)
    (subst (λ l. Reads l us h rest) (right_is mu_grammar tt mu_groups Operand o n same) b))
joined_back _ n ts us rest f h is a b = absurd (cc)

pub untabled : {p : Part mu_grammar} {ts rest : List Sign} {f : Formula} → Tabled p ts f rest → Untabled p ts f rest
untabled (tables.alone {l = n} {ts = ts} {rest = rest} {f = f} r) =
    from_top Operand (λ l. Reads l ts f rest) alone (λ x. x) n (untabled r)
untabled (tables.joined {l = n} {ts = ts} {us = us} {rest = rest} {f = f} {h = h} o m is le a b) =
    loosened Operand (λ l. Reads l ts (Rattle.ml_mu.specs.private.Tables.join o f h) rest) alone (λ x. x) n m le
    (joined_back o m ts us rest f h is (untabled a) (untabled b))
untabled (postfixed o is makes r) = absurd (cc)
untabled (form r) = untabled r
untabled whole = (refl, refl)
untabled (sign {q = q} {t = t} {ts = ts} {rest = rest} {f = f} r) = sign_completes q t ts rest f (untabled r)
untabled (read r) = untabled r
untabled (inner {k = k} {ts = ts} {us = us} {rest = rest} {v = v} {f = f} a un b) = inner_enters k ts us rest v f (untabled a) un (untabled b)
untabled (opens a un b) = tt
