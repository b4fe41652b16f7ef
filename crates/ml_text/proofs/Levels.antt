-- Levels of operators, and what may follow an operand of a level.
--
--   RoleFollows g s l r == a sign of the role r may follow an operand of the sort s and the level l that is whole
--   Follows g s l n     == the same of the sign that follows, if any
--   untaken_follows     == what an operand can't take may follow it
--   left_follows        == an operator may follow its left operand
--   right_follows       == what may follow a joined operand may follow its right operand
--   right_untaken       == and the right operand can't take it
--   loosen              == what is read at a level is read at each looser one
--   looser              == so it is by any relation with levels by which it is read at the level before
use Rattle.std.proofs.Common.{◌≡◌, ℕ, zero, suc, ◌+◌, ◌<◌, ◌≤◌, ◌⊎◌, true, false, List, Option, Some, None, refl, sym, ◌∙◌, ap, subst, inl, inr, ⊎_elim, arith, leb-false}
use Rattle.std.proofs.lemmas.Bool.{cases_Bool, cond-true, cond-false, lt-leb, cases_lt}
use Rattle.ml_text.specs.Grammar.{Grammar, Level, Reads, alone, joined, left_level, right_level, role_takes, takes}
use Rattle.ml_text.specs.declared.forms.Role.{Role}
use Rattle.ml_text.specs.declared.forms.Role.TheVariants.{Infix, Postfix, Outside}

abbrev pub RoleFollows : (g : Grammar) → g.Sort → ℕ → Role → Type 0
RoleFollows g s l (Infix m) = (m < l) ⊎ ((m ≡ l) × (g.groups_left s l ≡ true))
RoleFollows g s l Postfix = ⊥
RoleFollows g s l Outside = Unit {0}

abbrev pub Follows : (g : Grammar) → g.Sort → ℕ → Option g.Sign → Type 0
Follows g s l None = Unit {0}
Follows g s l (Some t) = RoleFollows g s l (g.role s t)

role_untaken : (g : Grammar) (s : g.Sort) (l : ℕ) (r : Role) → role_takes l r ≡ false → RoleFollows g s l r
role_untaken g s l (Infix m) h = inl (leb-false l m h)
role_untaken g s l Postfix h = absurd (cc)
role_untaken g s l Outside h = tt

pub untaken_follows : (g : Grammar) (s : g.Sort) (l : ℕ) (n : Option g.Sign) → takes g s l n ≡ false → Follows g s l n
untaken_follows g s l None h = tt
untaken_follows g s l (Some t) h = role_untaken g s l (g.role s t) h

-- the level of the left operand, and of the right one, by the side to which the level groups
left_level-left : (g : Grammar) (s : g.Sort) (m : ℕ) → g.groups_left s m ≡ true → left_level g s m ≡ m
left_level-left g s m e = cond-true (g.groups_left s m) m (m + 1) e

left_level-right : (g : Grammar) (s : g.Sort) (m : ℕ) → g.groups_left s m ≡ false → left_level g s m ≡ m + 1
left_level-right g s m e = cond-false (g.groups_left s m) m (m + 1) e

right_level-left : (g : Grammar) (s : g.Sort) (m : ℕ) → g.groups_left s m ≡ true → right_level g s m ≡ m + 1
right_level-left g s m e = cond-true (g.groups_left s m) (m + 1) m e

right_level-right : (g : Grammar) (s : g.Sort) (m : ℕ) → g.groups_left s m ≡ false → right_level g s m ≡ m
right_level-right g s m e = cond-false (g.groups_left s m) (m + 1) m e

pub left_level-above : (g : Grammar) (s : g.Sort) (m : ℕ) → m ≤ left_level g s m
left_level-above g s m =
    ⊎_elim
    (λ (e : g.groups_left s m ≡ true). let is = left_level-left g s m e in omega (arith, is))
    (λ (e : g.groups_left s m ≡ false). let is = left_level-right g s m e in omega (arith, is))
    (cases_Bool (g.groups_left s m))

left_level-below : (g : Grammar) (s : g.Sort) (m : ℕ) → left_level g s m ≤ m + 1
left_level-below g s m =
    ⊎_elim
    (λ (e : g.groups_left s m ≡ true). let is = left_level-left g s m e in omega (arith, is))
    (λ (e : g.groups_left s m ≡ false). let is = left_level-right g s m e in omega (arith, is))
    (cases_Bool (g.groups_left s m))

pub right_level-above : (g : Grammar) (s : g.Sort) (m : ℕ) → m ≤ right_level g s m
right_level-above g s m =
    ⊎_elim
    (λ (e : g.groups_left s m ≡ true). let is = right_level-left g s m e in omega (arith, is))
    (λ (e : g.groups_left s m ≡ false). let is = right_level-right g s m e in omega (arith, is))
    (cases_Bool (g.groups_left s m))

left_follows_by : (g : Grammar) (s : g.Sort) (m : ℕ) → RoleFollows g s (left_level g s m) (Infix m)
left_follows_by g s m =
    ⊎_elim
    (λ (e : g.groups_left s m ≡ true). let is = left_level-left g s m e in
    subst (λ l. RoleFollows g s l (Infix m)) (sym is) (inr (refl, e)))
    (λ (e : g.groups_left s m ≡ false). let is = left_level-right g s m e in
    subst (λ l. RoleFollows g s l (Infix m)) (sym is) (inl (omega arith)))
    (cases_Bool (g.groups_left s m))

pub left_follows : (g : Grammar) (s : g.Sort) (m : ℕ) (o : g.Sign)
    → g.role s o ≡ Infix m
    → Follows g s (left_level g s m) (Some o)
left_follows g s m o is = subst (RoleFollows g s (left_level g s m)) (sym is) (left_follows_by g s m)

-- the right operand of a level from l on takes less than what an operand of the level l takes
right_above : (g : Grammar) (s : g.Sort) (l m k : ℕ)
    → l ≤ m
    → (k < l) ⊎ ((k ≡ l) × (g.groups_left s l ≡ true))
    → k < right_level g s m
right_above g s l m k le (inl below) = let above = right_level-above g s m in omega (arith, above)
right_above g s l m k le (inr same) =
    ⊎_elim
    (λ (e : g.groups_left s m ≡ true). let is = right_level-left g s m e in let at = same.0 in omega (arith, is, at))
    (λ (e : g.groups_left s m ≡ false). ⊎_elim
    (λ (less : l < m). let is = right_level-right g s m e in let at = same.0 in omega (arith, is, at))
    (λ (ge : m ≤ l). let eq : m ≡ l = omega arith in let there = ap (g.groups_left s) eq in let left = same.1 in
    absurd (cc))
    (cases_lt l m))
    (cases_Bool (g.groups_left s m))

right_role_untaken : (g : Grammar) (s : g.Sort) (l m : ℕ) (r : Role)
    → l ≤ m
    → RoleFollows g s l r
    → role_takes (right_level g s m) r ≡ false
right_role_untaken g s l m (Infix k) le h = lt-leb (right_level g s m) k (right_above g s l m k le h)
right_role_untaken g s l m Postfix le h = absurd h
right_role_untaken g s l m Outside le h = refl

pub right_untaken : (g : Grammar) (s : g.Sort) (l m : ℕ) (n : Option g.Sign)
    → l ≤ m
    → Follows g s l n
    → takes g s (right_level g s m) n ≡ false
right_untaken g s l m None le h = refl
right_untaken g s l m (Some t) le h = right_role_untaken g s l m (g.role s t) le h

pub right_follows : (g : Grammar) (s : g.Sort) (l m : ℕ) (n : Option g.Sign)
    → l ≤ m
    → Follows g s l n
    → Follows g s (right_level g s m) n
right_follows g s l m n le h = untaken_follows g s (right_level g s m) n (right_untaken g s l m n le h)

-- an operator that the right operand of a level can't take may follow what was joined at that level
pub left_level-right_level : (g : Grammar) (s : g.Sort) (k m : ℕ) → k < right_level g s m → left_level g s k ≤ m
left_level-right_level g s k m below =
    ⊎_elim
    (λ (less : k < m). let above = left_level-below g s k in omega arith)
    (λ (ge : m ≤ k).
    ⊎_elim
    (λ (e : g.groups_left s m ≡ true).
    let is = right_level-left g s m e in
    let same : k ≡ m = omega arith in
    let there : g.groups_left s k ≡ true = ap (g.groups_left s) same ∙ e in
    let at = left_level-left g s k there in
    omega arith)
    (λ (e : g.groups_left s m ≡ false). let is = right_level-right g s m e in omega arith)
    (cases_Bool (g.groups_left s m)))
    (cases_lt k m)

-- what is read at a level is read at each looser one
pub loosen : (g : Grammar) {s : g.Sort} {l : ℕ} {ts rest : List g.Sign} {f : g.Tree} (k : ℕ)
    → k ≤ l
    → Reads g (Level s l) ts f rest
    → Reads g (Level s k) ts f rest
loosen g k below (alone r) = alone r
loosen g k below (joined o m is le a b) = joined o m is (omega arith) a b

pub looser : (R : ℕ → Type 0) → ((l : ℕ) → R (suc l) → R l) → (l m : ℕ) → l ≤ m → R m → R l
looser R step l zero le r = let same : zero ≡ l = omega arith in subst R same r
looser R step l (suc m) le r =
    ⊎_elim
    (λ (less : l < suc m). looser R step l m (omega arith) (step m r))
    (λ (ge : suc m ≤ l). let same : suc m ≡ l = omega arith in subst R same r)
    (cases_lt l (suc m))
