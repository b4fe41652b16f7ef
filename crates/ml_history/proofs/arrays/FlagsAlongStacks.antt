-- Flags that are set along stacks, from their ends on.
--
--   flag_set         == flags with one name more
--   up_to-older      == an older name of a stack stands in front of a younger one
--   older_shared     == stacks that agree up to a name share the older names of it
--   ways_down        == the names of some ways down a tree pass down along each
--   passes_down-part == what passes down along a stack does so along a part of it
--   member-take      == a member of a beginning is one of the list
--   cut_ways         == ways down a tree that are cut are such ways
--   FlagsFrom        == the flags of the names from a place on
--   flags-start, flags-more, flags-whole == none, one more, and all of them
--   flags-stop       == where a flag is set already, those of all older names are
--   stacks_flagged, stacks_told == the flags of the names of one stack more, and of all stacks
use Rattle.std.proofs.Common.{ℕ, zero, suc, ◌≡◌, ◌+◌, ◌<◌, ◌≤◌, ◌⊎◌, inl, inr, arith, Bool, true, false, ◌||◌, eqb, List, [], ◌∷◌, length, get_or, take, drop, refl, sym, subst, ap, ◌∙◌}
use Rattle.std.proofs.Math.ListN.{set}
use Rattle.std.proofs.lemmas.Bool.{cases_Bool, cases_eq, eq-eqb, eqb-true, ne_eqb, or_left, or_right}
use Rattle.std.proofs.lemmas.List.{take_all, take_more, get_or-set_same, get_or-set_other, drop_more}
use Rattle.std.proofs.lemmas.List.Folds.{list_any-append}
use Rattle.std.proofs.Math.Bool.{or_assoc}
use Rattle.ml_lists.specs.Ascending.{IsAscending}
use Rattle.ml_lists.specs.Member.{IsMember}
use Rattle.ml_lists.proofs.Member.{Image, place-member, member-map_from}
use Rattle.ml_trace.specs.Stack.{Item, has}
use Rattle.ml_trace.proofs.Stacks.{has-member, member-has}
use Rattle.ml_history.specs.History.{up_to}
use Rattle.ml_history.specs.HistoryStep.{stands, is_full, through, cut}
use Rattle.ml_history.specs.private.TreeStep.{flagged}
use Rattle.ml_history.specs.private.Ways.{AreWays, PassesDown}
use Rattle.ml_history.proofs.definition.CutStacks.{through-goes, through-has, through-ascending, through-up_to}
use Rattle.ml_history.proofs.definition.NamesInUse.{Standing, stands-from, stands-in}

-- ---- one flag

pub flag_set : (flags : List Bool) (x y : ℕ)
    → x < length flags
    → flagged (set flags x true) y ≡ (eqb x y || flagged flags y)
flag_set flags x y low = by_name (cases_eq x y)
  where
    by_name : (x ≡ y) ⊎ (x ≡ y → ⊥) → flagged (set flags x true) y ≡ (eqb x y || flagged flags y)
    by_name (inl e) = ap (λ k. get_or (set flags x true) k false) (sym e) ∙ get_or-set_same flags x true false low
        ∙ sym (ap (λ b. b || flagged flags y) (eq-eqb x y e))
    by_name (inr ne) = get_or-set_other flags x y true false (λ e. ne (sym e))
        ∙ sym (ap (λ b. b || flagged flags y) (ne_eqb x y ne))

-- ---- ways down a tree

-- an older name of a stack stands in front of a younger one
up_to-older : (s : List ℕ) (y z : ℕ)
    → IsAscending s
    → IsMember y s
    → IsMember z s
    → y < z
    → has y (up_to z s) ≡ true
up_to-older [] y z a my mz low = absurd my
up_to-older (x ∷ xs) y z a my mz low = by_name (cases_Bool (eqb x z)) my mz (up_to-older xs y z a.1)
  where
    by_name : (eqb x z ≡ true) ⊎ (eqb x z ≡ false)
        → (y ≡ x) ⊎ IsMember y xs
        → (z ≡ x) ⊎ IsMember z xs
        → (IsMember y xs → IsMember z xs → y < z → has y (up_to z xs) ≡ true)
        → has y (up_to z (x ∷ xs)) ≡ true
    by_name (inl e) (inl here) mz rest = absurd (omega (arith, eqb-true x z e))
    by_name (inl e) (inr later) mz rest = absurd (omega (arith, eqb-true x z e, a.0 y later))
    by_name (inr f) (inl here) mz rest =
        subst (λ l. has y l ≡ true) (sym (through-goes (λ w. eqb w z) x xs f))
        (or_left (eqb x y) (has y (up_to z xs)) (eq-eqb x y (sym here)))
    by_name (inr f) (inr later) (inl same) rest = let e = eq-eqb x z (sym same) in absurd (cc)
    by_name (inr f) (inr later) (inr mz') rest =
        subst (λ l. has y l ≡ true) (sym (through-goes (λ w. eqb w z) x xs f))
        (or_right (eqb x y) (has y (up_to z xs)) (rest later mz' low))

-- stacks that agree up to a name share the older names of it
older_shared : (s u : List ℕ) (y z : ℕ)
    → IsAscending s
    → IsMember y s
    → IsMember z s
    → y < z
    → up_to z s ≡ up_to z u
    → has y u ≡ true
older_shared s u y z a my mz low same =
    through-has (λ w. eqb w z) y u (subst (λ l. has y l ≡ true) same (up_to-older s y z a my mz low))

-- the names of some ways down a tree pass down along each of the ways
pub ways_down : (t seen : List (Item ℕ)) (a : Item ℕ)
    → AreWays t
    → IsMember a t
    → ((b : Item ℕ) → IsMember b seen → IsMember b t)
    → PassesDown (stands seen) a.stack
ways_down t seen a ways m inside y z my mz low here = from_stack (stands-from seen z here)
  where
    from_stack : Standing seen z → stands seen y ≡ true
    from_stack b =
        let same = ways.agree a b.item z m (inside b.item b.member) (member-has z a.stack mz) b.named in
        stands-in seen y b.item b.member (older_shared a.stack b.item.stack y z (ways.ascend a m) my mz low same)

-- what passes down along a stack does so along a part of it
pub passes_down-part : (test : ℕ → Bool) (s u : List ℕ)
    → ((y : ℕ) → IsMember y u → IsMember y s)
    → PassesDown test s
    → PassesDown test u
passes_down-part test s u inside down y z my mz low here = down y z (inside y my) (inside z mz) low here

-- a member of a beginning is one of the list
pub member-take : {X : Type 0} → (k : ℕ) (x : X) (xs : List X) → IsMember x (take k xs) → IsMember x xs
member-take zero x [] m = m
member-take zero x (z ∷ zs) m = absurd m
member-take (suc k) x [] m = m
member-take (suc k) x (z ∷ zs) (inl same) = inl same
member-take (suc k) x (z ∷ zs) (inr m) = inr (member-take k x zs m)

-- an item whose stack is cut by a test
abbrev pub cut_by : (ℕ → Bool) → Item ℕ → Item ℕ
cut_by test a = record { state = a.state; stack = through test a.stack }

-- ways down a tree that are cut are such ways
pub cut_ways : (t : List (Item ℕ)) → AreWays t → AreWays (cut t)
cut_ways t ways = record {
  ascend = λ a m. ascends a (member-map_from (cut_by test) a t m);
  agree = λ a b y ma mb na nb. agrees a b y (member-map_from (cut_by test) a t ma)
      (member-map_from (cut_by test) b t mb)
      na nb;
}
  where
    test : ℕ → Bool
    test = is_full t

    ascends : (a : Item ℕ) → Image (cut_by test) a t → IsAscending a.stack
    ascends a i = subst (λ (v : Item ℕ). IsAscending v.stack) (sym i.holds)
        (through-ascending test i.from.stack (ways.ascend i.from i.member))

    agrees : (a b : Item ℕ) (y : ℕ)
        → Image (cut_by test) a t
        → Image (cut_by test) b t
        → has y a.stack ≡ true
        → has y b.stack ≡ true
        → up_to y a.stack ≡ up_to y b.stack
    agrees a b y i j na nb =
        let ni = subst (λ (v : Item ℕ). has y v.stack ≡ true) i.holds na in
        let nj = subst (λ (v : Item ℕ). has y v.stack ≡ true) j.holds nb in
        ap (λ (v : Item ℕ). up_to y v.stack) i.holds
        ∙ through-up_to test y i.from.stack ni
        ∙ ways.agree i.from j.from y i.member j.member (through-has test y i.from.stack ni)
        (through-has test y j.from.stack nj)
        ∙ sym (through-up_to test y j.from.stack nj)
        ∙ ap (λ (v : Item ℕ). up_to y v.stack) (sym j.holds)

-- ---- the flags of one stack

drop-none : (xs : List ℕ) → drop 0 xs ≡ xs
drop-none [] = refl
drop-none (x ∷ xs) = refl

pub drop_all : (s : List ℕ) (i : ℕ) → length s ≤ i → drop i s ≡ []
drop_all [] zero all = refl
drop_all [] (suc i) all = refl
drop_all (x ∷ xs) zero all = absurd (omega arith)
drop_all (x ∷ xs) (suc i) all = drop_all xs i (omega arith)

-- a name of a stack does not stand behind itself
not_behind : (s : List ℕ) (i : ℕ) → IsAscending s → i < length s → has (get_or s i 0) (drop (i + 1) s) ≡ false
not_behind [] i a low = absurd (omega arith)
not_behind (x ∷ xs) zero a low = ap (has x) (drop-none xs) ∙ none (cases_Bool (has x xs))
  where
    none : (has x xs ≡ true) ⊎ (has x xs ≡ false) → has x xs ≡ false
    none (inl t) = absurd (omega (arith, a.0 x (has-member x xs t)))
    none (inr f) = f
not_behind (x ∷ xs) (suc i) a low =
    let e : suc i + 1 ≡ suc (i + 1) = omega arith in
    ap (λ k. has (get_or xs i 0) (drop k (x ∷ xs))) e ∙ not_behind xs i a.1 (omega arith)

or-true : (b : Bool) → (b || true) ≡ true
or-true true = refl
or-true false = refl

-- a name that passes adds nothing
nothing_new : (test : ℕ → Bool) (x y : ℕ) (b : Bool)
    → test x ≡ true
    → (b || test y) ≡ ((eqb x y || b) || test y)
nothing_new test x y b t = by_name (cases_Bool (eqb x y))
  where
    by_name : (eqb x y ≡ true) ⊎ (eqb x y ≡ false) → (b || test y) ≡ ((eqb x y || b) || test y)
    by_name (inl e) =
        let passes : test y ≡ true = subst (λ w. test w ≡ true) (eqb-true x y e) t in
        ap (λ v. b || v) passes ∙ or-true b ∙ sym (ap (λ v. (eqb x y || b) || v) passes ∙ or-true (eqb x y || b))
    by_name (inr f) = sym (ap (λ v. (v || b) || test y) f)

-- where a name of the stack passes, all in front of it pass
front_passes : (test : ℕ → Bool) (s : List ℕ) (i : ℕ)
    → IsAscending s
    → PassesDown test s
    → i < length s
    → test (get_or s i 0) ≡ true
    → (y : ℕ)
    → (has y (drop (i + 1) s) || test y) ≡ (has y s || test y)
front_passes test [] i a down low t y = absurd (omega arith)
front_passes test (x ∷ xs) zero a down low t y =
    ap (λ l. has y l || test y) (drop-none xs) ∙ nothing_new test x y (has y xs) t
front_passes test (x ∷ xs) (suc i) a down low t y =
    let e : suc i + 1 ≡ suc (i + 1) = omega arith in
    let here = place-member xs i 0 (omega arith) in
    ap (λ k. has y (drop k (x ∷ xs)) || test y) e
    ∙ front_passes test xs i a.1 (λ v z mv mz. down v z (inr mv) (inr mz)) (omega arith) t y
    ∙ nothing_new test x y (has y xs) (down x (get_or xs i 0) (inl refl) (inr here) (a.0 (get_or xs i 0) here) t)

-- the flags are those that pass the test, and those of the names from the i-th on
abbrev pub FlagsFrom : (ℕ → Bool) → List ℕ → ℕ → List Bool → Type 0
FlagsFrom test s i flags = (y : ℕ) → flagged flags y ≡ (has y (drop i s) || test y)

pub flags-start : (flags : List Bool) (s : List ℕ) (i : ℕ) → length s ≤ i → FlagsFrom (flagged flags) s i flags
flags-start flags s i all y = sym (ap (λ l. has y l || flagged flags y) (drop_all s i all))

pub flags-more : (test : ℕ → Bool) (s : List ℕ) (i : ℕ) (flags : List Bool)
    → i < length s
    → get_or s i 0 < length flags
    → FlagsFrom test s (i + 1) flags
    → FlagsFrom test s i (set flags (get_or s i 0) true)
flags-more test s i flags low within before y =
    flag_set flags (get_or s i 0) y within
    ∙ ap (λ b. eqb (get_or s i 0) y || b) (before y)
    ∙ sym (or_assoc (eqb (get_or s i 0) y) (has y (drop (i + 1) s)) (test y))
    ∙ sym (ap (λ l. has y l || test y) (drop_more s i 0 low))

pub flags-whole : (test : ℕ → Bool) (s : List ℕ) (i : ℕ) (flags : List Bool)
    → i ≡ 0
    → FlagsFrom test s i flags
    → (y : ℕ)
    → flagged flags y ≡ (has y s || test y)
flags-whole test s i flags none before y =
    before y ∙ ap (λ k. has y (drop k s) || test y) none ∙ ap (λ l. has y l || test y) (drop-none s)

-- where a flag is set already, those of all older names are
pub flags-stop : (test : ℕ → Bool) (s : List ℕ) (i : ℕ) (flags : List Bool)
    → IsAscending s
    → PassesDown test s
    → i < length s
    → FlagsFrom test s (i + 1) flags
    → flagged flags (get_or s i 0) ≡ true
    → (y : ℕ)
    → flagged flags y ≡ (has y s || test y)
flags-stop test s i flags a down low before t y =
    let x = get_or s i 0 in
    let passes : test x ≡ true = sym (ap (λ b. b || test x) (not_behind s i a low)) ∙ sym (before x) ∙ t in
    before y ∙ front_passes test s i a down low passes y

-- ---- the flags of some stacks

pub or-swap : (a b : Bool) → (a || b) ≡ (b || (a || false))
or-swap true true = refl
or-swap true false = refl
or-swap false true = refl
or-swap false false = refl

-- the flags of the names of one stack more
pub stacks_flagged : (t : List (Item ℕ)) (k : ℕ) (d : Item ℕ) (old new : List Bool)
    → k < length t
    → ((y : ℕ) → flagged old y ≡ stands (take k t) y)
    → ((y : ℕ) → flagged new y ≡ (has y (get_or t k d).stack || flagged old y))
    → (y : ℕ)
    → flagged new y ≡ stands (take (k + 1) t) y
stacks_flagged t k d old new low before more y =
    more y
    ∙ ap (λ b. has y (get_or t k d).stack || b) (before y)
    ∙ or-swap (has y (get_or t k d).stack) (stands (take k t) y)
    ∙ sym (ap (λ ts. stands ts y) (take_more t k d low)
    ∙ list_any-append (λ (a : Item ℕ). has y a.stack) (take k t) (get_or t k d ∷ []))

nothing : (t : List (Item ℕ)) → take 0 t ≡ []
nothing [] = refl
nothing (a ∷ as') = refl

-- no stack
pub stacks_none : (t : List (Item ℕ)) (flags : List Bool)
    → ((y : ℕ) → flagged flags y ≡ false)
    → (y : ℕ)
    → flagged flags y ≡ stands (take 0 t) y
stacks_none t flags none y = none y ∙ ap (λ l. stands l y) (sym (nothing t))

-- all stacks
pub stacks_told : (t : List (Item ℕ)) (k : ℕ) (flags : List Bool)
    → length t ≤ k
    → ((y : ℕ) → flagged flags y ≡ stands (take k t) y)
    → (y : ℕ)
    → flagged flags y ≡ stands t y
stacks_told t k flags all told y = told y ∙ ap (λ l. stands l y) (take_all k t all)

-- along the next stack the flags of those before it pass down
pub stacks_down : (t : List (Item ℕ)) (k : ℕ) (d : Item ℕ) (flags : List Bool)
    → AreWays t
    → k < length t
    → ((y : ℕ) → flagged flags y ≡ stands (take k t) y)
    → PassesDown (flagged flags) (get_or t k d).stack
stacks_down t k d flags ways low told =
    subst (λ test. PassesDown test (get_or t k d).stack) (λ i y. sym (told y) i)
    (ways_down t (take k t) (get_or t k d) ways (place-member t k d low) (λ b m. member-take k b t m))
