-- Histories, by the parent of each name and the last name of each state.
--
-- The stack of a state is the chain of parents from its last name, since stacks agree up to a name that they share.
--
--   before d y s      == the name before y in the stack s; d where y is the first
--   parent_of h y     == the name before y in a stack that has it; y where it is the first, or in none
--   turned acc s      == the stack s backwards, before acc
--   tip s             == the last name of s
--   tip_of h q        == one more than the last name of the stack of q; 0 where it has none
--   IsChain p r       == in r each name is followed by its parent, which is less, and the last one is its own
--   same_chain        == a chain is told by its first name
--   same_histories    == histories with the same parents and the same last names are one
use Rattle.std.proofs.Common.{ℕ, suc, ◌≡◌, ◌≢◌, ◌+◌, ◌<◌, ◌==◌, ◌⊎◌, inl, inr, true, false, if◌then◌else◌, List, [], ◌∷◌, ◌++◌, map, get_or, refl, sym, ap, ◌∙◌, subst, arith, append-nil}
use Rattle.std.proofs.lemmas.Bool.{cases_Bool, cond-true, cond-false, eqb-true}
use Rattle.std.proofs.lemmas.Bool.Decides.{nat_tests}
use Rattle.ml_lists.specs.Ascending.{IsAscending}
use Rattle.ml_lists.specs.Member.{IsMember}
use Rattle.ml_trace.specs.Stack.{Item, has}
use Rattle.ml_trace.proofs.Stacks.{member-has}
use Rattle.ml_history.specs.History.{IsHistory, up_to}
use Rattle.ml_product.proofs.bound.KeyedLists.{keyed_below, keyed_same}

-- ---- parents

-- the name before y in the stack; d where y is the first
abbrev pub before : ℕ → ℕ → List ℕ → ℕ
before d y [] = d
before d y (x ∷ xs) = if x == y then d else before x y xs

-- it is in the stack, or d
before_low : (n d y : ℕ) (s : List ℕ) → d < n → ((z : ℕ) → IsMember z s → z < n) → before d y s < n
before_low n d y [] d_low low = d_low
before_low n d y (x ∷ xs) d_low low =
    by_test (cases_Bool (x == y)) (before_low n x y xs (low x (inl refl)) (λ z m. low z (inr m)))
  where
    by_test : ((x == y) ≡ true) ⊎ ((x == y) ≡ false) → before x y xs < n → before d y (x ∷ xs) < n
    by_test (inl same) rest = subst (λ k. k < n) (sym (cond-true (x == y) d (before x y xs) same)) d_low
    by_test (inr other) rest = subst (λ k. k < n) (sym (cond-false (x == y) d (before x y xs) other)) rest

-- it depends on the stack up to the name
before_up_to : (d y : ℕ) (s : List ℕ) → before d y s ≡ before d y (up_to y s)
before_up_to d y [] = refl
before_up_to d y (x ∷ xs) = by_test (cases_Bool (x == y)) (before_up_to x y xs)
  where
    by_test : ((x == y) ≡ true) ⊎ ((x == y) ≡ false) → before x y xs ≡ before x y (up_to y xs)
        → before d y (x ∷ xs) ≡ before d y (up_to y (x ∷ xs))
    by_test (inl same) rest =
        cond-true (x == y) d (before x y xs) same
        ∙ sym (cond-true (x == y) d (before x y []) same)
        ∙ ap (before d y) (sym (cond-true (x == y) (x ∷ []) (x ∷ up_to y xs) same))
    by_test (inr other) rest =
        cond-false (x == y) d (before x y xs) other
        ∙ rest
        ∙ sym (cond-false (x == y) d (before x y (up_to y xs)) other)
        ∙ ap (before d y) (sym (cond-false (x == y) (x ∷ []) (x ∷ up_to y xs) other))

-- the name before y in a stack that has it
abbrev pub parent_of : List (Item ℕ) → ℕ → ℕ
parent_of [] y = y
parent_of (a ∷ h) y = if has y a.stack then before y y a.stack else parent_of h y

pub parent_low : (n : ℕ) (h : List (Item ℕ)) (y : ℕ)
    → y < n
    → ((a : Item ℕ) → IsMember a h → (z : ℕ) → IsMember z a.stack → z < n)
    → parent_of h y < n
parent_low n [] y y_low low = y_low
parent_low n (a ∷ h) y y_low low =
    by_test (cases_Bool (has y a.stack)) (parent_low n h y y_low (λ b m. low b (inr m)))
  where
    by_test : (has y a.stack ≡ true) ⊎ (has y a.stack ≡ false) → parent_of h y < n → parent_of (a ∷ h) y < n
    by_test (inl here) rest =
        subst (λ k. k < n) (sym (cond-true (has y a.stack) (before y y a.stack) (parent_of h y) here))
        (before_low n y y a.stack y_low (low a (inl refl)))
    by_test (inr none) rest =
        subst (λ k. k < n) (sym (cond-false (has y a.stack) (before y y a.stack) (parent_of h y) none)) rest

-- in each stack that has it
parent_is : (h : List (Item ℕ)) (a : Item ℕ) (y : ℕ)
    → ((b : Item ℕ) → IsMember b h → has y b.stack ≡ true → up_to y b.stack ≡ up_to y a.stack)
    → IsMember a h
    → has y a.stack ≡ true
    → parent_of h y ≡ before y y a.stack
parent_is [] a y agree m named = absurd m
parent_is (b ∷ h) a y agree m named =
    by_test (cases_Bool (has y b.stack)) m (λ later. parent_is h a y (λ e i. agree e (inr i)) later named)
  where
    by_test : (has y b.stack ≡ true) ⊎ (has y b.stack ≡ false)
        → (a ≡ b) ⊎ IsMember a h
        → (IsMember a h → parent_of h y ≡ before y y a.stack)
        → parent_of (b ∷ h) y ≡ before y y a.stack
    by_test (inl here) at rest =
        cond-true (has y b.stack) (before y y b.stack) (parent_of h y) here
        ∙ before_up_to y y b.stack
        ∙ ap (before y y) (agree b (inl refl) here)
        ∙ sym (before_up_to y y a.stack)
    by_test (inr none) (inl same) rest =
        let both : has y b.stack ≡ true = subst (λ (x : Item ℕ). has y x.stack ≡ true) same named in absurd (cc)
    by_test (inr none) (inr later) rest = cond-false (has y b.stack) (before y y b.stack) (parent_of h y) none ∙ rest later

-- ---- stacks backwards

abbrev pub turned : List ℕ → List ℕ → List ℕ
turned acc [] = acc
turned acc (x ∷ xs) = turned (x ∷ acc) xs

turned_twice : (t acc s : List ℕ) → turned t (turned acc s) ≡ turned (s ++ t) acc
turned_twice t acc [] = refl
turned_twice t acc (x ∷ xs) = turned_twice t (x ∷ acc) xs

same_turned : (s t : List ℕ) → turned [] s ≡ turned [] t → s ≡ t
same_turned s t e =
    sym (turned_twice [] [] s ∙ append-nil s) ∙ ap (turned []) e ∙ (turned_twice [] [] t ∙ append-nil t)

turned_member : (z : ℕ) (acc s : List ℕ) → IsMember z (turned acc s) → IsMember z acc ⊎ IsMember z s
turned_member z acc [] m = inl m
turned_member z acc (x ∷ xs) m = from (turned_member z (x ∷ acc) xs m)
  where
    from : IsMember z (x ∷ acc) ⊎ IsMember z xs → IsMember z acc ⊎ IsMember z (x ∷ xs)
    from (inl (inl here)) = inr (inl here)
    from (inl (inr old)) = inl old
    from (inr later) = inr (inr later)

-- each name is followed by its parent, which is less, and the last one is its own
abbrev pub IsChain : (ℕ → ℕ) → List ℕ → Type 0
IsChain p [] = Unit {0}
IsChain p (y ∷ []) = p y ≡ y
IsChain p (y ∷ (x ∷ r)) = (p y ≡ x) × (x < y) × IsChain p (x ∷ r)

-- a chain is told by its first name
same_chain : (p q : ℕ → ℕ) (y : ℕ) (r t : List ℕ)
    → ((z : ℕ) → IsMember z (y ∷ r) → p z ≡ q z)
    → IsChain p (y ∷ r)
    → IsChain q (y ∷ t)
    → r ≡ t
same_chain p q y [] [] same is_r is_t = refl
same_chain p q y [] (x ∷ t) same is_r is_t =
    let one = same y (inl refl) in let two = is_t.0 in let less = is_t.1 in absurd (omega arith)
same_chain p q y (x ∷ r) [] same is_r is_t =
    let one = same y (inl refl) in let two = is_r.0 in let less = is_r.1 in absurd (omega arith)
same_chain p q y (x ∷ r) (z ∷ t) same is_r is_t =
    let here : z ≡ x = sym is_t.0 ∙ sym (same y (inl refl)) ∙ is_r.0 in
    let rest = same_chain p q x r t (λ w m. same w (inr m)) is_r.2 (subst (λ w. IsChain q (w ∷ t)) here is_t.2) in
    λ i. sym here i ∷ rest i

-- a stack backwards is a chain
turned_chain : (p : ℕ → ℕ) (d : ℕ) (acc s : List ℕ)
    → IsAscending (d ∷ s)
    → ((z : ℕ) → IsMember z s → p z ≡ before d z s)
    → IsChain p (d ∷ acc)
    → IsChain p (turned (d ∷ acc) s)
turned_chain p d acc [] up parents is = is
turned_chain p d acc (x ∷ xs) up parents is =
    turned_chain p x (d ∷ acc) xs up.1 later (here, up.0 x (inl refl), is)
  where
    here : p x ≡ d
    here =
        let test : (x == x) ≡ true = grind (arith, nat_tests) in
        parents x (inl refl) ∙ cond-true (x == x) d (before x x xs) test

    later : (z : ℕ) → IsMember z xs → p z ≡ before x z xs
    later z m =
        let less = up.1.0 z m in
        let test : (x == z) ≡ false = grind (arith, nat_tests) in
        parents z (inr m) ∙ cond-false (x == z) d (before x z xs) test

stack_chain : (p : ℕ → ℕ) (s : List ℕ)
    → IsAscending s
    → ((z : ℕ) → IsMember z s → p z ≡ before z z s)
    → IsChain p (turned [] s)
stack_chain p [] up parents = tt
stack_chain p (x ∷ xs) up parents = turned_chain p x [] xs up later here
  where
    here : p x ≡ x
    here =
        let test : (x == x) ≡ true = grind (arith, nat_tests) in
        parents x (inl refl) ∙ cond-true (x == x) x (before x x xs) test

    later : (z : ℕ) → IsMember z xs → p z ≡ before x z xs
    later z m =
        let less = up.0 z m in
        let test : (x == z) ≡ false = grind (arith, nat_tests) in
        parents z (inr m) ∙ cond-false (x == z) z (before x z xs) test

-- a stack with a name has one backwards
turned_empty : (x : ℕ) (acc s : List ℕ) → turned (x ∷ acc) s ≡ [] → ⊥
turned_empty x acc [] e = cc
turned_empty x acc (y ∷ s) e = turned_empty y (x ∷ acc) s e

turned_some : (s : List ℕ) → s ≢ [] → turned [] s ≢ []
turned_some [] some e = some refl
turned_some (x ∷ s) some e = turned_empty x [] s e

-- ---- last names

abbrev pub tip_in : List ℕ → ℕ
tip_in r = get_or r 0 0

-- the last name of the stack
abbrev pub tip : List ℕ → ℕ
tip s = tip_in (turned [] s)

-- one more than the last name of the stack of q; 0 where it has none
abbrev pub tip_of : List (Item ℕ) → ℕ → ℕ
tip_of [] q = 0
tip_of (a ∷ h) q = if a.state == q then suc (tip a.stack) else tip_of h q

tip_low : (n : ℕ) (s : List ℕ) → s ≢ [] → ((z : ℕ) → IsMember z s → z < n) → tip s < n
tip_low n s some low = by_turned (turned [] s) refl
  where
    from : (z : ℕ) → IsMember z [] ⊎ IsMember z s → z < n
    from z (inl none) = absurd none
    from z (inr m) = low z m

    by_turned : (r : List ℕ) → turned [] s ≡ r → tip_in r < n
    by_turned [] e = absurd (turned_some s some e)
    by_turned (z ∷ r) e = from z (turned_member z [] s (subst (IsMember z) (sym e) (inl refl)))

pub tip_of_low : (n : ℕ) (h : List (Item ℕ)) (q : ℕ)
    → ((a : Item ℕ) → IsMember a h → a.stack ≢ [])
    → ((a : Item ℕ) → IsMember a h → (z : ℕ) → IsMember z a.stack → z < n)
    → tip_of h q < n + 1
tip_of_low n [] q some low = omega arith
tip_of_low n (a ∷ h) q some low =
    by_test (cases_Bool (a.state == q)) (tip_low n a.stack (some a (inl refl)) (low a (inl refl)))
    (tip_of_low n h q (λ b m. some b (inr m)) (λ b m. low b (inr m)))
  where
    by_test : ((a.state == q) ≡ true) ⊎ ((a.state == q) ≡ false)
        → tip a.stack < n
        → tip_of h q < n + 1
        → tip_of (a ∷ h) q < n + 1
    by_test (inl here) fits rest =
        subst (λ k. k < n + 1) (sym (cond-true (a.state == q) (suc (tip a.stack)) (tip_of h q) here)) (omega arith)
    by_test (inr other) fits rest =
        subst (λ k. k < n + 1) (sym (cond-false (a.state == q) (suc (tip a.stack)) (tip_of h q) other)) rest

-- the last name of an item's state is that of its stack
tip_is : (h : List (Item ℕ)) (a : Item ℕ)
    → IsAscending (map (λ (b : Item ℕ). b.state) h)
    → IsMember a h
    → tip_of h a.state ≡ suc (tip a.stack)
tip_is [] a up m = absurd m
tip_is (b ∷ h) a up (inl here) =
    let states : b.state ≡ a.state = ap (λ (x : Item ℕ). x.state) (sym here) in
    let test : (b.state == a.state) ≡ true = grind (arith, nat_tests) in
    cond-true (b.state == a.state) (suc (tip b.stack)) (tip_of h a.state) test
    ∙ ap (λ (x : Item ℕ). suc (tip x.stack)) (sym here)
tip_is (b ∷ h) a up (inr later) =
    let less = keyed_below (λ (x : Item ℕ). x.state) b h up a later in
    let test : (b.state == a.state) ≡ false = grind (arith, nat_tests) in
    cond-false (b.state == a.state) (suc (tip b.stack)) (tip_of h a.state) test ∙ tip_is h a up.1 later

-- an item of the state, with that last name
record Tipped (h : List (Item ℕ)) (q k : ℕ) : Type 0 where
  pub item : Item ℕ
  pub member : IsMember item h
  pub state_is : item.state ≡ q
  pub tip_is_so : tip item.stack ≡ k

tip_from : (h : List (Item ℕ)) (q k : ℕ) → tip_of h q ≡ suc k → Tipped h q k
tip_from [] q k e = absurd (omega arith)
tip_from (a ∷ h) q k e = by_test (cases_Bool (a.state == q)) (tip_from h q k)
  where
    longer : Tipped h q k → Tipped (a ∷ h) q k
    longer t = record { item = t.item; member = inr t.member; state_is = t.state_is; tip_is_so = t.tip_is_so }

    by_test : ((a.state == q) ≡ true) ⊎ ((a.state == q) ≡ false)
        → (tip_of h q ≡ suc k → Tipped h q k)
        → Tipped (a ∷ h) q k
    by_test (inl here) rest =
        let same : suc (tip a.stack) ≡ suc k = sym (cond-true (a.state == q) (suc (tip a.stack)) (tip_of h q) here) ∙ e in
        record { item = a; member = inl refl; state_is = eqb-true a.state q here; tip_is_so = omega arith }
    by_test (inr other) rest = longer (rest (sym (cond-false (a.state == q) (suc (tip a.stack)) (tip_of h q) other) ∙ e))

-- ---- histories

-- in a history the stacks backwards are chains
history_chain : (h : List (Item ℕ))
    → IsHistory h
    → (a : Item ℕ)
    → IsMember a h
    → IsChain (parent_of h) (turned [] a.stack)
history_chain h is a m =
    stack_chain (parent_of h) a.stack (is.stacks_ascend a m)
    (λ z i. parent_is h a z (λ b b_in named. is.agree b a z b_in m named (member-has z a.stack i)) m (member-has z a.stack i))

same_stack : (p q : ℕ → ℕ) (r t : List ℕ)
    → r ≢ []
    → t ≢ []
    → ((z : ℕ) → IsMember z r → p z ≡ q z)
    → IsChain p r
    → IsChain q t
    → tip_in r ≡ tip_in t
    → r ≡ t
same_stack p q [] t some_r some_t same is_r is_t tips = absurd (some_r refl)
same_stack p q (y ∷ r) [] some_r some_t same is_r is_t tips = absurd (some_t refl)
same_stack p q (y ∷ r) (z ∷ t) some_r some_t same is_r is_t tips =
    let rest = same_chain p q y r t same is_r (subst (λ w. IsChain q (w ∷ t)) (sym tips) is_t) in
    λ i. tips i ∷ rest i

-- an item of one history is one of the other
item_in : (n : ℕ) (h k : List (Item ℕ))
    → IsHistory h
    → IsHistory k
    → ((a : Item ℕ) → IsMember a h → a.state < n)
    → ((a : Item ℕ) → IsMember a h → (z : ℕ) → IsMember z a.stack → z < n)
    → ((y : ℕ) → y < n → parent_of h y ≡ parent_of k y)
    → ((q : ℕ) → q < n → tip_of h q ≡ tip_of k q)
    → (a : Item ℕ)
    → IsMember a h
    → IsMember a k
item_in n h k is_h is_k states names parents tips a m =
    from (tip_from k a.state (tip a.stack) (sym (tips a.state (states a m)) ∙ tip_is h a is_h.states_ascend m))
  where
    named : (z : ℕ) → IsMember z [] ⊎ IsMember z a.stack → z < n
    named z (inl none) = absurd none
    named z (inr i) = names a m z i

    from : Tipped k a.state (tip a.stack) → IsMember a k
    from t =
        let backwards = same_stack (parent_of h) (parent_of k) (turned [] a.stack) (turned [] t.item.stack)
        (turned_some a.stack (is_h.not_empty a m)) (turned_some t.item.stack (is_k.not_empty t.item t.member))
        (λ z i. parents z (named z (turned_member z [] a.stack i)))
        (history_chain h is_h a m) (history_chain k is_k t.item t.member) (sym t.tip_is_so) in
        let stacks = same_turned a.stack t.item.stack backwards in
        subst (λ (b : Item ℕ). IsMember b k) (λ i. record { state = t.state_is i; stack = sym stacks i }) t.member

-- histories with the same parents and the same last names are one
pub same_histories : (n : ℕ) (h k : List (Item ℕ))
    → IsHistory h
    → IsHistory k
    → ((a : Item ℕ) → IsMember a h → a.state < n)
    → ((a : Item ℕ) → IsMember a k → a.state < n)
    → ((a : Item ℕ) → IsMember a h → (z : ℕ) → IsMember z a.stack → z < n)
    → ((a : Item ℕ) → IsMember a k → (z : ℕ) → IsMember z a.stack → z < n)
    → ((y : ℕ) → y < n → parent_of h y ≡ parent_of k y)
    → ((q : ℕ) → q < n → tip_of h q ≡ tip_of k q)
    → h ≡ k
same_histories n h k is_h is_k states_h states_k names_h names_k parents tips =
    keyed_same (λ (a : Item ℕ). a.state) h k is_h.states_ascend is_k.states_ascend
    (item_in n h k is_h is_k states_h names_h parents tips)
    (item_in n k h is_k is_h states_k names_k (λ y low. sym (parents y low)) (λ q low. sym (tips q low)))
