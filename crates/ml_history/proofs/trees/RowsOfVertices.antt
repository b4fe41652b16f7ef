-- Rows of vertices in the program: what its loops over them keep, and what lies beside what.
--
--   states_next     == the states that were gathered, with one vertex more
--   joined-append   == a row behind a row stands for the one forest beside the other
--   row_names_here, row_names_below == the names of a vertex of a row, and of those below it, are names of the row
--   laid_own, laid_full, laid_none == a row with a vertex laid beside it
use Rattle.std.proofs.Common.{ℕ, suc, ◌≡◌, ◌+◌, ◌<◌, inl, arith, Bool, true, false, eqb, List, [], ◌∷◌, ◌++◌, length, get_or, take, drop, refl, sym, subst, ap, ◌∙◌, append_assoc}
use Rattle.std.proofs.lemmas.Bool.{eqb-true}
use denote.Param.Weighed.{most, at_most}
use Rattle.ml_lists.specs.Member.{IsMember}
use Rattle.ml_lists.proofs.Member.{member-append_left, member-append_right}
use Rattle.ml_history.specs.private.Forest.{Forest, Empty, Tree, names, states}
use Rattle.ml_history.specs.private.TreeStep.{lay, lay_full, beside}
use Rattle.ml_history.specs.private.Vertices.{Rooted, joined, vertices, most-vertices}
use Rattle.ml_history.proofs.trees.GrowingRows.{rooted, row_next, row_at, names_part}

states_part : (v : Rooted) (y : Forest)
    → states (Tree v.age v.own v.children y) ≡ (states v.children ++ v.own) ++ states y
states_part v y = sym (append_assoc (states v.children) v.own (states y))

-- the states that were gathered, with one vertex more
pub states_next : (s : List Rooted) (i age : ℕ) (own : List ℕ) (children : Forest) (v : Rooted)
    (start before between after : List ℕ)
    → rooted age own children ≡ v
    → i < length s
    → v ≡ get_or s i v
    → before ≡ start ++ states (joined (take i s))
    → between ≡ before ++ states children
    → after ≡ between ++ own
    → after ≡ start ++ states (joined (take (i + 1) s))
states_next s i age own children v start before between after view low at p q r =
    let e : rooted age own children ≡ get_or s i (rooted age own children) =
    subst (λ u. u ≡ get_or s i u) (sym view) at in
    let one = row_next states (λ u. states u.children ++ u.own) refl states_part s i (rooted age own children) low e in
    r
    ∙ ap (λ l. l ++ own) (q ∙ ap (λ l. l ++ states children) p)
    ∙ append_assoc (start ++ states (joined (take i s))) (states children) own
    ∙ append_assoc start (states (joined (take i s))) (states children ++ own)
    ∙ ap (λ l. start ++ l) (sym one)

-- ---- rows beside rows

-- a row behind a row stands for the one forest beside the other
pub joined-append : (vs ws : List Rooted) → joined (vs ++ ws) ≡ beside (joined vs) (joined ws)
joined-append [] ws = refl
joined-append (v ∷ vs) ws = ap (Tree v.age v.own v.children) (joined-append vs ws)

pub beside-empty : (f : Forest) → beside f Empty ≡ f
beside-empty Empty = refl
beside-empty (Tree a o c y) = ap (Tree a o c) (beside-empty y)

pub beside-assoc : (f g h : Forest) → beside (beside f g) h ≡ beside f (beside g h)
beside-assoc Empty g h = refl
beside-assoc (Tree a o c y) g h = ap (Tree a o c) (beside-assoc y g h)

-- a row with one vertex more
pub joined-push : (vs : List Rooted) (age : ℕ) (own : List ℕ) (children : Forest)
    → joined (vs ++ rooted age own children ∷ []) ≡ beside (joined vs) (Tree age own children Empty)
joined-push vs age own children = joined-append vs (rooted age own children ∷ [])

-- ---- a vertex that is laid beside others

-- what the length of a list says of it
some_of : (xs : List ℕ) (b : Bool) → b ≡ eqb (length xs) 0 → b ≡ false → xs ≡ [] → ⊥
some_of [] b e f nil = let t : eqb 0 0 ≡ true = refl in cc
some_of (x ∷ xs) b e f nil = cc

none_of : (xs : List ℕ) (b : Bool) → b ≡ eqb (length xs) 0 → b ≡ true → xs ≡ []
none_of [] b e t = refl
none_of (x ∷ xs) b e t = let l = eqb-true (length (x ∷ xs)) 0 (sym e ∙ t) in absurd (omega arith)

-- one at which some state lies is laid as it is
pub laid_own : (age : ℕ) (own : List ℕ) (children : Forest) (before after : List Rooted) (b : Bool)
    → b ≡ eqb (length own) 0
    → b ≡ false
    → after ≡ before ++ rooted age own children ∷ []
    → joined after ≡ beside (joined before) (lay age own children Empty)
laid_own age own children before after b e f is = ap joined is ∙ joined-push before age own children
    ∙ ap (beside (joined before)) (as_it_is own (some_of own b e f))
  where
    as_it_is : (own : List ℕ) → (own ≡ [] → ⊥) → Tree age own children Empty ≡ lay age own children Empty
    as_it_is [] some = absurd (some refl)
    as_it_is (q ∷ qs) some = refl

-- one at which none lies, over some states
pub laid_full : (age : ℕ) (own : List ℕ) (children : Forest) (all : List ℕ) (before after : List Rooted) (b d : Bool)
    → b ≡ eqb (length own) 0
    → b ≡ true
    → all ≡ states children
    → d ≡ eqb (length all) 0
    → d ≡ false
    → after ≡ before ++ rooted age all Empty ∷ []
    → joined after ≡ beside (joined before) (lay age own children Empty)
laid_full age own children all before after b d e t is g f made =
    ap joined made ∙ joined-push before age all Empty
    ∙ ap (beside (joined before)) (takes_all all (some_of all d g f) ∙ ap (λ qs. lay_full age qs Empty) is
    ∙ ap (λ o. lay age o children Empty) (sym (none_of own b e t)))
  where
    takes_all : (qs : List ℕ) → (qs ≡ [] → ⊥) → Tree age qs Empty Empty ≡ lay_full age qs Empty
    takes_all [] some = absurd (some refl)
    takes_all (q ∷ qs) some = refl

-- one at which none lies, over none
pub laid_none : (age : ℕ) (own : List ℕ) (children : Forest) (all : List ℕ) (before : List Rooted) (b d : Bool)
    → b ≡ eqb (length own) 0
    → b ≡ true
    → all ≡ states children
    → d ≡ eqb (length all) 0
    → d ≡ true
    → joined before ≡ beside (joined before) (lay age own children Empty)
laid_none age own children all before b d e t is g h =
    sym (beside-empty (joined before))
    ∙ ap (beside (joined before)) (ap (λ qs. lay_full age qs Empty) (sym (none_of all d g h) ∙ is)
    ∙ ap (λ o. lay age o children Empty) (sym (none_of own b e t)))

-- ---- names of a row

-- the name of a vertex of a row, and those below it, are names of the row
pub row_names : (s : List Rooted) (i age : ℕ) (own : List ℕ) (children : Forest) (v : Rooted)
    → rooted age own children ≡ v
    → i < length s
    → v ≡ get_or s i v
    → (x : ℕ)
    → IsMember x (names children ++ age ∷ [])
    → IsMember x (names (joined s))
row_names s i age own children v view low at x m =
    let e : rooted age own children ≡ get_or s i (rooted age own children) =
    subst (λ u. u ≡ get_or s i u) (sym view) at in
    let parts = row_at names (λ u. names u.children ++ u.age ∷ []) refl names_part s i (rooted age own children) low
    e in
    subst (IsMember x) (sym parts)
    (member-append_right x (names (joined (take i s))) ((names children ++ age ∷ []) ++ names (joined (drop (suc i) s)))
    (member-append_left x (names children ++ age ∷ []) (names (joined (drop (suc i) s))) m))

pub row_names_below : (s : List Rooted) (i age : ℕ) (own : List ℕ) (children : Forest) (v : Rooted)
    → rooted age own children ≡ v
    → i < length s
    → v ≡ get_or s i v
    → (x : ℕ)
    → IsMember x (names children)
    → IsMember x (names (joined s))
row_names_below s i age own children v view low at x m =
    row_names s i age own children v view low at x (member-append_left x (names children) (age ∷ []) m)

pub row_names_here : (s : List Rooted) (i age : ℕ) (own : List ℕ) (children : Forest) (v : Rooted)
    → rooted age own children ≡ v
    → i < length s
    → v ≡ get_or s i v
    → IsMember age (names (joined s))
row_names_here s i age own children v view low at =
    row_names s i age own children v view low at age (member-append_right age (names children) (age ∷ []) (inl refl))

-- ---- the measure of a walk over rows

-- the children of a vertex of a row are smaller than the row
pub row_falls : (s : List Rooted) (i age : ℕ) (own : List ℕ) (cs row : List Rooted) (v : Rooted)
    → rooted age own (joined cs) ≡ v
    → i < length s
    → v ≡ get_or s i v
    → row ≡ cs
    → most (λ u. vertices u.children + 1) row < most (λ u. vertices u.children + 1) s
row_falls s i age own cs row v view low at is =
    let inner = most-vertices row in
    let same = ap (λ vs. vertices (joined vs)) is in
    let here = ap (λ u. vertices u.children) (view ∙ at) in
    let one = at_most (λ (u : Rooted). vertices u.children + 1) s i v low in
    omega arith
