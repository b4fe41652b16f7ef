-- Sets and rows of vertices, one more at a time.
--
--   insert_next          == a set into which an ascending list goes in its order is a front of the list
--   row_next, row_at     == a list made of a row vertex by vertex: one vertex more, and the one at a place
--   above-append         == one more than the greatest of two lists
--   above_next, places_next    == what the loops over rows keep
use Rattle.std.proofs.Common.{◌≡◌, ℕ, zero, suc, ◌+◌, ◌<◌, max, arith, ltb, eqb, cond, List, [], ◌∷◌, ◌++◌, length, get_or, take, drop, map, refl, sym, subst, ap, ◌∙◌, inl, inr, append_assoc}
use Rattle.std.proofs.lemmas.Bool.{cond-false, le-ltb, ne_eqb}
use Rattle.std.proofs.lemmas.List.{take_more, take-append-drop, map-append, append-nil}
use Rattle.std.proofs.Math.Seq.{drop-cons}
use Rattle.ml_lists.specs.Ascending.{IsAscending, insert_once}
use Rattle.ml_lists.specs.Member.{IsMember}
use Rattle.ml_lists.proofs.Member.{place-member}
use Rattle.ml_trace.specs.Stack.{Item}
use Rattle.ml_history.specs.private.Forest.{Forest, Empty, Tree, names, places, lies_at, below}
use Rattle.ml_history.specs.HistoryStep.{above}
use Rattle.ml_history.specs.private.TreeWalks.{behind}
use Rattle.ml_history.specs.private.Vertices.{Rooted, joined}

-- a number above all of a set goes to its end
insert_last : (x : ℕ) (xs : List ℕ) → ((y : ℕ) → IsMember y xs → y < x) → insert_once x xs ≡ xs ++ x ∷ []
insert_last x [] above = refl
insert_last x (y ∷ ys) above =
    let low = above y (inl refl) in
    let apart : x ≡ y → ⊥ = λ e. omega arith in
    cond-false (ltb x y) (x ∷ (y ∷ ys)) (cond (eqb x y) (y ∷ ys) (y ∷ insert_once x ys)) (le-ltb x y (omega arith))
    ∙ cond-false (eqb x y) (y ∷ ys) (y ∷ insert_once x ys) (ne_eqb x y apart)
    ∙ ap (λ zs. y ∷ zs) (insert_last x ys (λ z m. above z (inr m)))

-- the entries before a place of an ascending list are below the one there
before_lower : (s : List ℕ) (i : ℕ) → IsAscending s → i < length s → (y : ℕ) → IsMember y (take i s) → y < get_or s i 0
before_lower [] i up low y m = absurd (omega arith)
before_lower (x ∷ xs) zero up low y m = absurd m
before_lower (x ∷ xs) (suc i) up low y (inl e) =
    subst (λ v. v < get_or xs i 0) (sym e) (up.0 (get_or xs i 0) (place-member xs i 0 (omega arith)))
before_lower (x ∷ xs) (suc i) up low y (inr m) = before_lower xs i up.1 (omega arith) y m

-- a set into which an ascending list goes in its order is a front of the list
pub insert_next : (s xs : List ℕ) (i : ℕ)
    → IsAscending s
    → i < length s
    → xs ≡ take i s
    → insert_once (get_or s i 0) xs ≡ take (i + 1) s
insert_next s xs i up low e =
    ap (insert_once (get_or s i 0)) e ∙ insert_last (get_or s i 0) (take i s) (before_lower s i up low)
    ∙ sym (take_more s i 0 low)

-- ---- rows

-- a vertex as it is seen, from its parts
abbrev pub rooted : ℕ → List ℕ → Forest → Rooted
rooted age own children = record { age = age; own = own; children = children }

-- a list made of a row vertex by vertex
module _ {X : Type 0} (F : Forest → List X) (here : Rooted → List X) (empty : F Empty ≡ [])
    (part : (v : Rooted) (y : Forest) → F (Tree v.age v.own v.children y) ≡ here v ++ F y) where
  row_append : (vs ws : List Rooted) → F (joined (vs ++ ws)) ≡ F (joined vs) ++ F (joined ws)
  row_append [] ws = ap (λ l. l ++ F (joined ws)) (sym empty)
  row_append (v ∷ vs) ws =
      part v (joined (vs ++ ws)) ∙ ap (λ l. here v ++ l) (row_append vs ws)
      ∙ sym (append_assoc (here v) (F (joined vs)) (F (joined ws)))
      ∙ ap (λ l. l ++ F (joined ws)) (sym (part v (joined vs)))

  -- with one vertex more
  pub row_next : (s : List Rooted) (i : ℕ) (v : Rooted)
      → i < length s
      → v ≡ get_or s i v
      → F (joined (take (i + 1) s)) ≡ F (joined (take i s)) ++ here v
  row_next s i v low e =
      ap (λ vs. F (joined vs)) (take_more s i v low) ∙ row_append (take i s) (get_or s i v ∷ [])
      ∙ ap (λ u. F (joined (take i s)) ++ F (joined (u ∷ []))) (sym e)
      ∙ ap (λ l. F (joined (take i s)) ++ l) (part v Empty ∙ ap (λ l. here v ++ l) empty ∙ append-nil (here v))

  -- the one at a place
  pub row_at : (s : List Rooted) (i : ℕ) (v : Rooted)
      → i < length s
      → v ≡ get_or s i v
      → F (joined s) ≡ F (joined (take i s)) ++ (here v ++ F (joined (drop (suc i) s)))
  row_at s i v low e =
      ap (λ vs. F (joined vs)) (sym (take-append-drop i s)) ∙ row_append (take i s) (drop i s)
      ∙ ap (λ l. F (joined (take i s)) ++ F (joined l)) (drop-cons s i v low)
      ∙ ap (λ u. F (joined (take i s)) ++ F (joined (u ∷ drop (suc i) s))) (sym e)
      ∙ ap (λ l. F (joined (take i s)) ++ l) (part v (joined (drop (suc i) s)))

-- one more than the greatest of two lists
pub above-append : (xs ys : List ℕ) → above (xs ++ ys) ≡ max (above xs) (above ys)
above-append [] ys = omega arith
above-append (x ∷ xs) ys = let e = above-append xs ys in omega arith

-- ---- what the loops over rows keep

pub names_part : (v : Rooted) (y : Forest)
    → names (Tree v.age v.own v.children y) ≡ (names v.children ++ v.age ∷ []) ++ names y
names_part v y = sym (append_assoc (names v.children) (v.age ∷ []) (names y))

-- one more than the greatest age of a row with one vertex more
pub above_next : (s : List Rooted) (i age : ℕ) (own : List ℕ) (children : Forest) (v : Rooted)
    → rooted age own children ≡ v
    → i < length s
    → v ≡ get_or s i v
    → max (max (above (names (joined (take i s)))) (above (names children))) (age + 1)
    ≡ above (names (joined (take (i + 1) s)))
above_next s i age own children v view low at =
    let e : rooted age own children ≡ get_or s i (rooted age own children) =
    subst (λ u. u ≡ get_or s i u) (sym view) at in
    let one = ap above (row_next names (λ u. names u.children ++ u.age ∷ []) refl names_part s i
    (rooted age own children) low e) in
    let c = above-append (names children) (age ∷ []) in
    let d = above-append (names (joined (take i s))) (names children ++ age ∷ []) in
    omega arith

-- the places of the children, behind the age of their parent and what leads to it
behind-below : (path : List ℕ) (age : ℕ) (ps : List (Item ℕ))
    → map (behind path) (map (below age) ps) ≡ map (behind (path ++ age ∷ [])) ps
behind-below path age [] = refl
behind-below path age (p ∷ ps) =
    let first = append_assoc path (age ∷ []) p.stack in
    let rest = behind-below path age ps in
    λ i. record { state = p.state; stack = sym first i } ∷ rest i

behind-lies : (path : List ℕ) (age : ℕ) (qs : List ℕ)
    → map (behind path) (map (lies_at (age ∷ [])) qs) ≡ map (lies_at (path ++ age ∷ [])) qs
behind-lies path age [] = refl
behind-lies path age (q ∷ qs) = ap (λ l. lies_at (path ++ age ∷ []) q ∷ l) (behind-lies path age qs)

places_part : (v : Rooted) (y : Forest)
    → places (Tree v.age v.own v.children y)
    ≡ (map (below v.age) (places v.children) ++ map (lies_at (v.age ∷ [])) v.own) ++ places y
places_part v y = sym (append_assoc (map (below v.age) (places v.children)) (map (lies_at (v.age ∷ [])) v.own)
    (places y))

-- what is listed of a row with one vertex more
pub places_next : (path stack : List ℕ) (s : List Rooted) (i age : ℕ) (own : List ℕ) (children : Forest) (v : Rooted)
    (start before between after : List (Item ℕ))
    → rooted age own children ≡ v
    → i < length s
    → v ≡ get_or s i v
    → stack ≡ path ++ age ∷ []
    → before ≡ start ++ map (behind path) (places (joined (take i s)))
    → between ≡ before ++ map (behind stack) (places children)
    → after ≡ between ++ map (lies_at stack) own
    → after ≡ start ++ map (behind path) (places (joined (take (i + 1) s)))
places_next path stack s i age own children v start before between after view low at is p q r =
    let e : rooted age own children ≡ get_or s i (rooted age own children) =
    subst (λ u. u ≡ get_or s i u) (sym view) at in
    let one = row_next places (λ u. map (below u.age) (places u.children) ++ map (lies_at (u.age ∷ [])) u.own) refl
    places_part s i (rooted age own children) low e in
    let front = places (joined (take i s)) in
    let lower = map (below age) (places children) in
    let here = map (lies_at (age ∷ [])) own in
    r
    ∙ ap (λ l. l ++ map (lies_at stack) own) q
    ∙ append_assoc before (map (behind stack) (places children)) (map (lies_at stack) own)
    ∙ ap (λ l. l ++ (map (behind stack) (places children) ++ map (lies_at stack) own)) p
    ∙ ap (λ t. (start ++ map (behind path) front) ++ (map (behind t) (places children) ++ map (lies_at t) own)) is
    ∙ ap (λ l. (start ++ map (behind path) front) ++ (l ++ map (lies_at (path ++ age ∷ [])) own))
    (sym (behind-below path age (places children)))
    ∙ ap (λ l. (start ++ map (behind path) front) ++ (map (behind path) lower ++ l)) (sym (behind-lies path age own))
    ∙ ap (λ l. (start ++ map (behind path) front) ++ l) (sym (map-append (behind path) lower here))
    ∙ append_assoc start (map (behind path) front) (map (behind path) (lower ++ here))
    ∙ ap (λ l. start ++ l) (sym (map-append (behind path) front (lower ++ here)))
    ∙ ap (λ l. start ++ map (behind path) l) (sym one)
