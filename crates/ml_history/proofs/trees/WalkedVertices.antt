-- What the walk over a tree makes, vertex by vertex.
--
--   laid-nothing, laid-vertex, laid-beside == of no vertex, of one over its children, of siblings beside others
--   moved-beside, moved-behind             == the tree of all offers of siblings beside others, and with a new child
--   laid_next                              == of a row with one vertex more
use Rattle.std.proofs.Common.{ℕ, ◌≡◌, ◌+◌, ◌<◌, Bool, true, false, List, [], ◌∷◌, ◌++◌, length, get_or, take, refl, sym, subst, ap, ◌∙◌, append_assoc}
use Rattle.std.proofs.lemmas.List.{append-nil, take_more}
use Rattle.std.specs.List.{flat_map}
use Rattle.ml_history.specs.private.Forest.{Forest, Empty, Tree, states}
use Rattle.ml_history.specs.private.TreeStep.{moved, with_all, news, fresh, lay_full, lay, settled, full_here, fulls, beside, Laid}
use Rattle.ml_history.specs.private.Vertices.{Rooted, joined}
use Rattle.ml_history.proofs.trees.GrowingRows.{rooted}
use Rattle.ml_history.proofs.trees.TreeOfOffers.{new_child}
use Rattle.ml_history.proofs.trees.RowsOfVertices.{joined-append}
use Rattle.ml_history.proofs.trees.SeenStates.{with_all-append}
use Rattle.ml_history.proofs.trees.VerticalMerge.{settled-states}

-- ---- siblings beside others

states-beside : (f g : Forest) → states (beside f g) ≡ states f ++ states g
states-beside Empty g = refl
states-beside (Tree a o c y) g =
    ap (λ v. states c ++ (o ++ v)) (states-beside y g)
    ∙ ap (λ v. states c ++ v) (sym (append_assoc o (states y) (states g)))
    ∙ sym (append_assoc (states c) (o ++ states y) (states g))

fresh-beside : (seen : ℕ → Bool) (f g : Forest)
    → fresh seen (beside f g) ≡ beside (fresh seen f) (fresh (with_all (states f) seen) g)
fresh-beside seen Empty g = refl
fresh-beside seen (Tree a o c y) g =
    let all = with_all o (with_all (states c) seen) in
    let tests : with_all (states y) (with_all o (with_all (states c) seen))
    ≡ with_all (states c ++ (o ++ states y)) seen =
    sym (with_all-append (states c) (o ++ states y) seen ∙ with_all-append o (states y) (with_all (states c) seen))
    in
    ap (Tree a (news (with_all (states c) seen) o) (fresh seen c))
    (fresh-beside (with_all o (with_all (states c) seen)) y g)
    ∙ ap (λ test. Tree a (news (with_all (states c) seen) o) (fresh seen c)
    (beside (fresh (with_all o (with_all (states c) seen)) y) (fresh test g))) tests

lay-beside : (a : ℕ) (o : List ℕ) (c y g : Forest) → lay a o c (beside y g) ≡ beside (lay a o c y) g
lay-beside a [] c y g = by_states (states c)
  where
    by_states : (qs : List ℕ) → lay_full a qs (beside y g) ≡ beside (lay_full a qs y) g
    by_states [] = refl
    by_states (q ∷ qs) = refl
lay-beside a (p ∷ ps) c y g = refl

settled-beside : (f g : Forest) → settled (beside f g) ≡ beside (settled f) (settled g)
settled-beside Empty g = refl
settled-beside (Tree a o c y) g = ap (lay a o (settled c)) (settled-beside y g)
    ∙ lay-beside a o (settled c) (settled y) (settled g)

fulls-beside : (f g : Forest) → fulls (beside f g) ≡ fulls f ++ fulls g
fulls-beside Empty g = refl
fulls-beside (Tree a o c y) g =
    ap (λ v. fulls c ++ (full_here a o (states c) ++ v)) (fulls-beside y g)
    ∙ ap (λ v. fulls c ++ v) (sym (append_assoc (full_here a o (states c)) (fulls y) (fulls g)))
    ∙ sym (append_assoc (fulls c) (full_here a o (states c) ++ fulls y) (fulls g))

-- the tree of all offers of siblings beside others
pub moved-beside : (r : ℕ) (to : Bool → ℕ → List ℕ) (f g : Forest)
    → moved r to Empty (beside f g) ≡ beside (moved r to Empty f) (moved r to Empty g)
moved-beside r to Empty g = refl
moved-beside r to (Tree a o c y) g =
    ap (Tree a (flat_map (to false) o) (moved r to (new_child r to a o) c)) (moved-beside r to y g)

-- and with roots behind those of the forest
pub moved-behind : (r : ℕ) (to : Bool → ℕ → List ℕ) (tail f : Forest)
    → moved r to tail f ≡ beside (moved r to Empty f) tail
moved-behind r to tail Empty = refl
moved-behind r to tail (Tree a o c y) =
    ap (Tree a (flat_map (to false) o) (moved r to (new_child r to a o) c)) (moved-behind r to tail y)

-- ---- what a walk makes

-- of no vertex
pub laid-nothing : (seen : ℕ → Bool) (full : List ℕ) → Laid seen full Empty Empty seen full
laid-nothing seen full = record { row_is = refl; seen_is = refl; full_is = sym (append-nil full) }

-- of siblings beside others
pub laid-beside : (seen0 seen1 seen2 : ℕ → Bool) (full0 full1 full2 : List ℕ) (f g row1 row2 : Forest)
    → Laid seen0 full0 f row1 seen1 full1
    → Laid seen1 full1 g row2 seen2 full2
    → Laid seen0 full0 (beside f g) (beside row1 row2) seen2 full2
laid-beside seen0 seen1 seen2 full0 full1 full2 f g row1 row2 l m = record {
  row_is =
      (λ i. beside (l.row_is i) (m.row_is i))
      ∙ ap (λ test. beside (settled (fresh seen0 f)) (settled (fresh test g))) l.seen_is
      ∙ sym (ap settled (fresh-beside seen0 f g)
      ∙ settled-beside (fresh seen0 f) (fresh (with_all (states f) seen0) g));
  seen_is =
      m.seen_is
      ∙ ap (with_all (states g)) l.seen_is
      ∙ sym (with_all-append (states f) (states g) seen0)
      ∙ ap (λ v. with_all v seen0) (sym (states-beside f g));
  full_is =
      m.full_is
      ∙ ap (λ v. v ++ fulls (fresh seen1 g)) l.full_is
      ∙ append_assoc full0 (fulls (fresh seen0 f)) (fulls (fresh seen1 g))
      ∙ ap (λ test. full0 ++ (fulls (fresh seen0 f) ++ fulls (fresh test g))) l.seen_is
      ∙ ap (λ v. full0 ++ v)
      (sym (ap fulls (fresh-beside seen0 f g)
      ∙ fulls-beside (fresh seen0 f) (fresh (with_all (states f) seen0) g)));
}

-- of one vertex over its children
pub laid-vertex : (seen0 seen1 seen2 : ℕ → Bool) (full0 full1 full2 : List ℕ) (a : ℕ) (o own : List ℕ) (c row : Forest)
    → Laid seen0 full0 c row seen1 full1
    → own ≡ news seen1 o
    → seen2 ≡ with_all o seen1
    → full2 ≡ full1 ++ full_here a own (states row)
    → Laid seen0 full0 (Tree a o c Empty) (lay a own row Empty) seen2 full2
laid-vertex seen0 seen1 seen2 full0 full1 full2 a o own c row l news_are seen_are full_are = record {
  row_is = (λ i. lay a ((news_are ∙ ap (λ test. news test o) l.seen_is) i) (l.row_is i) Empty);
  seen_is =
      seen_are
      ∙ ap (with_all o) l.seen_is
      ∙ sym (with_all-append (states c) o seen0)
      ∙ ap (λ v. with_all (states c ++ v) seen0) (sym (append-nil o));
  full_is =
      full_are
      ∙ (λ i. l.full_is i ++ full_here a ((news_are ∙ ap (λ test. news test o) l.seen_is) i)
      ((ap states l.row_is ∙ settled-states (fresh seen0 c)) i))
      ∙ append_assoc full0 (fulls (fresh seen0 c))
      (full_here a (news (with_all (states c) seen0) o) (states (fresh seen0 c)))
      ∙ ap (λ v. full0 ++ (fulls (fresh seen0 c) ++ v))
      (sym (append-nil (full_here a (news (with_all (states c) seen0) o) (states (fresh seen0 c)))));
}

-- of a row with one vertex more: the children, the new child for accepted states, and the vertex
module _ (r : ℕ) (to : Bool → ℕ → List ℕ) (s : List Rooted) (i age : ℕ) (own : List ℕ) (children : List Rooted)
    (v : Rooted) (low : i < length s) (at : v ≡ get_or s i v) (view : rooted age own (joined children) ≡ v) where
  row_with : joined (take (i + 1) s) ≡ beside (joined (take i s)) (Tree age own (joined children) Empty)
  row_with =
      ap joined (take_more s i v low)
      ∙ joined-append (take i s) (get_or s i v ∷ [])
      ∙ ap (λ (u : Rooted). beside (joined (take i s)) (joined (u ∷ []))) (sym at ∙ sym view)

  all_with : moved r to Empty (joined (take (i + 1) s))
      ≡ beside (moved r to Empty (joined (take i s)))
      (Tree age (flat_map (to false) own) (beside (moved r to Empty (joined children)) (new_child r to age own)) Empty)
  all_with =
      ap (moved r to Empty) row_with
      ∙ moved-beside r to (joined (take i s)) (Tree age own (joined children) Empty)
      ∙ ap (λ c. beside (moved r to Empty (joined (take i s))) (Tree age (flat_map (to false) own) c Empty))
      (moved-behind r to (new_child r to age own) (joined children))

  pub laid_next : (seen0 seen1 seen2 seen3 seen4 : ℕ → Bool) (full0 full1 full2 full3 full4 : List ℕ)
      (before row1 row2 after : List Rooted) (accepted kept : List ℕ)
      → Laid seen0 full0 (moved r to Empty (joined (take i s))) (joined before) seen1 full1
      → Laid seen1 full1 (moved r to Empty (joined children)) (joined row1) seen2 full2
      → accepted ≡ news seen2 (flat_map (to true) own) → seen3 ≡ with_all (flat_map (to true) own) seen2
      → joined row2 ≡ beside (joined row1) (lay (r + age) accepted Empty Empty) → full3
      ≡ full2 ++ full_here (r + age) accepted []
      → kept ≡ news seen3 (flat_map (to false) own) → seen4 ≡ with_all (flat_map (to false) own) seen3
      → joined after ≡ beside (joined before) (lay age kept (joined row2) Empty) → full4
      ≡ full3 ++ full_here age kept (states (joined row2))
      → Laid seen0 full0 (moved r to Empty (joined (take (i + 1) s))) (joined after) seen4 full4
  laid_next seen0 seen1 seen2 seen3 seen4 full0 full1 full2 full3 full4 before row1 row2 after accepted kept done walked
      accepted_are seen3_is row2_is full3_is kept_are seen4_is after_is full4_is =
      let new_one = laid-vertex seen2 seen2 seen3 full2 full2 full3 (r + age) (flat_map (to true) own) accepted Empty
      Empty (laid-nothing seen2 full2) accepted_are seen3_is full3_is in
      let both = laid-beside seen1 seen2 seen3 full1 full2 full3 (moved r to Empty (joined children))
      (new_child r to age own) (joined row1) (lay (r + age) accepted Empty Empty) walked new_one in
      let below : Laid seen1 full1 (beside (moved r to Empty (joined children)) (new_child r to age own)) (joined row2)
      seen3 full3 =
      subst (λ row. Laid seen1 full1 (beside (moved r to Empty (joined children)) (new_child r to age own)) row seen3
      full3) (sym row2_is) both
      in
      let vertex = laid-vertex seen1 seen3 seen4 full1 full3 full4 age (flat_map (to false) own) kept
      (beside (moved r to Empty (joined children)) (new_child r to age own)) (joined row2) below kept_are seen4_is
      full4_is in
      let whole = laid-beside seen0 seen1 seen4 full0 full1 full4 (moved r to Empty (joined (take i s)))
      (Tree age (flat_map (to false) own) (beside (moved r to Empty (joined children)) (new_child r to age own))
      Empty) (joined before) (lay age kept (joined row2) Empty) done vertex in
      let there : Laid seen0 full0 (moved r to Empty (joined (take (i + 1) s)))
      (beside (joined before) (lay age kept (joined row2) Empty)) seen4 full4 =
      subst (λ f. Laid seen0 full0 f (beside (joined before) (lay age kept (joined row2) Empty)) seen4 full4)
      (sym all_with) whole
      in
      subst (λ row. Laid seen0 full0 (moved r to Empty (joined (take (i + 1) s))) row seen4 full4) (sym after_is) there
