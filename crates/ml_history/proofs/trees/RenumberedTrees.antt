-- New ages, and the states of each vertex in their order.
--
--   number_by            == an item with new numbers of its names
--   renewed-from, renewed-has == the places of the renewed tree are those of the tree, renumbered
--   renewed-names        == its names are those of the tree, renumbered
--   renewed-apart        == no state lies in it twice, where none lies twice in the tree
--   renewed-rise, renewed-owns, renewed-root == what it keeps
use Rattle.std.proofs.Common.{ℕ, ◌≡◌, ◌≢◌, ◌+◌, ◌≤◌, ◌⊎◌, inl, inr, arith, List, [], ◌∷◌, ◌++◌, map, refl, sym, subst, ap, ◌∙◌}
use Rattle.std.proofs.lemmas.Bool.{cases_eq}
use Rattle.std.proofs.lemmas.List.{map-append}
use Rattle.ml_lists.specs.Ascending.{IsAscending, ascending}
use Rattle.ml_lists.specs.Member.{IsMember}
use Rattle.ml_lists.proofs.Ascending.{member-ascending, ascending-member, ascending-is}
use Rattle.ml_lists.proofs.Member.{Image, member-map, member-map_from, member-append, member-append_left, member-append_right}
use Rattle.ml_trace.specs.Stack.{Item}
use Rattle.ml_history.specs.private.Forest.{Forest, Empty, Tree, names, states, lies_at, below, places, AgesRise, OwnsAreSets, HasOneRoot}
use Rattle.ml_lists.specs.Times.{IsApart, times}
use Rattle.ml_history.specs.private.TreeStep.{renewed}
use Rattle.ml_history.proofs.trees.Forests.{ages-names, OwnsSome}
use Rattle.ml_history.proofs.definition.RenumberedStacks.{KeepsOrder}
use Rattle.ml_lists.proofs.Times.{times-append, times-member, member-times, apart-times, times-apart}

-- an item with new numbers of its names
abbrev pub number_by : (ℕ → ℕ) → Item ℕ → Item ℕ
number_by n t = record { state = t.state; stack = map n t.stack }

module _ (n : ℕ → ℕ) where
  -- each place of the renewed tree is one of the tree, renumbered
  pub renewed-from : (f : Forest) (v : Item ℕ) → IsMember v (places (renewed n f)) → Image (number_by n) v (places f)
  renewed-from Empty v m = absurd m
  renewed-from (Tree a o c y) v m =
      by_part (member-append v (map (below (n a)) (places (renewed n c)))
      (map (lies_at (n a ∷ [])) (ascending o) ++ places (renewed n y)) m) (renewed-from c) (renewed-from y v)
    where
      in_children : (i : Image (below (n a)) v (places (renewed n c)))
          → Image (number_by n) i.from (places c)
          → Image (number_by n) v (places (Tree a o c y))
      in_children i j = record {
        from = below a j.from;
        member = member-append_left (below a j.from) (map (below a) (places c)) (map (lies_at (a ∷ [])) o ++ places y)
            (member-map (below a) j.from (places c) j.member);
        holds = i.holds ∙ ap (below (n a)) j.holds;
      }

      here : Image (lies_at (n a ∷ [])) v (ascending o) → Image (number_by n) v (places (Tree a o c y))
      here i = record {
        from = lies_at (a ∷ []) i.from;
        member = member-append_right (lies_at (a ∷ []) i.from) (map (below a) (places c))
            (map (lies_at (a ∷ [])) o ++ places y)
            (member-append_left (lies_at (a ∷ []) i.from) (map (lies_at (a ∷ [])) o) (places y)
            (member-map (lies_at (a ∷ [])) i.from o (ascending-member i.from o i.member)));
        holds = i.holds;
      }

      beside : Image (number_by n) v (places y) → Image (number_by n) v (places (Tree a o c y))
      beside j = record {
        from = j.from;
        member = member-append_right j.from (map (below a) (places c)) (map (lies_at (a ∷ [])) o ++ places y)
            (member-append_right j.from (map (lies_at (a ∷ [])) o) (places y) j.member);
        holds = j.holds;
      }

      behind : IsMember v (map (lies_at (n a ∷ [])) (ascending o)) ⊎ IsMember v (places (renewed n y))
          → (IsMember v (places (renewed n y)) → Image (number_by n) v (places y))
          → Image (number_by n) v (places (Tree a o c y))
      behind (inl i) rest = here (member-map_from (lies_at (n a ∷ [])) v (ascending o) i)
      behind (inr i) rest = beside (rest i)

      from_children : ((w : Item ℕ) → IsMember w (places (renewed n c)) → Image (number_by n) w (places c))
          → Image (below (n a)) v (places (renewed n c))
          → Image (number_by n) v (places (Tree a o c y))
      from_children rec i = in_children i (rec i.from i.member)

      by_part : IsMember v (map (below (n a)) (places (renewed n c)))
          ⊎ IsMember v (map (lies_at (n a ∷ [])) (ascending o) ++ places (renewed n y))
          → ((w : Item ℕ) → IsMember w (places (renewed n c)) → Image (number_by n) w (places c))
          → (IsMember v (places (renewed n y)) → Image (number_by n) v (places y))
          → Image (number_by n) v (places (Tree a o c y))
      by_part (inl i) rec rest = from_children rec (member-map_from (below (n a)) v (places (renewed n c)) i)
      by_part (inr i) rec rest = behind (member-append v (map (lies_at (n a ∷ [])) (ascending o)) (places (renewed n y))
          i) rest

  -- and each place of the tree, renumbered, is one of the renewed tree
  pub renewed-has : (f : Forest) (w : Item ℕ) → IsMember w (places f) → IsMember (number_by n w) (places (renewed n f))
  renewed-has Empty w m = absurd m
  renewed-has (Tree a o c y) w m =
      by_part (member-append w (map (below a) (places c)) (map (lies_at (a ∷ [])) o ++ places y) m) (renewed-has c)
      (renewed-has y w)
    where
      from_children : ((v : Item ℕ) → IsMember v (places c) → IsMember (number_by n v) (places (renewed n c)))
          → Image (below a) w (places c)
          → IsMember (number_by n w) (places (renewed n (Tree a o c y)))
      from_children rec i =
          subst (λ v. IsMember (number_by n v) (places (renewed n (Tree a o c y)))) (sym i.holds)
          (member-append_left (below (n a) (number_by n i.from)) (map (below (n a)) (places (renewed n c)))
          (map (lies_at (n a ∷ [])) (ascending o) ++ places (renewed n y))
          (member-map (below (n a)) (number_by n i.from) (places (renewed n c)) (rec i.from i.member)))

      from_here : Image (lies_at (a ∷ [])) w o → IsMember (number_by n w) (places (renewed n (Tree a o c y)))
      from_here i =
          subst (λ v. IsMember (number_by n v) (places (renewed n (Tree a o c y)))) (sym i.holds)
          (member-append_right (lies_at (n a ∷ []) i.from) (map (below (n a)) (places (renewed n c)))
          (map (lies_at (n a ∷ [])) (ascending o) ++ places (renewed n y))
          (member-append_left (lies_at (n a ∷ []) i.from) (map (lies_at (n a ∷ [])) (ascending o))
          (places (renewed n y)) (member-map (lies_at (n a ∷ [])) i.from (ascending o)
          (member-ascending i.from o i.member))))

      beside : IsMember (number_by n w) (places (renewed n y))
          → IsMember (number_by n w) (places (renewed n (Tree a o c y)))
      beside i =
          member-append_right (number_by n w) (map (below (n a)) (places (renewed n c)))
          (map (lies_at (n a ∷ [])) (ascending o) ++ places (renewed n y))
          (member-append_right (number_by n w) (map (lies_at (n a ∷ [])) (ascending o)) (places (renewed n y)) i)

      behind : IsMember w (map (lies_at (a ∷ [])) o) ⊎ IsMember w (places y)
          → (IsMember w (places y) → IsMember (number_by n w) (places (renewed n y)))
          → IsMember (number_by n w) (places (renewed n (Tree a o c y)))
      behind (inl i) rest = from_here (member-map_from (lies_at (a ∷ [])) w o i)
      behind (inr i) rest = beside (rest i)

      by_part : IsMember w (map (below a) (places c)) ⊎ IsMember w (map (lies_at (a ∷ [])) o ++ places y)
          → ((v : Item ℕ) → IsMember v (places c) → IsMember (number_by n v) (places (renewed n c)))
          → (IsMember w (places y) → IsMember (number_by n w) (places (renewed n y)))
          → IsMember (number_by n w) (places (renewed n (Tree a o c y)))
      by_part (inl i) rec rest = from_children rec (member-map_from (below a) w (places c) i)
      by_part (inr i) rec rest = behind (member-append w (map (lies_at (a ∷ [])) o) (places y) i) rest

  -- its names are those of the tree, renumbered
  pub renewed-names : (f : Forest) → names (renewed n f) ≡ map n (names f)
  renewed-names Empty = refl
  renewed-names (Tree a o c y) = (λ i. renewed-names c i ++ (n a ∷ renewed-names y i))
      ∙ sym (map-append n (names c) (a ∷ names y))

  -- a state stands at a vertex no more often than it did
  times-ascending : (q : ℕ) (o : List ℕ) → times q (ascending o) ≤ times q o
  times-ascending q o = by_case (cases_eq (times q (ascending o)) 0)
    where
      apart : (xs : List ℕ) → IsAscending xs → IsApart xs
      apart [] up = tt
      apart (x ∷ xs) up = (λ m. let low = up.0 x m in omega arith, apart xs up.1)

      by_case : (times q (ascending o) ≡ 0) ⊎ (times q (ascending o) ≡ 0 → ⊥) → times q (ascending o) ≤ times q o
      by_case (inl e) = omega arith
      by_case (inr ne) =
          let one = apart-times q (ascending o) (apart (ascending o) (ascending-is o)) in
          let inside = times-member q o (ascending-member q o (member-times q (ascending o) (omega arith))) in
          omega arith

  renewed-times : (f : Forest) (q : ℕ) → times q (states (renewed n f)) ≤ times q (states f)
  renewed-times Empty q = omega arith
  renewed-times (Tree a o c y) q =
      let children = renewed-times c q in
      let own = times-ascending q o in
      let younger = renewed-times y q in
      let new = times-append q (states (renewed n c)) (ascending o ++ states (renewed n y)) in
      let new2 = times-append q (ascending o) (states (renewed n y)) in
      let old = times-append q (states c) (o ++ states y) in
      let old2 = times-append q o (states y) in
      omega arith

  -- no state lies in it twice, where none lies twice in the tree
  pub renewed-apart : (f : Forest) → IsApart (states f) → IsApart (states (renewed n f))
  renewed-apart f apart = times-apart (states (renewed n f))
      (λ q. let le = renewed-times f q in let one = apart-times q (states f) apart in omega arith)

  -- its ages rise
  pub renewed-rise : (x w : ℕ) (f : Forest)
      → KeepsOrder n (names f)
      → AgesRise x f
      → ((z : ℕ) → IsMember z (names f) → w ≤ n z)
      → AgesRise w (renewed n f)
  renewed-rise x w Empty keeps rise low = tt
  renewed-rise x w (Tree a o c y) keeps rise low =
      let here : IsMember a (names (Tree a o c y)) = member-append_right a (names c) (a ∷ names y) (inl refl) in
      let in_c = λ (z : ℕ) (m : IsMember z (names c)). member-append_left z (names c) (a ∷ names y) m in
      let in_y = λ (z : ℕ) (m : IsMember z (names y)). member-append_right z (names c) (a ∷ names y) (inr m) in (
        low a here,
        renewed-rise (a + 1) (n a + 1) c (λ y z my mz lt. keeps y z (in_c y my) (in_c z mz) lt) rise.1
            (λ z m. let high = ages-names (a + 1) c z rise.1 m in let up = keeps a z here (in_c z m) (omega arith) in
            omega arith),
        renewed-rise (a + 1) (n a + 1) y (λ v z mv mz lt. keeps v z (in_y v mv) (in_y z mz) lt) rise.2
            (λ z m. let high = ages-names (a + 1) y z rise.2 m in let up = keeps a z here (in_y z m) (omega arith) in
            omega arith),
      )

  -- at each of its vertices lies some state, and they ascend
  pub renewed-owns : (f : Forest) → OwnsSome f → OwnsAreSets (renewed n f)
  renewed-owns Empty some = tt
  renewed-owns (Tree a o c y) some = (full o some.0, ascending-is o, renewed-owns c some.1, renewed-owns y some.2)
    where
      full : (o : List ℕ) → o ≢ [] → ascending o ≢ []
      full [] none e = none refl
      full (q ∷ qs) none e = let m = member-ascending q (q ∷ qs) (inl refl) in absurd (subst (λ v. IsMember q v) e m)

  pub renewed-root : (f : Forest) → HasOneRoot f → HasOneRoot (renewed n f)
  renewed-root Empty one = tt
  renewed-root (Tree a o c y) one = ap (renewed n) one
