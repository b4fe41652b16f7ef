-- Rows are those of one game at most.
--
--   one_order  == rows with the same members, both in ascending order of their ids, are the same list
--   one_top    == numbers have one least even number from all of them on
--   one_game   == rows have one game
use Rattle.std.proofs.Common.{◌≡◌, ℕ, ◌-◌, ◌<◌, ◌≤◌, ◌⊎◌, ⊎_elim, List, [], ◌∷◌, length, map, get_or, refl, sym, ◌∙◌, ap, subst, arith, inl, inr}
use Rattle.std.proofs.lemmas.Bool.{cases_eq, cases_lt}
use Rattle.std.proofs.lemmas.List.Sorted.{IsPermutation-sym}
use Rattle.ml_lists.specs.Ascending.{IsAscending}
use Rattle.ml_lists.specs.Member.{IsMember}
use Rattle.ml_lists.proofs.Ascending.{ascending-apart}
use Rattle.ml_lists.proofs.Member.{member-map, member-place}
use Rattle.ml_lists.proofs.Members.{contains_of_member}
use Rattle.ml_lists.proofs.Permuted.{permuted-member}
use Rattle.ml_parity.specs.declared.players.Player.{Player}
use Rattle.ml_parity.specs.Game.{ParityGame, IsGame, size}
use Rattle.ml_pgsolver.specs.GameText.{Row, NamedGame, IsGameOf, IsLeastEvenFrom, id_at}

-- ---- the order

abbrev ids_in : List Row → List ℕ
ids_in rows = map (λ r. r.id) rows

heads : (x y : Row) (xs ys : List Row) → IsAscending (ids_in (x ∷ xs)) → IsAscending (ids_in (y ∷ ys))
    → IsMember x (y ∷ ys)
    → IsMember y (x ∷ xs)
    → x ≡ y
heads x y xs ys up_x up_y (inl e) y_in = e
heads x y xs ys up_x up_y (inr x_later) (inl e) = sym e
heads x y xs ys up_x up_y (inr x_later) (inr y_later) =
    let low = up_y.0 x.id (member-map (λ (r : Row). r.id) x ys x_later) in
    let high = up_x.0 y.id (member-map (λ (r : Row). r.id) y xs y_later) in absurd (omega arith)

tails : (x y : Row) (xs ys : List Row) → IsAscending (ids_in (x ∷ xs)) → x ≡ y
    → ((r : Row) → IsMember r (x ∷ xs) → IsMember r (y ∷ ys))
    → (r : Row) → IsMember r xs → IsMember r ys
tails x y xs ys up e within r member = by (within r (inr member))
  where
    by : (r ≡ y) ⊎ IsMember r ys → IsMember r ys
    by (inr later) = later
    by (inl same) =
        let high = up.0 r.id (member-map (λ (s : Row). s.id) r xs member) in
        let is : r.id ≡ x.id = ap (λ (s : Row). s.id) (same ∙ sym e) in absurd (omega arith)

pub one_order : (xs ys : List Row) → IsAscending (ids_in xs) → IsAscending (ids_in ys)
    → ((r : Row) → IsMember r xs → IsMember r ys)
    → ((r : Row) → IsMember r ys → IsMember r xs)
    → xs ≡ ys
one_order [] [] up_x up_y there back = refl
one_order [] (y ∷ ys) up_x up_y there back = absurd (back y (inl refl))
one_order (x ∷ xs) [] up_x up_y there back = absurd (there x (inl refl))
one_order (x ∷ xs) (y ∷ ys) up_x up_y there back =
    let same = heads x y xs ys up_x up_y (there x (inl refl)) (back y (inl refl)) in
    let rest = one_order xs ys up_x.1 up_y.1 (tails x y xs ys up_x same there) (tails y x ys xs up_y (sym same) back) in
    cc

-- ---- the turning point

pub one_top : (ps : List ℕ) (P Q : ℕ) → IsLeastEvenFrom ps P → IsLeastEvenFrom ps Q → P ≡ Q
one_top ps P Q p q =
    let low = p.least q.half (λ n member. let fits = q.above n member in omega (arith, q.even)) in
    let high = q.least p.half (λ n member. let fits = p.above n member in omega (arith, p.even)) in
    omega (arith, p.even, q.even)

-- ---- the moves

one_list : {A B : Type 0} (P : A → Type 0) (f : A → B) → ((a b : A) → P a → P b → f a ≡ f b → a ≡ b)
    → (xs ys : List A)
    → ((a : A) → IsMember a xs → P a)
    → ((a : A) → IsMember a ys → P a)
    → map f xs ≡ map f ys
    → xs ≡ ys
one_list P f one [] [] all_x all_y is = refl
one_list P f one [] (y ∷ ys) all_x all_y is = absurd (cc)
one_list P f one (x ∷ xs) [] all_x all_y is = absurd (cc)
one_list P f one (x ∷ xs) (y ∷ ys) all_x all_y is =
    let head = one x y (all_x x (inl refl)) (all_y y (inl refl)) (cc) in
    let rest = one_list P f one xs ys (λ a m. all_x a (inr m)) (λ a m. all_y a (inr m)) (cc) in
    cc

pub one_id : (ids : List ℕ) → IsAscending ids → (a b : ℕ) → a < length ids → b < length ids → id_at ids a ≡ id_at ids b → a ≡ b
one_id ids ascends a b a_in b_in is =
    ⊎_elim (λ (e : a ≡ b). e)
    (λ (ne : a ≡ b → ⊥). ⊎_elim
    (λ (low : a < b). let rises = ascending-apart ids a b 0 ascends low b_in in absurd (omega arith))
    (λ (high : b ≤ a). let more : b < a = omega arith in let rises = ascending-apart ids b a 0 ascends more a_in in absurd (omega arith))
    (cases_lt a b))
    (cases_eq a b)

abbrev pub AreVertices : ℕ → List ℕ → Type 0
AreVertices n xs = (m : ℕ) → IsMember m xs → m < n

pub moves-within : (g : ParityGame) (n : ℕ) → IsGame g → n ≡ size g → (xs : List ℕ) → IsMember xs g.successors → AreVertices n xs
moves-within g n game is xs member m inside =
    let place = member-place xs g.successors member in
    let low = game.in_range place.place m (contains_of_member m (get_or g.successors place.place [])
    (subst (IsMember m) (sym (place.holds [])) inside)) in omega arith

one_moves : (ids : List ℕ) → IsAscending ids → (xss yss : List (List ℕ))
    → ((xs : List ℕ) → IsMember xs xss → AreVertices (length ids) xs)
    → ((xs : List ℕ) → IsMember xs yss → AreVertices (length ids) xs)
    → map (map (id_at ids)) xss ≡ map (map (id_at ids)) yss
    → xss ≡ yss
one_moves ids ascends xss yss all_x all_y is =
    one_list (AreVertices (length ids)) (map (id_at ids))
    (λ xs ys in_x in_y same. one_list (λ m. m < length ids) (id_at ids) (one_id ids ascends) xs ys in_x in_y same)
    xss yss all_x all_y is

-- ---- the game

same_fields : (i j : List ℕ) (o p : List Player) (q r : List ℕ) (m n : List (List ℕ)) → i ≡ j → o ≡ p → q ≡ r → m ≡ n
    → (let x : NamedGame = record { ids = i; game = record { owner = o; priority = q; successors = m } } in
    let y : NamedGame = record { ids = j; game = record { owner = p; priority = r; successors = n } } in x ≡ y)
same_fields i j o p q r m n ids owners priorities successors = cc

pub one_game : (rows : List Row) (g h : NamedGame) → IsGameOf rows g → IsGameOf rows h → g ≡ h
one_game rows g h a b =
    let order = one_order a.order b.order (subst IsAscending a.ids a.is_named.ascends) (subst IsAscending b.ids b.is_named.ascends)
    (λ r member. permuted-member r rows b.order b.reordered (permuted-member r a.order rows (IsPermutation-sym rows a.order a.reordered) member))
    (λ r member. permuted-member r rows a.order a.reordered (permuted-member r b.order rows (IsPermutation-sym rows b.order b.reordered) member)) in
    let ids : g.ids ≡ h.ids = a.ids ∙ ap ids_in order ∙ sym b.ids in
    let top : a.P ≡ b.P = one_top (map (λ (r : Row). r.priority) b.order) a.P b.P
    (subst (λ rs. IsLeastEvenFrom (map (λ (r : Row). r.priority) rs) a.P) order a.highest) b.highest in
    let size_g = a.is_named.has_ids.0 in
    let size_h : length g.ids ≡ size h.game = ap length ids ∙ b.is_named.has_ids.0 in
    let moves : map (map (id_at g.ids)) g.game.successors ≡ map (map (id_at g.ids)) h.game.successors =
    a.successors ∙ ap (map (λ (r : Row). r.successors)) order ∙ sym b.successors
    ∙ ap (λ xs. map (map (id_at xs)) h.game.successors) (sym ids) in
    same_fields g.ids h.ids g.game.owner h.game.owner g.game.priority h.game.priority g.game.successors h.game.successors ids
    (a.owners ∙ ap (map (λ (r : Row). r.owner)) order ∙ sym b.owners)
    (a.priorities ∙ ap (λ rs. map (λ (r : Row). a.P - r.priority) rs) order
    ∙ ap (λ P. map (λ (r : Row). P - r.priority) b.order) top ∙ sym b.priorities)
    (one_moves g.ids a.is_named.ascends g.game.successors h.game.successors
    (moves-within g.game (length g.ids) a.is_named.game size_g)
    (moves-within h.game (length g.ids) b.is_named.game size_h) moves)
