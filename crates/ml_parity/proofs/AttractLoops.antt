-- The loops that make and undo attractors, over the lists of the program.
--
--   left_here, left_elsewhere == one count is counted down
--   preds_low, preds_move == the entries of a list of predecessors are vertices with such a move
--   taken_up        == the counts when a vertex is taken up
--   one_counted     == the counts when a predecessor is seen
--   room_left, one_up == there is room to count one up, and one is counted up
--   some_left       == a vertex whose predecessor is still to be seen has a move left
--   counted_turn, kept_turn == one turn of the loop over the predecessors
--   all_room, all_up == the same for all predecessors of the vertex at a place
use Rattle.std.proofs.Common.{ℕ, ◌≡◌, ◌+◌, ◌-◌, ◌<◌, ◌≤◌, ◌⊎◌, inl, inr, ⊎_elim, Bool, arith, List, [], ◌∷◌, length, get_or, set, take, drop}
use Rattle.std.proofs.Common.{cond, nat_eq, subst, sym, ap, ◌∙◌, refl, eq-eqb, ne_eqb, get_or-set_same, get_or-set_other}
use Rattle.std.specs.List.{count_by}
use Rattle.std.proofs.lemmas.Bool.{cases_eq, cases_lt}
use Rattle.std.proofs.lemmas.List.{get_or_default, get_or_past, drop_more}
use Rattle.std.proofs.lemmas.List.Sums.{count_by-le-length, sum_by-take-le, count_by_more_yes, count_by_more_no}
use borrow.Author.Tests.{eqb-true}
use Rattle.ml_parity.specs.Game.{ParityGame, HasMove, size, moves_of}
use Rattle.ml_parity.specs.declared.players.Player.{Player}
use Rattle.ml_parity.specs.private.Parts.{part, KeepsBehind}
use Rattle.ml_parity.specs.private.SolverSteps.{place_of, number_at, times, moves_before, ArePredecessors, IsAttracting, IsLeft, IsRow}
use Rattle.ml_parity.proofs.Boards.{move_to}
use Rattle.ml_parity.proofs.Attracting.{followed}
use Rattle.ml_parity.proofs.WaitingFrames.{in_to, keeps_more, keeps_on}
use Rattle.ml_parity.proofs.VertexOrder.{at_place}
use Rattle.ml_parity.proofs.Occurrences.{times_here, times_other, entry_counts, counts_entry, before_next, same_part}

-- the count of u is counted down
pub left_here : (left : List ℕ) (u x : ℕ) → x + 1 ≡ number_at left u → number_at (set left u x) u + 1 ≡ number_at left u
left_here left u x less =
    let low : u < length left = ⊎_elim (λ (h : u < length left). h)
    (λ (h : length left ≤ u). absurd (omega (arith, get_or_past left u 0 h))) (cases_lt u (length left)) in
    let e = get_or-set_same left u x 0 low in
    omega arith

-- and no other
pub left_elsewhere : (left : List ℕ) (u x v : ℕ) → (v ≡ u → ⊥) → number_at (set left u x) v ≡ number_at left v
left_elsewhere left u x v other = get_or-set_other left u v x 0 other

-- what is still to be seen, with its first entry
-- a vertex that stands among the predecessors has such a move
pub preds_move : (g : ParityGame) (w : ℕ) (preds : List ℕ)
    → ((u : ℕ) → times u preds ≡ times w (moves_of g u))
    → (k : ℕ)
    → k < length preds → HasMove g (get_or preds k 0) w
preds_move g w preds each k low =
    let u : ℕ = get_or preds k 0 in
    let some : 0 < times u preds = entry_counts (λ x. nat_eq x u) preds k low (eq-eqb u u refl) in
    let e = each u in
    let f = counts_entry (λ x. nat_eq x w) (moves_of g u) (omega arith) in
    subst (HasMove g u) (eqb-true (get_or (moves_of g u) f.place 0) w f.holds) (move_to g u f.place f.below)

-- and is a vertex
pub move_low : (g : ParityGame) → length g.successors ≡ size g → (u w : ℕ) → HasMove g u w → u < size g
move_low g long u w move = ⊎_elim
    (λ (h : u < size g). h)
    (λ (h : size g ≤ u).
    let none : length (moves_of g u) ≡ 0 = ap length (get_or_past g.successors u [] (omega arith)) in
    absurd (omega (arith, move.1)))
    (cases_lt u (size g))

-- the counts when the vertex w, at place a, is taken up
pub taken_up : (g : ParityGame) (place : ℕ → ℕ) (a w : ℕ) (left : ℕ → ℕ) (preds : List ℕ)
    → IsLeft g place (a + 1) left
    → place w ≡ a
    → ((x : ℕ) → place x ≡ a → x ≡ w) → ((u : ℕ) → times u preds ≡ times w (moves_of g u)) → (v : ℕ) → v < size g
    → left v ≡ moves_before g place a v + times v preds
taken_up g place a w left preds is_left here one each v low =
    let e = is_left v low in
    let next = before_next place a w here one (moves_of g v) in
    let p = each v in
    omega arith

-- the counts when a predecessor is seen
pub one_counted : (g : ParityGame) (place place2 : ℕ → ℕ) (a u : ℕ) (left : List ℕ) (todo : List ℕ)
    → 0 < number_at left u
    → ((v : ℕ) → place v < a → place2 v < a) → ((v : ℕ) → a ≤ place v → a ≤ place2 v)
    → ((v : ℕ) → v < size g → number_at left v ≡ moves_before g place a v + times v (u ∷ todo)) → (v : ℕ) → v < size g
    → number_at (set left u (number_at left u - 1)) v ≡ moves_before g place2 a v + times v todo
one_counted g place place2 a u left todo some inside outside lefts v low = by_case (cases_eq v u)
  where
    same : moves_before g place2 a v ≡ moves_before g place a v
    same = ap (λ (test : ℕ → Bool). count_by test (moves_of g v)) (same_part place place2 a inside outside)

    by_case : (v ≡ u) ⊎ (v ≡ u → ⊥)
        → number_at (set left u (number_at left u - 1)) v ≡ moves_before g place2 a v + times v todo
    by_case (inl here) =
        let e = lefts v low in
        let t = times_here v u todo (sym here) in
        let one : number_at (set left u (number_at left u - 1)) v + 1 ≡ number_at left v =
        ap (λ x. number_at (set left u (number_at left u - 1)) x + 1) here
        ∙ left_here left u (number_at left u - 1) (omega arith) ∙ sym (ap (number_at left) here) in
        omega (arith, same)
    by_case (inr other) =
        let e = lefts v low in
        let t = times_other v u todo (λ h. other (sym h)) in
        let kept = left_elsewhere left u (number_at left u - 1) v other in
        omega (arith, same)

-- one more of the first entries
times_take : (v : ℕ) (xs : List ℕ) (k : ℕ)
    → k < length xs
    → times v (take (k + 1) xs) ≡ times v (take k xs) + times v (get_or xs k 0 ∷ [])
times_take v xs k low = by_case (cases_eq (get_or xs k 0) v)
  where
    by_case : (get_or xs k 0 ≡ v) ⊎ (get_or xs k 0 ≡ v → ⊥)
        → times v (take (k + 1) xs) ≡ times v (take k xs) + times v (get_or xs k 0 ∷ [])
    by_case (inl same) = let t = times_here v (get_or xs k 0) [] same in
        omega (arith, count_by_more_yes (λ y. nat_eq y v) xs k 0 low (eq-eqb (get_or xs k 0) v same))
    by_case (inr other) = let t = times_other v (get_or xs k 0) [] other in
        omega (arith, count_by_more_no (λ y. nat_eq y v) xs k 0 low (ne_eqb (get_or xs k 0) v other))

-- there is room to count one up
pub room_left : (g : ParityGame) (old left : List ℕ) (preds : List ℕ) (k : ℕ)
    → k < length preds
    → get_or preds k 0 < size g
    → ((v : ℕ) → v < size g → number_at old v + times v preds ≤ length (moves_of g v))
    → ((v : ℕ) → v < size g → number_at left v ≡ number_at old v + times v (take k preds))
    → number_at left (get_or preds k 0) < length (moves_of g (get_or preds k 0))
room_left g old left preds k low vertex room so =
    let u : ℕ = get_or preds k 0 in
    let fits = room u vertex in
    let e = so u vertex in
    let more = times_take u preds k low in
    let one = times_here u u [] refl in
    let no_more : times u (take (k + 1) preds) ≤ times u preds =
    sum_by-take-le (λ x. cond (nat_eq x u) 1 0) preds (k + 1) in
    omega arith

-- one is counted up
pub one_up : (g : ParityGame) (old left : List ℕ) (preds : List ℕ) (k x : ℕ) → length left ≡ size g → k < length preds
    → get_or preds k 0 < size g → x ≡ number_at left (get_or preds k 0) + 1
    → ((v : ℕ) → v < size g → number_at left v ≡ number_at old v + times v (take k preds)) → (v : ℕ) → v < size g
    → number_at (set left (get_or preds k 0) x) v ≡ number_at old v + times v (take (k + 1) preds)
one_up g old left preds k x long low vertex is so v inside = by_case (cases_eq v u)
  where
    u : ℕ
    u = get_or preds k 0

    by_case : (v ≡ u) ⊎ (v ≡ u → ⊥) → number_at (set left u x) v ≡ number_at old v + times v (take (k + 1) preds)
    by_case (inl same) =
        let at : number_at (set left u x) v ≡ x = ap (number_at (set left u x)) same
        ∙ get_or-set_same left u x 0 (omega arith) in
        let e = so v inside in
        let more = times_take v preds k low in
        let one = times_here v u [] (sym same) in
        let was = ap (number_at left) same in
        omega arith
    by_case (inr other) =
        let kept = left_elsewhere left u x v other in
        let e = so v inside in
        let more = times_take v preds k low in
        let none = times_other v u [] (λ h. other (sym h)) in
        omega arith

-- the vertex at a place, and its predecessors
module _ (g : ParityGame) (order place : List ℕ) (row : IsRow order place) (long : length place ≡ size g)
    (rows : List (List ℕ)) (are : ArePredecessors g rows) (at w : ℕ) (preds left : List ℕ) (low : at < size g)
    (is : w ≡ get_or order at w) (same : preds ≡ get_or rows w []) where
  is_there : w ≡ get_or order at 0
  is_there = is ∙ get_or_default order at w 0 (omega (arith, row.size))

  -- it is a vertex
  pub vertex_at : w < size g
  vertex_at = let v = row.vertices at (omega arith) in omega (arith, is_there)

  pub stands_at : place_of place w ≡ at
  stands_at = ap (place_of place) is_there ∙ row.back at (omega arith)

  pub alone_at : (x : ℕ) → place_of place x ≡ at → x ≡ w
  alone_at x here = at_place order place row x at (omega arith) here ∙ sym is_there

  -- its predecessors are those of the game
  pub preds_at : (u : ℕ) → times u preds ≡ times w (moves_of g u)
  preds_at u = ap (times u) same ∙ are.each w u vertex_at

  pub preds_low : length g.successors ≡ size g → (k : ℕ) → k < length preds → get_or preds k 0 < size g
  preds_low successors k inside = move_low g successors (get_or preds k 0) w (preds_move g w preds preds_at k inside)

  -- the counts when it is taken up
  pub taken_left : (n : ℕ) → n ≡ at + 1 → IsLeft g (place_of place) n (number_at left) → (v : ℕ) → v < size g
      → number_at left v ≡ moves_before g (place_of place) (place_of place w) v + times v preds
  taken_left n next is_left v inside =
      let at_next : IsLeft g (place_of place) (at + 1) (number_at left) =
      subst (λ a. IsLeft g (place_of place) a (number_at left)) next is_left in
      subst (λ a. number_at left v ≡ moves_before g (place_of place) a v + times v preds) (sym stands_at)
      (taken_up g (place_of place) at w (number_at left) preds at_next stands_at alone_at preds_at v inside)

  -- and the attractor that is being made
  pub taken_attracting : (n : ℕ) → n ≡ at + 1 → (whole mid rest : ℕ) (q : Player) (s : ℕ → ℕ) → rest ≤ at
      → IsAttracting g (place_of place) whole mid rest n q s (number_at left) []
      → IsAttracting g (place_of place) whole mid rest at q s (number_at left) preds
  taken_attracting n next whole mid rest q s fits before =
      followed g (place_of place) whole mid rest at q s (number_at left) w preds
      (subst (λ a. IsAttracting g (place_of place) whole mid rest a q s (number_at left) []) next before) fits
      stands_at alone_at preds_at

  -- there is room to count them all up
  module _ (is_left : IsLeft g (place_of place) at (number_at left)) where
    next : (v : ℕ) → v < size g → number_at left v + times v preds ≡ moves_before g (place_of place) (at + 1) v
    next v inside =
        let e = is_left v inside in
        let p = preds_at v in
        let n = before_next (place_of place) at w stands_at alone_at (moves_of g v) in
        omega arith

    pub all_room : (v : ℕ) → v < size g → number_at left v + times v preds ≤ length (moves_of g v)
    all_room v inside =
        let n = next v inside in
        let most = count_by-le-length (part (place_of place) (at + 1)) (moves_of g v) in
        omega arith

    -- and they are counted up
    pub all_up : (left2 : List ℕ) → ((v : ℕ) → v < size g → number_at left2 v ≡ number_at left v + times v preds)
        → IsLeft g (place_of place) (at + 1) (number_at left2)
    all_up left2 up v inside = up v inside ∙ next v inside

-- a vertex whose predecessor is still to be seen has a move left
pub some_left : (g : ParityGame) (place : ℕ → ℕ) (a : ℕ) (left preds : List ℕ) (k : ℕ)
    → k < length preds
    → get_or preds k 0 < size g
    → ((v : ℕ) → v < size g → number_at left v ≡ moves_before g place a v + times v (drop k preds))
    → 0 < number_at left (get_or preds k 0)
some_left g place a left preds k low vertex lefts =
    let u : ℕ = get_or preds k 0 in
    let e = lefts u vertex in
    let t : times u (drop k preds) ≡ times u (u ∷ drop (k + 1) preds) = ap (times u) (drop_more preds k 0 low) in
    let one = times_here u u (drop (k + 1) preds) refl in
    omega arith

-- the first of the places behind a part stay behind it, and the others in it
pub still_behind : (r a : ℕ) (place place2 : ℕ → ℕ) (win : ℕ → Player) (s s2 : ℕ → ℕ)
    → KeepsBehind r place win s place2 win s2
    → r ≤ a
    → (v : ℕ) → a ≤ place v → a ≤ place2 v
still_behind r a place place2 win s s2 kept fits v far = let same = kept.behind v (omega arith) in omega arith

-- the counts, when the first of the predecessors that are still to be seen is counted
pub counted_turn : (g : ParityGame) (place place2 : ℕ → ℕ) (r a : ℕ) (win : ℕ → Player) (s s2 : ℕ → ℕ)
    (left left2 preds : List ℕ) (k : ℕ)
    → KeepsBehind r place win s place2 win s2 → r ≤ a → k < length preds → get_or preds k 0 < size g
    → left2 ≡ set left (get_or preds k 0) (number_at left (get_or preds k 0) - 1)
    → ((v : ℕ) → v < size g → number_at left v ≡ moves_before g place a v + times v (drop k preds))
    → (v : ℕ) → v < size g → number_at left2 v ≡ moves_before g place2 a v + times v (drop (k + 1) preds)
counted_turn g place place2 r a win s s2 left left2 preds k kept fits low vertex counted lefts v inside =
    ap (λ (xs : List ℕ). number_at xs v) counted
    ∙ one_counted g place place2 a (get_or preds k 0) left (drop (k + 1) preds)
    (some_left g place a left preds k low vertex lefts) (in_to r place win s place2 win s2 kept a fits)
    (still_behind r a place place2 win s s2 kept fits)
    (λ u here. lefts u here ∙ ap (λ (xs : List ℕ). moves_before g place a u + times u xs) (drop_more preds k 0 low))
    v inside

-- what is kept, one step further
pub kept_turn : (r r2 : ℕ) (place place2 place3 : ℕ → ℕ) (win : ℕ → Player) (s s2 s3 : ℕ → ℕ) → r2 ≤ r
    → KeepsBehind r place win s place2 win s2 → KeepsBehind r2 place2 win s2 place3 win s3
    → KeepsBehind r place win s place3 win s3
kept_turn r r2 place place2 place3 win s s2 s3 fits k l =
    keeps_on r place place2 place3 win win win s s2 s3 k (keeps_more r2 place2 win s2 place3 win s3 l r fits)
