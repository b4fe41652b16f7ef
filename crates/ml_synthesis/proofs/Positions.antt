-- The positions of the game, and its vertices.
--
--   listed, listed-apart  == the values of a function at the numbers below one; they differ where the function's values
--                            do
--   IsAt v x              == v is the vertex of the position x
--   one_position, one_vertex == a vertex is of one position, and a position has one vertex
--   reached_at            == a position that is reached has a vertex
--   states_reached        == each state is reached, with each set of inputs
--   at_reached            == the position of a vertex is reached
--   more_positions        == where the game has more vertices than n, more than n positions are reached
--   no_more_positions     == and where it hasn't, they aren't
--   more_states           == nor where there are more states
use Rattle.std.proofs.Common.{ℕ, zero, suc, ◌≡◌, ◌+◌, ◌*◌, ◌/◌, ◌%◌, ◌^◌, ◌<◌, ◌≤◌, ◌⊎◌, inl, inr, ⊎_elim, arith}
use Rattle.std.proofs.Common.{List, [], ◌∷◌, length, get_or, slice_get, Some, refl, sym, ap, ◌∙◌, subst}
use Rattle.std.proofs.Math.Nat.{div-lt_iff_lt-mul, mod-add-div, mod-lt}
use Rattle.std.proofs.Math.ListN.{get_or-eq_default}
use Rattle.std.proofs.lemmas.Bool.{cases_lt}
use Rattle.std.proofs.lemmas.Nat.{same_from_place}
use Rattle.std.proofs.lemmas.Option.{same_Some, slice_get-get_or, slice_get_within}
use Rattle.ml_lists.specs.Member.{IsMember}
use Rattle.ml_lists.specs.Pigeons.{Twice}
use Rattle.ml_lists.proofs.FirstEntries.{AreApart, apart_places}
use Rattle.ml_lists.proofs.Member.{place-member}
use Rattle.ml_lists.proofs.Pigeons.{pigeons}
use Rattle.ml_parity.specs.Game.{ParityGame, size}
use Rattle.ml_trace.specs.WordAutomata.{DetAutomaton, state_behind}
use Rattle.ml_determinise.specs.Numbering.{automaton_of}
use Rattle.ml_determinise.specs.declared.moves.DetMove.{DetMove}
use Rattle.ml_synthesis.specs.Game.{Position, at_state, with_inputs, Moves, by_inputs, by_outputs, IsReached, at_start}
use Rattle.ml_synthesis.specs.Game.{along, HasMorePositions}
use Rattle.ml_synthesis.specs.Machines.{valuation}
use Rattle.ml_synthesis.specs.declared.arrival.Arrival.{Arrival}
use Rattle.ml_synthesis.specs.private.Arena.{AreMoves, IsArena, IsEnd, begun}
use Rattle.ml_synthesis.proofs.Arenas.{VertexAt, is_known, is_state, arrival_low, known_low, reply_at, vertex_at}

-- ---- the values of a function

abbrev pub listed : {X : Type 0} → (ℕ → X) → ℕ → List X
listed f zero = []
listed f (suc k) = f k ∷ listed f k

pub length-listed : {X : Type 0} (f : ℕ → X) (k : ℕ) → length (listed f k) ≡ k
length-listed f zero = refl
length-listed f (suc k) = ap suc (length-listed f k)

pub record IsValue {X : Type 0} (f : ℕ → X) (k : ℕ) (x : X) : Type 0 where
  pub place : ℕ
  pub low : place < k
  pub is : x ≡ f place

pub listed-member : {X : Type 0} (f : ℕ → X) (k : ℕ) (x : X) → IsMember x (listed f k) → IsValue f k x
listed-member f zero x none = absurd none
listed-member f (suc k) x (inl same) = record { place = k; low = omega arith; is = same }
listed-member f (suc k) x (inr later) =
    let v = listed-member f k x later in
    record { place = v.place; low = (let low = v.low in omega (arith, low)); is = v.is }

pub listed-apart : {X : Type 0} (f : ℕ → X) (k : ℕ)
    → ((i j : ℕ) → i < k → j < k → f i ≡ f j → i ≡ j)
    → AreApart (listed f k)
listed-apart f zero one = tt
listed-apart f (suc k) one = (
  λ m.
      let v = listed-member f k (f k) m in
      let low = v.low in
      let same = one k v.place (omega arith) (omega (arith, low)) v.is in
      omega (arith, low, same),
  listed-apart f k (λ i j i_low j_low same. one i j (omega (arith, i_low)) (omega (arith, j_low)) same),
)

-- ---- states

module _ (i o neutral : ℕ) (moves : List (List DetMove)) (are : AreMoves (2 ^ i) (2 ^ o) neutral moves)
    (accessible : (q : ℕ) → q < length moves
    → (word : List ℕ) × ((v : ℕ) → IsMember v word → v < 2 ^ i * 2 ^ o) ×
    (state_behind (automaton_of moves) 0 word ≡ q)) where
  abbrev d : DetAutomaton ℕ ℕ
  d = automaton_of moves

  abbrev Reached : Position ℕ → Type 0
  Reached = IsReached d 0 neutral i o

  record IsState (q : ℕ) : Type 0 where
    priority : ℕ
    reached : Reached (at_state q priority)

  -- the end of a move from a reached state is reached
  end_reached : (q v : ℕ) → v < 2 ^ i * 2 ^ o → IsState q → Reached (at_state (d.next q v) (d.priority q v))
  end_reached q v low s =
      subst (λ l. Reached (at_state (d.next q l) (d.priority q l))) (mod-add-div v (2 ^ i))
      (along (with_inputs q (v % 2 ^ i))
      (at_state (d.next q (valuation i (v % 2 ^ i) (v / 2 ^ i))) (d.priority q (valuation i (v % 2 ^ i) (v / 2 ^ i))))
      (along (at_state q s.priority) (with_inputs q (v % 2 ^ i)) s.reached
      (by_inputs q s.priority (v % 2 ^ i) (mod-lt v are.sets)))
      (by_outputs q (v % 2 ^ i) (v / 2 ^ i)
      ((div-lt_iff_lt-mul {k = 2 ^ i} {x = v} {y = 2 ^ o} are.sets).1 (omega (arith, low)))))

  along_word : (q : ℕ) (word : List ℕ)
      → ((v : ℕ) → IsMember v word → v < 2 ^ i * 2 ^ o)
      → IsState q
      → IsState (state_behind d q word)
  along_word q [] low s = s
  along_word q (v ∷ word) low s =
      along_word (d.next q v) word (λ l m. low l (inr m))
      (record { priority = d.priority q v; reached = end_reached q v (low v (inl refl)) s })

  state_reached : (q : ℕ) → q < length moves → IsState q
  state_reached q low =
      let a = accessible q low in
      subst IsState a.2 (along_word 0 a.0 a.1 (record { priority = neutral; reached = at_start }))

  known_reached : (q ins : ℕ) → q < length moves → ins < 2 ^ i → Reached (with_inputs q ins)
  known_reached q ins low set =
      let s = state_reached q low in
      along (at_state q s.priority) (with_inputs q ins) s.reached (by_inputs q s.priority ins set)

  -- where there are more states, there are more positions
  pub more_states : (limit : ℕ) → limit < length moves → HasMorePositions d 0 neutral i o limit
  more_states limit more = record {
    positions = listed (λ q. with_inputs q 0) (length moves);
    are_apart = listed-apart (λ q. with_inputs q 0) (length moves) (λ q r q_low r_low same. same_state q r same);
    are_reached = λ x m.
        let v = listed-member (λ q. with_inputs q 0) (length moves) x m in
        subst Reached (sym v.is) (known_reached v.place 0 v.low are.sets);
    are_more = let long = length-listed (λ q. with_inputs q 0) (length moves) in omega (arith, more, long);
  }
    where
      same_state : (q r : ℕ) → with_inputs q 0 ≡ with_inputs r 0 → q ≡ r
      same_state q r same = cc

  -- ---- vertices

  module _ (ks : List Arrival) (g : ParityGame) (arena : IsArena (2 ^ i) (2 ^ o) neutral moves ks g) where
    abbrev base : ℕ
    base = length moves * 2 ^ i

    -- v is the vertex of x
    data IsAt (v : ℕ) (x : Position ℕ) : Type 0 where
      at_known : (q ins : ℕ) → q < length moves → ins < 2 ^ i → v ≡ q * 2 ^ i + ins → x ≡ with_inputs q ins → IsAt v x
      at_arrival : (k : ℕ) (a : Arrival)
          → slice_get ks k ≡ Some a
          → v ≡ base + k
          → x ≡ at_state a.state a.priority
          → IsAt v x

    never : (q ins k : ℕ) → q < length moves → ins < 2 ^ i → q * 2 ^ i + ins ≡ base + k → ⊥
    never q ins k low set same =
        let inside = known_low q ins (2 ^ i) (length moves) low set in
        omega (arith, inside, same)

    one_position : (v : ℕ) (x y : Position ℕ) → IsAt v x → IsAt v y → x ≡ y
    one_position v x y (at_known q ins q_low set is x_is) (at_known r jns r_low jet is' y_is) =
        let same = same_from_place q ins r jns (2 ^ i) set jet (sym is ∙ is') in
        x_is ∙ ap (λ p. with_inputs p ins) same.0 ∙ ap (with_inputs r) same.1 ∙ sym y_is
    one_position v x y (at_known q ins q_low set is x_is) (at_arrival k a stands is' y_is) =
        absurd (never q ins k q_low set (sym is ∙ is'))
    one_position v x y (at_arrival k a stands is x_is) (at_known r jns r_low jet is' y_is) =
        absurd (never r jns k r_low jet (sym is' ∙ is))
    one_position v x y (at_arrival k a stands is x_is) (at_arrival j b stands' is' y_is) =
        let both : base + k ≡ base + j = sym is ∙ is' in
        let place : k ≡ j = omega (arith, both) in
        let same : a ≡ b = same_Some a b (sym stands ∙ ap (slice_get ks) place ∙ stands') in
        x_is ∙ ap (λ (c : Arrival). at_state c.state c.priority) same ∙ sym y_is

    one_vertex : (x : Position ℕ) (v w : ℕ) → IsAt v x → IsAt w x → v ≡ w
    one_vertex x v w (at_known q ins q_low set is x_is) (at_known r jns r_low jet is' y_is) =
        let both : with_inputs q ins ≡ with_inputs r jns = sym x_is ∙ y_is in
        let states : q ≡ r = cc in
        let sets : ins ≡ jns = cc in
        is ∙ ap (λ p. p * 2 ^ i + ins) states ∙ ap (λ s. r * 2 ^ i + s) sets ∙ sym is'
    one_vertex x v w (at_known q ins q_low set is x_is) (at_arrival k a stands is' y_is) =
        let both : with_inputs q ins ≡ at_state a.state a.priority = sym x_is ∙ y_is in
        absurd (cc)
    one_vertex x v w (at_arrival k a stands is x_is) (at_known r jns r_low jet is' y_is) =
        let both : at_state a.state a.priority ≡ with_inputs r jns = sym x_is ∙ y_is in
        absurd (cc)
    one_vertex x v w (at_arrival k a stands is x_is) (at_arrival j b stands' is' y_is) =
        let both : at_state a.state a.priority ≡ at_state b.state b.priority = sym x_is ∙ y_is in
        let states : a.state ≡ b.state = cc in
        let priorities : a.priority ≡ b.priority = cc in
        let same : a ≡ b = λ h. record { state = states h; priority = priorities h } in
        let place = arena.arrivals.once k j b (stands ∙ ap Some same) stands' in
        is ∙ ap (λ p. base + p) place ∙ sym is'

    record HasVertex (x : Position ℕ) : Type 0 where
      vertex : ℕ
      low : vertex < size g
      at : IsAt vertex x

    arrived : (k : ℕ) (a : Arrival) (x : Position ℕ)
        → slice_get ks k ≡ Some a
        → x ≡ at_state a.state a.priority
        → HasVertex x
    arrived k a x stands is = record {
      vertex = base + k;
      low = let within = slice_get_within ks k a stands in let all = arena.owners in omega (arith, within, all);
      at = at_arrival k a stands refl is;
    }

    known_here : (q ins : ℕ) → q < length moves → ins < 2 ^ i → HasVertex (with_inputs q ins)
    known_here q ins q_low set = record {
      vertex = q * 2 ^ i + ins;
      low =
          let inside = known_low q ins (2 ^ i) (length moves) q_low set in
          let all = arena.owners in
          omega (arith, inside, all);
      at = at_known q ins q_low set refl refl;
    }

    behind : (x y : Position ℕ) → HasVertex x → Moves d i o x y → HasVertex y
    behind x y h (by_inputs q p ins set) = by_kind h.at
      where
        by_kind : IsAt h.vertex (at_state q p) → HasVertex (with_inputs q ins)
        by_kind (at_known r jns r_low jet is x_is) = absurd (cc)
        by_kind (at_arrival k a stands is x_is) =
            let state : a.state ≡ q = cc in
            known_here q ins
            (subst (λ r. r < length moves) state
            (arrival_low (2 ^ i) (2 ^ o) neutral moves ks g are arena k a stands)) set
    behind x y h (by_outputs q ins outs given) = by_kind h.at
      where
        by_kind : IsAt h.vertex (with_inputs q ins)
            → HasVertex (at_state (d.next q (valuation i ins outs)) (d.priority q (valuation i ins outs)))
        by_kind (at_known r jns r_low jet is x_is) =
            let state : r ≡ q = cc in
            let set : jns ≡ ins = cc in
            let reply = reply_at (2 ^ i) (2 ^ o) neutral moves ks g are arena q ins outs
            (subst (λ p. p < length moves) state r_low) (subst (λ s. s < 2 ^ i) set jet) given in
            arrived reply.place reply.arrival
            (at_state (d.next q (valuation i ins outs)) (d.priority q (valuation i ins outs))) reply.stands
            (ap (λ (a : Arrival). at_state a.state a.priority) (sym reply.ends))
        by_kind (at_arrival k a stands is x_is) = absurd (cc)

    reached_at : (x : Position ℕ) → Reached x → HasVertex x
    reached_at x at_start = arrived 0 (begun neutral) (at_state 0 neutral) arena.arrivals.begins refl
    reached_at y (along x _ reached move) = behind x y (reached_at x reached) move

    -- ---- how many there are

    pub no_more_positions : (limit : ℕ) → size g ≤ limit → HasMorePositions d 0 neutral i o limit → ⊥
    no_more_positions limit few h = by_list h.positions h.are_apart h.are_reached h.are_more
      where
        by_list : (xs : List (Position ℕ))
            → AreApart xs
            → ((x : Position ℕ) → IsMember x xs → Reached x)
            → limit < length xs
            → ⊥
        by_list [] apart reached more = omega (arith, more)
        by_list (x ∷ xs) apart reached more = twice (pigeons (size g) (λ k. (has k).vertex) (λ k low. (has k).low))
          where
            entry : ℕ → Position ℕ
            entry k = get_or (x ∷ xs) k x

            has : (k : ℕ) → HasVertex (get_or (x ∷ xs) k x)
            has k =
                ⊎_elim
                (λ (here : k < length (x ∷ xs)). reached_at (get_or (x ∷ xs) k x) (reached (get_or (x ∷ xs) k x)
                (place-member (x ∷ xs) k x here)))
                (λ (past : length (x ∷ xs) ≤ k).
                subst HasVertex (sym (get_or-eq_default (x ∷ xs) x past)) (reached_at x (reached x (inl refl))))
                (cases_lt k (length (x ∷ xs)))

            twice : Twice (λ k. (has k).vertex) (size g) → ⊥
            twice t =
                let before = t.apart in
                let within = t.within in
                let same = one_position (has t.first).vertex (get_or (x ∷ xs) t.first x) (get_or (x ∷ xs) t.second x)
                (has t.first).at (subst (λ v. IsAt v (get_or (x ∷ xs) t.second x)) (sym t.same) (has t.second).at) in
                let one = apart_places (x ∷ xs) apart t.first t.second (get_or (x ∷ xs) t.second x)
                (slice_get-get_or (x ∷ xs) t.first x (omega (arith, before, within, few, more)) ∙ ap Some same)
                (slice_get-get_or (x ∷ xs) t.second x (omega (arith, within, few, more))) in
                omega (arith, before, one)

    -- the position of a vertex
    record IsVertex (v : ℕ) : Type 0 where
      position : Position ℕ
      at : IsAt v position
      reached : Reached position

    arrival_reached : (k : ℕ) (a : Arrival) → slice_get ks k ≡ Some a → Reached (at_state a.state a.priority)
    arrival_reached k a stands = by_kind (arena.arrivals.are_ends k a stands)
      where
        by_kind : (a ≡ begun neutral) ⊎ IsEnd (2 ^ i) (2 ^ o) moves a → Reached (at_state a.state a.priority)
        by_kind (inl first) = subst (λ (b : Arrival). Reached (at_state b.state b.priority)) (sym first) at_start
        by_kind (inr e) =
            subst (λ (b : Arrival). Reached (at_state b.state b.priority)) (sym e.is_end)
            (end_reached e.state e.letter e.is_letter (state_reached e.state e.is_state))

    vertex_reached : (v : ℕ) → v < size g → IsVertex v
    vertex_reached v low = by_kind (vertex_at (2 ^ i) (2 ^ o) neutral moves ks g are arena v low)
      where
        by_kind : VertexAt (2 ^ i) (2 ^ o) neutral moves ks g are arena v → IsVertex v
        by_kind (is_known q ins q_low set is) = record {
          position = with_inputs q ins;
          at = at_known q ins q_low set is refl;
          reached = known_reached q ins q_low set;
        }
        by_kind (is_state k a stands is) = record {
          position = at_state a.state a.priority;
          at = at_arrival k a stands is refl;
          reached = arrival_reached k a stands;
        }

    -- the position of a vertex, and past the last one that of the start
    abbrev position_of : (v : ℕ) → (v < size g) ⊎ (size g ≤ v) → Position ℕ
    position_of v (inl low) = (vertex_reached v low).position
    position_of v (inr past) = at_state 0 neutral

    pub more_positions : (limit : ℕ) → limit < size g → HasMorePositions d 0 neutral i o limit
    more_positions limit more = record {
      positions = listed position (size g);
      are_apart = listed-apart position (size g) apart;
      are_reached = λ x m.
          let v = listed-member position (size g) x m in
          subst Reached (sym v.is) (at_place v.place v.low (cases_lt v.place (size g))).1;
      are_more = let long = length-listed position (size g) in omega (arith, more, long);
    }
      where
        position : ℕ → Position ℕ
        position v = position_of v (cases_lt v (size g))

        at_place : (v : ℕ) → v < size g → (c : (v < size g) ⊎ (size g ≤ v))
            → IsAt v (position_of v c) × Reached (position_of v c)
        at_place v low (inl here) = ((vertex_reached v here).at, (vertex_reached v here).reached)
        at_place v low (inr past) = absurd (omega (arith, low, past))

        apart : (v w : ℕ) → v < size g → w < size g → position v ≡ position w → v ≡ w
        apart v w v_low w_low same =
            one_vertex (position w) v w
            (subst (IsAt v) same (at_place v v_low (cases_lt v (size g))).0)
            (at_place w w_low (cases_lt w (size g))).0
