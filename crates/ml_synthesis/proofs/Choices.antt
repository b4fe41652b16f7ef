-- Where the choices of a solution lead.
--
--   IsChoice     == the choice at a state with inputs is a state with a priority
--   choice_at_known, choice_at_state == so it is, and at a state the choice has inputs
--   row_behind   == where a state with inputs leads, there are states
--   choice_read, arrival_read == what is read of the solution, and of the arrivals
use Rattle.std.proofs.Common.{ℕ, ◌≡◌, ◌+◌, ◌-◌, ◌*◌, ◌/◌, ◌%◌, ◌<◌, ◌≤◌, ◌^◌, arith, List, length, get_or, slice_get}
use Rattle.std.proofs.Common.{Some, [], ◌∷◌, sym, ap, ◌∙◌, subst}
use Rattle.std.proofs.Math.Nat.{div-lt_iff_lt-mul, le-mul_of_pos_right, mod-lt, mul-div_cancel}
use Rattle.std.proofs.lemmas.List.{get_or_default}
use Rattle.std.proofs.lemmas.Nat.{div-add-mod'}
use Rattle.std.proofs.lemmas.Option.{get_or_from_slice_get, slice_get_within}
use Rattle.ml_lists.specs.Added.{IsAdded}
use Rattle.ml_lists.proofs.Entries.{some_entry}
use Rattle.ml_parity.specs.declared.players.Player.TheVariants.{Even, Odd}
use Rattle.ml_parity.specs.Game.{ParityGame, HasMove, moves_of, owner_of, size}
use Rattle.ml_parity.specs.Solution.{GameSolution, choice_at}
use Rattle.ml_synthesis.specs.declared.arrival.Arrival.{Arrival}
use Rattle.ml_synthesis.specs.private.Arena.{IsNumberOf}
use Rattle.ml_synthesis.specs.private.Numbered.{AreNumbers, IsRowMet}
use Rattle.ml_synthesis.specs.private.Solved.{IsSolved}
use Rattle.ml_synthesis.proofs.Arenas.{arrival_low, IsReply, IsSomeReply, IsSomeSet, known_at, known_low, reply_at}
use Rattle.ml_synthesis.proofs.Arenas.{row_length, some_reply, some_set, state_at}
use Rattle.ml_synthesis.proofs.RowsMet.{row_more, row_none}
use Rattle.ml_synthesis.proofs.Boards.{reply}

module _ (n base : ℕ) (ks : List Arrival) (g : ParityGame) (s : GameSolution) (solved : IsSolved n base ks g s) where
  abbrev choice : ℕ → ℕ
  choice = choice_at s.choice

  sizes : size g ≡ base + length ks
  sizes = solved.arena.owners ∙ ap (λ b. b + length ks) (sym solved.base_is)

  pub known_is_vertex : (v : ℕ) → v < base → v < size g
  known_is_vertex v low = omega (arith, low, sizes)

  pub record IsChoice (v : ℕ) : Type 0 where
    pub is_vertex : v < size g
    pub is_move : HasMove g v (choice v)
    pub place : ℕ
    pub arrival : Arrival
    pub is : choice v ≡ base + place
    pub stands : slice_get ks place ≡ Some arrival

  pub choice_at_known : (v : ℕ) → v < base → IsChoice v
  choice_at_known v low = record {
    is_vertex = is_vertex;
    is_move = is_move;
    place = r.place;
    arrival = r.arrival;
    is = some.is ∙ r.is ∙ ap (λ b. b + r.place) (sym solved.base_is);
    stands = r.stands;
  }
    where
      m : ℕ
      m = solved.output_sets

      q : ℕ
      q = v / n

      ins : ℕ
      ins = v % n

      inside : v < length solved.moves * n
      inside = subst (λ b. v < b) solved.base_is low

      q_low : v / n < length solved.moves
      q_low = (div-lt_iff_lt-mul {k = n} {x = v} {y = length solved.moves} solved.are_moves.sets).1 inside

      ins_low : v % n < n
      ins_low = mod-lt v solved.are_moves.sets

      whole : v / n * n + v % n ≡ v
      whole = div-add-mod' v n

      is_vertex : v < size g
      is_vertex = known_is_vertex v low

      is_move : HasMove g v (choice v)
      is_move =
          solved.solution.strategies Even v is_vertex
          (subst (λ u. owner_of g u ≡ Even) whole
          (known_at n m solved.neutral solved.moves ks g solved.are_moves solved.arena q ins q_low ins_low).owner)

      some : IsSomeReply n m solved.neutral solved.moves ks g solved.are_moves solved.arena q ins (choice v)
      some =
          some_reply n m solved.neutral solved.moves ks g solved.are_moves solved.arena q ins (choice v) q_low ins_low
          (subst (λ u. HasMove g u (choice v)) (sym whole) is_move)

      r : IsReply n m solved.neutral solved.moves ks g solved.are_moves solved.arena q ins some.outs
          (reply g n q ins some.outs)
      r = reply_at n m solved.neutral solved.moves ks g solved.are_moves solved.arena q ins some.outs q_low ins_low
          some.low

  -- ---- what the program reads

  pub choice_read : (v : ℕ)
      → v < size g
      → (items : List ℕ) (x : ℕ)
      → items ≡ s.choice
      → x ≡ get_or items v x
      → x ≡ choice v
  choice_read v low items x same entry =
      entry ∙ ap (λ xs. get_or xs v x) same
      ∙ get_or_default s.choice v x 0 (let long = solved.solution.choices in omega (arith, low, long))

  -- the arrival at the choice stands among those that are listed
  pub record IsRead (v x : ℕ) (listed : List Arrival) : Type 0 where
    pub behind : base ≤ x
    pub inside : x - base < length listed
    pub number : (d : Arrival) → IsNumberOf base ks (get_or listed (x - base) d) (choice v)

  pub arrival_read : (v : ℕ) → v < base
      → (items : List ℕ) (x : ℕ) (listed : List Arrival)
      → items ≡ s.choice
      → x ≡ get_or items v x
      → listed ≡ ks
      → IsRead v x listed
  arrival_read v low items x listed same entry keys =
      let c : IsChoice v = choice_at_known v low in
      let is = choice_read v c.is_vertex items x same entry in
      let at = c.is in
      let place : x - base ≡ c.place = omega (arith, is, at) in
      let stands : slice_get listed (x - base) ≡ Some c.arrival =
      ap (λ zs. slice_get zs (x - base)) keys ∙ ap (slice_get ks) place ∙ c.stands in
      record {
        behind = omega (arith, is, at);
        inside = slice_get_within listed (x - base) c.arrival stands;
        number = λ d. record {
          place = c.place;
          is = c.is;
          stands = c.stands ∙ ap Some (sym (get_or_from_slice_get listed (x - base) c.arrival d stands));
        };
      }

  -- the states are so many, and no more than 32 bits can tell
  pub states_are : base / n ≡ length solved.moves
  states_are = ap (λ b. b / n) solved.base_is ∙ mul-div_cancel (length solved.moves) {n = n} solved.are_moves.sets

  pub few_states : size g ≤ 2 ^ 32 → base / n ≤ 2 ^ 32
  few_states small =
      let times = le-mul_of_pos_right {m = n} (length solved.moves) solved.are_moves.sets in
      let same = states_are in
      let all = sizes in
      let whole = solved.base_is in
      omega (arith, times, small, same, all, whole)

  -- the state of an arrival is a state
  pub state_low : (k : ℕ) (a : Arrival) → slice_get ks k ≡ Some a → a.state < base / n
  state_low k a stands =
      let low = arrival_low n solved.output_sets solved.neutral solved.moves ks g solved.are_moves solved.arena k a
      stands in
      let same = states_are in
      omega (arith, low, same)

  -- the state at a choice is numbered
  pub state_numbered : (v : ℕ) (a : Arrival) (x : ℕ) (states js : List ℕ) (i : ℕ)
      → IsNumberOf base ks a (choice v)
      → x ≡ a.state
      → AreNumbers 0 (base / n) states
      → IsAdded states x js i
      → IsRowMet 0 (base / n) states (i ∷ []) js
  state_numbered v a x states js i is state numbers added =
      row_more 0 (base / n) states [] states x js i (row_none 0 (base / n) states numbers) (omega arith)
      (subst (λ q. q < base / n) (sym state) (state_low is.place a is.stands)) added

  -- the inputs of a state are vertices with inputs
  pub vertex_low : (q ins : ℕ) → q < base / n → ins < n → q * n + ins < base
  vertex_low q ins low set =
      subst (λ b. q * n + ins < b) (sym solved.base_is)
      (known_low q ins n (length solved.moves) (subst (λ b. q < b) states_are low) set)

  pub states_some : 0 < base / n
  states_some = let same = states_are in let some = solved.are_moves.some in omega (arith, same, some)

  -- ---- at a state

  -- the choice at a state with a priority is that state with inputs
  pub record IsSetChoice (v : ℕ) : Type 0 where
    pub place : ℕ
    pub arrival : Arrival
    pub vertex_is : v ≡ base + place
    pub stands : slice_get ks place ≡ Some arrival
    pub is_move : HasMove g v (choice v)
    pub ins : ℕ
    pub is_set : ins < n
    pub is : choice v ≡ arrival.state * n + ins
    pub low : choice v < base

  pub choice_at_state : (v : ℕ) → base ≤ v → v < size g → IsSetChoice v
  choice_at_state v behind low = record {
    place = v - base;
    arrival = e.0;
    vertex_is = vertex_is;
    stands = e.1;
    is_move = is_move;
    ins = some.ins;
    is_set = some.low;
    is = some.is;
    low =
        let inside = vertex_low e.0.state some.ins (state_low (v - base) e.0 e.1) some.low in
        let is = some.is in
        omega (arith, inside, is);
  }
    where
      e : (a : Arrival) × (slice_get ks (v - base) ≡ Some a)
      e = some_entry ks (v - base) (omega (arith, behind, low, sizes))

      vertex_is : v ≡ base + (v - base)
      vertex_is = omega (arith, behind)

      here : v ≡ length solved.moves * n + (v - base)
      here = vertex_is ∙ ap (λ b. b + (v - base)) solved.base_is

      is_move : HasMove g v (choice v)
      is_move =
          solved.solution.strategies Odd v low
          (subst (λ u. owner_of g u ≡ Odd) (sym here)
          (state_at n solved.output_sets solved.neutral solved.moves ks g solved.are_moves solved.arena (v - base) e.0
          e.1).owner)

      some : IsSomeSet n solved.output_sets solved.neutral solved.moves ks g solved.are_moves solved.arena e.0
          (choice v)
      some =
          some_set n solved.output_sets solved.neutral solved.moves ks g solved.are_moves solved.arena (v - base) e.0
          (choice v) e.1 (subst (λ u. HasMove g u (choice v)) here is_move)

  -- where a vertex with inputs leads, there are states
  pub record IsStateVertex (x : ℕ) : Type 0 where
    pub behind : base ≤ x
    pub inside : x < size g

  pub row_behind : (u i : ℕ) → u < base → i < length (moves_of g u) → IsStateVertex (get_or (moves_of g u) i 0)
  row_behind u i low here =
      let inside : u < length solved.moves * n = subst (λ b. u < b) solved.base_is low in
      let q_low = (div-lt_iff_lt-mul {k = n} {x = u} {y = length solved.moves} solved.are_moves.sets).1 inside in
      let ins_low = mod-lt u solved.are_moves.sets in
      let whole : u / n * n + u % n ≡ u = div-add-mod' u n in
      let long = ap (λ v. length (moves_of g v)) (sym whole)
      ∙ row_length n solved.output_sets solved.neutral solved.moves ks g solved.are_moves solved.arena (u / n) (u % n)
      q_low ins_low in
      let r = reply_at n solved.output_sets solved.neutral solved.moves ks g solved.are_moves solved.arena (u / n)
      (u % n) i q_low ins_low (omega (arith, long, here)) in
      let value : get_or (moves_of g u) i 0 ≡ base + r.place =
      ap (λ v. get_or (moves_of g v) i 0) (sym whole) ∙ r.is ∙ ap (λ b. b + r.place) (sym solved.base_is) in
      let place = slice_get_within ks r.place r.arrival r.stands in
      record { behind = omega (arith, value); inside = omega (arith, value, place, sizes) }

  -- what is read at a state is a vertex with inputs
  pub choice_low : (v : ℕ)
      → base ≤ v
      → v < size g
      → (items : List ℕ) (x : ℕ)
      → items ≡ s.choice
      → x ≡ get_or items v x
      → x < base
  choice_low v behind low items x same entry =
      subst (λ u. u < base) (sym (choice_read v low items x same entry)) (choice_at_state v behind low).low

  pub base_is_vertex : base < size g
  base_is_vertex =
      let first = slice_get_within ks 0 _ solved.arena.arrivals.begins in
      let all = sizes in
      omega (arith, first, all)
