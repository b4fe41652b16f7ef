-- The game of an arena.
--
--   known_low       == a state with inputs is a vertex before the others
--   vertex_at       == each vertex is one of a state with inputs, or one of a state with its priority
--   arrival_low     == the state of each arrival is a state
--   row_low         == a state leads to vertices with inputs
--   arena_is_game   == the vertices are a game
--   arena_is_board  == it is the game over the automaton
use Rattle.std.proofs.Common.{ℕ, ◌≡◌, ◌+◌, ◌-◌, ◌*◌, ◌/◌, ◌%◌, ◌<◌, ◌≤◌, ◌⊎◌, inl, inr, ⊎_elim, arith, List, [], length}
use Rattle.std.proofs.Common.{slice_get, Some, sym, ap, ◌∙◌, subst}
use Rattle.std.specs.Prelude.{Contains}
use Rattle.std.proofs.Math.ListN.{get_or-eq_default}
use Rattle.std.proofs.Math.Nat.{div-add-mod', div-lt_iff_lt-mul, mod-lt, mul_comm}
use Rattle.std.proofs.lemmas.Bool.{cases_lt}
use Rattle.std.proofs.lemmas.List.Elements.{Contains-get_or}
use Rattle.std.proofs.lemmas.Nat.{mul-add-lt, div-mul-add, mod-mul-add}
use Rattle.std.proofs.lemmas.Option.{slice_get_within}
use Rattle.ml_lists.proofs.Entries.{some_entry}
use Rattle.ml_lists.proofs.Member.{Place, member-place}
use Rattle.ml_lists.proofs.Members.{member_of_contains, contains_none}
use Rattle.ml_parity.specs.Game.{ParityGame, HasMove, IsGame, moves_of, size}
use Rattle.ml_determinise.specs.Numbering.{automaton_of, move_at}
use Rattle.ml_determinise.specs.declared.moves.DetMove.{DetMove}
use Rattle.ml_synthesis.specs.declared.arrival.Arrival.{Arrival}
use Rattle.ml_synthesis.specs.private.Arena.{AreMoves, IsEnd, IsArena, IsKnownAt, IsStateAt, arrival_of, begun}
use Rattle.ml_synthesis.proofs.Boards.{IsBoard, IsState, reply}

pub known_low : (q ins n states : ℕ) → q < states → ins < n → q * n + ins < states * n
known_low q ins n states low set =
    let bound = mul-add-lt q n ins states low set in
    let same = mul_comm n states in
    omega (arith, bound, same)

-- an entry of a list stands at some place
contained : (xs : List ℕ) (x : ℕ) → Contains xs x → Place x xs
contained xs x inside = member-place x xs (member_of_contains x xs inside)

module _ (n m neutral : ℕ) (moves : List (List DetMove)) (ks : List Arrival) (g : ParityGame)
    (are : AreMoves n m neutral moves) (arena : IsArena n m neutral moves ks g) where
  -- where the states with their priorities begin
  abbrev base : ℕ
  base = length moves * n

  pub known_at : (q ins : ℕ) → q < length moves → ins < n → IsKnownAt n m base neutral moves ks g (q * n + ins)
  known_at q ins low set =
      let inside : q * n + ins < base = known_low q ins n (length moves) low set in
      arena.known (q * n + ins) (omega (arith, inside)) inside

  pub state_at : (k : ℕ) (a : Arrival) → slice_get ks k ≡ Some a → IsStateAt n a g (base + k)
  state_at k a is = arena.states k a (let low = slice_get_within ks k a is in omega (arith, low)) is

  -- the state of each arrival is a state
  pub arrival_low : (k : ℕ) (a : Arrival) → slice_get ks k ≡ Some a → a.state < length moves
  arrival_low k a is = by_kind (arena.arrivals.are_ends k a is)
    where
      by_kind : (a ≡ begun neutral) ⊎ IsEnd n m moves a → a.state < length moves
      by_kind (inl first) = subst (λ q. q < length moves) (sym (ap (λ (b : Arrival). b.state) first)) are.some
      by_kind (inr e) =
          subst (λ q. q < length moves) (sym (ap (λ (b : Arrival). b.state) e.is_end))
          (are.leads e.state e.letter e.is_state e.is_letter)

  -- what a vertex is
  pub data VertexAt (v : ℕ) : Type 0 where
    is_known : (q ins : ℕ) → q < length moves → ins < n → v ≡ q * n + ins → VertexAt v
    is_state : (k : ℕ) (a : Arrival) → slice_get ks k ≡ Some a → v ≡ base + k → VertexAt v

  pub vertex_at : (v : ℕ) → v < size g → VertexAt v
  vertex_at v low =
      ⊎_elim
      (λ (here : v < base).
      is_known (v / n) (v % n) ((div-lt_iff_lt-mul {k = n} {x = v} {y = length moves} are.sets).1 here)
      (mod-lt v are.sets) (sym (div_mod v n)))
      (λ (past : base ≤ v).
      let inside : v - base < length ks = let sizes = arena.owners in omega (arith, low, sizes, past) in
      let e = some_entry ks (v - base) inside in
      is_state (v - base) e.0 e.1 (omega (arith, past)))
      (cases_lt v base)
    where
      div_mod : (a w : ℕ) → a / w * w + a % w ≡ a
      div_mod a w = div-add-mod' a w

  -- a known vertex leads to so many vertices of arrivals
  pub record IsReply (q ins outs x : ℕ) : Type 0 where
    pub place : ℕ
    pub arrival : Arrival
    pub is : x ≡ base + place
    pub stands : slice_get ks place ≡ Some arrival
    pub ends : arrival ≡ arrival_of (move_at moves q (ins + n * outs))

  pub row_length : (q ins : ℕ) → q < length moves → ins < n → length (moves_of g (q * n + ins)) ≡ m
  row_length q ins low set = (known_at q ins low set).answers.one_each

  pub reply_at : (q ins outs : ℕ) → q < length moves → ins < n → outs < m → IsReply q ins outs (reply g n q ins outs)
  reply_at q ins outs low set given =
      let number = (known_at q ins low set).answers.numbers outs given in
      let same : arrival_of (move_at moves ((q * n + ins) / n) ((q * n + ins) % n + n * outs))
      ≡ arrival_of (move_at moves q (ins + n * outs)) =
      ap (λ p. arrival_of (move_at moves p ((q * n + ins) % n + n * outs))) (div-mul-add q n ins set)
      ∙ ap (λ i. arrival_of (move_at moves q (i + n * outs))) (mod-mul-add q n ins set) in
      record {
        place = number.place;
        arrival = arrival_of (move_at moves ((q * n + ins) / n) ((q * n + ins) % n + n * outs));
        is = number.is;
        stands = number.stands;
        ends = same;
      }

  -- where a known vertex leads, some set of outputs leads
  pub record IsSomeReply (q ins x : ℕ) : Type 0 where
    pub outs : ℕ
    pub low : outs < m
    pub is : x ≡ reply g n q ins outs

  pub some_reply : (q ins x : ℕ) → q < length moves → ins < n → HasMove g (q * n + ins) x → IsSomeReply q ins x
  some_reply q ins x low set move =
      let p = contained (moves_of g (q * n + ins)) x move in
      record {
        outs = p.place;
        low = let long = row_length q ins low set in let below = p.below in omega (arith, long, below);
        is = sym (p.holds 0);
      }

  -- where a state leads, some set of inputs leads
  pub record IsSomeSet (a : Arrival) (x : ℕ) : Type 0 where
    pub ins : ℕ
    pub low : ins < n
    pub is : x ≡ a.state * n + ins

  pub some_set : (k : ℕ) (a : Arrival) (x : ℕ) → slice_get ks k ≡ Some a → HasMove g (base + k) x → IsSomeSet a x
  some_set k a x is move =
      let row = (state_at k a is).sets in
      let p = contained (moves_of g (base + k)) x move in
      let below : p.place < n = let long = row.one_each in let b = p.below in omega (arith, long, b) in
      record { ins = p.place; low = below; is = sym (p.holds 0) ∙ row.sets p.place below }

  pub sets_of : (k : ℕ) (a : Arrival) (ins : ℕ)
      → slice_get ks k ≡ Some a
      → ins < n
      → HasMove g (base + k) (a.state * n + ins)
  sets_of k a ins is low =
      let row = (state_at k a is).sets in
      subst (Contains (moves_of g (base + k))) (row.sets ins low)
      (Contains-get_or (moves_of g (base + k)) ins 0 (let long = row.one_each in omega (arith, low, long)))

  state_is : (k : ℕ) (a : Arrival) → slice_get ks k ≡ Some a → IsState g n (base + k) a.state a.priority
  state_is k a is = record {
    owner = (state_at k a is).owner;
    priority = (state_at k a is).priority;
    sets = λ ins low. sets_of k a ins is low;
  }

  pub arena_is_board : IsBoard g (automaton_of moves) n m (length moves) neutral base
  arena_is_board = record {
    starts = are.some;
    some = are.sets;
    begins =
        let same : base + 0 ≡ base = omega arith in
        subst (λ x. IsState g n x 0 neutral) same (state_is 0 (begun neutral) arena.arrivals.begins);
    owner = λ q ins low set. (known_at q ins low set).owner;
    priority = λ q ins low set. (known_at q ins low set).priority;
    replies = λ q ins outs low set given.
        Contains-get_or (moves_of g (q * n + ins)) outs 0
        (let long = row_length q ins low set in omega (arith, given, long));
    leads = λ q ins outs low set given.
        let r = reply_at q ins outs low set given in
        subst (λ x. IsState g n x (move_at moves q (ins + n * outs)).to (move_at moves q (ins + n * outs)).priority)
        (sym r.is) (subst (λ (a : Arrival). IsState g n (base + r.place) a.state a.priority) r.ends
        (state_is r.place r.arrival r.stands));
    stays = are.leads;
    low = are.low;
    even = are.neutral_even;
  }

  -- ---- a game

  goes_on : (v : ℕ) → v < size g → 0 < length (moves_of g v)
  goes_on v low = by_kind (vertex_at v low)
    where
      by_kind : VertexAt v → 0 < length (moves_of g v)
      by_kind (is_known q ins q_low set is) =
          let long = ap (λ u. length (moves_of g u)) is ∙ row_length q ins q_low set in
          let some = are.answers in
          omega (arith, long, some)
      by_kind (is_state k a stands is) =
          let long = ap (λ u. length (moves_of g u)) is ∙ (state_at k a stands).sets.one_each in
          let some = are.sets in
          omega (arith, long, some)

  pub in_range_of : (v w : ℕ) → HasMove g v w → w < size g
  in_range_of v w move =
      ⊎_elim
      (λ (low : v < size g). by_kind (vertex_at v low))
      (λ (past : size g ≤ v).
      let none : moves_of g v ≡ [] = get_or_past past in
      absurd (contains_none w (subst (λ r. Contains r w) none move)))
      (cases_lt v (size g))
    where
      get_or_past : size g ≤ v → moves_of g v ≡ []
      get_or_past past =
          let a = arena.lists in
          let b = arena.owners in
          let long : length g.successors ≤ v = omega (arith, past, a, b) in
          get_or-eq_default g.successors [] long

      by_kind : VertexAt v → w < size g
      by_kind (is_known q ins q_low set is) =
          let some = some_reply q ins w q_low set (subst (λ u. HasMove g u w) is move) in
          let r = reply_at q ins some.outs q_low set some.low in
          let place = slice_get_within ks r.place r.arrival r.stands in
          let value : w ≡ base + r.place = some.is ∙ r.is in
          let sizes = arena.owners in
          omega (arith, place, value, sizes)
      by_kind (is_state k a stands is) =
          let some = some_set k a w stands (subst (λ u. HasMove g u w) is move) in
          let inside = known_low a.state some.ins n (length moves) (arrival_low k a stands) some.low in
          let value = some.is in
          let sizes = arena.owners in
          omega (arith, inside, value, sizes)

  pub arena_is_game : IsGame g
  arena_is_game = record {
    priorities = arena.priorities ∙ sym arena.owners;
    lists = arena.lists ∙ sym arena.owners;
    goes_on = goes_on;
    in_range = in_range_of;
  }

  -- ---- how many moves

  pub moves_at_most : (most : ℕ) → n ≤ most → m ≤ most → (v : ℕ) → length (moves_of g v) ≤ most
  moves_at_most most few_inputs few_outputs v =
      ⊎_elim
      (λ (low : v < size g). by_kind (vertex_at v low))
      (λ (past : size g ≤ v).
      let none = ap length (get_or-eq_default g.successors [] {n = v}
      (let a = arena.lists in let b = arena.owners in omega (arith, past, a, b))) in
      omega (arith, none))
      (cases_lt v (size g))
    where
      by_kind : VertexAt v → length (moves_of g v) ≤ most
      by_kind (is_known q ins q_low set is) =
          let long = ap (λ u. length (moves_of g u)) is ∙ row_length q ins q_low set in
          omega (arith, long, few_outputs)
      by_kind (is_state k a stands is) =
          let long = ap (λ u. length (moves_of g u)) is ∙ (state_at k a stands).sets.one_each in
          omega (arith, long, few_inputs)
