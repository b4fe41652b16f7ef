-- A game that is made vertex by vertex.
--
--   extended g who p row == the game with one vertex more
--   draft_known          == with one state with inputs more
--   draft_state          == with one state with its priority more
--   grown_game           == what the program adds
use Rattle.std.proofs.Common.{ℕ, ◌≡◌, ◌+◌, ◌*◌, ◌/◌, ◌%◌, ◌<◌, ◌≤◌, ⊎_elim, arith, List, [], ◌∷◌, ◌++◌, length}
use Rattle.std.proofs.Common.{slice_get, Some, sym, ap, ◌∙◌, subst, length-append}
use Rattle.std.specs.Global.{Vec}
use Rattle.std.proofs.lemmas.Bool.{cases_lt}
use Rattle.std.proofs.lemmas.List.{append-nil, get_or_append_left, get_or_push, map_push}
use Rattle.std.proofs.lemmas.Option.{same_Some}
use Rattle.ml_parity.specs.declared.players.Player.{Player}
use Rattle.ml_parity.specs.declared.players.Player.TheVariants.{Even, Odd}
use Rattle.ml_parity.specs.Game.{ParityGame, owner_of, priority_of, moves_of, size}
use Rattle.ml_parity.specs.Refusal.{game_of, lists_of}
use Rattle.ml_determinise.specs.declared.moves.DetMove.{DetMove}
use Rattle.ml_synthesis.specs.declared.arrival.Arrival.{Arrival}
use Rattle.ml_synthesis.specs.private.Arena.{AreAnswers, AreSets, IsAnswered, IsDraft, IsKnownAt, IsStateAt}
use Rattle.ml_synthesis.proofs.Answered.{answers_grown}

abbrev pub extended : ParityGame → Player → ℕ → List ℕ → ParityGame
extended g who p row = record {
  owner = g.owner ++ who ∷ [];
  priority = g.priority ++ p ∷ [];
  successors = g.successors ++ row ∷ [];
}

-- what the program adds
pub grown_game : (owner owner' : Vec Player) (priority priority' : Vec ℕ) (moves moves' : Vec (Vec ℕ)) (who : Player)
    (p : ℕ) (row : Vec ℕ)
    → owner'.items ≡ owner.items ++ who ∷ []
    → priority'.items ≡ priority.items ++ p ∷ []
    → moves'.items ≡ moves.items ++ row ∷ []
    → game_of owner' priority' moves' ≡ extended (game_of owner priority moves) who p row.items
grown_game owner owner' priority priority' moves moves' who p row owners priorities lists =
    let rows : lists_of moves'.items ≡ lists_of moves.items ++ row.items ∷ [] =
    ap lists_of lists ∙ map_push (λ (x : Vec ℕ). x.items) moves.items row in
    λ i. record { owner = owners i; priority = priorities i; successors = rows i }

module _ (g : ParityGame) (v : ℕ) (owners : size g ≡ v) (priorities : length g.priority ≡ v)
    (lists : length g.successors ≡ v) (who : Player) (p : ℕ) (row : List ℕ) where
  abbrev longer : ParityGame
  longer = extended g who p row

  same_owner : (u : ℕ) → u < v → owner_of longer u ≡ owner_of g u
  same_owner u low = get_or_append_left g.owner (who ∷ []) Even u (omega (arith, low, owners))

  same_priority : (u : ℕ) → u < v → priority_of longer u ≡ priority_of g u
  same_priority u low = get_or_append_left g.priority (p ∷ []) 0 u (omega (arith, low, priorities))

  same_moves : (u : ℕ) → u < v → moves_of longer u ≡ moves_of g u
  same_moves u low = get_or_append_left g.successors (row ∷ []) [] u (omega (arith, low, lists))

  new_owner : owner_of longer v ≡ who
  new_owner = get_or_push g.owner who Even v owners

  new_priority : priority_of longer v ≡ p
  new_priority = get_or_push g.priority p 0 v priorities

  new_moves : moves_of longer v ≡ row
  new_moves = get_or_push g.successors row [] v lists

  one_more : (size longer ≡ v + 1) × (length longer.priority ≡ v + 1) × (length longer.successors ≡ v + 1)
  one_more =
      let a = length-append g.owner (who ∷ []) in
      let b = length-append g.priority (p ∷ []) in
      let c = length-append g.successors (row ∷ []) in
      (omega (arith, a, owners), omega (arith, b, priorities), omega (arith, c, lists))

module _ (n m neutral : ℕ) (moves : List (List DetMove)) (ks : List Arrival) (g : ParityGame) (v : ℕ)
    (draft : IsDraft n m neutral moves ks g v) where
  abbrev base : ℕ
  base = length moves * n

  known_kept : (js more : List Arrival) (who : Player) (p : ℕ) (row : List ℕ) (u : ℕ)
      → js ≡ ks ++ more
      → u < v
      → u < base
      → IsKnownAt n m base neutral moves js (extended g who p row) u
  known_kept js more who p row u grown low here =
      let old = draft.known u low here in
      record {
        owner = same_owner g v draft.owners draft.priorities draft.lists who p row u low ∙ old.owner;
        priority = same_priority g v draft.owners draft.priorities draft.lists who p row u low ∙ old.priority;
        answers =
            subst (AreAnswers n base moves js (u / n) (u % n) m)
            (sym (same_moves g v draft.owners draft.priorities draft.lists who p row u low))
            (subst (λ zs. AreAnswers n base moves zs (u / n) (u % n) m (moves_of g u)) (sym grown)
            (answers_grown n base moves ks more (u / n) (u % n) m (moves_of g u) old.answers));
      }

  -- one state with inputs more
  pub draft_known : (js : List Arrival) (vs : List ℕ)
      → v < base
      → IsAnswered n m base neutral moves ks (v / n) (v % n) m js vs
      → IsDraft n m neutral moves js (extended g Even neutral vs) (v + 1)
  draft_known js vs here a = record {
    owners = sizes.0;
    priorities = sizes.1;
    lists = sizes.2;
    arrivals = a.arrivals;
    known = λ u low inside.
        ⊎_elim
        (λ (before : u < v). known_kept js a.more Even neutral vs u a.grown before inside)
        (λ (last : v ≤ u).
        let same : u ≡ v = omega (arith, low, last) in
        subst (IsKnownAt n m base neutral moves js (extended g Even neutral vs)) (sym same) newest)
        (cases_lt u v);
    states = λ k b low stands. absurd (omega (arith, low, here));
  }
    where
      sizes : (size (extended g Even neutral vs) ≡ v + 1) × (length (extended g Even neutral vs).priority ≡ v + 1)
          × (length (extended g Even neutral vs).successors ≡ v + 1)
      sizes = one_more g v draft.owners draft.priorities draft.lists Even neutral vs

      newest : IsKnownAt n m base neutral moves js (extended g Even neutral vs) v
      newest = record {
        owner = new_owner g v draft.owners draft.priorities draft.lists Even neutral vs;
        priority = new_priority g v draft.owners draft.priorities draft.lists Even neutral vs;
        answers =
            subst (AreAnswers n base moves js (v / n) (v % n) m)
            (sym (new_moves g v draft.owners draft.priorities draft.lists Even neutral vs)) a.answers;
      }

  -- one state with its priority more
  pub draft_state : (k : ℕ) (a : Arrival) (vs : List ℕ)
      → v ≡ base + k
      → slice_get ks k ≡ Some a
      → AreSets n a.state n vs
      → IsDraft n m neutral moves ks (extended g Odd a.priority vs) (v + 1)
  draft_state k a vs here stands sets = record {
    owners = sizes.0;
    priorities = sizes.1;
    lists = sizes.2;
    arrivals = draft.arrivals;
    known = λ u low inside. known_kept ks [] Odd a.priority vs u (sym (append-nil ks))
        (omega (arith, inside, here)) inside;
    states = λ j b low is.
        ⊎_elim
        (λ (before : base + j < v). kept j b before is)
        (λ (last : v ≤ base + j).
        let same : j ≡ k = omega (arith, low, last, here) in
        newest j b same is)
        (cases_lt (base + j) v);
  }
    where
      sizes : (size (extended g Odd a.priority vs) ≡ v + 1) × (length (extended g Odd a.priority vs).priority ≡ v + 1)
          × (length (extended g Odd a.priority vs).successors ≡ v + 1)
      sizes = one_more g v draft.owners draft.priorities draft.lists Odd a.priority vs

      kept : (j : ℕ) (b : Arrival) → base + j < v → slice_get ks j ≡ Some b
          → IsStateAt n b (extended g Odd a.priority vs) (base + j)
      kept j b low is =
          let old = draft.states j b low is in
          record {
            owner = same_owner g v draft.owners draft.priorities draft.lists Odd a.priority vs (base + j) low ∙
                old.owner;
            priority = same_priority g v draft.owners draft.priorities draft.lists Odd a.priority vs (base + j) low ∙
                old.priority;
            sets =
                subst (AreSets n b.state n)
                (sym (same_moves g v draft.owners draft.priorities draft.lists Odd a.priority vs (base + j) low))
                old.sets;
          }

      newest : (j : ℕ) (b : Arrival) → j ≡ k → slice_get ks j ≡ Some b
          → IsStateAt n b (extended g Odd a.priority vs) (base + j)
      newest j b same is =
          let same_arrival : a ≡ b = same_Some a b (sym stands ∙ ap (slice_get ks) (sym same) ∙ is) in
          let place : v ≡ base + j = omega (arith, here, same) in
          subst (λ u. IsStateAt n b (extended g Odd a.priority vs) u) place
          (subst (λ (x : Arrival). IsStateAt n x (extended g Odd a.priority vs) v) same_arrival (record {
            owner = new_owner g v draft.owners draft.priorities draft.lists Odd a.priority vs;
            priority = new_priority g v draft.owners draft.priorities draft.lists Odd a.priority vs;
            sets = subst (AreSets n a.state n)
                (sym (new_moves g v draft.owners draft.priorities draft.lists Odd a.priority vs)) sets;
          }))
