-- The parity game of an arena as it is held.
--
--   held_game == the game of the lists that an arena keeps is one
use Rattle.std.proofs.Common.{ℕ, ◌≡◌, ◌+◌, ◌<◌, ◌≤◌, ◌⊎◌, inl, inr, List, [], ◌∷◌, ◌++◌, length, length-append, get_or, map, Contains, sym, ap, ◌∙◌, subst, arith}
use Rattle.std.proofs.lemmas.Bool.{cases_lt, cases_eq}
use Rattle.std.proofs.lemmas.List.{get_or_append_left, get_or-append-add, get_or_past, length-map}
use Rattle.std.proofs.lemmas.Simd.{map-map}
use Rattle.ml_lists.specs.Member.{IsMember}
use Rattle.ml_lists.proofs.Members.{member_of_contains, contains_none}
use Rattle.ml_parity.specs.declared.players.Player.{Player}
use Rattle.ml_parity.specs.declared.players.Player.TheVariants.{Even}
use Rattle.ml_parity.specs.Game.{ParityGame, IsGame, HasMove, size, moves_of}
use Rattle.ml_trace.specs.Stack.{Item}
use Rattle.ml_product.specs.Placed.{Placed}
use Rattle.ml_product.specs.private.Shared.{IsHeld, seen, shown}
use Rattle.ml_product.specs.Position.{Position}
use Rattle.ml_product.specs.Arena.{Arena, game_of}
use Rattle.ml_product.proofs.ArenaGame.{single_low}

module _ (a : Arena) (n : ℕ)
    (count : length a.positions ≡ n)
    (owners : length a.owners ≡ n)
    (lists : length a.moves ≡ n)
    (some : (v : ℕ) → v < n → 0 < length (get_or a.moves v []))
    (low : (v w : ℕ) → Contains (get_or a.moves v []) w → w < n + 2) where
  abbrev ends : List (List ℕ)
  ends = (length a.positions ∷ []) ∷ ((length a.positions + 1) ∷ []) ∷ []

  size_is : size (game_of a) ≡ n + 2
  size_is = omega (arith, length-append a.owners (Even ∷ Even ∷ []))

  inside_moves : (v : ℕ) → v < n → moves_of (game_of a) v ≡ get_or a.moves v []
  inside_moves v inside = get_or_append_left a.moves ends [] v (omega arith)

  lost_moves : moves_of (game_of a) n ≡ n ∷ []
  lost_moves =
      let e : n ≡ length a.moves + 0 = omega arith in
      ap (λ k. get_or (game_of a).successors k []) e ∙ get_or-append-add a.moves ends 0 [] ∙ ap (λ k. k ∷ []) count

  won_moves : moves_of (game_of a) (n + 1) ≡ (n + 1) ∷ []
  won_moves =
      let e : n + 1 ≡ length a.moves + 1 = omega arith in
      ap (λ k. get_or (game_of a).successors k []) e ∙ get_or-append-add a.moves ends 1 []
      ∙ ap (λ k. (k + 1) ∷ []) count

  goes_on : (v : ℕ) → v < n + 2
      → (v < n) ⊎ (n ≤ v)
      → (v ≡ n) ⊎ (v ≡ n → ⊥)
      → 0 < length (moves_of (game_of a) v)
  goes_on v bound (inl inside) at_lost = subst (λ ms. 0 < length ms) (sym (inside_moves v inside)) (some v inside)
  goes_on v bound (inr past) (inl same) =
      let e : length (moves_of (game_of a) v) ≡ 1 =
      ap (λ k. length (moves_of (game_of a) k)) same ∙ ap length lost_moves in
      omega arith
  goes_on v bound (inr past) (inr other) =
      let same : v ≡ n + 1 = omega (arith, other) in
      let e : length (moves_of (game_of a) v) ≡ 1 =
      ap (λ k. length (moves_of (game_of a) k)) same ∙ ap length won_moves in
      omega arith

  list_size : length (game_of a).successors ≡ n + 2
  list_size = omega (arith, length-append a.moves ends)

  in_range : (v w : ℕ)
      → HasMove (game_of a) v w
      → (v < n) ⊎ (n ≤ v)
      → (v ≡ n) ⊎ (v ≡ n → ⊥)
      → (v ≡ n + 1) ⊎ (v ≡ n + 1 → ⊥)
      → w < n + 2
  in_range v w move (inl inside) at_lost at_won = low v w (subst (λ ms. Contains ms w) (inside_moves v inside) move)
  in_range v w move (inr past) (inl same) at_won =
      single_low w n (n + 2) (omega arith)
      (subst (λ ms. IsMember w ms) (ap (moves_of (game_of a)) same ∙ lost_moves)
      (member_of_contains w (moves_of (game_of a) v) move))
  in_range v w move (inr past) (inr other) (inl same) =
      single_low w (n + 1) (n + 2) (omega arith)
      (subst (λ ms. IsMember w ms) (ap (moves_of (game_of a)) same ∙ won_moves)
      (member_of_contains w (moves_of (game_of a) v) move))
  in_range v w move (inr past) (inr other) (inr another) =
      let none = get_or_past (game_of a).successors v [] (omega (arith, list_size, other, another)) in
      absurd (contains_none w (subst (λ ms. Contains ms w) none move))

  -- the game of the arena is one
  pub held_game : IsGame (game_of a)
  held_game = record {
    priorities = omega (
      arith,
      size_is,
      length-append (map (λ p. p.priority) a.positions) (1 ∷ 0 ∷ []),
      length-map a.positions (λ p. p.priority),
    );
    lists = omega (arith, size_is, list_size);
    goes_on = λ v inside. goes_on v (omega (arith, size_is)) (cases_lt v n) (cases_eq v n);
    in_range = λ v w move. let less = in_range v w move (cases_lt v n) (cases_eq v n) (cases_eq v (n + 1)) in
        omega (arith, size_is);
  }

-- ---- the game that is made of what is held

abbrev pub of_lists : List Player → List ℕ → List (List ℕ) → ParityGame
of_lists os ps ms = record { owner = os; priority = ps; successors = ms }

module _ (ss : List (List ℕ)) (hs : List (List (Item ℕ))) (xs : List Placed) (owners : List Player)
    (moves : List (List ℕ)) where
  abbrev held : Arena
  held = record { positions = shown ss hs xs; owners = owners; moves = moves }

  -- the lists that are made are those of the game
  pub game_from : (now : Arena)
      → held ≡ now
      → (os : List Player) (ps : List ℕ) (ms : List (List ℕ)) (n : ℕ)
      → n ≡ length xs
      → os ≡ owners ++ Even ∷ Even ∷ []
      → ps ≡ map (λ (x : Placed). x.priority) xs ++ 1 ∷ 0 ∷ []
      → ms ≡ moves ++ (n ∷ []) ∷ ((n + 1) ∷ []) ∷ []
      → of_lists os ps ms ≡ game_of now
  game_from now is os ps ms n count o p m = λ i. record {
    owner = (o ∙ ap (λ (a : Arena). a.owners ++ Even ∷ Even ∷ []) is) i;
    priority = (p ∙ ap (λ ks. ks ++ 1 ∷ 0 ∷ []) (sym (map-map (λ (q : Position). q.priority) (seen ss hs) xs))
        ∙ ap (λ (a : Arena). map (λ (q : Position). q.priority) a.positions ++ 1 ∷ 0 ∷ []) is) i;
    successors = (m ∙ ap (λ k. moves ++ (k ∷ []) ∷ ((k + 1) ∷ []) ∷ []) (count ∙ sym (length-map xs (seen ss hs)))
        ∙ ap (λ (a : Arena). a.moves ++ (length a.positions ∷ []) ∷ ((length a.positions + 1) ∷ []) ∷ []) is) i;
  }

  -- they are a game
  pub held_is_game : IsHeld ss hs xs owners moves → IsGame (game_of held)
  held_is_game h =
      held_game held (length xs) (length-map xs (seen ss hs)) h.an_owner_each h.moves_each h.goes_on h.in_range
