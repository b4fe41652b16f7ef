-- The game of rows in the order of their ids.
--
--   made           == what is made of such rows is their game
--   unknown_before == a successor that is no id of rows in another order is none
use Rattle.std.proofs.Common.{◌≡◌, ℕ, ◌-◌, ◌<◌, ◌≤◌, ⊎_elim, List, [], length, map, get_or, All, Contains, sym, ◌∙◌, ap, subst, arith}
use Rattle.std.specs.List.Sorted.{IsPermutation}
use Rattle.std.proofs.lemmas.Bool.{cases_lt}
use Rattle.std.proofs.lemmas.List.{length-map, get_or-map, get_or_past}
use Rattle.std.proofs.lemmas.List.Elements.{All-contains, All-map}
use Rattle.std.proofs.lemmas.List.Sorted.{IsPermutation-sym}
use Rattle.ml_lists.specs.Ascending.{IsAscending}
use Rattle.ml_lists.proofs.Member.{place-member, All-member}
use Rattle.ml_lists.proofs.Members.{contains_none}
use Rattle.ml_lists.proofs.Permuted.{permuted-member}
use Rattle.ml_parity.specs.declared.players.Player.{Player}
use Rattle.ml_parity.specs.Game.{ParityGame, IsGame, size}
use Rattle.ml_pgsolver.specs.GameText.{Row, HasIds, IsGameOf, IsLeastEvenFrom, id_at}
use Rattle.ml_pgsolver.specs.private.Assembled.{AreGiven, HasUnknownIn}

module _ (order : List Row) (ids : List ℕ) (owners : List Player) (priorities : List ℕ) (given : List (List ℕ)) (P : ℕ)
    (ids_are : ids ≡ map (λ r. r.id) order)
    (owners_are : owners ≡ map (λ r. r.owner) order)
    (priorities_are : priorities ≡ map (λ r. P - r.priority) order)
    (are_given : AreGiven ids given order)
    (some : 0 < length order)
    (go_on : All (λ r. 0 < length r.successors) order) where
  abbrev made_game : ParityGame
  made_game = record { owner = owners; priority = priorities; successors = given }

  size_is : size made_game ≡ length order
  size_is = ap length owners_are ∙ length-map order (λ (r : Row). r.owner)

  ids_size : length ids ≡ length order
  ids_size = ap length ids_are ∙ length-map order (λ (r : Row). r.id)

  given_size : length given ≡ length order
  given_size = sym (length-map given (map (id_at ids))) ∙ ap length are_given.ids_there ∙ length-map order (λ (r : Row). r.successors)

  moves-length : (v : ℕ) → v < length order → 0 < length (get_or given v [])
  moves-length v below =
      let here : map (id_at ids) (get_or given v []) ≡ get_or (map (λ (r : Row). r.successors) order) v [] =
      sym (get_or-map (map (id_at ids)) given v [] [] (omega (arith, given_size)))
      ∙ ap (λ xs. get_or xs v []) are_given.ids_there in
      let member = place-member (map (λ (r : Row). r.successors) order) v []
      (omega (arith, length-map order (λ (r : Row). r.successors))) in
      let long = All-member (λ (xs : List ℕ). 0 < length xs) (map (λ (r : Row). r.successors) order)
      (All-map (λ (xs : List ℕ). 0 < length xs) (λ (r : Row). r.successors) order go_on)
      (get_or (map (λ (r : Row). r.successors) order) v []) member in
      omega (arith, long, ap length here, length-map (get_or given v []) (id_at ids))

  moves-within : (v w : ℕ) → Contains (get_or given v []) w → w < length order
  moves-within v w move =
      ⊎_elim
      (λ (below : v < length given).
      let all = All-member (All (λ i. i < length ids)) given are_given.within (get_or given v []) (place-member given v [] below) in
      let low = All-contains (λ i. i < length ids) (get_or given v []) w all move in omega (arith, ids_size))
      (λ (past : length given ≤ v).
      absurd (contains_none w (subst (λ xs. Contains xs w) (get_or_past given v [] past) move)))
      (cases_lt v (length given))

  pub made_is_game : IsGame made_game
  made_is_game = record {
    priorities = ap length priorities_are ∙ length-map order (λ (r : Row). P - r.priority) ∙ sym size_is;
    lists = given_size ∙ sym size_is;
    goes_on = λ v below. moves-length v (omega (arith, size_is));
    in_range = λ v w move. let low = moves-within v w move in omega (arith, size_is);
  }

  pub made_has_ids : HasIds ids made_game
  made_has_ids = (ids_size ∙ sym size_is, omega (arith, size_is))

  pub made : (rows : List Row) → IsPermutation rows order → IsAscending ids → IsLeastEvenFrom (map (λ r. r.priority) order) P
      → IsGameOf rows (record { ids = ids; game = made_game })
  made rows perm ascends least = record {
    is_named = record { has_ids = made_has_ids; ascends = ascends; game = made_is_game };
    order = order;
    P = P;
    reordered = perm;
    ids = ids_are;
    owners = owners_are;
    highest = least;
    priorities = priorities_are;
    successors = are_given.ids_there;
  }

pub unknown_before : (rows order : List Row) (ids before : List ℕ) → IsPermutation rows order → IsPermutation before ids
    → HasUnknownIn ids order
    → HasUnknownIn before rows
unknown_before rows order ids before perm perm_ids (r, member, (n, inside, none)) = (
  r,
  permuted-member r order rows (IsPermutation-sym rows order perm) member,
  (n, inside, λ there. none (permuted-member n before ids perm_ids there)),
)
