-- Rows that a program has put in the order of their ids.
--
--   AreSorted rows now  == these are the rows, in the order of their ids
--   sorted_small, sorted_ascend, sorted_unknown, sorted_game  == what is known of them, and of what is made of them
use Rattle.std.proofs.Common.{◌≡◌, ℕ, ◌-◌, ◌<◌, ◌≤◌, List, length, map, All, sym, ◌∙◌, subst, arith}
use Rattle.std.specs.Global.{Vec}
use Rattle.std.specs.List.Sorted.{IsPermutation, IsNonDecreasingBy}
use Rattle.std.proofs.lemmas.Simd.{map-map}
use Rattle.std.proofs.lemmas.List.Sorted.{IsPermutation-map, length_permutation}
use Rattle.ml_lists.specs.Ascending.{IsAscending}
use Rattle.ml_lists.specs.Times.{IsApart}
use Rattle.ml_parity.specs.declared.players.Player.{Player}
use Rattle.ml_parity.specs.Game.{IsGame}
use Rattle.ml_parity.specs.Refusal.{game_of, lists_of}
use Rattle.ml_pgsolver.specs.GameText as game_text
use Rattle.ml_pgsolver.specs.GameText.{HasIds, IsGameOf, IsLeastEvenFrom}
use Rattle.ml_pgsolver.specs.Refusals.{greatest_number}
use Rattle.ml_pgsolver.specs.declared.reader.Row.{Row}
use Rattle.ml_pgsolver.specs.private.Assembled.{AreGiven, HasUnknownIn, IsReadable}
use Rattle.ml_pgsolver.specs.private.Rows.{row_view, rows_view}
use Rattle.ml_pgsolver.proofs.InIdOrder.{all_permuted, all_from_map}
use Rattle.ml_pgsolver.proofs.MadeGames.{made, made_is_game, made_has_ids, unknown_before}
use Rattle.ml_lists.proofs.Sorted.{apart-permuted, ascending_by}

pub record AreSorted (rows now : List Row) : Type 0 where
  pub readable : IsReadable (rows_view rows)
  pub same : IsPermutation rows now
  pub rise : IsNonDecreasingBy (λ r. r.id) now

module _ (rows now : List Row) (sorted : AreSorted rows now) where
  pub sorted_small : All (λ r. r.priority ≤ greatest_number) now
  sorted_small = all_permuted (λ (r : Row). r.priority ≤ greatest_number) rows now sorted.same
      (all_from_map row_view (λ (r : game_text.Row). r.priority ≤ greatest_number) rows sorted.readable.small)

  same_ids : IsPermutation (map (λ r. r.id) rows) (map (λ r. r.id) now)
  same_ids = IsPermutation-map (λ (r : Row). r.id) rows now sorted.same

  same_rows : IsPermutation (rows_view rows) (rows_view now)
  same_rows = IsPermutation-map row_view rows now sorted.same

  pub sorted_ascend : IsAscending (map (λ r. r.id) now)
  sorted_ascend = ascending_by (λ (r : Row). r.id) now sorted.rise
      (apart-permuted (map (λ (r : Row). r.id) rows) (map (λ (r : Row). r.id) now) same_ids
      (subst IsApart (map-map (λ (r : game_text.Row). r.id) row_view rows) sorted.readable.apart))

  some_now : 0 < length (rows_view now)
  some_now = omega (arith, sorted.readable.some, length_permutation (rows_view rows) (rows_view now) same_rows)

  go_on_now : All (λ r. 0 < length r.successors) (rows_view now)
  go_on_now = all_permuted (λ (r : game_text.Row). 0 < length r.successors) (rows_view rows) (rows_view now) same_rows
      sorted.readable.go_on

  pub sorted_unknown : (ids : List ℕ) → ids ≡ map (λ r. r.id) now → HasUnknownIn ids (rows_view now)
      → HasUnknownIn (map (λ r. r.id) rows) (rows_view rows)
  sorted_unknown ids is unknown = unknown_before (rows_view rows) (rows_view now) (map (λ (r : Row). r.id) now)
      (map (λ (r : Row). r.id) rows) same_rows same_ids (subst (λ xs. HasUnknownIn xs (rows_view now)) is unknown)

  -- the lists that are made of them
  module _ (ids : List ℕ) (owners : Vec Player) (priorities : Vec ℕ) (successors : Vec (Vec ℕ)) (P : ℕ)
      (ids_are : ids ≡ map (λ r. r.id) now)
      (owners_are : owners.items ≡ map (λ r. r.owner) now)
      (priorities_are : priorities.items ≡ map (λ r. P - r.priority) now)
      (are_given : AreGiven ids (lists_of successors.items) (rows_view now)) where
    ids_view : ids ≡ map (λ r. r.id) (rows_view now)
    ids_view = ids_are ∙ sym (map-map (λ (r : game_text.Row). r.id) row_view now)

    owners_view : owners.items ≡ map (λ r. r.owner) (rows_view now)
    owners_view = owners_are ∙ sym (map-map (λ (r : game_text.Row). r.owner) row_view now)

    priorities_view : priorities.items ≡ map (λ r. P - r.priority) (rows_view now)
    priorities_view = priorities_are ∙ sym (map-map (λ (r : game_text.Row). P - r.priority) row_view now)

    pub sorted_is_game : IsGame (game_of owners priorities successors)
    sorted_is_game = made_is_game (rows_view now) ids owners.items priorities.items (lists_of successors.items) P
        ids_view owners_view priorities_view are_given some_now go_on_now

    pub sorted_has_ids : HasIds ids (game_of owners priorities successors)
    sorted_has_ids = made_has_ids (rows_view now) ids owners.items priorities.items (lists_of successors.items) P
        ids_view owners_view priorities_view are_given some_now go_on_now

    pub sorted_game : IsLeastEvenFrom (map (λ r. r.priority) now) P
        → IsGameOf (rows_view rows) (record { ids = ids; game = game_of owners priorities successors })
    sorted_game least = made (rows_view now) ids owners.items priorities.items (lists_of successors.items) P
        ids_view owners_view priorities_view are_given some_now go_on_now (rows_view rows) same_rows
        (subst IsAscending (sym ids_are) sorted_ascend)
        (subst (λ ps. IsLeastEvenFrom ps P) (sym (map-map (λ (r : game_text.Row). r.priority) row_view now)) least)
