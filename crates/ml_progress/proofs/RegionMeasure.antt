-- From a winning strategy to a progress measure.
--
-- Where the player wins, the list of a vertex has for each bad priority the number of visits; elsewhere there is the top.
--
--   region_measure      == that measure
--   region_listed       == it has a list where the player wins
--   region_progresses   == it is a progress measure
use Rattle.std.proofs.Common.{ℕ, ◌≡◌, ◌≢◌, ◌<◌, ◌≤◌, ⊎_elim, arith, Bool, true, false, cond, List, length, get_or, map, take, Option, Some, None, refl, sym, ap, ◌∙◌, subst, subst₂, length-take}
use Rattle.std.specs.List.{range_with_len, filter}
use Rattle.std.proofs.lemmas.Bool.{cond-true, cond-false}
use Rattle.std.proofs.lemmas.List.{get_or-map, get_or-take, length-map}
use Rattle.std.proofs.lemmas.List.FromFn.{length-map-range_with_len, get_or-map-range_with_len}
use Rattle.ml_lists.specs.Member.{IsMember}
use Rattle.ml_lists.proofs.Ascending.{ascending-is, member-ascending}
use Rattle.ml_lists.proofs.Member.{member-filter, place-member}
use Rattle.ml_parity.specs.declared.players.Player.{Player}
use Rattle.ml_parity.specs.Player.{opponent, side}
use Rattle.ml_parity.specs.Game.{ParityGame, IsGame, HasMove, owner_of, priority_of, moves_of, size}
use Rattle.ml_parity.specs.Winner.{WinsFrom}
use Rattle.ml_parity.specs.private.Sinks.{Holds}
use Rattle.ml_parity.specs.private.SinkGame.{board_of}
use Rattle.ml_parity.proofs.Boards.{first_move}
use Rattle.ml_parity.proofs.Opponents.{not_both, is_or_not, same_player, same_player-true, same_player-false}
use Rattle.ml_parity.proofs.Winners.{Winners}
use Rattle.ml_parity.proofs.FollowedWalks.{FollowedMove}
use Rattle.ml_progress.specs.Measure.{Measure, Bounded, IsMeasure, ComesBefore, Falls, ProgressesFrom, Progresses, SomeProgress, IsProgressMeasure, is_bad, bad_priorities, how_many, measure_at}
use Rattle.ml_progress.specs.private.Bounds.{cut_length}
use Rattle.ml_progress.proofs.Cuts.{up_to-is, bad_side}
use Rattle.ml_progress.proofs.CutPlaces.{CutPlace, cut_fits, cut_low, cut_place, before_from}
use Rattle.ml_progress.proofs.Visits.{Onward, visits, visits_low, visits_stay, visits_fall}

module _ (g : ParityGame) (ok : IsGame g) (p : Player) (w : Winners g) where
  -- the numbers of visits from v
  abbrev numbers : ℕ → List ℕ
  numbers v = map (λ q. visits g ok p w.choice q v) (bad_priorities g p)

  abbrev value : ℕ → Option (List ℕ)
  value v = cond (same_player (w.win v) p) (Some (numbers v)) None

  -- the numbers where the player wins, and the top elsewhere
  abbrev pub region_measure : Measure
  region_measure = map value (range_with_len 0 (size g))

  value_at : (v : ℕ) → v < size g → measure_at region_measure v ≡ value v
  value_at v low = get_or-map-range_with_len value 0 (size g) v v None low (omega arith)

  won_value : (v : ℕ) → v < size g → w.win v ≡ p → measure_at region_measure v ≡ Some (numbers v)
  won_value v low won =
      value_at v low ∙ cond-true (same_player (w.win v) p) (Some (numbers v)) None (same_player-true (w.win v) p won)

  lost_value : (v : ℕ) → v < size g → (w.win v ≡ p → ⊥) → measure_at region_measure v ≡ None
  lost_value v low lost =
      value_at v low ∙ cond-false (same_player (w.win v) p) (Some (numbers v)) None (same_player-false (w.win v) p lost)

  -- it has a list where the player wins
  pub region_listed : (v : ℕ) → v < size g → w.win v ≡ p → measure_at region_measure v ≢ None
  region_listed v low won = λ e. let wrong = sym (won_value v low won) ∙ e in cc

  number_at : (v i : ℕ) → i < length (bad_priorities g p)
      → get_or (numbers v) i 0 ≡ visits g ok p w.choice (get_or (bad_priorities g p) i 0) v
  number_at v i low = get_or-map (λ q. visits g ok p w.choice q v) (bad_priorities g p) i 0 0 low

  bounded : (v : ℕ) → Bounded g p (numbers v)
  bounded v = record { long = length-map (bad_priorities g p) (λ q. visits g ok p w.choice q v); low = low }
    where
      low : (i : ℕ) → i < length (numbers v) → get_or (numbers v) i 0 ≤ how_many g (get_or (bad_priorities g p) i 0)
      low i under =
          let long = length-map (bad_priorities g p) (λ q. visits g ok p w.choice q v) in
          omega (arith, number_at v i (omega arith), visits_low g ok p w.choice (get_or (bad_priorities g p) i 0) v)

  measure : IsMeasure g p region_measure
  measure = record { vertices = length-map-range_with_len value 0 (size g); lists = lists }
    where
      lists : (v : ℕ) (xs : List ℕ) → v < size g → measure_at region_measure v ≡ Some xs → Bounded g p xs
      lists v xs low is = ⊎_elim
          (λ (won : w.win v ≡ p). let same : Some (numbers v) ≡ Some xs = sym (won_value v low won) ∙ is in
          let e : numbers v ≡ xs = cc in subst (Bounded g p) e (bounded v))
          (λ (lost : w.win v ≡ p → ⊥). let wrong = sym (lost_value v low lost) ∙ is in absurd (cc))
          (is_or_not (w.win v) p)

  -- ---- a move of the choice, where the player wins

  module _ (v x : ℕ) (low : v < size g) (won : w.win v ≡ p) (follows : FollowedMove g p w.choice v x) where
    abbrev level : ℕ
    level = priority_of g v

    abbrev c : ℕ
    c = cut_length g p v

    front : (i : ℕ) → i < c → i < length (bad_priorities g p)
    front i under = omega (arith, up_to-is level (bad_priorities g p), cut_fits level (bad_priorities g p))

    cut_at : (y i : ℕ) → i < c
        → get_or (take c (numbers y)) i 0 ≡ visits g ok p w.choice (get_or (bad_priorities g p) i 0) y
    cut_at y i under = get_or-take c (numbers y) i 0 under ∙ number_at y i (front i under)

    cut_long : (y : ℕ) → length (take c (numbers y)) ≡ c
    cut_long y = omega (
      arith,
      length-take c (numbers y),
      length-map (bad_priorities g p) (λ q. visits g ok p w.choice q y),
      up_to-is level (bad_priorities g p),
      cut_fits level (bad_priorities g p),
    )

    onward : (i : ℕ) → i < c → Onward g ok p w.choice (get_or (bad_priorities g p) i 0) v x
    onward i under = record {
      high = cut_low level (bad_priorities g p) (ascending-is (filter (is_bad p) g.priority)) i
          (omega (arith, up_to-is level (bad_priorities g p)));
      follows = follows;
    }

    stays : (i : ℕ) → i < c → get_or (take c (numbers x)) i 0 ≤ get_or (take c (numbers v)) i 0
    stays i under = omega (
      arith,
      cut_at x i under,
      cut_at v i under,
      visits_stay g ok p w.choice (get_or (bad_priorities g p) i 0) v x low (onward i under),
    )

    wins : WinsFrom g p w.choice v
    wins = subst (λ q. WinsFrom g q w.choice v) won (w.wins v low)

    falls_at : is_bad p level ≡ true → CutPlace level (bad_priorities g p) level
        → ComesBefore (take c (numbers x)) (take c (numbers v))
    falls_at bad at =
        let under : at.place < c = omega (arith, at.front, up_to-is level (bad_priorities g p)) in
        before_from (take c (numbers x)) (take c (numbers v)) (λ i less. stays i (omega (arith, cut_long x))) at.place
        (omega (arith, cut_long x))
        (omega (
          arith,
          cut_at x at.place under,
          cut_at v at.place under,
          visits_fall g ok p w.choice (get_or (bad_priorities g p) at.place 0) v x low wins (sym at.there)
              (λ good. not_both (side (get_or (bad_priorities g p) at.place 0)) p good
              (ap side at.there ∙ bad_side p level bad)) (onward at.place under),
        ))

    bad_member : is_bad p level ≡ true → IsMember level (bad_priorities g p)
    bad_member bad =
        member-ascending level (filter (is_bad p) g.priority)
        (member-filter (is_bad p) level g.priority (place-member g.priority v 0 (omega (arith, ok.priorities))) bad)

    falls : (t : Bool) → is_bad p level ≡ t → Falls t (take c (numbers v)) (take c (numbers x))
    falls true bad = falls_at bad (cut_place level (bad_priorities g p) level (bad_member bad) (omega arith)
        (ascending-is (filter (is_bad p) g.priority)))
    falls false good = λ b. omega (arith, b.smaller, stays b.place (omega (arith, b.within, cut_long v)))

    goes : w.win x ≡ p → x < size g → Progresses g p region_measure v x
    goes won_x low_x = subst₂ (ProgressesFrom g p v) (sym (won_value v low won)) (sym (won_value x low_x won_x))
        (falls (is_bad p level) refl)

  -- ---- all moves

  held : (v : ℕ) → v < size g → w.win v ≡ p → Holds (board_of g) w.win p (w.choice v) v
  held v low won = subst (λ q. Holds (board_of g) w.win q (w.choice v) v) won (w.keeps v low)

  top_goes : (v x : ℕ) → v < size g → (w.win v ≡ p → ⊥) → Progresses g p region_measure v x
  top_goes v x low lost = subst (λ a. ProgressesFrom g p v a (measure_at region_measure x)) (sym (lost_value v low lost)) tt

  own : (v : ℕ) → v < size g → owner_of g v ≡ p → SomeProgress g p region_measure v
  own v low mine = ⊎_elim
      (λ (won : w.win v ≡ p). let good = (held v low won).own mine in record {
        to = w.choice v;
        move = good.move;
        progresses = goes v (w.choice v) low won (record { move = good.move; chosen = λ o. refl }) good.wins
            (ok.in_range v (w.choice v) good.move);
      })
      (λ (lost : w.win v ≡ p → ⊥). record {
        to = get_or (moves_of g v) 0 0;
        move = first_move g ok v low;
        progresses = top_goes v (get_or (moves_of g v) 0 0) low lost;
      })
      (is_or_not (w.win v) p)

  other : (v x : ℕ) → v < size g → owner_of g v ≡ opponent p → HasMove g v x → Progresses g p region_measure v x
  other v x low theirs move = ⊎_elim
      (λ (won : w.win v ≡ p). goes v x low won
      (record { move = move; chosen = λ o. absurd (not_both (owner_of g v) p o theirs) })
      ((held v low won).other theirs x move) (ok.in_range v x move))
      (λ (lost : w.win v ≡ p → ⊥). top_goes v x low lost)
      (is_or_not (w.win v) p)

  -- it is a progress measure
  pub region_progresses : IsProgressMeasure g p region_measure
  region_progresses = record { measure = measure; own = own; other = other }
