-- No more histories are reached than have a number of their own (`FiniteHistories`).
--
--   histories_are_bounded == the law
use Rattle.std.proofs.Common.{ℕ, ◌<◌, List, length, get_or, Some, ap, ◌∙◌, arith}
use Rattle.std.proofs.lemmas.Option.{slice_get-get_or}
use Rattle.ml_lists.specs.Pigeons.{Twice}
use Rattle.ml_lists.proofs.FirstEntries.{apart_places}
use Rattle.ml_lists.proofs.Member.{place-member}
use Rattle.ml_lists.proofs.Pigeons.{pigeons}
use Rattle.ml_trace.specs.Stack.{Item}
use Rattle.ml_history.specs.HistoryStep.{start}
use Rattle.ml_determinise.specs.Numbering.{HistoriesAreBounded, most_histories}
use Rattle.ml_determinise.proofs.FiniteHistories.{Small, code, code_low, same_code}
use Rattle.ml_determinise.proofs.ReachedHistories.{reached_small}

pub histories_are_bounded : HistoriesAreBounded
histories_are_bounded states row q stays low many =
    twice (pigeons (most_histories states) (λ k. code states (at k))
    (λ k few. code_low states (at k) (small k (omega (arith, few, many.are_more)))))
  where
    at : ℕ → List (Item ℕ)
    at k = get_or many.histories k (start q)

    small : (k : ℕ) → k < length many.histories → Small states (at k)
    small k below =
        reached_small states row q stays low (at k)
        (many.are_reached (at k) (place-member many.histories k (start q) below))

    twice : Twice (λ k. code states (at k)) (most_histories states) → ⊥
    twice t =
        let before = t.apart in
        let within = t.within in
        let more = many.are_more in
        let first_low : t.first < length many.histories = omega arith in
        let second_low : t.second < length many.histories = omega arith in
        let same = same_code states (at t.first) (at t.second) (small t.first first_low) (small t.second second_low)
        t.same in
        let one = apart_places many.histories many.are_apart t.first t.second (at t.second)
        (slice_get-get_or many.histories t.first (start q) first_low ∙ ap Some same)
        (slice_get-get_or many.histories t.second (start q) second_low) in
        omega arith
