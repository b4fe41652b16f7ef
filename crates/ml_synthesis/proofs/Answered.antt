-- Arrivals that are met from a state with inputs.
--
--   letter_low     == inputs and outputs are a letter
--   answered_none  == before the first set of outputs
--   answered_more  == one set of outputs more
--   answers_grown  == answers stay right when arrivals are added
--   read_length, read_move == what is read of the moves
use Rattle.std.proofs.Common.{ℕ, ◌≡◌, ◌+◌, ◌*◌, ◌<◌, ◌≤◌, ◌⊎◌, inl, inr, ⊎_elim, arith, List, [], ◌∷◌, ◌++◌, length}
use Rattle.std.proofs.Common.{get_or}
use Rattle.std.proofs.Common.{slice_get, Some, refl, sym, ap, ◌∙◌, subst, length-append, append_assoc}
use Rattle.std.specs.Global.{Vec}
use Rattle.std.proofs.Math.Nat.{mul_comm}
use Rattle.std.proofs.lemmas.Bool.{cases_lt}
use Rattle.std.proofs.lemmas.List.{append-nil, get_or_append_left, get_or_default, get_or_push, get_or-map}
use Rattle.std.proofs.lemmas.Nat.{mul-add-lt}
use Rattle.ml_lists.specs.Added.{IsAdded}
use Rattle.ml_lists.specs.Member.{IsMember}
use Rattle.ml_lists.proofs.Added.{added_all, added_long, added_once}
use Rattle.ml_lists.proofs.Entries.{get_grown}
use Rattle.ml_determinise.specs.Numbering.{move_at, rows_of}
use Rattle.ml_determinise.specs.declared.moves.DetMove.{DetMove}
use Rattle.ml_synthesis.specs.declared.arrival.Arrival.{Arrival}
use Rattle.ml_synthesis.specs.private.Arena.{AreAnswers, AreArrivals, IsAnswered, IsEnd, IsNumberOf, arrival_of, begun}

pub letter_low : (n m ins outs : ℕ) → ins < n → outs < m → ins + n * outs < n * m
letter_low n m ins outs set given =
    let bound = mul-add-lt outs n ins m given set in
    let same = mul_comm outs n in
    omega (arith, bound, same)

-- answers stay right when arrivals are added
pub answers_grown : (n base : ℕ) (moves : List (List DetMove)) (ks more : List Arrival) (q ins count : ℕ) (vs : List ℕ)
    → AreAnswers n base moves ks q ins count vs
    → AreAnswers n base moves (ks ++ more) q ins count vs
answers_grown n base moves ks more q ins count vs a = record {
  one_each = a.one_each;
  numbers = λ outs low.
      let r = a.numbers outs low in
      record {
        place = r.place;
        is = r.is;
        stands = get_grown ks more r.place (arrival_of (move_at moves q (ins + n * outs))) r.stands;
      };
}

module _ (n m base neutral : ℕ) (moves : List (List DetMove)) (ks : List Arrival) (q ins : ℕ) where
  pub answered_none : AreArrivals n m neutral moves ks → IsAnswered n m base neutral moves ks q ins 0 ks []
  answered_none arrivals = record {
    more = [];
    grown = sym (append-nil ks);
    few = omega arith;
    arrivals = arrivals;
    answers = record { one_each = refl; numbers = λ outs low. absurd (omega (arith, low)) };
  }

  module _ (outs : ℕ) (js : List Arrival) (vs : List ℕ) (is : IsAnswered n m base neutral moves ks q ins outs js vs)
      (low : q < length moves) (set : ins < n) (given : outs < m) (hs : List Arrival) (i : ℕ)
      (added : IsAdded js (arrival_of (move_at moves q (ins + n * outs))) hs i) where
    abbrev end : Arrival
    end = arrival_of (move_at moves q (ins + n * outs))

    pub answered_more : IsAnswered n m base neutral moves ks q ins (outs + 1) hs (vs ++ (base + i) ∷ [])
    answered_more = from (grown_by added.grown)
      where
        grown_by : (hs ≡ js) ⊎ ((hs ≡ js ++ end ∷ []) × ¬ (IsMember end js))
            → (more : List Arrival) × (hs ≡ js ++ more)
        grown_by (inl same) = ([], same ∙ sym (append-nil js))
        grown_by (inr new) = (end ∷ [], new.0)

        number_at : (more : List Arrival) → hs ≡ js ++ more
            → (k : ℕ) → k < outs + 1
            → IsNumberOf base hs (arrival_of (move_at moves q (ins + n * k))) (get_or (vs ++ (base + i) ∷ []) k 0)
        number_at more grown k k_low =
            ⊎_elim
            (λ (before : k < outs).
            let old = (subst (λ zs. AreAnswers n base moves zs q ins outs vs) (sym grown)
            (answers_grown n base moves js more q ins outs vs is.answers)).numbers k before in
            let long = is.answers.one_each in
            let same = get_or_append_left vs ((base + i) ∷ []) 0 k (omega (arith, before, long)) in
            subst (IsNumberOf base hs (arrival_of (move_at moves q (ins + n * k)))) (sym same) old)
            (λ (last : outs ≤ k).
            let here : k ≡ outs = omega (arith, last, k_low) in
            let value = get_or_push vs (base + i) 0 k (is.answers.one_each ∙ sym here) in
            subst (λ j. IsNumberOf base hs (arrival_of (move_at moves q (ins + n * j)))
            (get_or (vs ++ (base + i) ∷ []) k 0)) (sym here) (record { place = i; is = value; stands = added.stands }))
            (cases_lt k outs)

        from : ((more : List Arrival) × (hs ≡ js ++ more))
            → IsAnswered n m base neutral moves ks q ins (outs + 1) hs (vs ++ (base + i) ∷ [])
        from (more, grown) = record {
          more = is.more ++ more;
          grown = grown ∙ ap (λ zs. zs ++ more) is.grown ∙ append_assoc ks is.more more;
          few =
              let long = (added_long js hs end i added).1 in
              let so_far = is.few in
              omega (arith, long, so_far);
          arrivals = record {
            begins =
                subst (λ zs. slice_get zs 0 ≡ Some (begun neutral)) (sym grown)
                (get_grown js more 0 (begun neutral) is.arrivals.begins);
            once = added_once js hs end i added is.arrivals.once;
            are_ends = added_all js hs end i added (λ a. (a ≡ begun neutral) ⊎ IsEnd n m moves a) is.arrivals.are_ends
                (inr (record {
                  state = q;
                  letter = ins + n * outs;
                  is_state = low;
                  is_letter = letter_low n m ins outs set given;
                  is_end = refl;
                }));
          };
          answers = record {
            one_each =
                let long = is.answers.one_each in
                let one = length-append vs ((base + i) ∷ []) in
                omega (arith, long, one);
            numbers = λ k k_low. number_at more grown k k_low;
          };
        }

-- ---- what the program reads

module _ (all : List (Vec DetMove)) (v : ℕ) (row : Vec DetMove) (low : v < length all) (is : row ≡ get_or all v row)
  where
    row_is : get_or (rows_of all) v [] ≡ row.items
    row_is = get_or-map (λ (moves : Vec DetMove). moves.items) all v row [] low ∙ ap
        (λ (moves : Vec DetMove). moves.items) (sym is)

    pub read_length : length (get_or (rows_of all) v []) ≡ length (get_or all v row).items
    read_length = ap length row_is ∙ ap (λ (moves : Vec DetMove). length moves.items) is

    pub read_move : (i : ℕ) (x : DetMove)
        → i < length (get_or all v row).items
        → x ≡ get_or (get_or all v row).items i x
        → move_at (rows_of all) v i ≡ x
    read_move i x inside entry =
        ap (λ (r : List DetMove). get_or r i (record { priority = 0; to = 0 }))
        (row_is ∙ ap (λ (moves : Vec DetMove). moves.items) is)
        ∙ get_or_default (get_or all v row).items i (record { priority = 0; to = 0 }) x inside
        ∙ sym entry
