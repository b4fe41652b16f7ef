-- States that are numbered as they are met.
--
--   few_numbers  == different numbers below a bound are no more than the bound
--   row_none, row_more == the numbers of a row are met, one after the other
--   row_kept     == what has a number keeps it
--   met_first, met_more == rows are met, one after the other
--   met_all      == where no state is left, each has its row
--   met_in_order == where each state has a row, the states are numbered breadth first
use Rattle.std.proofs.Common.{ℕ, zero, suc, ◌≡◌, ◌<◌, ◌≤◌, ◌⊎◌, inl, inr, ⊎_elim, arith, List, [], ◌∷◌, ◌++◌, length}
use Rattle.std.proofs.Common.{get_or}
use Rattle.std.proofs.Common.{slice_get, Some, None, refl, sym, ap, ◌∙◌, subst, length-append, append_assoc}
use Rattle.std.specs.List.{flat_map}
use Rattle.std.proofs.lemmas.Bool.{cases_lt}
use Rattle.std.proofs.lemmas.List.{append-nil}
use Rattle.std.proofs.lemmas.Option.{same_Some, slice_get-get_or}
use Rattle.ml_lists.specs.Added.{IsAdded, HasOnePlace}
use Rattle.ml_lists.specs.InTurn.{RunsOn}
use Rattle.ml_lists.specs.Member.{IsMember}
use Rattle.ml_lists.proofs.Added.{added_all, added_once, added_runs}
use Rattle.ml_lists.proofs.Entries.{get_grown}
use Rattle.ml_lists.proofs.InTurn.{runs_append, runs_up}
use Rattle.ml_lists.proofs.Pigeons.{TwiceInList, pigeons_list}
use Rattle.ml_lists.proofs.RowsInTurn.{AreFromEarlier, earlier_more, turns_in_order, turns_more}
use Rattle.ml_synthesis.specs.Synthesis.{AreInOrder}
use Rattle.ml_synthesis.specs.private.Numbered.{AreMet, AreNumbers, IsRowMet}

pub few_numbers : (first bound : ℕ) (ks : List ℕ) → AreNumbers first bound ks → length ks ≤ bound
few_numbers first bound ks a =
    ⊎_elim (λ (more : bound < length ks). absurd (twice (pigeons_list bound ks more low)))
    (λ (few : length ks ≤ bound). few) (cases_lt bound (length ks))
  where
    low : (k : ℕ) → k < length ks → get_or ks k 0 < bound
    low k inside = a.low k (get_or ks k 0) (slice_get-get_or ks k 0 inside)

    twice : TwiceInList ks → ⊥
    twice t =
        let apart = t.apart in
        let within = t.within in
        let here = slice_get-get_or ks t.first 0 (omega (arith, apart, within)) in
        let there = slice_get-get_or ks t.second 0 (omega (arith, within)) in
        let one = a.once t.first t.second (get_or ks t.second 0) (here ∙ ap Some (t.same 0)) there in
        omega (arith, one, apart)

module _ (first bound : ℕ) (ks : List ℕ) where
  pub row_none : AreNumbers first bound ks → IsRowMet first bound ks [] ks
  row_none numbers = record { more = []; grown = sym (append-nil ks); numbers = numbers; runs = refl }

  -- what has a number keeps it
  pub row_kept : (row js : List ℕ)
      → IsRowMet first bound ks row js
      → (k x : ℕ)
      → slice_get ks k ≡ Some x
      → slice_get js k ≡ Some x
  row_kept row js met k x is = subst (λ zs. slice_get zs k ≡ Some x) (sym met.grown) (get_grown ks met.more k x is)

  pub row_more : (row js : List ℕ) (x : ℕ) (hs : List ℕ) (i : ℕ)
      → IsRowMet first bound ks row js
      → first ≤ x
      → x < bound
      → IsAdded js x hs i
      → IsRowMet first bound ks (row ++ i ∷ []) hs
  row_more row js x hs i met above low added = from (grown_by added.grown)
    where
      grown_by : (hs ≡ js) ⊎ ((hs ≡ js ++ x ∷ []) × ¬ (IsMember x js)) → (more : List ℕ) × (hs ≡ js ++ more)
      grown_by (inl same) = ([], same ∙ sym (append-nil js))
      grown_by (inr new) = (x ∷ [], new.0)

      from : ((more : List ℕ) × (hs ≡ js ++ more)) → IsRowMet first bound ks (row ++ i ∷ []) hs
      from (more, grown) = record {
        more = met.more ++ more;
        grown = grown ∙ ap (λ zs. zs ++ more) met.grown ∙ append_assoc ks met.more more;
        numbers = record {
          once = added_once js hs x i added met.numbers.once;
          from_first = added_all js hs x i added (λ y. first ≤ y) met.numbers.from_first above;
          low = added_all js hs x i added (λ y. y < bound) met.numbers.low low;
        };
        runs = runs_append (length ks) (length js) (length hs) row (i ∷ []) met.runs (added_runs js hs x i added);
      }

pub met_first : (first bound : ℕ) → first < bound → AreMet first bound (first ∷ []) []
met_first first bound low = record {
  begins = refl;
  numbers = record { once = once; from_first = from; low = at };
  runs = inr (refl, omega arith);
  earlier = λ k some few. absurd (omega (arith, some, few));
  within = omega arith;
}
  where
    once : HasOnePlace (first ∷ [])
    once zero zero x i j = refl
    once zero (suc k) x i j = absurd (cc)
    once (suc k) l x i j = absurd (cc)

    from : (k x : ℕ) → slice_get (first ∷ []) k ≡ Some x → first ≤ x
    from zero x is = let same : first ≡ x = same_Some first x is in omega (arith, same)
    from (suc k) x is = absurd (cc)

    at : (k x : ℕ) → slice_get (first ∷ []) k ≡ Some x → x < bound
    at zero x is = let same : first ≡ x = same_Some first x is in subst (λ y. y < bound) same low
    at (suc k) x is = absurd (cc)

module _ (first bound : ℕ) (ks : List ℕ) (rows : List (List ℕ)) (met : AreMet first bound ks rows) where
  pub met_more : (row js : List ℕ) → length rows < length ks → IsRowMet first bound ks row js
      → AreMet first bound js (rows ++ row ∷ [])
  met_more row js here r = record {
    begins = row_kept first bound ks row js r 0 first met.begins;
    numbers = r.numbers;
    runs = turns_more rows row (length ks) (length js) r.runs met.runs;
    earlier = earlier_more rows row (length ks) (length js) r.runs here met.earlier;
    within =
        let up = runs_up (length ks) (length js) row r.runs in
        let one = length-append rows (row ∷ []) in
        omega (arith, up, one, here);
  }

  -- where no state is left behind the rows, each has its row
  pub met_all : (k : ℕ) → k ≡ length rows → slice_get ks k ≡ None → length rows ≡ length ks
  met_all k is none =
      ⊎_elim
      (λ (here : k < length ks). let there = slice_get-get_or ks k 0 here in absurd (cc))
      (λ (past : length ks ≤ k). let within = met.within in omega (arith, is, past, within))
      (cases_lt k (length ks))

  pub met_in_order : length rows ≡ length ks → AreInOrder rows
  met_in_order all =
      turns_in_order rows (length rows) refl
      (subst (RunsOn 0 (0 ∷ flat_map (λ (r : List ℕ). r) rows)) (sym all) met.runs)
      (subst (AreFromEarlier rows) (sym all) met.earlier)
