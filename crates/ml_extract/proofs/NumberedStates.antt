-- States as they are numbered, breadth first.
--
--   begins         == before a state was looked at, the first position is where one begins
--   looked_at      == and so it is with one state more
--   states_few     == there are at most as many states as positions
--   is_pending     == where one state more begins, its position is won
--   fewer_left     == and when it was looked at, fewer are left
--   all_looked_at  == when each state was looked at, they are the states
use Rattle.std.proofs.Common.{ℕ, ◌≡◌, ◌+◌, ◌-◌, ◌<◌, ◌≤◌, ◌⊎◌, inl, inr, List, [], ◌∷◌, ◌++◌, length, slice_get, map, take, nat_eq, Some, None, refl, sym, ap, ◌∙◌, subst, arith, length-append}
use Rattle.std.proofs.lemmas.Bool.{cases_lt}
use Rattle.std.proofs.lemmas.List.{length-map, map-append, take_all, take-append-le, take_more}
use Rattle.std.proofs.lemmas.Option.{slice_get_within, slice_get-get_or, get_or_from_slice_get}
use Rattle.ml_lists.specs.BreadthFirst.{IsBreadthFirst}
use Rattle.ml_lists.specs.Member.{IsMember}
use Rattle.ml_lists.proofs.Member.{member-append}
use Rattle.ml_lists.proofs.Member.{member_of_get}
use Rattle.indexmap.specs.IndexSet.{insert_all}
use Rattle.ml_extract.specs.Model.{State, Chooses, next_positions}
use Rattle.ml_extract.specs.private.Begun.{IsBegun}
use Rattle.ml_extract.specs.private.Numbered.{IsUnderWay, AreNumbered}
use Rattle.ml_extract.specs.private.WonPositions.{IsWon, IsChosenEnd, AreBehind}
use Rattle.ml_extract.proofs.Board.{Board}
use Rattle.ml_extract.proofs.GrowingFirst.{Behind, behind, begun_none, begun_more, begun_done, begun_few}
use Rattle.ml_extract.proofs.WonEnds.{won_first, inside, turn_at, spread_at, won_behind_end}

-- a list with an entry more at its end
taken_more : (xs : List ℕ) (n x : ℕ) → slice_get xs n ≡ Some x → take (n + 1) xs ≡ take n xs ++ x ∷ []
taken_more xs n x is =
    take_more xs n 0 (slice_get_within xs n x is)
    ∙ ap (λ y. take n xs ++ y ∷ []) (get_or_from_slice_get xs n x 0 is)

module _ (B : Board) where
  abbrev UnderWay : List ℕ → List ℕ → Type 0
  UnderWay fs ls = IsUnderWay B.g B.a B.s fs ls

  pub begins : IsUnderWay B.g B.a B.s (0 ∷ []) []
  begins = record {
    states = [];
    chosen = λ x m. absurd m;
    begun = begun_none 0;
    firsts_are = refl;
    lasts_are = refl;
    won = λ v m. first v m;
  }
    where
      first : (v : ℕ) → IsMember v (0 ∷ []) → IsWon B.a B.s v
      first v (inl same) = subst (IsWon B.a B.s) (sym same) (won_first B)
      first v (inr none) = absurd none

  -- there are at most as many states as positions
  pub states_few : (fs ls : List ℕ) → IsUnderWay B.g B.a B.s fs ls → length fs ≤ length B.a.positions
  states_few fs ls u =
      begun_few (length B.a.positions) 0 (map (next_positions B.g B.a) u.states) fs u.begun
      (λ v m. inside B v (u.won v m))

  pub is_pending : (fs ls : List ℕ) (v : ℕ) → IsUnderWay B.g B.a B.s fs ls → slice_get fs (length ls) ≡ Some v
      → IsWon B.a B.s v
  is_pending fs ls v u is = u.won v (member_of_get fs (length ls) v is)

  -- with one state more
  module _ (fs ls : List ℕ) (v w : ℕ) (nexts : List ℕ) (u : IsUnderWay B.g B.a B.s fs ls)
      (is : slice_get fs (length ls) ≡ Some v) (end : IsChosenEnd B.g B.a B.s v w)
      (after : AreBehind B.g B.a w nexts) where
    abbrev x : State
    x = record { first = v; last = w; spread = (turn_at B w end.won).spread }

    chosen : (y : State) → IsMember y (u.states ++ x ∷ []) → Chooses B.g B.a B.s y.first y.last y.spread
    chosen y m = by_part (member-append y u.states (x ∷ []) m)
      where
        by_part : IsMember y u.states ⊎ IsMember y (x ∷ []) → Chooses B.g B.a B.s y.first y.last y.spread
        by_part (inl old) = u.chosen y old
        by_part (inr (inl same)) =
            subst (λ (z : State). Chooses B.g B.a B.s z.first z.last z.spread) (sym same)
            (end.chosen x.spread (spread_at B w end.won))
        by_part (inr (inr none)) = absurd none

    row_is : nexts ≡ next_positions B.g B.a x
    row_is = after x.spread (spread_at B w end.won)

    sizes : length u.states ≡ length ls
    sizes = sym (length-map u.states (λ (y : State). y.last)) ∙ ap length u.lasts_are

    pub looked_at : (gs : List ℕ) → gs ≡ insert_all nat_eq fs nexts → IsUnderWay B.g B.a B.s gs (ls ++ w ∷ [])
    looked_at gs gs_is = record {
      states = u.states ++ x ∷ [];
      chosen = chosen;
      begun =
          subst (λ rows. IsBegun 0 rows gs) (sym (map-append (next_positions B.g B.a) u.states (x ∷ [])))
          (begun_more 0 (map (next_positions B.g B.a) u.states) (next_positions B.g B.a x) fs gs u.begun
          (omega (arith, length-map u.states (next_positions B.g B.a), sizes, slice_get_within fs (length ls) v is))
          (gs_is ∙ ap (insert_all nat_eq fs) row_is));
      firsts_are =
          map-append (λ (y : State). y.first) u.states (x ∷ []) ∙ ap (λ ys. ys ++ v ∷ []) u.firsts_are
          ∙ sym (taken_more fs (length ls) v is)
          ∙ sym (take-append-le (length ls + 1) fs b.new (omega (arith, slice_get_within fs (length ls) v is)))
          ∙ ap (take (length ls + 1)) (sym (gs_is ∙ b.is)) ∙ ap (λ n. take n gs) (sym (length-append ls (w ∷ [])));
      lasts_are = map-append (λ (y : State). y.last) u.states (x ∷ []) ∙ ap (λ ys. ys ++ w ∷ []) u.lasts_are;
      won = won;
    }
      where
        b : Behind fs nexts
        b = behind fs nexts

        won : (y : ℕ) → IsMember y gs → IsWon B.a B.s y
        won y m = by_part (member-append y fs b.new (subst (IsMember y) (gs_is ∙ b.is) m))
          where
            by_part : IsMember y fs ⊎ IsMember y b.new → IsWon B.a B.s y
            by_part (inl old) = u.won y old
            by_part (inr new) =
                won_behind_end B w end.won end.is_end x.spread (spread_at B w end.won) y
                (subst (IsMember y) row_is (b.of_row y new))

  -- so the state that is looked at leaves fewer
  pub fewer_left : (fs ls more : List ℕ) (v : ℕ)
      → IsUnderWay B.g B.a B.s fs ls
      → slice_get fs (length ls) ≡ Some v
      → length more ≡ length ls + 1
      → length B.a.positions - length more < length B.a.positions - length ls
  fewer_left fs ls more v u is one =
      omega (arith, states_few fs ls u, slice_get_within fs (length ls) v is)

  -- when each state was looked at
  none_pending : (fs : List ℕ) (n : ℕ) → slice_get fs n ≡ None → length fs ≤ n
  none_pending fs n none = by_case (cases_lt n (length fs))
    where
      by_case : (n < length fs) ⊎ (length fs ≤ n) → length fs ≤ n
      by_case (inl low) = absurd (let wrong = sym (slice_get-get_or fs n 0 low) ∙ none in cc)
      by_case (inr past) = past

  pub all_looked_at : (fs ls : List ℕ)
      → IsUnderWay B.g B.a B.s fs ls
      → slice_get fs (length ls) ≡ None
      → AreNumbered B.g B.a B.s fs ls
  all_looked_at fs ls u none = record {
    states = u.states;
    are_states = record {
      chosen = u.chosen;
      breadth_first =
          subst (IsBreadthFirst 0 (map (next_positions B.g B.a) u.states)) (sym firsts)
          (begun_done 0 (map (next_positions B.g B.a) u.states) fs u.begun same);
    };
    firsts_are = firsts;
    lasts_are = u.lasts_are;
  }
    where
      firsts : map (λ (y : State). y.first) u.states ≡ fs
      firsts = u.firsts_are ∙ take_all (length ls) fs (none_pending fs (length ls) none)

      same : length (map (next_positions B.g B.a) u.states) ≡ length fs
      same =
          length-map u.states (next_positions B.g B.a) ∙ sym (length-map u.states (λ (y : State). y.first))
          ∙ ap length firsts
