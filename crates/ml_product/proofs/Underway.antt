-- An exploration that is under way.
--
--   recorded_underway == what was found at a position is recorded
--   ended_explored  == where no side is chosen next, the exploration went on from it
--   opened_waiting  == where one is, only the positions with a side more wait
--   explored_both   == both of them are explored, one behind the other
--   opened_members  == what is there behind a turn
--   fresh_sides     == the sides have none below them, the second when the first is explored
--   repeated_explored == where the same was found before, it is recorded
--   explored_next, explored_waiting == so it is for all numbers up to this one, and what waits has no choice
--   side_place, own_at == the position with a side more, and the spread of the branch's own sequent
--   side_at         == with a side more the branch stands at the position with it
--   begun_at        == a branch that was begun stands at a position without a choice
--   fewer_sides     == a side more is left for fewer
--   started_underway, started_waiting == the start alone
--   all_turned      == where nothing waits, all positions are turned
use Rattle.std.proofs.Common.{ℕ, ◌≡◌, ◌+◌, ◌-◌, ◌*◌, ◌<◌, ◌≤◌, ◌⊎◌, inl, inr, List, [], ◌∷◌, length, length-append, slice_get, get_or, None, Some, refl, sym, ap, ◌∙◌, subst, arith}
use Rattle.std.proofs.lemmas.Bool.{cases_lt, cases_eq}
use Rattle.std.proofs.lemmas.List.{get_or_past, get_or_default}
use Rattle.std.proofs.lemmas.Option.{slice_get_within, get_or_from_slice_get}
use Rattle.ml_lists.specs.Member.{IsMember}
use Rattle.ml_lists.proofs.Member.{place-member}
use Rattle.ml_graph.specs.Graph.{Graph, size}
use Rattle.ml_sequent.specs.declared.choice.Side.{Side}
use Rattle.ml_sequent.specs.declared.choice.Side.TheVariants.{Left, Right}
use Rattle.ml_sequent.specs.Choice.{side_of, with_side}
use Rattle.ml_sequent.specs.Spread.{SpreadList, IsSpreadOf}
use Rattle.ml_product.specs.Position.{Position, start_of, with_chosen}
use Rattle.ml_product.specs.declared.pool.Pool.{Pool}
use Rattle.ml_product.specs.declared.recorded.Recorded.{Recorded}
use Rattle.ml_product.specs.declared.recorded.Recorded.TheVariants as recorded
use Rattle.ml_product.specs.private.Pools.{positions_of, IsLonger}
use Rattle.ml_product.specs.private.Recorded.{IsRecorded}
use Rattle.ml_product.specs.private.Exploring.{Explores, at_place, IsAt, HasNoneBelow, AddsBelow, Repeats, IsStarted, IsTurned, IsEnded, IsOpened, IsWaiting, Records, IsUnderway, AreWaiting, IsExplored, AreTurned}
use Rattle.ml_product.proofs.Below.{opened_among, fresh_left, fresh_right, adds_ended, adds_both}
use Rattle.ml_product.proofs.Ended.{started_explores}
use Rattle.ml_product.proofs.ReachedChoices.{with_side_length, chosen_few}
use Rattle.ml_product.proofs.Twins.{like_recorded, twin_recorded}
use Rattle.ml_product.proofs.Vertices.{longer_get, longer_place, longer_self, longer_both, recorded_later}

-- one list is at most as long as the other
longer_long : (ps qs : List Position) → IsLonger ps qs → length ps ≤ length qs
longer_long ps qs is = let e = ap length is.is in omega (arith, length-append ps is.more)

-- what is recorded stands within the list
found_within : (rs : List Recorded) (v : ℕ) → (IsWaiting rs v → ⊥) → v < length rs
found_within rs v found = by_place (cases_lt v (length rs))
  where
    by_place : (v < length rs) ⊎ (length rs ≤ v) → v < length rs
    by_place (inl low) = low
    by_place (inr past) = absurd (found (get_or_past rs v recorded.Waiting past))

-- what was found at a position is recorded
module _ (g : Graph) (limit : ℕ) (b d : Pool) (rs ts : List Recorded) (v : ℕ) (r : Recorded)
    (u : IsUnderway g limit b rs) (low : v < length (positions_of b))
    (is : IsTurned g limit b v d r) (records : Records rs v r ts) where
  longer : IsLonger (positions_of b) (positions_of d)
  longer = is.becomes.longer

  pub recorded_underway : IsUnderway g limit d ts
  recorded_underway = record {
    explores = is.becomes.explores;
    starts = longer_get (positions_of b) (positions_of d) longer 0 (start_of g) u.starts;
    within = records.few (length (positions_of d)) (omega (
      arith,
      u.within,
      longer_long (positions_of b)
          (positions_of d) longer,
    ))
        (omega (arith, low, longer_long (positions_of b) (positions_of d) longer));
    recorded = λ w found. at_number w found (cases_eq w v);
  }
    where
      at_number : (w : ℕ) → (IsWaiting ts w → ⊥) → (w ≡ v) ⊎ (w ≡ v → ⊥)
          → IsRecorded g (positions_of d) (at_place g (positions_of d) w) (get_or ts w recorded.Waiting)
      at_number w found (inl here) =
          let place : at_place g (positions_of b) v ≡ at_place g (positions_of d) w =
          sym (ap (at_place g (positions_of d)) here ∙ longer_place g (positions_of b) (positions_of d) longer v low) in
          let what : r ≡ get_or ts w recorded.Waiting = sym (ap (λ k. get_or ts k recorded.Waiting) here ∙
          records.here) in
          subst (IsRecorded g (positions_of d) (at_place g (positions_of d) w)) what
          (subst (λ p. IsRecorded g (positions_of d) p r) place is.recorded)
      at_number w found (inr other) =
          let same = records.others w other in
          let before : IsWaiting rs w → ⊥ = λ waits. found (same ∙ waits) in
          let w_low : w < length (positions_of b) = omega (arith, found_within rs w before, u.within) in
          subst (IsRecorded g (positions_of d) (at_place g (positions_of d) w)) (sym same)
          (subst (λ p. IsRecorded g (positions_of d) p (get_or rs w recorded.Waiting))
          (sym (longer_place g (positions_of b) (positions_of d) longer w w_low))
          (recorded_later g (positions_of b) (positions_of d) longer (at_place g (positions_of b) w)
          (get_or rs w recorded.Waiting) (u.recorded w before)))

  pub recorded_kept : (r ≡ recorded.Waiting → ⊥) → (w : ℕ) → (IsWaiting rs w → ⊥) → IsWaiting ts w → ⊥
  recorded_kept real w found waits = at_number (cases_eq w v)
    where
      at_number : (w ≡ v) ⊎ (w ≡ v → ⊥) → ⊥
      at_number (inl here) = real (sym (ap (λ k. get_or ts k recorded.Waiting) here ∙ records.here) ∙ waits)
      at_number (inr other) = found (sym (records.others w other) ∙ waits)

  pub recorded_done : (r ≡ recorded.Waiting → ⊥) → IsWaiting ts v → ⊥
  recorded_done real waits = real (sym records.here ∙ waits)

  -- what waits still waited before, or is new
  pub still_waiting : (ws : List ℕ) → (r ≡ recorded.Waiting → ⊥) → AreWaiting g b rs (v ∷ ws)
      → (w : ℕ) → w < length (positions_of d) → IsWaiting ts w
      → (IsMember w ws ⊎ ((at_place g (positions_of d) w).choice ≡ [])) ⊎ (length (positions_of b) ≤ w)
  still_waiting ws real before w w_low waits = by_place (cases_lt w (length (positions_of b)))
    where
      other : w ≡ v → ⊥
      other here = real (sym (ap (λ k. get_or ts k recorded.Waiting) here ∙ records.here) ∙ waits)

      by_list : w < length (positions_of b)
          → IsMember w (v ∷ ws) ⊎ ((at_place g (positions_of b) w).choice ≡ [])
          → IsMember w ws ⊎ ((at_place g (positions_of d) w).choice ≡ [])
      by_list early (inl (inl here)) = absurd (other here)
      by_list early (inl (inr m)) = inl m
      by_list early (inr none) =
          inr (ap (λ (p : Position). p.choice) (longer_place g (positions_of b) (positions_of d) longer w early) ∙ none)

      by_place : (w < length (positions_of b)) ⊎ (length (positions_of b) ≤ w)
          → (IsMember w ws ⊎ ((at_place g (positions_of d) w).choice ≡ [])) ⊎ (length (positions_of b) ≤ w)
      by_place (inl early) = inl (by_list early (before w early (sym (records.others w other) ∙ waits)))
      by_place (inr late) = inr late

-- where no side is chosen next, the exploration went on from it
pub ended_explored : (g : Graph) (limit : ℕ) (b d : Pool) (rs ts : List Recorded) (v : ℕ) (r : Recorded)
    → IsUnderway g limit b rs
    → v < length (positions_of b)
    → IsEnded g limit b v d r
    → Records rs v r ts
    → IsExplored g limit b rs v d ts
ended_explored g limit b d rs ts v r u low is records = record {
  underway = recorded_underway g limit b d rs ts v r u low is.turned records;
  longer = is.turned.becomes.longer;
  stored = is.turned.becomes.stored;
  kept = recorded_kept g limit b d rs ts v r u low is.turned records is.is_found;
  done = recorded_done g limit b d rs ts v r u low is.turned records is.is_found;
  waiting = λ ws before w w_low waits.
      new_or_old w w_low (still_waiting g limit b d rs ts v r u low is.turned records ws is.is_found before w w_low
      waits);
  adds = adds_ended g (positions_of b) (positions_of d) (at_place g (positions_of b) v) is.turned.becomes.longer
      is.unchosen;
}
  where
    new_or_old : {A : Type 0} (w : ℕ) → w < length (positions_of d)
        → (A ⊎ ((at_place g (positions_of d) w).choice ≡ [])) ⊎ (length (positions_of b) ≤ w)
        → A ⊎ ((at_place g (positions_of d) w).choice ≡ [])
    new_or_old w w_low (inl old) = old
    new_or_old w w_low (inr late) = inr (is.unchosen w late w_low)

-- where one is, only the positions with a side more wait
pub opened_waiting : (g : Graph) (limit : ℕ) (b d : Pool) (rs ts : List Recorded) (v : ℕ) (sp : SpreadList)
    (node l r : ℕ)
    → IsUnderway g limit b rs
    → v < length (positions_of b)
    → IsOpened g limit b v sp d node l r
    → Records rs v (recorded.Chosen (l ∷ r ∷ [])) ts
    → (ws : List ℕ)
    → AreWaiting g b rs (v ∷ ws)
    → AreWaiting g d ts (l ∷ r ∷ ws)
opened_waiting g limit b d rs ts v sp node l r u low is records ws before w w_low waits =
    by_kind (still_waiting g limit b d rs ts v (recorded.Chosen (l ∷ r ∷ [])) u low is.turned records ws (λ e. cc) before w
    w_low waits)
  where
    by_kind : (IsMember w ws ⊎ ((at_place g (positions_of d) w).choice ≡ [])) ⊎ (length (positions_of b) ≤ w)
        → IsMember w (l ∷ r ∷ ws) ⊎ ((at_place g (positions_of d) w).choice ≡ [])
    by_kind (inl (inl m)) = inl (inr (inr m))
    by_kind (inl (inr none)) = inr none
    by_kind (inr late) = new (is.only w late w_low)
      where
        new : (w ≡ l) ⊎ (w ≡ r) → IsMember w (l ∷ r ∷ ws) ⊎ ((at_place g (positions_of d) w).choice ≡ [])
        new (inl left) = inl (inl left)
        new (inr right) = inl (inr (inl right))

-- what is there behind a turn
pub opened_members : (g : Graph) (limit : ℕ) (b d : Pool) (v : ℕ) (sp : SpreadList) (node l r : ℕ)
    → IsOpened g limit b v sp d node l r
    → (q : Position)
    → IsMember q (positions_of d)
    → IsMember q (positions_of b) ⊎ (q ≡ with_chosen g (at_place g (positions_of b) v) node Left)
    ⊎ (q ≡ with_chosen g (at_place g (positions_of b) v) node Right)
opened_members g limit b d v sp node l r is =
    opened_among g (positions_of b) (positions_of d) (at_place g (positions_of b) v) node l r is.turned.becomes.longer
    is.left is.right is.only

-- both of them are explored, one behind the other
pub explored_both : (g : Graph) (limit : ℕ) (b d e f : Pool) (rs ts us xs : List Recorded) (v : ℕ)
    (sp : SpreadList) (node l r : ℕ)
    → IsUnderway g limit b rs
    → IsAt g limit b v sp
    → HasNoneBelow (positions_of b) (at_place g (positions_of b) v)
    → IsOpened g limit b v sp d node l r
    → Records rs v (recorded.Chosen (l ∷ r ∷ [])) ts
    → IsExplored g limit d ts l e us
    → IsExplored g limit e us r f xs
    → IsExplored g limit b rs v f xs
explored_both g limit b d e f rs ts us xs v sp node l r u at fresh is records one two = record {
  underway = two.underway;
  longer = longer_both (positions_of b) (positions_of e) (positions_of f)
      (longer_both (positions_of b) (positions_of d) (positions_of e) is.turned.becomes.longer one.longer) two.longer;
  stored = longer_both b.positions e.positions f.positions
      (longer_both b.positions d.positions e.positions is.turned.becomes.stored one.stored) two.stored;
  kept = λ w found. two.kept w (one.kept w
      (recorded_kept g limit b d rs ts v (recorded.Chosen (l ∷ r ∷ [])) u at.number is.turned records (λ x. cc) w found));
  done = two.kept v (one.kept v (recorded_done g limit b d rs ts v (recorded.Chosen (l ∷ r ∷ [])) u at.number is.turned records
      (λ x. cc)));
  waiting = λ ws before. two.waiting ws (one.waiting (r ∷ ws)
      (opened_waiting g limit b d rs ts v sp node l r u at.number is records ws before));
  adds = adds_both g (positions_of b) (positions_of d) here node none fresh
      (opened_members g limit b d v sp node l r is) (positions_of e) (positions_of f)
      (subst (λ p. AddsBelow (positions_of d) p (positions_of e)) left one.adds)
      (subst (λ p. AddsBelow (positions_of e) p (positions_of f)) right two.adds);
}
  where
    here : Position
    here = at_place g (positions_of b) v

    none : side_of here.choice node ≡ None
    none = ap (λ c. side_of c node) (sym at.is_spread.choice) ∙ is.is_open.is_open.unchosen

    left : at_place g (positions_of d) l ≡ with_chosen g here node Left
    left = get_or_from_slice_get (positions_of d) l (with_chosen g here node Left) (start_of g) is.left

    right : at_place g (positions_of e) r ≡ with_chosen g here node Right
    right = get_or_from_slice_get (positions_of e) r (with_chosen g here node Right) (start_of g)
        (longer_get (positions_of d) (positions_of e) one.longer r (with_chosen g here node Right) is.right)

-- the sides of a position have none below them, the second when the first is explored
pub fresh_sides : (g : Graph) (limit : ℕ) (b d : Pool) (v : ℕ) (sp : SpreadList) (node l r : ℕ)
    → IsAt g limit b v sp
    → HasNoneBelow (positions_of b) (at_place g (positions_of b) v)
    → IsOpened g limit b v sp d node l r
    → HasNoneBelow (positions_of d) (at_place g (positions_of d) l)
    × ((limit2 : ℕ) (e : Pool) (ts us : List Recorded) → IsExplored g limit2 d ts l e us
    → HasNoneBelow (positions_of e) (at_place g (positions_of e) r))
fresh_sides g limit b d v sp node l r at fresh is = (
  subst (HasNoneBelow (positions_of d)) (sym left)
      (fresh_left g (positions_of b) (positions_of d) here node none fresh (opened_members g limit b d v sp node l r is)),
  λ limit2 e ts us one. subst (HasNoneBelow (positions_of e)) (sym (right e one.longer))
      (fresh_right g (positions_of b) (positions_of d) here node none fresh
      (opened_members g limit b d v sp node l r is) (positions_of e)
      (subst (λ p. AddsBelow (positions_of d) p (positions_of e)) left one.adds)),
)
  where
    here : Position
    here = at_place g (positions_of b) v

    none : side_of here.choice node ≡ None
    none = ap (λ c. side_of c node) (sym at.is_spread.choice) ∙ is.is_open.is_open.unchosen

    left : at_place g (positions_of d) l ≡ with_chosen g here node Left
    left = get_or_from_slice_get (positions_of d) l (with_chosen g here node Left) (start_of g) is.left

    right : (e : Pool) → IsLonger (positions_of d) (positions_of e)
        → at_place g (positions_of e) r ≡ with_chosen g here node Right
    right e more = get_or_from_slice_get (positions_of e) r (with_chosen g here node Right) (start_of g)
        (longer_get (positions_of d) (positions_of e) more r (with_chosen g here node Right) is.right)

-- where the same was found before, it is recorded
pub repeated_explored : (g : Graph) (limit : ℕ) (b : Pool) (rs ts : List Recorded) (v w : ℕ)
    → IsUnderway g limit b rs
    → v < length (positions_of b)
    → (at_place g (positions_of b) w).sequent ≡ (at_place g (positions_of b) v).sequent
    → (at_place g (positions_of b) w).history ≡ (at_place g (positions_of b) v).history
    → (at_place g (positions_of b) w).choice ≡ (at_place g (positions_of b) v).choice
    → (IsWaiting rs w → ⊥)
    → Repeats rs v w ts
    → IsExplored g limit b rs v b ts
repeated_explored g limit b rs ts v w u low s h c found is =
    ended_explored g limit b b rs ts v is.found u low
    (record {
      turned = record {
        becomes = record {
          explores = u.explores;
          longer = longer_self (positions_of b);
          stored = longer_self b.positions;
        };
        recorded = like_recorded g (positions_of b) (at_place g (positions_of b) v) is.found
            (get_or rs w recorded.Waiting) is.like
            (twin_recorded g (positions_of b) (at_place g (positions_of b) w) (at_place g (positions_of b) v)
            (get_or rs w recorded.Waiting) s h c (u.recorded w found));
      };
      is_found = λ e. found (is.like.waits e);
      unchosen = λ k high less. absurd (omega arith);
    })
    is.records

-- so it is for all numbers up to this one
pub explored_next : (g : Graph) (limit : ℕ) (b d : Pool) (rs ts : List Recorded) (v : ℕ)
    → IsExplored g limit b rs v d ts
    → ((w : ℕ) → w < v → IsWaiting rs w → ⊥)
    → (w : ℕ) → w < v + 1 → IsWaiting ts w → ⊥
explored_next g limit b d rs ts v is before w low waits = by_number (cases_eq w v)
  where
    by_number : (w ≡ v) ⊎ (w ≡ v → ⊥) → ⊥
    by_number (inl here) = is.done (subst (IsWaiting ts) here waits)
    by_number (inr other) = is.kept w (before w (below (cases_lt w v))) waits
      where
        below : (w < v) ⊎ (v ≤ w) → w < v
        below (inl less) = less
        below (inr more) = absurd (other (omega arith))

-- and what waits has no choice
pub explored_waiting : (g : Graph) (limit : ℕ) (b d : Pool) (rs ts : List Recorded) (v : ℕ)
    → IsExplored g limit b rs v d ts
    → AreWaiting g b rs []
    → AreWaiting g d ts []
explored_waiting g limit b d rs ts v is before = is.waiting [] (λ w low waits. more w (before w low waits))
  where
    more : (w : ℕ) → ⊥ ⊎ ((at_place g (positions_of b) w).choice ≡ [])
        → IsMember w (v ∷ []) ⊎ ((at_place g (positions_of b) w).choice ≡ [])
    more w (inl none) = absurd none
    more w (inr none) = inr none

-- ---- branches

-- the position with a side more has the sequent and the sides of the branch
pub side_place : (g : Graph) (limit : ℕ) (b d : Pool) (v w o : ℕ) (s : Side) (C : List ℕ) (sp : SpreadList)
    → IsAt g limit b v sp
    → C ≡ (at_place g (positions_of b) v).sequent
    → slice_get (positions_of d) w ≡ Some (with_chosen g (at_place g (positions_of b) v) o s)
    → (w < length (positions_of d))
    × (C ≡ (at_place g (positions_of d) w).sequent)
    × (with_side sp.choice o s ≡ (at_place g (positions_of d) w).choice)
side_place g limit b d v w o s C sp at sequent there =
    let here = at_place g (positions_of b) v in
    let place : at_place g (positions_of d) w ≡ with_chosen g here o s =
    get_or_from_slice_get (positions_of d) w (with_chosen g here o s) (start_of g) there in (
      slice_get_within (positions_of d) w (with_chosen g here o s) there,
      sequent ∙ ap (λ (p : Position). p.sequent) (sym place),
      ap (λ c. with_side c o s) at.is_spread.choice ∙ ap (λ (p : Position). p.choice) (sym place),
    )

-- the branch has the spread of its sequent
pub own_at : (g : Graph) (limit : ℕ) (b : Pool) (v : ℕ) (C : List ℕ) (sp : SpreadList)
    → IsAt g limit b v sp
    → C ≡ (at_place g (positions_of b) v).sequent
    → IsSpreadOf g C sp.choice sp
own_at g limit b v C sp at sequent =
    subst (λ ns. IsSpreadOf g ns sp.choice sp) (sym sequent)
    (subst (λ c. IsSpreadOf g (at_place g (positions_of b) v).sequent c sp) (sym at.is_spread.choice) at.is_spread)

-- with a side more the branch stands at the position with it
pub side_at : (g : Graph) (limit : ℕ) (b : Pool) (w o : ℕ) (s : Side) (C : List ℕ) (sp sp2 : SpreadList)
    → Explores g limit b
    → IsSpreadOf g C sp.choice sp
    → w < length (positions_of b)
    → C ≡ (at_place g (positions_of b) w).sequent
    → with_side sp.choice o s ≡ (at_place g (positions_of b) w).choice
    → ((D : List ℕ) → IsSpreadOf g D sp.choice sp → IsSpreadOf g D (with_side sp.choice o s) sp2)
    → IsAt g limit b w sp2
side_at g limit b w o s C sp sp2 explores is low sequent choice longer = record {
  explores = explores;
  number = low;
  is_spread = subst (λ c. IsSpreadOf g (at_place g (positions_of b) w).sequent c sp2) choice
      (subst (λ ns. IsSpreadOf g ns (with_side sp.choice o s) sp2) sequent (longer C is));
}

-- a branch that was begun stands at a position without a choice
pub begun_at : (g : Graph) (limit : ℕ) (b : Pool) (v : ℕ) (C : List ℕ) (sp : SpreadList)
    → Explores g limit b
    → v < length (positions_of b)
    → (at_place g (positions_of b) v).choice ≡ []
    → C ≡ (at_place g (positions_of b) v).sequent
    → IsSpreadOf g C [] sp
    → IsAt g limit b v sp
begun_at g limit b v C sp explores low none sequent is = record {
  explores = explores;
  number = low;
  is_spread = subst (λ c. IsSpreadOf g (at_place g (positions_of b) v).sequent c sp) (sym none)
      (subst (λ ns. IsSpreadOf g ns [] sp) sequent is);
}

-- a side more is left for fewer
pub fewer_sides : (g : Graph) (limit : ℕ) (b : Pool) (w o : ℕ) (s : Side) (sp sp2 : SpreadList)
    → IsAt g limit b w sp2
    → with_side sp.choice o s ≡ (at_place g (positions_of b) w).choice
    → 3 * (size g - length sp2.choice) + 2 < 3 * (size g - length sp.choice)
fewer_sides g limit b w o s sp sp2 at choice =
    let few = chosen_few g (at_place g (positions_of b) w) (at.explores.are_reached (at_place g (positions_of b) w)
    (place-member (positions_of b) w (start_of g) at.number)) in
    let long = with_side_length sp.choice o s in
    let first = ap length choice in
    let second = ap length at.is_spread.choice in
    omega arith

-- ---- the beginning and the end

-- the start alone
pub started_underway : (g : Graph) (limit : ℕ) (b : Pool) → 1 ≤ limit → IsStarted g b → IsUnderway g limit b []
started_underway g limit b some is = record {
  explores = started_explores g limit b some is;
  starts = ap (λ ps. slice_get ps 0) is.alone;
  within = omega arith;
  recorded = λ v found. absurd (found refl);
}

pub started_waiting : (g : Graph) (b : Pool) → IsStarted g b → AreWaiting g b [] []
started_waiting g b is v low waits =
    let long = ap length is.alone in
    let first : v ≡ 0 = omega arith in
    inr (ap (λ (p : Position). p.choice) (ap (at_place g (positions_of b)) first ∙ ap (λ ps. at_place g ps 0) is.alone))

-- where nothing waits, all positions are turned
module _ (g : Graph) (limit : ℕ) (b : Pool) (rs : List Recorded) (u : IsUnderway g limit b rs)
    (all : (v : ℕ) → v < length (positions_of b) → IsWaiting rs v → ⊥) where
  pub all_long : length rs ≡ length (positions_of b)
  all_long = by_order (cases_lt (length rs) (length (positions_of b)))
    where
      by_order : (length rs < length (positions_of b)) ⊎ (length (positions_of b) ≤ length rs) → length rs ≡ length
          (positions_of b)
      by_order (inl less) = absurd (all (length rs) less (get_or_past rs (length rs) recorded.Waiting (omega arith)))
      by_order (inr more) = omega (arith, u.within)

  pub all_turned : AreTurned g limit b rs
  all_turned = record {
    explores = u.explores;
    starts = u.starts;
    within = u.within;
    recorded = λ v low. subst (IsRecorded g (positions_of b) (at_place g (positions_of b) v))
        (get_or_default rs v recorded.Waiting recorded.Lost low)
        (u.recorded v (all v (omega (arith, u.within))));
  }
