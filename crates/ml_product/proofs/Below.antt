-- Positions of one tree: those with all sides of a position and more.
--
--   below_self, below_both == a position is below itself, and what is below one that is below
--   below_chosen  == a position with a side more is below
--   has_side      == what is below it has that side
--   new_beside    == where none is below, a position with a side more is a new one
--   other_beside  == so is the one with the other side, when the first one has come
--   opened_among  == behind a turn there are the positions before, and those with the one side and with the other
--   fresh_left, fresh_right == none is below the one, nor below the other when what is below the one was explored
--   adds_ended, adds_both == what an exploration adds has no choice, or is below
use Rattle.std.proofs.Common.{ℕ, ◌≡◌, ◌<◌, ◌≤◌, ◌⊎◌, inl, inr, List, [], ◌∷◌, ◌++◌, length, slice_get, get_or, Some, None, refl, sym, ap, ◌∙◌, subst}
use Rattle.std.proofs.lemmas.Bool.{cases_lt}
use Rattle.std.proofs.lemmas.List.{get_or_append_left}
use Rattle.std.proofs.lemmas.Option.{slice_get_within, slice_get-get_or, get_or_from_slice_get}
use Rattle.ml_lists.specs.Added.{IsAdded}
use Rattle.ml_lists.specs.Member.{IsMember}
use Rattle.ml_lists.proofs.Member.{member-append, member_of_get}
use Rattle.ml_graph.specs.Graph.{Graph}
use Rattle.ml_sequent.specs.declared.choice.Side.{Side}
use Rattle.ml_sequent.specs.declared.choice.Side.TheVariants.{Left, Right}
use Rattle.ml_sequent.specs.Choice.{side_of, with_side}
use Rattle.ml_sequent.proofs.ChoicesWith.{side_new, side_kept}
use Rattle.ml_product.specs.Position.{Position, start_of, with_chosen}
use Rattle.ml_product.specs.private.Pools.{beside, IsLonger}
use Rattle.ml_product.specs.private.Exploring.{at_place, IsBelow, HasNoneBelow, AddsBelow}
use Rattle.ml_product.proofs.OnePlace.{PlaceOf, place_of}

-- a position is below itself
pub below_self : (p : Position) → IsBelow p p
below_self p = record { sequent = refl; history = refl; sides = λ n s is. is }

-- and what is below one that is below
pub below_both : (p q r : Position) → IsBelow p q → IsBelow q r → IsBelow p r
below_both p q r one two = record {
  sequent = two.sequent ∙ one.sequent;
  history = two.history ∙ one.history;
  sides = λ n s is. two.sides n s (one.sides n s is);
}

module _ (p : Position) (k o : ℕ) (none : side_of p.choice o ≡ None) where
  -- a position with a side more is below
  pub below_beside : (s : Side) → IsBelow p (beside p k (with_side p.choice o s))
  below_beside s = record { sequent = refl; history = refl; sides = λ n t is. side_kept p.choice o s n t none is }

  -- what is below it has that side
  pub has_side : (s : Side) (q : Position) → IsBelow (beside p k (with_side p.choice o s)) q → side_of q.choice o ≡ Some s
  has_side s q is = is.sides o s (side_new p.choice o s none)

  -- where none is below, it is a new one
  pub new_beside : (ps : List Position) (s : Side) → HasNoneBelow ps p
      → ¬ (IsMember (beside p k (with_side p.choice o s)) ps)
  new_beside ps s fresh m =
      let same = fresh (beside p k (with_side p.choice o s)) m (below_beside s) in
      let both : Some s ≡ None = sym (side_new p.choice o s none) ∙ ap (λ c. side_of c o) same ∙ none in
      absurd (cc)

  -- so is the one with the other side
  pub other_beside : (ps qs : List Position) (w : ℕ) → HasNoneBelow ps p
      → IsAdded ps (beside p k (with_side p.choice o Left)) qs w
      → ¬ (IsMember (beside p k (with_side p.choice o Right)) qs)
  other_beside ps qs w fresh added m = by_kind added.grown
    where
      by_part : IsMember (beside p k (with_side p.choice o Right)) ps
          ⊎ IsMember (beside p k (with_side p.choice o Right)) (beside p k (with_side p.choice o Left) ∷ []) → ⊥
      by_part (inl before) = new_beside ps Right fresh before
      by_part (inr (inl same)) =
          let both : Some Right ≡ Some Left =
          sym (side_new p.choice o Right none) ∙ ap (λ (q : Position). side_of q.choice o) same
          ∙ side_new p.choice o Left none in
          absurd (cc)
      by_part (inr (inr never)) = never

      by_kind : (qs ≡ ps) ⊎ ((qs ≡ ps ++ beside p k (with_side p.choice o Left) ∷ [])
          × ¬ (IsMember (beside p k (with_side p.choice o Left)) ps)) → ⊥
      by_kind (inl old) =
          new_beside ps Right fresh (subst (IsMember (beside p k (with_side p.choice o Right))) old m)
      by_kind (inr new) =
          by_part (member-append (beside p k (with_side p.choice o Right)) ps
          (beside p k (with_side p.choice o Left) ∷ [])
          (subst (IsMember (beside p k (with_side p.choice o Right))) new.0 m))

pub below_chosen : (g : Graph) (p : Position) (o : ℕ) (s : Side) → side_of p.choice o ≡ None
    → IsBelow p (with_chosen g p o s)
below_chosen g p o s none = record { sequent = refl; history = refl; sides = λ n t is. side_kept p.choice o s n t none is }

chosen_side : (g : Graph) (p : Position) (o : ℕ) (s : Side) (q : Position) → side_of p.choice o ≡ None
    → IsBelow (with_chosen g p o s) q
    → side_of q.choice o ≡ Some s
chosen_side g p o s q none is = is.sides o s (side_new p.choice o s none)

-- what stands within a list stood there before it got longer
pub longer_back : {X : Type 0} (ps qs : List X) (w : ℕ) (q : X) → IsLonger ps qs → w < length ps
    → slice_get qs w ≡ Some q
    → slice_get ps w ≡ Some q
longer_back ps qs w q longer low at =
    slice_get-get_or ps w q low
    ∙ ap Some (sym (get_or_append_left ps longer.more q w low) ∙ ap (λ xs. get_or xs w q) (sym longer.is)
    ∙ get_or_from_slice_get qs w q q at)

-- behind a turn there are the positions before, and those with the one side and with the other
pub opened_among : (g : Graph) (ps qs : List Position) (p : Position) (o l r : ℕ)
    → IsLonger ps qs
    → slice_get qs l ≡ Some (with_chosen g p o Left)
    → slice_get qs r ≡ Some (with_chosen g p o Right)
    → ((w : ℕ) → length ps ≤ w → w < length qs → (w ≡ l) ⊎ (w ≡ r))
    → (q : Position)
    → IsMember q qs
    → IsMember q ps ⊎ (q ≡ with_chosen g p o Left) ⊎ (q ≡ with_chosen g p o Right)
opened_among g ps qs p o l r longer left right only q m = from (place_of q qs m)
  where
    same : (w k : ℕ) (x : Position) → slice_get qs w ≡ Some q → slice_get qs k ≡ Some x → w ≡ k → q ≡ x
    same w k x at there e = let f : Some q ≡ Some x = sym at ∙ ap (slice_get qs) e ∙ there in cc

    from : PlaceOf q qs → IsMember q ps ⊎ (q ≡ with_chosen g p o Left) ⊎ (q ≡ with_chosen g p o Right)
    from at = by_place (cases_lt at.place (length ps))
      where
        new : (at.place ≡ l) ⊎ (at.place ≡ r)
            → IsMember q ps ⊎ (q ≡ with_chosen g p o Left) ⊎ (q ≡ with_chosen g p o Right)
        new (inl e) = inr (inl (same at.place l (with_chosen g p o Left) at.stands left e))
        new (inr e) = inr (inr (same at.place r (with_chosen g p o Right) at.stands right e))

        by_place : (at.place < length ps) ⊎ (length ps ≤ at.place)
            → IsMember q ps ⊎ (q ≡ with_chosen g p o Left) ⊎ (q ≡ with_chosen g p o Right)
        by_place (inl low) = inl (member_of_get ps at.place q (longer_back ps qs at.place q longer low at.stands))
        by_place (inr high) = new (only at.place high (slice_get_within qs at.place q at.stands))

module _ (g : Graph) (ps qs : List Position) (p : Position) (o : ℕ) (none : side_of p.choice o ≡ None)
    (fresh : HasNoneBelow ps p)
    (among : (q : Position) → IsMember q qs
    → IsMember q ps ⊎ (q ≡ with_chosen g p o Left) ⊎ (q ≡ with_chosen g p o Right)) where
  not_old : (s : Side) (q : Position) → IsMember q ps → IsBelow (with_chosen g p o s) q → ⊥
  not_old s q m is =
      let same = fresh q m (below_both p (with_chosen g p o s) q (below_chosen g p o s none) is) in
      let both : Some s ≡ None = sym (chosen_side g p o s q none is) ∙ ap (λ c. side_of c o) same ∙ none in
      absurd (cc)

  not_left : (q : Position) → IsBelow (with_chosen g p o Left) q → IsBelow (with_chosen g p o Right) q → ⊥
  not_left q one two =
      let both : Some Left ≡ Some Right = sym (chosen_side g p o Left q none one) ∙ chosen_side g p o Right q none two in
      absurd (cc)

  -- none is below the one
  pub fresh_left : HasNoneBelow qs (with_chosen g p o Left)
  fresh_left q m is = by_kind (among q m)
    where
      by_kind : IsMember q ps ⊎ (q ≡ with_chosen g p o Left) ⊎ (q ≡ with_chosen g p o Right)
          → q.choice ≡ (with_chosen g p o Left).choice
      by_kind (inl old) = absurd (not_old Left q old is)
      by_kind (inr (inl same)) = ap (λ (r : Position). r.choice) same
      by_kind (inr (inr same)) =
          absurd (not_left q is (subst (IsBelow (with_chosen g p o Right)) (sym same) (below_self (with_chosen g p o Right))))

  fresh_side : HasNoneBelow qs (with_chosen g p o Right)
  fresh_side q m is = by_kind (among q m)
    where
      by_kind : IsMember q ps ⊎ (q ≡ with_chosen g p o Left) ⊎ (q ≡ with_chosen g p o Right)
          → q.choice ≡ (with_chosen g p o Right).choice
      by_kind (inl old) = absurd (not_old Right q old is)
      by_kind (inr (inl same)) =
          absurd (not_left q (subst (IsBelow (with_chosen g p o Left)) (sym same) (below_self (with_chosen g p o Left))) is)
      by_kind (inr (inr same)) = ap (λ (r : Position). r.choice) same

  -- nor below the other, when what is below the one was explored
  pub fresh_right : (rs : List Position) → AddsBelow qs (with_chosen g p o Left) rs
      → HasNoneBelow rs (with_chosen g p o Right)
  fresh_right rs adds q m is = by_kind (adds q m)
    where
      by_kind : IsMember q qs ⊎ (q.choice ≡ []) ⊎ IsBelow (with_chosen g p o Left) q
          → q.choice ≡ (with_chosen g p o Right).choice
      by_kind (inl old) = fresh_side q old is
      by_kind (inr (inl empty)) =
          let both : None ≡ Some Right = ap (λ c. side_of c o) (sym empty) ∙ chosen_side g p o Right q none is in
          absurd (cc)
      by_kind (inr (inr one)) = absurd (not_left q one is)

  -- what the exploration of both adds has no choice, or is below
  pub adds_both : (rs ts : List Position) → AddsBelow qs (with_chosen g p o Left) rs
      → AddsBelow rs (with_chosen g p o Right) ts
      → AddsBelow ps p ts
  adds_both rs ts one two q m = behind (two q m)
    where
      below : (s : Side) → IsBelow (with_chosen g p o s) q → IsBelow p q
      below s is = below_both p (with_chosen g p o s) q (below_chosen g p o s none) is

      opened : IsMember q ps ⊎ (q ≡ with_chosen g p o Left) ⊎ (q ≡ with_chosen g p o Right)
          → IsMember q ps ⊎ (q.choice ≡ []) ⊎ IsBelow p q
      opened (inl old) = inl old
      opened (inr (inl same)) = inr (inr (subst (IsBelow p) (sym same) (below_chosen g p o Left none)))
      opened (inr (inr same)) = inr (inr (subst (IsBelow p) (sym same) (below_chosen g p o Right none)))

      first : IsMember q qs ⊎ (q.choice ≡ []) ⊎ IsBelow (with_chosen g p o Left) q
          → IsMember q ps ⊎ (q.choice ≡ []) ⊎ IsBelow p q
      first (inl old) = opened (among q old)
      first (inr (inl empty)) = inr (inl empty)
      first (inr (inr is)) = inr (inr (below Left is))

      behind : IsMember q rs ⊎ (q.choice ≡ []) ⊎ IsBelow (with_chosen g p o Right) q
          → IsMember q ps ⊎ (q.choice ≡ []) ⊎ IsBelow p q
      behind (inl old) = first (one q old)
      behind (inr (inl empty)) = inr (inl empty)
      behind (inr (inr is)) = inr (inr (below Right is))

-- where no side is chosen next, what is added has no choice
pub adds_ended : (g : Graph) (ps qs : List Position) (p : Position) → IsLonger ps qs
    → ((w : ℕ) → length ps ≤ w → w < length qs → (at_place g qs w).choice ≡ [])
    → AddsBelow ps p qs
adds_ended g ps qs p longer unchosen q m = from (place_of q qs m)
  where
    from : PlaceOf q qs → IsMember q ps ⊎ (q.choice ≡ []) ⊎ IsBelow p q
    from at = by_place (cases_lt at.place (length ps))
      where
        by_place : (at.place < length ps) ⊎ (length ps ≤ at.place) → IsMember q ps ⊎ (q.choice ≡ []) ⊎ IsBelow p q
        by_place (inl low) = inl (member_of_get ps at.place q (longer_back ps qs at.place q longer low at.stands))
        by_place (inr high) =
            let place = get_or_from_slice_get qs at.place q (start_of g) at.stands in
            inr (inl (ap (λ (r : Position). r.choice) (sym place)
            ∙ unchosen at.place high (slice_get_within qs at.place q at.stands)))
