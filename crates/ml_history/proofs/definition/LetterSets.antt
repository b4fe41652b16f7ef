-- Letters stand for sets: neither the order nor repeats of transitions change a step.
--
--   beats_antisymmetric  == two stacks of which neither beats the other are one
--   best_same            == the best of two lists with the same members is one
--   offers_same          == letters with the same transitions make the same offers
--   taken_same           == of the same offers the same is taken
--   letters_are_sets     == so the steps and their marks are the same
use Rattle.std.proofs.Common.{ℕ, ◌≡◌, ◌*◌, ◌<◌, ◌⊎◌, inl, inr, arith, false, eqb, List, [], ◌∷◌, map, refl, sym, subst, ap, ◌∙◌}
use Rattle.std.specs.List.{filter}
use Rattle.ml_lists.specs.Ascending.{ascending}
use Rattle.ml_lists.specs.Member.{IsMember}
use Rattle.ml_lists.specs.Within.{Within}
use Rattle.ml_lists.proofs.Ascending.{member-ascending, ascending-member, ascending-is, ascending_same}
use Rattle.ml_lists.proofs.Member.{Image, member-map, member-map_from, member-filter, member-filter_from}
use Rattle.ml_trace.specs.declared.letters.Transition.{Transition}
use Rattle.ml_trace.specs.Stack.{Item}
use Rattle.ml_history.specs.CycleLaws.{LettersAreSets}
use Rattle.ml_history.specs.HistoryStep.{live, beats, best, offers, offered_to, taken, taken_along, cut, renumbered, mark_of, is_red, is_green}
use Rattle.ml_lists.specs.Least.{least}
use Rattle.ml_history.proofs.definition.OrderOfOffers.{beats-cases_not, best-member, best_unbeaten}
use Rattle.ml_history.proofs.definition.Offers.{offer_from, offer_in}
use Rattle.ml_history.proofs.definition.TakenOffers.{item_for}

-- two stacks of which neither beats the other are one
pub beats_antisymmetric : (s t : List ℕ) → beats s t ≡ false → beats t s ≡ false → s ≡ t
beats_antisymmetric [] [] p q = refl
beats_antisymmetric [] (y ∷ ys) p q = absurd (cc)
beats_antisymmetric (x ∷ xs) [] p q = absurd (cc)
beats_antisymmetric (x ∷ xs) (y ∷ ys) p q =
    by_part (beats-cases_not x y xs ys p) (beats-cases_not y x ys xs q) (beats_antisymmetric xs ys)
  where
    by_part : ((x ≡ y) × (beats xs ys ≡ false)) ⊎ (y < x)
        → ((y ≡ x) × (beats ys xs ≡ false)) ⊎ (x < y)
        → (beats xs ys ≡ false → beats ys xs ≡ false → xs ≡ ys)
        → x ∷ xs ≡ y ∷ ys
    by_part (inl same) (inl other) rest = λ i. same.0 i ∷ rest same.1 other.1 i
    by_part (inl same) (inr low) rest = let e = same.0 in absurd (omega arith)
    by_part (inr high) (inl other) rest = let e = other.0 in absurd (omega arith)
    by_part (inr high) (inr low) rest = absurd (omega arith)

-- the best of two lists with the same members is one
pub best_same : (ss ts : List (List ℕ)) → Within ss ts → Within ts ss → best ss ≡ best ts
best_same [] [] to from = refl
best_same [] (t ∷ ts) to from = absurd (from t (inl refl))
best_same (s ∷ ss) [] to from = absurd (to s (inl refl))
best_same (s ∷ ss) (t ∷ ts) to from =
    beats_antisymmetric (best (s ∷ ss)) (best (t ∷ ts))
    (best_unbeaten (best (s ∷ ss)) (t ∷ ts) (to (best (s ∷ ss)) (best-member s ss)))
    (best_unbeaten (best (t ∷ ts)) (s ∷ ss) (from (best (t ∷ ts)) (best-member t ts)))

-- letters with the same transitions make the same offers
offers_within : (h : List (Item ℕ)) (l m : List Transition) → Within l m → Within (offers h l) (offers h m)
offers_within h l m to o i =
    let f = offer_from h l o i in
    offer_in h m o
    (record {
      source = f.source;
      member = f.member;
      accepting = f.accepting;
      transition = to (record { from = f.source.state; to = o.state; accepting = f.accepting }) f.transition;
      stack_is = f.stack_is;
    })

-- the same items have the same states
states_within : (os us : List (Item ℕ))
    → Within os us
    → Within (map (λ (a : Item ℕ). a.state) os) (map (λ (a : Item ℕ). a.state) us)
states_within os us to q i = from_image (member-map_from (λ (a : Item ℕ). a.state) q os i)
  where
    from_image : Image (λ (a : Item ℕ). a.state) q os → IsMember q (map (λ (a : Item ℕ). a.state) us)
    from_image j = subst (λ v. IsMember v (map (λ (a : Item ℕ). a.state) us)) (sym j.holds)
        (member-map (λ (a : Item ℕ). a.state) j.from us (to j.from j.member))

-- and offer the same to each state
offered_within : (os us : List (Item ℕ)) (q : ℕ) → Within os us → Within (offered_to q os) (offered_to q us)
offered_within os us q to s i =
    from_image (member-map_from (λ (a : Item ℕ). a.stack) s (filter (λ (a : Item ℕ). eqb a.state q) os) i)
  where
    from_image : Image (λ (a : Item ℕ). a.stack) s (filter (λ (a : Item ℕ). eqb a.state q) os)
        → IsMember s (offered_to q us)
    from_image j =
        let f = member-filter_from (λ (a : Item ℕ). eqb a.state q) j.from os j.member in
        let kept = member-filter (λ (a : Item ℕ). eqb a.state q) j.from us (to j.from f.0) f.1 in
        subst (λ v. IsMember v (offered_to q us)) (sym j.holds)
        (member-map (λ (a : Item ℕ). a.stack) j.from (filter (λ (a : Item ℕ). eqb a.state q) us) kept)

-- of the same offers the same is taken
pub taken_same : (os us : List (Item ℕ)) → Within os us → Within us os → taken os ≡ taken us
taken_same os us to from =
    let states : ascending (map (λ (a : Item ℕ). a.state) os) ≡ ascending (map (λ (a : Item ℕ). a.state) us) =
    ascending_same (ascending (map (λ (a : Item ℕ). a.state) os)) (ascending (map (λ (a : Item ℕ). a.state) us))
    (ascending-is (map (λ (a : Item ℕ). a.state) os)) (ascending-is (map (λ (a : Item ℕ). a.state) us))
    (λ v i. member-ascending v (map (λ (a : Item ℕ). a.state) us)
    (states_within os us to v (ascending-member v (map (λ (a : Item ℕ). a.state) os) i)))
    (λ v i. member-ascending v (map (λ (a : Item ℕ). a.state) os)
    (states_within us os from v (ascending-member v (map (λ (a : Item ℕ). a.state) us) i)))
    in
    let items : (q : ℕ) → item_for os q ≡ item_for us q =
    λ q. ap (λ (s : List ℕ). record { state = q; stack = s })
    (best_same (offered_to q os) (offered_to q us) (offered_within os us q to) (offered_within us os q from))
    in
    ap (map (item_for os)) states ∙ (λ i. map (λ q. items q i) (ascending (map (λ (a : Item ℕ). a.state) us)))

-- so the steps and their marks are the same
pub letters_are_sets : LettersAreSets
letters_are_sets h l m to from =
    let same : taken_along h l ≡ taken_along h m =
    taken_same (offers h l) (offers h m) (offers_within h l m to) (offers_within h m l from) in (
      ap (λ t. renumbered (cut t)) same,
      ap (λ t. mark_of (least (is_red (live h) t) (2 * live h)) (least (is_green t) (2 * live h))) same,
    )
