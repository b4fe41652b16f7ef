-- The tree of the first offers to each state stands for what the targets take.
--
--   targets-from, targets-has == the targets of a state are the states to which the letter leads from it
--   walked_taken, taken_walked == the places of the tree are the items that are taken
--   walked-apart, walked-names_apart, walked-bound, walked-rise, walked-root == what the tree keeps
use Rattle.std.proofs.Common.{ℕ, ◌≡◌, ◌*◌, ◌<◌, ◌⊎◌, inl, inr, arith, Bool, true, false, not, cond, eqb, List, refl, sym, subst}
use Rattle.std.proofs.lemmas.Bool.{and_parts, and_from, eqb-true, eq-eqb, not-true, not_from_false}
use Rattle.std.specs.List.{filter}
use Rattle.ml_lists.specs.Member.{IsMember}
use Rattle.ml_lists.proofs.Member.{Image, member-map, member-map_from, member-filter, member-filter_from}
use Rattle.ml_trace.specs.declared.letters.Transition.{Transition}
use Rattle.ml_trace.specs.Run.{in_letter}
use Rattle.ml_history.specs.private.Forest.{Forest, Empty, names, states, places, items, AgesRise, HasOneRoot, IsProper}
use Rattle.ml_lists.specs.Times.{IsApart}
use Rattle.ml_history.specs.HistoryStep.{live, offers, taken, taken_along}
use Rattle.ml_history.specs.private.TreeStep.{leads_from, targets, moved, nobody, walked}
use Rattle.ml_lists.specs.Within.{Within}
use Rattle.ml_history.proofs.trees.FirstOffers.{firsts, firsts_taken, taken_firsts}
use Rattle.ml_history.proofs.trees.FirstPlaces.{fresh-places, fresh-names, fresh-rise, fresh-root, fresh-apart}
use Rattle.ml_history.proofs.definition.LetterSets.{taken_same}
use Rattle.ml_history.proofs.trees.TreeOfOffers.{Made, moved-from, moved-has, moved-apart, moved-bound, moved-rise, moved-root}
use Rattle.ml_history.proofs.definition.Offers.{offer_from, offer_in}
use Rattle.ml_history.proofs.trees.Postorder.{BestFirst, places-best_first}
use Rattle.ml_history.proofs.trees.ProperTrees.{items-member, member-items, names-live}

-- ---- targets

-- whether a transition accepts, told from the test
kind_from : (accepting b : Bool) → cond accepting b (not b) ≡ true → b ≡ accepting
kind_from true b e = e
kind_from false b e = not-true b e

kind_has : (accepting b : Bool) → b ≡ accepting → cond accepting b (not b) ≡ true
kind_has true b e = e
kind_has false b e = not_from_false b e

-- the letter leads to each target
pub targets-from : (letter : List Transition) (accepting : Bool) (q p : ℕ)
    → IsMember p (targets letter accepting q)
    → in_letter letter q p accepting
targets-from letter accepting q p m =
    from_image (member-map_from (λ (t : Transition). t.to) p (filter (leads_from accepting q) letter) m)
  where
    from_image : Image (λ (t : Transition). t.to) p (filter (leads_from accepting q) letter)
        → in_letter letter q p accepting
    from_image i =
        let f = member-filter_from (leads_from accepting q) i.from letter i.member in
        let parts = and_parts (eqb i.from.from q) (cond accepting i.from.accepting (not i.from.accepting)) f.1 in
        let starts = eqb-true i.from.from q parts.0 in
        let kinds = kind_from accepting i.from.accepting parts.1 in
        let same : i.from ≡ record { from = q; to = p; accepting = accepting } =
        λ k. record { from = starts k; to = sym i.holds k; accepting = kinds k } in
        subst (λ t. IsMember t letter) same f.0

-- each state to which it leads is a target
pub targets-has : (letter : List Transition) (accepting : Bool) (q p : ℕ)
    → in_letter letter q p accepting
    → IsMember p (targets letter accepting q)
targets-has letter accepting q p m =
    let t : Transition = record { from = q; to = p; accepting = accepting } in
    member-map (λ (u : Transition). u.to) t (filter (leads_from accepting q) letter)
    (member-filter (leads_from accepting q) t letter m
    (and_from (eqb q q) (cond accepting accepting (not accepting)) (eq-eqb q q refl)
    (kind_has accepting accepting refl)))

-- ---- what is taken

module _ (f : Forest) (proper : IsProper f) (letter : List Transition) where
  -- the tree of all offers
  abbrev all : Forest
  all = moved (live (items f)) (targets letter) Empty f

  made_offers : Within (places all) (offers (items f) letter)
  made_offers o m = by_part (moved-from (live (items f)) (targets letter) Empty f o m)
    where
      by_part : Made (live (items f)) (targets letter) f o ⊎ IsMember o (places Empty)
          → IsMember o (offers (items f) letter)
      by_part (inl made) = offer_in (items f) letter o (record {
        source = made.source;
        member = member-items f made.source made.member;
        accepting = made.accepting;
        transition = targets-from letter made.accepting made.source.state o.state made.target;
        stack_is = made.stack_is;
      })
      by_part (inr none) = absurd none

  offers_made : Within (offers (items f) letter) (places all)
  offers_made o m =
      let g = offer_from (items f) letter o m in
      moved-has (live (items f)) (targets letter) Empty f o (record {
        source = g.source;
        member = items-member f g.source g.member;
        accepting = g.accepting;
        target = targets-has letter g.accepting g.source.state o.state g.transition;
        stack_is = g.stack_is;
      })

  -- of the tree of all offers the same is taken
  all_taken : taken (places all) ≡ taken_along (items f) letter
  all_taken = taken_same (places all) (offers (items f) letter) made_offers offers_made

  all_rise : AgesRise 0 all
  all_rise = moved-rise (live (items f)) (targets letter) 0 Empty f proper.ages_rise (names-live f proper) (λ z low. tt)
      (omega arith)

  all_best_first : BestFirst (places all)
  all_best_first = places-best_first 0 all all_rise

  -- the places of the tree of first offers are what is taken
  pub walked_taken : Within (places (walked f letter)) (taken_along (items f) letter)
  walked_taken v m =
      let first : IsMember v (firsts nobody (places all)) = subst (IsMember v) (fresh-places nobody all) m in
      subst (IsMember v) all_taken (firsts_taken (places all) all_best_first v first)

  pub taken_walked : Within (taken_along (items f) letter) (places (walked f letter))
  taken_walked v m =
      let here : IsMember v (taken (places all)) = subst (IsMember v) (sym all_taken) m in
      subst (IsMember v) (sym (fresh-places nobody all)) (taken_firsts (places all) all_best_first v here)

  -- no state lies in the tree twice
  pub walked-apart : IsApart (states (walked f letter))
  walked-apart = fresh-apart nobody all

  -- no name stands in it twice
  pub walked-names_apart : IsApart (names (walked f letter))
  walked-names_apart = subst IsApart (sym (fresh-names nobody all))
      (moved-apart (live (items f)) (targets letter) f proper.names_apart (names-live f proper))

  -- each name of it is below 2r
  pub walked-bound : (z : ℕ) → IsMember z (names (walked f letter)) → z < 2 * live (items f)
  walked-bound z m = moved-bound (live (items f)) (targets letter) f proper.names_apart (names-live f proper) z
      (subst (IsMember z) (fresh-names nobody all) m)

  pub walked-rise : AgesRise 0 (walked f letter)
  walked-rise = fresh-rise nobody 0 all all_rise

  pub walked-root : HasOneRoot (walked f letter)
  walked-root = fresh-root nobody all (moved-root (live (items f)) (targets letter) f proper.one_root)
