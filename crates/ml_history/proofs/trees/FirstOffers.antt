-- The first item of each state.
--
-- Of offers that stand in their order the first one to each state is the best one: it is what is taken.
--
--   firsts seen ts     == the items of ts whose states do not pass the test and did not stand before
--   firsts-append      == of joined lists
--   firsts-from        == such an item is an item, and its state does not pass
--   firsts-has         == each state that does not pass has one
--   firsts-apart       == no state has two
--   firsts_taken, taken_firsts == of items in the order of offers they are what is taken
use Rattle.std.proofs.Common.{ℕ, ◌≡◌, ◌⊎◌, inl, inr, Bool, true, false, ◌||◌, cond, eqb, List, [], ◌∷◌, ◌++◌, map, refl, sym, subst, ap, ◌∙◌}
use Rattle.std.proofs.lemmas.Bool.{cases_Bool, cases_eq, cond-true, cond-false, or_left, or_right, eq-eqb, ne_eqb}
use Rattle.ml_lists.specs.Member.{IsMember}
use Rattle.ml_lists.proofs.Member.{Image, member-map_from}
use Rattle.ml_trace.specs.Stack.{Item}
use Rattle.ml_lists.specs.Times.{IsApart}
use Rattle.ml_history.specs.HistoryStep.{beats, taken}
use Rattle.ml_history.specs.private.TreeStep.{nobody, with_one, with_all}
use Rattle.ml_history.proofs.trees.ItemsByState.{state_of, one_item}
use Rattle.ml_history.proofs.definition.OrderOfOffers.{beats_irreflexive}
use Rattle.ml_history.proofs.definition.LetterSets.{beats_antisymmetric}
use Rattle.ml_history.proofs.trees.Postorder.{BestFirst}
use Rattle.ml_history.proofs.definition.TakenOffers.{taken-offer, taken_by, taken-ascends}

-- the items whose states do not pass the test and did not stand before
abbrev pub firsts : (ℕ → Bool) → List (Item ℕ) → List (Item ℕ)
firsts seen [] = []
firsts seen (a ∷ as') = cond (seen a.state) (firsts seen as') (a ∷ firsts (with_one a.state seen) as')

-- the two forms
module _ (seen : ℕ → Bool) (a : Item ℕ) (ts : List (Item ℕ)) where
  pub firsts-seen : seen a.state ≡ true → firsts seen (a ∷ ts) ≡ firsts seen ts
  firsts-seen t = cond-true (seen a.state) (firsts seen ts) (a ∷ firsts (with_one a.state seen) ts) t

  pub firsts-new : seen a.state ≡ false → firsts seen (a ∷ ts) ≡ a ∷ firsts (with_one a.state seen) ts
  firsts-new f = cond-false (seen a.state) (firsts seen ts) (a ∷ firsts (with_one a.state seen) ts) f

-- a state that passes, once more
pub with_one-again : (q : ℕ) (seen : ℕ → Bool) → seen q ≡ true → with_one q seen ≡ seen
with_one-again q seen passes = λ i p. each p i
  where
    by_test : (p : ℕ) → (q ≡ p) ⊎ (q ≡ p → ⊥) → (eqb q p || seen p) ≡ seen p
    by_test p (inl e) = or_left (eqb q p) (seen p) (eq-eqb q p e) ∙ sym (subst (λ v. seen v ≡ true) e passes)
    by_test p (inr ne) = ap (λ v. v || seen p) (ne_eqb q p ne)

    each : (p : ℕ) → with_one q seen p ≡ seen p
    each p = by_test p (cases_eq q p)

-- of joined lists
pub firsts-append : (seen : ℕ → Bool) (ts us : List (Item ℕ))
    → firsts seen (ts ++ us) ≡ firsts seen ts ++ firsts (with_all (map state_of ts) seen) us
firsts-append seen [] us = refl
firsts-append seen (t ∷ ts) us =
    by_test (cases_Bool (seen t.state)) (firsts-append seen ts us) (firsts-append (with_one t.state seen) ts us)
  where
    by_test : (seen t.state ≡ true) ⊎ (seen t.state ≡ false)
        → firsts seen (ts ++ us) ≡ firsts seen ts ++ firsts (with_all (map state_of ts) seen) us
        → firsts (with_one t.state seen) (ts ++ us)
        ≡ firsts (with_one t.state seen) ts ++ firsts (with_all (map state_of ts) (with_one t.state seen)) us
        → firsts seen ((t ∷ ts) ++ us) ≡ firsts seen (t ∷ ts) ++ firsts (with_all (map state_of (t ∷ ts)) seen) us
    by_test (inl p) same more =
        firsts-seen seen t (ts ++ us) p
        ∙ same
        ∙ ap (λ v. firsts seen ts ++ firsts (with_all (map state_of ts) v) us) (sym (with_one-again t.state seen p))
        ∙ ap (λ v. v ++ firsts (with_all (map state_of (t ∷ ts)) seen) us) (sym (firsts-seen seen t ts p))
    by_test (inr f) same more =
        firsts-new seen t (ts ++ us) f
        ∙ ap (λ v. t ∷ v) more
        ∙ ap (λ v. v ++ firsts (with_all (map state_of (t ∷ ts)) seen) us) (sym (firsts-new seen t ts f))

-- what does not pass with one state more is another, and does not pass
with_one-false : (q : ℕ) (seen : ℕ → Bool) (p : ℕ) → with_one q seen p ≡ false → (q ≡ p → ⊥) × (seen p ≡ false)
with_one-false q seen p f = (
  λ e. let wrong = or_left (eqb q p) (seen p) (eq-eqb q p e) in cc,
  by_test (cases_Bool (seen p)),
)
  where
    by_test : (seen p ≡ true) ⊎ (seen p ≡ false) → seen p ≡ false
    by_test (inl t) = let wrong = or_right (eqb q p) (seen p) t in cc
    by_test (inr g) = g

-- a first item is an item, and its state does not pass
pub firsts-from : (seen : ℕ → Bool) (ts : List (Item ℕ)) (a : Item ℕ)
    → IsMember a (firsts seen ts)
    → IsMember a ts × (seen a.state ≡ false)
firsts-from seen [] a m = absurd m
firsts-from seen (t ∷ ts) a m =
    by_test (cases_Bool (seen t.state)) (firsts-from seen ts a) (firsts-from (with_one t.state seen) ts a)
  where
    here : seen t.state ≡ false
        → (IsMember a (firsts (with_one t.state seen) ts) → IsMember a ts × (with_one t.state seen a.state ≡ false))
        → (a ≡ t) ⊎ IsMember a (firsts (with_one t.state seen) ts)
        → IsMember a (t ∷ ts) × (seen a.state ≡ false)
    here f more (inl same) = (inl same, subst (λ (v : Item ℕ). seen v.state ≡ false) (sym same) f)
    here f more (inr i) = let r = more i in (inr r.0, (with_one-false t.state seen a.state r.1).1)

    by_test : (seen t.state ≡ true) ⊎ (seen t.state ≡ false)
        → (IsMember a (firsts seen ts) → IsMember a ts × (seen a.state ≡ false))
        → (IsMember a (firsts (with_one t.state seen) ts) → IsMember a ts × (with_one t.state seen a.state ≡ false))
        → IsMember a (t ∷ ts) × (seen a.state ≡ false)
    by_test (inl p) same more = let r = same (subst (IsMember a) (firsts-seen seen t ts p) m) in (inr r.0, r.1)
    by_test (inr f) same more = here f more (subst (IsMember a) (firsts-new seen t ts f) m)

-- the first item of the state q
pub record FirstOf (seen : ℕ → Bool) (ts : List (Item ℕ)) (q : ℕ) : Type 0 where
  pub item : Item ℕ
  pub member : IsMember item (firsts seen ts)
  pub state_is : item.state ≡ q

-- each state that does not pass has one
pub firsts-has : (seen : ℕ → Bool) (ts : List (Item ℕ)) (b : Item ℕ)
    → IsMember b ts
    → seen b.state ≡ false
    → FirstOf seen ts b.state
firsts-has seen [] b m out = absurd m
firsts-has seen (t ∷ ts) b m out =
    by_test (cases_Bool (seen t.state)) m (firsts-has seen ts b) (firsts-has (with_one t.state seen) ts b)
  where
    keep : seen t.state ≡ true → FirstOf seen ts b.state → FirstOf seen (t ∷ ts) b.state
    keep p f = record {
      item = f.item;
      member = subst (IsMember f.item) (sym (firsts-seen seen t ts p)) f.member;
      state_is = f.state_is;
    }

    here : seen t.state ≡ false → t.state ≡ b.state → FirstOf seen (t ∷ ts) b.state
    here f e = record { item = t; member = subst (IsMember t) (sym (firsts-new seen t ts f)) (inl refl); state_is = e }

    later : seen t.state ≡ false → FirstOf (with_one t.state seen) ts b.state → FirstOf seen (t ∷ ts) b.state
    later f g = record {
      item = g.item;
      member = subst (IsMember g.item) (sym (firsts-new seen t ts f)) (inr g.member);
      state_is = g.state_is;
    }

    by_state : seen t.state ≡ false
        → IsMember b ts
        → (IsMember b ts → with_one t.state seen b.state ≡ false → FirstOf (with_one t.state seen) ts b.state)
        → (t.state ≡ b.state) ⊎ (t.state ≡ b.state → ⊥)
        → FirstOf seen (t ∷ ts) b.state
    by_state f i more (inl e) = here f e
    by_state f i more (inr ne) = later f (more i (ap (λ v. v || seen b.state) (ne_eqb t.state b.state ne) ∙ out))

    by_test : (seen t.state ≡ true) ⊎ (seen t.state ≡ false)
        → (b ≡ t) ⊎ IsMember b ts
        → (IsMember b ts → seen b.state ≡ false → FirstOf seen ts b.state)
        → (IsMember b ts → with_one t.state seen b.state ≡ false → FirstOf (with_one t.state seen) ts b.state)
        → FirstOf seen (t ∷ ts) b.state
    by_test (inl p) (inl same) rest more = let wrong : seen t.state ≡ false =
        subst (λ (v : Item ℕ). seen v.state ≡ false) same out in absurd (cc)
    by_test (inl p) (inr i) rest more = keep p (rest i out)
    by_test (inr f) (inl same) rest more = here f (ap state_of (sym same))
    by_test (inr f) (inr i) rest more = by_state f i more (cases_eq t.state b.state)

-- no state has two first items
pub firsts-apart : (seen : ℕ → Bool) (ts : List (Item ℕ)) → IsApart (map state_of (firsts seen ts))
firsts-apart seen [] = tt
firsts-apart seen (t ∷ ts) = by_test (cases_Bool (seen t.state)) (firsts-apart seen ts)
    (firsts-apart (with_one t.state seen) ts)
  where
    from_image : Image state_of t.state (firsts (with_one t.state seen) ts) → ⊥
    from_image i = (with_one-false t.state seen i.from.state
        (firsts-from (with_one t.state seen) ts i.from i.member).1).0 i.holds

    by_test : (seen t.state ≡ true) ⊎ (seen t.state ≡ false)
        → IsApart (map state_of (firsts seen ts))
        → IsApart (map state_of (firsts (with_one t.state seen) ts))
        → IsApart (map state_of (firsts seen (t ∷ ts)))
    by_test (inl p) same more = subst (λ v. IsApart (map state_of v)) (sym (firsts-seen seen t ts p)) same
    by_test (inr f) same more =
        subst (λ v. IsApart (map state_of v)) (sym (firsts-new seen t ts f))
        (λ m. from_image (member-map_from state_of t.state (firsts (with_one t.state seen) ts) m), more)

-- no item of its state beats a first item, where the items stand in the order of offers
firsts-unbeaten : (seen : ℕ → Bool) (ts : List (Item ℕ))
    → BestFirst ts
    → (a b : Item ℕ)
    → IsMember a (firsts seen ts)
    → IsMember b ts
    → b.state ≡ a.state
    → beats b.stack a.stack ≡ false
firsts-unbeaten seen [] order a b ma mb e = absurd mb
firsts-unbeaten seen (t ∷ ts) order a b ma mb e =
    by_test (cases_Bool (seen t.state)) mb (firsts-unbeaten seen ts order.1 a b)
    (firsts-unbeaten (with_one t.state seen) ts order.1 a b)
  where
    first : seen t.state ≡ false
        → (a ≡ t) ⊎ IsMember a (firsts (with_one t.state seen) ts)
        → (b ≡ t) ⊎ IsMember b ts
        → (IsMember a (firsts (with_one t.state seen) ts) → IsMember b ts → b.state ≡ a.state → beats b.stack a.stack
        ≡ false)
        → beats b.stack a.stack ≡ false
    first f (inl same) (inl is) more =
        subst (λ (v : Item ℕ). beats b.stack v.stack ≡ false) (is ∙ sym same) (beats_irreflexive b.stack)
    first f (inl same) (inr i) more = subst (λ (v : Item ℕ). beats b.stack v.stack ≡ false) (sym same) (order.0 b i)
    first f (inr j) (inl is) more =
        let other = (with_one-false t.state seen a.state (firsts-from (with_one t.state seen) ts a j).1).0 in
        absurd (other (sym (ap state_of is) ∙ e))
    first f (inr j) (inr i) more = more j i e

    by_test : (seen t.state ≡ true) ⊎ (seen t.state ≡ false)
        → (b ≡ t) ⊎ IsMember b ts
        → (IsMember a (firsts seen ts) → IsMember b ts → b.state ≡ a.state → beats b.stack a.stack ≡ false)
        → (IsMember a (firsts (with_one t.state seen) ts) → IsMember b ts → b.state ≡ a.state → beats b.stack a.stack
        ≡ false)
        → beats b.stack a.stack ≡ false
    by_test (inl p) (inl is) rest more =
        let out = (firsts-from seen ts a (subst (IsMember a) (firsts-seen seen t ts p) ma)).1 in
        let passes : seen a.state ≡ true = subst (λ v. seen v ≡ true) (sym (ap state_of is) ∙ e) p in
        absurd (cc)
    by_test (inl p) (inr i) rest more = rest (subst (IsMember a) (firsts-seen seen t ts p) ma) i e
    by_test (inr f) is rest more = first f (subst (IsMember a) (firsts-new seen t ts f) ma) is more

-- of items in the order of offers the first ones are taken
pub firsts_taken : (ts : List (Item ℕ))
    → BestFirst ts
    → (a : Item ℕ)
    → IsMember a (firsts nobody ts)
    → IsMember a (taken ts)
firsts_taken ts order a m =
    let here = (firsts-from nobody ts a m).0 in
    let t = taken_by ts a here in
    let stacks : t.item.stack ≡ a.stack =
    beats_antisymmetric t.item.stack a.stack
    (firsts-unbeaten nobody ts order a t.item m (taken-offer ts t.item t.member) t.state_is) t.unbeaten in
    let same : t.item ≡ a = λ i. record { state = t.state_is i; stack = stacks i } in
    subst (λ v. IsMember v (taken ts)) same t.member

-- and what is taken is a first one
pub taken_firsts : (ts : List (Item ℕ))
    → BestFirst ts
    → (t : Item ℕ)
    → IsMember t (taken ts)
    → IsMember t (firsts nobody ts)
taken_firsts ts order t m =
    let f = firsts-has nobody ts t (taken-offer ts t m) refl in
    let same = one_item (taken ts) (taken-ascends ts) f.item t (firsts_taken ts order f.item f.member) m f.state_is in
    subst (λ v. IsMember v (firsts nobody ts)) same f.member
