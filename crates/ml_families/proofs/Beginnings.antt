-- Histories in which nothing happened yet: each stack has the name 0 alone.
--
--   fresh q          == the state q with this stack
--   AreFresh h       == all items of h are so
--   IsPlainLetter l  == no transition of l is accepting
--   fresh_stepped    == a step along such a letter leads from such a history to the states that are led to, all so
--   fresh_mark       == and its mark is neutral
use Rattle.std.proofs.Common.{◌≡◌, ℕ, ◌*◌, ◌≤◌, Bool, true, false, not, if◌then◌else◌, nat_lt, List, [], ◌∷◌, map, inl, inr, refl, sym, ap, subst, ◌∙◌, arith}
use Rattle.std.specs.Cmp.{first_so, second_so}
use Rattle.std.proofs.lemmas.Bool.{ltb-true}
use Rattle.ml_lists.specs.Ascending.{ascending}
use Rattle.ml_lists.specs.Member.{IsMember}
use Rattle.ml_lists.proofs.Ascending.{ascending_same, ascending-is, ascending-member, member-ascending}
use Rattle.ml_lists.proofs.Member.{member-list_any, member-map, member-map_from}
use Rattle.ml_trace.specs.declared.letters.Transition.{Transition}
use Rattle.ml_trace.specs.declared.marks.Mark.{Mark}
use Rattle.ml_trace.specs.declared.marks.Mark.TheVariants.{Red, Green, Neutral}
use Rattle.ml_trace.specs.Run.{in_letter}
use Rattle.ml_trace.specs.Stack.{Item, has, ends_in}
use Rattle.ml_history.specs.CycleLaws.{HasState, IsLedTo}
use Rattle.ml_history.specs.HistoryStep.{above, cut, is_full, is_green, is_last, is_red, live, new_number, offered, offers, renumbered, stands, step_mark, stepped, survives, taken_along, through}
use Rattle.ml_history.proofs.definition.Offers.{Offer}
use Rattle.ml_history.proofs.definition.OneStep.{full_below, taken_from}
use Rattle.ml_history.proofs.definition.SteppedStates.{steps_follow_letters}
use Rattle.ml_history.proofs.definition.StepMark.{mark_of-green, mark_of-red}
use Rattle.ml_history.proofs.definition.TakenOffers.{taken-ascends}

abbrev pub fresh : ℕ → Item ℕ
fresh q = record { state = q; stack = 0 ∷ [] }

abbrev pub AreFresh : List (Item ℕ) → Type 0
AreFresh h = (a : Item ℕ) → IsMember a h → a.stack ≡ 0 ∷ []

abbrev pub IsPlainLetter : List Transition → Type 0
IsPlainLetter l = (p q : ℕ) → in_letter l p q true → ⊥

map_same : {X : Type 0} (f : X → X) (xs : List X) → ((x : X) → IsMember x xs → f x ≡ x) → map f xs ≡ xs
map_same f [] same = refl
map_same f (x ∷ xs) same = λ i. same x (inl refl) i ∷ map_same f xs (λ y m. same y (inr m)) i

fresh_states : (h : List (Item ℕ)) → AreFresh h → h ≡ map fresh (map (λ (a : Item ℕ). a.state) h)
fresh_states [] all = refl
fresh_states (a ∷ h) all =
    λ i. record { state = a.state; stack = all a (inl refl) i } ∷ fresh_states h (λ b m. all b (inr m)) i

live_low : (h : List (Item ℕ)) → AreFresh h → live h ≤ 1
live_low [] all = omega arith
live_low (a ∷ h) all =
    let first = ap above (all a (inl refl)) in
    let rest = live_low h (λ b m. all b (inr m)) in
    omega (arith, first, rest)

either_way : {X : Type 0} (b : Bool) (x : X) → (if b then x else x) ≡ x
either_way true x = refl
either_way false x = refl

through_zero : (test : ℕ → Bool) → through test (0 ∷ []) ≡ 0 ∷ []
through_zero test = either_way (test 0) (0 ∷ [])

cut_fresh : (t : List (Item ℕ)) → AreFresh t → cut t ≡ t
cut_fresh t all = map_same (λ (a : Item ℕ). record { state = a.state; stack = through (is_full t) a.stack }) t same
  where
    same : (a : Item ℕ) → IsMember a t → record { state = a.state; stack = through (is_full t) a.stack } ≡ a
    same a m =
        let e = ap (through (is_full t)) (all a m) ∙ through_zero (is_full t) ∙ sym (all a m) in
        λ i. record { state = a.state; stack = e i }

renumbered_fresh : (t : List (Item ℕ)) → AreFresh t → renumbered t ≡ t
renumbered_fresh t all = map_same (λ (a : Item ℕ). record { state = a.state; stack = map (new_number t) a.stack }) t same
  where
    same : (a : Item ℕ) → IsMember a t → record { state = a.state; stack = map (new_number t) a.stack } ≡ a
    same a m =
        let e : map (new_number t) a.stack ≡ a.stack = ap (map (new_number t)) (all a m) ∙ sym (all a m) in
        λ i. record { state = a.state; stack = e i }

module _ (h : List (Item ℕ)) (l : List Transition) (all : AreFresh h) (plain : IsPlainLetter l) where
  taken_fresh : AreFresh (taken_along h l)
  taken_fresh a m = by_transition (taken_from h l a m)
    where
      by_test : (source : Item ℕ) (accepting : Bool)
          → IsMember source h
          → in_letter l source.state a.state accepting
          → a.stack ≡ offered (live h) accepting source.stack
          → a.stack ≡ 0 ∷ []
      by_test source true inside transition is = absurd (plain source.state a.state transition)
      by_test source false inside transition is = is ∙ all source inside

      by_transition : Offer h l a → a.stack ≡ 0 ∷ []
      by_transition o = by_test o.source o.accepting o.member o.transition o.stack_is

  stepped_taken : stepped h l ≡ taken_along h l
  stepped_taken = ap renumbered (cut_fresh (taken_along h l) taken_fresh) ∙ renumbered_fresh (taken_along h l) taken_fresh

  led_states : (q : ℕ) → HasState (taken_along h l) q → IsLedTo h l q
  led_states q s = (steps_follow_letters h l q).0 (subst (λ t. HasState t q) (sym stepped_taken) s)

  states_led : (q : ℕ) → IsLedTo h l q → HasState (taken_along h l) q
  states_led q led = subst (λ t. HasState t q) stepped_taken ((steps_follow_letters h l q).1 led)

  -- the states behind the step are those that are led to
  pub fresh_stepped : (qs : List ℕ)
      → ((q : ℕ) → IsMember q qs → IsLedTo h l q)
      → ((q : ℕ) → IsLedTo h l q → IsMember q qs)
      → stepped h l ≡ map fresh (ascending qs)
  fresh_stepped qs to from =
      stepped_taken ∙ fresh_states (taken_along h l) taken_fresh
      ∙ ap (map fresh) (ascending_same (map (λ (a : Item ℕ). a.state) (taken_along h l)) (ascending qs) (taken-ascends (offers h l))
      (ascending-is qs) (λ q m. member-ascending q qs (from q (led q m)))
      (λ q m. back q (states_led q (to q (ascending-member q qs m)))))
    where
      led : (q : ℕ) → IsMember q (map (λ (a : Item ℕ). a.state) (taken_along h l)) → IsLedTo h l q
      led q m =
          let i = member-map_from (λ (a : Item ℕ). a.state) q (taken_along h l) m in
          led_states q (record { item = i.from; member = i.member; state_is = sym i.holds })

      back : (q : ℕ) → HasState (taken_along h l) q → IsMember q (map (λ (a : Item ℕ). a.state) (taken_along h l))
      back q s =
          subst (λ k. IsMember k (map (λ (a : Item ℕ). a.state) (taken_along h l))) s.state_is
          (member-map (λ (a : Item ℕ). a.state) s.item (taken_along h l) s.member)

  module _ (q : ℕ) (led : IsLedTo h l q) where
    found : HasState (taken_along h l) q
    found = states_led q led

    zero_stands : survives (taken_along h l) 0 ≡ true
    zero_stands =
        subst (λ t. stands t 0 ≡ true) (sym (cut_fresh (taken_along h l) taken_fresh))
        (member-list_any (λ (a : Item ℕ). has 0 a.stack) found.item (taken_along h l) found.member
        (ap (has 0) (taken_fresh found.item found.member)))

    zero_last : is_last (taken_along h l) 0 ≡ true
    zero_last =
        member-list_any (λ (a : Item ℕ). ends_in 0 a.stack) found.item (taken_along h l) found.member
        (ap (ends_in 0) (taken_fresh found.item found.member))

    no_red : (x : ℕ) → is_red (live h) (taken_along h l) x ≡ true → ⊥
    no_red x red =
        let below = ltb-true x (live h) (first_so (nat_lt x (live h)) (not (survives (taken_along h l) x)) red) in
        let gone = second_so (nat_lt x (live h)) (not (survives (taken_along h l) x)) red in
        let low = live_low h all in
        let same : x ≡ 0 = omega arith in
        let here = ap (λ y. not (survives (taken_along h l) y)) same in
        let stays = zero_stands in
        cc

    no_green : (x : ℕ) → is_green (taken_along h l) x ≡ true → ⊥
    no_green x green =
        let full = first_so (is_full (taken_along h l) x) (survives (taken_along h l) x) green in
        let below = full_below h l x full in
        let low = live_low h all in
        let same : x ≡ 0 = omega arith in
        let open_end = second_so (stands (taken_along h l) x) (not (is_last (taken_along h l) x)) full in
        let here = ap (λ y. not (is_last (taken_along h l) y)) same in
        let last = zero_last in
        cc

    abbrev red : ℕ → Bool
    red = is_red (live h) (taken_along h l)

    abbrev green : ℕ → Bool
    green = is_green (taken_along h l)

    pub fresh_mark : step_mark h l ≡ Neutral
    fresh_mark = by_mark (step_mark h l) refl
      where
        by_mark : (m : Mark) → step_mark h l ≡ m → step_mark h l ≡ Neutral
        by_mark (Red x) e = absurd (no_red x (mark_of-red red green (2 * live h) x e).passes)
        by_mark (Green x) e = absurd (no_green x (mark_of-green red green (2 * live h) x e).0.passes)
        by_mark Neutral e = e
