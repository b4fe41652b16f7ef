-- One step of a history: where items behind it come from.
--
-- A name is kept by the step where it and all names below it survive: it has the same number before and behind. Below,
-- t stands for what the targets take.
--
--   Kept t y            == y and all names below it survive
--   taken_from          == each item that was taken is an offer
--   full_below          == full names are in use before the step
--   Behind t a          == an item behind the step: a taken stack, cut and renumbered
--   behind              == each item behind the step is such a one
--   behind_name         == a name behind the step that is kept stands in the cut stack
--   behind_end          == if it is not the last name behind the step, it is not that of the cut stack
--   below_bound         == names below the bound of the step's mark are kept
--   green_kept          == a green name is kept, and is in use before the step
--   stands_behind       == a name that is kept stands behind the step
use Rattle.std.proofs.Common.{ℕ, ◌≡◌, ◌+◌, ◌*◌, ◌<◌, ◌≤◌, ◌⊎◌, inl, inr, arith, true, false, not, ltb, List, [], ◌∷◌, ◌++◌, map, refl, sym, subst, ap, ◌∙◌}
use Rattle.std.proofs.lemmas.Bool.{cases_Bool, cases_eq, and_parts, and_cases, not-true, not-false, lt-ltb, ltb-true}
use Rattle.ml_lists.specs.Member.{IsMember}
use Rattle.ml_lists.proofs.Member.{Image, member-map, member-map_from}
use Rattle.ml_lists.proofs.Ranks.{count_all, count_same}
use Rattle.ml_lists.specs.Counting.{count}
use Rattle.ml_trace.specs.declared.letters.Transition.{Transition}
use Rattle.ml_trace.specs.declared.marks.Mark.{Mark}
use Rattle.ml_trace.specs.declared.marks.Mark.TheVariants.{Red, Green, Neutral}
use Rattle.ml_trace.specs.NamesCondition.{bound}
use Rattle.ml_trace.specs.Stack.{Item, has, ends_in}
use Rattle.ml_trace.proofs.Stacks.{has-member, member-has, ends-map}
use Rattle.ml_history.specs.HistoryStep.{live, offers, last_name, taken_along, stands, is_last, is_full, cut, survives, is_red, is_green, through, new_number, renumbered, step_mark}
use Rattle.ml_history.proofs.definition.NamesInUse.{Standing, stands-from, stands-in, is_last-in, live-has}
use Rattle.ml_history.proofs.definition.Offers.{Offer, offer_from}
use Rattle.ml_history.proofs.definition.OfferedStacks.{offered-has, offered-accepting, ends-append}
use Rattle.ml_history.proofs.definition.StepMark.{mark_of-red, mark_of-green, mark_of-neutral}
use Rattle.ml_history.proofs.definition.TakenOffers.{taken-offer}

-- y and all names below it survive
abbrev pub Kept : List (Item ℕ) → ℕ → Type 0
Kept t y = (k : ℕ) → k ≤ y → survives t k ≡ true

-- each item that was taken is an offer: the stack of a source along a transition
pub taken_from : (h : List (Item ℕ)) (letter : List Transition) (b : Item ℕ)
    → IsMember b (taken_along h letter)
    → Offer h letter b
taken_from h letter b m = offer_from h letter b (taken-offer (offers h letter) b m)

-- full names are in use before the step
pub full_below : (h : List (Item ℕ)) (letter : List Transition) (y : ℕ)
    → is_full (taken_along h letter) y ≡ true
    → y < live h
full_below h letter y full = from_stack (stands-from (taken_along h letter) y parts.0)
  where
    parts : (stands (taken_along h letter) y ≡ true) × (not (is_last (taken_along h letter) y) ≡ true)
    parts = and_parts (stands (taken_along h letter) y) (not (is_last (taken_along h letter) y)) full

    by_name : (s : Standing (taken_along h letter) y) (o : Offer h letter s.item)
        → (has y o.source.stack ≡ true) ⊎ ((o.accepting ≡ true) × (y ≡ live h + last_name o.source.stack))
        → y < live h
    by_name s o (inl old) = live-has h y o.source o.member old
    by_name s o (inr new) =
        let stack_is : s.item.stack ≡ o.source.stack ++ (live h + last_name o.source.stack) ∷ [] = o.stack_is
        ∙ offered-accepting (live h) o.accepting o.source.stack new.0 in
        let ends : ends_in y s.item.stack ≡ true =
        subst (λ v. ends_in y v ≡ true) (sym stack_is)
        (subst (λ v. ends_in v (o.source.stack ++ (live h + last_name o.source.stack) ∷ []) ≡ true) (sym new.1)
        (ends-append (live h + last_name o.source.stack) o.source.stack))
        in
        let last = is_last-in (taken_along h letter) y s.item s.member ends in
        let none = not-true (is_last (taken_along h letter) y) parts.1 in
        absurd (cc)

    from_stack : Standing (taken_along h letter) y → y < live h
    from_stack s =
        let o = taken_from h letter s.item s.member in
        by_name s o (offered-has (live h) o.accepting o.source.stack y (subst (λ v. has y v ≡ true) o.stack_is s.named))

-- a full name ends no stack that was taken
pub full_ends_none : (t : List (Item ℕ)) (y : ℕ) (b : Item ℕ)
    → is_full t y ≡ true
    → IsMember b t
    → ends_in y b.stack ≡ false
full_ends_none t y b full m = by_test (cases_Bool (ends_in y b.stack))
  where
    by_test : (ends_in y b.stack ≡ true) ⊎ (ends_in y b.stack ≡ false) → ends_in y b.stack ≡ false
    by_test (inl ends) =
        let last = is_last-in t y b m ends in
        let none = not-true (is_last t y) (and_parts (stands t y) (not (is_last t y)) full).1 in
        absurd (cc)
    by_test (inr done) = done

-- an item behind the step: a taken stack, cut and renumbered
pub record Behind (t : List (Item ℕ)) (a : Item ℕ) : Type 0 where
  pub item : Item ℕ
  pub member : IsMember item t
  pub state_is : a.state ≡ item.state
  pub stack_is : a.stack ≡ map (count (survives t)) (through (is_full t) item.stack)

-- each item behind the step is such a one
pub behind : (t : List (Item ℕ)) (a : Item ℕ) → IsMember a (renumbered (cut t)) → Behind t a
behind t a m = outer
    (member-map_from (λ (b : Item ℕ). record { state = b.state; stack = map (new_number (cut t)) b.stack }) a (cut t) m)
  where
    inner : (b : Item ℕ) → a ≡ record { state = b.state; stack = map (new_number (cut t)) b.stack }
        → Image (λ (c : Item ℕ). record { state = c.state; stack = through (is_full t) c.stack }) b t → Behind t a
    inner b is i = record {
      item = i.from;
      member = i.member;
      state_is = ap (λ (v : Item ℕ). v.state) is ∙ ap (λ (v : Item ℕ). v.state) i.holds;
      stack_is = ap (λ (v : Item ℕ). v.stack) is ∙ ap (λ (v : Item ℕ). map (new_number (cut t)) v.stack) i.holds;
    }

    outer : Image (λ (b : Item ℕ). record { state = b.state; stack = map (new_number (cut t)) b.stack }) a (cut t)
        → Behind t a
    outer i = inner i.from i.holds
        (member-map_from (λ (c : Item ℕ). record { state = c.state; stack = through (is_full t) c.stack }) i.from t
        i.member)

-- a stack that was cut is one of the cut stacks
pub cut_in : (t : List (Item ℕ)) (b : Item ℕ) → IsMember b t
    → IsMember (record { state = b.state; stack = through (is_full t) b.stack }) (cut t)
cut_in t b m = member-map (λ (c : Item ℕ). record { state = c.state; stack = through (is_full t) c.stack }) b t m

-- and, renumbered, stands behind the step
pub behind_in : (t : List (Item ℕ)) (b : Item ℕ) → IsMember b t
    → IsMember (record { state = b.state; stack = map (count (survives t)) (through (is_full t) b.stack) })
    (renumbered (cut t))
behind_in t b m = member-map (λ (c : Item ℕ). record { state = c.state; stack = map (new_number (cut t)) c.stack })
    (record { state = b.state; stack = through (is_full t) b.stack }) (cut t) (cut_in t b m)

-- a name of a cut stack survives
pub cut_survives : (t : List (Item ℕ)) (b : Item ℕ) (z : ℕ)
    → IsMember b t
    → has z (through (is_full t) b.stack) ≡ true
    → survives t z ≡ true
cut_survives t b z m h = stands-in (cut t) z (record { state = b.state; stack = through (is_full t) b.stack })
    (cut_in t b m) h

-- a name that survives stands in a stack that was taken and cut
pub record InCut (t : List (Item ℕ)) (z : ℕ) : Type 0 where
  pub item : Item ℕ
  pub member : IsMember item t
  pub named : has z (through (is_full t) item.stack) ≡ true

-- a name that survives does
pub survives_in : (t : List (Item ℕ)) (z : ℕ) → survives t z ≡ true → InCut t z
survives_in t z s = from_stack (stands-from (cut t) z s)
  where
    inner : (a : Item ℕ) → has z a.stack ≡ true
        → Image (λ (c : Item ℕ). record { state = c.state; stack = through (is_full t) c.stack }) a t → InCut t z
    inner a named i = record {
      item = i.from;
      member = i.member;
      named = subst (λ (v : Item ℕ). has z v.stack ≡ true) i.holds named;
    }

    from_stack : Standing (cut t) z → InCut t z
    from_stack a = inner a.item a.named
        (member-map_from (λ (c : Item ℕ). record { state = c.state; stack = through (is_full t) c.stack }) a.item t
        a.member)

-- a name that is kept keeps its number
pub kept_number : (t : List (Item ℕ)) (y : ℕ) → Kept t y → count (survives t) y ≡ y
kept_number t y kept = count_all (survives t) y (λ k low. kept k (omega arith))

-- a name of a renumbered stack is the new number of a name
pub renumbered_name : (f : ℕ → ℕ) (y : ℕ) (s : List ℕ) → has y (map f s) ≡ true → Image f y s
renumbered_name f y s h = member-map_from f y s (has-member y (map f s) h)

-- a name behind the step that is kept stands in the cut stack
pub behind_name : (t : List (Item ℕ)) (a : Item ℕ) (b : Behind t a) (y : ℕ)
    → Kept t y
    → has y a.stack ≡ true
    → has y (through (is_full t) b.item.stack) ≡ true
behind_name t a b y kept h = from_name (renumbered_name (count (survives t)) y (through (is_full t) b.item.stack)
    (subst (λ v. has y v ≡ true) b.stack_is h))
  where
    from_name : Image (count (survives t)) y (through (is_full t) b.item.stack)
        → has y (through (is_full t) b.item.stack) ≡ true
    from_name i =
        let named : has i.from (through (is_full t) b.item.stack) ≡ true =
        member-has i.from (through (is_full t) b.item.stack) i.member in
        let same : i.from ≡ y = count_same (survives t) i.from y (cut_survives t b.item i.from b.member named)
        (kept y (omega arith)) (sym i.holds ∙ sym (kept_number t y kept)) in
        subst (λ v. has v (through (is_full t) b.item.stack) ≡ true) same named

-- if it is not the last name behind the step, it is not that of the cut stack
pub behind_end : (t : List (Item ℕ)) (a : Item ℕ) (b : Behind t a) (y : ℕ)
    → Kept t y
    → ends_in y a.stack ≡ false
    → ends_in y (through (is_full t) b.item.stack) ≡ false
behind_end t a b y kept not_last = by_test (cases_Bool (ends_in y (through (is_full t) b.item.stack)))
  where
    by_test : (ends_in y (through (is_full t) b.item.stack) ≡ true)
        ⊎ (ends_in y (through (is_full t) b.item.stack) ≡ false)
        → ends_in y (through (is_full t) b.item.stack) ≡ false
    by_test (inl ends) =
        let image = ends-map (count (survives t)) y (through (is_full t) b.item.stack) ends in
        let here : ends_in y (map (count (survives t)) (through (is_full t) b.item.stack)) ≡ true =
        subst (λ v. ends_in v (map (count (survives t)) (through (is_full t) b.item.stack)) ≡ true)
        (kept_number t y kept) image in
        let wrong : ends_in y a.stack ≡ true = subst (λ v. ends_in y v ≡ true) (sym b.stack_is) here in
        absurd (cc)
    by_test (inr done) = done

-- a name that is kept stands behind the step
pub stands_behind : (t : List (Item ℕ)) (y : ℕ) → Kept t y → y < live (renumbered (cut t))
stands_behind t y kept =
    let c = survives_in t y (kept y (omega arith)) in
    let image : IsMember (count (survives t) y) (map (count (survives t)) (through (is_full t) c.item.stack)) =
    member-map (count (survives t)) y (through (is_full t) c.item.stack)
    (has-member y (through (is_full t) c.item.stack) c.named)
    in
    let named = member-has (count (survives t) y) (map (count (survives t)) (through (is_full t) c.item.stack)) image in
    let here : has y (map (count (survives t)) (through (is_full t) c.item.stack)) ≡ true =
    subst (λ v. has v (map (count (survives t)) (through (is_full t) c.item.stack)) ≡ true) (kept_number t y kept)
    named in
    live-has (renumbered (cut t)) y
    (record { state = c.item.state; stack = map (count (survives t)) (through (is_full t) c.item.stack) })
    (behind_in t c.item c.member) here

-- a name below r that is not red survives
pub not_red_survives : (r : ℕ) (t : List (Item ℕ)) (k : ℕ) → k < r → is_red r t k ≡ false → survives t k ≡ true
not_red_survives r t k low f = by_part (and_cases (ltb k r) (not (survives t k)) f)
  where
    by_part : (ltb k r ≡ false) ⊎ (not (survives t k) ≡ false) → survives t k ≡ true
    by_part (inl high) = let t = lt-ltb k r low in absurd (cc)
    by_part (inr alive) = not-false (survives t k) alive

-- a green name is in use before the step, is full, and is kept with all names below it
pub record GreenName (h : List (Item ℕ)) (letter : List Transition) (x : ℕ) : Type 0 where
  pub in_use : x < live h
  pub full : is_full (taken_along h letter) x ≡ true
  pub kept : Kept (taken_along h letter) x

-- the name of a mark Green x is such a one
pub green_kept : (h : List (Item ℕ)) (letter : List Transition) (x : ℕ)
    → step_mark h letter ≡ Green x
    → GreenName h letter x
green_kept h letter x e =
    let says = mark_of-green (is_red (live h) (taken_along h letter)) (is_green (taken_along h letter)) (2 * live h) x
    e in
    let parts = and_parts (is_full (taken_along h letter) x) (survives (taken_along h letter) x) says.0.passes in
    let low = full_below h letter x parts.0 in
    record {
      in_use = low;
      full = parts.0;
      kept = λ k le. by_place parts.1 low says.1 k (cases_eq k x) le;
    }
  where
    by_place : survives (taken_along h letter) x ≡ true
        → x < live h
        → ((k : ℕ) → k < x → is_red (live h) (taken_along h letter) k ≡ false)
        → (k : ℕ)
        → (k ≡ x) ⊎ (k ≡ x → ⊥)
        → k ≤ x
        → survives (taken_along h letter) k ≡ true
    by_place alive low none k (inl same) le = subst (λ v. survives (taken_along h letter) v ≡ true) (sym same) alive
    by_place alive low none k (inr other) le =
        not_red_survives (live h) (taken_along h letter) k (omega arith) (none k (omega arith))

-- the bound of the step's mark is at most the number of names in use before the step
pub bound_in_use : (h : List (Item ℕ)) (letter : List Transition) (m : Mark)
    → step_mark h letter ≡ m
    → bound (live h) m ≤ live h
bound_in_use h letter (Red x) e =
    let says = mark_of-red (is_red (live h) (taken_along h letter)) (is_green (taken_along h letter)) (2 * live h) x
    e in
    let parts = and_parts (ltb x (live h)) (not (survives (taken_along h letter) x)) says.passes in
    omega (arith, ltb-true x (live h) parts.0)
bound_in_use h letter (Green x) e = omega (arith, (green_kept h letter x e).in_use)
bound_in_use h letter Neutral e = omega arith

-- names below the bound of the step's mark survive
pub below_bound_survives : (h : List (Item ℕ)) (letter : List Transition) (m : Mark)
    → step_mark h letter ≡ m
    → (k : ℕ)
    → k < bound (live h) m
    → survives (taken_along h letter) k ≡ true
below_bound_survives h letter (Red x) e k low =
    let says = mark_of-red (is_red (live h) (taken_along h letter)) (is_green (taken_along h letter)) (2 * live h) x
    e in
    let fits = bound_in_use h letter (Red x) e in
    not_red_survives (live h) (taken_along h letter) k (omega arith) (says.first k low)
below_bound_survives h letter (Green x) e k low = (green_kept h letter x e).kept k (omega arith)
below_bound_survives h letter Neutral e k low =
    let says = mark_of-neutral (is_red (live h) (taken_along h letter)) (is_green (taken_along h letter)) (2 * live h)
    e in
    not_red_survives (live h) (taken_along h letter) k low (says.0 k (omega arith))

-- names below the bound of the step's mark are kept
pub below_bound : (h : List (Item ℕ)) (letter : List Transition) (y : ℕ)
    → y < bound (live h) (step_mark h letter)
    → Kept (taken_along h letter) y
below_bound h letter y low k le = below_bound_survives h letter (step_mark h letter) refl k (omega arith)
