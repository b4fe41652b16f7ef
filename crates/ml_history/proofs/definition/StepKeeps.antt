-- A step leads from a history to a history.
--
--   start-is        == the start is a history
--   taken_agree     == two taken stacks that share a name agree up to it
--   step_is_history == what a step makes of a history is one
--   after_is        == so is what the steps along a word make of it
use Rattle.std.proofs.Common.{ℕ, ◌≡◌, ◌≢◌, ◌+◌, ◌<◌, ◌≤◌, ◌⊎◌, inl, inr, arith, Bool, true, false, not, eqb, List, [], ◌∷◌, ◌++◌, map, refl, sym, subst, ap, ◌∙◌}
use Rattle.std.proofs.lemmas.Bool.{cases_Bool, cases_lt, and_cases, not-false, or_cases, eqb-true, eq-eqb}
use Rattle.ml_lists.specs.Ascending.{IsAscending}
use Rattle.ml_lists.specs.Counting.{count}
use Rattle.ml_lists.specs.Member.{IsMember}
use Rattle.ml_lists.proofs.Member.{Image}
use Rattle.ml_lists.proofs.Ranks.{count_passes, count_same, count_hit}
use Rattle.ml_trace.specs.declared.letters.Transition.{Transition}
use Rattle.ml_trace.specs.Stack.{Item, has, ends_in}
use Rattle.ml_trace.proofs.Stacks.{ends-has, has-member, member-has, ends-map}
use Rattle.ml_history.specs.History.{IsHistory, up_to}
use Rattle.ml_history.specs.HistoryStep.{start}
use Rattle.ml_history.specs.HistoryStep.{live, last_name, offers, taken_along, stands, is_last, is_full, cut, survives, through, stepped}
use Rattle.ml_history.specs.HistoryRuns.{after}
use Rattle.ml_history.proofs.definition.CutStacks.{through-stops, through-goes, through-has, through-keeps_end, through-whole, through-not_empty, through-ascending, through-up_to}
use Rattle.ml_history.proofs.definition.NamesInUse.{Ending, StandsFrom, stands-in, is_last-from, live-has, live-witness}
use Rattle.ml_history.proofs.definition.Offers.{Offer}
use Rattle.ml_history.proofs.definition.OfferedStacks.{offered-has, offered-not_empty, offered-up_to, offered-accepting, last_name-ends, up_to-end}
use Rattle.ml_history.proofs.definition.OneStep.{Behind, behind, behind_in, InCut, survives_in, cut_survives, taken_from, renumbered_name}
use Rattle.ml_history.proofs.definition.RenumberedStacks.{KeepsOrder, renumber-ascends, renumber-not_empty, renumber-up_to}
use Rattle.ml_history.proofs.definition.StepNames.{taken_ascends}
use Rattle.ml_history.proofs.definition.TakenOffers.{taken-ascends}

-- ---- the start

-- the start is a history
pub start-is : (q : ℕ) → IsHistory (start q)
start-is q = record {
  states_ascend = ((λ y m. absurd m), tt);
  not_empty = λ a m e. full a m e;
  stacks_ascend = λ a m. single a m;
  agree = λ a b y ma mb na nb. same a b y ma mb;
  each_ends = λ y low. (record { state = q; stack = 0 ∷ [] }, inl refl, let e : 0 ≡ y = omega arith in eq-eqb 0 y e);
}
  where
    full : (a : Item ℕ) → IsMember a (start q) → a.stack ≢ []
    full a (inl is) e = let wrong = sym (ap (λ (v : Item ℕ). v.stack) is) ∙ e in cc
    full a (inr none) e = absurd none

    single : (a : Item ℕ) → IsMember a (start q) → IsAscending a.stack
    single a (inl is) = subst IsAscending (sym (ap (λ (v : Item ℕ). v.stack) is)) ((λ y m. absurd m), tt)
    single a (inr none) = absurd none

    same : (a b : Item ℕ) (y : ℕ) → IsMember a (start q) → IsMember b (start q) → up_to y a.stack ≡ up_to y b.stack
    same a b y (inl ia) (inl ib) = ap (λ (v : Item ℕ). up_to y v.stack) (ia ∙ sym ib)
    same a b y (inr none) mb = absurd none
    same a b y (inl ia) (inr none) = absurd none

-- ---- what the targets take

module _ (h : List (Item ℕ)) (letter : List Transition) (history : IsHistory h) where
  -- a taken stack is not empty
  taken_not_empty : (b : Item ℕ) → IsMember b (taken_along h letter) → b.stack ≢ []
  taken_not_empty b m e =
      let o = taken_from h letter b m in
      offered-not_empty (live h) o.accepting o.source.stack (history.not_empty o.source o.member) (sym o.stack_is ∙ e)

  -- two stacks of the history with one last name are one
  same_last : (a b : Item ℕ) → IsMember a h → IsMember b h → last_name a.stack ≡ last_name b.stack → a.stack ≡ b.stack
  same_last a b ma mb same =
      let ea = last_name-ends a.stack (history.not_empty a ma) in
      let eb : ends_in (last_name a.stack) b.stack ≡ true =
      subst (λ v. ends_in v b.stack ≡ true) (sym same) (last_name-ends b.stack (history.not_empty b mb)) in
      sym (up_to-end (last_name a.stack) a.stack (history.stacks_ascend a ma) ea)
      ∙ history.agree a b (last_name a.stack) ma mb (ends-has (last_name a.stack) a.stack ea)
      (ends-has (last_name a.stack) b.stack eb)
      ∙ up_to-end (last_name a.stack) b.stack (history.stacks_ascend b mb) eb

  -- two taken stacks that share a name agree up to it
  pub taken_agree : (a b : Item ℕ) (y : ℕ)
      → IsMember a (taken_along h letter)
      → IsMember b (taken_along h letter)
      → has y a.stack ≡ true
      → has y b.stack ≡ true
      → up_to y a.stack ≡ up_to y b.stack
  taken_agree a b y ma mb na nb =
      let oa = taken_from h letter a ma in
      let ob = taken_from h letter b mb in
      by_names oa ob
      (offered-has (live h) oa.accepting oa.source.stack y (subst (λ s. has y s ≡ true) oa.stack_is na))
      (offered-has (live h) ob.accepting ob.source.stack y (subst (λ s. has y s ≡ true) ob.stack_is nb))
    where
      by_names : (oa : Offer h letter a) (ob : Offer h letter b)
          → (has y oa.source.stack ≡ true) ⊎ ((oa.accepting ≡ true) × (y ≡ live h + last_name oa.source.stack))
          → (has y ob.source.stack ≡ true) ⊎ ((ob.accepting ≡ true) × (y ≡ live h + last_name ob.source.stack))
          → up_to y a.stack ≡ up_to y b.stack
      by_names oa ob (inl ha) (inl hb) =
          ap (up_to y) oa.stack_is
          ∙ offered-up_to (live h) oa.accepting oa.source.stack y ha
          ∙ history.agree oa.source ob.source y oa.member ob.member ha hb
          ∙ sym (offered-up_to (live h) ob.accepting ob.source.stack y hb)
          ∙ ap (up_to y) (sym ob.stack_is)
      by_names oa ob (inl ha) (inr new) = absurd (omega (arith, live-has h y oa.source oa.member ha, new.1))
      by_names oa ob (inr new) (inl hb) = absurd (omega (arith, live-has h y ob.source ob.member hb, new.1))
      by_names oa ob (inr na') (inr nb') =
          let lasts : last_name oa.source.stack ≡ last_name ob.source.stack = omega (arith, na'.1, nb'.1) in
          let sources = same_last oa.source ob.source oa.member ob.member lasts in
          ap (up_to y) oa.stack_is
          ∙ ap (up_to y) (offered-accepting (live h) oa.accepting oa.source.stack na'.0)
          ∙ ap (λ s. up_to y (s ++ (live h + last_name s) ∷ [])) sources
          ∙ ap (up_to y) (sym (offered-accepting (live h) ob.accepting ob.source.stack nb'.0))
          ∙ ap (up_to y) (sym ob.stack_is)

-- ---- behind the step

-- the states of items that keep their states
states_kept : (f : Item ℕ → Item ℕ) (xs : List (Item ℕ))
    → ((a : Item ℕ) → (f a).state ≡ a.state)
    → map (λ (a : Item ℕ). a.state) (map f xs) ≡ map (λ (a : Item ℕ). a.state) xs
states_kept f [] each = refl
states_kept f (x ∷ xs) each =
    ap (λ q. q ∷ map (λ (a : Item ℕ). a.state) (map f xs)) (each x) ∙ ap (λ qs. x.state ∷ qs) (states_kept f xs each)

-- new numbers keep the order of the names of a cut stack
cut_keeps_order : (t : List (Item ℕ)) (b : Item ℕ)
    → IsMember b t
    → KeepsOrder (count (survives t)) (through (is_full t) b.stack)
cut_keeps_order t b m y z my mz low =
    count_passes (survives t) y z low (cut_survives t b y m (member-has y (through (is_full t) b.stack) my))

-- a name before one that stands in a cut stack, and is not full, is not full either
not_full_before : (test : ℕ → Bool) (z v : ℕ) (s : List ℕ)
    → has z (through test s) ≡ true
    → test z ≡ false
    → has v (up_to z s) ≡ true
    → test v ≡ false
not_full_before test z v [] h fails i = absurd (cc)
not_full_before test z v (x ∷ xs) h fails i =
    by_test (cases_Bool (eqb x z)) (cases_Bool (test x)) (not_full_before test z v xs)
  where
    is_first : (eqb x v ≡ true) ⊎ (false ≡ true) → eqb x z ≡ true → test v ≡ false
    is_first (inl here) same = subst (λ w. test w ≡ false) (sym (eqb-true x z same) ∙ eqb-true x v here) fails
    is_first (inr wrong) same = absurd (cc)

    only : (eqb x z ≡ true) ⊎ (false ≡ true) → eqb x z ≡ false → ⊥
    only (inl here) other = cc
    only (inr wrong) other = cc

    further : eqb x z ≡ false → (eqb x z ≡ true) ⊎ (has z (through test xs) ≡ true) → has z (through test xs) ≡ true
    further g (inl here) = absurd (cc)
    further g (inr l) = l

    later : test x ≡ false
        → has z (through test xs) ≡ true
        → (has z (through test xs) ≡ true → test z ≡ false → has v (up_to z xs) ≡ true → test v ≡ false)
        → (eqb x v ≡ true) ⊎ (has v (up_to z xs) ≡ true)
        → test v ≡ false
    later f l rest (inl here) = subst (λ w. test w ≡ false) (eqb-true x v here) f
    later f l rest (inr j) = rest l fails j

    by_test : (eqb x z ≡ true) ⊎ (eqb x z ≡ false)
        → (test x ≡ true) ⊎ (test x ≡ false)
        → (has z (through test xs) ≡ true → test z ≡ false → has v (up_to z xs) ≡ true → test v ≡ false)
        → test v ≡ false
    by_test (inl same) t rest = is_first
        (or_cases (eqb x v) false (subst (λ w. has v w ≡ true) (through-stops (λ w. eqb w z) x xs same) i)) same
    by_test (inr other) (inl t) rest =
        absurd (only (or_cases (eqb x z) false (subst (λ w. has z w ≡ true) (through-stops test x xs t) h)) other)
    by_test (inr other) (inr f) rest =
        later f
        (further other (or_cases (eqb x z) (has z (through test xs))
        (subst (λ w. has z w ≡ true) (through-goes test x xs f) h))) rest
        (or_cases (eqb x v) (has v (up_to z xs))
        (subst (λ w. has v w ≡ true) (through-goes (λ w. eqb w z) x xs other) i))

module _ (h : List (Item ℕ)) (letter : List Transition) (history : IsHistory h) where
  behind_ascends : (a : Item ℕ) → IsMember a (stepped h letter) → IsAscending a.stack
  behind_ascends a m =
      let b = behind (taken_along h letter) a m in
      subst IsAscending (sym b.stack_is)
      (renumber-ascends (count (survives (taken_along h letter)))
      (through (is_full (taken_along h letter)) b.item.stack)
      (through-ascending (is_full (taken_along h letter)) b.item.stack (taken_ascends h letter b.item history b.member))
      (cut_keeps_order (taken_along h letter) b.item b.member))

  behind_not_empty : (a : Item ℕ) → IsMember a (stepped h letter) → a.stack ≢ []
  behind_not_empty a m e =
      let b = behind (taken_along h letter) a m in
      renumber-not_empty (count (survives (taken_along h letter)))
      (through (is_full (taken_along h letter)) b.item.stack)
      (through-not_empty (is_full (taken_along h letter)) b.item.stack
      (taken_not_empty h letter history b.item b.member)) (sym b.stack_is ∙ e)

  -- a renumbered cut stack up to the number of a name of it
  up_to_behind : (a : Item ℕ) (b : Behind (taken_along h letter) a) (z y : ℕ)
      → has z (through (is_full (taken_along h letter)) b.item.stack) ≡ true
      → y ≡ count (survives (taken_along h letter)) z
      → up_to y a.stack ≡ map (count (survives (taken_along h letter))) (up_to z b.item.stack)
  up_to_behind a b z y named number =
      ap (up_to y) b.stack_is
      ∙ ap (λ v. up_to v (map (count (survives (taken_along h letter)))
      (through (is_full (taken_along h letter)) b.item.stack))) number
      ∙ renumber-up_to (count (survives (taken_along h letter))) z
      (through (is_full (taken_along h letter)) b.item.stack)
      (cut_keeps_order (taken_along h letter) b.item b.member)
      (has-member z (through (is_full (taken_along h letter)) b.item.stack) named)
      ∙ ap (map (count (survives (taken_along h letter))))
      (through-up_to (is_full (taken_along h letter)) z b.item.stack named)

  behind_agree : (a c : Item ℕ) (y : ℕ)
      → IsMember a (stepped h letter)
      → IsMember c (stepped h letter)
      → has y a.stack ≡ true
      → has y c.stack ≡ true
      → up_to y a.stack ≡ up_to y c.stack
  behind_agree a c y ma mc na nc =
      let ba = behind (taken_along h letter) a ma in
      let bc = behind (taken_along h letter) c mc in
      from_names ba bc
      (renumbered_name (count (survives (taken_along h letter))) y
      (through (is_full (taken_along h letter)) ba.item.stack) (subst (λ v. has y v ≡ true) ba.stack_is na))
      (renumbered_name (count (survives (taken_along h letter))) y
      (through (is_full (taken_along h letter)) bc.item.stack) (subst (λ v. has y v ≡ true) bc.stack_is nc))
    where
      from_names : (ba : Behind (taken_along h letter) a) (bc : Behind (taken_along h letter) c)
          → Image (count (survives (taken_along h letter))) y (through (is_full (taken_along h letter)) ba.item.stack)
          → Image (count (survives (taken_along h letter))) y (through (is_full (taken_along h letter)) bc.item.stack)
          → up_to y a.stack ≡ up_to y c.stack
      from_names ba bc i j =
          let ni = member-has i.from (through (is_full (taken_along h letter)) ba.item.stack) i.member in
          let nj = member-has j.from (through (is_full (taken_along h letter)) bc.item.stack) j.member in
          let same : i.from ≡ j.from = count_same (survives (taken_along h letter)) i.from j.from
          (cut_survives (taken_along h letter) ba.item i.from ba.member ni)
          (cut_survives (taken_along h letter) bc.item j.from bc.member nj) (sym i.holds ∙ j.holds) in
          let nc' : has i.from (through (is_full (taken_along h letter)) bc.item.stack) ≡ true =
          subst (λ v. has v (through (is_full (taken_along h letter)) bc.item.stack) ≡ true) (sym same) nj in
          up_to_behind a ba i.from y ni i.holds
          ∙ ap (map (count (survives (taken_along h letter))))
          (taken_agree h letter history ba.item bc.item i.from ba.member bc.member
          (through-has (is_full (taken_along h letter)) i.from ba.item.stack ni)
          (through-has (is_full (taken_along h letter)) i.from bc.item.stack nc'))
          ∙ sym (up_to_behind c bc i.from y nc' i.holds)

  -- each name that survives ends a cut stack
  survivor_ends : (z : ℕ)
      → InCut (taken_along h letter) z
      → (b : Item ℕ) × IsMember b (taken_along h letter)
      × (ends_in z (through (is_full (taken_along h letter)) b.stack) ≡ true)
  survivor_ends z c = by_test (cases_Bool (is_full (taken_along h letter) z))
    where
      whole : (e : Ending (taken_along h letter) z)
          → is_full (taken_along h letter) z ≡ false
          → through (is_full (taken_along h letter)) e.item.stack ≡ e.item.stack
      whole e other =
          let up = taken_agree h letter history c.item e.item z c.member e.member
          (through-has (is_full (taken_along h letter)) z c.item.stack c.named) (ends-has z e.item.stack e.ends) in
          let is : up_to z c.item.stack ≡ e.item.stack = up
          ∙ up_to-end z e.item.stack (taken_ascends h letter e.item history e.member) e.ends in
          through-whole (is_full (taken_along h letter)) e.item.stack
          (λ v n. not_full_before (is_full (taken_along h letter)) z v c.item.stack c.named other
          (subst (λ w. has v w ≡ true) (sym is) n))

      from_ending : Ending (taken_along h letter) z
          → is_full (taken_along h letter) z ≡ false
          → (b : Item ℕ) × IsMember b (taken_along h letter)
          × (ends_in z (through (is_full (taken_along h letter)) b.stack) ≡ true)
      from_ending e other = (e.item, e.member, subst (λ v. ends_in z v ≡ true) (sym (whole e other)) e.ends)

      not_full : is_full (taken_along h letter) z ≡ false
          → (stands (taken_along h letter) z ≡ false) ⊎ (not (is_last (taken_along h letter) z) ≡ false)
          → (b : Item ℕ) × IsMember b (taken_along h letter)
          × (ends_in z (through (is_full (taken_along h letter)) b.stack) ≡ true)
      not_full other (inl gone) =
          let here = stands-in (taken_along h letter) z c.item c.member
          (through-has (is_full (taken_along h letter)) z c.item.stack c.named) in
          absurd (cc)
      not_full other (inr last) = from_ending (is_last-from (taken_along h letter) z
          (not-false (is_last (taken_along h letter) z) last)) other

      by_test : (is_full (taken_along h letter) z ≡ true) ⊎ (is_full (taken_along h letter) z ≡ false)
          → (b : Item ℕ) × IsMember b (taken_along h letter)
          × (ends_in z (through (is_full (taken_along h letter)) b.stack) ≡ true)
      by_test (inl full) = (
        c.item,
        c.member,
        through-keeps_end (is_full (taken_along h letter)) z c.item.stack c.named full,
      )
      by_test (inr other) = not_full other (and_cases (stands (taken_along h letter) z)
          (not (is_last (taken_along h letter) z)) other)

  -- a name that survives, with its number behind the step
  record Numbered (y : ℕ) : Type 0 where
    name : ℕ
    alive : survives (taken_along h letter) name ≡ true
    number : count (survives (taken_along h letter)) name ≡ y

  -- each name in use behind the step is the number of a name that survives
  numbered : (y : ℕ) → y < live (stepped h letter) → Numbered y
  numbered y low = from_item (live-witness (stepped h letter) y low)
    where
      by_place : (z : ℕ)
          → survives (taken_along h letter) z ≡ true
          → y ≤ count (survives (taken_along h letter)) z
          → (y < count (survives (taken_along h letter)) z) ⊎ (count (survives (taken_along h letter)) z ≤ y)
          → Numbered y
      by_place z alive le (inl early) =
          let r = count_hit (survives (taken_along h letter)) z y early in
          record { name = r.number; alive = r.passes; number = r.rank }
      by_place z alive le (inr late) = record { name = z; alive = alive; number = omega arith }

      from_name : (s : StandsFrom (stepped h letter) y) (b : Behind (taken_along h letter) s.item)
          → Image (count (survives (taken_along h letter))) s.name
          (through (is_full (taken_along h letter)) b.item.stack)
          → Numbered y
      from_name s b i =
          let alive = cut_survives (taken_along h letter) b.item i.from b.member
          (member-has i.from (through (is_full (taken_along h letter)) b.item.stack) i.member) in
          let le : y ≤ count (survives (taken_along h letter)) i.from = omega (arith, s.high, i.holds) in
          by_place i.from alive le (cases_lt y (count (survives (taken_along h letter)) i.from))

      from_item : StandsFrom (stepped h letter) y → Numbered y
      from_item s =
          let b = behind (taken_along h letter) s.item s.member in
          from_name s b (renumbered_name (count (survives (taken_along h letter))) s.name
          (through (is_full (taken_along h letter)) b.item.stack)
          (subst (λ v. has s.name v ≡ true) b.stack_is s.named))

  -- each name in use behind the step ends a stack
  behind_ends : (y : ℕ)
      → y < live (stepped h letter)
      → (a : Item ℕ) × IsMember a (stepped h letter) × (ends_in y a.stack ≡ true)
  behind_ends y low =
      let n = numbered y low in
      let e = survivor_ends n.name (survives_in (taken_along h letter) n.name n.alive) in
      let last = ends-map (count (survives (taken_along h letter))) n.name
      (through (is_full (taken_along h letter)) e.0.stack) e.2 in (
        record {
          state = e.0.state;
          stack = map (count (survives (taken_along h letter)))
              (through (is_full (taken_along h letter)) e.0.stack);
        },
        behind_in (taken_along h letter) e.0 e.1,
        subst (λ v. ends_in v (map (count (survives (taken_along h letter)))
            (through (is_full (taken_along h letter)) e.0.stack)) ≡ true) n.number last,
      )

  -- what a step makes of a history is a history
  pub step_is_history : IsHistory (stepped h letter)
  step_is_history = record {
    states_ascend =
        subst IsAscending
        (sym (states_kept
        (λ (a : Item ℕ). record { state = a.state; stack = map (count (survives (taken_along h letter))) a.stack })
        (cut (taken_along h letter)) (λ a. refl)
        ∙ states_kept
        (λ (a : Item ℕ). record { state = a.state; stack = through (is_full (taken_along h letter)) a.stack })
        (taken_along h letter) (λ a. refl)))
        (taken-ascends (offers h letter));
    not_empty = behind_not_empty;
    stacks_ascend = behind_ascends;
    agree = behind_agree;
    each_ends = behind_ends;
  }

-- what the steps along a word make of a history is a history
pub after_is : (h : List (Item ℕ)) (w : List (List Transition)) → IsHistory h → IsHistory (after h w)
after_is h [] history = history
after_is h (l ∷ w) history = after_is (stepped h l) w (step_is_history h l history)
