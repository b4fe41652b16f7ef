-- The n-th iterate on n states is a fixpoint: an ascending chain of sets gains a member at each step that changes it,
-- and a descending one loses one.
--
--   members s                == how many members the set has
--   same_or_more             == of two sets, one within the other, either both are equal or the outer has more members
--   ascends_to_fixpoint      == the n-th iterate of an ascending chain stays
--   descends_to_fixpoint     == and that of a descending one
--   meaning_fixpoint         == what a positive binder means is a fixpoint of its body
--   least_within             == what mu means lies within each set that its body keeps
--   greatest_around          == what nu means has each set in it that its body keeps
use Rattle.std.proofs.Common.{◌≡◌, ℕ, zero, suc, ◌+◌, ◌<◌, ◌≤◌, ◌⊎◌, true, false, List, [], ◌∷◌, length, inl, inr, refl, sym, ap, ◌∙◌, ⊎_elim, arith}
use Rattle.std.proofs.lemmas.Bool.{cases_lt, true≢false}
use Rattle.ml_lists.specs.Iterate.{iterate}
use Rattle.ml_lists.proofs.Iterates.{iterate_stays}
use Rattle.ml_base.specs.Structure.{Structure, StateSet}
use Rattle.ml_mu.specs.Meaning.{HaveFlags}
use Rattle.ml_mu.specs.Formula.{Formula, Binder, Fixpoint, Least, Greatest}
use Rattle.ml_mu.specs.Meaning.{Given, first_iterate, meaning}
use Rattle.ml_mu.specs.Variables.{is_positive}
use Rattle.ml_mu.proofs.Inclusion.{Within, nowhere_within, within_everywhere}
use Rattle.ml_mu.proofs.Monotone.{Ordered, body_grows, least_ascends, greatest_descends}

abbrev pub members : StateSet → ℕ
members [] = 0
members (true ∷ s) = suc (members s)
members (false ∷ s) = members s

members_most : (s : StateSet) → members s ≤ length s
members_most [] = omega arith
members_most (true ∷ s) = let most = members_most s in omega arith
members_most (false ∷ s) = let most = members_most s in omega arith

members_grow : (s t : StateSet) → length s ≡ length t → Within s t → members s ≤ members t
members_grow [] t long within = omega arith
members_grow (a ∷ s) [] long within = absurd (omega arith)
members_grow (true ∷ s) (true ∷ t) long within = let more = members_grow s t (omega arith) (λ k. within (suc k)) in omega arith
members_grow (true ∷ s) (false ∷ t) long within = absurd (true≢false (sym (within 0 refl)))
members_grow (false ∷ s) (true ∷ t) long within = let more = members_grow s t (omega arith) (λ k. within (suc k)) in omega arith
members_grow (false ∷ s) (false ∷ t) long within = members_grow s t (omega arith) (λ k. within (suc k))

same_by_members : (s t : StateSet) → length s ≡ length t → Within s t → members t ≤ members s → s ≡ t
same_by_members [] [] long within few = refl
same_by_members [] (b ∷ t) long within few = absurd (omega arith)
same_by_members (a ∷ s) [] long within few = absurd (omega arith)
same_by_members (true ∷ s) (true ∷ t) long within few =
    ap (λ rest. true ∷ rest) (same_by_members s t (omega arith) (λ k. within (suc k)) (omega arith))
same_by_members (true ∷ s) (false ∷ t) long within few = absurd (true≢false (sym (within 0 refl)))
same_by_members (false ∷ s) (true ∷ t) long within few =
    let grown = members_grow s t (omega arith) (λ k. within (suc k)) in absurd (omega arith)
same_by_members (false ∷ s) (false ∷ t) long within few = ap (λ rest. false ∷ rest) (same_by_members s t (omega arith) (λ k. within (suc k)) few)

pub same_or_more : (n : ℕ) (s t : StateSet) → Ordered n s t → (s ≡ t) ⊎ (members s < members t)
same_or_more n s t below =
    ⊎_elim
    (λ (more : members s < members t). inr more)
    (λ (few : members t ≤ members s). inl (same_by_members s t (below.1 ∙ sym below.2) below.0 few))
    (cases_lt (members s) (members t))

-- some iterate up to the k-th is its own next one
abbrev Stays : (StateSet → StateSet) → StateSet → ℕ → Type 0
Stays step first k = (j : ℕ) × (j ≤ k) × (step (iterate j step first) ≡ iterate j step first)

stays_on : (step : StateSet → StateSet) (first : StateSet) (n : ℕ)
    → Stays step first n
    → step (iterate n step first) ≡ iterate n step first
stays_on step first n (j, within, same) =
    let whole = iterate_stays step first j n same within in ap step whole ∙ same ∙ sym whole

rises : (step : StateSet → StateSet) (first : StateSet) (n : ℕ)
    → ((k : ℕ) → Ordered n (iterate k step first) (iterate (suc k) step first))
    → (k : ℕ) → Stays step first k ⊎ (k ≤ members (iterate k step first))
rises step first n ordered zero = inr (omega arith)
rises step first n ordered (suc k) =
    ⊎_elim
    (λ (stays : Stays step first k). inl (stays.0, later stays.0 stays.1, stays.2))
    (λ (many : k ≤ members (iterate k step first)).
    ⊎_elim
    (λ (same : iterate k step first ≡ iterate (suc k) step first). inl (k, (omega arith), sym same))
    (λ (more : members (iterate k step first) < members (iterate (suc k) step first)). inr (omega (arith, more, many)))
    (same_or_more n (iterate k step first) (iterate (suc k) step first) (ordered k)))
    (rises step first n ordered k)
  where
    later : (j : ℕ) → j ≤ k → j ≤ suc k
    later j h = omega arith

pub ascends_to_fixpoint : (step : StateSet → StateSet) (first : StateSet) (n : ℕ)
    → ((k : ℕ) → Ordered n (iterate k step first) (iterate (suc k) step first))
    → step (iterate n step first) ≡ iterate n step first
ascends_to_fixpoint step first n ordered =
    ⊎_elim
    (λ (stays : Stays step first n). stays_on step first n stays)
    (λ (many : n ≤ members (iterate n step first)).
    ⊎_elim
    (λ (same : iterate n step first ≡ iterate (suc n) step first). sym same)
    (λ (more : members (iterate n step first) < members (iterate (suc n) step first)).
    let most = members_most (iterate (suc n) step first) in
    let long = (ordered n).2 in
    absurd (omega (arith, most, long, more, many)))
    (same_or_more n (iterate n step first) (iterate (suc n) step first) (ordered n)))
    (rises step first n ordered n)

falls : (step : StateSet → StateSet) (first : StateSet) (n : ℕ)
    → ((k : ℕ) → Ordered n (iterate (suc k) step first) (iterate k step first))
    → (k : ℕ) → Stays step first k ⊎ (members (iterate k step first) + k ≤ n)
falls step first n ordered zero =
    let most = members_most first in let long = (ordered 0).2 in inr (omega (arith, most, long))
falls step first n ordered (suc k) =
    ⊎_elim
    (λ (stays : Stays step first k). inl (stays.0, later stays.0 stays.1, stays.2))
    (λ (few : members (iterate k step first) + k ≤ n).
    ⊎_elim
    (λ (same : iterate (suc k) step first ≡ iterate k step first). inl (k, (omega arith), same))
    (λ (more : members (iterate (suc k) step first) < members (iterate k step first)). inr (omega (arith, more, few)))
    (same_or_more n (iterate (suc k) step first) (iterate k step first) (ordered k)))
    (falls step first n ordered k)
  where
    later : (j : ℕ) → j ≤ k → j ≤ suc k
    later j h = omega arith

pub descends_to_fixpoint : (step : StateSet → StateSet) (first : StateSet) (n : ℕ)
    → ((k : ℕ) → Ordered n (iterate (suc k) step first) (iterate k step first))
    → step (iterate n step first) ≡ iterate n step first
descends_to_fixpoint step first n ordered =
    ⊎_elim
    (λ (stays : Stays step first n). stays_on step first n stays)
    (λ (few : members (iterate n step first) + n ≤ n).
    ⊎_elim
    (λ (same : iterate (suc n) step first ≡ iterate n step first). same)
    (λ (more : members (iterate (suc n) step first) < members (iterate n step first)). absurd (omega (arith, more, few)))
    (same_or_more n (iterate (suc n) step first) (iterate n step first) (ordered n)))
    (falls step first n ordered n)

pub meaning_fixpoint : (m : Structure) (q : Fixpoint) (x : List ℕ) (f : Formula) (g : Given)
    → is_positive (Binder q x f) ≡ true
    → HaveFlags m.states g
    → meaning m ((x, meaning m g (Binder q x f)) ∷ g) f ≡ meaning m g (Binder q x f)
meaning_fixpoint m Least x f g positive flags =
    ascends_to_fixpoint (λ set. meaning m ((x, set) ∷ g) f) (first_iterate m Least) m.states (λ k. least_ascends m x f g k positive flags)
meaning_fixpoint m Greatest x f g positive flags =
    descends_to_fixpoint (λ set. meaning m ((x, set) ∷ g) f) (first_iterate m Greatest) m.states (λ k. greatest_descends m x f g k positive flags)

least_below : (m : Structure) (x : List ℕ) (f : Formula) (g : Given) (s : StateSet) (k : ℕ)
    → is_positive (Binder Least x f) ≡ true
    → HaveFlags m.states g
    → length s ≡ m.states → Within (meaning m ((x, s) ∷ g) f) s → Within (iterate k (λ set. meaning m ((x, set) ∷ g) f) (first_iterate m Least)) s
least_below m x f g s zero positive flags long keeps = nowhere_within m.states s
least_below m x f g s (suc k) positive flags long keeps =
    let before = iterate k (λ set. meaning m ((x, set) ∷ g) f) (first_iterate m Least) in
    let grown =
    body_grows m Least x f g before s positive flags ((least_ascends m x f g k positive flags).1) long
    (least_below m x f g s k positive flags long keeps)
    in
    λ i inside. keeps i (grown i inside)

pub least_within : (m : Structure) (x : List ℕ) (f : Formula) (g : Given) (s : StateSet)
    → is_positive (Binder Least x f) ≡ true
    → HaveFlags m.states g
    → length s ≡ m.states → Within (meaning m ((x, s) ∷ g) f) s → Within (meaning m g (Binder Least x f)) s
least_within m x f g s positive flags long keeps = least_below m x f g s m.states positive flags long keeps

greatest_above : (m : Structure) (x : List ℕ) (f : Formula) (g : Given) (s : StateSet) (k : ℕ)
    → is_positive (Binder Greatest x f) ≡ true
    → HaveFlags m.states g
    → length s ≡ m.states → Within s (meaning m ((x, s) ∷ g) f) → Within s (iterate k (λ set. meaning m ((x, set) ∷ g) f) (first_iterate m Greatest))
greatest_above m x f g s zero positive flags long keeps = within_everywhere m.states s long
greatest_above m x f g s (suc k) positive flags long keeps =
    let before = iterate k (λ set. meaning m ((x, set) ∷ g) f) (first_iterate m Greatest) in
    let grown =
    body_grows m Greatest x f g s before positive flags long ((greatest_descends m x f g k positive flags).2)
    (greatest_above m x f g s k positive flags long keeps)
    in
    λ i inside. grown i (keeps i inside)

pub greatest_around : (m : Structure) (x : List ℕ) (f : Formula) (g : Given) (s : StateSet)
    → is_positive (Binder Greatest x f) ≡ true
    → HaveFlags m.states g
    → length s ≡ m.states → Within s (meaning m ((x, s) ∷ g) f) → Within s (meaning m g (Binder Greatest x f))
greatest_around m x f g s positive flags long keeps = greatest_above m x f g s m.states positive flags long keeps
