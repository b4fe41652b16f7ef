-- Each text has an answer: what the machine finds is accepted, and then a variable is at fault or none is; what it
-- refuses is refused.
--
--   first_standing  == the first variable at fault has no binder or isn't positive
--   some_answer     == a text is parsed as some formula, or is refused for a reason of its own
use Rattle.std.proofs.Common.{◌≡◌, ℕ, ◌⊎◌, List, [], ◌∷◌, Option, Some, None, refl, ap, inl, inr}
use Rattle.ml_base.specs.declared.parse_refusal.ParseRefusal.{ParseRefusal}
use Rattle.ml_base.specs.declared.parse_refusal.ParseRefusal.TheVariants as refusal
use Rattle.ml_text.specs.Refusals.{Cause, Syntax, TooMany, TooNested, NameTooLong, IsAccepted}
use Rattle.ml_text.specs.private.Reading.{Outcome, Found, Refused}
use Rattle.ml_mu.specs.Formula.{Formula}
use Rattle.ml_mu.specs.Grammar.{IsReadAs}
use Rattle.ml_mu.specs.Parsing.{IsParsedAs, IsRefusedBy, ComesFirst, HasFault}
use Rattle.ml_mu.specs.Text.{items, variable_places}
use Rattle.ml_mu.specs.VariableFaults.{Standing, Fine, Unbound, NotPositive, standings, fault_at}
use Rattle.ml_mu.proofs.Parsed.{mu_outcome, found_accepted, comes_first, faultless_fine}

abbrev Answered : List ℕ → Type 0
Answered text = ((f : Formula) × IsParsedAs text f) ⊎ ((e : ParseRefusal) × (e ≡ refusal.NoMemory → ⊥) × IsRefusedBy text e)

refused : (text : List ℕ) (e : ParseRefusal) → (e ≡ refusal.NoMemory → ⊥) → IsRefusedBy text e → Answered text
refused text e other is = inr (e, other, is)

by_cause : (text : List ℕ) (c : Cause) (at : ℕ) → ComesFirst text c at → Answered text
by_cause text Syntax at first = refused text (refusal.Syntax at) (λ same. cc) first
by_cause text TooMany at first = refused text (refusal.TooMany at) (λ same. cc) first
by_cause text TooNested at first = refused text (refusal.TooNested at) (λ same. cc) first
by_cause text NameTooLong at first = refused text (refusal.NameTooLong at) (λ same. cc) first

-- a fault is no variable that is fine
pub first_standing : (ss : List Standing) (places : List ℕ) (at : ℕ) → fault_at ss places ≡ Some (Fine, at) → ⊥
first_standing [] places at is = cc
first_standing (Fine ∷ ss) [] at is = cc
first_standing (Fine ∷ ss) (p ∷ places) at is = first_standing ss places at is
first_standing (Unbound ∷ ss) [] at is = cc
first_standing (Unbound ∷ ss) (p ∷ places) at is =
    let same : (Unbound, p) ≡ (Fine, at) = cc in
    let standing : Unbound ≡ Fine = ap (λ (s : Standing × ℕ). s.0) same in
    cc
first_standing (NotPositive ∷ ss) [] at is = cc
first_standing (NotPositive ∷ ss) (p ∷ places) at is =
    let same : (NotPositive, p) ≡ (Fine, at) = cc in
    let standing : NotPositive ≡ Fine = ap (λ (s : Standing × ℕ). s.0) same in
    cc

by_standing : (text : List ℕ) (f : Formula) (s : Standing) (at : ℕ) → HasFault text s at
    → fault_at (standings f) (variable_places (items text)) ≡ Some (s, at) → Answered text
by_standing text f Unbound at has is = refused text (refusal.Unbound at) (λ same. cc) has
by_standing text f NotPositive at has is = refused text (refusal.NotPositive at) (λ same. cc) has
by_standing text f Fine at has is = absurd (first_standing (standings f) (variable_places (items text)) at is)

by_fault : (text : List ℕ) (f : Formula) → IsAccepted IsReadAs (items text) f → (o : Option (Standing × ℕ))
    → fault_at (standings f) (variable_places (items text)) ≡ o → Answered text
by_fault text f accepted None is = inl (f, record { accepted = accepted; fine = faultless_fine text f accepted is })
by_fault text f accepted (Some p) is = by_standing text f p.0 p.1 (f, accepted, is) is

by_outcome : (text : List ℕ) (o : Outcome Formula) → mu_outcome text ≡ o → Answered text
by_outcome text (Found f) is =
    by_fault text f (found_accepted text f is) (fault_at (standings f) (variable_places (items text))) refl
by_outcome text (Refused c at) is = by_cause text c at (comes_first text c at is)

pub some_answer : (text : List ℕ) → Answered text
some_answer text = by_outcome text (mu_outcome text) refl
