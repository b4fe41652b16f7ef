-- What `parse` answers: which formula a text stands for within the limits, or where it is refused.
--
-- First the four causes of `Refusals.antt`, the least place first; only where none of them comes, the first variable
-- that has no binder or isn't positive.
--
--   IsParsedAs text f   == the text is one of f, keeps the limits, and no variable is at fault
--   IsRefusedBy text e  == the text is refused with this answer
use Rattle.std.specs.Prelude.{ℕ, ◌≡◌, List, length, Some, true}
use Rattle.ml_base.specs.declared.parse_refusal.ParseRefusal.{ParseRefusal}
use Rattle.ml_base.specs.declared.parse_refusal.ParseRefusal.TheVariants as refusal
use Rattle.ml_text.specs.Refusals as cause
use Rattle.ml_text.specs.Refusals.{Cause, IsAccepted}
use Rattle.ml_mu.specs.Formula.{Formula}
use Rattle.ml_mu.specs.Grammar.{IsReadAs}
use Rattle.ml_mu.specs.Text.{items, variable_places}
use Rattle.ml_mu.specs.VariableFaults.{Standing, Unbound, NotPositive, standings, fault_at, are_fine}

pub record IsParsedAs (text : List ℕ) (f : Formula) : Type 0 where
  pub accepted : IsAccepted IsReadAs (items text) f
  pub fine : are_fine (standings f) ≡ true

-- this cause is the first, and comes at this byte
abbrev pub ComesFirst : List ℕ → Cause → ℕ → Type 0
ComesFirst text c at = cause.ComesFirst IsReadAs (items text) (length text) c at

-- the text is one of a formula within the limits, whose first variable at fault stands so, at this byte
abbrev pub HasFault : List ℕ → Standing → ℕ → Type 0
HasFault text s at = (f : Formula) × IsAccepted IsReadAs (items text) f × (fault_at (standings f) (variable_places (items text)) ≡ Some (s, at))

abbrev pub IsRefusedBy : List ℕ → ParseRefusal → Type 0
IsRefusedBy text (refusal.Unbound at) = HasFault text Unbound at
IsRefusedBy text (refusal.NotPositive at) = HasFault text NotPositive at
IsRefusedBy text e = cause.IsRefusedBy IsReadAs (items text) (length text) e
