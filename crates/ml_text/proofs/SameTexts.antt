-- Where texts are refused depends on a relation only by which signs stand for something, and not by what they stand
-- for. So a logic whose tables have trees of more kinds than its formulas is refused where the tables refuse.
--
--   SameTexts R Q  == the signs that stand for something by R are those that do by Q
--   other_way      == the same, the other way round
--   fault_same     == a fault by R is one by Q
--   refused_same   == what is refused by R is refused by Q
use Rattle.std.proofs.Common.{ℕ, List}
use Rattle.ml_text.specs.Refusals.{Item, Cause, Syntax, TooMany, TooNested, NameTooLong, BeginsText, IsFault, IsRefused}

pub record SameTexts {Sign A B : Type 0} (R : List Sign → A → Type 0) (Q : List Sign → B → Type 0) : Type 0 where
  pub to : (ts : List Sign) (f : A) → R ts f → (h : B) × Q ts h
  pub from : (ts : List Sign) (h : B) → Q ts h → (f : A) × R ts f

pub other_way : {Sign A B : Type 0} (R : List Sign → A → Type 0) (Q : List Sign → B → Type 0)
    → SameTexts R Q
    → SameTexts Q R
other_way R Q same = record { to = same.from; from = same.to }

begins_same : {Sign A B : Type 0} (R : List Sign → A → Type 0) (Q : List Sign → B → Type 0)
    → SameTexts R Q
    → (ts : List Sign)
    → BeginsText R ts
    → BeginsText Q ts
begins_same R Q same ts goes = let other = same.to _ goes.1 goes.2 in (goes.0, other.0, other.1)

pub fault_same : {Sign A B : Type 0} (R : List Sign → A → Type 0) (Q : List Sign → B → Type 0)
    → SameTexts R Q
    → (items : List (Item Sign)) (c : Cause) (k : ℕ)
    → IsFault R c items k
    → IsFault Q c items k
fault_same R Q same items Syntax k fault = record {
  within = fault.within;
  begins = begins_same R Q same _ fault.begins;
  ends = λ less goes. fault.ends less (begins_same Q R (other_way R Q same) _ goes);
  is_none = λ end h is. let other = same.from _ h is in fault.is_none end other.0 other.1;
}
fault_same R Q same items TooMany k fault = fault
fault_same R Q same items TooNested k fault = fault
fault_same R Q same items NameTooLong k fault = fault

pub refused_same : {Sign A B : Type 0} (R : List Sign → A → Type 0) (Q : List Sign → B → Type 0)
    → SameTexts R Q
    → (items : List (Item Sign)) (c : Cause) (k : ℕ)
    → IsRefused R items c k
    → IsRefused Q items c k
refused_same R Q same items c k refused = record {
  comes = fault_same R Q same items c k refused.comes;
  first = λ d j fault. refused.first d j (fault_same Q R (other_way R Q same) items d j fault);
}
