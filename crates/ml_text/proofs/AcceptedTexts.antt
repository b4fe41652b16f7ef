-- A text that stands for a tree and keeps the limits is accepted.
--
--   no_syntax   == what stands for a tree has no fault of the grammar
--   Keeps t R text f bracket ss == what is known of a text with the tokens ss: that it stands for f, and keeps the limits
--   accepted    == such a text is accepted
--   weight_some == each connective counts
use Rattle.std.proofs.Common.{◌≡◌, ℕ, ◌+◌, ◌≤◌, Bool, true, false, nat_lt, List, ◌++◌, length, map, take, drop, refl, sym, ap, subst, ◌∙◌, arith, ltb-false, ltb-true}
use Rattle.std.specs.List.{AllByRecursion}
use Rattle.std.proofs.lemmas.List.{map-append, take-append-drop}
use Rattle.std.proofs.lemmas.List.Sums.{sum_by-take-le}
use Rattle.ml_text.specs.declared.limits.Bracket.{Bracket}
use Rattle.ml_text.specs.declared.token.Placed.{Placed}
use Rattle.ml_text.specs.declared.token.Operator.{Operator}
use Rattle.ml_text.specs.declared.token.Operator.TheVariants as operator
use Rattle.ml_text.specs.Items.{SignTable, items}
use Rattle.ml_text.specs.Operators.{weight}
use Rattle.ml_text.specs.Refusals.{Item, Cause, Syntax, TooMany, TooNested, NameTooLong, signs_of, counted, IsFault, IsAccepted}
use Rattle.ml_text.specs.Limits.{most_occurrences, most_open}
use Rattle.ml_text.specs.Tokens.{tokens}
use Rattle.ml_text.proofs.Cover.{are_tokens}
use Rattle.ml_text.proofs.Scans.{Spelt, spelt_at}
use Rattle.ml_text.proofs.TableItems.{IsShort, no_long, opens, open_most, opens_spelt, opens_items}

pub no_syntax : {Sign Tree : Type 0} (R : List Sign → Tree → Type 0) (is : List (Item Sign)) (f : Tree)
    → R (signs_of is) f
    → (k : ℕ)
    → IsFault R Syntax is k
    → ⊥
no_syntax R is f stands k fault = go (nat_lt k (length is)) refl
  where
    go : (b : Bool) → nat_lt k (length is) ≡ b → ⊥
    go true below =
        let split : signs_of (take (k + 1) is) ++ signs_of (drop (k + 1) is) ≡ signs_of is =
        sym (map-append (λ i. i.sign) (take (k + 1) is) (drop (k + 1) is)) ∙ ap signs_of (take-append-drop (k + 1) is) in
        fault.ends (ltb-true k (length is) below) (signs_of (drop (k + 1) is), f, subst (λ ts. R ts f) (sym split) stands)
    go false past = fault.is_none (omega (arith, fault.within, ltb-false k (length is) past)) f stands

pub record Keeps {Sign Context Tree : Type 0} (t : SignTable Sign Context) (R : List Sign → Tree → Type 0) (text : List ℕ)
    (f : Tree) (bracket : Spelt → Bracket) (ss : List Spelt) : Type 0 where
  pub tokens_are : map (spelt_at text) (tokens t.words text) ≡ ss
  pub brackets : (p : Placed) → t.bracket (t.sign_at text p) ≡ bracket (spelt_at text p)
  pub stands : R (signs_of (items t text)) f
  pub few : counted (items t text) ≤ most_occurrences
  pub flat : opens_spelt bracket ss ≤ most_open
  pub short : AllByRecursion IsShort ss

keeps : {Sign Context Tree : Type 0} (t : SignTable Sign Context) (R : List Sign → Tree → Type 0) (text : List ℕ) (f : Tree)
    (bracket : Spelt → Bracket) (ss : List Spelt)
    → Keeps t R text f bracket ss
    → (c : Cause) (k : ℕ)
    → IsFault R c (items t text) k
    → ⊥
unfolding tokens
keeps t R text f bracket ss known Syntax k fault = no_syntax R (items t text) f known.stands k fault
keeps {Sign = Sign} t R text f bracket ss known TooMany k fault =
    omega (arith, sum_by-take-le (λ (i : Item Sign). i.weight) (items t text) (k + 1), known.few, fault.passes)
keeps t R text f bracket ss known TooNested k fault =
    let of_tokens : opens (items t text) ≡ opens_spelt bracket ss =
    opens_items t bracket text known.brackets t.first (tokens t.words text) ∙ ap (opens_spelt bracket) known.tokens_are in
    omega (arith, open_most (items t text) 0 (k + 1), of_tokens, known.flat, fault.passes)
keeps t R text f bracket ss known NameTooLong k long =
    no_long t t.words text 0 t.first (tokens t.words text) (are_tokens t.words text 0)
    (subst (AllByRecursion IsShort) (sym known.tokens_are) known.short) k long

pub accepted : {Sign Context Tree : Type 0} (t : SignTable Sign Context) (R : List Sign → Tree → Type 0) (text : List ℕ)
    (f : Tree) (bracket : Spelt → Bracket) (ss : List Spelt)
    → Keeps t R text f bracket ss
    → IsAccepted R (items t text) f
accepted t R text f bracket ss known = record { stands = known.stands; keeps = keeps t R text f bracket ss known }

pub weight_some : (o : Operator) → 1 ≤ weight o
weight_some operator.Iff = omega arith
weight_some operator.Implies = omega arith
weight_some operator.Or = omega arith
weight_some operator.And = omega arith
