-- What is at fault at an item, behind items of which none is.
--
--   Progress g R items ..     == what is known behind the first items, of which none is at fault
--   first_of_all              == no cause comes before one that comes at the next item
--   syntax_here, count_here, nesting_here, name_here == when each cause comes there
--   least_syntax, ..          == which of several comes first
use Rattle.std.proofs.Common.{◌≡◌, ℕ, ◌+◌, ◌<◌, ◌≤◌, true, false, List, [], ◌∷◌, ◌++◌, length, take, Some, None, sym, ◌∙◌, ap, subst, inl, inr, ⊎_elim, arith, length-append}
use Rattle.std.specs.Prelude.{option_and_then}
use Rattle.std.proofs.lemmas.Bool.{cases_lt}
use Rattle.std.proofs.lemmas.List.{map-append}
use Rattle.ml_text.specs.Grammar.{Grammar}
use Rattle.ml_text.specs.private.Machine.{State, start_state, step, run}
use Rattle.ml_text.specs.Refusals.{Item, Cause, Syntax, TooMany, TooNested, NameTooLong, signs_of, counted, open_behind, open_behind_one}
use Rattle.ml_text.specs.Limits.{most_occurrences}
use Rattle.ml_text.specs.Refusals.{rank, BeginsText, IsSyntaxFault, Passes, IsFault, IsRefused, is_long_at, offset_of}
use Rattle.ml_text.specs.Limits.{most_open}
use Rattle.ml_text.proofs.Viable.{run-last}
use Rattle.ml_text.proofs.FirstItems.{take_all, take_one, counted-last, open_from-last, is_long_at-last, offset-last}
use Rattle.ml_text.proofs.Fits.{Fits, fits_viable, fits_not_viable, first_run}

-- the first items are run, keep the limits, and none of them is at fault
pub record Progress (g : Grammar) (R : List g.Sign → g.Tree → Type 0) (items before rest : List (Item g.Sign))
    (s : State g) : Type 0 where
  pub split : items ≡ before ++ rest
  pub ran : first_run g before ≡ Some s
  pub few : counted before ≤ most_occurrences
  pub flat : open_behind before ≤ most_open
  pub clean : (c : Cause) (k : ℕ) → k < length before → IsFault R c items k → ⊥

-- no cause comes before this one
pub first_of_all : (g : Grammar) (R : List g.Sign → g.Tree → Type 0) (items before rest : List (Item g.Sign))
    (s : State g) (c : Cause)
    → Progress g R items before rest s
    → ((d : Cause) → IsFault R d items (length before) → rank c ≤ rank d)
    → IsFault R c items (length before)
    → IsRefused R items c (length before)
first_of_all g R items before rest s c p least comes = record {
  comes = comes;
  first = λ d j fault.
      ⊎_elim
      (λ (less : j < length before). absurd (p.clean d j less fault))
      (λ (ge : length before ≤ j).
      ⊎_elim
      (λ (above : length before < j). inl above)
      (λ (le : j ≤ length before). let same : length before ≡ j = omega arith in
      inr (same, least d (subst (IsFault R d items) (sym same) fault)))
      (cases_lt (length before) j))
      (cases_lt j (length before));
}

abbrev pub IsRefusedHere : (g : Grammar) (R : List g.Sign → g.Tree → Type 0)
    → List (Item g.Sign)
    → ℕ
    → Cause
    → ℕ
    → Type 0
IsRefusedHere g R items end c at = (k : ℕ) × IsRefused R items c k × (at ≡ offset_of items end k)

pub refused_item : (g : Grammar) (R : List g.Sign → g.Tree → Type 0) (items before rest : List (Item g.Sign))
    (i : Item g.Sign) (end : ℕ) (s : State g) (c : Cause)
    → Progress g R items before (i ∷ rest) s
    → ((d : Cause) → IsFault R d items (length before) → rank c ≤ rank d)
    → IsFault R c items (length before)
    → IsRefusedHere g R items end c i.at
refused_item g R items before rest i end s c p least comes = (
  length before,
  first_of_all g R items before (i ∷ rest) s c p least comes,
  sym (ap (λ is. offset_of is end (length before)) p.split ∙ offset-last before i rest end),
)

-- ---- the item at which one stands

pub within_here : {A : Type 0} (items before : List A) (i : A) (rest : List A)
    → items ≡ before ++ i ∷ rest
    → length before < length items
within_here items before i rest split = omega (arith, ap length split, length-append before (i ∷ rest))

pub begins_here : (g : Grammar) (R : List g.Sign → g.Tree → Type 0)
    → Fits g R
    → (items before rest : List (Item g.Sign)) (s : State g)
    → Progress g R items before rest s
    → BeginsText R (signs_of (take (length before) items))
begins_here g R fits items before rest s p =
    subst (λ is. BeginsText R (signs_of is)) (sym (take_all items before rest p.split))
    (fits_viable g R fits (signs_of before) s p.ran)

-- what is run with one item more
pub one_more : (g : Grammar) (before : List (Item g.Sign)) (i : Item g.Sign) (s : State g)
    → first_run g before ≡ Some s
    → first_run g (before ++ i ∷ []) ≡ step g s.0 s.1 i.sign
one_more g before i s ran =
    ap (run g (start_state g g.whole) []) (map-append (λ (j : Item g.Sign). j.sign) before (i ∷ []))
    ∙ run-last g (start_state g g.whole) [] (signs_of before) i.sign
    ∙ ap (option_and_then (λ (x : State g). step g x.0 x.1 i.sign)) ran

pub syntax_here : (g : Grammar) (R : List g.Sign → g.Tree → Type 0)
    → Fits g R
    → (items before rest : List (Item g.Sign)) (i : Item g.Sign) (s : State g)
    → Progress g R items before (i ∷ rest) s
    → step g s.0 s.1 i.sign ≡ None
    → IsSyntaxFault R items (length before)
syntax_here g R fits items before rest i s p fails =
    let inside : length before < length items = within_here items before i rest p.split in
    record {
      within = omega arith;
      begins = begins_here g R fits items before (i ∷ rest) s p;
      ends = λ less goes. fits_not_viable g R fits (signs_of (before ++ i ∷ [])) (one_more g before i s p.ran ∙ fails)
          (subst (λ is. BeginsText R (signs_of is)) (take_one items before i rest p.split) goes);
      is_none = λ same f is. absurd (omega arith);
    }

pub no_syntax_here : (g : Grammar) (R : List g.Sign → g.Tree → Type 0)
    → Fits g R
    → (items before rest : List (Item g.Sign)) (i : Item g.Sign) (s next : State g)
    → Progress g R items before (i ∷ rest) s
    → step g s.0 s.1 i.sign ≡ Some next
    → IsSyntaxFault R items (length before)
    → ⊥
no_syntax_here g R fits items before rest i s next p goes fault =
    fault.ends (within_here items before i rest p.split)
    (subst (λ is. BeginsText R (signs_of is)) (sym (take_one items before i rest p.split))
    (fits_viable g R fits (signs_of (before ++ i ∷ [])) next (one_more g before i s p.ran ∙ goes)))

pub counted_here : (g : Grammar) (items before rest : List (Item g.Sign)) (i : Item g.Sign)
    → items ≡ before ++ i ∷ rest
    → counted (take (length before + 1) items) ≡ counted before + i.weight
counted_here g items before rest i split = ap counted (take_one items before i rest split) ∙ counted-last before i

pub open_here : (g : Grammar) (items before rest : List (Item g.Sign)) (i : Item g.Sign)
    → items ≡ before ++ i ∷ rest
    → open_behind (take (length before + 1) items) ≡ open_behind_one i.bracket (open_behind before)
open_here g items before rest i split = ap open_behind (take_one items before i rest split) ∙ open_from-last 0 before i

pub count_here : (g : Grammar) (R : List g.Sign → g.Tree → Type 0) (items before rest : List (Item g.Sign))
    (i : Item g.Sign) (s : State g)
    → Progress g R items before (i ∷ rest) s
    → most_occurrences < counted before + i.weight
    → Passes counted most_occurrences items (length before)
count_here g R items before rest i s p passes = record {
  within = within_here items before i rest p.split;
  before = omega (arith, p.few, ap counted (take_all items before (i ∷ rest) p.split));
  passes = omega (arith, passes, counted_here g items before rest i p.split);
}

pub no_count_here : (g : Grammar) (items before rest : List (Item g.Sign)) (i : Item g.Sign)
    → items ≡ before ++ i ∷ rest
    → counted before + i.weight ≤ most_occurrences
    → Passes counted most_occurrences items (length before)
    → ⊥
no_count_here g items before rest i split fits fault =
    absurd (omega (arith, fault.passes, counted_here g items before rest i split))

pub nesting_here : (g : Grammar) (R : List g.Sign → g.Tree → Type 0) (items before rest : List (Item g.Sign))
    (i : Item g.Sign) (s : State g)
    → Progress g R items before (i ∷ rest) s
    → most_open < open_behind_one i.bracket (open_behind before)
    → Passes open_behind most_open items (length before)
nesting_here g R items before rest i s p passes = record {
  within = within_here items before i rest p.split;
  before = omega (arith, p.flat, ap open_behind (take_all items before (i ∷ rest) p.split));
  passes = omega (arith, passes, open_here g items before rest i p.split);
}

pub no_nesting_here : (g : Grammar) (items before rest : List (Item g.Sign)) (i : Item g.Sign)
    → items ≡ before ++ i ∷ rest
    → open_behind_one i.bracket (open_behind before) ≤ most_open
    → Passes open_behind most_open items (length before)
    → ⊥
no_nesting_here g items before rest i split fits fault =
    absurd (omega (arith, fault.passes, open_here g items before rest i split))

pub name_here : {Sign : Type 0} (items before rest : List (Item Sign)) (i : Item Sign)
    → items ≡ before ++ i ∷ rest
    → is_long_at items (length before) ≡ i.is_long
name_here items before rest i split = ap (λ is. is_long_at is (length before)) split ∙ is_long_at-last before i rest

pub no_name_here : {Sign : Type 0} (items before rest : List (Item Sign)) (i : Item Sign)
    → items ≡ before ++ i ∷ rest
    → i.is_long ≡ false
    → is_long_at items (length before) ≡ true
    → ⊥
no_name_here items before rest i split short long = let is = name_here items before rest i split in cc

-- ---- which cause comes first at the item

pub least_syntax : (d : Cause) → rank Syntax ≤ rank d
least_syntax Syntax = omega arith
least_syntax TooMany = omega arith
least_syntax TooNested = omega arith
least_syntax NameTooLong = omega arith

pub least_count : (g : Grammar) (R : List g.Sign → g.Tree → Type 0) (items : List (Item g.Sign)) (k : ℕ)
    → (IsSyntaxFault R items k → ⊥)
    → (d : Cause)
    → IsFault R d items k
    → rank TooMany ≤ rank d
least_count g R items k a Syntax fault = absurd (a fault)
least_count g R items k a TooMany fault = omega arith
least_count g R items k a TooNested fault = omega arith
least_count g R items k a NameTooLong fault = omega arith

pub least_nesting : (g : Grammar) (R : List g.Sign → g.Tree → Type 0) (items : List (Item g.Sign)) (k : ℕ)
    → (IsSyntaxFault R items k → ⊥)
    → (Passes counted most_occurrences items k → ⊥)
    → (d : Cause)
    → IsFault R d items k
    → rank TooNested ≤ rank d
least_nesting g R items k a b Syntax fault = absurd (a fault)
least_nesting g R items k a b TooMany fault = absurd (b fault)
least_nesting g R items k a b TooNested fault = omega arith
least_nesting g R items k a b NameTooLong fault = omega arith

pub least_name : (g : Grammar) (R : List g.Sign → g.Tree → Type 0) (items : List (Item g.Sign)) (k : ℕ)
    → (IsSyntaxFault R items k → ⊥)
    → (Passes counted most_occurrences items k → ⊥)
    → (Passes open_behind most_open items k → ⊥)
    → (d : Cause)
    → IsFault R d items k
    → rank NameTooLong ≤ rank d
least_name g R items k a b c Syntax fault = absurd (a fault)
least_name g R items k a b c TooMany fault = absurd (b fault)
least_name g R items k a b c TooNested fault = absurd (c fault)
least_name g R items k a b c NameTooLong fault = omega arith

pub no_fault : (g : Grammar) (R : List g.Sign → g.Tree → Type 0) (items : List (Item g.Sign)) (k : ℕ)
    → (IsSyntaxFault R items k → ⊥)
    → (Passes counted most_occurrences items k → ⊥)
    → (Passes open_behind most_open items k → ⊥)
    → (is_long_at items k ≡ true → ⊥)
    → (d : Cause)
    → IsFault R d items k
    → ⊥
no_fault g R items k a b c d Syntax fault = a fault
no_fault g R items k a b c d TooMany fault = b fault
no_fault g R items k a b c d TooNested fault = c fault
no_fault g R items k a b c d NameTooLong fault = d fault
