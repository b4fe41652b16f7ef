-- What comes of a text is exact: the tree where it is accepted, and otherwise the first cause, where it comes.
--
--   IsOutcome g R items end out == the outcome is the right one
--   exact                       == what comes of a text is right
use Rattle.std.proofs.Common.{◌≡◌, ℕ, ◌+◌, ◌<◌, ◌≤◌, Bool, true, false, nat_lt, List, [], ◌∷◌, ◌++◌, length, take, Option, Some, None}
use Rattle.std.proofs.Common.{refl, sym, ◌∙◌, ap, subst, ⊎_elim, arith, ltb-true, ltb-false, length-append, append_assoc}
use Rattle.std.specs.Prelude.{option_and_then}
use Rattle.std.proofs.lemmas.Bool.{cases_lt}
use Rattle.std.proofs.lemmas.List.{append-nil}
use Rattle.ml_text.specs.Grammar.{Grammar}
use Rattle.ml_text.specs.private.Machine.{State, start_state, step, finish, parse}
use Rattle.ml_text.specs.Refusals.{Item, Cause, Syntax, TooMany, TooNested, NameTooLong, signs_of, counted, open_behind, open_behind_one}
use Rattle.ml_text.specs.Refusals.{IsSyntaxFault, Passes, IsFault, IsRefused, IsAccepted, offset_of}
use Rattle.ml_text.specs.Limits.{most_occurrences, most_open}
use Rattle.ml_text.specs.private.Reading.{Outcome, Found, Refused, cause_at, next_outcome, end_outcome, outcome, text_outcome}
use Rattle.ml_text.proofs.Complete.{found}
use Rattle.ml_text.proofs.Sound.{stands}
use Rattle.ml_text.proofs.Viable.{run-parse}
use Rattle.ml_text.proofs.FirstItems.{take_all, take_one, counted-last, open_from-last, offset-end, long_within}
use Rattle.ml_text.proofs.Fits.{Fits, first_run}
use Rattle.ml_text.proofs.ItemFaults.{Progress, first_of_all, refused_item, within_here, begins_here, one_more, syntax_here}
use Rattle.ml_text.proofs.ItemFaults.{no_syntax_here, count_here, no_count_here, nesting_here, no_nesting_here, name_here}
use Rattle.ml_text.proofs.ItemFaults.{no_name_here, least_syntax, least_count, least_nesting, least_name, no_fault}

abbrev pub IsOutcome : (g : Grammar) (R : List g.Sign → g.Tree → Type 0)
    → List (Item g.Sign)
    → ℕ
    → Outcome g.Tree
    → Type 0
IsOutcome g R items end (Found f) = IsAccepted R items f
IsOutcome g R items end (Refused c at) = (k : ℕ) × IsRefused R items c k × (at ≡ offset_of items end k)

-- ---- one item more

-- the item keeps all limits
pub record Keeps {Sign : Type 0} (count depth : ℕ) (i : Item Sign) : Type 0 where
  pub few : count ≤ most_occurrences
  pub flat : depth ≤ most_open
  pub short : i.is_long ≡ false

progress_more : (g : Grammar) (R : List g.Sign → g.Tree → Type 0)
    → Fits g R
    → (items before rest : List (Item g.Sign)) (i : Item g.Sign) (s next : State g)
    → Progress g R items before (i ∷ rest) s
    → step g s.0 s.1 i.sign ≡ Some next
    → Keeps (counted before + i.weight) (open_behind_one i.bracket (open_behind before)) i
    → Progress g R items (before ++ i ∷ []) rest next
progress_more g R fits items before rest i s next p goes keeps = record {
  split = p.split ∙ sym (append_assoc before (i ∷ []) rest);
  ran = one_more g before i s p.ran ∙ goes;
  few = omega (arith, keeps.few, counted-last before i);
  flat = omega (arith, keeps.flat, open_from-last 0 before i);
  clean = λ c k less fault.
      ⊎_elim
      (λ (below : k < length before). p.clean c k below fault)
      (λ (ge : length before ≤ k).
      let here : k ≡ length before = omega (arith, length-append before (i ∷ [])) in
      no_fault g R items (length before)
      (no_syntax_here g R fits items before rest i s next p goes)
      (no_count_here g items before rest i p.split keeps.few)
      (no_nesting_here g items before rest i p.split keeps.flat)
      (no_name_here items before rest i p.split keeps.short)
      c (subst (IsFault R c items) here fault))
      (cases_lt k (length before));
}

-- what the limits say of an item that goes on
pub data Limit {Sign : Type 0} (count depth : ℕ) (i : Item Sign) : Option Cause → Type 0 where
  keeps_all : Keeps count depth i → Limit count depth i None
  too_many : most_occurrences < count → Limit count depth i (Some TooMany)
  too_nested : count ≤ most_occurrences → most_open < depth → Limit count depth i (Some TooNested)
  too_long : count ≤ most_occurrences → depth ≤ most_open → i.is_long ≡ true → Limit count depth i (Some NameTooLong)

limit_by : {Sign : Type 0} (count depth : ℕ) (i : Item Sign) (a b c : Bool)
    → nat_lt most_occurrences count ≡ a
    → nat_lt most_open depth ≡ b
    → i.is_long ≡ c
    → Limit count depth i (Rattle.std.specs.Prelude.cond a (Some TooMany)
    (Rattle.std.specs.Prelude.cond b (Some TooNested) (Rattle.std.specs.Prelude.cond c (Some NameTooLong) None)))
limit_by count depth i true b c x y z = too_many (ltb-true most_occurrences count x)
limit_by count depth i false true c x y z = too_nested (ltb-false most_occurrences count x) (ltb-true most_open depth y)
limit_by count depth i false false true x y z =
    too_long (ltb-false most_occurrences count x) (ltb-false most_open depth y) z
limit_by count depth i false false false x y z =
    keeps_all (record { few = ltb-false most_occurrences count x; flat = ltb-false most_open depth y; short = z })

limit : {Sign : Type 0} (count depth : ℕ) (i : Item Sign) → Limit count depth i (cause_at count depth i.is_long)
limit count depth i = limit_by count depth i (nat_lt most_occurrences count) (nat_lt most_open depth) i.is_long refl
    refl refl

-- the outcome at an item that goes on
item_outcome : (g : Grammar) (R : List g.Sign → g.Tree → Type 0)
    → Fits g R
    → (items before rest : List (Item g.Sign)) (i : Item g.Sign) (end : ℕ) (s next : State g) (c : Option Cause)
    (later : State g → Outcome g.Tree)
    → Progress g R items before (i ∷ rest) s
    → step g s.0 s.1 i.sign ≡ Some next
    → Limit (counted before + i.weight) (open_behind_one i.bracket (open_behind before)) i c
    → (Progress g R items (before ++ i ∷ []) rest next → IsOutcome g R items end (later next))
    → IsOutcome g R items end (next_outcome later c (Some next) i.at)
item_outcome g R fits items before rest i end s next _ later p goes (keeps_all keeps) go =
    go (progress_more g R fits items before rest i s next p goes keeps)
item_outcome g R fits items before rest i end s next _ later p goes (too_many passes) go =
    refused_item g R items before rest i end s TooMany p
    (least_count g R items (length before) (no_syntax_here g R fits items before rest i s next p goes))
    (count_here g R items before rest i s p passes)
item_outcome g R fits items before rest i end s next _ later p goes (too_nested few passes) go =
    refused_item g R items before rest i end s TooNested p
    (least_nesting g R items (length before) (no_syntax_here g R fits items before rest i s next p goes)
    (no_count_here g items before rest i p.split few))
    (nesting_here g R items before rest i s p passes)
item_outcome g R fits items before rest i end s next _ later p goes (too_long few flat long) go =
    refused_item g R items before rest i end s NameTooLong p
    (least_name g R items (length before) (no_syntax_here g R fits items before rest i s next p goes)
    (no_count_here g items before rest i p.split few) (no_nesting_here g items before rest i p.split flat))
    (name_here items before rest i p.split ∙ long)

next_exact : (g : Grammar) (R : List g.Sign → g.Tree → Type 0)
    → Fits g R
    → (items before rest : List (Item g.Sign)) (i : Item g.Sign) (end : ℕ) (s : State g) (o : Option (State g))
    (later : State g → Outcome g.Tree)
    → Progress g R items before (i ∷ rest) s
    → step g s.0 s.1 i.sign ≡ o
    → ((next : State g) → Progress g R items (before ++ i ∷ []) rest next → IsOutcome g R items end (later next))
    → IsOutcome g R items end
    (next_outcome later (cause_at (counted before + i.weight) (open_behind_one i.bracket (open_behind before))
    i.is_long) o i.at)
next_exact g R fits items before rest i end s None later p goes go =
    refused_item g R items before rest i end s Syntax p (λ d fault. least_syntax d)
    (syntax_here g R fits items before rest i s p goes)
next_exact g R fits items before rest i end s (Some next) later p goes go =
    item_outcome g R fits items before rest i end s next
    (cause_at (counted before + i.weight) (open_behind_one i.bracket (open_behind before)) i.is_long) later p goes
    (limit (counted before + i.weight) (open_behind_one i.bracket (open_behind before)) i) (go next)

-- ---- the end

parsed_end : (g : Grammar) (before : List (Item g.Sign)) (s : State g)
    → first_run g before ≡ Some s
    → parse g (start_state g g.whole) [] (signs_of before) ≡ finish g s.0 s.1
parsed_end g before s ran =
    ap (parse g (start_state g g.whole) []) (sym (append-nil (signs_of before)))
    ∙ run-parse g (start_state g g.whole) [] (signs_of before) []
    ∙ ap (option_and_then (λ (x : State g). finish g x.0 x.1)) ran

-- at the end only syntax can be at fault
end_fault : (g : Grammar) (R : List g.Sign → g.Tree → Type 0) (items : List (Item g.Sign)) (d : Cause) (k : ℕ)
    → length items ≤ k
    → IsFault R d items k
    → (IsSyntaxFault R items (length items) → ⊥)
    → ⊥
end_fault g R items Syntax k past fault none =
    let same : k ≡ length items = omega (arith, fault.within) in
    none (subst (IsSyntaxFault R items) same fault)
end_fault g R items TooMany k past fault none = absurd (omega (arith, fault.within))
end_fault g R items TooNested k past fault none = absurd (omega (arith, fault.within))
end_fault g R items NameTooLong k past fault none = absurd (omega (arith, long_within items k fault))

end_exact : (g : Grammar) (R : List g.Sign → g.Tree → Type 0)
    → Fits g R
    → (items before : List (Item g.Sign)) (end : ℕ) (s : State g) (o : Option g.Tree)
    → Progress g R items before [] s
    → finish g s.0 s.1 ≡ o
    → IsOutcome g R items end (end_outcome end o)
end_exact g R fits items before end s None p ends =
    let whole : items ≡ before = p.split ∙ append-nil before in
    let none : (f : g.Tree) → R (signs_of items) f → ⊥ = λ f is.
    let read = found g fits.regular (signs_of before) f
    (fits.to (signs_of before) f (subst (λ xs. R (signs_of xs) f) whole is)) in
    let got = parsed_end g before s p.ran in
    cc
    in
    let fault : IsSyntaxFault R items (length before) = record {
      within = omega (arith, ap length whole);
      begins = begins_here g R fits items before [] s p;
      ends = λ less goes. absurd (omega (arith, ap length whole));
      is_none = λ same f is. none f is;
    } in (
      length before,
      first_of_all g R items before [] s Syntax p (λ d fault. least_syntax d) fault,
      sym (ap (offset_of items end) (ap length (sym whole)) ∙ offset-end items end),
    )
end_exact g R fits items before end s (Some f) p ends =
    let whole : items ≡ before = p.split ∙ append-nil before in
    let is : R (signs_of items) f =
    subst (λ xs. R (signs_of xs) f) (sym whole)
    (fits.from (signs_of before) f (stands g (signs_of before) f (parsed_end g before s p.ran ∙ ends))) in
    record {
      stands = is;
      keeps = λ c k fault.
          ⊎_elim
          (λ (less : k < length before). p.clean c k less fault)
          (λ (ge : length before ≤ k). end_fault g R items c k (omega (arith, ap length whole)) fault
          (λ broken. broken.is_none refl f is))
          (cases_lt k (length before));
    }

pub exact_from : (g : Grammar) (R : List g.Sign → g.Tree → Type 0)
    → Fits g R
    → (items before rest : List (Item g.Sign)) (end : ℕ) (s : State g) (count depth : ℕ)
    → count ≡ counted before
    → depth ≡ open_behind before
    → Progress g R items before rest s
    → IsOutcome g R items end (outcome g end s.0 s.1 count depth rest)
exact_from g R fits items before [] end s count depth a b p =
    end_exact g R fits items before end s (finish g s.0 s.1) p refl
exact_from g R fits items before (i ∷ rest) end s count depth a b p =
    subst (λ n. IsOutcome g R items end (outcome g end s.0 s.1 n depth (i ∷ rest))) (sym a)
    (subst (λ n. IsOutcome g R items end (outcome g end s.0 s.1 (counted before) n (i ∷ rest))) (sym b)
    (next_exact g R fits items before rest i end s (step g s.0 s.1 i.sign)
    (λ next. outcome g end next.0 next.1 (counted before + i.weight)
    (open_behind_one i.bracket (open_behind before)) rest) p refl
    (λ next q. exact_from g R fits items (before ++ i ∷ []) rest end next (counted before + i.weight)
    (open_behind_one i.bracket (open_behind before)) (sym (counted-last before i)) (sym (open_from-last 0 before i))
    q)))

pub exact : (g : Grammar) (R : List g.Sign → g.Tree → Type 0)
    → Fits g R
    → (items : List (Item g.Sign)) (end : ℕ)
    → IsOutcome g R items end (text_outcome g end items)
exact g R fits items end =
    exact_from g R fits items [] items end (start_state g g.whole, []) 0 0 refl refl
    (record {
      split = refl;
      ran = refl;
      few = omega arith;
      flat = omega arith;
      clean = λ c k less fault. absurd (omega arith);
    })

-- ---- texts without a count fault

few_from : {Sign : Type 0} (items before rest : List (Item Sign))
    → items ≡ before ++ rest
    → counted before ≤ most_occurrences
    → ((k : ℕ) → Passes counted most_occurrences items k → ⊥)
    → counted items ≤ most_occurrences
few_from items before [] split few none = omega (arith, few, ap counted (split ∙ append-nil before))
few_from items before (i ∷ rest) split few none =
    let here : counted (take (length before + 1) items) ≡ counted before + i.weight =
    ap counted (take_one items before i rest split) ∙ counted-last before i in
    let back : counted (take (length before) items) ≡ counted before =
    ap counted (take_all items before (i ∷ rest) split) in
    ⊎_elim
    (λ (passes : most_occurrences < counted before + i.weight).
    absurd (none (length before)
    (record {
      within = within_here items before i rest split;
      before = omega (arith, few, back);
      passes = omega (arith, passes, here);
    })))
    (λ (fits : counted before + i.weight ≤ most_occurrences). few_from items (before ++ i ∷ []) rest
    (split ∙ sym (append_assoc before (i ∷ []) rest)) (omega (arith, fits, counted-last before i)) none)
    (cases_lt most_occurrences (counted before + i.weight))

pub few_items : {Sign : Type 0} (items : List (Item Sign))
    → ((k : ℕ) → Passes counted most_occurrences items k → ⊥)
    → counted items ≤ most_occurrences
few_items items none = few_from items [] items refl (omega arith) none
