-- The faults of one item: where each of them lies, and which is the first.
--
--   fault_place    == a fault of an item lies within the item
--   at_front       == a fault lies at the item's front, or behind it, and then the item is of some kind
--   IsNamedFault   == the faults of an item of a kind that takes a name
--   named_fault    == it has no others, where there is room for it
--   signal_fault   == signals have the faults of their list alone
--   first_kind, first_logic, first_many, first_signal, first_name, first_taken, first_late, first_colon, first_value,
--   first_refused, first_own, first_undeclared == the first fault of an item, where those that would come before it don't
use Rattle.std.proofs.Common.{◌≡◌, ℕ, ◌+◌, ◌<◌, ◌≤◌, ◌⊎◌, Bool, true, false, List, [], length, drop, inl, inr, refl, sym, ap, subst, ◌∙◌, ⊎_elim, arith, length-drop}
use Rattle.std.specs.Map.{keys_of}
use Rattle.std.proofs.lemmas.Bool.{cases_lt}
use Rattle.ml_lists.specs.Member.{IsMember}
use Rattle.ml_front.specs.Logics.{logic_word}
use Rattle.ml_front.specs.declared.logic.Logic.{Logic}
use Rattle.ml_spec.specs.Faults.{end_of, IsItemFault, IsTaken, IsTextRefused}
use Rattle.ml_spec.specs.Faults.{other_logic, no_kind, too_many, no_name, name_taken, no_colon, no_signal, too_few_signals, signal_taken}
use Rattle.ml_spec.specs.Faults.{no_value, too_few_values, value_taken, refused, undeclared, defined_late, defined_by_itself}
use Rattle.ml_spec.specs.ItemParts.{behind_kind, behind_name, is_good, name_of, place_of, signals_of, text_of, values_of}
use Rattle.ml_spec.specs.ItemParts.{HasColon, HasKind, HasName, HasText, IsOfKind, TakesName}
use Rattle.ml_spec.specs.Items.{ItemText, begins_with_colon}
use Rattle.ml_spec.specs.Kinds.{has_formula, takes_name}
use Rattle.ml_spec.specs.Known.{known, IsDeclared, IsTakenSignal, IsTakenValue}
use Rattle.ml_spec.specs.RuleNumbers.{rule_number}
use Rattle.ml_spec.specs.Specification.{most_items}
use Rattle.ml_spec.specs.Statements.{is_value, IsWrittenIn, Statement}
use Rattle.ml_spec.specs.declared.kind.ItemKind.{ItemKind}
use Rattle.ml_spec.specs.declared.kind.ItemKind.TheVariants as item
use Rattle.ml_spec.specs.declared.rule.SpecRule.{SpecRule}
use Rattle.ml_spec.specs.declared.rule.SpecRule.TheVariants.{NoLogic, NoKind, NoName, NoColon, NameTaken, TooManyItems, Undeclared, DefinedLate}
use Rattle.ml_spec.specs.private.Lists.{is_bad, is_taken, too_few, IsFirstInList, IsListFault}
use Rattle.ml_spec.specs.private.Stages.{IsFirstInItem, NotByItself}
use Rattle.ml_spec.proofs.PartSizes.{colon_shortens, kind_fits, kind_shortens, name_fits, name_shortens, one_kind, text_fits}
use Rattle.ml_spec.proofs.TextRefusals.{text_refused_once, written_not_refused, written_once}
use Rattle.ml_spec.proofs.WordLists.{list_fault_place, ComesBehind}
use Rattle.ml_spec.proofs.WordPlaces.{words_in_order, InOrder}
use Rattle.ml_written.specs.Places.{IsFirstUndeclared, IsPropositionAt}
use Rattle.ml_written.specs.Propositions.{is_proposition, propositions}
use Rattle.ml_written.specs.declared.written.Written.{Written}

-- no test gives both answers
pub both_ways : (b : Bool) → b ≡ true → b ≡ false → ⊥
both_ways b one other = cc

pub no_name_for_logics : (k : ItemKind) → k ≡ item.Logics → takes_name k ≡ true → ⊥
no_name_for_logics k is takes = both_ways (takes_name k) takes (ap takes_name is)

pub no_name_for_signals : (k : ItemKind) → k ≡ item.Signals → takes_name k ≡ true → ⊥
no_name_for_signals k is takes = both_ways (takes_name k) takes (ap takes_name is)

module _ (l : Logic) (before : List Statement) (i : ItemText) where
  -- ---- places

  abbrev pub start : ℕ
  start = place_of i (behind_kind i)

  -- behind the kind, behind the name, and behind the colon
  kind_at : (k : ItemKind) → HasKind i k → i.at < start
  kind_at k has = omega (arith, kind_shortens i k has)

  name_at : (k : ItemKind) → HasName l i k → start < place_of i (behind_name i)
  name_at k has = omega (arith, kind_fits i, name_fits i, name_shortens l i k has.1)

  colon_at : (k : ItemKind) → HasColon l i k → (rest : List ℕ)
      → length rest ≤ length (text_of i)
      → place_of i (behind_name i) < place_of i rest
  colon_at k has rest le = omega (arith, name_fits i, colon_shortens (behind_name i) has.1, le)

  text_at : (k : ItemKind) → HasColon l i k → (j : ℕ) → place_of i (behind_name i) < place_of i (drop j (text_of i))
  text_at k has j = colon_at k has (drop j (text_of i)) (omega (arith, length-drop j (text_of i)))

  end_at : place_of i [] ≡ end_of i
  end_at = omega arith

  pub signals_in_order : InOrder start (end_of i) (signals_of i)
  signals_in_order =
      let size : start + length (behind_kind i) ≡ end_of i = omega (arith, kind_fits i) in
      subst (λ e. InOrder start e (signals_of i)) size (words_in_order start (behind_kind i))

  pub values_in_order : InOrder (place_of i (text_of i)) (end_of i) (values_of i)
  values_in_order =
      let size : place_of i (text_of i) + length (text_of i) ≡ end_of i = omega (arith, text_fits i) in
      subst (λ e. InOrder (place_of i (text_of i)) e (values_of i)) size (words_in_order (place_of i (text_of i)) (text_of i))

  abbrev pub IsSignalFault : ℕ → SpecRule → Type 0
  IsSignalFault k s = IsListFault (is_proposition l) (IsTakenSignal (known before)) 1 (signals_of i) (end_of i) k s

  abbrev pub IsValueFault : ℕ → SpecRule → Type 0
  IsValueFault k s = IsListFault (is_value (name_of i)) (IsTakenValue (known before) (name_of i)) 2 (values_of i) (end_of i) k s

  signal_place : (k : ℕ) (s : SpecRule) → IsSignalFault k s → (start ≤ k) × (k ≤ end_of i)
  signal_place k s fault =
      list_fault_place (is_proposition l) (IsTakenSignal (known before)) 1 (signals_of i) start (end_of i) k s (omega arith)
      signals_in_order fault

  value_place : (k : ℕ) (s : SpecRule) → IsValueFault k s → (place_of i (text_of i) ≤ k) × (k ≤ end_of i)
  value_place k s fault =
      list_fault_place (is_value (name_of i)) (IsTakenValue (known before) (name_of i)) 2 (values_of i)
      (place_of i (text_of i)) (end_of i) k s (omega arith) values_in_order fault

  value_behind : HasColon l i item.Enumeration → (k : ℕ) (s : SpecRule) → IsValueFault k s → place_of i (behind_name i) < k
  value_behind has k s fault =
      omega (arith, colon_at item.Enumeration has (text_of i) (omega arith), (value_place k s fault).0)

  pub record IsWithinItem (k : ℕ) : Type 0 where
    pub behind : i.at ≤ k
    pub before_end : k ≤ i.at + length i.bytes

  within : (k : ℕ) (rest : List ℕ) → k ≡ place_of i rest → IsWithinItem k
  within k rest is = record { behind = omega arith; before_end = omega arith }

  front : (k : ℕ) → k ≡ i.at → IsWithinItem k
  front k is = record { behind = omega arith; before_end = omega arith }

  in_signals : (k : ℕ) (s : SpecRule) → IsSignalFault k s → IsWithinItem k
  in_signals k s fault =
      let place = signal_place k s fault in record { behind = omega (arith, place.0); before_end = omega (arith, place.1) }

  in_values : (k : ℕ) (s : SpecRule) → IsValueFault k s → IsWithinItem k
  in_values k s fault =
      let place = value_place k s fault in record { behind = omega (arith, place.0); before_end = omega (arith, place.1) }

  pub fault_place : (s : SpecRule) (k : ℕ) → IsItemFault l before i k s → IsWithinItem k
  fault_place s k (other_logic has not is) = front k is
  fault_place s k (no_kind none is) = front k is
  fault_place s k (too_many many is) = front k is
  fault_place s k (no_name q takes bad is) = within k (behind_kind i) is
  fault_place s k (name_taken q has taken is) = within k (behind_kind i) is
  fault_place s k (no_colon q has none is) = within k (behind_name i) is
  fault_place s k (no_signal has bad) = in_signals k NoName (is_bad bad)
  fault_place s k (too_few_signals has few is) = in_signals k NoName (too_few few is)
  fault_place s k (signal_taken has taken) = in_signals k NameTaken (is_taken taken)
  fault_place s k (no_value has bad) = in_values k NoName (is_bad bad)
  fault_place s k (too_few_values has few is) = in_values k NoName (too_few few is)
  fault_place s k (value_taken has taken) = in_values k NameTaken (is_taken taken)
  fault_place s k (refused q j has wrong is) = within k (drop j (text_of i)) is
  fault_place s k (undeclared q w j p has told written stands wrong is) = within k (drop j (text_of i)) is
  fault_place s k (defined_late has spoken is) = within k (behind_kind i) is
  fault_place s k (defined_by_itself w has written own is) = within k (behind_kind i) is

  -- ---- faults at the front, and those behind it

  pub data IsFrontFault (k : ℕ) : SpecRule → Type 0 where
    another_logic : HasKind i item.Logics → ¬ (behind_kind i ≡ logic_word l) → k ≡ i.at → IsFrontFault k NoLogic
    without_kind : ((q : ItemKind) → ¬ (IsOfKind l i q)) → k ≡ i.at → IsFrontFault k NoKind
    without_room : length before ≡ most_items → k ≡ i.at → IsFrontFault k TooManyItems

  pub record IsBehindFront (k : ℕ) : Type 0 where
    pub kind : ItemKind
    pub is_kind : IsOfKind l i kind
    pub behind : i.at < k

  by_name : (q : ItemKind) (k : ℕ) → IsOfKind l i q → start ≤ k → IsBehindFront k
  by_name q k is le = record { kind = q; is_kind = is; behind = omega (arith, kind_at q is.0, le) }

  by_signal : (k : ℕ) (s : SpecRule) → HasKind i item.Signals → IsSignalFault k s → IsBehindFront k
  by_signal k s has fault = by_name item.Signals k (has, refl) (signal_place k s fault).0

  by_value : (k : ℕ) (s : SpecRule) → HasColon l i item.Enumeration → IsValueFault k s → IsBehindFront k
  by_value k s has fault =
      by_name item.Enumeration k has.0.0.0 (omega (arith, value_behind has k s fault, name_at item.Enumeration has.0))

  by_text : (q : ItemKind) (k j : ℕ) → HasText l i q → k ≡ place_of i (drop j (text_of i)) → IsBehindFront k
  by_text q k j has is = by_name q k has.0.0.0.0 (omega (arith, is, text_at q has.0 j, name_at q has.0.0))

  pub at_front : (s : SpecRule) (k : ℕ) → IsItemFault l before i k s → IsFrontFault k s ⊎ IsBehindFront k
  at_front s k (other_logic has not is) = inl (another_logic has not is)
  at_front s k (no_kind none is) = inl (without_kind none is)
  at_front s k (too_many many is) = inl (without_room many is)
  at_front s k (no_name q takes bad is) = inr (by_name q k takes.0 (omega (arith, is)))
  at_front s k (name_taken q has taken is) = inr (by_name q k has.0.0 (omega (arith, is)))
  at_front s k (no_colon q has none is) = inr (by_name q k has.0.0 (omega (arith, is, name_at q has)))
  at_front s k (no_signal has bad) = inr (by_signal k NoName has (is_bad bad))
  at_front s k (too_few_signals has few is) = inr (by_signal k NoName has (too_few few is))
  at_front s k (signal_taken has taken) = inr (by_signal k NameTaken has (is_taken taken))
  at_front s k (no_value has bad) = inr (by_value k NoName has (is_bad bad))
  at_front s k (too_few_values has few is) = inr (by_value k NoName has (too_few few is))
  at_front s k (value_taken has taken) = inr (by_value k NameTaken has (is_taken taken))
  at_front s k (refused q j has wrong is) = inr (by_text q k j has is)
  at_front s k (undeclared q w j p has told written stands wrong is) = inr (by_text q k j has is)
  at_front s k (defined_late has spoken is) = inr (by_name item.Definition k has.0.0 (omega (arith, is)))
  at_front s k (defined_by_itself w has written own is) = inr (by_name item.Definition k has.0.0.0.0 (omega (arith, is)))

  pub first_kind : ((q : ItemKind) → ¬ (IsOfKind l i q)) → IsFirstInItem l before i NoKind i.at
  first_kind none = record { comes = no_kind none refl; first = λ s k fault. by s k (at_front s k fault) }
    where
      by : (s : SpecRule) (k : ℕ) → IsFrontFault k s ⊎ IsBehindFront k → ComesBehind NoKind i.at s k
      by s k (inl (another_logic has not is)) = absurd (none item.Logics (has, refl))
      by s k (inl (without_kind again is)) = inr (sym is, omega arith)
      by s k (inl (without_room many is)) = inr (sym is, omega arith)
      by s k (inr fault) = inl fault.behind

  pub first_logic : HasKind i item.Logics → ¬ (behind_kind i ≡ logic_word l) → IsFirstInItem l before i NoLogic i.at
  first_logic has not = record { comes = other_logic has not refl; first = λ s k fault. by s k (at_front s k fault) }
    where
      by : (s : SpecRule) (k : ℕ) → IsFrontFault k s ⊎ IsBehindFront k → ComesBehind NoLogic i.at s k
      by s k (inl (another_logic again wrong is)) = inr (sym is, omega arith)
      by s k (inl (without_kind none is)) = absurd (none item.Logics (has, refl))
      by s k (inl (without_room many is)) = inr (sym is, omega arith)
      by s k (inr fault) = inl fault.behind

  pub first_many : (q : ItemKind)
      → IsOfKind l i q
      → (q ≡ item.Logics → behind_kind i ≡ logic_word l)
      → length before ≡ most_items
      → IsFirstInItem l before i TooManyItems i.at
  first_many q kind same many = record { comes = too_many many refl; first = λ s k fault. by s k (at_front s k fault) }
    where
      by : (s : SpecRule) (k : ℕ) → IsFrontFault k s ⊎ IsBehindFront k → ComesBehind TooManyItems i.at s k
      by s k (inl (another_logic has not is)) = absurd (not (same (one_kind i q item.Logics kind.0 has)))
      by s k (inl (without_kind none is)) = absurd (none q kind)
      by s k (inl (without_room again is)) = inr (sym is, omega arith)
      by s k (inr fault) = inl fault.behind

  module _ (room : length before < most_items) where
    no_many : length before ≡ most_items → ⊥
    no_many many = omega (arith, room, many)

    -- ---- signals

    pub signal_fault : HasKind i item.Signals → (s : SpecRule) (k : ℕ) → IsItemFault l before i k s → IsSignalFault k s
    signal_fault signals s k (other_logic has not is) = absurd (other (one_kind i item.Signals item.Logics signals has))
      where
        other : item.Signals ≡ item.Logics → ⊥
        other e = cc
    signal_fault signals s k (no_kind none is) = absurd (none item.Signals (signals, refl))
    signal_fault signals s k (too_many many is) = absurd (no_many many)
    signal_fault signals s k (no_name q takes bad is) =
        absurd (no_name_for_signals q (one_kind i q item.Signals takes.0.0 signals) takes.1)
    signal_fault signals s k (name_taken q has taken is) =
        absurd (no_name_for_signals q (one_kind i q item.Signals has.0.0.0 signals) has.0.1)
    signal_fault signals s k (no_colon q has none is) =
        absurd (no_name_for_signals q (one_kind i q item.Signals has.0.0.0 signals) has.0.1)
    signal_fault signals s k (no_signal has bad) = is_bad bad
    signal_fault signals s k (too_few_signals has few is) = too_few few is
    signal_fault signals s k (signal_taken has taken) = is_taken taken
    signal_fault signals s k (no_value has bad) =
        absurd (no_name_for_signals item.Enumeration (one_kind i item.Enumeration item.Signals has.0.0.0.0 signals) refl)
    signal_fault signals s k (too_few_values has few is) =
        absurd (no_name_for_signals item.Enumeration (one_kind i item.Enumeration item.Signals has.0.0.0.0 signals) refl)
    signal_fault signals s k (value_taken has taken) =
        absurd (no_name_for_signals item.Enumeration (one_kind i item.Enumeration item.Signals has.0.0.0.0 signals) refl)
    signal_fault signals s k (refused q j has wrong is) =
        absurd (no_name_for_signals q (one_kind i q item.Signals has.0.0.0.0.0 signals) has.0.0.0.1)
    signal_fault signals s k (undeclared q w j p has told written stands wrong is) =
        absurd (no_name_for_signals q (one_kind i q item.Signals has.0.0.0.0.0 signals) has.0.0.0.1)
    signal_fault signals s k (defined_late has spoken is) =
        absurd (no_name_for_signals item.Definition (one_kind i item.Definition item.Signals has.0.0.0 signals) refl)
    signal_fault signals s k (defined_by_itself w has written own is) =
        absurd (no_name_for_signals item.Definition (one_kind i item.Definition item.Signals has.0.0.0.0.0 signals) refl)

    of_signals : HasKind i item.Signals → (s : SpecRule) (k : ℕ) → IsSignalFault k s → IsItemFault l before i k s
    of_signals has s k (is_bad bad) = no_signal has bad
    of_signals has s k (too_few few is) = too_few_signals has few is
    of_signals has s k (is_taken taken) = signal_taken has taken

    pub first_signal : HasKind i item.Signals → (r : SpecRule) (at : ℕ)
        → IsFirstInList (is_proposition l) (IsTakenSignal (known before)) 1 (signals_of i) (end_of i) r at
        → IsFirstInItem l before i r at
    first_signal has r at is = record {
      comes = of_signals has r at is.comes;
      first = λ s k fault. is.first s k (signal_fault has s k fault);
    }

    -- ---- items with names

    module _ (q : ItemKind) where
      pub data IsNamedFault (k : ℕ) : SpecRule → Type 0 where
        bad_name : is_good l q (name_of i) ≡ false → k ≡ start → IsNamedFault k NoName
        taken_name : HasName l i q → IsTaken (known before) q (name_of i) → k ≡ start → IsNamedFault k NameTaken
        late_name : q ≡ item.Definition → HasName l i q → IsMember (name_of i) (known before).spoken → k ≡ start
            → IsNamedFault k DefinedLate
        own_name : (w : Written) → q ≡ item.Definition → HasText l i q → IsWrittenIn l (text_of i) w
            → IsMember (name_of i) (propositions w)
            → k ≡ start
            → IsNamedFault k DefinedLate
        without_colon : HasName l i q → begins_with_colon (behind_name i) ≡ false → k ≡ place_of i (behind_name i)
            → IsNamedFault k NoColon
        bad_values : {s : SpecRule} → q ≡ item.Enumeration → HasColon l i q → IsValueFault k s → IsNamedFault k s
        bad_text : {s : SpecRule} (j : ℕ) → HasText l i q → IsTextRefused l (text_of i) s j
            → k ≡ place_of i (drop j (text_of i))
            → IsNamedFault k s
        bad_proposition : (w : Written) (j : ℕ) (p : List ℕ)
            → HasText l i q
            → (known before).has_signals ≡ true
            → IsWrittenIn l (text_of i) w
            → IsPropositionAt (text_of i) w j p
            → ¬ (IsDeclared (known before).declared p)
            → k ≡ place_of i (drop j (text_of i))
            → IsNamedFault k Undeclared

      module _ (takes : TakesName l i q) where
        same : (p : ItemKind) → HasKind i p → p ≡ q
        same p has = one_kind i p q has takes.0.0

        no_signals : HasKind i item.Signals → ⊥
        no_signals has = no_name_for_signals q (sym (same item.Signals has)) takes.1

        values : (k : ℕ) (s : SpecRule) → HasColon l i item.Enumeration → IsValueFault k s → IsNamedFault k s
        values k s has fault =
            let e = same item.Enumeration has.0.0.0.0 in bad_values (sym e) (subst (HasColon l i) e has) fault

        pub named_fault : (s : SpecRule) (k : ℕ) → IsItemFault l before i k s → IsNamedFault k s
        named_fault s k (other_logic has not is) = absurd (no_name_for_logics q (sym (same item.Logics has)) takes.1)
        named_fault s k (no_kind none is) = absurd (none q takes.0)
        named_fault s k (too_many many is) = absurd (no_many many)
        named_fault s k (no_name p other bad is) =
            bad_name (subst (λ p. is_good l p (name_of i) ≡ false) (same p other.0.0) bad) is
        named_fault s k (name_taken p has taken is) =
            let e = same p has.0.0.0 in
            taken_name (subst (HasName l i) e has) (subst (λ p. IsTaken (known before) p (name_of i)) e taken) is
        named_fault s k (no_colon p has none is) = without_colon (subst (HasName l i) (same p has.0.0.0) has) none is
        named_fault s k (no_signal has bad) = absurd (no_signals has)
        named_fault s k (too_few_signals has few is) = absurd (no_signals has)
        named_fault s k (signal_taken has taken) = absurd (no_signals has)
        named_fault s k (no_value has bad) = values k NoName has (is_bad bad)
        named_fault s k (too_few_values has few is) = values k NoName has (too_few few is)
        named_fault s k (value_taken has taken) = values k NameTaken has (is_taken taken)
        named_fault s k (refused p j has wrong is) = bad_text j (subst (HasText l i) (same p has.0.0.0.0.0) has) wrong is
        named_fault s k (undeclared p w j x has told written stands wrong is) =
            bad_proposition w j x (subst (HasText l i) (same p has.0.0.0.0.0) has) told written stands wrong is
        named_fault s k (defined_late has spoken is) =
            let e = same item.Definition has.0.0.0 in late_name (sym e) (subst (HasName l i) e has) spoken is
        named_fault s k (defined_by_itself w has written own is) =
            let e = same item.Definition has.0.0.0.0.0 in own_name w (sym e) (subst (HasText l i) e has) written own is

        -- what stands behind the colon is behind the name
        behind_values : (k : ℕ) (s : SpecRule) → q ≡ item.Enumeration → HasColon l i q → IsValueFault k s → place_of i (behind_name i) < k
        behind_values k s e has fault = value_behind (subst (HasColon l i) e has) k s fault

        -- what holds of a fault of each sort holds of every fault
        abbrev Follows : SpecRule → ℕ → Type 0
        Follows r at = (s : SpecRule) (k : ℕ) → IsNamedFault k s → ComesBehind r at s k

        firstly : (r : SpecRule) (at : ℕ) → IsItemFault l before i at r → Follows r at → IsFirstInItem l before i r at
        firstly r at comes follows = record { comes = comes; first = λ s k fault. follows s k (named_fault s k fault) }

        pub first_name : is_good l q (name_of i) ≡ false → IsFirstInItem l before i NoName start
        first_name bad = firstly NoName start (no_name q takes bad refl) by
          where
            not_good : HasName l i q → ⊥
            not_good has = both_ways (is_good l q (name_of i)) has.1 bad

            by : Follows NoName start
            by s k (bad_name again is) = inr (sym is, omega arith)
            by s k (taken_name has taken is) = absurd (not_good has)
            by s k (late_name e has spoken is) = absurd (not_good has)
            by s k (own_name w e has written own is) = absurd (not_good has.0.0)
            by s k (without_colon has none is) = absurd (not_good has)
            by s k (bad_values e has fault) = absurd (not_good has.0)
            by s k (bad_text j has wrong is) = absurd (not_good has.0.0)
            by s k (bad_proposition w j p has signals written stands wrong is) = absurd (not_good has.0.0)

        module _ (name : HasName l i q) where
          not_bad : is_good l q (name_of i) ≡ false → ⊥
          not_bad bad = both_ways (is_good l q (name_of i)) name.1 bad

          behind_start : (k : ℕ) → place_of i (behind_name i) < k → start < k
          behind_start k less = omega (arith, name_at q name, less)

          pub first_taken : IsTaken (known before) q (name_of i) → IsFirstInItem l before i NameTaken start
          first_taken taken = firstly NameTaken start (name_taken q name taken refl) by
            where
              by : Follows NameTaken start
              by s k (bad_name bad is) = absurd (not_bad bad)
              by s k (taken_name has again is) = inr (sym is, omega arith)
              by s k (late_name e has spoken is) = inr (sym is, omega arith)
              by s k (own_name w e has written own is) = inr (sym is, omega arith)
              by s k (without_colon has none is) = inl (omega (arith, name_at q name, is))
              by s k (bad_values e has fault) = inl (behind_start k (behind_values k s e has fault))
              by s k (bad_text j has wrong is) = inl (omega (arith, name_at q name, text_at q has.0 j, is))
              by s k (bad_proposition w j p has signals written stands wrong is) =
                  inl (omega (arith, name_at q name, text_at q has.0 j, is))

          module _ (new : ¬ (IsTaken (known before) q (name_of i))) where
            pub first_late : q ≡ item.Definition
                → IsMember (name_of i) (known before).spoken
                → IsFirstInItem l before i DefinedLate start
            first_late e spoken =
                firstly DefinedLate start (defined_late (subst (HasName l i) e name) spoken refl) by
              where
                by : Follows DefinedLate start
                by s k (bad_name bad is) = absurd (not_bad bad)
                by s k (taken_name has taken is) = absurd (new taken)
                by s k (late_name e has again is) = inr (sym is, omega arith)
                by s k (own_name w e has written own is) = inr (sym is, omega arith)
                by s k (without_colon has none is) = inl (omega (arith, name_at q name, is))
                by s k (bad_values e has fault) = inl (behind_start k (behind_values k s e has fault))
                by s k (bad_text j has wrong is) = inl (omega (arith, name_at q name, text_at q has.0 j, is))
                by s k (bad_proposition w j p has signals written stands wrong is) =
                    inl (omega (arith, name_at q name, text_at q has.0 j, is))

            pub first_own : (w : Written)
                → q ≡ item.Definition
                → HasText l i q
                → IsWrittenIn l (text_of i) w
                → IsMember (name_of i) (propositions w)
                → IsFirstInItem l before i DefinedLate start
            first_own w e text written own =
                firstly DefinedLate start (defined_by_itself w (subst (HasText l i) e text) written own refl) by
              where
                by : Follows DefinedLate start
                by s k (bad_name bad is) = absurd (not_bad bad)
                by s k (taken_name has taken is) = absurd (new taken)
                by s k (late_name e has spoken is) = inr (sym is, omega arith)
                by s k (own_name w e has again other is) = inr (sym is, omega arith)
                by s k (without_colon has none is) = inl (omega (arith, name_at q name, is))
                by s k (bad_values e has fault) = inl (behind_start k (behind_values k s e has fault))
                by s k (bad_text j has wrong is) = inl (omega (arith, name_at q name, text_at q has.0 j, is))
                by s k (bad_proposition w j p has signals written stands wrong is) =
                    inl (omega (arith, name_at q name, text_at q has.0 j, is))

            module _ (early : q ≡ item.Definition → ¬ (IsMember (name_of i) (known before).spoken)) where
              pub first_colon : begins_with_colon (behind_name i) ≡ false
                  → IsFirstInItem l before i NoColon (place_of i (behind_name i))
              first_colon wrong = firstly NoColon (place_of i (behind_name i)) (no_colon q name wrong refl) by
                where
                  no_text : HasColon l i q → ⊥
                  no_text has = both_ways (begins_with_colon (behind_name i)) has.1 wrong

                  by : Follows NoColon (place_of i (behind_name i))
                  by s k (bad_name bad is) = absurd (not_bad bad)
                  by s k (taken_name has taken is) = absurd (new taken)
                  by s k (late_name e has spoken is) = absurd (early e spoken)
                  by s k (own_name w e has written own is) = absurd (no_text has.0)
                  by s k (without_colon has none is) = inr (sym is, omega arith)
                  by s k (bad_values e has fault) = absurd (no_text has)
                  by s k (bad_text j has again is) = absurd (no_text has.0)
                  by s k (bad_proposition w j p has signals written stands again is) = absurd (no_text has.0)

              module _ (colon : HasColon l i q) where
                has_colon : begins_with_colon (behind_name i) ≡ false → ⊥
                has_colon none = both_ways (begins_with_colon (behind_name i)) colon.1 none

                pub first_value : q ≡ item.Enumeration → (r : SpecRule) (at : ℕ)
                    → IsFirstInList (is_value (name_of i)) (IsTakenValue (known before) (name_of i)) 2 (values_of i) (end_of i) r at
                    → IsFirstInItem l before i r at
                first_value e r at is = firstly r at (comes r is.comes) by
                  where
                    comes : (s : SpecRule) → IsValueFault at s → IsItemFault l before i at s
                    comes s (is_bad bad) = no_value (subst (HasColon l i) e colon) bad
                    comes s (too_few few at_end) = too_few_values (subst (HasColon l i) e colon) few at_end
                    comes s (is_taken taken) = value_taken (subst (HasColon l i) e colon) taken

                    no_formula : HasText l i q → ⊥
                    no_formula has = both_ways (has_formula q) has.1 (ap has_formula e)

                    by : Follows r at
                    by s k (bad_name bad is) = absurd (not_bad bad)
                    by s k (taken_name has taken is) = absurd (new taken)
                    by s k (late_name d has spoken is) = absurd (early d spoken)
                    by s k (own_name w d has written own is) = absurd (no_formula has)
                    by s k (without_colon has none is) = absurd (has_colon none)
                    by s k (bad_values d has fault) = is.first s k fault
                    by s k (bad_text j has wrong is) = absurd (no_formula has)
                    by s k (bad_proposition w j p has signals written stands wrong is) = absurd (no_formula has)

              module _ (text : HasText l i q) where
                no_values : q ≡ item.Enumeration → ⊥
                no_values e = both_ways (has_formula q) text.1 (ap has_formula e)

                a_colon : begins_with_colon (behind_name i) ≡ false → ⊥
                a_colon none = both_ways (begins_with_colon (behind_name i)) text.0.1 none

                same_place : (r s : SpecRule) (j k at : ℕ)
                    → (r ≡ s) × (j ≡ k)
                    → at ≡ place_of i (drop k (text_of i))
                    → ComesBehind r (place_of i (drop j (text_of i))) s at
                same_place r s j k at both is =
                    let le : rule_number r ≤ rule_number s = subst (λ t. rule_number r ≤ rule_number t) both.0 (omega arith) in
                    inr (ap (λ n. place_of i (drop n (text_of i))) both.1 ∙ sym is, le)

                pub first_refused : (r : SpecRule) (j : ℕ)
                    → IsTextRefused l (text_of i) r j
                    → IsFirstInItem l before i r (place_of i (drop j (text_of i)))
                first_refused r j wrong = firstly r (place_of i (drop j (text_of i))) (refused q j text wrong refl) by
                  where
                    by : Follows r (place_of i (drop j (text_of i)))
                    by s k (bad_name bad is) = absurd (not_bad bad)
                    by s k (taken_name has taken is) = absurd (new taken)
                    by s k (late_name d has spoken is) = absurd (early d spoken)
                    by s k (own_name w d has written own is) =
                        absurd (written_not_refused l (text_of i) w r j written.0 written.1 wrong)
                    by s k (without_colon has none is) = absurd (a_colon none)
                    by s k (bad_values d has fault) = absurd (no_values d)
                    by s k (bad_text m has again is) =
                        same_place r s j m k (text_refused_once l (text_of i) r s j m wrong again) is
                    by s k (bad_proposition w m p has signals written stands gone is) =
                        absurd (written_not_refused l (text_of i) w r j written.0 written.1 wrong)

                pub first_undeclared : (w : Written) (j : ℕ)
                    → IsWrittenIn l (text_of i) w
                    → NotByItself q i w
                    → (known before).has_signals ≡ true
                    → IsFirstUndeclared (keys_of (known before).declared) (text_of i) w j
                    → IsFirstInItem l before i Undeclared (place_of i (drop j (text_of i)))
                first_undeclared w j written other told is =
                    firstly Undeclared (place_of i (drop j (text_of i)))
                    (undeclared q w j is.name text told written is.stands is.undeclared refl) by
                  where
                    place : ℕ → ℕ
                    place n = place_of i (drop n (text_of i))

                    behind_first : (m k : ℕ) → j ≤ m → k ≡ place m → ComesBehind Undeclared (place j) Undeclared k
                    behind_first m k le at =
                        ⊎_elim (λ (less : place j < k). inl less)
                        (λ (more : k ≤ place j).
                        inr (omega (arith, more, at, le, length-drop j (text_of i), length-drop m (text_of i)), omega arith))
                        (cases_lt (place j) k)

                    at_least : (v : Written) (m k : ℕ) (p : List ℕ)
                        → v ≡ w
                        → IsPropositionAt (text_of i) v m p
                        → ¬ (IsDeclared (known before).declared p)
                        → k ≡ place m
                        → ComesBehind Undeclared (place j) Undeclared k
                    at_least v m k p same stands wrong at =
                        ⊎_elim
                        (λ (less : m < j).
                        absurd (wrong (is.first m p less (subst (λ u. IsPropositionAt (text_of i) u m p) same stands))))
                        (λ (more : j ≤ m). behind_first m k more at)
                        (cases_lt m j)

                    by : Follows Undeclared (place_of i (drop j (text_of i)))
                    by s k (bad_name bad is) = absurd (not_bad bad)
                    by s k (taken_name has taken is) = absurd (new taken)
                    by s k (late_name d has spoken is) = absurd (early d spoken)
                    by s k (own_name v d has again own is) =
                        absurd (other d (subst (λ u. IsMember (name_of i) (propositions u)) (written_once l (text_of i) v w again written) own))
                    by s k (without_colon has none is) = absurd (a_colon none)
                    by s k (bad_values d has fault) = absurd (no_values d)
                    by s k (bad_text m has wrong is) = absurd (written_not_refused l (text_of i) w s m written.0 written.1 wrong)
                    by s k (bad_proposition v m p has signals again stands wrong is) =
                        at_least v m k p (written_once l (text_of i) v w again written) stands wrong is
