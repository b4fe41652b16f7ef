-- Each item is read as a next statement, or has a first fault; and so is a text.
--
--   item_answer     == an item is a next statement, or has a first fault
--   items_answer    == the items of a text are read, one behind the other, or one of them stops
--   read_more       == one item more is read
use Rattle.std.proofs.Common.{◌≡◌, ℕ, ◌<◌, ◌≤◌, ◌⊎◌, Bool, true, false, List, [], ◌∷◌, ◌++◌, drop, length, bytes_eq, Contains, Option, Some, None, inl, inr, refl, sym, subst, ◌∙◌, arith, append_assoc, length-append}
use Rattle.std.specs.Map.{keys_of}
use Rattle.std.specs.Set.{is_member}
use Rattle.std.proofs.lemmas.Bool.{false≢true}
use Rattle.std.proofs.lemmas.Map.Made.{is_member-Decides}
use Rattle.std.proofs.lemmas.Slice.Eq.{bytes_eq-Decides}
use Rattle.ml_lists.specs.Member.{IsMember}
use Rattle.ml_lists.proofs.Decided.{Decided, decided_bytes, decided_less, decided_same, decided_test}
use Rattle.ml_lists.proofs.Members.{contains_of_member, member_of_contains}
use Rattle.ml_front.specs.Logics.{logic_word}
use Rattle.ml_front.specs.declared.logic.Logic.{Logic}
use Rattle.ml_spec.specs.Faults.{end_of, IsTaken, IsTextRefused}
use Rattle.ml_spec.specs.ItemParts.{behind_kind, behind_name, is_good, name_of, place_of, signals_of, text_of, values_of}
use Rattle.ml_spec.specs.ItemParts.{HasColon, HasKind, HasName, HasText, IsOfKind, TakesName}
use Rattle.ml_spec.specs.Items.{ItemText, begins_with_colon, first_word}
use Rattle.ml_spec.specs.Kinds.{item_word, may_stand}
use Rattle.ml_spec.specs.Known.{known, AreAllDeclared, Fits, IsTakenSignal, IsTakenValue}
use Rattle.ml_spec.specs.Specification.{most_items}
use Rattle.ml_spec.specs.Statements.{is_value, IsSaid, IsWrittenIn, Saying, Statement}
use Rattle.ml_spec.specs.Statements as says
use Rattle.ml_spec.specs.Words.{words_of}
use Rattle.ml_spec.specs.declared.context.Declared.{Declared}
use Rattle.ml_spec.specs.declared.context.Declared.TheVariants.{Made, Signal}
use Rattle.ml_spec.specs.declared.kind.ItemKind.{ItemKind}
use Rattle.ml_spec.specs.declared.kind.ItemKind.TheVariants as item
use Rattle.ml_spec.specs.declared.kind.Kind.TheVariants as kind
use Rattle.ml_spec.specs.declared.rule.SpecRule.{SpecRule}
use Rattle.ml_spec.specs.declared.rule.SpecRule.TheVariants.{NoLogic, NoKind, NoName, NoColon, NameTaken, TooManyItems, Undeclared, DefinedLate}
use Rattle.ml_spec.specs.private.Lists.{AreListed, IsFirstInList}
use Rattle.ml_spec.specs.private.Stages.{IsFirstInItem, IsNext, IsReadTo, IsStopped}
use Rattle.ml_spec.proofs.ItemFaults.{first_colon, first_kind, first_late, first_logic, first_many, first_name, first_own, first_refused}
use Rattle.ml_spec.proofs.ItemFaults.{first_signal, first_taken, first_undeclared, first_value, signals_in_order, start, values_in_order}
use Rattle.ml_spec.proofs.TextFaults.{fitting_more, statements_more}
use Rattle.ml_spec.proofs.TextRefusals.{written_or_refused}
use Rattle.ml_spec.proofs.Undeclared.{some_undeclared}
use Rattle.ml_spec.proofs.WordLists.{as_many, list_answer}
use Rattle.ml_written.specs.Places.{AreDeclared, IsFirstUndeclared}
use Rattle.ml_written.specs.Propositions.{is_proposition, propositions}
use Rattle.ml_written.specs.declared.written.Written.{Written}

-- ---- what is decided

abbrev HasSomeKind : Logic → ItemText → Type 0
HasSomeKind l i = (q : ItemKind) × IsOfKind l i q

decided_word : (i : ItemText) (q : ItemKind) → Decided (HasKind i q)
decided_word i q = decided_bytes (first_word i.bytes) (item_word q)

pub decided_kind : (l : Logic) (i : ItemText) → Decided (HasSomeKind l i)
decided_kind l i =
    by (decided_word i item.Logics) (decided_word i item.Signals) (decided_word i item.Enumeration)
    (decided_test (may_stand l item.Enumeration)) (decided_word i item.Definition)
    (decided_word i (item.Stated kind.Require)) (decided_word i (item.Stated kind.Possible))
    (decided_word i (item.Stated kind.Follows))
  where
    by : Decided (HasKind i item.Logics)
        → Decided (HasKind i item.Signals)
        → Decided (HasKind i item.Enumeration)
        → Decided (may_stand l item.Enumeration ≡ true)
        → Decided (HasKind i item.Definition)
        → Decided (HasKind i (item.Stated kind.Require))
        → Decided (HasKind i (item.Stated kind.Possible))
        → Decided (HasKind i (item.Stated kind.Follows))
        → Decided (HasSomeKind l i)
    by (inl is) b c m d e f g = inl (item.Logics, (is, refl))
    by (inr a) (inl is) c m d e f g = inl (item.Signals, (is, refl))
    by (inr a) (inr b) (inl is) (inl may) d e f g = inl (item.Enumeration, (is, may))
    by (inr a) (inr b) c m (inl is) e f g = inl (item.Definition, (is, refl))
    by (inr a) (inr b) c m (inr d) (inl is) f g = inl (item.Stated kind.Require, (is, refl))
    by (inr a) (inr b) c m (inr d) (inr e) (inl is) g = inl (item.Stated kind.Possible, (is, refl))
    by (inr a) (inr b) c m (inr d) (inr e) (inr f) (inl is) = inl (item.Stated kind.Follows, (is, refl))
    by (inr a) (inr b) (inl is) (inr never) (inr d) (inr e) (inr f) (inr g) = inr (λ (q, both). none q both.0 both.1)
      where
        none : (q : ItemKind) → HasKind i q → may_stand l q ≡ true → ⊥
        none item.Logics has may = a has
        none item.Signals has may = b has
        none item.Enumeration has may = never may
        none item.Definition has may = d has
        none (item.Stated kind.Require) has may = e has
        none (item.Stated kind.Possible) has may = f has
        none (item.Stated kind.Follows) has may = g has
    by (inr a) (inr b) (inr c) m (inr d) (inr e) (inr f) (inr g) = inr (λ (q, both). none q both.0)
      where
        none : (q : ItemKind) → HasKind i q → ⊥
        none item.Logics has = a has
        none item.Signals has = b has
        none item.Enumeration has = c has
        none item.Definition has = d has
        none (item.Stated kind.Require) has = e has
        none (item.Stated kind.Possible) has = f has
        none (item.Stated kind.Follows) has = g has

decided_contains : (ns : List (List ℕ)) (n : List ℕ) → Decided (Contains ns n)
decided_contains ns n =
    let test = is_member-Decides bytes_eq-Decides ns n in
    decided_same test.0 test.1 (decided_test (is_member bytes_eq ns n))

decided_member : (n : List ℕ) (ns : List (List ℕ)) → Decided (IsMember n ns)
decided_member n ns = decided_same (member_of_contains n ns) (contains_of_member n ns) (decided_contains ns n)

decided_made : (o : Option Declared) → Decided (o ≡ Some Made)
decided_made (Some Made) = inl refl
decided_made (Some Signal) = inr (λ e. cc)
decided_made None = inr (λ e. cc)

decided_definition : (q : ItemKind) → Decided (q ≡ item.Definition)
decided_definition item.Definition = inl refl
decided_definition item.Logics = inr (λ e. cc)
decided_definition item.Signals = inr (λ e. cc)
decided_definition item.Enumeration = inr (λ e. cc)
decided_definition (item.Stated k) = inr (λ e. cc)

decided_logics : (q : ItemKind) → Decided (q ≡ item.Logics)
decided_logics item.Logics = inl refl
decided_logics item.Definition = inr (λ e. cc)
decided_logics item.Signals = inr (λ e. cc)
decided_logics item.Enumeration = inr (λ e. cc)
decided_logics (item.Stated k) = inr (λ e. cc)

-- ---- an item

abbrev Answered : Logic → List Statement → ItemText → Type 0
Answered l before i =
    ((s : Statement) × IsNext l before i s) ⊎ ((r : SpecRule) × (at : ℕ) × IsFirstInItem l before i r at)

module _ (l : Logic) (before : List Statement) (i : ItemText) (fits : length before ≤ most_items) where
  module _ (room : length before < most_items) where
    stated : (s : Saying) → IsSaid l i s → Fits (known before) s → Answered l before i
    stated s is fit =
        inl (
          record { at = i.at; says = s },
          record {
            is_statement = record { is_at = refl; is_said = is };
            fits = fit;
            has_room = room;
          },
        )

    by_signals : HasKind i item.Signals → Answered l before i
    by_signals has =
        by (
        list_answer (is_proposition l) (IsTakenSignal (known before)) 1 (signals_of i) (start l before i) (end_of i)
        (signals_in_order l before i) (λ seen p. decided_made _)
        )
      where
        by : AreListed (is_proposition l) (IsTakenSignal (known before)) 1 (signals_of i)
            ⊎ ((r : SpecRule) × (at : ℕ)
            × IsFirstInList (is_proposition l) (IsTakenSignal (known before)) 1 (signals_of i) (end_of i) r at)
            → Answered l before i
        by (inl listed) =
            stated (says.Signals (words_of (signals_of i)))
            (has, refl, listed.are_good, omega (arith, listed.are_enough, as_many (signals_of i))) listed.are_free
        by (inr (r, at, first)) = inr (r, at, first_signal l before i room has r at first)

    module _ (q : ItemKind) (name : HasName l i q) (new : ¬ (IsTaken (known before) q (name_of i)))
        (early : q ≡ item.Definition → ¬ (IsMember (name_of i) (known before).spoken)) where
      by_text : HasText l i q → ((w : Written) → IsWrittenIn l (text_of i) w → AreAllDeclared (known before) w
          → (q ≡ item.Definition → ¬ (IsMember (name_of i) (propositions w))) → Answered l before i) → Answered l before i
      by_text text go = by (written_or_refused l (text_of i))
        where
          by_declared : (w : Written) → IsWrittenIn l (text_of i) w
              → (q ≡ item.Definition → ¬ (IsMember (name_of i) (propositions w)))
              → (b : Bool)
              → (known before).has_signals ≡ b
              → AreDeclared (keys_of (known before).declared) w
              ⊎ ((k : ℕ) × IsFirstUndeclared (keys_of (known before).declared) (text_of i) w k)
              → Answered l before i
          by_declared w written other false none some = go w written (λ told. no_signals told none) other
            where
              no_signals : (known before).has_signals ≡ true → (known before).has_signals ≡ false
                  → AreDeclared (keys_of (known before).declared) w
              no_signals told none = absurd cc
          by_declared w written other true told (inl all) = go w written (λ again. all) other
          by_declared w written other true told (inr (k, first)) =
              inr (
                Undeclared,
                place_of i (drop k (text_of i)),
                first_undeclared l before i room q text.0.0.0 name new early text w k written other told first,
              )

          by_own : (w : Written) → IsWrittenIn l (text_of i) w → Decided (q ≡ item.Definition)
              → Decided (IsMember (name_of i) (propositions w)) → Answered l before i
          by_own w written (inl e) (inl own) =
              inr (DefinedLate, start l before i, first_own l before i room q text.0.0.0 name new w e text written own)
          by_own w written (inl e) (inr other) =
              by_declared w written (λ d. other) (known before).has_signals refl
              (some_undeclared (keys_of (known before).declared) (text_of i) w written.1)
          by_own w written (inr differ) own =
              by_declared w written (λ d is. differ d) (known before).has_signals refl
              (some_undeclared (keys_of (known before).declared) (text_of i) w written.1)

          by : ((w : Written) × IsWrittenIn l (text_of i) w) ⊎ ((r : SpecRule) × (k : ℕ) × IsTextRefused l (text_of i) r k)
              → Answered l before i
          by (inl (w, written)) = by_own w written (decided_definition q) (decided_member (name_of i) (propositions w))
          by (inr (r, k, refused)) =
              inr (
                r,
                place_of i (drop k (text_of i)),
                first_refused l before i room q text.0.0.0 name new early text r k refused,
              )

      by_colon : (HasColon l i q → Answered l before i) → (b : Bool) → begins_with_colon (behind_name i) ≡ b → Answered l before i
      by_colon go true is = go (name, is)
      by_colon go false is =
          inr (NoColon, place_of i (behind_name i), first_colon l before i room q name.0 name new early is)

    by_kind_named : (q : ItemKind) → HasName l i q → (new : ¬ (IsTaken (known before) q (name_of i)))
        → (q ≡ item.Definition → ¬ (IsMember (name_of i) (known before).spoken))
        → Answered l before i
    by_kind_named item.Logics name new early = absurd (false≢true name.0.1)
    by_kind_named item.Signals name new early = absurd (false≢true name.0.1)
    by_kind_named item.Enumeration name new early =
        by_colon item.Enumeration name new early values (begins_with_colon (behind_name i)) refl
      where
        values : HasColon l i item.Enumeration → Answered l before i
        values colon =
            by (
            list_answer (is_value (name_of i)) (IsTakenValue (known before) (name_of i)) 2 (values_of i)
            (place_of i (text_of i)) (end_of i) (values_in_order l before i) (λ seen v. decided_member _ _)
            )
          where
            by : AreListed (is_value (name_of i)) (IsTakenValue (known before) (name_of i)) 2 (values_of i)
                ⊎ ((r : SpecRule) × (at : ℕ)
                × IsFirstInList (is_value (name_of i)) (IsTakenValue (known before) (name_of i)) 2 (values_of i) (end_of i) r at)
                → Answered l before i
            by (inl listed) =
                stated (says.Enumeration (name_of i) (words_of (values_of i)))
                (colon, refl, refl, listed.are_good, omega (arith, listed.are_enough, as_many (values_of i)))
                (new, listed.are_free)
            by (inr (r, at, first)) =
                inr (r, at, first_value l before i room item.Enumeration name.0 name new early colon refl r at first)
    by_kind_named item.Definition name new early =
        by_colon item.Definition name new early formula (begins_with_colon (behind_name i)) refl
      where
        formula : HasColon l i item.Definition → Answered l before i
        formula colon =
            by_text item.Definition name new early (colon, refl)
            (λ w written declared other.
            stated (says.Definition (name_of i) w) ((colon, refl), refl, written) (new, early refl, other refl, declared))
    by_kind_named (item.Stated k) name new early =
        by_colon (item.Stated k) name new early formula (begins_with_colon (behind_name i)) refl
      where
        formula : HasColon l i (item.Stated k) → Answered l before i
        formula colon =
            by_text (item.Stated k) name new early (colon, refl)
            (λ w written declared other.
            stated (says.Stated k (name_of i) w) ((colon, refl), refl, written) (new, declared))

    by_late : (q : ItemKind) → HasName l i q → (new : ¬ (IsTaken (known before) q (name_of i))) → Decided (q ≡ item.Definition)
        → Decided (IsMember (name_of i) (known before).spoken) → Answered l before i
    by_late q name new (inl e) (inl spoken) =
        inr (DefinedLate, start l before i, first_late l before i room q name.0 name new e spoken)
    by_late q name new (inl e) (inr early) = by_kind_named q name new (λ d. early)
    by_late q name new (inr differ) spoken = by_kind_named q name new (λ d is. differ d)

    by_taken : (q : ItemKind) → HasName l i q → Decided (IsTaken (known before) q (name_of i)) → Answered l before i
    by_taken q name (inl taken) = inr (NameTaken, start l before i, first_taken l before i room q name.0 name taken)
    by_taken q name (inr new) =
        by_late q name new (decided_definition q) (decided_member (name_of i) (known before).spoken)

    by_name : (q : ItemKind) → TakesName l i q → (b : Bool) → is_good l q (name_of i) ≡ b → Answered l before i
    by_name q takes true is = by_taken q (takes, is) (decided_taken q (name_of i))
      where
        decided_taken : (q : ItemKind) (n : List ℕ) → Decided (IsTaken (known before) q n)
        decided_taken item.Definition n = decided_member n (keys_of (known before).declared)
        decided_taken item.Logics n = decided_contains (known before).names n
        decided_taken item.Signals n = decided_contains (known before).names n
        decided_taken item.Enumeration n = decided_contains (known before).names n
        decided_taken (item.Stated k) n = decided_contains (known before).names n
    by_name q takes false is = inr (NoName, start l before i, first_name l before i room q takes is)

    by_kind : (q : ItemKind) → IsOfKind l i q → (q ≡ item.Logics → behind_kind i ≡ logic_word l) → Answered l before i
    by_kind item.Logics has same = stated says.Repeated (has.0, same refl) tt
    by_kind item.Signals has same = by_signals has.0
    by_kind item.Enumeration has same =
        by_name item.Enumeration (has, refl) (is_good l item.Enumeration (name_of i)) refl
    by_kind item.Definition has same = by_name item.Definition (has, refl) (is_good l item.Definition (name_of i)) refl
    by_kind (item.Stated k) has same = by_name (item.Stated k) (has, refl) (is_good l (item.Stated k) (name_of i)) refl

  by_room : (q : ItemKind) → IsOfKind l i q → (q ≡ item.Logics → behind_kind i ≡ logic_word l)
      → Decided (length before < most_items) → Answered l before i
  by_room q has same (inl room) = by_kind room q has same
  by_room q has same (inr full) = inr (TooManyItems, i.at, first_many l before i q has same (omega (arith, fits, full)))

  by_logic : (q : ItemKind) → IsOfKind l i q → Decided (q ≡ item.Logics) → Decided (behind_kind i ≡ logic_word l)
      → Answered l before i
  by_logic q has (inr differ) told = by_room q has (λ e. absurd (differ e)) (decided_less (length before) most_items)
  by_logic q has (inl e) (inl same) = by_room q has (λ d. same) (decided_less (length before) most_items)
  by_logic q has (inl e) (inr not) =
      inr (NoLogic, i.at, first_logic l before i (subst (HasKind i) e has.0) not)

  by_some : Decided (HasSomeKind l i) → Answered l before i
  by_some (inl (q, has)) = by_logic q has (decided_logics q) (decided_bytes (behind_kind i) (logic_word l))
  by_some (inr none) = inr (NoKind, i.at, first_kind l before i (λ q has. none (q, has)))

  pub item_answer : Answered l before i
  item_answer = by_some (decided_kind l i)

-- ---- the items of a text

pub read_more : (l : Logic) (all rest : List ItemText) (ss : List Statement) (i : ItemText) (s : Statement)
    → IsReadTo l all (i ∷ rest) ss
    → IsNext l ss i s
    → IsReadTo l all rest (ss ++ s ∷ [])
read_more l all rest ss i s read next = record {
  done = read.done ++ i ∷ [];
  whole = read.whole ∙ sym (append_assoc read.done (i ∷ []) rest);
  are_statements = statements_more l read.done ss i s read.are_statements next.is_statement;
  are_fitting = fitting_more [] ss s read.are_fitting next.fits;
  are_few = omega (arith, next.has_room, length-append ss (s ∷ []));
}

pub none_read : (l : Logic) (all : List ItemText) → IsReadTo l all all []
none_read l all = record { done = []; whole = refl; are_statements = tt; are_fitting = tt; are_few = omega arith }

abbrev pub AreAnswered : Logic → List ItemText → Type 0
AreAnswered l all =
    ((ss : List Statement) × IsReadTo l all [] ss) ⊎ ((r : SpecRule) × (at : ℕ) × IsStopped l all r at)

answer_from : (l : Logic) (all rest : List ItemText) (ss : List Statement) → IsReadTo l all rest ss → AreAnswered l all
answer_from l all [] ss read = inl (ss, read)
answer_from l all (i ∷ rest) ss read = by (item_answer l ss i read.are_few) (answer_from l all rest)
  where
    by : Answered l ss i
        → ((ts : List Statement) → IsReadTo l all rest ts → AreAnswered l all)
        → AreAnswered l all
    by (inl (s, next)) go = go (ss ++ s ∷ []) (read_more l all rest ss i s read next)
    by (inr (r, at, first)) go =
        inr (r, at, record { statements = ss; item = i; after = rest; is_read = read; is_first = first })

pub items_answer : (l : Logic) (all : List ItemText) → AreAnswered l all
items_answer l all = answer_from l all all [] (none_read l all)
