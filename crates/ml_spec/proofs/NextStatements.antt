-- Items as statements: each reads as one at most, and one that reads as a next statement has no fault.
--
--   kind_said, said_kind == of which kind an item is that says this
--   one_statement   == an item is one statement at most
--   next_clean      == where it is a next statement, it has no fault
use Rattle.std.proofs.Common.{◌≡◌, ℕ, ◌<◌, ◌≤◌, Bool, true, false, List, [], length, Contains, refl, sym, ap, subst, ◌∙◌, arith}
use Rattle.std.specs.Map.{keys_of}
use Rattle.ml_lists.specs.Member.{IsMember}
use Rattle.ml_front.specs.Logics.{logic_word}
use Rattle.ml_front.specs.declared.logic.Logic.{Logic}
use Rattle.ml_spec.specs.Faults.{IsItemFault, IsTaken}
use Rattle.ml_spec.specs.Faults.{other_logic, no_kind, too_many, no_name, name_taken, no_colon, no_signal, too_few_signals, signal_taken}
use Rattle.ml_spec.specs.Faults.{no_value, too_few_values, value_taken, refused, undeclared, defined_late, defined_by_itself}
use Rattle.ml_spec.specs.ItemParts.{behind_kind, behind_name, is_good, name_of, signals_of, text_of, values_of, HasKind, HasText}
use Rattle.ml_spec.specs.Items.{ItemText, begins_with_colon}
use Rattle.ml_spec.specs.Kinds.{has_formula, takes_name}
use Rattle.ml_spec.specs.Known.{known, AreAllDeclared, Fits, IsDeclared, IsTakenSignal, IsTakenValue}
use Rattle.ml_spec.specs.Specification.{most_items}
use Rattle.ml_spec.specs.Statements.{is_value, IsSaid, IsStatement, IsWrittenIn, Saying, Statement}
use Rattle.ml_spec.specs.Statements as says
use Rattle.ml_spec.specs.Words.{words_of, AreFree, AreGood}
use Rattle.ml_spec.specs.declared.kind.ItemKind.{ItemKind}
use Rattle.ml_spec.specs.declared.kind.ItemKind.TheVariants as item
use Rattle.ml_spec.specs.declared.kind.Kind.{Kind}
use Rattle.ml_spec.specs.declared.rule.SpecRule.{SpecRule}
use Rattle.ml_spec.specs.private.Lists.{AreListed}
use Rattle.ml_spec.proofs.ItemFaults.{bad_name, taken_name, late_name, own_name, without_colon, bad_values, bad_text, bad_proposition}
use Rattle.ml_spec.proofs.ItemFaults.{both_ways, named_fault, no_name_for_logics, signal_fault, IsNamedFault}
use Rattle.ml_spec.proofs.PartSizes.{one_kind}
use Rattle.ml_spec.proofs.TextRefusals.{written_not_refused, written_once}
use Rattle.ml_spec.proofs.Undeclared.{all_at_places}
use Rattle.ml_spec.proofs.WordLists.{as_many, no_list_fault}
use Rattle.ml_written.specs.Places.{IsPropositionAt}
use Rattle.ml_written.specs.Propositions.{is_proposition, propositions}
use Rattle.ml_written.specs.declared.written.Written.{Written}

abbrev pub kind_said : Saying → ItemKind
kind_said says.Repeated = item.Logics
kind_said (says.Signals ps) = item.Signals
kind_said (says.Enumeration m vs) = item.Enumeration
kind_said (says.Definition p w) = item.Definition
kind_said (says.Stated k n w) = item.Stated k

pub said_kind : (l : Logic) (i : ItemText) (s : Saying) → IsSaid l i s → HasKind i (kind_said s)
said_kind l i says.Repeated is = is.0
said_kind l i (says.Signals ps) is = is.0
said_kind l i (says.Enumeration m vs) is = is.0.0.0.0.0
said_kind l i (says.Definition p w) is = is.0.0.0.0.0.0
said_kind l i (says.Stated k n w) is = is.0.0.0.0.0.0

-- ---- one statement at most

one_stated : (k q : Kind) → item.Stated k ≡ item.Stated q → k ≡ q
one_stated k q same = cc

one_saying : (l : Logic) (i : ItemText) (s t : Saying)
    → kind_said s ≡ kind_said t
    → IsSaid l i s
    → IsSaid l i t
    → s ≡ t
one_saying l i says.Repeated says.Repeated same one other = refl
one_saying l i (says.Signals ps) (says.Signals qs) same one other = ap says.Signals (one.1 ∙ sym other.1)
one_saying l i (says.Enumeration m vs) (says.Enumeration n us) same one other =
    ap (λ w. says.Enumeration w vs) (one.1 ∙ sym other.1) ∙ ap (says.Enumeration n) (one.2 ∙ sym other.2)
one_saying l i (says.Definition p w) (says.Definition q v) same one other =
    ap (λ n. says.Definition n w) (one.1 ∙ sym other.1)
    ∙ ap (says.Definition q) (written_once l (text_of i) w v one.2 other.2)
one_saying l i (says.Stated k n w) (says.Stated q m v) same one other =
    ap (λ j. says.Stated j n w) (one_stated k q same)
    ∙ ap (λ x. says.Stated q x w) (one.1 ∙ sym other.1)
    ∙ ap (says.Stated q m) (written_once l (text_of i) w v one.2 other.2)
one_saying l i says.Repeated (says.Signals qs) same one other = cc
one_saying l i says.Repeated (says.Enumeration n us) same one other = cc
one_saying l i says.Repeated (says.Definition q v) same one other = cc
one_saying l i says.Repeated (says.Stated q m v) same one other = cc
one_saying l i (says.Signals ps) says.Repeated same one other = cc
one_saying l i (says.Signals ps) (says.Enumeration n us) same one other = cc
one_saying l i (says.Signals ps) (says.Definition q v) same one other = cc
one_saying l i (says.Signals ps) (says.Stated q m v) same one other = cc
one_saying l i (says.Enumeration m vs) says.Repeated same one other = cc
one_saying l i (says.Enumeration m vs) (says.Signals qs) same one other = cc
one_saying l i (says.Enumeration m vs) (says.Definition q v) same one other = cc
one_saying l i (says.Enumeration m vs) (says.Stated q n v) same one other = cc
one_saying l i (says.Definition p w) says.Repeated same one other = cc
one_saying l i (says.Definition p w) (says.Signals qs) same one other = cc
one_saying l i (says.Definition p w) (says.Enumeration n us) same one other = cc
one_saying l i (says.Definition p w) (says.Stated q m v) same one other = cc
one_saying l i (says.Stated k n w) says.Repeated same one other = cc
one_saying l i (says.Stated k n w) (says.Signals qs) same one other = cc
one_saying l i (says.Stated k n w) (says.Enumeration m us) same one other = cc
one_saying l i (says.Stated k n w) (says.Definition q v) same one other = cc

same_statement : (s t : Statement) → s.at ≡ t.at → s.says ≡ t.says → s ≡ t
same_statement s t places sayings = λ k. record { at = places k; says = sayings k }

pub one_statement : (l : Logic) (i : ItemText) (s t : Statement) → IsStatement l i s → IsStatement l i t → s ≡ t
one_statement l i s t one other =
    same_statement s t (one.is_at ∙ sym other.is_at)
    (one_saying l i s.says t.says
    (one_kind i (kind_said s.says) (kind_said t.says) (said_kind l i s.says one.is_said) (said_kind l i t.says other.is_said))
    one.is_said other.is_said)

-- ---- a next statement has no fault

module _ (l : Logic) (before : List Statement) (i : ItemText) (room : length before < most_items) where
  other_kind : (q : ItemKind) → HasKind i item.Logics → HasKind i q → takes_name q ≡ true → ⊥
  other_kind q logics has takes = no_name_for_logics q (one_kind i q item.Logics has logics) takes

  no_signals : HasKind i item.Logics → HasKind i item.Signals → ⊥
  no_signals logics has = differ (one_kind i item.Logics item.Signals logics has)
    where
      differ : item.Logics ≡ item.Signals → ⊥
      differ e = cc

  clean_logic : HasKind i item.Logics
      → behind_kind i ≡ logic_word l
      → (s : SpecRule) (k : ℕ)
      → IsItemFault l before i k s
      → ⊥
  clean_logic logics same s k (other_logic has not is) = not same
  clean_logic logics same s k (no_kind none is) = none item.Logics (logics, refl)
  clean_logic logics same s k (too_many many is) = absurd (omega (arith, room, many))
  clean_logic logics same s k (no_name q takes bad is) = other_kind q logics takes.0.0 takes.1
  clean_logic logics same s k (name_taken q has taken is) = other_kind q logics has.0.0.0 has.0.1
  clean_logic logics same s k (no_colon q has none is) = other_kind q logics has.0.0.0 has.0.1
  clean_logic logics same s k (no_signal has bad) = no_signals logics has
  clean_logic logics same s k (too_few_signals has few is) = no_signals logics has
  clean_logic logics same s k (signal_taken has taken) = no_signals logics has
  clean_logic logics same s k (no_value has bad) = other_kind item.Enumeration logics has.0.0.0.0 refl
  clean_logic logics same s k (too_few_values has few is) = other_kind item.Enumeration logics has.0.0.0.0 refl
  clean_logic logics same s k (value_taken has taken) = other_kind item.Enumeration logics has.0.0.0.0 refl
  clean_logic logics same s k (refused q j has wrong is) = other_kind q logics has.0.0.0.0.0 has.0.0.0.1
  clean_logic logics same s k (undeclared q w j p has told written stands wrong is) =
      other_kind q logics has.0.0.0.0.0 has.0.0.0.1
  clean_logic logics same s k (defined_late has spoken is) = other_kind item.Definition logics has.0.0.0 refl
  clean_logic logics same s k (defined_by_itself w has written own is) = other_kind item.Definition logics has.0.0.0.0.0 refl

  listed : (good : List ℕ → Bool) (taken : List (List ℕ) → List ℕ → Type 0) (least : ℕ) (ws : List (ℕ × List ℕ))
      (ps : List (List ℕ))
      → ps ≡ words_of ws
      → AreGood good ps
      → AreFree taken [] ps
      → least ≤ length ps
      → AreListed good taken least ws
  listed good taken least ws ps are are_good are_free enough = record {
    are_good = subst (AreGood good) are are_good;
    are_free = subst (AreFree taken []) are are_free;
    are_enough = omega (arith, enough, ap length are, as_many ws);
  }

  clean_signals : (ps : List (List ℕ))
      → IsSaid l i (says.Signals ps)
      → Fits (known before) (says.Signals ps)
      → (s : SpecRule) (k : ℕ)
      → IsItemFault l before i k s
      → ⊥
  clean_signals ps is fits s k fault =
      no_list_fault (is_proposition l) (IsTakenSignal (known before)) 1 (signals_of i) _ k s
      (listed (is_proposition l) (IsTakenSignal (known before)) 1 (signals_of i) ps is.1 is.2 fits is.3)
      (signal_fault l before i room is.0 s k fault)

  clean_values : (m : List ℕ) (vs : List (List ℕ))
      → IsSaid l i (says.Enumeration m vs)
      → Fits (known before) (says.Enumeration m vs)
      → (s : SpecRule) (k : ℕ)
      → IsItemFault l before i k s
      → ⊥
  clean_values m vs is fits s k fault = by s k (named_fault l before i room item.Enumeration is.0.0.0 s k fault)
    where
      values : AreListed (is_value (name_of i)) (IsTakenValue (known before) (name_of i)) 2 (values_of i)
      values =
          listed (is_value (name_of i)) (IsTakenValue (known before) (name_of i)) 2 (values_of i) vs is.2
          (subst (λ n. AreGood (is_value n) vs) is.1 is.3)
          (subst (λ n. AreFree (IsTakenValue (known before) n) [] vs) is.1 fits.1) is.4

      no_formula : HasText l i item.Enumeration → ⊥
      no_formula has = let never : false ≡ true = has.1 in absurd cc

      no_definition : item.Enumeration ≡ item.Definition → ⊥
      no_definition e = cc

      by : (s : SpecRule) (k : ℕ) → IsNamedFault l before i room item.Enumeration k s → ⊥
      by s k (bad_name bad is_at) = both_ways (is_good l item.Enumeration (name_of i)) is.0.0.1 bad
      by s k (taken_name has taken is_at) = fits.0 (subst (λ n. Contains (known before).names n) (sym is.1) taken)
      by s k (late_name e has spoken is_at) = no_definition e
      by s k (own_name w e has written own is_at) = no_definition e
      by s k (without_colon has none is_at) = both_ways (begins_with_colon (behind_name i)) is.0.1 none
      by s k (bad_values e has fault) =
          no_list_fault (is_value (name_of i)) (IsTakenValue (known before) (name_of i)) 2 (values_of i) _ k s values fault
      by s k (bad_text j has wrong is_at) = no_formula has
      by s k (bad_proposition w j p has told written stands wrong is_at) = no_formula has

  -- the text of a formula
  module _ (q : ItemKind) (w : Written) (text : HasText l i q) (written : IsWrittenIn l (text_of i) w)
      (declared : AreAllDeclared (known before) w) where
    clean_text : (s : SpecRule) (k : ℕ)
        → (IsTaken (known before) q (name_of i) → ⊥)
        → (q ≡ item.Definition → IsMember (name_of i) (known before).spoken → ⊥)
        → (q ≡ item.Definition → IsMember (name_of i) (propositions w) → ⊥)
        → IsNamedFault l before i room q k s
        → ⊥
    clean_text s k new early other (bad_name bad is_at) = both_ways (is_good l q (name_of i)) text.0.0.1 bad
    clean_text s k new early other (taken_name has taken is_at) = new taken
    clean_text s k new early other (late_name e has spoken is_at) = early e spoken
    clean_text s k new early other (own_name v e has again own is_at) =
        other e (subst (λ u. IsMember (name_of i) (propositions u)) (written_once l (text_of i) v w again written) own)
    clean_text s k new early other (without_colon has none is_at) = both_ways (begins_with_colon (behind_name i)) text.0.1 none
    clean_text s k new early other (bad_values e has fault) = both_ways (has_formula q) text.1 (ap has_formula e)
    clean_text s k new early other (bad_text j has wrong is_at) = written_not_refused l (text_of i) w s j written.0 written.1 wrong
    clean_text s k new early other (bad_proposition v j p has told again stands wrong is_at) =
        wrong (
        all_at_places (keys_of (known before).declared) (text_of i) w written.1 (declared told) j p
        (subst (λ u. IsPropositionAt (text_of i) u j p) (written_once l (text_of i) v w again written) stands)
        )

  pub next_clean : (s : Saying) → IsSaid l i s → Fits (known before) s → (r : SpecRule) (k : ℕ) → IsItemFault l before i k r → ⊥
  next_clean says.Repeated is fits r k fault = clean_logic is.0 is.1 r k fault
  next_clean (says.Signals ps) is fits r k fault = clean_signals ps is fits r k fault
  next_clean (says.Enumeration m vs) is fits r k fault = clean_values m vs is fits r k fault
  next_clean (says.Definition p w) is fits r k fault =
      clean_text item.Definition w is.0 is.2 fits.3 r k
      (λ taken. fits.0 (subst (λ n. IsDeclared (known before).declared n) (sym is.1) taken))
      (λ e spoken. fits.1 (subst (λ n. IsMember n (known before).spoken) (sym is.1) spoken))
      (λ e own. fits.2 (subst (λ n. IsMember n (propositions w)) (sym is.1) own))
      (named_fault l before i room item.Definition is.0.0.0.0 r k fault)
  next_clean (says.Stated q n w) is fits r k fault =
      clean_text (item.Stated q) w is.0 is.2 fits.1 r k
      (λ taken. fits.0 (subst (λ x. Contains (known before).names x) (sym is.1) taken))
      (λ e spoken. differ e)
      (λ e own. differ e)
      (named_fault l before i room (item.Stated q) is.0.0.0.0 r k fault)
    where
      differ : item.Stated q ≡ item.Definition → ⊥
      differ e = cc
