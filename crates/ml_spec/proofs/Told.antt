-- Faults of lists of words, and of names, as faults of their items.
--
--   signals_told, values_told == what tells the first fault of a list tells that of the item
--   stated_reached, enumeration_reached, definition_reached == where a name is new, what stands behind it is reached
--   stated_taken, enumeration_taken, definition_taken, definition_late, definition_own == where it isn't, that is the first fault
--   member_with, member_added == a name among others to which some were added is among the one or the other
use Rattle.std.proofs.Common.{◌≡◌, ℕ, ◌<◌, ◌⊎◌, Bool, true, false, if◌then◌else◌, List, [], ◌∷◌, ◌++◌, length, bytes_eq, Contains, inl, inr, refl, sym, ap, subst, ◌∙◌}
use Rattle.std.specs.List.{list_any}
use Rattle.ml_lists.specs.Member.{IsMember}
use Rattle.ml_lists.proofs.Member.{member-append, member-append_left, member-append_right}
use Rattle.ml_text.specs.NameLists.{with_name, with_names}
use Rattle.ml_front.specs.declared.logic.Logic.{Logic}
use Rattle.ml_spec.specs.Faults.{end_of}
use Rattle.ml_spec.specs.ItemParts.{behind_kind, name_of, place_of, signals_of, text_of, values_of, HasColon, HasKind, HasName, HasText}
use Rattle.ml_spec.specs.Items.{ItemText}
use Rattle.ml_spec.specs.Known.{known, IsDeclared}
use Rattle.ml_spec.specs.Specification.{most_items}
use Rattle.ml_spec.specs.Statements.{is_value, IsWrittenIn, Statement}
use Rattle.ml_spec.specs.declared.context.Context.{Context}
use Rattle.ml_spec.specs.declared.context.Declared.{Declared}
use Rattle.ml_spec.specs.declared.fault.Fault.{Fault}
use Rattle.ml_spec.specs.declared.fault.Fault.TheVariants.{Breaks, NoMemory}
use Rattle.ml_spec.specs.declared.kind.ItemKind.TheVariants as item
use Rattle.ml_spec.specs.declared.kind.Kind.{Kind}
use Rattle.ml_spec.specs.declared.rule.SpecRule.TheVariants.{DefinedLate, NameTaken}
use Rattle.ml_spec.specs.private.Lists.{IsFirstInList, IsMadeBehind, IsValueBehind, TellsInList}
use Rattle.ml_spec.specs.private.Stages.{IsContextOf, IsFirstInItem, IsReached, TellsInItem}
use Rattle.ml_spec.proofs.ItemFaults.{first_late, first_own, first_signal, first_taken, first_value}
use Rattle.ml_written.specs.Propositions.{is_proposition, propositions}
use Rattle.ml_written.specs.declared.written.Written.{Written}
use Rattle.ml_written.proofs.FirstMissing.{declared_member}

module _ (l : Logic) (ss : List Statement) (i : ItemText) (ds : List (List ℕ × Declared)) (same : ds ≡ (known ss).declared) where
  pub signals_told : length ss < most_items
      → HasKind i item.Signals
      → (e : Fault)
      → TellsInList (is_proposition l) (IsMadeBehind ds) 1 (signals_of i) (end_of i) e
      → TellsInItem l ss i e
  signals_told room has NoMemory tells = tt
  signals_told room has (Breaks r at) tells =
      first_signal l ss i room has r at
      (subst (λ es. IsFirstInList (is_proposition l) (IsMadeBehind es) 1 (signals_of i) (end_of i) r at) same tells)

  pub values_told : IsReached l ss i item.Enumeration
      → HasColon l i item.Enumeration
      → (e : Fault)
      → TellsInList (is_value (name_of i)) (IsValueBehind ds (name_of i)) 2 (values_of i) (end_of i) e
      → TellsInItem l ss i e
  values_told reached has NoMemory tells = tt
  values_told reached has (Breaks r at) tells =
      first_value l ss i reached.has_room item.Enumeration has.0.0 has.0 reached.is_new reached.is_early has refl r at
      (subst (λ es. IsFirstInList (is_value (name_of i)) (IsValueBehind es (name_of i)) 2 (values_of i) (end_of i) r at) same tells)

-- ---- names

module _ (l : Logic) (ss : List Statement) (i : ItemText) (room : length ss < most_items) (c : Context)
    (is : IsContextOf l ss c) (n : List ℕ) (named : n ≡ name_of i) where
  pub stated_reached : (k : Kind) → ¬ (Contains c.names.keys n) → IsReached l ss i (item.Stated k)
  stated_reached k new = record {
    has_room = room;
    is_new = λ taken. new (subst (λ m. Contains c.names.keys m) (sym named) (subst (λ ns. Contains ns (name_of i)) (sym is.are_names) taken));
    is_early = λ e. absurd (differ e);
  }
    where
      differ : item.Stated k ≡ item.Definition → ⊥
      differ e = cc

  pub enumeration_reached : ¬ (Contains c.names.keys n) → IsReached l ss i item.Enumeration
  enumeration_reached new = record {
    has_room = room;
    is_new = λ taken. new (subst (λ m. Contains c.names.keys m) (sym named) (subst (λ ns. Contains ns (name_of i)) (sym is.are_names) taken));
    is_early = λ e. absurd (differ e);
  }
    where
      differ : item.Enumeration ≡ item.Definition → ⊥
      differ e = cc

  pub definition_reached : ¬ (IsDeclared c.declared.entries n)
      → ¬ (IsMember n c.spoken.keys)
      → IsReached l ss i item.Definition
  definition_reached new early = record {
    has_room = room;
    is_new = λ taken.
        new (subst (IsDeclared c.declared.entries) (sym named) (subst (λ ds. IsDeclared ds (name_of i)) (sym is.are_declared) taken));
    is_early = λ e spoken.
        early (subst (λ m. IsMember m c.spoken.keys) (sym named) (subst (λ ps. IsMember (name_of i) ps) (sym is.are_spoken) spoken));
  }

  module _ (at : ℕ) (behind : List ℕ) (place : at ≡ place_of i behind) (same : behind ≡ behind_kind i) where
    at_name : at ≡ place_of i (behind_kind i)
    at_name = place ∙ ap (place_of i) same

    pub stated_taken : (k : Kind) → HasName l i (item.Stated k) → Contains c.names.keys n → IsFirstInItem l ss i NameTaken at
    stated_taken k has taken =
        subst (IsFirstInItem l ss i NameTaken) (sym at_name)
        (first_taken l ss i room (item.Stated k) has.0 has
        (subst (λ ns. Contains ns (name_of i)) is.are_names (subst (λ m. Contains c.names.keys m) named taken)))

    pub enumeration_taken : HasName l i item.Enumeration → Contains c.names.keys n → IsFirstInItem l ss i NameTaken at
    enumeration_taken has taken =
        subst (IsFirstInItem l ss i NameTaken) (sym at_name)
        (first_taken l ss i room item.Enumeration has.0 has
        (subst (λ ns. Contains ns (name_of i)) is.are_names (subst (λ m. Contains c.names.keys m) named taken)))

    pub definition_taken : HasName l i item.Definition → IsDeclared c.declared.entries n → IsFirstInItem l ss i NameTaken at
    definition_taken has taken =
        subst (IsFirstInItem l ss i NameTaken) (sym at_name)
        (first_taken l ss i room item.Definition has.0 has
        (subst (λ ds. IsDeclared ds (name_of i)) is.are_declared (subst (IsDeclared c.declared.entries) named taken)))

    pub definition_late : HasName l i item.Definition
        → ¬ (IsDeclared c.declared.entries n)
        → IsMember n c.spoken.keys
        → IsFirstInItem l ss i DefinedLate at
    definition_late has new spoken =
        subst (IsFirstInItem l ss i DefinedLate) (sym at_name)
        (first_late l ss i room item.Definition has.0 has
        (λ taken. new (subst (IsDeclared c.declared.entries) (sym named) (subst (λ ds. IsDeclared ds (name_of i)) (sym is.are_declared) taken)))
        refl
        (subst (λ ps. IsMember (name_of i) ps) is.are_spoken (subst (λ m. IsMember m c.spoken.keys) named spoken)))

    pub definition_own : (w : Written)
        → HasText l i item.Definition
        → IsWrittenIn l (text_of i) w
        → ¬ (IsDeclared c.declared.entries n)
        → IsMember n (propositions w)
        → IsFirstInItem l ss i DefinedLate at
    definition_own w text written new own =
        subst (IsFirstInItem l ss i DefinedLate) (sym at_name)
        (first_own l ss i room item.Definition text.0.0.0 text.0.0
        (λ taken. new (subst (IsDeclared c.declared.entries) (sym named) (subst (λ ds. IsDeclared ds (name_of i)) (sym is.are_declared) taken)))
        w refl text written (subst (λ m. IsMember m (propositions w)) named own))

-- ---- names that were spoken of, and those of one formula more

pub member_with : (ps qs : List (List ℕ)) (n : List ℕ) → IsMember n (with_names ps qs) → IsMember n ps ⊎ IsMember n qs
member_with ps [] n m = inl m
member_with ps (q ∷ qs) n m = by (member_with (with_name ps q) qs n m)
  where
    one : (b : Bool) → IsMember n (if b then ps else ps ++ q ∷ []) → IsMember n ps ⊎ IsMember n (q ∷ qs)
    one true m = inl m
    one false m = split (member-append n ps (q ∷ []) m)
      where
        split : IsMember n ps ⊎ IsMember n (q ∷ []) → IsMember n ps ⊎ IsMember n (q ∷ qs)
        split (inl there) = inl there
        split (inr (inl same)) = inr (inl same)
        split (inr (inr none)) = absurd none

    by : IsMember n (with_name ps q) ⊎ IsMember n qs → IsMember n ps ⊎ IsMember n (q ∷ qs)
    by (inl m) = one (list_any (bytes_eq q) ps) m
    by (inr later) = inr (inr later)

kept_member : (ps : List (List ℕ)) (q n : List ℕ) → IsMember n ps → IsMember n (with_name ps q)
kept_member ps q n m = by (list_any (bytes_eq q) ps)
  where
    by : (b : Bool) → IsMember n (if b then ps else ps ++ q ∷ [])
    by true = m
    by false = member-append_left n ps (q ∷ []) m

kept_members : (ps qs : List (List ℕ)) (n : List ℕ) → IsMember n ps → IsMember n (with_names ps qs)
kept_members ps [] n m = m
kept_members ps (q ∷ qs) n m = kept_members (with_name ps q) qs n (kept_member ps q n m)

pub member_added : (ps qs : List (List ℕ)) (n : List ℕ) → IsMember n qs → IsMember n (with_names ps qs)
member_added ps [] n m = absurd m
member_added ps (q ∷ qs) n (inr later) = member_added (with_name ps q) qs n later
member_added ps (q ∷ qs) n (inl same) =
    subst (λ m. IsMember m (with_names (with_name ps q) qs)) (sym same)
    (kept_members (with_name ps q) qs q (by (list_any (bytes_eq q) ps) refl))
  where
    by : (b : Bool) → list_any (bytes_eq q) ps ≡ b → IsMember q (if b then ps else ps ++ q ∷ [])
    by true is = declared_member ps q is
    by false is = member-append_right q ps (q ∷ []) (inl refl)
