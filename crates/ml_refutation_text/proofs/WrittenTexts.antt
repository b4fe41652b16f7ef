-- What is written of a refutation is a text of it.
--
--   entries_written      == the lines of entries that are written are lines of them, in full and by tables
--   tables_are           == the tables of a refutation are as what they stand for
--   written_body         == the written lines are those of the refutation, in the form in which it is written
--   has_lines            == the written text has them
--   written_is_text      == so it is a text of it
use Rattle.std.proofs.Common.{ℕ, ◌+◌, ◌<◌, ◌≤◌, List, [], ◌∷◌, length, map, All, refl, arith}
use Rattle.std.specs.List.{flat_map, AllByRecursion}
use Rattle.std.proofs.lemmas.List.{length-map}
use Rattle.std.proofs.lemmas.List.Elements.{All-nil, All-head, All-tail, All-append, All-map, All-weaker}
use Rattle.ml_base.specs.declared.version.Version.{Version}
use Rattle.ml_base.specs.declared.version.Version.TheVariants.{One, Two}
use Rattle.ml_lines.specs.Lines.{number}
use Rattle.ml_lists.specs.Ascending.{IsAscending}
use Rattle.ml_lists.proofs.AllOf.{all_parts}
use Rattle.ml_trace.specs.declared.letters.AutomatonState.{AutomatonState}
use Rattle.ml_trace.specs.Stack as traced
use Rattle.ml_refutation.specs.Refutation.{Refutation, Entry, Fits, IsStack, IsItem, IsEntry, IsRefutation}
use Rattle.ml_refutation_text.specs.RefutationText.{item_line}
use Rattle.ml_refutation_text.specs.BodyRules.{Form, InFull, ByTables}
use Rattle.ml_refutation_text.specs.private.TextLines.{HeadLines, StackWords, ItemLines, EntryLines, EntriesLines, BodyLines, AreTables, IsForm, HasLines}
use Rattle.ml_refutation_text.specs.BodyRules.{IsTextOf}
use Rattle.ml_refutation_text.specs.WrittenText.{Writing, in_full, by_tables, place_in, entry_lines, entries_lines, written_lines, written_text}
use Rattle.ml_refutation_text.specs.Canonical.{used_stacks, sequents_of, stacks_of, written_form}
use Rattle.ml_refutation_text.proofs.RefutationTexts.{text_lines}
use Rattle.ml_refutation_text.proofs.StackCounts.{spells_wide, few_stacks}
use Rattle.ml_refutation_text.proofs.TableEntries.{Has, made_has, made_all, made_length, has_inside, has_place}

-- ---- both forms

anything : {X : Type 0} (P : X → Type 0) → ((x : X) → P x) → (xs : List X) → AllByRecursion P xs
anything P always [] = tt
anything P always (x ∷ xs) = (always x, anything P always xs)

module _ (W : Writing) (F : Form) (IsHead IsUsed : List ℕ → Type 0)
    (heads : (i : ℕ) (q : List ℕ) → IsHead q → HeadLines F i q (W.head i q))
    (words : (ns : List ℕ) → IsUsed ns → StackWords F ns (W.words ns)) where
  items_written : (items : List (traced.Item AutomatonState)) → AllByRecursion IsUsed (map (λ a. a.stack) items)
      → ItemLines F items (map (λ a. item_line a.state (W.words a.stack)) items)
  items_written [] used = refl
  items_written (a ∷ items) used = (
    item_line a.state (W.words a.stack),
    map (λ a. item_line a.state (W.words a.stack)) items,
    record { words = W.words a.stack; for_stack = words a.stack used.0; is_line = refl },
    items_written items used.1,
    refl,
  )

  entry_written : (i : ℕ) (e : Entry)
      → IsHead e.sequent
      → AllByRecursion IsUsed (used_stacks e)
      → EntryLines F i e (entry_lines W i e)
  entry_written i e head used = record {
    head = W.head i e.sequent;
    items = map (λ a. item_line a.state (W.words a.stack)) e.traces.items;
    is_head = heads i e.sequent head;
    are_items = items_written e.traces.items used;
    are_lines = refl;
  }

  pub entries_written : (i : ℕ) (es : List Entry) → AllByRecursion IsHead (map (λ e. e.sequent) es)
      → AllByRecursion IsUsed (flat_map used_stacks es) → EntriesLines F i es (entries_lines W i es)
  entries_written i [] head used = refl
  entries_written i (e ∷ es) head used =
      let parts = all_parts IsUsed (used_stacks e) (flat_map used_stacks es) used in (
        entry_lines W i e,
        entries_lines W (i + 1) es,
        entry_written i e head.0 parts.0,
        entries_written (i + 1) es head.1 parts.1,
        refl,
      )

-- ---- tables

stacks_all : (names : ℕ) (es : List Entry)
    → All (λ e. All (IsStack names) (used_stacks e)) es
    → All (IsStack names) (flat_map used_stacks es)
stacks_all names [] all = All-nil (IsStack names)
stacks_all names (e ∷ es) all =
    let P : Entry → Type 0 = λ e. All (IsStack names) (used_stacks e) in
    All-append (IsStack names) (used_stacks e) (flat_map used_stacks es) (All-head P e es all)
    (stacks_all names es (All-tail P e es all))

in_range : (live names : ℕ) → live ≤ names → (ns : List ℕ) → IsStack live ns → IsStack names ns
in_range live names within ns is = record {
  some = is.some;
  ascends = is.ascends;
  below = All-weaker (λ x. x < live) (λ x. x < names) (λ x below. omega (arith, within, below)) ns is.below;
}

entry_stacks : (names entries : ℕ) (e : Entry) → IsEntry names entries e → All (IsStack names) (used_stacks e)
entry_stacks names entries e is =
    All-map (IsStack names) (λ a. a.stack) e.traces.items
    (All-weaker (IsItem e.traces.live) (λ a. IsStack names a.stack)
    (λ a item. in_range e.traces.live names is.is_traced.within a.stack item.is_stack) e.traces.items is.is_traced.are_items)

pub tables_are : (r : Refutation) → IsRefutation r → AreTables r.names (sequents_of r.entries) (stacks_of r.entries)
tables_are r is =
    let es = r.entries in
    let E : Entry → Type 0 = IsEntry r.names (length es) in
    let sequents : List (List ℕ) = map (λ e. e.sequent) es in record {
      sequents_fit = omega (arith, made_length sequents, length-map es (λ e. e.sequent), is.entries_fit);
      nodes_fit =
          made_all (All Fits) sequents
          (All-map (All Fits) (λ e. e.sequent) es (All-weaker E (λ e. All Fits e.sequent) (λ e entry. entry.nodes_fit) es is.are_entries));
      sequents_ascend =
          made_all IsAscending sequents
          (All-map IsAscending (λ e. e.sequent) es (All-weaker E (λ e. IsAscending e.sequent) (λ e entry. entry.ascends) es is.are_entries));
      are_stacks =
          made_all (IsStack r.names) (flat_map used_stacks es)
          (stacks_all r.names es
          (All-weaker E (λ e. All (IsStack r.names) (used_stacks e)) (entry_stacks r.names (length es)) es is.are_entries));
    }

-- ---- both versions

full_heads : (i : ℕ) (q : List ℕ) → Unit {0} → HeadLines InFull i q (in_full.head i q)
full_heads i q any = refl

full_words : (ns : List ℕ) → Unit {0} → StackWords InFull ns (in_full.words ns)
full_words ns any = refl

-- in the form in which it is written, the written lines are those of the refutation
pub record WrittenBody (v : Version) (r : Refutation) : Type 0 where
  pub is_form : IsForm v r.names (written_form v r)
  pub are_lines : BodyLines (written_form v r) r (written_lines v r)

pub written_body : (v : Version) (r : Refutation) → IsRefutation r → WrittenBody v r
written_body One r is = record {
  is_form = tt;
  are_lines = record {
    first = _;
    entries = entries_lines in_full 0 r.entries;
    are_first = refl;
    are_entries =
        entries_written in_full InFull (λ q. Unit {0}) (λ ns. Unit {0}) full_heads full_words 0 r.entries
        (anything (λ q. Unit {0}) (λ q. tt) (map (λ e. e.sequent) r.entries))
        (anything (λ ns. Unit {0}) (λ ns. tt) (flat_map used_stacks r.entries));
    are_lines = refl;
  };
}
written_body Two r is =
    let qs = sequents_of r.entries in
    let ks = stacks_of r.entries in
    let few = few_stacks r is in record {
      is_form = tables_are r is;
      are_lines = record {
        first = _;
        entries = entries_lines (by_tables qs ks) 0 r.entries;
        are_first = (number (length ks), spells_wide (length ks) few, refl);
        are_entries =
            entries_written (by_tables qs ks) (ByTables qs ks) (Has qs) (Has ks)
            (λ i q has. (place_in qs q, has_place qs q has, refl))
            (λ ns has. (
              place_in ks ns,
              number (place_in ks ns),
              spells_wide (place_in ks ns) (omega (arith, has_inside ks ns has, few)),
              has_place ks ns has,
              refl,
            ))
            0 r.entries
            (made_has (map (λ e. e.sequent) r.entries)) (made_has (flat_map used_stacks r.entries));
        are_lines = refl;
      };
    }

has_lines : (v : Version) (r : Refutation) → IsRefutation r → HasLines v (written_text v r) r
has_lines v r is =
    let whole = written_body v r is in record {
      form = written_form v r;
      is_form = whole.is_form;
      lines = written_lines v r;
      are_lines = whole.are_lines;
      is_text = refl;
    }

pub written_is_text : (v : Version) (r : Refutation) → IsRefutation r → IsTextOf v (written_text v r) r
written_is_text v r is = text_lines v (written_text v r) r is (has_lines v r is)
