-- Entries name the lists that they named before, when further ones are added.
--
--   AreNamed ks items    == the stacks of the items are of ks
--   IsNamed qs ks e      == the sequent of the entry e is one of qs, and the stacks of its items are of ks
--   items_kept           == among more lists the items are the same
--   entry_kept, entries_kept == so are the entries
use Rattle.std.proofs.Common.{ℕ, ◌≡◌, ◌<◌, List, [], ◌∷◌, ◌++◌, length, map, All, refl}
use Rattle.std.proofs.Math.ListN.{get_or-append}
use Rattle.std.proofs.lemmas.List.Elements.{All-head, All-tail}
use Rattle.ml_refutation.specs.Views.{item_of, entry_of}
use Rattle.ml_refutation.specs.declared.refutation.Item.{Item}
use Rattle.ml_refutation.specs.declared.refutation.Entry.{Entry}

abbrev pub AreNamed : List (List ℕ) → List Item → Type 0
AreNamed stacks items = All (λ a. a.stack < length stacks) items

abbrev pub IsNamed : (sequents stacks : List (List ℕ)) → Entry → Type 0
IsNamed sequents stacks e = (e.sequent < length sequents) × AreNamed stacks e.items.items

pub items_kept : (stacks more : List (List ℕ)) (items : List Item)
    → AreNamed stacks items
    → map (item_of (stacks ++ more)) items ≡ map (item_of stacks) items
items_kept stacks more [] named = refl
items_kept stacks more (a ∷ items) named = λ i.
    record {
      state = record { node = a.node; odd = a.odd };
      stack = get_or-append stacks more [] a.stack (All-head (λ b. b.stack < length stacks) a items named) i;
    }
    ∷ items_kept stacks more items (All-tail (λ b. b.stack < length stacks) a items named) i

pub entry_kept : (sequents more stacks further : List (List ℕ)) (e : Entry)
    → IsNamed sequents stacks e
    → entry_of (sequents ++ more) (stacks ++ further) e ≡ entry_of sequents stacks e
entry_kept sequents more stacks further e (sequent, items) = λ i. record {
  sequent = get_or-append sequents more [] e.sequent sequent i;
  traces = record { live = e.live; items = items_kept stacks further e.items.items items i };
  heights = (entry_of sequents stacks e).heights;
  decision = (entry_of sequents stacks e).decision;
}

pub entries_kept : (sequents more stacks further : List (List ℕ)) (entries : List Entry)
    → All (IsNamed sequents stacks) entries
    → map (entry_of (sequents ++ more) (stacks ++ further)) entries ≡ map (entry_of sequents stacks) entries
entries_kept sequents more stacks further [] named = refl
entries_kept sequents more stacks further (e ∷ entries) named = λ i.
    entry_kept sequents more stacks further e (All-head (IsNamed sequents stacks) e entries named) i
    ∷ entries_kept sequents more stacks further entries (All-tail (IsNamed sequents stacks) e entries named) i
