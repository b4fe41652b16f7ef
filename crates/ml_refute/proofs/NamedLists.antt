-- Entries and items that are put behind others, with the lists that they name.
--
--   items_named, entries_named == among more lists each still names one of them
--   carried_more               == an item more, and its stack
--   named_more, put_behind     == an entry more, and its lists
use Rattle.std.proofs.Common.{ℕ, ◌≡◌, ◌<◌, List, [], ◌∷◌, ◌++◌, length, get_or, map, All, sym, ap, ◌∙◌, subst, arith, append_assoc}
use Rattle.std.proofs.Math.Seq.{get_or-append_seam}
use Rattle.std.proofs.lemmas.List.{map-append, length-append}
use Rattle.std.proofs.lemmas.List.Elements.{All-push}
use Rattle.ml_product.specs.Position.{Position}
use Rattle.ml_refutation.proofs.MoreLists.{AreNamed, IsNamed, items_kept, entries_kept}
use Rattle.ml_refutation.specs.Refutation as plain
use Rattle.ml_refutation.specs.Views.{item_of, entry_of}
use Rattle.ml_refutation.specs.declared.refutation.Entry.{Entry}
use Rattle.ml_refutation.specs.declared.refutation.Item.{Item}
use Rattle.ml_trace.specs.AutomatonNumbers.{state_of}
use Rattle.ml_trace.specs.Stack as traced
use Rattle.ml_refute.specs.private.PutTogether.{carried}
use Rattle.ml_refute.specs.private.Tables.{AreCarried, IsMade, IsPutBehind}

pub items_named : (stacks more : List (List ℕ)) (items : List Item) → AreNamed stacks items → AreNamed (stacks ++ more) items
items_named stacks more items named k d low = omega (arith, named k d low, length-append stacks more)

pub entries_named : (sequents more stacks further : List (List ℕ)) (entries : List Entry)
    → All (IsNamed sequents stacks) entries
    → All (IsNamed (sequents ++ more) (stacks ++ further)) entries
entries_named sequents more stacks further entries named k d low =
    let here = named k d low in (
      omega (arith, here.0, length-append sequents more),
      items_named stacks further (get_or entries k d).items.items here.1,
    )

pub carried_more : (odds : List ℕ) (h : List (traced.Item ℕ)) (number : ℕ) (stack : List ℕ)
    (before ks ks' : List (List ℕ)) (items items' : List Item) (place : ℕ)
    → AreCarried odds h before ks items
    → ks' ≡ ks ++ stack ∷ []
    → place ≡ length ks
    → items' ≡ items ++ record {
      node = (state_of odds number).node;
      odd = (state_of odds number).odd;
      stack = place;
    } ∷ []
    → AreCarried odds (h ++ record { state = number; stack = stack } ∷ []) before ks' items'
carried_more odds h number stack before ks ks' items items' place are ks_are place_is items_are =
    subst (λ xs. AreCarried odds (h ++ x ∷ []) before xs items') (sym ks_are)
    (subst (AreCarried odds (h ++ x ∷ []) before (ks ++ stack ∷ [])) (sym items_are) (record {
      more = are.more ++ stack ∷ [];
      grown = ap (λ xs. xs ++ stack ∷ []) are.grown ∙ append_assoc before are.more (stack ∷ []);
      named = All-push (λ b. b.stack < length (ks ++ stack ∷ [])) items a
          (items_named ks (stack ∷ []) items are.named) (omega (arith, place_is, length-append ks (stack ∷ [])));
      are = map-append (item_of (ks ++ stack ∷ [])) items (a ∷ [])
          ∙ ap (λ ys. ys ++ item_of (ks ++ stack ∷ []) a ∷ []) (items_kept ks (stack ∷ []) items are.named ∙ are.are)
          ∙ ap (λ s. carried odds h ++ record { state = state_of odds number; stack = s } ∷ []) stack_is
          ∙ sym (map-append (λ b. record { state = state_of odds b.state; stack = b.stack }) h (x ∷ []));
    }))
  where
    x : traced.Item ℕ
    x = record { state = number; stack = stack }

    a : Item
    a = record { node = (state_of odds number).node; odd = (state_of odds number).odd; stack = place }

    stack_is : get_or (ks ++ stack ∷ []) place [] ≡ stack
    stack_is = ap (λ k. get_or (ks ++ stack ∷ []) k []) place_is ∙ get_or-append_seam ks stack [] []

module _ (odds : List ℕ) (p : Position) (row : List ℕ) (d : plain.Decision)
    (sequents sequents' stacks stacks' : List (List ℕ)) (e : Entry) (entries entries' : List Entry)
    (made : IsMade odds p row d sequents sequents' stacks stacks' e) (named : All (IsNamed sequents stacks) entries)
    (grown : entries' ≡ entries ++ e ∷ []) where
  all_named : All (IsNamed sequents' stacks') entries
  all_named = rw (made.sequents_grown, made.stacks_grown)
      (entries_named sequents made.more stacks made.further entries named)

  kept : map (entry_of sequents' stacks') entries ≡ map (entry_of sequents stacks) entries
  kept = rw (made.sequents_grown, made.stacks_grown)
      (entries_kept sequents made.more stacks made.further entries named)

  pub named_more : All (IsNamed sequents' stacks') entries'
  named_more = subst (All (IsNamed sequents' stacks')) (sym grown) (All-push (IsNamed sequents' stacks') entries e all_named
      made.named)

  pub put_behind : IsPutBehind odds p row d (map (entry_of sequents stacks) entries) (map (entry_of sequents' stacks') entries')
  put_behind = record {
    entry = entry_of sequents' stacks' e;
    grown = ap (map (entry_of sequents' stacks')) grown ∙ map-append (entry_of sequents' stacks') entries (e ∷ [])
        ∙ ap (λ es. es ++ entry_of sequents' stacks' e ∷ []) kept;
    is_put = made.is_put;
  }
