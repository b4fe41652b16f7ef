-- At most so many histories have a numbering, or more are reached.
--
-- Histories are met breadth first from the start. Where the search ends, what it met is a numbering; and where it
-- doesn't, it met more.
--
--   all_numbered    == each history that is reached has a number
--   some_numbering, never_both == the laws
use Rattle.std.proofs.Common.{ℕ, ◌⊎◌, inl, inr, arith, List, refl, sym, ◌∙◌, append-nil}
use Rattle.ml_lists.specs.Member.{IsMember}
use Rattle.ml_lists.proofs.BreadthFirstSearch.{Ended, TooMany, search}
use Rattle.ml_lists.proofs.FirstEntries.{apart_places, none_more}
use Rattle.ml_trace.specs.declared.letters.Transition.{Transition}
use Rattle.ml_trace.specs.Stack.{Item}
use Rattle.ml_history.specs.HistoryStep.{start}
use Rattle.ml_history.specs.HistoryOrder.{history_eq, history_eq-decides}
use Rattle.ml_determinise.specs.Numbering.{IsReached, at_start, along, HasMoreThan, IsNumbering, IsNumberingWithin, NeverBoth, SomeNumbering, successors}
use Rattle.ml_determinise.proofs.NumberedWords.{listed, inside}
use Rattle.ml_determinise.proofs.ReachedHistories.{behind}

module _ (row : List (List Transition)) (q : ℕ) where
  module _ (hs : List (List (Item ℕ))) (n : IsNumbering row q hs) where
    pub all_numbered : (h : List (Item ℕ)) → IsReached row q h → IsMember h hs
    all_numbered h at_start = listed row q hs n (start q) (inl refl)
    all_numbered k (along h letter r m) = inside row q hs n h letter (all_numbered h r) m

pub some_numbering : SomeNumbering
some_numbering row q n =
    from (search history_eq (successors row) (start q) (IsReached row q) at_start (behind row q) history_eq-decides n)
  where
    from : Ended history_eq (successors row) (start q) (IsReached row q) n
        ⊎ TooMany history_eq (successors row) (start q) (IsReached row q) n
        → ((hs : List (List (Item ℕ))) × IsNumberingWithin row q n hs) ⊎ HasMoreThan row q n
    from (inl e) = inl (
      e.values,
      record {
        is_numbering = record {
          in_order = sym (append-nil e.values) ∙ e.looked.in_order;
          are_reached = e.looked.reached;
        };
        few = e.few;
      },
    )
    from (inr many) = inr (record {
      histories = many.values;
      are_apart = many.apart;
      are_reached = many.reached;
      are_more = many.more;
    })

pub never_both : NeverBoth
never_both row q n hs numbering many =
    let short = none_more history_eq history_eq-decides many.histories hs (apart_places many.histories many.are_apart)
    (λ h m. all_numbered row q hs numbering.is_numbering h (many.are_reached h m)) in
    let few = numbering.few in
    let more = many.are_more in
    omega (arith, short, few, more)
