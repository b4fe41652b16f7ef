-- The step of a history that the program holds, from its parts.
--
--   made_walk                       == the walk makes the settled tree of first offers, and the names of full vertices
--   settled_bound, fulls_bound      == its names are below 2r, and so are those of full vertices
--   used_few                        == at most 2^30 names are in use
--   step_kept, step_items, step_marks == the tree behind the step is kept, its items are those of the step, and the mark
use Rattle.std.proofs.Common.{ℕ, ◌≡◌, ◌*◌, ◌<◌, ◌≤◌, ◌^◌, ◌↔◌, Bool, not, ◌&&◌, ltb, eqb, List, [], ◌++◌, sym, subst, ap, ◌∙◌}
use Rattle.std.specs.HashSet.{HashSet, keys}
use Rattle.std.specs.List.{list_any}
use Rattle.ml_lists.specs.Counting.{count}
use Rattle.ml_lists.specs.Least.{least}
use Rattle.ml_lists.specs.Member.{IsMember}
use Rattle.ml_lists.proofs.Member.{Image, member-map_from}
use Rattle.ml_trace.specs.AutomatonNumbers.{HasSmallEnds}
use Rattle.ml_trace.specs.declared.letters.Transition.{Transition}
use Rattle.ml_trace.specs.Stack.{has}
use Rattle.ml_history.specs.private.Forest.{Forest, Empty, names, places, items}
use Rattle.ml_history.specs.HistoryStep.{live, stepped, step_mark, mark_of}
use Rattle.ml_history.specs.private.TreeStep.{targets, moved, nobody, fresh, settled, fulls, renewed, walked, seen_by, Laid}
use Rattle.ml_history.specs.private.Vertices.{Rooted, joined, IsKept}
use Rattle.ml_history.proofs.trees.ItemsByState.{state_of}
use Rattle.ml_history.proofs.trees.Forests.{places-states}
use Rattle.ml_history.proofs.trees.SmallTrees.{kept_is_plain}
use Rattle.ml_history.proofs.definition.LetterSets.{letters_are_sets}
use Rattle.ml_history.proofs.definition.SmallHistories.{live-small, step_is_small}
use Rattle.ml_history.proofs.trees.ProperTrees.{member-items}
use Rattle.ml_history.proofs.trees.VerticalMerge.{settled-names, fulls-names}
use Rattle.ml_history.proofs.trees.TreeSteps.{after_step, tree_step_proper, tree_step_items, tree_step_mark}
use Rattle.ml_history.proofs.trees.TreeOfFirstOffers.{walked-bound}

-- the walk makes the settled tree of first offers, and the names of full vertices
pub made_walk : {S : Type 0}
    → (f : Forest) (m : List Transition) (used : ℕ) (seen : HashSet ℕ S) (after : ℕ → Bool) (start full full' : List ℕ)
    (vs ws ds es : List Rooted)
    → used ≡ live (items f)
    → keys seen ≡ []
    → start ≡ []
    → f ≡ joined vs
    → ws ≡ vs
    → Laid (seen_by seen) start (moved used (targets m) Empty (joined ws)) (joined ds) after full
    → es ≡ ds
    → full' ≡ full
    → (joined es ≡ settled (walked f m)) × (full' ≡ fulls (walked f m))
made_walk f m used seen after start full full' vs ws ds es is none empty here slice l rows fulls_are =
    let forest : joined ws ≡ f = ap joined slice ∙ sym here in
    let test : seen_by seen ≡ nobody = ap (λ ks q. list_any (eqb q) ks) none in (
      ap joined rows ∙ l.row_is ∙ (λ i. settled (fresh (test i) (moved (is i) (targets m) Empty (forest i)))),
      fulls_are ∙ l.full_is ∙ (λ i. empty i ++ fulls (fresh (test i) (moved (is i) (targets m) Empty (forest i)))),
    )

-- at most 2^30 names are in use
pub used_few : (f : Forest) (used : ℕ) → IsKept f → used ≡ live (items f) → used ≤ 2 ^ 30
used_few f used kept is = subst (λ n. n ≤ 2 ^ 30) (sym is) (live-small (items f) (kept_is_plain f kept))

module _ (f : Forest) (kept : IsKept f) (m : List Transition) where
  -- the names of the settled tree are below 2r
  pub settled_bound : (used : ℕ) (row : Forest)
      → used ≡ live (items f)
      → row ≡ settled (walked f m)
      → (y : ℕ)
      → IsMember y (names row)
      → y < 2 * used
  settled_bound used row is made y i =
      subst (λ r. y < 2 * r) (sym is) (walked-bound f kept.proper m y
      (settled-names (walked f m) y (subst (λ r. IsMember y (names r)) made i)))

  -- so are those of full vertices
  pub fulls_bound : (used : ℕ) (full : List ℕ)
      → used ≡ live (items f)
      → full ≡ fulls (walked f m)
      → (y : ℕ)
      → IsMember y full
      → y < 2 * used
  fulls_bound used full is made y i =
      subst (λ r. y < 2 * r) (sym is) (walked-bound f kept.proper m y
      (fulls-names (walked f m) y (subst (IsMember y) made i)))

  module _ (letter : List Transition) (same : (t : Transition) → IsMember t m ↔ IsMember t letter) where
    -- the items of the tree behind the step are those of the step
    items_behind : items (after_step f m) ≡ stepped (items f) letter
    items_behind = tree_step_items f kept.proper m
        ∙ (letters_are_sets (items f) m letter (λ t. (same t).0) (λ t. (same t).1)).0

    -- the tree behind the step is kept
    kept_behind : HasSmallEnds letter → IsKept (after_step f m)
    kept_behind ends = record {
      proper = tree_step_proper f kept.proper m;
      small = λ q i. from_image q (member-map_from state_of q (places (after_step f m))
          (subst (IsMember q) (sym (places-states (after_step f m))) i));
    }
      where
        from_image : (q : ℕ) → Image state_of q (places (after_step f m)) → q < 2 ^ 30
        from_image q i =
            let there = subst (IsMember i.from) items_behind (member-items (after_step f m) i.from i.member) in
            subst (λ v. v < 2 ^ 30) (sym i.holds) ((step_is_small (items f) letter (kept_is_plain f kept) ends).small
            i.from there)

    -- the same of a row that the program made
    pub step_kept : (row after : Forest)
        → row ≡ settled (walked f m)
        → after ≡ renewed (λ y. count (λ z. has z (names row)) y) row
        → HasSmallEnds letter
        → IsKept after
    step_kept row after made is ends =
        subst IsKept (sym (is ∙ ap (λ r. renewed (λ y. count (λ z. has z (names r)) y) r) made)) (kept_behind ends)

    pub step_items : (row after : Forest)
        → row ≡ settled (walked f m)
        → after ≡ renewed (λ y. count (λ z. has z (names row)) y) row
        → items after ≡ stepped (items f) letter
    step_items row after made is = ap items (is ∙ ap (λ r. renewed (λ y. count (λ z. has z (names r)) y) r) made)
        ∙ items_behind

    -- the mark
    pub step_marks : (used : ℕ) (row : Forest) (full : List ℕ)
        → used ≡ live (items f)
        → row ≡ settled (walked f m)
        → full ≡ fulls (walked f m)
        → mark_of (least (λ y. ltb y used && not (has y (names row))) (2 * used))
        (least (λ y. has y full && has y (names row)) (2 * used)) ≡ step_mark (items f) letter
    step_marks used row full is made fulls_are =
        (λ i. mark_of (least (λ y. ltb y (is i) && not (has y (names (made i)))) (2 * is i))
        (least (λ y. has y (fulls_are i) && has y (names (made i))) (2 * is i)))
        ∙ sym (tree_step_mark f kept.proper m)
        ∙ (letters_are_sets (items f) m letter (λ t. (same t).0) (λ t. (same t).1)).1
