-- What is reached in the graph of a formula's block: blocks that ask for a path, and atoms beside them.
--
--   first_item f sign  == the item of the formula itself
--   block_at f sign xs k == the block of the items xs that asks for a path, with the focus k
--   Shape f sign form  == how such a block leads on: along an edge, past a state node, or to blocks
--   shape_of           == so each such block does
--   atom_alone         == an atom leads nowhere
--   Kind f sign p      == p is such a block, or an atom that stands in the formula
--   kinds              == so is each place that is reached
use Rattle.std.proofs.Common.{◌≡◌, ℕ, inl, inr, Bool, true, List, [], ◌∷◌, Option, Some, None, refl, sym, ap, ◌∙◌, subst}
use Rattle.std.specs.Bool.{beq}
use Rattle.std.proofs.lemmas.Bool.{false≢true}
use Rattle.ml_lists.specs.Member.{IsMember}
use Rattle.ml_nodes.specs.ClosureGraph.{IsReached, at_root, behind, children, And, Or, Diamond}
use Rattle.ml_ctl.specs.Formula.{Formula}
use Rattle.ml_ctl.specs.Sorts.{is_linear}
use Rattle.ml_blocks.specs.Items.{Item, Row, OfState, Waits, Becomes, Either, now, row}
use Rattle.ml_blocks.specs.ItemSets.{eventualities, next_items, put_all, without}
use Rattle.ml_blocks.specs.Places.{Place, Form, Holding, first_open, focus_behind, form_of, form_of_item, forms, is_wait, path_of}
use Rattle.ml_blocks.proofs.BlockSteps.{block, block_form, edge_form_of, path, path_is}
use Rattle.ml_blocks.proofs.ItemSetMembers.{next_items-all_of}
use Rattle.ml_blocks.proofs.ItemsFollow.{itself_within}
use Rattle.ml_blocks.proofs.ItemsWithin.{IsOf, StandsAt, same_key, within_stands}
use Rattle.ml_blocks.proofs.LocalRuns.{Of, Takes, after_of, next_of_of, none_open, open_now, some_open}
use Rattle.ml_word_automaton.proofs.AtomItems.{IsAtom, atom_of}

pub atom_alone : (n : ℕ) (h : Formula) (b : Bool) (p : Place)
    → IsAtom h
    → IsMember p (children (form_of (Holding n h b)))
    → ⊥
atom_alone n h b p (inl (c, is)) m = subst (λ x. IsMember p (children (form_of (Holding n x b)))) is m
atom_alone n h b p (inr (name, is)) m = subst (λ x. IsMember p (children (form_of (Holding n x b)))) is m

module _ (f : Formula) (sign : Bool) where
  abbrev pub first_item : Item
  first_item = now 0 f sign

  abbrev pub block_at : List Item → ℕ → Place
  block_at xs k = path first_item true xs k

  pub data Shape (form : Form) : Type 0 where
    edge : (zs : List Item) (k : ℕ) → Of first_item zs → form ≡ Diamond (block_at zs k) → Shape form
    beside : (n : ℕ) (h : Formula) (b : Bool) (zs : List Item) (k : ℕ)
        → IsAtom h
        → StandsAt 0 f n h
        → Of first_item zs
        → form ≡ And (Holding n h b) (block_at zs k)
        → Shape form
    twice : (zs : List Item) (k : ℕ) → Of first_item zs → form ≡ And (block_at zs k) (block_at zs k) → Shape form
    either : (ys zs : List Item) (k : ℕ) → Of first_item ys → Of first_item zs → form ≡ Or (block_at ys k) (block_at zs k) → Shape form

  -- ---- what is reached

  pub data Kind (p : Place) : Type 0 where
    of_block : (xs : List Item) (k : ℕ) → Of first_item xs → p ≡ block_at xs k → Kind p
    of_atom : (n : ℕ) (h : Formula) (b : Bool) → IsAtom h → StandsAt 0 f n h → p ≡ Holding n h b → Kind p

  from_shape : (form : Form) (p : Place) → Shape form → IsMember p (children form) → Kind p
  from_shape form p (edge zs k of e) m = by_child (subst (λ x. IsMember p (children x)) e m)
    where
      by_child : IsMember p (block_at zs k ∷ []) → Kind p
      by_child (inl is) = of_block zs k of is
      by_child (inr none) = absurd none
  from_shape form p (beside n h b zs k atom stands of e) m = by_child (subst (λ x. IsMember p (children x)) e m)
    where
      by_child : IsMember p (Holding n h b ∷ block_at zs k ∷ []) → Kind p
      by_child (inl is) = of_atom n h b atom stands is
      by_child (inr (inl is)) = of_block zs k of is
      by_child (inr (inr none)) = absurd none
  from_shape form p (twice zs k of e) m = by_child (subst (λ x. IsMember p (children x)) e m)
    where
      by_child : IsMember p (block_at zs k ∷ block_at zs k ∷ []) → Kind p
      by_child (inl is) = of_block zs k of is
      by_child (inr (inl is)) = of_block zs k of is
      by_child (inr (inr none)) = absurd none
  from_shape form p (either ys zs k of_ys of_zs e) m = by_child (subst (λ x. IsMember p (children x)) e m)
    where
      by_child : IsMember p (block_at ys k ∷ block_at zs k ∷ []) → Kind p
      by_child (inl is) = of_block ys k of_ys is
      by_child (inr (inl is)) = of_block zs k of_zs is
      by_child (inr (inr none)) = absurd none

  abbrev pub start : Place
  start = block_at (first_item ∷ []) 0

  pub of_first : Of first_item (first_item ∷ [])
  of_first v (inl is) = subst (IsOf first_item) (sym is) (itself_within 0 f sign)
  of_first v (inr none) = absurd none

  module _ (linear : is_linear f ≡ true) where
    opened : (xs : List Item) (k : ℕ) (x : Item)
        → Of first_item xs
        → first_open xs ≡ Some x
        → (r : Row)
        → row x ≡ r
        → Shape (form_of_item (block first_item true xs k) x r)
    opened xs k x of is OfState e =
        let of_x = of x (some_open xs x is).0 in
        beside x.number x.formula (beq x.positive true) (without x xs) k
        (atom_of 0 f sign linear x of_x e)
        (within_stands 0 f sign _ of_x).stands
        (after_of first_item xs x [] of is (subst (λ r. Takes r []) (sym e) refl))
        (ap (And (Holding x.number x.formula (beq x.positive true))) (path_is first_item true xs k (without x xs) k))
    opened xs k x of is Waits e =
        absurd (false≢true (sym (open_now x (some_open xs x is).1).1 ∙ ap is_wait e))
    opened xs k x of is (Becomes ys) e =
        let zs = put_all ys (without x xs) in
        twice zs k (after_of first_item xs x ys of is (subst (λ r. Takes r ys) (sym e) refl))
        (ap (λ p. And p p) (path_is first_item true xs k zs k))
    opened xs k x of is (Either ys ws) e =
        let left = put_all ys (without x xs) in
        let right = put_all ws (without x xs) in
        either left right k
        (after_of first_item xs x ys of is (subst (λ r. Takes r ys) (sym e) (inl refl)))
        (after_of first_item xs x ws of is (subst (λ r. Takes r ws) (sym e) (inr refl)))
        (ap (λ p. Or p (path_of (block first_item true xs k) right k)) (path_is first_item true xs k left k)
        ∙ ap (Or (block_at left k)) (path_is first_item true xs k right k))

    pub shape_of : (y : Item) (ys : List Item) (k : ℕ) → Of first_item (y ∷ ys) → Shape (form_of (block_at (y ∷ ys) k))
    shape_of y ys k of = by_open (first_open (y ∷ ys)) refl
      where
        by_open : (o : Option Item) → first_open (y ∷ ys) ≡ o → Shape (form_of (block_at (y ∷ ys) k))
        by_open None none =
            edge (next_items (y ∷ ys)) (focus_behind (eventualities first_item) k (y ∷ ys))
            (next_items-all_of (IsOf first_item) (same_key first_item) (y ∷ ys)
            (λ z i. next_of_of first_item z (of z i) (none_open (y ∷ ys) none z i)))
            (edge_form_of first_item true (y ∷ ys) k y (inl refl) none)
        by_open (Some x) is =
            subst Shape (sym (block_form first_item true (y ∷ ys) k x is)) (opened (y ∷ ys) k x of is (row x) refl)

    from_kind : (q p : Place) → Kind q → IsMember p (children (form_of q)) → Kind p
    from_kind q p (of_block [] k of e) m = absurd (subst (λ x. IsMember p (children (form_of x))) e m)
    from_kind q p (of_block (y ∷ ys) k of e) m =
        from_shape (form_of (block_at (y ∷ ys) k)) p (shape_of y ys k of) (subst (λ x. IsMember p (children (form_of x))) e m)
    from_kind q p (of_atom n h b atom stands e) m =
        absurd (atom_alone n h b p atom (subst (λ x. IsMember p (children (form_of x))) e m))

    pub kinds : (p : Place) → IsReached forms start p → Kind p
    kinds _ at_root = of_block (first_item ∷ []) 0 of_first refl
    kinds p (behind q _ reached m) = from_kind q p (kinds q reached) m
