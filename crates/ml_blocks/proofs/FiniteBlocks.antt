-- What is reached from a block stands in one finite list, where this is so of what its items ask of a state.
--
--   universe            == the items that come of the block's first one, now and put off
--   key_low             == their keys are below a number
--   IsSet xs            == the items xs are among them, and in order
--   Node p              == p is a node of the block
--   Within p            == p is a node of the block, or is reached from what one of its items asks of a state
--   within_steps        == what such a node leads to is another
--   block_finite        == so finitely many are reached
use Rattle.std.proofs.Common.{ℕ, ◌≡◌, ◌+◌, ◌*◌, ◌<◌, ◌%◌, ◌⊎◌, inl, inr, arith, true, false, Bool, List, [], ◌∷◌, ◌++◌, map, length, Option, Some, None, refl, sym, ap, subst, ◌∙◌, ⊎_elim}
use Rattle.std.specs.Bool.{beq}
use Rattle.std.specs.List.{flat_map, range_with_len}
use Rattle.std.proofs.lemmas.Bool.{cases_Bool, cond-true, cond-false}
use Rattle.std.proofs.lemmas.Nat.{mod_below}
use Rattle.ml_lists.specs.Member.{IsMember}
use Rattle.ml_lists.proofs.Member.{member-append_left, member-append_right, member-flat_map, member-map}
use Rattle.ml_lists.proofs.Ranges.{member-range}
use Rattle.ml_ctl.specs.Formula.{occurrences}
use Rattle.ml_blocks.specs.BlockClosures.{at_root, behind, children}
use Rattle.ml_blocks.specs.BlockClosures.{IsReached}
use Rattle.ml_blocks.specs.Items.{Item, Row, OfState, Waits, Becomes, Either, put_off, row}
use Rattle.ml_blocks.specs.ItemSets.{due, key, put_all, without, items_within, next_items, eventualities}
use Rattle.ml_blocks.specs.Places.{Place, Holding, form_of, form_of_item, focus_behind, is_put_off, path_of, first_open, block_of}
use Rattle.ml_nodes.specs.ClosureGraph.{all_of, one_of}
use Rattle.ml_blocks.proofs.BlockSteps.{block, block_form, edge_form_of, path, path_is}
use Rattle.ml_blocks.proofs.ItemSetMembers.{next_items-all_of}
use Rattle.ml_blocks.proofs.ItemsWithin.{IsOf, bits_low, same_key, stands_at_within, within_stands}
use Rattle.ml_blocks.proofs.LocalRuns.{Of, Takes, after_of, none_open, next_of_of, some_open}
use Rattle.ml_blocks.proofs.OrderedItems.{InOrder, in_order_short, lists_of, member-lists_of, next_in_order, put_all_in_order, without_in_order}
use Rattle.ml_blocks.proofs.PlaceVertices.{edge_form}
use Rattle.ml_blocks.proofs.ReachedPlaces.{Finite, HasAll, Together, together}
use Rattle.ml_blocks.proofs.RowsOfItems.{item, due_now}

focus_in_range : (ms : List ℕ) (k : ℕ) (xs : List Item) → k < length ms + 1 → focus_behind ms k xs < length ms + 1
focus_in_range [] k xs low = omega arith
focus_in_range (e ∷ es) k xs low = by_test (cases_Bool (is_put_off (e ∷ es) k xs))
  where
    by_test : (is_put_off (e ∷ es) k xs ≡ true) ⊎ (is_put_off (e ∷ es) k xs ≡ false)
        → focus_behind (e ∷ es) k xs < length (e ∷ es) + 1
    by_test (inl t) =
        let is = cond-true (is_put_off (e ∷ es) k xs) k ((k + 1) % length (e ∷ es)) t in omega (arith, is, low)
    by_test (inr f) =
        let is = cond-false (is_put_off (e ∷ es) k xs) k ((k + 1) % length (e ∷ es)) f in
        let under = mod_below (k + 1) (length (e ∷ es)) (omega arith) in
        omega (arith, is, under)

in_two : (p l r : Place) → IsMember p (l ∷ r ∷ []) → (p ≡ l) ⊎ (p ≡ r)
in_two p l r (inl e) = inl e
in_two p l r (inr (inl e)) = inr e
in_two p l r (inr (inr none)) = absurd none

in_both : (b : Bool) (p l r : Place) → IsMember p (children (all_of b l r)) → (p ≡ l) ⊎ (p ≡ r)
in_both true p l r m = in_two p l r m
in_both false p l r m = in_two p l r m

in_one : (b : Bool) (p l r : Place) → IsMember p (children (one_of b l r)) → (p ≡ l) ⊎ (p ≡ r)
in_one true p l r m = in_two p l r m
in_one false p l r m = in_two p l r m

along_edge : (b : Bool) (p q : Place) → IsMember p (children (edge_form b q)) → p ≡ q
along_edge true p q (inl e) = e
along_edge true p q (inr none) = absurd none
along_edge false p q (inl e) = e
along_edge false p q (inr none) = absurd none

from_constant : (first : Item) (b : Bool) (k : ℕ) (p : Place) → IsMember p (children (form_of (path first b [] k))) → ⊥
from_constant first true k p none = none
from_constant first false k p none = none

module _ (first : Item) (b : Bool) where
  abbrev at_first : List Item
  at_first = items_within first.number first.formula first.positive

  abbrev universe : List Item
  universe = at_first ++ map put_off at_first

  in_universe : (x : Item) → IsOf first x → IsMember x universe
  in_universe x of = by_time (cases_Bool x.later)
    where
      by_time : (x.later ≡ true) ⊎ (x.later ≡ false) → IsMember x universe
      by_time (inl e) =
          let is : put_off (due x) ≡ x = ap (item x.number x.formula x.positive) (sym e) in
          subst (λ y. IsMember y universe) is
          (member-append_right (put_off (due x)) at_first (map put_off at_first) (member-map put_off (due x) at_first of))
      by_time (inr e) =
          member-append_left x at_first (map put_off at_first) (subst (λ y. IsMember y at_first) (due_now x e) of)

  abbrev top : ℕ
  top = 4 * (first.number + occurrences first.formula)

  key_low : (x : Item) → IsOf first x → key x < top
  key_low x of =
      let stands = (within_stands first.number first.formula first.positive (due x) of).stands in
      let low = (stands_at_within first.number first.formula x.number x.formula stands).1 in
      let bits = bits_low x.positive x.later in
      omega (arith, low, bits)

  record IsSet (xs : List Item) : Type 0 where
    of : Of first xs
    in_order : InOrder xs

  abbrev turns : ℕ
  turns = length (eventualities first) + 1

  record Node (p : Place) : Type 0 where
    items : List Item
    focus : ℕ
    is_set : IsSet items
    in_turn : focus < turns
    is : p ≡ path first b items focus

  record AtState (p : Place) : Type 0 where
    asked : Item
    member : IsMember asked at_first
    sign : Bool
    reached : IsReached (Holding asked.number asked.formula sign) p

  abbrev Within : Place → Type 0
  Within p = Node p ⊎ AtState p

  node : (ws : List Item) (j : ℕ) (xs : List Item) (k : ℕ) (p : Place)
      → IsSet xs
      → k < turns
      → p ≡ path_of (block first b ws j) xs k
      → Within p
  node ws j xs k p is_set low e = inl (record {
    items = xs;
    focus = k;
    is_set = is_set;
    in_turn = low;
    is = e ∙ path_is first b ws j xs k;
  })

  way : (xs : List Item) (k : ℕ) (x : Item) (ys : List Item) (p : Place)
      → IsSet xs
      → k < turns
      → first_open xs ≡ Some x
      → Takes (row x) ys
      → p ≡ path_of (block first b xs k) (put_all ys (without x xs)) k
      → Within p
  way xs k x ys p is_set low is takes e =
      node xs k (put_all ys (without x xs)) k p
      (record {
        of = after_of first xs x ys is_set.of is takes;
        in_order = put_all_in_order ys (without x xs) (without_in_order x xs is_set.in_order);
      })
      low e

  -- an open item is decomposed
  opened : (xs : List Item) (k : ℕ) (x : Item) (p : Place)
      → IsSet xs
      → k < turns
      → first_open xs ≡ Some x
      → (r : Row)
      → row x ≡ r
      → IsMember p (children (form_of_item (block first b xs k) x r))
      → Within p
  opened xs k x p is_set low is OfState e m =
      ⊎_elim
      (λ (here : p ≡ Holding x.number x.formula (beq x.positive b)).
      let reached : IsReached (Holding x.number x.formula (beq x.positive b)) p = subst (IsReached _) (sym here) at_root in
      let member = is_set.of x (some_open xs x is).0 in
      inr (record { asked = due x; member = member; sign = beq x.positive b; reached = reached }))
      (λ (rest : p ≡ path_of (block first b xs k) (without x xs) k).
      way xs k x [] p is_set low is (subst (λ r. Takes r []) (sym e) refl) rest)
      (in_both b p (Holding x.number x.formula (beq x.positive b)) (path_of (block first b xs k) (without x xs) k) m)
  opened xs k x p is_set low is Waits e m =
      let q = path_of (block first b xs k) xs k in
      ⊎_elim (λ (here : p ≡ q). node xs k xs k p is_set low here) (λ (here : p ≡ q). node xs k xs k p is_set low here)
      (in_two p q q m)
  opened xs k x p is_set low is (Becomes ys) e m =
      let q = path_of (block first b xs k) (put_all ys (without x xs)) k in
      let takes : Takes (row x) ys = subst (λ r. Takes r ys) (sym e) refl in
      ⊎_elim (λ (here : p ≡ q). way xs k x ys p is_set low is takes here)
      (λ (here : p ≡ q). way xs k x ys p is_set low is takes here)
      (in_both b p q q m)
  opened xs k x p is_set low is (Either ys zs) e m =
      let l = path_of (block first b xs k) (put_all ys (without x xs)) k in
      let r = path_of (block first b xs k) (put_all zs (without x xs)) k in
      ⊎_elim
      (λ (here : p ≡ l). way xs k x ys p is_set low is (subst (λ o. Takes o ys) (sym e) (inl refl)) here)
      (λ (here : p ≡ r). way xs k x zs p is_set low is (subst (λ o. Takes o zs) (sym e) (inr refl)) here)
      (in_one b p l r m)

  -- no item is open: along an edge
  edge : (y : Item) (ys : List Item) (k : ℕ) (p : Place)
      → IsSet (y ∷ ys)
      → k < turns
      → first_open (y ∷ ys) ≡ None
      → IsMember p (children (form_of (path first b (y ∷ ys) k)))
      → Within p
  edge y ys k p is_set low none m =
      let focus = focus_behind (eventualities first) k (y ∷ ys) in
      let q = path first b (next_items (y ∷ ys)) focus in
      let here =
      along_edge b p q
      (subst (λ f. IsMember p (children f)) (edge_form_of first b (y ∷ ys) k y (inl refl) none) m) in
      inl (record {
        items = next_items (y ∷ ys);
        focus = focus;
        is_set = record {
          of =
              next_items-all_of (IsOf first) (same_key first) (y ∷ ys)
              (λ z i. next_of_of first z (is_set.of z i) (none_open (y ∷ ys) none z i));
          in_order = next_in_order (y ∷ ys);
        };
        in_turn = focus_in_range (eventualities first) k (y ∷ ys) low;
        is = here;
      })

  node_steps : (xs : List Item) (k : ℕ) (p : Place)
      → IsSet xs
      → k < turns
      → IsMember p (children (form_of (path first b xs k)))
      → Within p
  node_steps [] k p is_set low m = absurd (from_constant first b k p m)
  node_steps (y ∷ ys) k p is_set low m = by_open (first_open (y ∷ ys)) refl
    where
      by_open : (o : Option Item) → first_open (y ∷ ys) ≡ o → Within p
      by_open None none = edge y ys k p is_set low none m
      by_open (Some x) is =
          opened (y ∷ ys) k x p is_set low is (row x) refl
          (subst (λ f. IsMember p (children f)) (block_form first b (y ∷ ys) k x is) m)

  within_steps : (q p : Place) → Within q → IsMember p (children (form_of q)) → Within p
  within_steps q p (inl n) m =
      node_steps n.items n.focus p n.is_set n.in_turn (subst (λ v. IsMember p (children (form_of v))) n.is m)
  within_steps q p (inr s) m =
      inr (record { asked = s.asked; member = s.member; sign = s.sign; reached = behind q p s.reached m })

  all_within : (q p : Place) → Within q → IsReached q p → Within p
  all_within q _ w at_root = w
  all_within q _ w (behind v p before m) = within_steps v p (all_within q v w before) m

  abbrev sets : List (List Item)
  sets = lists_of universe top

  abbrev nodes_of : List Item → List Place
  nodes_of xs = map (λ k. path first b xs k) (range_with_len 0 turns)

  listed_node : (p : Place) → Node p → IsMember p (flat_map nodes_of sets)
  listed_node p n =
      let short =
      in_order_short 0 top n.items n.is_set.in_order
      (λ x m. let low = key_low x (n.is_set.of x m) in (omega arith, low)) (omega arith) in
      let set =
      member-lists_of universe top n.items (λ x m. in_universe x (n.is_set.of x m)) (omega (arith, short)) in
      subst (λ v. IsMember v (flat_map nodes_of sets)) (sym n.is)
      (member-flat_map nodes_of n.items (path first b n.items n.focus) sets set
      (member-map (λ k. path first b n.items k) n.focus (range_with_len 0 turns) (member-range turns n.focus n.in_turn)))

  module _ (asks : (x : Item) → IsMember x at_first → (sign : Bool) → Finite (Holding x.number x.formula sign)) where
    at_states : (sign : Bool) → Together (λ (x : Item). Holding x.number x.formula sign) at_first
    at_states sign = together (λ (x : Item). Holding x.number x.formula sign) at_first (λ x m. asks x m sign)

    abbrev states : List Place
    states = (at_states true).places ++ (at_states false).places

    listed_state : (x : Item) → IsMember x at_first → (sign : Bool) → HasAll states (Holding x.number x.formula sign)
    listed_state x m true p reached =
        member-append_left p (at_states true).places (at_states false).places ((at_states true).has_all x m p reached)
    listed_state x m false p reached =
        member-append_right p (at_states true).places (at_states false).places ((at_states false).has_all x m p reached)

    listed : (p : Place) → Within p → IsMember p (flat_map nodes_of sets ++ states)
    listed p (inl n) = member-append_left p (flat_map nodes_of sets) states (listed_node p n)
    listed p (inr s) =
        member-append_right p (flat_map nodes_of sets) states (listed_state s.asked s.member s.sign p s.reached)

    pub block_finite : IsMember first at_first → first.later ≡ false → Finite (block_of first b)
    block_finite m now = record {
      places = flat_map nodes_of sets ++ states;
      has_all = λ p reached. listed p (all_within (block_of first b) p (inl root) reached);
    }
      where
        root : Node (block_of first b)
        root = record {
          items = first ∷ [];
          focus = 0;
          is_set = record { of = of; in_order = ((λ y none. absurd none), tt) };
          in_turn = omega arith;
          is = refl;
        }
          where
            of : Of first (first ∷ [])
            of x (inl e) = subst (IsOf first) (sym e) (subst (λ y. IsMember y at_first) (sym (due_now first now)) m)
            of x (inr none) = absurd none
