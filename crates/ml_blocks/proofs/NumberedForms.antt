-- What a node is by the numbers of occurrences is what the node is for which they stand.
--
--   path_is        == the node of a block
--   form_is        == what a node is
--   priority_is    == its priority
--   form_fits      == all that stands in its form is kept
use Rattle.std.proofs.Common.{ℕ, ◌≡◌, ◌+◌, ◌%◌, arith, Bool, true, false, not, if◌then◌else◌, List, [], ◌∷◌, length, Option, None, Some, find, refl, sym, ap, ◌∙◌, subst}
use Rattle.std.specs.Bool.{beq}
use Rattle.std.specs.Option.{option_map}
use Rattle.ml_text.specs.declared.token.Operator.{Operator}
use Rattle.ml_text.specs.declared.token.Operator.TheVariants as operator
use Rattle.ml_text.specs.Operators.{weight}
use Rattle.ml_text.proofs.NameLists.{place_found}
use Rattle.ml_ctl.specs.Formula.{Formula, Const, Prop, Not, Binary, Temporal, Paired, Quantified, occurrences}
use Rattle.ml_ctl.specs.declared.term.Quantifier.TheVariants as quantifier
use Rattle.ml_blocks.specs.Items.{Item, now}
use Rattle.ml_blocks.specs.ItemSets.{next_items, eventualities, put_all, without}
use Rattle.ml_blocks.specs.Places as node
use Rattle.ml_nodes.specs.ClosureGraph as closure
use Rattle.ml_blocks.specs.Places.{Place, path_of, focus_behind, edge_priority, form_of, priority_of, form_of_item}
use Rattle.ml_nodes.specs.ClosureGraph.{all_of, one_of, form_of_connective}
use Rattle.ml_blocks.specs.Places.{form_of_edge, form_of_block, priority_of_block, form_of_formula}
use Rattle.ml_blocks.specs.private.Asked.{now_at, put_few, others}
use Rattle.ml_blocks.specs.private.Forms.{Form, row_in, is_open_in, next_all, is_pending, focus_in, edge_priority_in, path_at, with_items, item_form, edge_form}
use Rattle.ml_blocks.specs.private.Forms.{block_form, block_priority, whole, block_at, connective_form, symbol_form, state_form, form_in, priority_in}
use Rattle.ml_blocks.specs.private.Occurrences.{occurrence_here, entry_at, eventualities_at}
use Rattle.ml_blocks.specs.private.Views.{Kept, Stands, IsKept, AreKept, IsIff, BlockFits, Fits, FormFits, formula_at, item_of}
use Rattle.ml_blocks.specs.private.Views.{items_of, few_of, row_of, left_part, right_part, block_view, place_of}
use Rattle.ml_blocks.specs.declared.items.Asked.{Asked}
use Rattle.ml_blocks.specs.declared.rows.Row.{Row}
use Rattle.ml_blocks.specs.declared.rows.Row.TheVariants as row
use Rattle.ml_blocks.specs.declared.spots.Block.{Block}
use Rattle.ml_blocks.specs.declared.spots.Fixed.TheVariants as fixed
use Rattle.ml_nodes.specs.declared.numbering.Form.TheVariants as form
use Rattle.ml_blocks.specs.declared.spots.Part.TheVariants as part
use Rattle.ml_blocks.specs.declared.spots.Spot.{Spot}
use Rattle.ml_blocks.specs.declared.spots.Spot.TheVariants as spot
use Rattle.ml_nodes.proofs.NumberedClosures.{form_view}
use Rattle.ml_blocks.proofs.KeptFormulas.{formula_is, occurrence_is, eventualities_are, kept_at, of_not, of_left, of_right, of_quantifier}
use Rattle.ml_blocks.proofs.NumberedRows.{RowKept, row_is, row_kept}
use Rattle.ml_blocks.proofs.NumberedSets.{put_few_is, others_is, next_all_is, put_few_kept, others_kept, next_all_kept, OneKept, found_is, found_kept, pending_is}
use Rattle.ml_blocks.proofs.WantedEventualities.{eventualities_same}

-- ---- views

module _ (names : List (List ℕ)) (fs : List Formula) (start : Place) where
  abbrev here : Spot → Place
  here = place_of fs start

  abbrev seen : Form → node.Form
  seen = form_view names here

  pub path_is : (b : node.Block) (first : Asked) (sign : Bool) (xs : List Asked) (k : ℕ)
      → b.first ≡ item_of fs first
      → b.positive ≡ sign
      → here (path_at first sign xs k) ≡ path_of b (items_of fs xs) k
  path_is b first true [] k is_first is_sign = sym (ap (λ s. if s then node.True else node.False) is_sign)
  path_is b first false [] k is_first is_sign = sym (ap (λ s. if s then node.True else node.False) is_sign)
  path_is b first sign (x ∷ xs) k is_first is_sign =
      ap (λ f. node.Path (record { first = f; positive = sign; items = items_of fs (x ∷ xs); focus = k })) (sym is_first)
      ∙ ap (λ s. node.Path (record { first = b.first; positive = s; items = items_of fs (x ∷ xs); focus = k })) (sym is_sign)

  two_is : (sign : Bool) (l r : Spot) → seen (form.Two sign l r) ≡ all_of sign (here l) (here r)
  two_is true l r = refl
  two_is false l r = refl

  other_is : (sign : Bool) (l r : Spot) → seen (form.Two (not sign) l r) ≡ one_of sign (here l) (here r)
  other_is true l r = refl
  other_is false l r = refl

  twice_is : (sign : Bool) (s : Spot) → seen (form.Twice sign s) ≡ all_of sign (here s) (here s)
  twice_is true s = refl
  twice_is false s = refl

  edge_is : (sign : Bool) (s : Spot)
      → seen (form.Edge sign s) ≡ (if sign then closure.Diamond (here s) else closure.Square (here s))
  edge_is true s = refl
  edge_is false s = refl

  with_is : (b : Block) (xs : List Asked) (ys : List Item)
      → items_of fs xs ≡ ys
      → here (with_items b xs) ≡ path_of (block_view fs b) ys b.focus
  with_is b xs ys e =
      path_is (block_view fs b) b.first b.positive xs b.focus refl refl
      ∙ ap (λ zs. path_of (block_view fs b) zs b.focus) e

  item_is : (b : Block) (x : Asked) (r : Row)
      → seen (item_form b x r) ≡ form_of_item (block_view fs b) (item_of fs x) (row_of fs r)
  item_is b x row.OfState =
      let rest = without (item_of fs x) (items_of fs b.items) in
      two_is b.positive (spot.State part.Whole x.number (beq x.positive b.positive)) (with_items b (others x b.items))
      ∙ ap (all_of b.positive (node.Holding x.number (formula_at fs x.number) (beq x.positive b.positive)))
      (with_is b (others x b.items) rest (others_is fs x b.items))
  item_is b x row.Waits =
      ap (λ p. closure.And p p) (with_is b b.items (items_of fs b.items) refl)
  item_is b x (row.Becomes ys) =
      let rest = others x b.items in
      twice_is b.positive (with_items b (put_few ys rest))
      ∙ ap (λ p. all_of b.positive p p)
      (with_is b (put_few ys rest) (put_all (few_of fs ys) (without (item_of fs x) (items_of fs b.items)))
      (put_few_is fs ys rest ∙ ap (put_all (few_of fs ys)) (others_is fs x b.items)))
  item_is b x (row.Either ys zs) =
      let rest = others x b.items in
      let left = with_items b (put_few ys rest) in
      let right = with_items b (put_few zs rest) in
      let gone = without (item_of fs x) (items_of fs b.items) in
      other_is b.positive left right
      ∙ ap (λ p. one_of b.positive p (here right))
      (with_is b (put_few ys rest) (put_all (few_of fs ys) gone)
      (put_few_is fs ys rest ∙ ap (put_all (few_of fs ys)) (others_is fs x b.items)))
      ∙ ap (one_of b.positive (path_of (block_view fs b) (put_all (few_of fs ys) gone) b.focus))
      (with_is b (put_few zs rest) (put_all (few_of fs zs) gone)
      (put_few_is fs zs rest ∙ ap (put_all (few_of fs zs)) (others_is fs x b.items)))

  focus_is : (ms : List ℕ) (k : ℕ) (xs : List Asked)
      → focus_in ms k (is_pending ms k xs) ≡ focus_behind ms k (items_of fs xs)
  focus_is [] k xs = refl
  focus_is (e ∷ es) k xs = ap (λ b. if b then k else (k + 1) % length (e ∷ es)) (pending_is fs (e ∷ es) k xs)

  edge_priority_is : (ms : List ℕ) (k : ℕ) (xs : List Asked)
      → edge_priority_in ms (is_pending ms k xs) ≡ edge_priority ms k (items_of fs xs)
  edge_priority_is [] k xs = refl
  edge_priority_is (e ∷ es) k xs = ap (λ b. if b then 1 else 0) (pending_is fs (e ∷ es) k xs)

  -- ---- connectives

  connective_seen : (op : Operator) (sign : Bool) (n l r : ℕ)
      → seen (connective_form op sign n l r)
      ≡ form_of_connective op sign (node.Holding l (formula_at fs l)) (node.Holding r (formula_at fs r))
      (node.Both (n + 1) (left_part (formula_at fs n)) (right_part (formula_at fs n)))
      (node.Neither (n + 2) (left_part (formula_at fs n)) (right_part (formula_at fs n)))
  connective_seen operator.And true n l r = refl
  connective_seen operator.And false n l r = refl
  connective_seen operator.Or true n l r = refl
  connective_seen operator.Or false n l r = refl
  connective_seen operator.Implies true n l r = refl
  connective_seen operator.Implies false n l r = refl
  connective_seen operator.Iff sign n l r = refl

  connective_is : (op : Operator) (sign : Bool) (n l r : ℕ) (f g : Formula)
      → formula_at fs l ≡ f
      → formula_at fs r ≡ g
      → formula_at fs n ≡ Binary op f g
      → seen (connective_form op sign n l r)
      ≡ form_of_connective op sign (node.Holding l f) (node.Holding r g) (node.Both (n + 1) f g) (node.Neither (n + 2) f g)
  connective_is op sign n l r f g at_l at_r at_n =
      connective_seen op sign n l r
      ∙ ap (λ h. form_of_connective op sign (node.Holding l (formula_at fs l)) (node.Holding r (formula_at fs r))
      (node.Both (n + 1) (left_part h) (right_part h)) (node.Neither (n + 2) (left_part h) (right_part h))) at_n
      ∙ ap (λ h. form_of_connective op sign (node.Holding l h) (node.Holding r (formula_at fs r)) (node.Both (n + 1) f g)
      (node.Neither (n + 2) f g)) at_l
      ∙ ap (λ h. form_of_connective op sign (node.Holding l f) (node.Holding r h) (node.Both (n + 1) f g)
      (node.Neither (n + 2) f g)) at_r

-- ---- states

module _ (K : Kept) (start : Place) where
  abbrev place : Spot → Place
  place = place_of K.formulas start

  abbrev view : Form → node.Form
  view = form_view K.names (place_of K.formulas start)

  state_same : (n : ℕ) (f : Formula) (o : Option Bool) (sign : Bool)
      → Stands K n f o
      → view (symbol_form (occurrence_here K.names n f o).symbol sign n (occurrence_here K.names n f o).left
      (occurrence_here K.names n f o).right)
      ≡ form_of_formula n f sign
  state_same n (Const c) o sign s = refl
  state_same n (Prop p) o sign s = ap (λ name. closure.Literal name sign) (place_found K.names p s.among.0).named
  state_same n (Not f) o sign s =
      ap (λ h. closure.And (node.Holding (n + 1) h (not sign)) (node.Holding (n + 1) h (not sign)))
      (formula_is K (n + 1) f None (of_not K n f o s))
  state_same n (Binary op f g) o sign s =
      by_operator op
      (connective_is K.names K.formulas start op sign n (n + weight op) (n + weight op + occurrences f) f g
      (formula_is K (n + weight op) f None (of_left K op n f g o s))
      (formula_is K (n + weight op + occurrences f) g None (of_right K op n f g o s))
      (formula_is K n (Binary op f g) o s))
    where
      by_operator : (op : Operator)
          → view (connective_form op sign n (n + weight op) (n + weight op + occurrences f))
          ≡ form_of_connective op sign (node.Holding (n + weight op) f) (node.Holding (n + weight op + occurrences f) g)
          (node.Both (n + 1) f g) (node.Neither (n + 2) f g)
          → view (connective_form op sign n (n + weight op) (n + weight op + occurrences f))
          ≡ form_of_formula n (Binary op f g) sign
      by_operator operator.And is = is
      by_operator operator.Or is = is
      by_operator operator.Implies is = is
      by_operator operator.Iff is = is
  state_same n (Quantified quantifier.Exists f) o sign s =
      ap (λ h. let p = node.block_of (now (n + 1) h true) sign in closure.And p p)
      (formula_is K (n + 1) f (Some true) (of_quantifier K quantifier.Exists n f o s))
  state_same n (Quantified quantifier.Forall f) o sign s =
      ap (λ h. let p = node.block_of (now (n + 1) h false) (not sign) in closure.And p p)
      (formula_is K (n + 1) f (Some false) (of_quantifier K quantifier.Forall n f o s))
  state_same n (Temporal t f) o sign s = refl
  state_same n (Paired p f g) o sign s = refl

  whole_is : (n : ℕ) (sign : Bool) → IsKept K n
      → view (state_form K.occurrences part.Whole n sign) ≡ form_of_formula n (formula_at K.formulas n) sign
  whole_is n sign k =
      let f = formula_at K.formulas n in
      ap (λ o. view (symbol_form o.symbol sign n o.left o.right)) (occurrence_is K n f k.first k.stands)
      ∙ state_same n f k.first sign k.stands

  -- an iff, with its operands
  record Halves (n : ℕ) (f g : Formula) : Type 0 where
    left : (entry_at K.occurrences n).left ≡ n + 3
    right : (entry_at K.occurrences n).right ≡ n + 3 + occurrences f
    at_left : Stands K (n + 3) f None
    at_right : Stands K (n + 3 + occurrences f) g None

  halves : (n : ℕ) (i : IsIff K n) → Halves n i.left i.right
  halves n i =
      let f = Binary operator.Iff i.left i.right in
      let s : Stands K n f (i.kept).first = subst (λ h. Stands K n h (i.kept).first) i.is (i.kept).stands in
      let o = occurrence_is K n f (i.kept).first s in record {
        left = ap (λ e. e.left) o;
        right = ap (λ e. e.right) o;
        at_left = of_left K operator.Iff n i.left i.right (i.kept).first s;
        at_right = of_right K operator.Iff n i.left i.right (i.kept).first s;
      }

  holding_is : (i n : ℕ) (f : Formula) (sign : Bool)
      → i ≡ n
      → formula_at K.formulas n ≡ f
      → place (whole i sign) ≡ node.Holding n f sign
  holding_is i n f sign same at =
      ap (λ k. place (whole k sign)) same ∙ ap (λ h. node.Holding n h sign) at

  both_is : (n : ℕ) (sign : Bool) → (i : IsIff K n)
      → view (state_form K.occurrences part.Both n sign) ≡ form_of (place (spot.State part.Both n sign))
  both_is n sign i =
      let h = halves n i in
      let l = n + 1 + 2 in
      let at_l : (entry_at K.occurrences n).left ≡ n + 1 + 2 = h.left ∙ three n in
      let at_r : (entry_at K.occurrences n).right ≡ n + 1 + 2 + occurrences i.left = h.right ∙ ap (λ k. k + occurrences i.left) (three n) in
      let f_l = subst (λ k. formula_at K.formulas k ≡ i.left) (three n) (formula_is K (n + 3) i.left None h.at_left) in
      let f_r =
      subst (λ k. formula_at K.formulas (k + occurrences i.left) ≡ i.right) (three n)
      (formula_is K (n + 3 + occurrences i.left) i.right None h.at_right) in
      ap (λ p. closure.And p (place (whole (entry_at K.occurrences n).right sign)))
      (holding_is (entry_at K.occurrences n).left (n + 1 + 2) i.left true at_l f_l)
      ∙ ap (closure.And (node.Holding (n + 1 + 2) i.left true))
      (holding_is (entry_at K.occurrences n).right (n + 1 + 2 + occurrences i.left) i.right sign at_r f_r)
      ∙ sym (ap (λ e. form_of (node.Both (n + 1) (left_part e) (right_part e) sign)) i.is)
    where
      three : (n : ℕ) → n + 3 ≡ n + 1 + 2
      three n = omega arith

  neither_is : (n : ℕ) (sign : Bool) → (i : IsIff K n)
      → view (state_form K.occurrences part.Neither n sign) ≡ form_of (place (spot.State part.Neither n sign))
  neither_is n sign i =
      let h = halves n i in
      let at_l : (entry_at K.occurrences n).left ≡ n + 2 + 1 = h.left ∙ three n in
      let at_r : (entry_at K.occurrences n).right ≡ n + 2 + 1 + occurrences i.left = h.right ∙ ap (λ k. k + occurrences i.left) (three n) in
      let f_l = subst (λ k. formula_at K.formulas k ≡ i.left) (three n) (formula_is K (n + 3) i.left None h.at_left) in
      let f_r =
      subst (λ k. formula_at K.formulas (k + occurrences i.left) ≡ i.right) (three n)
      (formula_is K (n + 3 + occurrences i.left) i.right None h.at_right) in
      ap (λ p. closure.And p (place (whole (entry_at K.occurrences n).right (not sign))))
      (holding_is (entry_at K.occurrences n).left (n + 2 + 1) i.left false at_l f_l)
      ∙ ap (closure.And (node.Holding (n + 2 + 1) i.left false))
      (holding_is (entry_at K.occurrences n).right (n + 2 + 1 + occurrences i.left) i.right (not sign) at_r f_r)
      ∙ sym (ap (λ e. form_of (node.Neither (n + 2) (left_part e) (right_part e) sign)) i.is)
    where
      three : (n : ℕ) → n + 3 ≡ n + 2 + 1
      three n = omega arith

  -- ---- blocks

  eventualities_is : (b : Block) → BlockFits K b
      → eventualities_at K.eventualities b.first.number ≡ eventualities (item_of K.formulas b.first)
  eventualities_is b fits =
      let f = formula_at K.formulas b.first.number in
      eventualities_are K b.first.number f (Some b.first.positive) fits.first
      ∙ eventualities_same b.first.number f b.first.positive

  edge_form_is : (b : Block) → BlockFits K b
      → view (edge_form K.occurrences (eventualities_at K.eventualities b.first.number) b)
      ≡ form_of_edge (block_view K.formulas b)
  edge_form_is b fits =
      let ms = eventualities (item_of K.formulas b.first) in
      let items = items_of K.formulas b.items in
      let behind = next_all K.occurrences b.items in
      let fs = K.formulas in
      ap (λ ks. view (edge_form K.occurrences ks b)) (eventualities_is b fits)
      ∙ edge_is K.names fs start b.positive
      (path_at b.first b.positive behind (focus_in ms b.focus (is_pending ms b.focus b.items)))
      ∙ ap (λ p. if b.positive then closure.Diamond p else closure.Square p)
      (path_is K.names fs start (block_view fs b) b.first b.positive behind
      (focus_in ms b.focus (is_pending ms b.focus b.items)) refl refl
      ∙ ap (λ xs. path_of (block_view fs b) xs (focus_in ms b.focus (is_pending ms b.focus b.items)))
      (next_all_is K b.items fits.items)
      ∙ ap (path_of (block_view fs b) (next_items items)) (focus_is K.names fs start ms b.focus b.items))

  abbrev seen_item : Option Asked → Option Item
  seen_item = option_map (item_of K.formulas)

  block_is : (b : Block) (x : Option Asked)
      → BlockFits K b
      → OneKept K x
      → view (block_form K.occurrences (eventualities_at K.eventualities b.first.number) b x)
      ≡ form_of_block (block_view K.formulas b) (seen_item x)
  block_is b (Some x) fits k =
      item_is K.names K.formulas start b x (row_in (entry_at K.occurrences x.number) x)
      ∙ ap (form_of_item (block_view K.formulas b) (item_of K.formulas x)) (row_is K x k)
  block_is b None fits k = edge_form_is b fits

  block_priority_is : (b : Block) (x : Option Asked)
      → BlockFits K b
      → block_priority (eventualities_at K.eventualities b.first.number) b x
      ≡ priority_of_block (block_view K.formulas b) (seen_item x)
  block_priority_is b (Some x) fits = refl
  block_priority_is b None fits =
      ap (λ ks. edge_priority_in ks (is_pending ks b.focus b.items)) (eventualities_is b fits)
      ∙ edge_priority_is K.names K.formulas start (eventualities (item_of K.formulas b.first)) b.focus b.items

  -- ---- all nodes

  module _ (first : Spot) (is_start : place first ≡ start) where
    pub form_is : (s : Spot) → Fits K s → view (form_in K.occurrences K.eventualities first s) ≡ form_of (place s)
    form_is (spot.Fixed fixed.Root) fits = ap (λ p. closure.And p node.Total) is_start
    form_is (spot.Fixed fixed.Total) fits = refl
    form_is (spot.Fixed fixed.HasEdge) fits = refl
    form_is (spot.Fixed fixed.LeadsOn) fits = refl
    form_is (spot.Fixed fixed.True) fits = refl
    form_is (spot.Fixed fixed.False) fits = refl
    form_is (spot.State part.Whole n b) fits = whole_is n b fits
    form_is (spot.State part.Both n b) fits = both_is n b fits
    form_is (spot.State part.Neither n b) fits = neither_is n b fits
    form_is (spot.Path b) fits =
        let x = find (is_open_in K.occurrences) b.items in
        block_is b x fits (found_kept K b.items fits.items)
        ∙ ap (form_of_block (block_view K.formulas b)) (found_is K b.items fits.items)

  pub priority_is : (s : Spot) → Fits K s → priority_in K.occurrences K.eventualities s ≡ priority_of (place s)
  priority_is (spot.Fixed fixed.Root) fits = refl
  priority_is (spot.Fixed fixed.Total) fits = refl
  priority_is (spot.Fixed fixed.HasEdge) fits = refl
  priority_is (spot.Fixed fixed.LeadsOn) fits = refl
  priority_is (spot.Fixed fixed.True) fits = refl
  priority_is (spot.Fixed fixed.False) fits = refl
  priority_is (spot.State part.Whole n b) fits = refl
  priority_is (spot.State part.Both n b) fits = refl
  priority_is (spot.State part.Neither n b) fits = refl
  priority_is (spot.Path b) fits =
      let x = find (is_open_in K.occurrences) b.items in
      ap (λ k. k + (if b.positive then 0 else 1))
      (block_priority_is b x fits
      ∙ ap (priority_of_block (block_view K.formulas b)) (found_is K b.items fits.items))

-- ---- what stands in a form is kept

module _ (K : Kept) where
  with_fits : (b : Block) → BlockFits K b → (xs : List Asked) (k : ℕ)
      → AreKept K xs
      → Fits K (path_at b.first b.positive xs k)
  with_fits b fits [] k ks = tt
  with_fits b fits (x ∷ xs) k ks = record { first = fits.first; is_now = fits.is_now; items = ks }

  item_fits : (b : Block) (x : Asked) (r : Row)
      → BlockFits K b
      → IsKept K x.number
      → RowKept K r
      → FormFits K (item_form b x r)
  item_fits b x row.OfState fits k rest = (k, with_fits b fits (others x b.items) b.focus (others_kept K x b.items fits.items))
  item_fits b x row.Waits fits k rest = with_fits b fits b.items b.focus fits.items
  item_fits b x (row.Becomes ys) fits k rest =
      with_fits b fits (put_few ys (others x b.items)) b.focus
      (put_few_kept K ys (others x b.items) rest (others_kept K x b.items fits.items))
  item_fits b x (row.Either ys zs) fits k rest = (
    with_fits b fits (put_few ys (others x b.items)) b.focus
        (put_few_kept K ys (others x b.items) rest.0 (others_kept K x b.items fits.items)),
    with_fits b fits (put_few zs (others x b.items)) b.focus
        (put_few_kept K zs (others x b.items) rest.1 (others_kept K x b.items fits.items)),
  )

  block_fits : (b : Block) (ms : List ℕ) (x : Option Asked)
      → BlockFits K b
      → OneKept K x
      → FormFits K (block_form K.occurrences ms b x)
  block_fits b ms (Some x) fits k = item_fits b x (row_in (entry_at K.occurrences x.number) x) fits k (row_kept K x k)
  block_fits b ms None fits k =
      with_fits b fits (next_all K.occurrences b.items) (focus_in ms b.focus (is_pending ms b.focus b.items))
      (next_all_kept K b.items fits.items)

  pub begun_fits : (n : ℕ) (f : Formula) (c sign : Bool) → Stands K n f (Some c) → Fits K (block_at (now_at n c) sign)
  begun_fits n f c sign s = record {
    first = subst (λ g. Stands K n g (Some c)) (sym (formula_is K n f (Some c) s)) s;
    is_now = refl;
    items = (kept_at K n f (Some c) s, tt);
  }

  connective_fits : (op : Operator) (sign : Bool) (n l r : ℕ)
      → IsKept K l
      → IsKept K r
      → (op ≡ operator.Iff → IsIff K n)
      → FormFits K (connective_form op sign n l r)
  connective_fits operator.And true n l r left right own = (left, right)
  connective_fits operator.And false n l r left right own = (left, right)
  connective_fits operator.Or true n l r left right own = (left, right)
  connective_fits operator.Or false n l r left right own = (left, right)
  connective_fits operator.Implies true n l r left right own = (left, right)
  connective_fits operator.Implies false n l r left right own = (left, right)
  connective_fits operator.Iff sign n l r left right own = (own refl, own refl)

  state_fits : (n : ℕ) (f : Formula) (o : Option Bool) (sign : Bool)
      → Stands K n f o
      → FormFits K (symbol_form (occurrence_here K.names n f o).symbol sign n (occurrence_here K.names n f o).left
      (occurrence_here K.names n f o).right)
  state_fits n (Const c) o sign s = tt
  state_fits n (Prop p) o sign s = (place_found K.names p s.among.0).below
  state_fits n (Not f) o sign s = kept_at K (n + 1) f None (of_not K n f o s)
  state_fits n (Binary op f g) o sign s =
      connective_fits op sign n (n + weight op) (n + weight op + occurrences f)
      (kept_at K (n + weight op) f None (of_left K op n f g o s))
      (kept_at K (n + weight op + occurrences f) g None (of_right K op n f g o s))
      (λ is. record {
        left = f;
        right = g;
        is = formula_is K n (Binary op f g) o s ∙ ap (λ c. Binary c f g) is;
        kept = kept_at K n (Binary op f g) o s;
      })
  state_fits n (Quantified quantifier.Exists f) o sign s =
      begun_fits (n + 1) f true sign (of_quantifier K quantifier.Exists n f o s)
  state_fits n (Quantified quantifier.Forall f) o sign s =
      begun_fits (n + 1) f false (not sign) (of_quantifier K quantifier.Forall n f o s)
  state_fits n (Temporal t f) o sign s = tt
  state_fits n (Paired p f g) o sign s = tt

  whole_fits : (n : ℕ) (sign : Bool) → IsKept K n → FormFits K (state_form K.occurrences part.Whole n sign)
  whole_fits n sign k =
      let f = formula_at K.formulas n in
      subst (λ o. FormFits K (symbol_form o.symbol sign n o.left o.right)) (sym (occurrence_is K n f k.first k.stands))
      (state_fits n f k.first sign k.stands)

  pub form_fits : (first : Spot) → Fits K first → (s : Spot) → Fits K s
      → FormFits K (form_in K.occurrences K.eventualities first s)
  form_fits first start (spot.Fixed fixed.Root) fits = (start, tt)
  form_fits first start (spot.Fixed fixed.Total) fits = (tt, tt)
  form_fits first start (spot.Fixed fixed.HasEdge) fits = tt
  form_fits first start (spot.Fixed fixed.LeadsOn) fits = tt
  form_fits first start (spot.Fixed fixed.True) fits = tt
  form_fits first start (spot.Fixed fixed.False) fits = tt
  form_fits first start (spot.State part.Whole n b) fits = whole_fits n b fits
  form_fits first start (spot.State part.Both n b) fits =
      let h = halves K node.True n fits in (
        subst (IsKept K) (sym h.left) (kept_at K (n + 3) fits.left None h.at_left),
        subst (IsKept K) (sym h.right) (kept_at K (n + 3 + occurrences fits.left) fits.right None h.at_right),
      )
  form_fits first start (spot.State part.Neither n b) fits =
      let h = halves K node.True n fits in (
        subst (IsKept K) (sym h.left) (kept_at K (n + 3) fits.left None h.at_left),
        subst (IsKept K) (sym h.right) (kept_at K (n + 3 + occurrences fits.left) fits.right None h.at_right),
      )
  form_fits first start (spot.Path b) fits =
      block_fits b (eventualities_at K.eventualities b.first.number) (find (is_open_in K.occurrences) b.items) fits
      (found_kept K b.items fits.items)
