-- Items by the numbers of their occurrences are decomposed as the items that they stand for.
--
--   row_is       == the row of an item whose formula is kept
--   row_kept     == what stands in it is kept too
--   open_is      == whether an item is to be decomposed
--   next_is, next_kept == what it asks of the next place
use Rattle.std.proofs.Common.{ℕ, ◌≡◌, ◌+◌, Bool, true, false, not, ◌&&◌, List, [], ◌∷◌, Option, None, refl, sym, ap, ◌∙◌, subst, cond}
use Rattle.ml_text.specs.declared.token.Operator.{Operator}
use Rattle.ml_text.specs.declared.token.Operator.TheVariants as operator
use Rattle.ml_text.specs.Operators.{weight}
use Rattle.ml_ctl.specs.Formula.{Formula, Const, Prop, Not, Binary, Temporal, Paired, Quantified, occurrences}
use Rattle.ml_ctl.specs.declared.term.Tense.{Tense}
use Rattle.ml_ctl.specs.declared.term.Tense.TheVariants as tense
use Rattle.ml_ctl.specs.declared.term.Pairing.{Pairing}
use Rattle.ml_ctl.specs.declared.term.Pairing.TheVariants as pairing
use Rattle.ml_blocks.specs.Items as plain
use Rattle.ml_blocks.specs.Items.{now}
use Rattle.ml_blocks.specs.ItemSets.{next_of}
use Rattle.ml_blocks.specs.Places.{is_open, is_wait}
use Rattle.ml_blocks.specs.private.Asked.{now_at}
use Rattle.ml_blocks.specs.private.Forms.{row_in, symbol_row, connective_row, tense_row, pairing_row, is_next, is_open_in, next_in}
use Rattle.ml_blocks.specs.private.Occurrences.{occurrence_here, entry_at}
use Rattle.ml_blocks.specs.private.Views.{Kept, Stands, IsKept, formula_at, item_of, row_of}
use Rattle.ml_blocks.specs.declared.items.Asked.{Asked}
use Rattle.ml_blocks.specs.declared.items.Few.{Few}
use Rattle.ml_blocks.specs.declared.items.Few.TheVariants as few
use Rattle.ml_blocks.specs.declared.rows.Row.{Row}
use Rattle.ml_blocks.specs.declared.rows.Row.TheVariants as row
use Rattle.ml_blocks.specs.declared.table.Occurrence.{Occurrence}
use Rattle.ml_blocks.specs.declared.table.Symbol.{Symbol}
use Rattle.ml_blocks.specs.declared.table.Symbol.TheVariants as symbol
use Rattle.ml_blocks.proofs.KeptFormulas.{formula_is, occurrence_is, kept_at, of_not, of_left, of_right, of_tense, before, behind}

abbrev asked : ℕ → Bool → Bool → Asked
asked n b d = record { number = n; positive = b; later = d }

module _ (fs : List Formula) where
  connective_same : (op : Operator) (b : Bool) (l r : ℕ)
      → row_of fs (connective_row op b l r)
      ≡ plain.row_of_connective op b (now l (formula_at fs l)) (now r (formula_at fs r))
  connective_same operator.And true l r = refl
  connective_same operator.And false l r = refl
  connective_same operator.Or true l r = refl
  connective_same operator.Or false l r = refl
  connective_same operator.Implies true l r = refl
  connective_same operator.Implies false l r = refl
  connective_same operator.Iff true l r = refl
  connective_same operator.Iff false l r = refl

  joined : (op : Operator) (b : Bool) (l r : ℕ) (f g : Formula)
      → formula_at fs l ≡ f
      → formula_at fs r ≡ g
      → row_of fs (connective_row op b l r) ≡ plain.row_of_connective op b (now l f) (now r g)
  joined op b l r f g at_l at_r =
      connective_same op b l r
      ∙ ap (λ h. plain.row_of_connective op b (now l h) (now r (formula_at fs r))) at_l
      ∙ ap (λ h. plain.row_of_connective op b (now l f) (now r h)) at_r

  tense_same : (t : Tense) (n : ℕ) (b d : Bool) (l : ℕ)
      → row_of fs (tense_row t (asked n b d) (now_at l b))
      ≡ plain.row_of_tense t (item_of fs (asked n b d)) (now l (formula_at fs l) b)
  tense_same tense.Next n b d l = refl
  tense_same tense.Finally n true d l = refl
  tense_same tense.Finally n false d l = refl
  tense_same tense.Globally n true d l = refl
  tense_same tense.Globally n false d l = refl

  pairing_same : (p : Pairing) (n : ℕ) (b d : Bool) (l r : ℕ)
      → row_of fs (pairing_row p (asked n b d) (now_at l b) (now_at r b))
      ≡ plain.row_of_pairing p (item_of fs (asked n b d)) (now l (formula_at fs l) b) (now r (formula_at fs r) b)
  pairing_same pairing.Until n true d l r = refl
  pairing_same pairing.Until n false d l r = refl
  pairing_same pairing.Release n true d l r = refl
  pairing_same pairing.Release n false d l r = refl
  pairing_same pairing.Weak n true d l r = refl
  pairing_same pairing.Weak n false d l r = refl

  -- an X waits, and nothing else does
  connective_waits : (op : Operator) (b : Bool) (l r : ℕ) → false ≡ is_wait (row_of fs (connective_row op b l r))
  connective_waits operator.And true l r = refl
  connective_waits operator.And false l r = refl
  connective_waits operator.Or true l r = refl
  connective_waits operator.Or false l r = refl
  connective_waits operator.Implies true l r = refl
  connective_waits operator.Implies false l r = refl
  connective_waits operator.Iff true l r = refl
  connective_waits operator.Iff false l r = refl

  waits : (s : Symbol) (l r n : ℕ) (b d : Bool) → is_next s ≡ is_wait (row_of fs (symbol_row s l r (asked n b d)))
  waits (symbol.Const c) l r n b d = refl
  waits (symbol.Prop p) l r n b d = refl
  waits (symbol.Quantified q) l r n b d = refl
  waits symbol.Not l r n b d = refl
  waits (symbol.Binary op) l r n b d = connective_waits op b l r
  waits (symbol.Temporal tense.Next) l r n b d = refl
  waits (symbol.Temporal tense.Finally) l r n true d = refl
  waits (symbol.Temporal tense.Finally) l r n false d = refl
  waits (symbol.Temporal tense.Globally) l r n true d = refl
  waits (symbol.Temporal tense.Globally) l r n false d = refl
  waits (symbol.Paired pairing.Until) l r n true d = refl
  waits (symbol.Paired pairing.Until) l r n false d = refl
  waits (symbol.Paired pairing.Release) l r n true d = refl
  waits (symbol.Paired pairing.Release) l r n false d = refl
  waits (symbol.Paired pairing.Weak) l r n true d = refl
  waits (symbol.Paired pairing.Weak) l r n false d = refl

-- ---- what stands in a row is kept

abbrev pub FewKept : Kept → Few → Type 0
FewKept K (few.One x) = IsKept K x.number
FewKept K (few.Two x y) = IsKept K x.number × IsKept K y.number

abbrev pub RowKept : Kept → Row → Type 0
RowKept K row.OfState = Unit {0}
RowKept K row.Waits = Unit {0}
RowKept K (row.Becomes ys) = FewKept K ys
RowKept K (row.Either ys zs) = FewKept K ys × FewKept K zs

module _ (K : Kept) where
  connective_kept : (op : Operator) (b : Bool) (l r : ℕ) → IsKept K l → IsKept K r → RowKept K (connective_row op b l r)
  connective_kept operator.And true l r left right = (left, right)
  connective_kept operator.And false l r left right = (left, right)
  connective_kept operator.Or true l r left right = (left, right)
  connective_kept operator.Or false l r left right = (left, right)
  connective_kept operator.Implies true l r left right = (left, right)
  connective_kept operator.Implies false l r left right = (left, right)
  connective_kept operator.Iff true l r left right = ((left, right), (left, right))
  connective_kept operator.Iff false l r left right = ((left, right), (left, right))

  tense_kept : (t : Tense) (n : ℕ) (b d : Bool) (l : ℕ)
      → IsKept K n
      → IsKept K l
      → RowKept K (tense_row t (asked n b d) (now_at l b))
  tense_kept tense.Next n b d l own left = tt
  tense_kept tense.Finally n true d l own left = (left, own)
  tense_kept tense.Finally n false d l own left = (left, own)
  tense_kept tense.Globally n true d l own left = (left, own)
  tense_kept tense.Globally n false d l own left = (left, own)

  pairing_kept : (p : Pairing) (n : ℕ) (b d : Bool) (l r : ℕ)
      → IsKept K n
      → IsKept K l
      → IsKept K r
      → RowKept K (pairing_row p (asked n b d) (now_at l b) (now_at r b))
  pairing_kept pairing.Until n true d l r own left right = (right, (left, own))
  pairing_kept pairing.Until n false d l r own left right = ((right, left), (right, own))
  pairing_kept pairing.Release n true d l r own left right = ((right, left), (right, own))
  pairing_kept pairing.Release n false d l r own left right = (right, (left, own))
  pairing_kept pairing.Weak n true d l r own left right = (right, (left, own))
  pairing_kept pairing.Weak n false d l r own left right = ((right, left), (right, own))

  -- of the formula that stands there
  row_same : (x : Asked) (f : Formula) (o : Option Bool)
      → Stands K x.number f o
      → row_of K.formulas (row_in (occurrence_here K.names x.number f o) x) ≡ plain.row_at (item_of K.formulas x) f
  row_same x (Const b) o s = refl
  row_same x (Prop p) o s = refl
  row_same x (Quantified q f) o s = refl
  row_same x (Not f) o s =
      ap (λ h. plain.Becomes (now (x.number + 1) h (not x.positive) ∷ []))
      (formula_is K (x.number + 1) f None (of_not K x.number f o s))
  row_same x (Binary op f g) o s = by_operator op s
    where
      by_operator : (op : Operator)
          → Stands K x.number (Binary op f g) o
          → row_of K.formulas (row_in (occurrence_here K.names x.number (Binary op f g) o) x)
          ≡ plain.row_at (item_of K.formulas x) (Binary op f g)
      by_operator operator.And s =
          joined K.formulas operator.And x.positive (x.number + 1) (x.number + 1 + occurrences f) f g
          (formula_is K (x.number + 1) f None (of_left K operator.And x.number f g o s))
          (formula_is K (x.number + 1 + occurrences f) g None (of_right K operator.And x.number f g o s))
      by_operator operator.Or s =
          joined K.formulas operator.Or x.positive (x.number + 1) (x.number + 1 + occurrences f) f g
          (formula_is K (x.number + 1) f None (of_left K operator.Or x.number f g o s))
          (formula_is K (x.number + 1 + occurrences f) g None (of_right K operator.Or x.number f g o s))
      by_operator operator.Implies s =
          joined K.formulas operator.Implies x.positive (x.number + 1) (x.number + 1 + occurrences f) f g
          (formula_is K (x.number + 1) f None (of_left K operator.Implies x.number f g o s))
          (formula_is K (x.number + 1 + occurrences f) g None (of_right K operator.Implies x.number f g o s))
      by_operator operator.Iff s =
          joined K.formulas operator.Iff x.positive (x.number + 3) (x.number + 3 + occurrences f) f g
          (formula_is K (x.number + 3) f None (of_left K operator.Iff x.number f g o s))
          (formula_is K (x.number + 3 + occurrences f) g None (of_right K operator.Iff x.number f g o s))
  row_same x (Temporal t f) o s =
      tense_same K.formulas t x.number x.positive x.later (x.number + 1)
      ∙ ap (λ h. plain.row_of_tense t (item_of K.formulas x) (now (x.number + 1) h x.positive))
      (formula_is K (x.number + 1) f None (of_tense K t x.number f o s))
  row_same x (Paired p f g) o s =
      let l = x.number + 1 in
      let r = x.number + 1 + occurrences f in
      pairing_same K.formulas p x.number x.positive x.later l r
      ∙ ap (λ h. plain.row_of_pairing p (item_of K.formulas x) (now l h x.positive) (now r (formula_at K.formulas r) x.positive))
      (formula_is K l f None (before K p x.number f g o s))
      ∙ ap (λ h. plain.row_of_pairing p (item_of K.formulas x) (now l f x.positive) (now r h x.positive))
      (formula_is K r g None (behind K p x.number f g o s))

  pub row_is : (x : Asked) → IsKept K x.number
      → row_of K.formulas (row_in (entry_at K.occurrences x.number) x) ≡ plain.row (item_of K.formulas x)
  row_is x k =
      let f = formula_at K.formulas x.number in
      ap (λ o. row_of K.formulas (row_in o x)) (occurrence_is K x.number f k.first k.stands)
      ∙ row_same x f k.first k.stands

  kept_in : (x : Asked) (f : Formula) (o : Option Bool)
      → Stands K x.number f o
      → RowKept K (row_in (occurrence_here K.names x.number f o) x)
  kept_in x (Const b) o s = tt
  kept_in x (Prop p) o s = tt
  kept_in x (Quantified q f) o s = tt
  kept_in x (Not f) o s = kept_at K (x.number + 1) f None (of_not K x.number f o s)
  kept_in x (Binary op f g) o s =
      connective_kept op x.positive (x.number + weight op) (x.number + weight op + occurrences f)
      (kept_at K (x.number + weight op) f None (of_left K op x.number f g o s))
      (kept_at K (x.number + weight op + occurrences f) g None (of_right K op x.number f g o s))
  kept_in x (Temporal t f) o s =
      tense_kept t x.number x.positive x.later (x.number + 1) (kept_at K x.number (Temporal t f) o s)
      (kept_at K (x.number + 1) f None (of_tense K t x.number f o s))
  kept_in x (Paired p f g) o s =
      pairing_kept p x.number x.positive x.later (x.number + 1) (x.number + 1 + occurrences f)
      (kept_at K x.number (Paired p f g) o s)
      (kept_at K (x.number + 1) f None (before K p x.number f g o s))
      (kept_at K (x.number + 1 + occurrences f) g None (behind K p x.number f g o s))

  pub row_kept : (x : Asked) → IsKept K x.number → RowKept K (row_in (entry_at K.occurrences x.number) x)
  row_kept x k =
      let f = formula_at K.formulas x.number in
      subst (λ o. RowKept K (row_in o x)) (sym (occurrence_is K x.number f k.first k.stands)) (kept_in x f k.first k.stands)

  pub open_is : (x : Asked) → IsKept K x.number → is_open_in K.occurrences x ≡ is_open (item_of K.formulas x)
  open_is x k =
      let o = entry_at K.occurrences x.number in
      ap (λ b. not x.later && not b)
      (waits K.formulas o.symbol o.left o.right x.number x.positive x.later ∙ ap is_wait (row_is x k))

  -- ---- the next place

  abbrev beyond : Occurrence → Asked → Asked
  beyond o x = cond (is_next o.symbol) (now_at o.left x.positive) x

  beyond_same : (x : Asked) (f : Formula) (o : Option Bool)
      → Stands K x.number f o
      → item_of K.formulas (beyond (occurrence_here K.names x.number f o) x)
      ≡ plain.operand_of (item_of K.formulas x) f
  beyond_same x (Temporal tense.Next f) o s =
      ap (λ h. now (x.number + 1) h x.positive)
      (formula_is K (x.number + 1) f None (of_tense K tense.Next x.number f o s))
  beyond_same x (Temporal tense.Finally f) o s = refl
  beyond_same x (Temporal tense.Globally f) o s = refl
  beyond_same x _ o s = refl

  beyond_kept : (x : Asked) (f : Formula) (o : Option Bool)
      → Stands K x.number f o
      → IsKept K (beyond (occurrence_here K.names x.number f o) x).number
  beyond_kept x (Temporal tense.Next f) o s =
      kept_at K (x.number + 1) f None (of_tense K tense.Next x.number f o s)
  beyond_kept x (Temporal tense.Finally f) o s = kept_at K x.number (Temporal tense.Finally f) o s
  beyond_kept x (Temporal tense.Globally f) o s = kept_at K x.number (Temporal tense.Globally f) o s
  beyond_kept x f o s = kept_at K x.number f o s

  by_time : (d : Bool) (n : ℕ) (b : Bool)
      → item_of K.formulas (beyond (entry_at K.occurrences n) (asked n b d))
      ≡ plain.behind_next (item_of K.formulas (asked n b d))
      → item_of K.formulas (next_in K.occurrences (asked n b d)) ≡ next_of (item_of K.formulas (asked n b d))
  by_time true n b e = refl
  by_time false n b e = e

  pub next_is : (x : Asked) → IsKept K x.number
      → item_of K.formulas (next_in K.occurrences x) ≡ next_of (item_of K.formulas x)
  next_is x k =
      let f = formula_at K.formulas x.number in
      by_time x.later x.number x.positive
      (ap (λ o. item_of K.formulas (beyond o x)) (occurrence_is K x.number f k.first k.stands)
      ∙ beyond_same x f k.first k.stands)

  time_kept : (d : Bool) (n : ℕ) (b : Bool)
      → IsKept K n
      → IsKept K (beyond (entry_at K.occurrences n) (asked n b d)).number
      → IsKept K (next_in K.occurrences (asked n b d)).number
  time_kept true n b own k = own
  time_kept false n b own k = k

  pub next_kept : (x : Asked) → IsKept K x.number → IsKept K (next_in K.occurrences x).number
  next_kept x k =
      let f = formula_at K.formulas x.number in
      time_kept x.later x.number x.positive k
      (subst (λ o. IsKept K (beyond o x).number) (sym (occurrence_is K x.number f k.first k.stands))
      (beyond_kept x f k.first k.stands))
