-- The graphs of CTL* and LTL have names and priorities that a program holds.
--
--   NamesOf f     == the propositions of the formula f are names
--   names_of      == so it is where they are spelt as such, and short
--   NamedPlace p  == so it is of each formula of which the node p says something
--   form_named    == so it is of the nodes to which it leads, and of the proposition that it asks for itself
--   blocks_held   == so the graph of a closure whose first node is such has names and priorities that a program holds
use Rattle.std.proofs.Common.{◌≡◌, ℕ, ◌+◌, ◌≤◌, ◌⊎◌, inl, inr, Bool, true, false, not, if◌then◌else◌, List, [], ◌∷◌, ◌++◌, Option, Some, None, refl, sym, subst, arith}
use Rattle.std.specs.Bool.{beq}
use Rattle.std.specs.List.{AllByRecursion}
use Rattle.ml_base.specs.Name.{IsName}
use Rattle.ml_lists.specs.Member.{IsMember}
use Rattle.ml_graph.specs.Graph.{Graph}
use Rattle.ml_text.specs.Names.{Proposition, of_kind}
use Rattle.ml_text.specs.declared.token.Operator.{Operator}
use Rattle.ml_text.specs.declared.token.Operator.TheVariants as operator
use Rattle.ml_ctl.specs.Formula as plain
use Rattle.ml_ctl.specs.Formula.{Formula, occurrences}
use Rattle.ml_ctl.specs.FormulaNames.{names}
use Rattle.ml_ctl.specs.declared.term.Tense.{Tense}
use Rattle.ml_ctl.specs.declared.term.Tense.TheVariants as tense
use Rattle.ml_ctl.specs.declared.term.Pairing.{Pairing}
use Rattle.ml_ctl.specs.declared.term.Pairing.TheVariants as pairing
use Rattle.ml_ctl.specs.declared.term.Quantifier.{Quantifier}
use Rattle.ml_ctl.specs.declared.term.Quantifier.TheVariants as quantifier
use Rattle.ml_ctl.specs.Signs.{own}
use Rattle.ml_ctl.specs.Spelling.{HasShortNames, is_spelled}
use Rattle.ml_blocks.specs.BlockGraph.{IsGraphAt}
use Rattle.ml_blocks.specs.BlockClosures.{at_root, behind, children}
use Rattle.ml_blocks.specs.BlockClosures.{IsReached}
use Rattle.ml_blocks.specs.Items.{Item, Row, OfState, Waits, Becomes, Either, now, put_off, row, row_at, row_of_connective, row_of_pairing}
use Rattle.ml_blocks.specs.Items.{row_of_tense, unless_put_off, until_released, left_number, behind_next, operand_of}
use Rattle.ml_blocks.specs.ItemSets.{due, eventualities, next_items, next_of, put_all, without}
use Rattle.ml_blocks.specs.Places as place
use Rattle.ml_nodes.specs.ClosureGraph as closure
use Rattle.ml_blocks.specs.Places.{Block, Place, Form, block_of, edge_priority, first_open, focus_behind, form_of, form_of_block}
use Rattle.ml_blocks.specs.Places.{form_of_edge, form_of_formula, form_of_item, forms, is_put_off, path_of, priority_of, priority_of_block}
use Rattle.ml_text.proofs.Names.{kind_parts}
use Rattle.ml_blocks.proofs.ItemSetMembers.{next_items-member, put_all-member, without-member}
use Rattle.ml_blocks.proofs.LocalRuns.{some_open}
use Rattle.ml_nodes.proofs.HeldClosures.{IsNamedForm, held}
use Rattle.ml_nodes.proofs.HeldNames.{Every, IsHeld, every_cons, kind_named}

-- ---- formulas

abbrev pub NamesOf : Formula → Type 0
NamesOf f = AllByRecursion IsName (of_kind Proposition (names f))

pub names_of : (f : Formula) → is_spelled f ≡ true → HasShortNames f → NamesOf f
names_of f spelled short = kind_named own Proposition (names f) spelled short

operands_named : (f g : Formula)
    → AllByRecursion IsName (of_kind Proposition (names f ++ names g))
    → NamesOf f × NamesOf g
operands_named f g all = kind_parts IsName Proposition (names f) (names g) all

-- ---- items

abbrev NamedItem : Item → Type 0
NamedItem x = NamesOf x.formula

abbrev NamedItems : List Item → Type 0
NamedItems xs = Every NamedItem xs

none : NamedItems []
none y m = absurd m

one : (x : Item) → NamedItem x → NamedItems (x ∷ [])
one x named = every_cons NamedItem x [] named none

two : (x y : Item) → NamedItem x → NamedItem y → NamedItems (x ∷ y ∷ [])
two x y named also = every_cons NamedItem x (y ∷ []) named (one y also)

abbrev NamedRow : Row → Type 0
NamedRow OfState = Unit {0}
NamedRow Waits = Unit {0}
NamedRow (Becomes ys) = NamedItems ys
NamedRow (Either ys zs) = NamedItems ys × NamedItems zs

module _ (x : Item) (named : NamedItem x) where
  connective_named : (op : Operator) (sign : Bool) (l r : Bool → Item)
      → ((b : Bool) → NamedItem (l b))
      → ((b : Bool) → NamedItem (r b))
      → NamedRow (row_of_connective op sign l r)
  connective_named operator.And true l r p q = two (l true) (r true) (p true) (q true)
  connective_named operator.And false l r p q = (one (l false) (p false), one (r false) (q false))
  connective_named operator.Or true l r p q = (one (l true) (p true), one (r true) (q true))
  connective_named operator.Or false l r p q = two (l false) (r false) (p false) (q false)
  connective_named operator.Implies true l r p q = (one (l false) (p false), one (r true) (q true))
  connective_named operator.Implies false l r p q = two (l true) (r false) (p true) (q false)
  connective_named operator.Iff true l r p q =
      (two (l true) (r true) (p true) (q true), two (l false) (r false) (p false) (q false))
  connective_named operator.Iff false l r p q =
      (two (l true) (r false) (p true) (q false), two (l false) (r true) (p false) (q true))

  either_row : (b : Bool) (r s : Row) → NamedRow r → NamedRow s → NamedRow (if b then r else s)
  either_row true r s p q = p
  either_row false r s p q = q

  tense_named : (t : Tense) (g : Item) → NamedItem g → NamedRow (row_of_tense t x g)
  tense_named tense.Next g p = tt
  tense_named tense.Finally g p =
      either_row x.positive (Either (g ∷ []) (put_off x ∷ [])) (Becomes (g ∷ put_off x ∷ []))
      (one g p, one (put_off x) named) (two g (put_off x) p named)
  tense_named tense.Globally g p =
      either_row x.positive (Becomes (g ∷ put_off x ∷ [])) (Either (g ∷ []) (put_off x ∷ []))
      (two g (put_off x) p named) (one g p, one (put_off x) named)

  pairing_named : (u : Pairing) (f g : Item) → NamedItem f → NamedItem g → NamedRow (row_of_pairing u x f g)
  pairing_named u f g p q = by_pairing u
    where
      waits : NamedRow (unless_put_off x f g)
      waits = (one g q, two f (put_off x) p named)

      goes_on : NamedRow (until_released x f g)
      goes_on = (two g f q p, two g (put_off x) q named)

      by_pairing : (u : Pairing) → NamedRow (row_of_pairing u x f g)
      by_pairing pairing.Until = either_row x.positive (unless_put_off x f g) (until_released x f g) waits goes_on
      by_pairing pairing.Weak = either_row x.positive (unless_put_off x f g) (until_released x f g) waits goes_on
      by_pairing pairing.Release = either_row x.positive (until_released x f g) (unless_put_off x f g) goes_on waits

  row_named : (f : Formula) → NamesOf f → NamedRow (row_at x f)
  row_named (plain.Const b) p = tt
  row_named (plain.Prop w) p = tt
  row_named (plain.Quantified q f) p = tt
  row_named (plain.Not f) p = one (now (x.number + 1) f (not x.positive)) p
  row_named (plain.Binary op f g) p =
      let l = left_number x.number (plain.Binary op f g) in
      let parts = operands_named f g p in
      connective_named op x.positive (now l f) (now (l + occurrences f) g) (λ b. parts.0) (λ b. parts.1)
  row_named (plain.Temporal t f) p = tense_named t (now (x.number + 1) f x.positive) p
  row_named (plain.Paired u f g) p =
      let l = x.number + 1 in
      let parts = operands_named f g p in
      pairing_named u (now l f x.positive) (now (l + occurrences f) g x.positive) parts.0 parts.1

  operand_named : (f : Formula) → NamesOf f → NamedItem (operand_of x f)
  operand_named (plain.Temporal tense.Next f) p = p
  operand_named (plain.Temporal tense.Finally f) p = named
  operand_named (plain.Temporal tense.Globally f) p = named
  operand_named (plain.Const b) p = named
  operand_named (plain.Prop w) p = named
  operand_named (plain.Not f) p = named
  operand_named (plain.Binary op f g) p = named
  operand_named (plain.Paired u f g) p = named
  operand_named (plain.Quantified q f) p = named

  next_named : NamedItem (next_of x)
  next_named = by_time x.later
    where
      by_time : (later : Bool) → NamedItem (if later then due x else behind_next x)
      by_time true = named
      by_time false = operand_named x.formula named

-- ---- nodes

abbrev pub NamedPlace : Place → Type 0
NamedPlace (place.Root start) = NamedPlace start
NamedPlace place.Total = Unit {0}
NamedPlace place.HasEdge = Unit {0}
NamedPlace place.LeadsOn = Unit {0}
NamedPlace place.True = Unit {0}
NamedPlace place.False = Unit {0}
NamedPlace (place.Holding i f sign) = NamesOf f
NamedPlace (place.Both i f g sign) = NamesOf f × NamesOf g
NamedPlace (place.Neither i f g sign) = NamesOf f × NamesOf g
NamedPlace (place.Path b) = NamedItems b.items

abbrev NamedForm : Form → Type 0
NamedForm (closure.Constant b) = Unit {0}
NamedForm (closure.Literal name sign) = IsName name
NamedForm (closure.And p q) = NamedPlace p × NamedPlace q
NamedForm (closure.Or p q) = NamedPlace p × NamedPlace q
NamedForm (closure.Diamond p) = NamedPlace p
NamedForm (closure.Square p) = NamedPlace p

-- ---- blocks

module _ (b : Block) (named : NamedItems b.items) where
  path_named : (xs : List Item) (k : ℕ) → NamedItems xs → NamedPlace (path_of b xs k)
  path_named [] k all = by_sign b.positive
    where
      by_sign : (sign : Bool) → NamedPlace (if sign then place.True else place.False)
      by_sign true = tt
      by_sign false = tt
  path_named (x ∷ xs) k all = all

  without_named : (x : Item) → NamedItems (without x b.items)
  without_named x y m = named y (without-member y x b.items m)

  abbrev behind_way : Item → List Item → Place
  behind_way x ys = path_of b (put_all ys (without x b.items)) b.focus

  put_named : (x : Item) (ys : List Item) → NamedItems ys → NamedPlace (behind_way x ys)
  put_named x ys all = path_named (put_all ys (without x b.items)) b.focus put
    where
      put : NamedItems (put_all ys (without x b.items))
      put y m = by_part (put_all-member y ys (without x b.items) m)
        where
          by_part : IsMember y ys ⊎ IsMember y (without x b.items) → NamedItem y
          by_part (inl i) = all y i
          by_part (inr i) = without_named x y i

  both_named : (sign : Bool) (p q : Place) → NamedPlace p → NamedPlace q → NamedForm (closure.all_of sign p q)
  both_named true p q x y = (x, y)
  both_named false p q x y = (x, y)

  one_named : (sign : Bool) (p q : Place) → NamedPlace p → NamedPlace q → NamedForm (closure.one_of sign p q)
  one_named true p q x y = (x, y)
  one_named false p q x y = (x, y)

  item_named : (x : Item) (r : Row) → NamedItem x → NamedRow r → NamedForm (form_of_item b x r)
  item_named x OfState this all =
      both_named b.positive (place.Holding x.number x.formula (beq x.positive b.positive))
      (path_of b (without x b.items) b.focus) this (path_named (without x b.items) b.focus (without_named x))
  item_named x Waits this all =
      let p = path_named b.items b.focus named in (p, p)
  item_named x (Becomes ys) this all =
      let p = put_named x ys all in both_named b.positive (behind_way x ys) (behind_way x ys) p p
  item_named x (Either ys zs) this all =
      one_named b.positive (behind_way x ys) (behind_way x zs) (put_named x ys all.0) (put_named x zs all.1)

  next_items_named : NamedItems (next_items b.items)
  next_items_named y m =
      let found = next_items-member y b.items m in
      subst NamedItem (sym found.2) (next_named found.0 (named found.0 found.1))

  edge_named : NamedForm (form_of_edge b)
  edge_named =
      let k = focus_behind (eventualities b.first) b.focus b.items in
      by_sign b.positive (path_of b (next_items b.items) k) (path_named (next_items b.items) k next_items_named)
    where
      by_sign : (sign : Bool) (p : Place) → NamedPlace p → NamedForm (if sign then closure.Diamond p else closure.Square p)
      by_sign true p named = named
      by_sign false p named = named

  block_named : (o : Option Item) → first_open b.items ≡ o → NamedForm (form_of_block b o)
  block_named None is = edge_named
  block_named (Some x) is =
      let this = named x (some_open b.items x is).0 in
      item_named x (row x) this (row_named x this x.formula this)

-- ---- formulas of states

pub start_named : (x : Item) (positive : Bool) → NamedItem x → NamedPlace (block_of x positive)
start_named x positive named = one x named

quantifier_named : (q : Quantifier) (i : ℕ) (f : Formula) (sign : Bool)
    → NamesOf f
    → NamedForm (place.form_of_quantifier q i f sign)
quantifier_named quantifier.Exists i f sign named =
    let p = start_named (now (i + 1) f true) sign named in (p, p)
quantifier_named quantifier.Forall i f sign named =
    let p = start_named (now (i + 1) f false) (not sign) named in (p, p)

formula_named : (i : ℕ) (f : Formula) (sign : Bool) → NamesOf f → NamedForm (form_of_formula i f sign)
formula_named i (plain.Const b) sign named = tt
formula_named i (plain.Prop p) sign named = named.0
formula_named i (plain.Not f) sign named = (named, named)
formula_named i (plain.Binary operator.And f g) true named = operands_named f g named
formula_named i (plain.Binary operator.And f g) false named = operands_named f g named
formula_named i (plain.Binary operator.Or f g) true named = operands_named f g named
formula_named i (plain.Binary operator.Or f g) false named = operands_named f g named
formula_named i (plain.Binary operator.Implies f g) true named = operands_named f g named
formula_named i (plain.Binary operator.Implies f g) false named = operands_named f g named
formula_named i (plain.Binary operator.Iff f g) sign named =
    let parts = operands_named f g named in (parts, parts)
formula_named i (plain.Quantified q f) sign named = quantifier_named q i f sign named
formula_named i (plain.Temporal t f) sign named = tt
formula_named i (plain.Paired p f g) sign named = tt

form_named : (p : Place) → NamedPlace p → NamedForm (form_of p)
form_named (place.Root start) named = (named, tt)
form_named place.Total named = (tt, tt)
form_named place.HasEdge named = tt
form_named place.LeadsOn named = tt
form_named place.True named = tt
form_named place.False named = tt
form_named (place.Holding i f sign) named = formula_named i f sign named
form_named (place.Both j f g sign) named = named
form_named (place.Neither j f g sign) named = named
form_named (place.Path b) named = block_named b named (first_open b.items) refl

-- ---- what is reached

child_named : (f : Form) (p : Place) → NamedForm f → IsMember p (children f) → NamedPlace p
child_named (closure.Constant b) p named none = absurd none
child_named (closure.Literal name sign) p named none = absurd none
child_named (closure.And q r) p named (inl is) = subst NamedPlace (sym is) named.0
child_named (closure.And q r) p named (inr (inl is)) = subst NamedPlace (sym is) named.1
child_named (closure.And q r) p named (inr (inr none)) = absurd none
child_named (closure.Or q r) p named (inl is) = subst NamedPlace (sym is) named.0
child_named (closure.Or q r) p named (inr (inl is)) = subst NamedPlace (sym is) named.1
child_named (closure.Or q r) p named (inr (inr none)) = absurd none
child_named (closure.Diamond q) p named (inl is) = subst NamedPlace (sym is) named
child_named (closure.Diamond q) p named (inr none) = absurd none
child_named (closure.Square q) p named (inl is) = subst NamedPlace (sym is) named
child_named (closure.Square q) p named (inr none) = absurd none

reached_named : (root p : Place) → NamedPlace root → IsReached root p → NamedPlace p
reached_named root _ named at_root = named
reached_named root _ named (behind q p reached child) =
    child_named (form_of q) p (form_named q (reached_named root q named reached)) child

-- ---- the graph

low_edge : (es : List ℕ) (k : ℕ) (xs : List Item) → edge_priority es k xs ≤ 1
low_edge [] k xs = omega arith
low_edge (e ∷ es) k xs = by_test (is_put_off (e ∷ es) k xs)
  where
    by_test : (t : Bool) → (if t then 1 else 0) ≤ 1
    by_test true = omega arith
    by_test false = omega arith

low_block : (b : Block) (o : Option Item) → priority_of_block b o ≤ 1
low_block b (Some x) = omega arith
low_block b None = low_edge (eventualities b.first) b.focus b.items

low_priority : (p : Place) → priority_of p ≤ 2
low_priority (place.Root start) = omega arith
low_priority place.Total = omega arith
low_priority place.HasEdge = omega arith
low_priority place.LeadsOn = omega arith
low_priority place.True = omega arith
low_priority place.False = omega arith
low_priority (place.Holding i f sign) = omega arith
low_priority (place.Both i f g sign) = omega arith
low_priority (place.Neither i f g sign) = omega arith
low_priority (place.Path b) = by_sign b.positive
  where
    by_sign : (sign : Bool) → priority_of_block b (first_open b.items) + (if sign then 0 else 1) ≤ 2
    by_sign true = omega (arith, low_block b (first_open b.items))
    by_sign false = omega (arith, low_block b (first_open b.items))

literal_named : (f : Form) → NamedForm f → IsNamedForm f
literal_named (closure.Literal name positive) named = named
literal_named (closure.Constant b) named = tt
literal_named (closure.And l r) named = tt
literal_named (closure.Or l r) named = tt
literal_named (closure.Diamond p) named = tt
literal_named (closure.Square p) named = tt

pub blocks_held : (start : Place) (g : Graph) → IsGraphAt g start → NamedPlace start → IsHeld g
blocks_held start g is named =
    held forms (place.Root start) g is
    (λ p reached. literal_named (form_of p) (form_named p (reached_named (place.Root start) p named reached)))
    (λ p. omega (arith, low_priority p))
