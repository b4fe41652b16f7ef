-- What an item becomes has a lower load than the item.
--
--   takes_lighter  == of each way of the row of an item
--   step_lighter   == so a block's load falls when an item is decomposed
use Rattle.std.proofs.Common.{ℕ, ◌≡◌, ◌+◌, ◌<◌, ◌≤◌, ◌⊎◌, inl, inr, arith, true, false, Bool, not, List, [], ap, ⊎_elim, Some}
use Rattle.std.proofs.lemmas.Bool.{cases_Bool, cond-true, cond-false}
use Rattle.ml_text.specs.declared.token.Operator.TheVariants as operator
use Rattle.ml_ctl.specs.Formula as plain
use Rattle.ml_ctl.specs.Formula.{Formula, occurrences}
use Rattle.ml_ctl.specs.declared.term.Tense.TheVariants as tense
use Rattle.ml_ctl.specs.declared.term.Pairing.TheVariants as pairing
use Rattle.ml_blocks.specs.Items.{Item, row, now}
use Rattle.ml_blocks.specs.ItemSets.{put_all, without}
use Rattle.ml_blocks.specs.Places.{is_open, first_open}
use Rattle.ml_blocks.proofs.ItemSetMembers.{load, load_of, put_all-load, without-load}
use Rattle.ml_blocks.proofs.ItemsWithin.{some_symbol}
use Rattle.ml_blocks.proofs.LocalRuns.{Takes, some_open}
use Rattle.ml_blocks.proofs.RowsOfItems.{item}

load_low : (i : ℕ) (f : Formula) (b : Bool) → load_of (now i f b) ≤ occurrences f
load_low i f b =
    ⊎_elim
    (λ (e : is_open (now i f b) ≡ true).
    let is = cond-true (is_open (now i f b)) (occurrences f) 0 e in omega (arith, is))
    (λ (e : is_open (now i f b) ≡ false).
    let is = cond-false (is_open (now i f b)) (occurrences f) 0 e in omega (arith, is))
    (cases_Bool (is_open (now i f b)))

-- a list of so much load
abbrev Light : Formula → List Item → Type 0
Light f ys = load ys < occurrences f

nothing : (f : Formula) (ys : List Item) → ys ≡ [] → Light f ys
nothing f ys e = let is = ap load e in let some = some_symbol f in omega (arith, is, some)

one_now : (h : Formula) (ys zs : List Item) → ys ≡ zs → load zs < occurrences h → Light h ys
one_now h ys zs e low = let is = ap load e in omega (arith, is, low)

one_of_two : (h : Formula) (ys zs ws : List Item)
    → (ys ≡ zs) ⊎ (ys ≡ ws)
    → load zs < occurrences h
    → load ws < occurrences h
    → Light h ys
one_of_two h ys zs ws (inl e) low other = one_now h ys zs e low
one_of_two h ys zs ws (inr e) low other = one_now h ys ws e other

pub takes_lighter : (i : ℕ) (f : Formula) (b t : Bool) (ys : List Item) → Takes (row (item i f b t)) ys → Light f ys
takes_lighter i (plain.Const c) b t ys e = nothing (plain.Const c) ys e
takes_lighter i (plain.Prop p) b t ys e = nothing (plain.Prop p) ys e
takes_lighter i (plain.Quantified q f) b t ys e = nothing (plain.Quantified q f) ys e
takes_lighter i (plain.Not f) b t ys e =
    let low = load_low (i + 1) f (not b) in one_now (plain.Not f) ys _ e (omega (arith, low))
takes_lighter i (plain.Temporal tense.Next f) b t ys none = absurd none
takes_lighter i (plain.Temporal tense.Finally f) true t ys e =
    let low = load_low (i + 1) f true in let some = some_symbol f in
    one_of_two (plain.Temporal tense.Finally f) ys _ _ e (omega (arith, low)) (omega (arith, some))
takes_lighter i (plain.Temporal tense.Finally f) false t ys e =
    let low = load_low (i + 1) f false in one_now (plain.Temporal tense.Finally f) ys _ e (omega (arith, low))
takes_lighter i (plain.Temporal tense.Globally f) true t ys e =
    let low = load_low (i + 1) f true in one_now (plain.Temporal tense.Globally f) ys _ e (omega (arith, low))
takes_lighter i (plain.Temporal tense.Globally f) false t ys e =
    let low = load_low (i + 1) f false in let some = some_symbol f in
    one_of_two (plain.Temporal tense.Globally f) ys _ _ e (omega (arith, low)) (omega (arith, some))
takes_lighter i (plain.Paired pairing.Until f g) true t ys e =
    let a = load_low (i + 1) f true in let c = load_low (i + 1 + occurrences f) g true in
    one_of_two (plain.Paired pairing.Until f g) ys _ _ e (omega (arith, c)) (omega (arith, a))
takes_lighter i (plain.Paired pairing.Until f g) false t ys e =
    let a = load_low (i + 1) f false in let c = load_low (i + 1 + occurrences f) g false in
    one_of_two (plain.Paired pairing.Until f g) ys _ _ e (omega (arith, a, c)) (omega (arith, c))
takes_lighter i (plain.Paired pairing.Weak f g) true t ys e =
    let a = load_low (i + 1) f true in let c = load_low (i + 1 + occurrences f) g true in
    one_of_two (plain.Paired pairing.Weak f g) ys _ _ e (omega (arith, c)) (omega (arith, a))
takes_lighter i (plain.Paired pairing.Weak f g) false t ys e =
    let a = load_low (i + 1) f false in let c = load_low (i + 1 + occurrences f) g false in
    one_of_two (plain.Paired pairing.Weak f g) ys _ _ e (omega (arith, a, c)) (omega (arith, c))
takes_lighter i (plain.Paired pairing.Release f g) true t ys e =
    let a = load_low (i + 1) f true in let c = load_low (i + 1 + occurrences f) g true in
    one_of_two (plain.Paired pairing.Release f g) ys _ _ e (omega (arith, a, c)) (omega (arith, c))
takes_lighter i (plain.Paired pairing.Release f g) false t ys e =
    let a = load_low (i + 1) f false in let c = load_low (i + 1 + occurrences f) g false in
    one_of_two (plain.Paired pairing.Release f g) ys _ _ e (omega (arith, c)) (omega (arith, a))
takes_lighter i (plain.Binary operator.And f g) true t ys e =
    let a = load_low (i + 1) f true in let c = load_low (i + 1 + occurrences f) g true in
    one_now (plain.Binary operator.And f g) ys _ e (omega (arith, a, c))
takes_lighter i (plain.Binary operator.And f g) false t ys e =
    let a = load_low (i + 1) f false in let c = load_low (i + 1 + occurrences f) g false in
    one_of_two (plain.Binary operator.And f g) ys _ _ e (omega (arith, a)) (omega (arith, c))
takes_lighter i (plain.Binary operator.Or f g) true t ys e =
    let a = load_low (i + 1) f true in let c = load_low (i + 1 + occurrences f) g true in
    one_of_two (plain.Binary operator.Or f g) ys _ _ e (omega (arith, a)) (omega (arith, c))
takes_lighter i (plain.Binary operator.Or f g) false t ys e =
    let a = load_low (i + 1) f false in let c = load_low (i + 1 + occurrences f) g false in
    one_now (plain.Binary operator.Or f g) ys _ e (omega (arith, a, c))
takes_lighter i (plain.Binary operator.Implies f g) true t ys e =
    let a = load_low (i + 1) f false in let c = load_low (i + 1 + occurrences f) g true in
    one_of_two (plain.Binary operator.Implies f g) ys _ _ e (omega (arith, a)) (omega (arith, c))
takes_lighter i (plain.Binary operator.Implies f g) false t ys e =
    let a = load_low (i + 1) f true in let c = load_low (i + 1 + occurrences f) g false in
    one_now (plain.Binary operator.Implies f g) ys _ e (omega (arith, a, c))
takes_lighter i (plain.Binary operator.Iff f g) true t ys e =
    let a = load_low (i + 3) f true in let c = load_low (i + 3 + occurrences f) g true in
    let d = load_low (i + 3) f false in let h = load_low (i + 3 + occurrences f) g false in
    one_of_two (plain.Binary operator.Iff f g) ys _ _ e (omega (arith, a, c)) (omega (arith, d, h))
takes_lighter i (plain.Binary operator.Iff f g) false t ys e =
    let a = load_low (i + 3) f true in let c = load_low (i + 3 + occurrences f) g true in
    let d = load_low (i + 3) f false in let h = load_low (i + 3 + occurrences f) g false in
    one_of_two (plain.Binary operator.Iff f g) ys _ _ e (omega (arith, a, h)) (omega (arith, d, c))

pub step_lighter : (xs : List Item) (x : Item) (ys : List Item)
    → first_open xs ≡ Some x
    → Takes (row x) ys
    → load (put_all ys (without x xs)) < load xs
step_lighter xs x ys is takes =
    let found = some_open xs x is in
    let whole = without-load x xs found.0 in
    let more = put_all-load ys (without x xs) in
    let own = cond-true (is_open x) (occurrences x.formula) 0 found.1 in
    let less = takes_lighter x.number x.formula x.positive x.later ys takes in
    omega (arith, whole, more, own, less)
