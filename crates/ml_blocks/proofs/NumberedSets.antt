-- Lists of items by numbers stand for lists of items, and go through the same steps.
--
--   put_few_is, others_is, next_all_is == items put in, taken out, and asked of the next place
--   put_few_kept, others_kept, next_all_kept == their formulas stay kept
--   found_is, found_kept  == the first item that is to be decomposed
--   pending_is            == whether the eventuality in focus is put off
use Rattle.std.proofs.Common.{ℕ, ◌≡◌, Bool, true, false, not, ◌&&◌, ◌||◌, ◌==◌, List, [], ◌∷◌, Option, None, Some, get_or, nat_lt, cond, find, refl, ap, ◌∙◌}
use Rattle.std.specs.Option.{option_map}
use Rattle.ml_ctl.specs.Formula.{Formula}
use Rattle.ml_blocks.specs.Items.{Item}
use Rattle.ml_blocks.specs.ItemSets.{put, put_all, without, next_of, next_items}
use Rattle.ml_blocks.specs.Places.{is_open, is_put_off}
use Rattle.ml_blocks.specs.private.Asked.{key_of, due_of, put_in, put_few, others}
use Rattle.ml_blocks.specs.private.Forms.{is_open_in, next_in, next_all, is_pending}
use Rattle.ml_blocks.specs.private.Views.{Kept, IsKept, AreKept, item_of, items_of, few_of}
use Rattle.ml_blocks.specs.declared.items.Asked.{Asked}
use Rattle.ml_blocks.specs.declared.items.Few.{Few}
use Rattle.ml_blocks.specs.declared.items.Few.TheVariants as few
use Rattle.ml_blocks.proofs.NumberedRows.{FewKept, open_is, next_is, next_kept}

module _ (fs : List Formula) where
  by_tests : (a b : Bool) (x y : Asked) (ys rest : List Asked) (known : List Item)
      → items_of fs rest ≡ known
      → items_of fs (cond a (x ∷ (y ∷ ys)) (cond b (y ∷ ys) (y ∷ rest)))
      ≡ cond a (item_of fs x ∷ (item_of fs y ∷ items_of fs ys))
      (cond b (item_of fs y ∷ items_of fs ys) (item_of fs y ∷ known))
  by_tests true b x y ys rest known e = refl
  by_tests false true x y ys rest known e = refl
  by_tests false false x y ys rest known e = ap (λ l. item_of fs y ∷ l) e

  pub put_is : (x : Asked) (xs : List Asked) → items_of fs (put_in x xs) ≡ put (item_of fs x) (items_of fs xs)
  put_is x [] = refl
  put_is x (y ∷ ys) =
      by_tests (nat_lt (key_of x) (key_of y)) (key_of x == key_of y) x y ys (put_in x ys)
      (put (item_of fs x) (items_of fs ys)) (put_is x ys)

  pub put_few_is : (ys : Few) (xs : List Asked) → items_of fs (put_few ys xs) ≡ put_all (few_of fs ys) (items_of fs xs)
  put_few_is (few.One x) xs = put_is x xs
  put_few_is (few.Two x y) xs = put_is x (put_in y xs) ∙ ap (put (item_of fs x)) (put_is y xs)

  by_test : (a : Bool) (y : Asked) (rest : List Asked) (known : List Item)
      → items_of fs rest ≡ known
      → items_of fs (cond a (y ∷ rest) rest) ≡ cond a (item_of fs y ∷ known) known
  by_test true y rest known e = ap (λ l. item_of fs y ∷ l) e
  by_test false y rest known e = e

  pub others_is : (x : Asked) (xs : List Asked) → items_of fs (others x xs) ≡ without (item_of fs x) (items_of fs xs)
  others_is x [] = refl
  others_is x (y ∷ ys) =
      by_test (not (key_of y == key_of x)) y (others x ys) (without (item_of fs x) (items_of fs ys)) (others_is x ys)

  pub pending_is : (ms : List ℕ) (k : ℕ) (xs : List Asked) → is_pending ms k xs ≡ is_put_off ms k (items_of fs xs)
  pending_is ms k [] = refl
  pending_is ms k (x ∷ xs) = ap (λ b. (x.later && (key_of (due_of x) == get_or ms k 0)) || b) (pending_is ms k xs)

module _ (K : Kept) where
  tests_kept : (a b : Bool) (x y : Asked) (ys rest : List Asked)
      → IsKept K x.number
      → IsKept K y.number
      → AreKept K ys
      → AreKept K rest
      → AreKept K (cond a (x ∷ (y ∷ ys)) (cond b (y ∷ ys) (y ∷ rest)))
  tests_kept true b x y ys rest k l ks ls = (k, (l, ks))
  tests_kept false true x y ys rest k l ks ls = (l, ks)
  tests_kept false false x y ys rest k l ks ls = (l, ls)

  pub put_kept : (x : Asked) (xs : List Asked) → IsKept K x.number → AreKept K xs → AreKept K (put_in x xs)
  put_kept x [] k ks = (k, tt)
  put_kept x (y ∷ ys) k ks =
      tests_kept (nat_lt (key_of x) (key_of y)) (key_of x == key_of y) x y ys (put_in x ys) k ks.0 ks.1
      (put_kept x ys k ks.1)

  pub put_few_kept : (ys : Few) (xs : List Asked) → FewKept K ys → AreKept K xs → AreKept K (put_few ys xs)
  put_few_kept (few.One x) xs k ks = put_kept x xs k ks
  put_few_kept (few.Two x y) xs k ks = put_kept x (put_in y xs) k.0 (put_kept y xs k.1 ks)

  test_kept : (a : Bool) (y : Asked) (rest : List Asked)
      → IsKept K y.number
      → AreKept K rest
      → AreKept K (cond a (y ∷ rest) rest)
  test_kept true y rest k ks = (k, ks)
  test_kept false y rest k ks = ks

  pub others_kept : (x : Asked) (xs : List Asked) → AreKept K xs → AreKept K (others x xs)
  others_kept x [] ks = tt
  others_kept x (y ∷ ys) ks =
      test_kept (not (key_of y == key_of x)) y (others x ys) ks.0 (others_kept x ys ks.1)

  pub next_all_is : (xs : List Asked)
      → AreKept K xs
      → items_of K.formulas (next_all K.occurrences xs) ≡ next_items (items_of K.formulas xs)
  next_all_is [] ks = refl
  next_all_is (x ∷ xs) ks =
      put_is K.formulas (next_in K.occurrences x) (next_all K.occurrences xs)
      ∙ ap (λ y. put y (items_of K.formulas (next_all K.occurrences xs))) (next_is K x ks.0)
      ∙ ap (put (next_of (item_of K.formulas x))) (next_all_is xs ks.1)

  pub next_all_kept : (xs : List Asked) → AreKept K xs → AreKept K (next_all K.occurrences xs)
  next_all_kept [] ks = tt
  next_all_kept (x ∷ xs) ks =
      put_kept (next_in K.occurrences x) (next_all K.occurrences xs) (next_kept K x ks.0) (next_all_kept xs ks.1)

  found_by : (a b : Bool) (x : Asked) (rest : Option Asked) (known : Option Item)
      → a ≡ b
      → option_map (item_of K.formulas) rest ≡ known
      → option_map (item_of K.formulas) (cond a (Some x) rest) ≡ cond b (Some (item_of K.formulas x)) known
  found_by true true x rest known same e = refl
  found_by true false x rest known same e = absurd (cc)
  found_by false true x rest known same e = absurd (cc)
  found_by false false x rest known same e = e

  pub found_is : (xs : List Asked)
      → AreKept K xs
      → option_map (item_of K.formulas) (find (is_open_in K.occurrences) xs) ≡ find is_open (items_of K.formulas xs)
  found_is [] ks = refl
  found_is (x ∷ xs) ks =
      found_by (is_open_in K.occurrences x) (is_open (item_of K.formulas x)) x (find (is_open_in K.occurrences) xs)
      (find is_open (items_of K.formulas xs)) (open_is K x ks.0) (found_is xs ks.1)

  abbrev pub OneKept : Option Asked → Type 0
  OneKept None = Unit {0}
  OneKept (Some x) = IsKept K x.number

  one_kept : (a : Bool) (x : Asked) (rest : Option Asked)
      → IsKept K x.number
      → OneKept rest
      → OneKept (cond a (Some x) rest)
  one_kept true x rest k r = k
  one_kept false x rest k r = r

  pub found_kept : (xs : List Asked) → AreKept K xs → OneKept (find (is_open_in K.occurrences) xs)
  found_kept [] ks = tt
  found_kept (x ∷ xs) ks =
      one_kept (is_open_in K.occurrences x) x (find (is_open_in K.occurrences) xs) ks.0 (found_kept xs ks.1)
