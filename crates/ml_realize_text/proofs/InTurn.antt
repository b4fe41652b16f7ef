-- Items that stand one after the other, each as some lines: the sets of a state, and the states.
--
-- The place of an item is known by its number, and behind its lines stands the place of the next one.
--
--   in_turn lines s xs    == the lines of the items xs, the first of which has the number s
--   runs_in_turn          == where the lines of each item lead on to the next one, those of all do
--   turn_more             == one more item behind others
--   Read                  == one item was read: its lines, and then the rest, which is readable
--   AreRead               == so were all up to a number
--   read_in_turn          == where each item is read from readable lines, all are
use Rattle.std.proofs.Common.{◌≡◌, ℕ, zero, suc, ◌+◌, ◌<◌, ◌≤◌, List, [], ◌∷◌, ◌++◌, length, refl, sym, ap, subst, ◌∙◌, append_assoc, arith}
use Rattle.std.specs.List.{AllByRecursion}
use Rattle.std.proofs.lemmas.List.{append-nil}
use Rattle.ml_lists.specs.Documents.{Format}
use Rattle.ml_lists.specs.Readings.{IsReadable, Runs}
use Rattle.ml_lists.proofs.Runs.{run_on}

module _ {Line Place Item : Type 0} (F : Format Line Place) (at : ℕ → Place) (lines : ℕ → Item → List Line)
    (Fits : Item → Type 0) (m : ℕ) where
  abbrev pub in_turn : ℕ → List Item → List Line
  in_turn s [] = []
  in_turn s (x ∷ xs) = lines s x ++ in_turn (s + 1) xs

  abbrev pub LeadOn : Type 0
  LeadOn = (s : ℕ) (x : Item) → s < m → Fits x → Runs F (at s) (lines s x) (at (s + 1))

  pub runs_in_turn : LeadOn → (s : ℕ) (xs : List Item) (j : ℕ)
      → s + length xs ≡ j
      → j ≤ m
      → AllByRecursion Fits xs
      → Runs F (at s) (in_turn s xs) (at j)
  runs_in_turn lead s [] j long most fit = let e : s ≡ j = omega (arith, long) in ap at e
  runs_in_turn lead s (x ∷ xs) j long most fit =
      run_on F (at s) (at (s + 1)) (at j) (lines s x) (in_turn (s + 1) xs) (lead s x (omega (arith, long, most)) fit.0)
      (runs_in_turn lead (s + 1) xs j (omega (arith, long)) most fit.1)

  -- one more item behind them
  pub turn_more : (s : ℕ) (xs : List Item) (j : ℕ) (x : Item)
      → s + length xs ≡ j
      → in_turn s (xs ++ x ∷ []) ≡ in_turn s xs ++ lines j x
  turn_more s [] j x long =
      let e : s ≡ j = omega (arith, long) in append-nil (lines s x) ∙ ap (λ k. lines k x) e
  turn_more s (y ∷ xs) j x long =
      ap (λ ls. lines s y ++ ls) (turn_more (s + 1) xs j x (omega (arith, long)))
      ∙ sym (append_assoc (lines s y) (in_turn (s + 1) xs) (lines j x))

  pub record Read (s : ℕ) (all : List Line) : Type 0 where
    pub item : Item
    pub rest : List Line
    pub fits : Fits item
    pub all_is : all ≡ lines s item ++ rest
    pub readable : IsReadable F (at (s + 1)) rest

  pub record AreRead (s : ℕ) (all : List Line) : Type 0 where
    pub items : List Item
    pub rest : List Line
    pub long : s + length items ≡ m
    pub fit : AllByRecursion Fits items
    pub all_is : all ≡ in_turn s items ++ rest
    pub readable : IsReadable F (at m) rest

  abbrev pub Reads : Type 0
  Reads = (s : ℕ) (all : List Line) → s < m → IsReadable F (at s) all → Read s all

  pub read_in_turn : Reads → (k s : ℕ) (all : List Line) → s + k ≡ m → IsReadable F (at s) all → AreRead s all
  read_in_turn each zero s all left readable =
      let e : s ≡ m = omega (arith, left) in
      record {
        items = [];
        rest = all;
        long = omega (arith, left);
        fit = tt;
        all_is = refl;
        readable = subst (λ n. IsReadable F (at n) all) e readable;
      }
  read_in_turn each (suc k) s all left readable =
      let first = each s all (omega (arith, left)) readable in
      let others = read_in_turn each k (s + 1) first.rest (omega (arith, left)) first.readable in
      record {
        items = first.item ∷ others.items;
        rest = others.rest;
        long = omega (arith, others.long);
        fit = (first.fits, others.fit);
        all_is =
            first.all_is ∙ ap (λ ls. lines s first.item ++ ls) others.all_is
            ∙ sym (append_assoc (lines s first.item) (in_turn (s + 1) others.items) others.rest);
        readable = others.readable;
      }
