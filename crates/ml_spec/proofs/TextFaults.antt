-- The faults of a text: of those of its items, one behind the other, and of the formulas that these mean.
--
--   HasFault l before is s k == some item of `is` has a fault, where these statements stand before the items
--   item_fault             == a fault of an item of a text is one of them
--   read_clean             == items that are read have none
--   first_among            == the first fault of an item behind clean ones is the first fault of all
--   one_logic              == a text tells one logic at most
--   fitting_behind, fitting_all == that statements fit those before them, said one by one and of all
use Rattle.std.proofs.Common.{◌≡◌, ℕ, ◌+◌, ◌≤◌, ◌⊎◌, List, [], ◌∷◌, ◌++◌, drop, length, inl, inr, refl, sym, ap, subst, ◌∙◌, arith, append_assoc, length-append}
use Rattle.std.proofs.lemmas.List.{append-nil}
use Rattle.ml_front.specs.declared.logic.Logic.{Logic}
use Rattle.ml_front.proofs.Logics as logics
use Rattle.ml_spec.specs.Faults.{HasItemFault, IsItemFault}
use Rattle.ml_spec.specs.Items.{ItemText, behind_word, items_of}
use Rattle.ml_spec.specs.Known.{known, AreFitting, Fits}
use Rattle.ml_spec.specs.Laws.{AreApart}
use Rattle.ml_spec.specs.Specification.{items_behind, most_items, AreRead, TellsLogic}
use Rattle.ml_spec.specs.Statements.{AreStatements, IsStatement, Statement}
use Rattle.ml_spec.specs.declared.rule.SpecRule.{SpecRule}
use Rattle.ml_spec.specs.private.Stages.{AreFittingBehind, IsFirstInItem, IsReadTo, IsStopped}
use Rattle.ml_spec.proofs.ItemFaults.{fault_place}
use Rattle.ml_spec.proofs.ItemPlaces.{items_apart}
use Rattle.ml_spec.proofs.NextStatements.{next_clean, one_statement}
use Rattle.ml_spec.proofs.WordLists.{ComesBehind}

-- ---- the logic

pub one_logic : (text : List ℕ) (l k : Logic) → TellsLogic text l → TellsLogic text k → l ≡ k
one_logic text l k one other =
    let same : one.first ∷ one.others ≡ other.first ∷ other.others = sym one.are_items ∙ other.are_items in
    let first : one.first ≡ other.first = cc in
    logics.one_logic l k (sym one.tells ∙ ap (λ i. behind_word i.bytes) first ∙ other.tells)

-- ---- statements that fit

-- the statement behind others fits them
fits_at : (seen before : List Statement) (s : Statement) (after : List Statement)
    → AreFittingBehind seen (before ++ s ∷ after)
    → Fits (known (seen ++ before)) s.says
fits_at seen [] s after fit = subst (λ ts. Fits (known ts) s.says) (sym (append-nil seen)) fit.0
fits_at seen (t ∷ ts) s after fit =
    subst (λ us. Fits (known us) s.says) (append_assoc seen (t ∷ []) ts) (fits_at (seen ++ t ∷ []) ts s after fit.1)

pub fitting_all : (ss : List Statement) → AreFittingBehind [] ss → AreFitting ss
fitting_all ss fit before s after is = fits_at [] before s after (subst (AreFittingBehind []) is fit)

fitting_from : (done ss : List Statement) → AreFitting (done ++ ss) → AreFittingBehind done ss
fitting_from done [] fit = tt
fitting_from done (s ∷ ss) fit =
    let whole : done ++ s ∷ ss ≡ (done ++ s ∷ []) ++ ss = sym (append_assoc done (s ∷ []) ss) in
    (fit done s ss refl, fitting_from (done ++ s ∷ []) ss (subst AreFitting whole fit))

pub fitting_behind : (ss : List Statement) → AreFitting ss → AreFittingBehind [] ss
fitting_behind ss fit = fitting_from [] ss fit

-- one statement more
pub fitting_more : (seen ss : List Statement) (s : Statement)
    → AreFittingBehind seen ss
    → Fits (known (seen ++ ss)) s.says
    → AreFittingBehind seen (ss ++ s ∷ [])
fitting_more seen [] s fit fits = (subst (λ ts. Fits (known ts) s.says) (append-nil seen) fits, tt)
fitting_more seen (t ∷ ts) s fit fits = (
  fit.0,
  fitting_more (seen ++ t ∷ []) ts s fit.1 (subst (λ us. Fits (known us) s.says) (sym (append_assoc seen (t ∷ []) ts)) fits),
)

-- ---- faults of items

module _ (l : Logic) where
  abbrev pub HasFault : List Statement → List ItemText → SpecRule → ℕ → Type 0
  HasFault before [] r k = ⊥
  HasFault before (i ∷ is) r k =
      IsItemFault l before i k r ⊎ ((s : Statement) × IsStatement l i s × HasFault (before ++ s ∷ []) is r k)

  from_split : (seen : List Statement) (before : List ItemText) (i : ItemText) (after : List ItemText) (read : List Statement)
      (r : SpecRule) (k : ℕ)
      → AreStatements l before read
      → IsItemFault l (seen ++ read) i k r
      → HasFault seen (before ++ i ∷ after) r k
  from_split seen [] i after [] r k are fault = inl (subst (λ ts. IsItemFault l ts i k r) (append-nil seen) fault)
  from_split seen [] i after (s ∷ ss) r k are fault = absurd are
  from_split seen (j ∷ js) i after [] r k are fault = absurd are
  from_split seen (j ∷ js) i after (s ∷ ss) r k are fault =
      inr (
        s,
        are.0,
        from_split (seen ++ s ∷ []) js i after ss r k are.1
            (subst (λ ts. IsItemFault l ts i k r) (sym (append_assoc seen (s ∷ []) ss)) fault),
      )

  pub item_fault : (text : List ℕ) (r : SpecRule) (k : ℕ) (found : HasItemFault text r k)
      → found.logic ≡ l
      → HasFault [] (items_behind text) r k
  item_fault text r k found same =
      subst (λ is. HasFault [] is r k) (sym found.are_items)
      (from_split [] found.before found.item found.after found.read r k
      (subst (λ m. AreStatements m found.before found.read) same found.are_statements)
      (subst (λ m. IsItemFault m found.read found.item k r) same found.is_fault))

  -- no fault stands before the first item
  later_place : (seen : List Statement) (p : ℕ) (is : List ItemText) (r : SpecRule) (k : ℕ)
      → AreApart p is
      → HasFault seen is r k
      → p ≤ k
  later_place seen p [] r k apart fault = absurd fault
  later_place seen p (i ∷ is) r k apart (inl here) =
      let place = fault_place l seen i r k here in omega (arith, apart.0, place.behind)
  later_place seen p (i ∷ is) r k apart (inr (s, read, later)) =
      let behind = later_place (seen ++ s ∷ []) (i.at + length i.bytes + 1) is r k apart.1 later in
      omega (arith, behind, apart.0)

  -- items that are read
  pub record AreReadBehind (seen : List Statement) (is : List ItemText) (ss : List Statement) : Type 0 where
    pub are_statements : AreStatements l is ss
    pub are_fitting : AreFittingBehind seen ss
    pub are_few : length seen + length ss ≤ most_items

  less : (seen : List Statement) (i : ItemText) (is : List ItemText) (s : Statement) (ss : List Statement)
      → AreReadBehind seen (i ∷ is) (s ∷ ss)
      → AreReadBehind (seen ++ s ∷ []) is ss
  less seen i is s ss read = record {
    are_statements = read.are_statements.1;
    are_fitting = read.are_fitting.1;
    are_few = omega (arith, read.are_few, length-append seen (s ∷ []));
  }

  first_clean : (seen : List Statement) (i : ItemText) (is : List ItemText) (s : Statement) (ss : List Statement) (r : SpecRule)
      (k : ℕ)
      → AreReadBehind seen (i ∷ is) (s ∷ ss)
      → IsItemFault l seen i k r
      → ⊥
  first_clean seen i is s ss r k read fault =
      next_clean l seen i (omega (arith, read.are_few)) s.says read.are_statements.0.is_said read.are_fitting.0 r k fault

  pub read_clean : (seen : List Statement) (is : List ItemText) (ss : List Statement) (r : SpecRule) (k : ℕ)
      → AreReadBehind seen is ss
      → HasFault seen is r k
      → ⊥
  read_clean seen [] ss r k read fault = fault
  read_clean seen (i ∷ is) [] r k read fault = read.are_statements
  read_clean seen (i ∷ is) (s ∷ ss) r k read (inl here) = first_clean seen i is s ss r k read here
  read_clean seen (i ∷ is) (s ∷ ss) r k read (inr (t, said, later)) =
      read_clean (seen ++ s ∷ []) is ss r k (less seen i is s ss read)
      (subst (λ u. HasFault (seen ++ u ∷ []) is r k) (one_statement l i t s said read.are_statements.0) later)

  -- the first fault of the item behind those that are read
  pub first_among : (seen : List Statement) (p : ℕ) (done : List ItemText) (ss : List Statement) (i : ItemText)
      (after : List ItemText) (r : SpecRule) (at : ℕ)
      → AreReadBehind seen done ss
      → IsFirstInItem l (seen ++ ss) i r at
      → AreApart p (done ++ i ∷ after)
      → (s : SpecRule) (k : ℕ)
      → HasFault seen (done ++ i ∷ after) s k
      → ComesBehind r at s k
  first_among seen p [] (t ∷ ts) i after r at read first apart s k fault = absurd read.are_statements
  first_among seen p (d ∷ ds) [] i after r at read first apart s k fault = absurd read.are_statements
  first_among seen p [] [] i after r at read first apart s k (inl here) =
      first.first s k (subst (λ ts. IsItemFault l ts i k s) (sym (append-nil seen)) here)
  first_among seen p [] [] i after r at read first apart s k (inr (t, said, later)) =
      let place = fault_place l (seen ++ []) i r at first.comes in
      let behind = later_place (seen ++ t ∷ []) (i.at + length i.bytes + 1) after s k apart.1 later in
      inl (omega (arith, behind, place.before_end))
  first_among seen p (d ∷ ds) (t ∷ ts) i after r at read first apart s k (inl here) =
      absurd (first_clean seen d ds t ts s k read here)
  first_among seen p (d ∷ ds) (t ∷ ts) i after r at read first apart s k (inr (u, said, later)) =
      first_among (seen ++ t ∷ []) (d.at + length d.bytes + 1) ds ts i after r at (less seen d ds t ts read)
      (subst (λ us. IsFirstInItem l us i r at) (sym (append_assoc seen (t ∷ []) ts)) first) apart.1 s k
      (subst (λ v. HasFault (seen ++ v ∷ []) (ds ++ i ∷ after) s k) (one_statement l d u t said read.are_statements.0) later)

-- ---- a text

-- the items behind the first one are apart
behind_apart : (is : List ItemText) → AreApart 0 is → (p : ℕ) × AreApart p (drop 1 is)
behind_apart [] apart = (0, tt)
behind_apart (i ∷ is) apart = (i.at + length i.bytes + 1, apart.1)

pub text_apart : (text : List ℕ) → (p : ℕ) × AreApart p (items_behind text)
text_apart text = behind_apart (items_of text) (items_apart text)

-- a text that is read has no fault of an item
pub no_item_fault : (text : List ℕ) (l : Logic) (ss : List Statement)
    → TellsLogic text l
    → AreRead l (items_behind text) ss
    → (r : SpecRule) (k : ℕ)
    → HasItemFault text r k
    → ⊥
no_item_fault text l ss told read r k found =
    read_clean l [] (items_behind text) ss r k
    (record {
      are_statements = read.are_statements;
      are_fitting = fitting_behind ss read.are_fitting;
      are_few = omega (arith, read.are_few);
    })
    (item_fault l text r k found (one_logic text found.logic l found.told_logic told))

-- the first fault of an item of a text whose items are read up to this one
pub item_first : (text : List ℕ) (l : Logic) (r : SpecRule) (at : ℕ)
    → TellsLogic text l
    → IsStopped l (items_behind text) r at
    → (s : SpecRule) (k : ℕ)
    → HasItemFault text s k
    → ComesBehind r at s k
item_first text l r at told stopped s k found =
    let apart = text_apart text in
    let whole = stopped.is_read.whole in
    first_among l [] apart.0 stopped.is_read.done stopped.statements stopped.item stopped.after r at
    (record {
      are_statements = stopped.is_read.are_statements;
      are_fitting = stopped.is_read.are_fitting;
      are_few = omega (arith, stopped.is_read.are_few);
    })
    stopped.is_first (subst (AreApart apart.0) whole apart.1) s k
    (subst (λ is. HasFault l [] is s k) whole (item_fault l text s k found (one_logic text found.logic l found.told_logic told)))

pub found_item : (text : List ℕ) (l : Logic) (r : SpecRule) (at : ℕ)
    → TellsLogic text l
    → IsStopped l (items_behind text) r at
    → HasItemFault text r at
found_item text l r at told stopped = record {
  logic = l;
  told_logic = told;
  before = stopped.is_read.done;
  item = stopped.item;
  after = stopped.after;
  are_items = stopped.is_read.whole;
  read = stopped.statements;
  are_statements = stopped.is_read.are_statements;
  is_fault = stopped.is_first.comes;
}

-- statements of a text that is read to its end
pub statements_more : (l : Logic) (is : List ItemText) (ss : List Statement) (i : ItemText) (s : Statement)
    → AreStatements l is ss
    → IsStatement l i s
    → AreStatements l (is ++ i ∷ []) (ss ++ s ∷ [])
statements_more l [] [] i s are is = (is, tt)
statements_more l [] (t ∷ ts) i s are is = absurd are
statements_more l (j ∷ js) [] i s are is = absurd are
statements_more l (j ∷ js) (t ∷ ts) i s are is = (are.0, statements_more l js ts i s are.1 is)

pub one_reading : (l : Logic) (is : List ItemText) (ss ts : List Statement)
    → AreStatements l is ss
    → AreStatements l is ts
    → ss ≡ ts
one_reading l [] [] [] one other = refl
one_reading l [] [] (t ∷ ts) one other = absurd other
one_reading l [] (s ∷ ss) ts one other = absurd one
one_reading l (i ∷ is) [] ts one other = absurd one
one_reading l (i ∷ is) (s ∷ ss) [] one other = absurd other
one_reading l (i ∷ is) (s ∷ ss) (t ∷ ts) one other =
    let first = one_statement l i s t one.0 other.0 in
    let rest = one_reading l is ss ts one.1 other.1 in
    (λ k. first k ∷ rest k)

pub read_to_end : (l : Logic) (all : List ItemText) (ss : List Statement) → IsReadTo l all [] ss → AreRead l all ss
read_to_end l all ss read = record {
  are_statements = subst (λ is. AreStatements l is ss) (sym (read.whole ∙ append-nil read.done)) read.are_statements;
  are_fitting = fitting_all ss read.are_fitting;
  are_few = read.are_few;
}
