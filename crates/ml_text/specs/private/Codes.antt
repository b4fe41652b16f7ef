-- The code by which proofs tell trees apart: a tree as the list of its symbols, operands first, and back. What was read
-- lies on a stack, or on several, and `behind` is what a symbol makes of it. It says nothing of formulas that a reader
-- needs; the types of formulas ask for it.
--
--   Symbol                     == a number for the kind of the symbol, with the name that it has, if any
--   read_symbols behind ss st  == the stack behind these symbols
--   Leads behind us st to      == reading the symbols us leads from st to to, whatever follows
--   one_more, two_more         == a symbol behind one operand, and behind two
--   led                        == so it does where nothing follows
--   top, under                 == the tree on top of a stack, and the trees under it
--   with_one, with_two         == a stack whose topmost tree, or whose two topmost trees, became operands
--   Reads t                    == reading the symbols of the tree t puts it on top of any stack
--   one_tree, two_trees        == a symbol behind one tree, and behind two
--   symbols_code               == the code of trees that their symbols give back
use Rattle.std.specs.Prelude.{ℕ, ◌≡◌, List, [], ◌∷◌, ◌++◌}
use Rattle.std.specs.Coded.{Coded, code_by, coded×, coded_ℕ, coded_list}
use Rattle.std.proofs.Common.{sym, ◌∙◌, ap, append_assoc}
use Rattle.std.proofs.lemmas.List.{append-nil}

abbrev pub Symbol : Type 0
Symbol = ℕ × List ℕ

module _ {Stack : Type 0} (behind : Symbol → Stack → Stack) where
  abbrev pub read_symbols : List Symbol → Stack → Stack
  read_symbols [] st = st
  read_symbols (s ∷ ss) st = read_symbols ss (behind s st)

  abbrev pub Leads : List Symbol → Stack → Stack → Type 0
  Leads us st to = (ss : List Symbol) → read_symbols (us ++ ss) st ≡ read_symbols ss to

  pub one_more : (us : List Symbol) (s : Symbol) (st to : Stack)
      → Leads us st to
      → Leads (us ++ s ∷ []) st (behind s to)
  one_more us s st to leads = λ ss. ap (λ vs. read_symbols vs st) (append_assoc us (s ∷ []) ss) ∙ leads (s ∷ ss)

  pub two_more : (us ws : List Symbol) (s : Symbol) (st mid to : Stack)
      → Leads us st mid
      → Leads ws mid to
      → Leads (us ++ (ws ++ s ∷ [])) st (behind s to)
  two_more us ws s st mid to first second =
      λ ss. ap (λ vs. read_symbols vs st) (append_assoc us (ws ++ s ∷ []) ss)
      ∙ first ((ws ++ s ∷ []) ++ ss)
      ∙ one_more ws s mid to second ss

  pub led : (us : List Symbol) (st to : Stack) → Leads us st to → read_symbols us st ≡ to
  led us st to leads = ap (λ ss. read_symbols ss st) (sym (append-nil us)) ∙ leads []

-- ---- one stack

abbrev pub top : {T : Type 0} → T → List T → T
top blank [] = blank
top blank (t ∷ ts) = t

abbrev pub under : {T : Type 0} → List T → List T
under [] = []
under (t ∷ ts) = ts

abbrev pub with_one : {T : Type 0} → T → (T → T) → List T → List T
with_one blank h ts = h (top blank ts) ∷ under ts

abbrev pub with_two : {T : Type 0} → T → (T → T → T) → List T → List T
with_two blank h ts = h (top blank (under ts)) (top blank ts) ∷ under (under ts)

module _ {T : Type 0} (behind : Symbol → List T → List T) (symbols : T → List Symbol) where
  abbrev pub Reads : T → Type 0
  Reads t = (st : List T) → Leads behind (symbols t) st (t ∷ st)

  pub one_tree : (t : T) (s : Symbol) (st : List T)
      → Reads t
      → Leads behind (symbols t ++ s ∷ []) st (behind s (t ∷ st))
  one_tree t s st reads = one_more behind (symbols t) s st (t ∷ st) (reads st)

  pub two_trees : (t u : T) (s : Symbol) (st : List T)
      → Reads t
      → Reads u
      → Leads behind (symbols t ++ (symbols u ++ s ∷ [])) st (behind s (u ∷ t ∷ st))
  two_trees t u s st first second =
      two_more behind (symbols t) (symbols u) s st (t ∷ st) (u ∷ t ∷ st) (first st) (second (t ∷ st))

abbrev pub symbols_code : {T : Type 0} (symbols : T → List Symbol) (from : List Symbol → T)
    → ((t : T) → from (symbols t) ≡ t)
    → Coded T
symbols_code symbols from back =
    code_by (List Symbol) (coded_list (coded× coded_ℕ (coded_list coded_ℕ))) symbols from back
