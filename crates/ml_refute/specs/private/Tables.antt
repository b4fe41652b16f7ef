-- Entries and the lists that they name, as they are put together. Only private contracts cite this.
--
-- Lists are only ever added, so what was put before stays as it is.
--
--   entries_in t         == the plain entries that t stands for
--   AreNamedIn t         == the entries of t name lists of t
--   IsPlaced c qs qs' n  == qs' are the lists qs and perhaps some more, and c is the one at the place n
--   AreCarried odds h ks ks' items == ks' are the stacks ks and some more, and the items are those of the history h
--   IsMade odds p row d qs qs' ks ks' e == qs' and ks' are the lists qs and ks and some more, and e is the entry at the
--                           position p, with these heights and this decision
--   IsPutBehind odds p row d es es' == es' are the entries es, and the one at p behind them
use Rattle.std.specs.Prelude.{ℕ, ◌≡◌, ◌<◌, List, [], ◌∷◌, ◌++◌, length, map, All, slice_index_or}
use Rattle.ml_product.specs.Position.{Position}
use Rattle.ml_refutation.proofs.MoreLists.{AreNamed, IsNamed}
use Rattle.ml_refutation.specs.Refutation as plain
use Rattle.ml_refutation.specs.Views.{item_of, entry_of}
use Rattle.ml_refutation.specs.declared.refutation.Item.{Item}
use Rattle.ml_refutation.specs.declared.refutation.Entry.{Entry}
use Rattle.ml_refute.specs.declared.tables.Tables.{Tables}
use Rattle.ml_refute.specs.private.PutTogether.{IsPut, carried}
use Rattle.ml_trace.specs.Stack as traced

abbrev pub entries_in : Tables → List plain.Entry
entries_in t = map (entry_of t.sequents t.stacks) t.entries.items

abbrev pub AreNamedIn : Tables → Type 0
AreNamedIn t = All (IsNamed t.sequents t.stacks) t.entries.items

pub record IsPlaced (list : List ℕ) (before after : List (List ℕ)) (place : ℕ) : Type 0 where
  pub more : List (List ℕ)
  pub grown : after ≡ before ++ more
  pub within : place < length after
  pub is : slice_index_or after place [] ≡ list

pub record AreCarried (odds : List ℕ) (h : List (traced.Item ℕ)) (before after : List (List ℕ)) (items : List Item)
    : Type 0 where
  pub more : List (List ℕ)
  pub grown : after ≡ before ++ more
  pub named : AreNamed after items
  pub are : map (item_of after) items ≡ carried odds h

pub record IsMade (odds : List ℕ) (p : Position) (row : List ℕ) (d : plain.Decision)
    (sequents sequents' stacks stacks' : List (List ℕ)) (e : Entry) : Type 0 where
  pub more : List (List ℕ)
  pub further : List (List ℕ)
  pub sequents_grown : sequents' ≡ sequents ++ more
  pub stacks_grown : stacks' ≡ stacks ++ further
  pub named : IsNamed sequents' stacks' e
  pub is_put : IsPut odds p row d (entry_of sequents' stacks' e)

pub record IsPutBehind (odds : List ℕ) (p : Position) (row : List ℕ) (d : plain.Decision) (before after : List plain.Entry)
    : Type 0 where
  pub entry : plain.Entry
  pub grown : after ≡ before ++ entry ∷ []
  pub is_put : IsPut odds p row d entry
