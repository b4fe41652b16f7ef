-- What the additions say is what the pool keeps.
use Rattle.std.proofs.Common.{ℕ, ◌≡◌, List, [], Result, Ok, Err, IfOk, OnOk, ap, sym, subst}
use Rattle.std.proofs.lemmas.Result.{on_ok_weaker}
use Rattle.std.specs.Cmp.Lexicographic.{bytes_decides}
use Rattle.ml_base.specs.declared.no_memory.NoMemory.{NoMemory}
use Rattle.ml_lists.specs.Added.{IsAdded}
use Rattle.ml_history.specs.HistoryOrder.{history_eq-same}
use Rattle.ml_trace.specs.Stack.{Item}
use Rattle.ml_product.specs.declared.pool.Fresh.{Fresh}
use Rattle.ml_product.specs.declared.pool.Pool.{Pool}
use Rattle.ml_product.specs.private.Numbers.{Leads}
use Rattle.ml_product.specs.Placed.{Placed}
use Rattle.ml_product.specs.private.Links.{top_of}
use Rattle.ml_product.specs.private.Pools.{IsPool, KeepsPool, IsInterned, positions_of, position_of}
use Rattle.ml_product.specs.private.Shared.{shown}
use Rattle.ml_product.proofs.Interning.{still_pool, still_added, added_stored}
use Rattle.ml_product.proofs.pool.Pool.intern.Goals as goal

module _ (a d : Pool) (x : Fresh) (ts : List (List ℕ)) (gs : List (List (Item ℕ))) (s h : ℕ) (pool : KeepsPool a)
    (at_s : IsAdded a.sequents.keys x.sequent ts s)
    (at_h : IsAdded a.histories.keys x.history gs h) where
  abbrev made : Placed
  made = record { sequent = s; history = h; priority = x.priority; choice = [] }

  interned : (v : ℕ) → d.sequents.keys ≡ ts → d.histories.keys ≡ gs → IsAdded a.positions made d.positions v
      → Leads top_of d.positions d.tops.keys d.top_numbers.items
      → IsInterned a (position_of x) d v
  interned v es eh added tops = record {
    is_pool = subst (λ ss. IsPool ss d.histories.keys d.positions d.tops.keys d.top_numbers.items) (sym es)
        (subst (λ hs. IsPool ts hs d.positions d.tops.keys d.top_numbers.items) (sym eh)
        (still_pool a.sequents.keys ts a.histories.keys gs a.positions d.positions x.sequent x.history made v a.tops.keys
        a.top_numbers.items pool at_s at_h added d.tops.keys d.top_numbers.items tops));
    added = subst (λ ss. IsAdded (positions_of a) (position_of x) (shown ss d.histories.keys d.positions) v) (sym es)
        (subst (λ hs. IsAdded (positions_of a) (position_of x) (shown ts hs d.positions) v) (sym eh)
        (still_added a.sequents.keys ts a.histories.keys gs a.positions d.positions x.sequent x.history made v
        a.tops.keys a.top_numbers.items pool at_s at_h added));
    stored = added_stored a.positions d.positions made v added;
  }

  of_answer : (r : Result ℕ NoMemory) → OnOk r (d.sequents.keys ≡ ts) → OnOk r (d.histories.keys ≡ gs)
      → IfOk r (IsAdded a.positions made d.positions)
      → OnOk r (Leads top_of d.positions d.tops.keys d.top_numbers.items)
      → IfOk r (IsInterned a (position_of x) d)
  of_answer (Ok v) es eh added tops = interned v es eh added tops
  of_answer (Err e) es eh added tops = tt

pub returns : goal.returns
returns c =
    let h = c.intern_placed.ensures in
    of_answer c.args.self.now c.intern_placed.new.self c.args.fresh c.add.new.table.keys
    c.add-2.new.table.keys c.in_ok-sequent.field-0 c.in_ok-history.field-0 c.requires.pool c.in_ok-sequent.ensures
    c.in_ok-history.ensures c.intern_placed.result
    (on_ok_weaker c.intern_placed.result (ap (λ t. t.keys)) h.sequents)
    (on_ok_weaker c.intern_placed.result (ap (λ t. t.keys)) h.histories) h.added h.tops

pub add-requires : goal.add-requires
add-requires c = λ x y. (bytes_decides x y).0

pub add-requires-2 : goal.add-requires-2
add-requires-2 c = history_eq-same
