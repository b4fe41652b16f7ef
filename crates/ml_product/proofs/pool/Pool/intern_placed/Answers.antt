-- A number that is less than the next one is that of an equal position.
use Rattle.std.proofs.Common.{ℕ, List, [], length, refl, sym, subst, arith}
use Rattle.ml_lists.specs.Added.{IsAdded}
use Rattle.ml_product.specs.private.Numbers.{IsNamed, Leads}
use Rattle.ml_product.specs.Placed.{Placed}
use Rattle.ml_product.specs.private.Links.{top_of}
use Rattle.ml_product.proofs.KeyEquality.{top_eq-same}
use Rattle.ml_product.proofs.Naming.{leads_named, met_added, new_added}
use Rattle.ml_product.proofs.pool.Pool.intern_placed.Goals as goal

abbrev made : ℕ → ℕ → ℕ → Placed
made s h k = record { sequent = s; history = h; priority = k; choice = [] }

pub returns-then-number-next-clause-added : goal.returns-then-number-next-clause-added
returns-then-number-next-clause-added c =
    let a = c.args.self.now in
    let n = c.in_ok-number.field-0 in
    met_added a.positions a.tops.keys c.number_of.new.table.keys a.top_numbers.items
    c.number_of.new.numbers.items (made c.args.sequent c.args.history c.args.priority) n c.requires.tops refl
    (subst (λ k. IsNamed a.tops.keys a.top_numbers.items (top_of (made c.args.sequent c.args.history c.args.priority)) k
    c.number_of.new.table.keys c.number_of.new.numbers.items n) c.len-next.ensures c.in_ok-number.ensures)
    (omega (arith, c.if-number-next.true, c.len-next.ensures))

pub returns-clause-added : goal.returns-clause-added
returns-clause-added c =
    let a = c.args.self.now in
    let n = c.in_ok-number.field-0 in
    let x = made c.args.sequent c.args.history c.args.priority in
    subst (IsAdded a.positions x c.push_unchosen.new.self) (sym c.len-next.ensures)
    (subst (λ (ys : List Placed). IsAdded a.positions x ys (length a.positions)) (sym c.in_ok-push_unchosen.ensures)
    (new_added a.positions a.tops.keys c.number_of.new.table.keys a.top_numbers.items
    c.number_of.new.numbers.items x n c.requires.tops refl
    (subst (λ k. IsNamed a.tops.keys a.top_numbers.items (top_of x) k
    c.number_of.new.table.keys c.number_of.new.numbers.items n) c.len-next.ensures c.in_ok-number.ensures)
    (omega (arith, c.if-number-next.false, c.len-next.ensures))))

pub returns-clause-tops : goal.returns-clause-tops
returns-clause-tops c =
    let a = c.args.self.now in
    let x = made c.args.sequent c.args.history c.args.priority in
    subst (λ (ys : List Placed). Leads top_of ys c.number_of.new.table.keys c.number_of.new.numbers.items)
    (sym c.in_ok-push_unchosen.ensures)
    (leads_named top_of a.positions a.tops.keys a.top_numbers.items c.requires.tops x refl
    c.number_of.new.table.keys c.number_of.new.numbers.items c.in_ok-number.field-0
    (subst (λ k. IsNamed a.tops.keys a.top_numbers.items (top_of x) k
    c.number_of.new.table.keys c.number_of.new.numbers.items c.in_ok-number.field-0) c.len-next.ensures
    c.in_ok-number.ensures))

pub number_of-requires-clause-same : goal.number_of-requires-clause-same
number_of-requires-clause-same c = top_eq-same
