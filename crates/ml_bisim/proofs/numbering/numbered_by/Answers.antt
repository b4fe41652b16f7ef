use Rattle.std.proofs.Common.{◌≡◌, ◌∙◌, ap, rules, sym, subst, refl, length, arith}
use Rattle.std.specs.Vec.Iter.{into_iter_items}
use Rattle.ml_bisim.specs.private.Numbers.{AreNumbers}
use Rattle.ml_bisim.proofs.Passed.{all_seen, further}
use Rattle.ml_bisim.proofs.Tables.{are_numbers, table_more, table_none, IsTable}
use Rattle.ml_bisim.proofs.numbering.numbered_by.Goals as goal

pub loop-key-init : goal.loop-key-init
loop-key-init g c = (
  refl,
  table_none g.K.PartialEq.eq g.met.K.Eq.laws c.args.table.now.keys c.in_ok-numbers.numbers.items c.requires
      c.in_ok-numbers.ensures.items,
  search rules,
)

pub loop-key-preserved : goal.loop-key-preserved
loop-key-preserved g c =
    let next = c.in-Some.ensures.steps in
    let long = ap length next.0 in (
      further c.loop-key.yielded c.in-Some.key (into_iter_items c.loop-key.key-iterator) (into_iter_items c.next.new.self) _
          next.0 c.loop-key.invariant.0,
      subst (IsTable g.K.PartialEq.eq g.met.K.Eq.laws _ c.insert_full.new.self.keys) (sym c.in_ok-push.ensures.items)
          (table_more g.K.PartialEq.eq g.met.K.Eq.laws c.loop-key.yielded c.loop-key.table.keys c.insert_full.new.self.keys
          c.loop-key.numbers.items c.in-Some.key c.in_ok-number.number c.loop-key.invariant.1
          c.in_ok-number.ensures.keys
          (record {
            key = c.in_ok-number.ensures.stored.0;
            at = c.in_ok-number.ensures.stored.1;
            equal = c.in_ok-number.ensures.stored.2;
          })),
      omega (arith, c.loop-key.invariant.2, long, next.1),
    )

pub returns : goal.returns
returns g c =
    let left = c.in-None.ensures.steps in
    let none : length (into_iter_items c.loop-key.key-iterator) ≡ 0 = omega (arith, c.loop-key.invariant.2, left.0) in
    let gives : into_iter_items c.into_iter-key-iterator.result ≡ c.args.keys.items =
    c.into_iter-key-iterator.ensures.into_iter_gives.0 in
    let seen = all_seen c.loop-key.yielded (into_iter_items c.loop-key.key-iterator)
    (into_iter_items c.into_iter-key-iterator.result) none c.loop-key.invariant.0 ∙ gives in
    subst (λ n. AreNumbers g.K.PartialEq.eq c.args.keys.items c.loop-key.numbers.items n) (sym c.len-2.ensures.len)
    (subst (λ ks. AreNumbers g.K.PartialEq.eq ks c.loop-key.numbers.items (length c.loop-key.table.keys)) seen
    (are_numbers g.K.PartialEq.eq g.met.K.Eq.laws c.loop-key.yielded c.loop-key.table.keys c.loop-key.numbers.items
    c.loop-key.invariant.1))
