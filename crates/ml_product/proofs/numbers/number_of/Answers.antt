-- A place within the numbers is that of a key that was there.
use Rattle.std.proofs.Common.{inl, inr, arith}
use Rattle.ml_product.proofs.Naming.{named_before, named_now}
use Rattle.ml_product.proofs.numbers.number_of.Goals as goal

pub returns-then-place-len : goal.returns-then-place-len
returns-then-place-len g c =
    let ns = c.args.numbers.now in
    let len = ns.ok.0 in
    let h = c.index.ensures in
    inl (named_before c.args.table.now.keys c.add.new.table.keys ns.items c.args.key c.in_ok-place.place
    c.requires.even c.in_ok-place.ensures (omega (arith, c.if-place-len.true, c.len.ensures)) c.index.result.now h)

pub returns : goal.returns
returns g c =
    let ns = c.args.numbers.now in
    let len = ns.ok.0 in
    inr (named_now c.args.table.now.keys c.add.new.table.keys ns.items c.args.key c.in_ok-place.place
    c.requires.even c.in_ok-place.ensures c.args.next c.push.new.self.items
    (omega (arith, c.if-place-len.false, c.len.ensures)) c.in_ok-push.ensures.items)
