use Rattle.std.proofs.Common.{◌≡◌, ◌<◌, Some, sym, ◌∙◌, arith, vec_len}
use Rattle.ml_text.proofs.Stacks.{popped_frame}
use Rattle.ml_text.proofs.stack.pop_untaken.Goals as goal

pub returns-in-Some : goal.returns-in-Some
returns-in-Some g c =
    let item = c.in-Some.ensures.item in
    let some : 0 < vec_len c.args.stack.now = omega (arith, (item.3).0, c.deref.ensures.len) in
    let value = c.pop.ensures.value c.in-Some.top.now some in
    let is : c.pop.result ≡ Some c.in-Some.top.now = cc (value, item.1, c.deref.ensures.value, c.deref.ensures.len) in
    popped_frame g.L.Notation.tables c.args.stack.now.items c.pop.new.self.items c.pop.result c.in-Some.top.now
    (g.L.Notation.tables.sign c.args.sign.now) c.pop.ensures.items is (sym c.takes.ensures ∙ c.if-not-takes.true)
