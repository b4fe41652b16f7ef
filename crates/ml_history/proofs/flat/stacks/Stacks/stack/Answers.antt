use Rattle.std.proofs.Common.{◌+◌, ◌≤◌, ◌<◌, ◌∙◌, arith, length, get_or, ap, subst, sym}
use Rattle.ml_history.specs.private.Arrays.{part, read}
use Rattle.ml_history.specs.private.Keys.{stack_at}
use Rattle.ml_history.proofs.arrays.StackLayout.{laid-stack, laid-starts_length}
use Rattle.ml_history.proofs.flat.stacks.Stacks.stack.Goals as goal

pub part_at-requires-clause-low : goal.part_at-requires-clause-low
part_at-requires-clause-low c =
    let a = c.self.inside in
    let e = laid-starts_length a.states.items a.starts.items a.names.items
    (read a.states.items a.starts.items a.names.items) c.self.invariant in
    let f = ap length c.self.view_is in
    omega (arith, e, f, ap length c.as_slice.ensures.value, c.requires)

pub part_at-requires-clause-up : goal.part_at-requires-clause-up
part_at-requires-clause-up c =
    let a = c.self.inside in
    let h = read a.states.items a.starts.items a.names.items in
    let low : c.args.i < length h = subst (λ l. c.args.i < length l) (sym c.self.view_is) c.requires in
    let at = laid-stack a.states.items a.starts.items a.names.items h c.args.i c.self.invariant low in
    subst (λ b. get_or b c.args.i 0 ≤ get_or b (c.args.i + 1) (length c.as_slice-2.result.now))
    (sym c.as_slice.ensures.value)
    (subst (λ ns. get_or a.starts.items c.args.i 0 ≤ get_or a.starts.items (c.args.i + 1) (length ns))
    (sym c.as_slice-2.ensures.value) at.up)

pub part_at-requires-clause-fits : goal.part_at-requires-clause-fits
part_at-requires-clause-fits c =
    let a = c.self.inside in
    let h = read a.states.items a.starts.items a.names.items in
    let low : c.args.i < length h = subst (λ l. c.args.i < length l) (sym c.self.view_is) c.requires in
    let at = laid-stack a.states.items a.starts.items a.names.items h c.args.i c.self.invariant low in
    subst (λ b. get_or b (c.args.i + 1) (length c.as_slice-2.result.now) ≤ length c.as_slice-2.result.now)
    (sym c.as_slice.ensures.value)
    (subst (λ ns. get_or a.starts.items (c.args.i + 1) (length ns) ≤ length ns) (sym c.as_slice-2.ensures.value)
    at.fits)

pub returns : goal.returns
returns c =
    let a = c.self.inside in
    let h = read a.states.items a.starts.items a.names.items in
    let low : c.args.i < length h = subst (λ l. c.args.i < length l) (sym c.self.view_is) c.requires in
    let at = laid-stack a.states.items a.starts.items a.names.items h c.args.i c.self.invariant low in
    c.part_at.ensures
    ∙ (λ k. part (c.as_slice-2.ensures.value k) (get_or (c.as_slice.ensures.value k) c.args.i 0)
    (get_or (c.as_slice.ensures.value k) (c.args.i + 1) (length (c.as_slice-2.ensures.value k))))
    ∙ at.stack_is
    ∙ ap (λ l. stack_at l c.args.i) c.self.view_is
