use Rattle.std.proofs.Common.{◌≡◌, ℕ, ◌∙◌, get_or, map, ap, subst, sym}
use Rattle.ml_lists.specs.Member.{IsMember}
use Rattle.ml_history.specs.HistoryOrder.{names_of}
use Rattle.ml_history.specs.private.Arrays.{read, AreLaidOut, AreParts, renamed}
use Rattle.ml_history.specs.private.Ways.{AreWays}
use Rattle.ml_history.proofs.arrays.NumberedParts.{laid_parts}
use Rattle.ml_history.proofs.arrays.StackLayout.{laid_read, laid_itself, laid-renamed}
use Rattle.ml_history.proofs.flat.stacks.Stacks.renamed.Goals as goal

pub numbered-names-requires-clause-low : goal.numbered-names-requires-clause-low
numbered-names-requires-clause-low c = λ y m.
    let a = c.self.inside in
    let is : a.names.items ≡ names_of c.args.self = c.self.invariant.names_are ∙ ap names_of c.self.view_is in
    c.requires.low y (subst (IsMember y) is m)

pub numbered-names-requires-clause-parts : goal.numbered-names-requires-clause-parts
numbered-names-requires-clause-parts c =
    let a = c.self.inside in
    let h = read a.states.items a.starts.items a.names.items in
    subst (λ b. AreParts b a.names.items) (sym c.as_slice.ensures.value)
    (laid_parts a.states.items a.starts.items a.names.items h c.self.invariant
    (subst AreWays (sym c.self.view_is) c.requires.ways))

pub of-requires : goal.of-requires
of-requires c =
    let a = c.self.inside in
    let h = read a.states.items a.starts.items a.names.items in
    let number = λ (y : ℕ). get_or c.args.numbers.now y 0 in
    let laid = laid-renamed a.states.items a.starts.items a.names.items h number c.self.invariant in
    subst (λ ns. AreLaidOut a.states.items a.starts.items ns (read a.states.items a.starts.items ns))
    (sym c.numbered-names.ensures)
    (laid_itself a.states.items a.starts.items (map number a.names.items) (renamed number h) laid)

pub returns : goal.returns
returns c =
    let a = c.self.inside in
    let h = read a.states.items a.starts.items a.names.items in
    let number = λ (y : ℕ). get_or c.args.numbers.now y 0 in
    let laid = laid-renamed a.states.items a.starts.items a.names.items h number c.self.invariant in
    c.of.ensures
    ∙ ap (λ ns. read a.states.items a.starts.items ns) c.numbered-names.ensures
    ∙ laid_read a.states.items a.starts.items (map number a.names.items) (renamed number h) laid
    ∙ ap (renamed number) c.self.view_is
