use Rattle.std.proofs.Common.{ℕ, ◌≡◌, ◌<◌, ◌+◌, ◌⊎◌, inl, inr, ◌∙◌, length, get_or, ap, subst, sym, arith}
use Rattle.std.proofs.Math.ListN.{set, length-set}
use Rattle.ml_history.specs.private.Line.{line, Links, parent_in}
use Rattle.ml_history.proofs.arrays.NameLine.{line-links}
use Rattle.ml_history.proofs.flat.places.links.Goals as goal

pub loop-name-init : goal.loop-name-init
loop-name-init c = (omega (arith, c.in_ok-next.ensures.len, c.in_ok-next.next.ok.0), tt)

pub link-requires-clause-parent : goal.link-requires-clause-parent
link-requires-clause-parent c = by_part (c.requires.tree c.loop-name.name c.loop-name-test.true)
  where
    by_part : (get_or c.args.parents.now c.loop-name.name 0 < c.loop-name.name)
        ⊎ (get_or c.args.parents.now c.loop-name.name 0 ≡ length c.args.parents.now)
        → get_or c.args.parents.now c.loop-name.name 0 < length c.loop-name.next.items
    by_part (inl l) = omega (arith, c.loop-name.invariant.0, c.loop-name-test.true)
    by_part (inr l) = omega (arith, c.loop-name.invariant.0)

pub loop-name-preserved : goal.loop-name-preserved
loop-name-preserved c =
    let r = length c.args.parents.now in
    let p = get_or c.args.parents.now c.loop-name.name 0 in
    let first = set c.loop-name.next.items c.loop-name.name (get_or c.loop-name.next.items p 0) in (
      ap length c.link.ensures ∙ length-set first p c.loop-name.name
          ∙ length-set c.loop-name.next.items c.loop-name.name (get_or c.loop-name.next.items p 0)
          ∙ c.loop-name.invariant.0,
      subst (λ ns. Links (λ (v : ℕ). get_or ns v 0) (line (parent_in c.args.parents.now) r (c.loop-name.name + 1)))
          (sym c.link.ensures)
          (line-links c.loop-name.next.items c.args.parents.now c.loop-name.name c.requires.tree c.loop-name-test.true
          c.loop-name.invariant.0 c.loop-name.invariant.1),
    )

pub returns : goal.returns
returns c =
    let last : c.loop-name.name ≡ length c.args.parents.now =
    omega (arith, c.loop-name-test.false, c.loop-name.auto.name-end) in
    record {
      count = c.loop-name.invariant.0;
      links = subst (λ n. Links (λ (v : ℕ). get_or c.loop-name.next.items v 0)
          (line (parent_in c.args.parents.now) (length c.args.parents.now) n)) last c.loop-name.invariant.1;
    }
