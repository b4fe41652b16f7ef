use Rattle.std.proofs.Common.{rules, ℕ, ◌≡◌, ◌<◌, ◌+◌, ◌-◌, ◌∙◌, ◌*◌, ◌^◌, length, get_or, ap, sym, arith}
use Rattle.std.proofs.Math.ListN.{set, length-set}
use Rattle.ml_history.specs.private.Line.{line, parent_in}
use Rattle.ml_history.proofs.arrays.NameLine.{links-at, line-head, names_line-length, names_line-low, names_line-within, places_next}
use Rattle.ml_history.proofs.flat.places.places_along.Goals as goal

pub loop-k-init : goal.loop-k-init
loop-k-init c = (
  omega (arith, c.in_ok-places.ensures.len, c.in_ok-places.places.ok.0),
  sym (line-head (parent_in c.args.parents.now) (length c.args.parents.now) (length c.args.parents.now)),
  λ j low. absurd (omega arith),
)

pub offset_bounds-next-name : goal.offset_bounds-next-name
offset_bounds-next-name c =
    let within = names_line-within c.args.parents.now c.requires.tree c.loop-k.k (omega (arith, c.loop-k-test.true)) in
    let small : c.loop-k.name * 4 < 2 ^ 64 = omega (arith, within, c.loop-k.invariant.1, c.requires.few) in
    search (rules, small)

pub bounds-next-name : goal.bounds-next-name
bounds-next-name c =
    let within = names_line-within c.args.parents.now c.requires.tree c.loop-k.k (omega (arith, c.loop-k-test.true)) in
    omega (arith, within, c.loop-k.invariant.1, c.requires.links.count)

pub index_mut-requires : goal.index_mut-requires
index_mut-requires c =
    let parents = c.args.parents.now in
    let names = line (parent_in parents) (length parents) (length parents) in
    let long = names_line-length parents c.requires.tree in
    let next = ap (λ n. get_or c.args.next.now n 0) c.loop-k.invariant.1 in
    let is : get_or c.args.next.now c.loop-k.name 0 ≡ get_or names (c.loop-k.k + 1) 0 = next
    ∙ links-at (λ (v : ℕ). get_or c.args.next.now v 0) names c.loop-k.k c.requires.links.links
    (omega (arith, c.loop-k-test.true)) in
    let low = names_line-low parents c.requires.tree c.loop-k.k c.loop-k-test.true in
    omega (arith, is, low, c.loop-k.invariant.0, c.loop-k.places.ok.0)

pub loop-k-preserved : goal.loop-k-preserved
loop-k-preserved c =
    let parents = c.args.parents.now in
    let names = line (parent_in parents) (length parents) (length parents) in
    let value = length parents - 1 - c.loop-k.k in
    let long = names_line-length parents c.requires.tree in
    let next = ap (λ n. get_or c.args.next.now n 0) c.loop-k.invariant.1 in
    let is : get_or c.args.next.now c.loop-k.name 0 ≡ get_or names (c.loop-k.k + 1) 0 = next
    ∙ links-at (λ (v : ℕ). get_or c.args.next.now v 0) names c.loop-k.k c.requires.links.links
    (omega (arith, c.loop-k-test.true)) in (
      length-set c.loop-k.places.items (get_or c.args.next.now c.loop-k.name 0) value ∙ c.loop-k.invariant.0,
      is,
      λ j low. ap (λ n. get_or (set c.loop-k.places.items n value) (get_or names (j + 1) 0) 0) is
          ∙ places_next parents c.requires.tree c.loop-k.places.items c.loop-k.k c.loop-k-test.true c.loop-k.invariant.0
          c.loop-k.invariant.2 j low,
    )

pub returns : goal.returns
returns c =
    let last : c.loop-k.k ≡ length c.args.parents.now = omega (arith, c.loop-k-test.false, c.loop-k.auto.k-end) in
    record { count = c.loop-k.invariant.0; fall = λ k low. c.loop-k.invariant.2 k (omega arith) }
