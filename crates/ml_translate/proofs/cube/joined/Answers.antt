use Rattle.std.proofs.Common.{◌<◌, List, false, length, get_or, sym, ◌∙◌, subst, arith}
use Rattle.ml_lists.specs.Member.{IsMember}
use Rattle.ml_lists.proofs.Member.{place-member}
use Rattle.ml_labelled.specs.declared.labelled.Literal.{Literal}
use Rattle.ml_translate.specs.Places.{IsJoined}
use Rattle.ml_translate.proofs.Cubes.{joined_known, joined_new, new_at, not_joined, one_of_both, other_sign, same_sign}
use Rattle.ml_translate.proofs.cube.joined.Goals as goal

abbrev none : Literal
none = record { prop = 0; positive = false }

pub returns-then-at-cube : goal.returns-then-at-cube
returns-then-at-cube c =
    let cube = c.args.cube.now in
    let at = c.split-at.result in
    subst (λ (d : List Literal). IsJoined cube c.args.literal d) (sym c.in_ok-inserted.ensures)
    (joined_new cube at c.args.literal c.requires c.split-at.ensures (λ d low. absurd (omega arith)))

pub returns-then-known-literal : goal.returns-then-known-literal
returns-then-known-literal c =
    let cube = c.args.cube.now in
    let at = c.split-at.result in
    let within = c.split-at.ensures.within in
    let low : at < length cube = omega arith in
    subst (λ (d : List Literal). IsJoined cube c.args.literal d) (sym c.in_ok-inserted-2.ensures)
    (joined_new cube at c.args.literal c.requires c.split-at.ensures
    (new_at cube at c.args.literal none low c.if-known-literal.true))

pub returns-then-known-literal-2 : goal.returns-then-known-literal-2
returns-then-known-literal-2 c = λ d j.
    let cube = c.args.cube.now in
    let at = c.split-at.result in
    let within = c.split-at.ensures.within in
    let low : at < length cube = omega arith in
    let known = get_or cube at none in
    not_joined cube d c.args.literal known (place-member cube at none low) c.if-known-literal.false
    (other_sign known.positive c.args.literal.positive c.if-known-literal-2.true) j

pub returns : goal.returns
returns c =
    let cube = c.args.cube.now in
    let at = c.split-at.result in
    let within = c.split-at.ensures.within in
    let low : at < length cube = omega arith in
    let known = get_or cube at none in
    let same = same_sign known.positive c.args.literal.positive c.if-known-literal-2.false in
    subst (λ (d : List Literal). IsJoined cube c.args.literal d) (sym (c.of.ensures ∙ c.in_ok-from_slice.ensures.items))
    (joined_known cube c.args.literal c.requires
    (subst (λ (n : Literal). IsMember n cube) (one_of_both c.args.literal known c.if-known-literal.false same)
    (place-member cube at none low)))
