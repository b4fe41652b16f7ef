use Rattle.std.proofs.Common.{ℕ, ◌≡◌, ◌<◌, ◌∙◌, ap, inr, length, sym, arith}
use Rattle.std.proofs.lemmas.List.{length-map}
use Rattle.std.specs.Global.{Vec}
use Rattle.ml_bisim.specs.Quotient.{class_of}
use Rattle.ml_bisim.specs.private.Rounds.{rows}
use Rattle.ml_bisim.proofs.Entering.{alone_among}
use Rattle.ml_bisim.proofs.MemberLists.{row_is}
use Rattle.ml_bisim.proofs.rounds.loosen.Goals as goal

pub returns-then-len-eq1-clause-loose : goal.returns-then-len-eq1-clause-loose
returns-then-len-eq1-clause-loose c =
    let class = c.args.class.now in
    let members = c.args.members.now in
    let of = class_of class c.args.state in
    let v = c.index-members-class.result in
    let under = c.requires.members.classes c.args.state c.requires.in_range in
    let low : of < length members = omega (arith, under, length-map members (λ (v : Vec ℕ). v.items)) in
    let row = row_is class (length class) members c.requires.members of low v in
    let same : length v.items ≡ 1 = omega (arith, c.if-len-eq1.true, c.len.ensures, v.ok.0) in
    let one = ap length row ∙ ap (λ (u : Vec ℕ). length u.items) (sym c.index-members-class.is) ∙ same in
    inr (alone_among class (length class) (rows members) c.args.state c.requires.members c.requires.in_range one)
