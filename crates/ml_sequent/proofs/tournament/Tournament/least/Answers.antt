-- The first match is won by the least number; where there is no room, there is none.
use Rattle.std.proofs.Common.{◌≡◌, ◌<◌, None, length, get_or, sym, ◌∙◌, subst, arith}
use Rattle.std.proofs.lemmas.List.{get_or_default}
use Rattle.ml_sequent.specs.private.ConnectedParts.{IsLeast}
use Rattle.ml_sequent.specs.private.Tournament.{TournamentList, Holds}
use Rattle.ml_sequent.proofs.Tournaments.{top_least}
use Rattle.ml_sequent.proofs.tournament.Tournament.least.Goals as goal

pub returns : goal.returns
returns c =
    let slots = c.self.inside.slots.items in
    let some : 0 < c.self.inside.room = let none = c.if-self-eq0.false in omega arith in
    let long : 1 < length slots = omega (arith, c.self.invariant.slotted.long) in
    let read : get_or slots 1 None ≡ c.index.result.now = get_or_default slots 1 None c.index.result.now long ∙ sym
    c.index.ensures in
    subst (λ (t : TournamentList). IsLeast (Holds t) c.index.result.now) c.self.view_is
    (subst (IsLeast (Holds (record { room = c.self.inside.room; slots = slots }))) read
    (top_least c.self.inside.room slots c.self.invariant some))
