use Rattle.std.proofs.Common.{ℕ, ◌≡◌, ◌<◌, ◌∙◌, List, ◌++◌, Result, Ok, Err, IfOk, ap, get_or, length, subst, take, arith}
use Rattle.std.proofs.lemmas.List.{length-map}
use Rattle.std.proofs.Math.Seq.{take-append_seam}
use Rattle.std.specs.Global.{Vec}
use Rattle.ml_base.specs.Structure.{Structure}
use Rattle.ml_bisim.specs.declared.partition.Partition.{Partition}
use Rattle.ml_bisim.specs.private.Rounds.{AreChosen, AreRenamed, HasMembers, IsCut, IsRefined, IsSplit, rows}
use Rattle.ml_bisim.proofs.Splits.{split_is}
use Rattle.ml_bisim.proofs.rounds.split.Goals as goal

-- the partition whose members these are is cut
split_where_ok : {E : Type 0} (m : Structure) (p : Partition) (v : Vec (Vec ℕ)) (q : Partition)
    (unsettled states lent : List ℕ) (first : ℕ) (members : List (Vec ℕ))
    → IsRefined m p unsettled
    → first ≡ length unsettled
    → AreChosen p.class.items p.is_settled.items (length p.class.items) (length unsettled) states
    → ((i : ℕ) → i < length unsettled → get_or states i 0 ≡ get_or unsettled i 0)
    → HasMembers p.class.items (length p.class.items) (rows members)
    → lent ≡ states
    → (r : Result (Vec ℕ) E)
    → IfOk r (λ renamed. IsCut m (record { class = p.class; members = v; keeper = p.keeper; is_settled = p.is_settled }) lent
    first q renamed.items)
    → length v.items ≡ length members
    → IfOk r (λ renamed. IsSplit m p.class.items q renamed.items)
split_where_ok m p v q unsettled states lent first members is e chosen front has same (Err x) cut long = tt
split_where_ok m p v q unsettled states lent first members is e chosen front has same (Ok renamed) cut long =
    let made : Partition = record { class = p.class; members = v; keeper = p.keeper; is_settled = p.is_settled } in
    let n = is.part.each_state in
    let x = subst (λ k. IsCut m made states k q renamed.items) e (subst (λ xs. IsCut m made xs first q renamed.items) same cut) in
    split_is m p q unsettled states x.ns x.keeper x.names renamed.items x.count (length v.items) x.new is
    (subst (λ k. AreChosen p.class.items p.is_settled.items k (length unsettled) states) n chosen) front x.parts x.kept x.named
    (λ s low. let under = has.classes s (omega (arith, low, n)) in
    let all = length-map members (λ (w : Vec ℕ). w.items) in
    omega (arith, under, all, long))
    (subst (λ k. AreRenamed p.class.items states x.ns x.names (length unsettled) k q.class.items renamed.items) n x.are_renamed)
    x.set
    (subst (λ k. HasMembers q.class.items k (rows q.members.items)) n x.members) x.keepers

-- what was written through a slice of a vector
written : (k : ℕ) (xs ys : List (Vec ℕ)) → k ≡ length xs → length (take k (xs ++ ys)) ≡ length xs
written k xs ys all = ap (λ n. length (take n (xs ++ ys))) all ∙ ap length (take-append_seam xs ys)

pub returns : goal.returns
returns c =
    let p = c.args.partition.now in
    let flags = p.is_settled.items in
    let states = c.in_ok-states.states.items in
    let unsettled = c.args.unsettled.items in
    let here : c.len-first.result ≡ length unsettled = omega (arith, c.len-first.ensures, c.args.unsettled.ok.0) in
    let chosen =
    subst (λ cl. AreChosen cl flags (length cl) (length unsettled) states) c.deref.ensures.value
    (subst (λ fl. AreChosen c.deref.result.now fl (length c.deref.result.now) (length unsettled) states)
    c.deref-2.ensures.value
    c.in_ok-states.ensures.chosen) in
    let has = subst (λ cl. HasMembers cl (length cl) (rows c.chosen.new.members)) c.deref.ensures.value
    c.in_ok-states.ensures.members in
    split_where_ok c.args.structure.now p _ c.cut.new.partition unsettled states c.deref-3.result.now c.len-first.result
    c.chosen.new.members c.requires.refined here chosen c.in_ok-states.ensures.listed has c.deref-3.ensures.value c.cut.result
    c.cut.ensures
    (written p.members.len c.chosen.new.members _ (omega (arith, c.in_ok-states.ensures.each_class, c.deref_mut.ensures.len)))
