use Rattle.std.proofs.Common.{ℕ, ◌≡◌, ◌+◌, ◌<◌, ◌∙◌, ◌↔◌, List, All, Contains, ap, get_or, length, map, refl, rules, subst, sym, arith}
use Rattle.std.proofs.lemmas.List.{length-map, length-set}
use Rattle.std.specs.Global.{Vec}
use Rattle.ml_bisim.specs.Quotient.{class_of}
use Rattle.ml_bisim.specs.private.Rounds.{HasMembers, rows}
use Rattle.ml_bisim.proofs.ChosenStates.{Choosing, are_chosen, choosing_one, choosing_other, class_listed}
use Rattle.ml_bisim.proofs.MemberLists.{row_has, row_low, row_pruned}
use Rattle.ml_bisim.proofs.choice.chosen.Goals as goal
use Rattle.ml_bisim.proofs.choice.chosen.Goals.{in-Some+in_ok-push, in_default}

same_list : (states lent classes items class : List ℕ)
    → lent ≡ states
    → items ≡ classes
    → ((d : ℕ) → Contains classes d ↔ Contains (map (class_of class) lent) d)
    → (d : ℕ)
    → Contains items d ↔ Contains (map (class_of class) states) d
same_list states lent classes items class same_states same_classes same d =
    subst (λ xs. Contains items d ↔ Contains (map (class_of class) xs) d) same_states
    (subst (λ xs. Contains xs d ↔ Contains (map (class_of class) lent) d) (sym same_classes) (same d))

-- each of the classes has a list of members
of_low : (class : List ℕ) (members : List (Vec ℕ)) (states lent classes items : List ℕ)
    → HasMembers class (length class) (rows members)
    → All (λ s. s < length class) states
    → lent ≡ states
    → items ≡ classes
    → ((d : ℕ) → Contains classes d ↔ Contains (map (class_of class) lent) d)
    → (i : ℕ)
    → i < length items
    → get_or items i 0 < length members
of_low class members states lent classes items has low same_states same_classes same i i_low =
    let listed = same_list states lent classes items class same_states same_classes same in
    let below = class_listed class (length class) (rows members) states items has low listed i i_low in
    omega (arith, below, length-map members (λ (v : Vec ℕ). v.items))

pub bounds-members-of : goal.bounds-members-of
bounds-members-of c =
    of_low c.args.class.now c.loop-of.members c.args.states.items c.deref.result.now c.in_ok-classes.classes.items
    c.as_slice-of-items.result.now c.loop-of.invariant.0 c.requires.in_range c.deref.ensures.value
    c.as_slice-of-items.ensures.value c.in_ok-classes.ensures c.loop-of.of-index c.loop-of-test.true

pub offset_bounds-members-of : goal.offset_bounds-members-of
offset_bounds-members-of c =
    let low =
    of_low c.args.class.now c.loop-of.members c.args.states.items c.deref.result.now c.in_ok-classes.classes.items
    c.as_slice-of-items.result.now c.loop-of.invariant.0 c.requires.in_range c.deref.ensures.value
    c.as_slice-of-items.ensures.value c.in_ok-classes.ensures c.loop-of.of-index c.loop-of-test.true in
    search (rules, low)

pub settled_in-requires-clause-in_range : goal.settled_in-requires-clause-in_range
settled_in-requires-clause-in_range c =
    row_low c.args.class.now (length c.args.class.now) c.loop-of.members c.loop-of.invariant.0
    (get_or c.as_slice-of-items.result.now c.loop-of.of-index 0)
    (of_low c.args.class.now c.loop-of.members c.args.states.items c.deref.result.now c.in_ok-classes.classes.items
    c.as_slice-of-items.result.now c.loop-of.invariant.0 c.requires.in_range c.deref.ensures.value
    c.as_slice-of-items.ensures.value c.in_ok-classes.ensures c.loop-of.of-index c.loop-of-test.true)
    c.index-members-of.result

pub returns-in_err-push-clause-members : goal.returns-in_err-push-clause-members
returns-in_err-push-clause-members c =
    row_pruned c.args.class.now (length c.args.class.now) c.loop-of.members c.loop-of.invariant.0
    (get_or c.as_slice-of-items.result.now c.loop-of.of-index 0)
    (of_low c.args.class.now c.loop-of.members c.args.states.items c.deref.result.now c.in_ok-classes.classes.items
    c.as_slice-of-items.result.now c.loop-of.invariant.0 c.requires.in_range c.deref.ensures.value
    c.as_slice-of-items.ensures.value c.in_ok-classes.ensures c.loop-of.of-index c.loop-of-test.true)
    c.index-members-of.result c.settled_in.new.members
    c.settled_in.ensures.in_range c.settled_in.ensures.kept

pub loop-of-preserved : goal.loop-of-preserved
loop-of-preserved c =
    let class = c.args.class.now in
    let n = length class in
    let flags = c.args.is_settled.now in
    let states = c.args.states.items in
    let classes = c.as_slice-of-items.result.now in
    let i = c.loop-of.of-index in
    let of = get_or classes i 0 in
    let low =
    of_low class c.loop-of.members states c.deref.result.now c.in_ok-classes.classes.items classes c.loop-of.invariant.0
    c.requires.in_range c.deref.ensures.value c.as_slice-of-items.ensures.value c.in_ok-classes.ensures i
    c.loop-of-test.true in
    let chosen : Choosing class flags n states classes (i + 1) c.match-settled_in.chosen.items =
    elim c.match-settled_in.branch [
      | in-Some+in_ok-push w ↦
          choosing_one class flags n states classes i c.loop-of.chosen.items c.match-settled_in.chosen.items of
          w.in-Some.state c.loop-of.invariant.2 refl w.in-Some.ensures.some.0 w.in-Some.ensures.some.1
          w.in-Some.ensures.some.2 (ap (λ (v : Vec ℕ). v.items) w.chosen-is ∙ w.in_ok-push.ensures.items)
      | in_default w ↦
          subst (λ (v : Vec ℕ). Choosing class flags n states classes (i + 1) v.items) (sym w.chosen-is)
          (choosing_other class flags n states classes i c.loop-of.chosen.items of c.loop-of.invariant.2 refl
          (λ t t_low e. w.in_default.ensures.none t e
          (row_has class n c.loop-of.members c.loop-of.invariant.0 of low c.index-members-of.result t t_low e)))
    ] in (
      row_pruned class n c.loop-of.members c.loop-of.invariant.0 of low c.index-members-of.result c.settled_in.new.members
          c.settled_in.ensures.in_range c.settled_in.ensures.kept,
      length-set c.loop-of.members of c.settled_in.new.members ∙ c.loop-of.invariant.1,
      chosen,
    )

pub returns-clause-chosen : goal.returns-clause-chosen
returns-clause-chosen c =
    let class = c.args.class.now in
    let items = c.as_slice-of-items.result.now in
    let all : c.loop-of.of-index ≡ length items = omega (arith, c.loop-of-test.false, c.loop-of.auto.of-index-end) in
    are_chosen class c.args.is_settled.now (length class) c.args.states.items items c.loop-of.of-index
    c.loop-of.chosen.items c.loop-of.invariant.2 all
    (same_list c.args.states.items c.deref.result.now c.in_ok-classes.classes.items items class c.deref.ensures.value
    c.as_slice-of-items.ensures.value c.in_ok-classes.ensures)
