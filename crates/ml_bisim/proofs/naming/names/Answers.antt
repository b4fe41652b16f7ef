use Rattle.std.proofs.Common.{ℕ, ◌≡◌, ◌+◌, ◌<◌, ◌∙◌, List, [], ◌∷◌, ◌++◌, ap, get_or, length, refl, subst, sym, arith}
use Rattle.std.proofs.lemmas.List.{get_or_default, length-map, length_push}
use Rattle.std.specs.Global.{Vec}
use Rattle.ml_bisim.specs.Quotient.{class_of}
use Rattle.ml_bisim.proofs.PartNames.{Named, NamedSo, class_added, kept_name, named_none, named_old, new_name}
use Rattle.ml_bisim.proofs.naming.names.Goals as goal
use Rattle.ml_bisim.proofs.naming.names.Goals.{then-part-len+then-index-part+in_ok-push, then-part-len+else-index-part+in_ok-push-2+in_ok-push-3+in_ok-push-4, else-part-len}

as_named : (class states ns : List ℕ) (count old : ℕ) (keeper : List ℕ) (i : ℕ) {j : ℕ} {names : List ℕ}
    (members more : Vec (Vec ℕ)) (new_keeper more_keepers : Vec ℕ) (more_names : Vec ℕ)
    → more ≡ members
    → more_keepers ≡ new_keeper
    → NamedSo class states ns count old keeper j members.items new_keeper.items names
    → Named class states ns keeper count old i (length members.items) more_names.items
    → NamedSo class states ns count old keeper i more.items more_keepers.items more_names.items
as_named class states ns count old keeper i members more new_keeper more_keepers more_names same_members same_keepers
    is named =
    subst (λ (v : Vec (Vec ℕ)). NamedSo class states ns count old keeper i v.items more_keepers.items more_names.items)
    (sym same_members)
    (subst (λ (v : Vec ℕ). NamedSo class states ns count old keeper i members.items v.items more_names.items)
    (sym same_keepers)
    (record { has_members = is.has_members; keepers = is.keepers; as_before = is.as_before; named = named }))

pub loop-i-init : goal.loop-i-init
loop-i-init c = record {
  has_members = c.requires.members;
  keepers = c.requires.keepers;
  as_before = λ d low. refl;
  named = named_none c.args.class.now c.args.states.now c.args.parts.now.numbers.items c.args.keeper.now.items
      c.args.parts.now.count (length c.args.members.now.items) c.in_ok-names.names.items c.in_ok-names.ensures.items
      c.requires.in_turn;
}

pub loop-i-preserved : goal.loop-i-preserved
loop-i-preserved c =
    let class = c.args.class.now in
    let states = c.args.states.now in
    let ns = c.args.parts.now.numbers.items in
    let count = c.args.parts.now.count in
    let old = length c.args.members.now.items in
    let keeper = c.args.keeper.now.items in
    let i = c.loop-i.i in
    let members = c.loop-i.members.items in
    let names = c.loop-i.names.items in
    let cur = length members in
    let of = class_of class (get_or states i 0) in
    let before = c.loop-i.invariant in
    let low = c.loop-i-test.true in
    let state_low = c.requires.in_range i 0 low in
    let rows_long = length-map c.args.members.now.items (λ (v : Vec ℕ). v.items) in
    let under = c.requires.members.classes (get_or states i 0) state_low in
    let class_low : of < old = omega (arith, under, rows_long) in
    let number = c.index-part.ensures
    ∙ get_or_default ns i c.index-part.result.now 0 (omega (arith, low, c.requires.each_state)) in
    let long : c.len.result ≡ length names = omega (arith, c.len.ensures, c.loop-i.names.ok.0) in
    let next = i + 1 in
    elim c.if-part-len.branch [
      | then-part-len+then-index-part+in_ok-push w ↦
          let met = sym number ∙ w.if-part-len.true ∙ long in
          let inside : of < length c.loop-i.keeper.items =
          omega (arith, class_low, before.keepers, before.named.grown) in
          let keeps = sym (before.as_before of (omega (arith, class_low, c.requires.keepers)))
          ∙ sym (w.index.ensures ∙ get_or_default c.loop-i.keeper.items of w.index.result.now 0 inside)
          ∙ w.if-index-part.true ∙ number in
          as_named class states ns count old keeper next c.loop-i.members c.if-part-len.members c.loop-i.keeper
          c.if-part-len.keeper c.if-part-len.names w.members-is w.keeper-is before
          (kept_name class states ns keeper count old c.requires.each_state c.requires.one_class i cur names
          before.named low
          c.if-part-len.names.items met class_low keeps
          (ap (λ (v : Vec ℕ). v.items) w.names-is ∙ w.in_ok-push.ensures.items))
      | then-part-len+else-index-part+in_ok-push-2+in_ok-push-3+in_ok-push-4 w ↦
          let met = sym number ∙ w.if-part-len.true ∙ long in
          let inside : of < length c.loop-i.keeper.items =
          omega (arith, class_low, before.keepers, before.named.grown) in
          let read = w.index.ensures ∙ get_or_default c.loop-i.keeper.items of w.index.result.now 0 inside in
          let kept = before.as_before of (omega (arith, class_low, c.requires.keepers)) in
          let here : w.len-else-index-part.result ≡ cur =
          omega (arith, w.len-else-index-part.ensures, c.loop-i.members.ok.0) in
          let members_are = ap (λ (v : Vec (Vec ℕ)). v.items) w.members-is ∙ w.in_ok-push-3.ensures.items in
          let grown : length c.if-part-len.members.items ≡ cur + 1 =
          ap length members_are ∙ length_push members w.new.result in
          class_added class states ns count old keeper i next members c.if-part-len.members.items c.loop-i.keeper.items
          c.if-part-len.keeper.items names c.if-part-len.names.items w.new.result 0 before w.new.ensures.items members_are
          (ap (λ (v : Vec ℕ). v.items) w.keeper-is ∙ w.in_ok-push-4.ensures.items) c.requires.keepers
          (new_name class states ns keeper count old c.requires.each_state c.requires.one_class i cur names before.named low
          c.if-part-len.names.items (length c.if-part-len.members.items) met
          (λ e. w.if-index-part.false (read ∙ kept ∙ e ∙ sym number))
          (ap (λ (v : Vec ℕ). v.items) w.names-is ∙ w.in_ok-push-2.ensures.items ∙ ap (λ k. names ++ k ∷ []) here) grown)
      | else-part-len w ↦
          subst (λ (v : Vec ℕ). NamedSo class states ns count old keeper next c.if-part-len.members.items
          c.if-part-len.keeper.items v.items) (sym w.names-is)
          (as_named class states ns count old keeper next c.loop-i.members c.if-part-len.members c.loop-i.keeper
          c.if-part-len.keeper c.loop-i.names w.members-is w.keeper-is before
          (named_old class states ns keeper count old c.requires.each_state c.requires.one_class i cur names
          before.named low
          (λ e. w.if-part-len.false (number ∙ e ∙ sym long))))
    ]
