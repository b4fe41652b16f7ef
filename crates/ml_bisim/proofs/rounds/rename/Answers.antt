use Rattle.std.proofs.Common.{ℕ, ◌+◌, ◌<◌, ◌∙◌, ap, get_or, length, refl, subst, sym, arith}
use Rattle.std.proofs.lemmas.List.{get_or_default}
use Rattle.std.specs.Global.{Vec}
use Rattle.ml_bisim.proofs.Renaming.{RenamedSo, named_already, named_now, renamed_none, set_none}
use Rattle.ml_bisim.proofs.rounds.rename.Goals as goal
use Rattle.ml_bisim.proofs.rounds.rename.Goals.{then-index-name+in_ok-push+in_ok-push-2, else-index-name}

pub loop-i-init : goal.loop-i-init
loop-i-init c =
    let p = c.args.partition.now in
    let n = length p.class.items in
    record {
      members = c.requires.members;
      each_class = refl;
      keepers = refl;
      flags = set_none p.is_settled.items c.args.states.now;
      names_are = renamed_none p.class.items c.args.states.now c.args.numbers.now c.args.names.now n
          c.new-renamed.result.items c.new-renamed.ensures.items;
    }

pub loop-i-preserved : goal.loop-i-preserved
loop-i-preserved c =
    let old = c.args.partition.now in
    let states = c.args.states.now in
    let ns = c.args.numbers.now in
    let names = c.args.names.now in
    let i = c.loop-i.i in
    let s = get_or states i 0 in
    let p = c.loop-i.partition in
    let inside : i < length states = omega (arith, c.loop-i-test.true, c.requires.before) in
    let low = c.requires.in_range i 0 inside in
    let within : s < length p.class.items = omega (arith, low, c.loop-i.invariant.names_are.each_state) in
    let read = c.index.ensures ∙ get_or_default p.class.items s c.index.result.now 0 within in
    elim c.if-index-name.branch [
      | then-index-name+in_ok-push+in_ok-push-2 w ↦
          named_now old states ns names i s p c.if-index-name.partition c.loop-i.renamed.items c.loop-i.invariant refl low
          c.requires.flags w.index_mut-then-index-name-2.result.now w.push.new.self c.if-index-name.renamed.items
          w.partition-is (c.requires.names i inside) (λ e. w.if-index-name.true (read ∙ e))
          (λ j j_low e. c.requires.one_part j i (omega (arith, j_low, inside)) inside e)
          w.index_mut-then-index-name-2.ensures.value w.in_ok-push.ensures.items
          (ap (λ (v : Vec ℕ). v.items) w.renamed-is ∙ w.in_ok-push-2.ensures.items)
      | else-index-name w ↦
          subst (λ (v : Vec ℕ). RenamedSo old states ns names (i + 1) c.if-index-name.partition v.items) (sym w.renamed-is)
          (named_already old states ns names i s p c.if-index-name.partition c.loop-i.renamed.items
          c.loop-i.invariant refl low
          c.requires.flags w.partition-is (sym read ∙ w.if-index-name.false))
    ]
