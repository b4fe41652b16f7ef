use Rattle.std.proofs.Common.{ℕ, ◌≡◌, ◌+◌, ◌<◌, ◌∙◌, ◌++◌, Bool, List, ap, drop, get_or, length, subst, sym, take, arith}
use Rattle.std.proofs.Math.Seq.{take-append_seam}
use Rattle.ml_bisim.specs.private.Rounds.{AreListed, IsCutOff, IsSettled}
use Rattle.ml_bisim.proofs.Entering.{cut_off_more}
use Rattle.ml_bisim.proofs.rounds.unsettle.Goals as goal

-- what was written through a slice of a vector
as_written : (k : ℕ) (new ys : List Bool) → k ≡ length new → take k (new ++ ys) ≡ new
as_written k new ys all = ap (λ n. take n (new ++ ys)) all ∙ take-append_seam new ys

pub loop-state-preserved : goal.loop-state-preserved
loop-state-preserved c =
    let m = c.args.structure.now in
    let renamed = c.args.renamed.now in
    let i = c.loop-state.state-index in
    let before = c.loop-state.invariant in
    let p = c.loop-state.partition in
    let flags = c.unsettle_before.new.is_settled in
    let states = c.unsettle_before.new.unsettled.items in
    let is = as_written p.is_settled.len flags (drop (length flags) p.is_settled.items)
    (omega (arith, c.in_ok-unsettle_before.ensures.flags, before.flags, p.is_settled.ok.0)) in
    let fewer = subst (λ old. (s : ℕ) → IsSettled flags s → IsSettled old s) c.deref_mut.ensures.value
    c.in_ok-unsettle_before.ensures.fewer in
    let here = subst (λ cl. IsCutOff m.edges cl m.states flags (get_or renamed i 0)) c.deref.ensures.value
    c.in_ok-unsettle_before.ensures.cut_off in
    record {
      class = before.class;
      members = before.members;
      keepers = before.keepers;
      flags = ap length is ∙ c.in_ok-unsettle_before.ensures.flags;
      in_range = c.in_ok-unsettle_before.ensures.states;
      listed = subst (λ fs. AreListed fs m.states states) (sym is) c.in_ok-unsettle_before.ensures.listed;
      cut_off =
          subst (λ fs. (j : ℕ) → j < i + 1 → IsCutOff m.edges p.class.items m.states fs (get_or renamed j 0)) (sym is)
          (cut_off_more m.edges p.class.items m.states p.is_settled.items flags renamed i fewer before.cut_off here);
      none = λ empty. absurd (omega (arith, empty, c.loop-state-test.true));
    }
