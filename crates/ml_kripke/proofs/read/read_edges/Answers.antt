use Rattle.std.proofs.Common.{◌≡◌, ◌+◌, ◌-◌, length, slice_get, None, ap, sym, subst, ◌∙◌, arith}
use Rattle.std.proofs.lemmas.Result.{IfErr-weaker}
use Rattle.ml_lines.specs.Reading.{lines_of, words_of}
use Rattle.ml_kripke.specs.BodyRules.{AtEdge, AtNothing}
use Rattle.ml_kripke.specs.private.BodyParts.{IsEdgeLine}
use Rattle.ml_kripke.specs.private.Refusals.{TellsRule, TellsFault}
use Rattle.ml_lists.proofs.Chains.{last_is}
use Rattle.ml_kripke.proofs.BodyReads.{AreEdgesTo, edge_read}
use Rattle.ml_kripke.proofs.BodyFaults.{edge_refused, edge_missing, end_refused}
use Rattle.ml_kripke.proofs.read.read_edges.Goals as goal

pub returns-in-Ok-None-clause-refused : goal.returns-in-Ok-None-clause-refused
returns-in-Ok-None-clause-refused c =
    let edges = c.loop-words.edges.items in
    let at = c.args.line + c.len.result in
    let at_is : at ≡ c.args.line + length edges = omega (arith, c.len.ensures, c.deref.ensures.len, ap length c.deref.ensures.value) in
    let is_end = rw c.in-Ok-None.field-0-is at c.in-Ok-None.ensures.read in
    let behind = c.in-Some.behind.now in
    IfErr-weaker c.ended.result (TellsFault AtNothing (at + 1) behind) (TellsFault (AtEdge c.args.states None) c.args.line c.args.text.now)
    (λ told tells.
    end_refused c.args.states c.args.line told c.ranges.states.fits at c.args.text.now c.loop-words.rest.now edges at_is c.loop-words.invariant
    behind (words_of c.in-Some.words.now) c.in-Some.ensures.lines c.in-Some.ensures.left c.in-Some.ensures.shorter is_end tells)
    c.ended.ensures.refused

pub returns-in-Err-clause-refused : goal.returns-in-Err-clause-refused
returns-in-Err-clause-refused c =
    let edges = c.loop-words.edges.items in
    let at_is : c.args.line + c.len.result ≡ c.args.line + length edges =
    omega (arith, c.len.ensures, c.deref.ensures.len, ap length c.deref.ensures.value) in
    let last = c.last.ensures.value ∙ ap (λ es. slice_get es (length es - 1)) c.deref.ensures.value ∙ sym (last_is edges) in
    let words = words_of c.in-Some.words.now in
    edge_refused c.args.states c.args.line c.at_line.result c.ranges.states.fits (c.args.line + c.len.result) c.args.text.now
    c.loop-words.rest.now edges at_is c.loop-words.invariant words (lines_of c.in-Some.behind.now) c.in-Err.refusal c.in-Some.ensures.lines
    (subst (λ before. TellsRule (AtEdge c.args.states before) words c.in-Err.refusal) last c.in-Err.ensures.refused) c.at_line.ensures

pub loop-words-preserved : goal.loop-words-preserved
loop-words-preserved c =
    let edges = c.loop-words.edges.items in
    let last = c.last.ensures.value ∙ ap (λ es. slice_get es (length es - 1)) c.deref.ensures.value ∙ sym (last_is edges) in
    let words = words_of c.in-Some.words.now in
    let is_edge = rw c.in-Ok-Some.field-0-is at c.in-Ok-Some.ensures.read in
    let read =
    edge_read c.args.states c.args.text.now edges c.loop-words.rest.now c.in-Some.behind.now words c.in-Ok-Some.edge
    c.loop-words.invariant c.in-Some.ensures.lines c.in-Some.ensures.left c.in-Some.ensures.shorter
    (subst (λ before. IsEdgeLine words c.args.states before c.in-Ok-Some.edge) last is_edge) in
    subst (λ es. AreEdgesTo c.args.states c.args.text.now es c.in-Some.behind.now) (sym c.in_ok-push-in-Ok-Some.ensures.items) read

pub returns-in-None-clause-refused : goal.returns-in-None-clause-refused
returns-in-None-clause-refused c =
    let edges = c.loop-words.edges.items in
    let at_is : c.args.line + c.len.result ≡ c.args.line + length edges = omega (arith, c.len.ensures) in
    edge_missing c.args.states c.args.line c.fault.result c.ranges.states.fits (c.args.line + c.len.result) c.args.text.now
    c.loop-words.rest.now edges at_is c.loop-words.invariant c.in-None.ensures.lines c.fault.ensures
