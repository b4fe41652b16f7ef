use Rattle.std.proofs.Common.{◌≡◌, None, length, sym, subst, arith}
use Rattle.ml_base.specs.Structure.{Structure}
use Rattle.ml_kripke.specs.Built.{IsBuiltFrom, first_bad_state}
use Rattle.ml_extract.specs.Extraction.{Extracted}
use Rattle.ml_extract.specs.Model.{IsModelOf}
use Rattle.ml_extract.proofs.GatheredParts.{is_model}
use Rattle.ml_extract.proofs.Loops.{models_hold}
use Rattle.ml_extract.proofs.StateParts.{numbered_few, same_lengths, some_state, all_in_range}
use Rattle.ml_extract.proofs.making.model_of.Goals as goal

pub overflow_cast-len : goal.overflow_cast-len
overflow_cast-len c =
    let g = c.args.graph.now in
    let a = c.args.arena.now in
    let s = c.args.solution.now in
    let fs = c.in_ok-states.states.firsts.keys in
    let ls = c.in_ok-states.states.lasts.items in
    let few = numbered_few g a s fs ls c.in_ok-states.ensures in
    let same = same_lengths g a s fs ls c.in_ok-states.ensures in
    omega arith

pub structure_of-requires-clause-some : goal.structure_of-requires-clause-some
structure_of-requires-clause-some c =
    let g = c.args.graph.now in
    let a = c.args.arena.now in
    let s = c.args.solution.now in
    let fs = c.in_ok-states.states.firsts.keys in
    let ls = c.in_ok-states.states.lasts.items in
    let some = some_state g a s fs ls c.in_ok-states.ensures in
    omega arith

pub structure_of-requires-clause-in_range : goal.structure_of-requires-clause-in_range
structure_of-requires-clause-in_range c =
    let g = c.args.graph.now in
    let a = c.args.arena.now in
    let s = c.args.solution.now in
    let fs = c.in_ok-states.states.firsts.keys in
    let ls = c.in_ok-states.states.lasts.items in
    let n = c.in_ok-states.ensures in
    let labels = c.in_ok-parts.parts.labels.items in
    let edges = c.in_ok-parts.parts.edges.items in
    let long : length ls ≡ c.len.result = omega arith in
    subst (λ k. first_bad_state k labels edges ≡ None) long
    (all_in_range g a s fs ls n labels edges (c.in_ok-parts.ensures n))

pub returns-clause-is : goal.returns-clause-is
returns-clause-is c =
    let g = c.args.graph.now in
    let a = c.args.arena.now in
    let s = c.args.solution.now in
    let fs = c.in_ok-states.states.firsts.keys in
    let ls = c.in_ok-states.states.lasts.items in
    let n = c.in_ok-states.ensures in
    let labels = c.in_ok-parts.parts.labels.items in
    let edges = c.in_ok-parts.parts.edges.items in
    let m = c.in_ok-structure.structure in
    let long : c.len.result ≡ length ls = omega arith in
    let built = subst (λ k. IsBuiltFrom k labels edges m) long c.in_ok-structure.ensures.built in
    let model =
    is_model g a s fs ls n m labels edges (c.in_ok-parts.ensures n) c.in_ok-structure.ensures.is_structure
    c.in_ok-structure.ensures.is_ordered built in
    subst (λ (x : Structure). IsModelOf g a s x c.new.result.start) (sym c.new.ensures.structure)
    (subst (IsModelOf g a s m) (sym c.new.ensures.start) model)

pub returns-clause-holds : goal.returns-clause-holds
returns-clause-holds c =
    let g = c.args.graph.now in
    let a = c.args.arena.now in
    let s = c.args.solution.now in
    let fs = c.in_ok-states.states.firsts.keys in
    let ls = c.in_ok-states.states.lasts.items in
    let n = c.in_ok-states.ensures in
    let labels = c.in_ok-parts.parts.labels.items in
    let edges = c.in_ok-parts.parts.edges.items in
    let m = c.in_ok-structure.structure in
    let long : c.len.result ≡ length ls = omega arith in
    let built = subst (λ k. IsBuiltFrom k labels edges m) long c.in_ok-structure.ensures.built in
    let model =
    is_model g a s fs ls n m labels edges (c.in_ok-parts.ensures n) c.in_ok-structure.ensures.is_structure
    c.in_ok-structure.ensures.is_ordered built in
    let holds = models_hold g a s m 0 c.requires model in
    subst (λ (x : Structure). Extracted g x c.new.result.start) (sym c.new.ensures.structure)
    (subst (Extracted g m) (sym c.new.ensures.start) holds)
