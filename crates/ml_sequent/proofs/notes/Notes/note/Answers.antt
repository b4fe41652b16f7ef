-- One place more is noted.
use Rattle.std.proofs.Common.{◌+◌, IsTrue, ◌↔◌, sym, subst}
use Rattle.ml_sequent.specs.private.Descents.{MayCycle}
use Rattle.ml_sequent.specs.private.Notes.{NotesList, IsNoted, HasOpen}
use Rattle.ml_sequent.proofs.NotedPlaces.{noted_more, open_more}
use Rattle.ml_sequent.proofs.notes.Notes.note.Goals as goal

pub returns-clause-noted : goal.returns-clause-noted
returns-clause-noted c =
    let g = c.args.graph.now in
    let ranks = c.args.descent.now in
    let nodes = c.args.trail.now.nodes in
    let a = c.self.inside in
    let x : NotesList = record {
      done = a.done;
      literals = a.literals;
      conflict = a.conflict;
      suspect = a.suspect;
      candidates = a.candidates;
    } in
    let y : NotesList = record {
      done = a.done + 1;
      literals = c.note-is_conflict.new.self;
      conflict = c.noted_first-self-inside.result;
      suspect = c.noted_first-self-inside-2.result;
      candidates = c.add_candidate.new.candidates;
    } in
    let was : IsNoted g ranks nodes a.done x = subst (λ (z : NotesList). IsNoted g ranks nodes z.done z)
    (sym c.self.view_is) c.requires.noted in
    let suspect = subst (λ n. IsTrue c.may_cycle-is_suspect.result ↔ MayCycle g ranks n) c.node-node.ensures.value
    c.may_cycle-is_suspect.ensures in
    subst (λ (z : NotesList). IsNoted g ranks nodes (z.done + 1) y) c.self.view_is
    (noted_more g ranks nodes a.done x y c.note-is_conflict.result c.may_cycle-is_suspect.result
    c.note-is_conflict.ensures.firsts c.note-is_conflict.ensures.conflict suspect c.noted_first-self-inside.ensures
    c.noted_first-self-inside-2.ensures c.add_candidate.ensures.room was)

pub returns-clause-has_open : goal.returns-clause-has_open
returns-clause-has_open c = λ choice.
    let g = c.args.graph.now in
    let nodes = c.args.trail.now.nodes in
    let after = c.add_candidate.new.candidates in
    subst (λ (z : NotesList). HasOpen g choice nodes z.done z.candidates → HasOpen g choice nodes (z.done + 1)
    after) c.self.view_is
    (open_more g choice nodes c.self.inside.done c.node-node.result c.self.inside.candidates after
    c.node-node.ensures.value
    c.add_candidate.ensures.kept c.add_candidate.ensures.added)
