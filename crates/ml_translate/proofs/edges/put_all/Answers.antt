use Rattle.std.proofs.Common.{List, [], ◌∷◌, refl, inl, sym, subst, arith}
use Rattle.std.proofs.lemmas.List.{length-map}
use Rattle.ml_lists.specs.Member.{IsMember}
use Rattle.ml_lists.proofs.Member.{member-append_right}
use Rattle.ml_labelled.specs.private.Views.{edges_in, rows_of}
use Rattle.ml_translate.specs.Places.{Place}
use Rattle.ml_translate.proofs.EdgesMade.{left_among, made_all, made_more, none_left}
use Rattle.ml_translate.proofs.edges.put_all.Goals as goal

pub put_edge-requires-clause-node : goal.put_edge-requires-clause-node
put_edge-requires-clause-node c =
    (c.requires.fit c.in-Some.place
    (left_among c.args.graph.now c.args.numbers.now c.args.places.now.keys c.loop-place.places.keys
    (rows_of c.loop-place.rows.items) c.in-Some.place c.loop-place.invariant.made
    (subst (λ (xs : List Place). IsMember c.in-Some.place xs) (sym c.in-Some.ensures.keys)
    (member-append_right c.in-Some.place c.pop.new.self.keys (c.in-Some.place ∷ []) (inl refl))))).0

pub put_edge-requires-clause-state : goal.put_edge-requires-clause-state
put_edge-requires-clause-state c =
    let low =
    (c.requires.fit c.in-Some.place
    (left_among c.args.graph.now c.args.numbers.now c.args.places.now.keys c.loop-place.places.keys
    (rows_of c.loop-place.rows.items) c.in-Some.place c.loop-place.invariant.made
    (subst (λ (xs : List Place). IsMember c.in-Some.place xs) (sym c.in-Some.ensures.keys)
    (member-append_right c.in-Some.place c.pop.new.self.keys (c.in-Some.place ∷ []) (inl refl))))).1 in
    let long = c.loop-place.invariant.as_long in
    omega arith

pub loop-place-preserved : goal.loop-place-preserved
loop-place-preserved c =
    let put = c.in_ok-put_edge.ensures in
    record {
      made =
          made_more c.args.graph.now c.args.numbers.now c.args.places.now.keys c.pop.new.self.keys c.loop-place.places.keys
          c.in-Some.place (rows_of c.loop-place.rows.items) (rows_of c.put_edge.new.rows.items) c.in-Some.ensures.keys
          c.loop-place.invariant.made put;
      as_long =
          let long = put.as_long in
          let old = length-map c.loop-place.rows.items edges_in in
          let new = length-map c.put_edge.new.rows.items edges_in in
          let kept = c.loop-place.invariant.as_long in
          omega arith;
    }

pub returns-clause-edges : goal.returns-clause-edges
returns-clause-edges c =
    made_all c.args.graph.now c.args.numbers.now c.args.places.now.keys c.loop-place.places.keys
    (rows_of c.loop-place.rows.items)
    (none_left c.loop-place.places.keys (λ some. c.in_default.ensures.found.1 some)) c.loop-place.invariant.made
