-- Arcs that join pairs.
--
--   joint_weight               == they have a priority of at most 2
--   joint_source, joint_target == both ends are pairs
use Rattle.std.proofs.Common.{◌≡◌, ◌<◌, ◌≤◌, arith, Bool, true, false, List, length}
use Rattle.std.proofs.lemmas.Option.{slice_get_within}
use Rattle.ml_parity.specs.declared.one_sided.graph.Arc.{Arc}
use Rattle.ml_trace.specs.declared.letters.Transition.{Transition}
use Rattle.ml_emptiness.specs.Systems.{SystemTable}
use Rattle.ml_emptiness.specs.private.Pairs.{IsJoint, weight}
use Rattle.ml_emptiness.specs.declared.pairs.Pair.{Pair}

module _ (row : List (List Transition)) (s : SystemTable) (pairs : List Pair) (a : Arc) (j : IsJoint row s pairs a) where
  pub joint_weight : a.priority ≤ 2
  joint_weight = light j.accepting j.has_weight
    where
      light : (b : Bool) → a.priority ≡ weight b → a.priority ≤ 2
      light true is = omega (arith, is)
      light false is = omega (arith, is)

  pub joint_source : a.from < length pairs
  joint_source = slice_get_within pairs a.from j.source j.is_source

  pub joint_target : a.to < length pairs
  joint_target = slice_get_within pairs a.to j.target j.is_target
