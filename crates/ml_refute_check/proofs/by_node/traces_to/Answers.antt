use Rattle.std.proofs.Common.{rules, ◌≡◌, ◌-◌, length, take, drop, ltb, leb, arith, sym, subst}
use Rattle.std.proofs.lemmas.List.{take_all, length-drop}
use Rattle.std.proofs.lemmas.List.Sorted.{IsPartitionPoint-from_clause, IsPartitionedBy-ltb, IsPartitionedBy-leb, IsNonDecreasingBy-drop}
use Rattle.ml_trace.specs.declared.letters.Triple.{Triple}
use Rattle.ml_refute_check.specs.private.Sources.{RiseByTarget}
use Rattle.ml_lists.proofs.Keyed.{members_at}
use Rattle.ml_refute_check.proofs.by_node.traces_to.Goals as goal

pub returns : goal.returns
returns c =
    let xs = c.args.traces.now in
    let q = c.args.node in
    let i = c.partition_point.result in
    let rest = take (length xs - i) (drop i xs) in
    let is : rest ≡ drop i xs = take_all (length xs - i) (drop i xs) (omega (arith, length-drop i xs)) in
    let rise : RiseByTarget rest =
    subst RiseByTarget (sym is) (IsNonDecreasingBy-drop (λ (x : Triple). x.to) i xs c.requires) in
    let one = IsPartitionPoint-from_clause (λ (x : Triple). ltb x.to q) xs i c.partition_point.ensures.partitioned
    (IsPartitionedBy-ltb (λ (x : Triple). x.to) xs q c.requires) (λ a r f' k. search rules) in
    let two = IsPartitionPoint-from_clause (λ (x : Triple). leb x.to q) rest c.partition_point-2.result
    c.partition_point-2.ensures.partitioned (IsPartitionedBy-leb (λ (x : Triple). x.to) rest q rise)
    (λ a r f' k. search rules) in
    members_at (λ (x : Triple). x.to) xs rest q i c.partition_point-2.result is c.partition_point.ensures.bound one
    c.partition_point-2.ensures.bound two
