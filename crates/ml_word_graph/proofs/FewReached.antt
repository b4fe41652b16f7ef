-- No more nodes are reached than stand in the list.
use Rattle.std.proofs.Common.{ℕ, ◌≡◌, ◌<◌, List, arith, length, get_or, slice_get, Some, ap, ◌∙◌}
use Rattle.std.proofs.lemmas.Option.{slice_get-get_or}
use Rattle.ml_lists.proofs.Pigeons.{TwiceInList, pigeons_list}
use Rattle.ml_graph.specs.declared.node.Node.{Node}
use Rattle.ml_nodes.specs.NumberedValues.{IsTooLarge}
use Rattle.ml_word_graph.specs.private.Reached.{AreInside, form_in}

pub few_reached : (all : List Node) → AreInside all → IsTooLarge (form_in all) 0 (length all) → ⊥
few_reached all inside large = twice (pigeons_list (length all) xs large.more key_low)
  where
    xs : List ℕ
    xs = large.values

    stands : (i : ℕ) → i < length xs → slice_get xs i ≡ Some (get_or xs i 0)
    stands i low = slice_get-get_or xs i 0 low

    key_low : (i : ℕ) → i < length xs → get_or xs i 0 < length all
    key_low i low = inside (get_or xs i 0) (large.are_met i (get_or xs i 0) (stands i low))

    twice : TwiceInList xs → ⊥
    twice t =
        let a = t.apart in
        let w = t.within in
        let same =
        large.once t.first t.second (get_or xs t.second 0) (stands t.first (omega (arith, a, w)) ∙ ap Some (t.same 0))
        (stands t.second w) in
        omega (arith, a, same)
