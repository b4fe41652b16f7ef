use Rattle.std.proofs.Common.{◌≡◌, ◌++◌, All, map, take, vec_len}
use Rattle.ml_base.specs.Name.{IsAction}
use Rattle.ml_lines.specs.Lines.{text_of}
use Rattle.ml_kripke.specs.ModelText.{edge_line}
use Rattle.ml_kripke.proofs.write.write_edges.Given as goal

abbrev pub invariant-loop-edge : goal.invariant-loop-edge
invariant-loop-edge l =
    (l.out.items ≡ l.fn.out.items ++ text_of (map edge_line (take l.edge-index l.edges)))
    × All (λ e. IsAction e.action) (take l.edge-index l.edges)
    × (take (vec_len l.fn.out) l.out.items ≡ l.fn.out.items)
