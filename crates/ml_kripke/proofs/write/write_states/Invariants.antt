use Rattle.std.proofs.Common.{◌≡◌, ◌++◌, All, map, take, drop, vec_len}
use Rattle.ml_base.specs.Name.{IsName}
use Rattle.ml_kripke.proofs.WrittenStates.{states_text}
use Rattle.ml_kripke.proofs.write.write_states.Given as goal

abbrev pub invariant-loop-state : goal.invariant-loop-state
invariant-loop-state l =
    (l.out.items ++ states_text l.state (drop l.state (map (λ row. row.items) l.rows))
    ≡ l.fn.out.items ++ states_text 0 (map (λ row. row.items) l.rows))
    × All (All IsName) (take l.state (map (λ row. row.items) l.rows))
    × (take (vec_len l.fn.out) l.out.items ≡ l.fn.out.items)
