-- The last edge is made accepting.
use Rattle.std.proofs.Common.{◌≡◌, true, List, [], ◌∷◌, ◌++◌, refl, ap, sym, ◌∙◌}
use Rattle.std.proofs.lemmas.List.{map-append}
use Rattle.ml_hoa.specs.Automaton.{Edge}
use Rattle.ml_hoa.specs.private.Machine.{last_accepting}
use Rattle.ml_hoa.specs.private.Views.{edge_of, edges_of}
use Rattle.ml_hoa.specs.declared.buchi.BuchiEdge.{BuchiEdge}

pub last_snoc : (es : List Edge) (e : Edge) → last_accepting (es ++ e ∷ []) ≡ es ++ record e { accepting = true } ∷ []
last_snoc [] e = refl
last_snoc (f ∷ []) e = refl
last_snoc (f ∷ g ∷ es) e = ap (λ xs. f ∷ xs) (last_snoc (g ∷ es) e)

pub last_marked : (old new after : List BuchiEdge) (e : BuchiEdge)
    → old ≡ new ++ e ∷ []
    → after ≡ new ++ record { from = e.from; guard = e.guard; to = e.to; accepting = true } ∷ []
    → edges_of after ≡ last_accepting (edges_of old)
last_marked old new after e was is =
    ap edges_of is ∙ map-append edge_of new (record { from = e.from; guard = e.guard; to = e.to; accepting = true } ∷ [])
    ∙ sym (last_snoc (edges_of new) (edge_of e))
    ∙ ap last_accepting (sym (map-append edge_of new (e ∷ [])) ∙ ap edges_of (sym was))
