use Rattle.std.proofs.Common.{ℕ, ◌≡◌, ◌<◌, [], Result, Ok, Err, All, IfOk, OnOk, length, get_or, List, sym, subst}
use Rattle.std.specs.Global.{Vec}
use Rattle.ml_base.specs.Structure.{Structure, IsStructure}
use Rattle.ml_bisim.specs.declared.partition.Partition.{Partition}
use Rattle.ml_bisim.specs.private.Rounds.{AreListed, Grows, IsCutOff, IsPartition, IsRefined, IsSplit}
use Rattle.ml_bisim.proofs.Settling.{grows_too, refined_again}
use Rattle.ml_bisim.proofs.rounds.refine.Goals as goal

refined_where_ok : {E : Type 0} (m : Structure) → IsStructure m → (class : List ℕ) → IsPartition m class → (p q : Partition)
    → (renamed : List ℕ)
    → IsSplit m class p renamed
    → (r : Result (Vec ℕ) E)
    → OnOk r (q.class ≡ p.class)
    → OnOk r (q.members ≡ p.members)
    → OnOk r (q.keeper ≡ p.keeper)
    → OnOk r (length q.is_settled.items ≡ m.states)
    → IfOk r (λ next. All (λ s. s < m.states) next.items)
    → IfOk r (λ next. AreListed q.is_settled.items m.states next.items)
    → OnOk r ((i : ℕ) → i < length renamed → IsCutOff m.edges p.class.items m.states q.is_settled.items
    (get_or renamed i 0))
    → IfOk r (λ next. IsRefined m q next.items)
refined_where_ok m m_ok class part p q renamed split (Err e) a b c d l k h = tt
refined_where_ok m m_ok class part p q renamed split (Ok next) classes members keepers long low listed cut_off =
    refined_again m m_ok class part p q renamed next.items split classes members keepers long low listed cut_off

cut_off_where_ok : {E : Type 0} (m : Structure) (p q : Partition) (renamed : List ℕ) (r : Result (Vec ℕ) E)
    → OnOk r (q.class ≡ p.class)
    → OnOk r ((i : ℕ) → i < length renamed → IsCutOff m.edges q.class.items m.states q.is_settled.items
    (get_or renamed i 0))
    → OnOk r ((i : ℕ) → i < length renamed → IsCutOff m.edges p.class.items m.states q.is_settled.items
    (get_or renamed i 0))
cut_off_where_ok m p q renamed (Err e) same cut_off = tt
cut_off_where_ok m p q renamed (Ok next) same cut_off =
    subst (λ (v : Vec ℕ). (i : ℕ) → i < length renamed
    → IsCutOff m.edges v.items m.states q.is_settled.items (get_or renamed i 0)) same cut_off

pub returns-clause-refined : goal.returns-clause-refined
returns-clause-refined c =
    let m = c.args.structure.now in
    refined_where_ok m c.keeps.ensures.is_structure c.args.partition.now.class.items c.requires.refined.part
    c.split.new.partition
    c.unsettle.new.partition c.in_ok-renamed.renamed.items c.in_ok-renamed.ensures c.unsettle.result
    c.unsettle.ensures.class
    c.unsettle.ensures.members c.unsettle.ensures.keepers c.unsettle.ensures.flags c.unsettle.ensures.in_range
    c.unsettle.ensures.listed
    (cut_off_where_ok m c.split.new.partition c.unsettle.new.partition c.in_ok-renamed.renamed.items c.unsettle.result
    c.unsettle.ensures.class
    (subst (λ xs. OnOk c.unsettle.result ((i : ℕ) → i < length xs → IsCutOff m.edges c.unsettle.new.partition.class.items
    m.states c.unsettle.new.partition.is_settled.items (get_or xs i 0))) c.deref.ensures.value c.unsettle.ensures.cut_off))

grows_where_ok : {E : Type 0} (class : List ℕ) (p q : Partition) (renamed : List ℕ)
    → Grows class p.class.items renamed
    → (r : Result (Vec ℕ) E)
    → OnOk r (q.class ≡ p.class)
    → IfOk r (λ next. length renamed ≡ 0 → next.items ≡ [])
    → IfOk r (λ next. Grows class q.class.items next.items)
grows_where_ok class p q renamed grows (Err e) same none = tt
grows_where_ok class p q renamed grows (Ok next) same none =
    subst (λ (v : Vec ℕ). Grows class v.items next.items) (sym same)
    (grows_too class p.class.items renamed next.items grows none)

pub returns-clause-grows : goal.returns-clause-grows
returns-clause-grows c =
    grows_where_ok c.args.partition.now.class.items c.split.new.partition c.unsettle.new.partition
    c.in_ok-renamed.renamed.items c.in_ok-renamed.ensures.grows c.unsettle.result c.unsettle.ensures.class
    (subst (λ xs. IfOk c.unsettle.result (λ next. length xs ≡ 0 → next.items ≡ [])) c.deref.ensures.value
    c.unsettle.ensures.none)
