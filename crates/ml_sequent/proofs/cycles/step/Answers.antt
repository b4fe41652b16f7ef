use Rattle.std.proofs.Common.{ℕ, ◌≡◌, ◌<◌, ◌∙◌, ◌⊎◌, List, [], ◌∷◌, drop, length, All, Some, inl, refl, sym, ap, subst, arith}
use Rattle.std.proofs.lemmas.List.{length-drop}
use Rattle.ml_graph.specs.Graph.{Graph, size}
use Rattle.ml_lists.specs.Member.{IsMember}
use Rattle.ml_lists.proofs.Member.{member-All, member-append_right}
use Rattle.ml_sequent.specs.declared.parts.Frame.{Frame}
use Rattle.ml_sequent.specs.private.ConnectedParts.{WalkList, IsFramed, IsCyclic, WentOn, first_frame, gone, offered, shut}
use Rattle.ml_sequent.proofs.FrameLists.{SomeFrame, some_frame, drop_member}
use Rattle.ml_sequent.proofs.PathMeasures.{went_on, went_shut}
use Rattle.ml_sequent.proofs.cycles.step.Goals as goal

pub go_to-requires-clause-target : goal.go_to-requires-clause-target
go_to-requires-clause-target c =
    c.requires.fit.waiting_low c.in-Some.target
    (subst (IsMember c.in-Some.target) (sym c.in-Some.ensures.taken.0)
    (member-append_right c.in-Some.target c.take.new.self.waiting (c.in-Some.target ∷ []) (inl refl)))

same_walk : (x y : WalkList)
    → y ≡ record { path = x.path; waiting = y.waiting; frames = x.frames; stages = x.stages }
    → y.waiting ≡ x.waiting
    → y ≡ x
same_walk x y e w = e ∙ (λ i. record { path = x.path; waiting = w i; frames = x.frames; stages = x.stages })

last_part : (x y : WalkList) (part : List ℕ) (s : SomeFrame x.frames)
    → y ≡ x
    → ((f : Frame) → first_frame y.frames ≡ Some f → part ≡ drop f.first y.path)
    → part ≡ drop s.first.first x.path
last_part x y part s e is =
    is s.first (ap (λ (z : WalkList). first_frame z.frames) e ∙ ap first_frame s.is)
    ∙ ap (λ (z : WalkList). drop s.first.first z.path) e

part_low : (g : Graph) (x : WalkList) (part : List ℕ) (k : ℕ)
    → part ≡ drop k x.path
    → ((n : ℕ) → IsMember n x.path → n < size g)
    → All (λ n. n < size g) part
part_low g x part k e low =
    member-All (λ n. n < size g) part (λ n m. low n (drop_member x.path k n (subst (IsMember n) e m)))

part_some : (x : WalkList) (part : List ℕ) (s : SomeFrame x.frames)
    → part ≡ drop s.first.first x.path
    → IsFramed (length x.path) (length x.waiting) x.frames
    → 0 < length part
part_some x part s e framed =
    let is = subst (IsFramed (length x.path) (length x.waiting)) s.is framed in
    omega (arith, ap length e, length-drop s.first.first x.path, is.0)

pub best_of-found-requires-clause-low : goal.best_of-found-requires-clause-low
best_of-found-requires-clause-low c =
    let x = c.args.parts.now in
    let s = some_frame x.frames c.requires.some in
    let same = same_walk x c.take.new.self c.take.ensures.others c.in-None.ensures.taken.0 in
    part_low c.args.graph.now x c.last.result.now s.first.first
    (last_part x c.take.new.self c.last.result.now s same c.last.ensures) c.requires.fit.path_low

pub best_of-found-requires-clause-some : goal.best_of-found-requires-clause-some
best_of-found-requires-clause-some c =
    let x = c.args.parts.now in
    let s = some_frame x.frames c.requires.some in
    let same = same_walk x c.take.new.self c.take.ensures.others c.in-None.ensures.taken.0 in
    part_some x c.last.result.now s (last_part x c.take.new.self c.last.result.now s same c.last.ensures) c.requires.fit.framed

pub close-requires-clause-low : goal.close-requires-clause-low
close-requires-clause-low c =
    let x = c.args.parts.now in
    let same = same_walk x c.take.new.self c.take.ensures.others c.in-None.ensures.taken.0 in
    subst (λ (y : WalkList). All (λ n. n < length y.stages) y.path) (sym same)
    (member-All (λ n. n < length x.stages) x.path (λ n m. let low = c.requires.fit.path_low n m in omega (arith, c.requires.fit.sized)))

pub returns-in_ok-go_to-in-Some-clause-went_on : goal.returns-in_ok-go_to-in-Some-clause-went_on
returns-in_ok-go_to-in-Some-clause-went_on c = λ nodes closed part.
    let g = c.args.graph.now in
    let ch = c.args.choice.now in
    let d = c.args.floor in
    let x = c.args.parts.now in
    let m = c.in-Some.target in
    let w = c.take.new.self.waiting in
    let taken = c.in-Some.ensures.taken in
    let went = went_on g ch d nodes closed x w m c.args.best part taken.0 (λ f fs is. taken.1 f (ap first_frame is)) in
    subst (λ (y : WalkList). WentOn g ch d nodes x y c.args.best)
    (sym (c.in_ok-go_to-in-Some.ensures.gone ∙ ap (gone g ch d m) c.take.ensures.others)) went

pub returns-in-None-clause-went_on : goal.returns-in-None-clause-went_on
returns-in-None-clause-went_on c = λ nodes closed part.
    let g = c.args.graph.now in
    let ch = c.args.choice.now in
    let d = c.args.floor in
    let x = c.args.parts.now in
    let y = c.take.new.self in
    let s = some_frame x.frames c.requires.some in
    let same = same_walk x y c.take.ensures.others c.in-None.ensures.taken.0 in
    let nodes_are = last_part x y c.last.result.now s same c.last.ensures in
    let best =
    subst
    (λ (p : List ℕ). (IsCyclic g ch p × (c.best_of-found.result ≡ offered g d p c.args.best))
    ⊎ ((IsCyclic g ch p → ⊥) × (c.best_of-found.result ≡ c.args.best)))
    nodes_are c.best_of-found.ensures
    in
    let frames = ap (λ (z : WalkList). z.frames) same ∙ s.is in
    let none_waits = c.in-None.ensures.taken.1 s.first (ap first_frame s.is) in
    let went = went_shut g ch d nodes closed x s.first s.rest c.args.best c.best_of-found.result part s.is none_waits best in
    subst (λ (z : WalkList). WentOn g ch d nodes x z c.best_of-found.result)
    (sym (c.close.ensures.shut s.first s.rest frames ∙ ap (shut s.first s.rest) same)) went
