-- Rows of machines and environments that fit, as they are read one behind the other.
--
--   Below P n rows   == P is true of the rows below the place n
--   rows_more        == if the rows below a place fit and the one at it, those below the next place do
--   read_more        == so with the row that is read
--   machine_more, environment_more == and so with the rows of a machine, and of an environment
use Rattle.std.proofs.Common.{ℕ, ◌≡◌, ◌+◌, ◌^◌, ◌<◌, ◌≤◌, ◌⊎◌, List, [], length, get_or, inl, inr, map, ap, subst, sym, ◌∙◌, arith}
use Rattle.std.specs.Global.{Vec}
use Rattle.std.proofs.lemmas.Bool.{cases_lt}
use Rattle.std.proofs.lemmas.List.{length-map}
use Rattle.ml_machine_check.proofs.ReadRows.{row_at}
use Rattle.ml_make.specs.private.Fitting.{NextsFit, StepsFit}
use Rattle.ml_synthesis.specs.Machines.{EnvironmentTable, MachineTable}
use Rattle.ml_synthesis.specs.declared.machines.MachineStep.{MachineStep}

abbrev pub Below : {X : Type 0} → (List X → Type 0) → ℕ → List (List X) → Type 0
Below P n rows = (s : ℕ) → s < n → P (get_or rows s [])

pub rows_more : {X : Type 0} (P : List X → Type 0) (n : ℕ) (rows : List (List X))
    → Below P n rows
    → P (get_or rows n [])
    → Below P (n + 1) rows
rows_more P n rows below here s low = by (cases_lt s n)
  where
    by : (s < n) ⊎ (n ≤ s) → P (get_or rows s [])
    by (inl less) = below s less
    by (inr more) =
        let same : n ≡ s = omega (arith, low, more) in subst (λ k. P (get_or rows k [])) same here

-- the row at the place, as it is read
pub read_more : {X : Type 0} (P : List X → Type 0) (all : List (Vec X)) (rows : List (List X)) (n : ℕ) (v : Vec X)
    (row : List X)
    → map (λ (w : Vec X). w.items) all ≡ rows
    → n < length all
    → v ≡ get_or all n v
    → row ≡ v.items
    → Below P n rows
    → P row
    → Below P (n + 1) rows
read_more P all rows n v row are low is read below here =
    rows_more P n rows below (subst P (read ∙ sym (row_at all rows n v are low is)) here)

pub machine_more : (i o : ℕ) (m : MachineTable) (all : List (Vec MachineStep)) (n : ℕ) (v : Vec MachineStep)
    (row : List MachineStep) (x y : ℕ)
    → map (λ (w : Vec MachineStep). w.items) all ≡ m
    → n < length all
    → v ≡ get_or all n v
    → row ≡ v.items
    → x ≡ 2 ^ i
    → y ≡ 2 ^ o
    → Below (StepsFit (2 ^ i) (2 ^ o) (length m)) n m
    → StepsFit x y (length all) row
    → Below (StepsFit (2 ^ i) (2 ^ o) (length m)) (n + 1) m
machine_more i o m all n v row x y are low is read ins outs below fits =
    let long = sym (length-map all (λ (w : Vec MachineStep). w.items)) ∙ ap length are in
    read_more (StepsFit (2 ^ i) (2 ^ o) (length m)) all m n v row are low is read below
    (subst (λ a. StepsFit a (2 ^ o) (length m) row) ins
    (subst (λ b. StepsFit x b (length m) row) outs (subst (λ k. StepsFit x y k row) long fits)))

pub environment_more : (o : ℕ) (e : EnvironmentTable) (all : List (Vec ℕ)) (plays : List ℕ) (n : ℕ) (v : Vec ℕ)
    (row : List ℕ) (y : ℕ)
    → map (λ (w : Vec ℕ). w.items) all ≡ e.next
    → plays ≡ e.plays
    → n < length all
    → v ≡ get_or all n v
    → row ≡ v.items
    → y ≡ 2 ^ o
    → Below (NextsFit (2 ^ o) (length e.plays)) n e.next
    → NextsFit y (length plays) row
    → Below (NextsFit (2 ^ o) (length e.plays)) (n + 1) e.next
environment_more o e all plays n v row y are played low is read outs below fits =
    read_more (NextsFit (2 ^ o) (length e.plays)) all e.next n v row are low is read below
    (subst (λ b. NextsFit b (length e.plays) row) outs (subst (λ (ps : List ℕ). NextsFit y (length ps) row) played fits))
