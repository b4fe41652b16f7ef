-- What the program reads of machines and environments.
--
--   row_low, row_at         == the row of a state
--   steps_long, steps_give  == the steps of a state are few, and give sets of few outputs
--   state_low, next_is, next_long, next_few == the row of an environment's state
--   table_more              == one row more
use Rattle.std.proofs.Common.{ℕ, ◌≡◌, ◌+◌, ◌^◌, ◌<◌, ◌≤◌, arith, List, [], ◌∷◌, ◌++◌, length, get_or, map, sym, ap, ◌∙◌, subst}
use Rattle.std.specs.Global.{Vec}
use Rattle.std.proofs.lemmas.List.{get_or-map, length-map, map-append}
use Rattle.ml_emptiness.specs.Systems.{table_of}
use Rattle.ml_emptiness.specs.declared.systems.Move.{Move}
use Rattle.ml_synthesis.specs.Machines.{EnvironmentFits, EnvironmentTable, MachineFits, MachineTable}
use Rattle.ml_synthesis.specs.declared.machines.MachineStep.{MachineStep}
use Rattle.ml_machine_check.specs.private.AsSystems.{step_in}
use Rattle.ml_machine_check.proofs.AsSystems.{powers}

module _ {X : Type 0} (all : List (Vec X)) (rows : List (List X)) (i : ℕ) (v : Vec X)
    (are : map (λ (w : Vec X). w.items) all ≡ rows) (low : i < length all) (is : v ≡ get_or all i v) where
  pub row_low : i < length rows
  row_low = subst (λ n. i < n) (sym (length-map all (λ (w : Vec X). w.items)) ∙ ap length are) low

  pub row_at : get_or rows i [] ≡ v.items
  row_at =
      ap (λ rs. get_or rs i []) (sym are) ∙ get_or-map (λ (w : Vec X). w.items) all i v [] low
      ∙ ap (λ (w : Vec X). w.items) (sym is)

pub steps_long : (i o : ℕ) (m : MachineTable) (a : ℕ) (steps : List MachineStep)
    → i + o ≤ 8
    → MachineFits i o m
    → a < length m
    → get_or m a [] ≡ steps
    → length steps ≤ 256
steps_long i o m a steps few fits low is =
    let long = sym (ap length is) ∙ fits.a_step_each a low in
    let most = powers i (omega (arith, few)) in
    omega (arith, long, most)

pub steps_give : (i o : ℕ) (m : MachineTable) (a : ℕ) (steps : List MachineStep)
    → i + o ≤ 8
    → MachineFits i o m
    → a < length m
    → get_or m a [] ≡ steps
    → (k : ℕ) → k < length steps → (step_in steps k).give < 256
steps_give i o m a steps few fits low is k inside =
    let set = subst (λ n. k < n) (sym (ap length is) ∙ fits.a_step_each a low) inside in
    let gives = subst (λ (ss : List MachineStep). (step_in ss k).give < 2 ^ o) is (fits.gives a k low set) in
    let most = powers o (omega (arith, few)) in
    omega (arith, gives, most)

pub table_more : (system : List (Vec Move)) (v : Vec Move) → table_of (system ++ v ∷ []) ≡ table_of system ++ v.items ∷ []
table_more system v = map-append (λ (w : Vec Move). w.items) system (v ∷ [])

-- the row of an environment's state
module _ (i o : ℕ) (e : EnvironmentTable) (fits : EnvironmentFits i o e) (all : List (Vec ℕ)) (plays : List ℕ) (a : ℕ)
    (v : Vec ℕ) (next : List ℕ) (are : map (λ (w : Vec ℕ). w.items) all ≡ e.next) (played : plays ≡ e.plays)
    (within : a < length plays) (is : v ≡ get_or all a v) (read : next ≡ v.items) where
  pub state_low : a < length e.plays
  state_low = subst (λ (ps : List ℕ). a < length ps) played within

  pub next_is : get_or e.next a [] ≡ next
  next_is = row_at all e.next a v are inside is ∙ sym read
    where
      inside : a < length all
      inside =
          let long = sym (length-map all (λ (w : Vec ℕ). w.items)) ∙ ap length are in
          let each = fits.a_row_each in
          let low = state_low in
          omega (arith, long, each, low)

  pub next_long : length next ≡ 2 ^ o
  next_long = sym (ap length next_is) ∙ fits.a_next_each a state_low

  pub next_few : i + o ≤ 8 → length next ≤ 256
  next_few few =
      let long = next_long in let most = powers o (omega (arith, few)) in omega (arith, long, most)
