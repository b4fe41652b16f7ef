-- Words worked out by hand: what the definitions make of them, with `clap`'s own.
use Rattle.std.proofs.Common.{◌≡◌, [], ◌∷◌, Some, None, refl, codes}
use Rattle.clap.proofs.OnLiterals.{clap_on_literals}
use Rattle.ml_front.specs.declared.logic.Logic.TheVariants.{Mu, Pdl, Ctl, Ltl}
use Rattle.ml_gen.specs.declared.family.Family.TheVariants.{Or, Loop}
use Rattle.ml_driver.specs.declared.command.Command.TheVariants.{Decide, Valid, CheckModel, Determinise, Automaton, Realize, Gen, Bench}
use Rattle.ml_driver.specs.Words.{cli, command_of, faults_of, rows_in, table}

bare : command_of (codes "decide" ∷ codes "mu" ∷ []) ≡ Some (Decide Mu 50000)
unfolding cli faults_of rows_in table clap_on_literals
bare = refl

with_limit : command_of (codes "decide" ∷ codes "mu" ∷ codes "--limit" ∷ codes "200000" ∷ []) ≡ Some (Decide Mu 200000)
unfolding cli faults_of rows_in table clap_on_literals
with_limit = refl

-- the option may stand in front, with its value behind a sign, with leading zeros
in_front : command_of (codes "--limit=000001" ∷ codes "decide" ∷ codes "mu" ∷ []) ≡ Some (Decide Mu 1)
unfolding cli faults_of rows_in table clap_on_literals
in_front = refl

of_pdl : command_of (codes "valid" ∷ codes "pdl" ∷ []) ≡ Some (Valid Pdl 50000)
unfolding cli faults_of rows_in table clap_on_literals
of_pdl = refl

of_ctl : command_of (codes "decide" ∷ codes "ctl" ∷ []) ≡ Some (Decide Ctl 50000)
unfolding cli faults_of rows_in table clap_on_literals
of_ctl = refl

of_ltl : command_of (codes "valid" ∷ codes "ltl" ∷ codes "--limit=7" ∷ []) ≡ Some (Valid Ltl 7)
unfolding cli faults_of rows_in table clap_on_literals
of_ltl = refl

check : command_of (codes "check-model" ∷ []) ≡ Some CheckModel
unfolding cli faults_of rows_in table clap_on_literals
check = refl

to_determinise : command_of (codes "determinise" ∷ []) ≡ Some (Determinise 50000)
unfolding cli faults_of rows_in table clap_on_literals
to_determinise = refl

to_determinise_within : command_of (codes "determinise" ∷ codes "--limit" ∷ codes "2" ∷ []) ≡ Some (Determinise 2)
unfolding cli faults_of rows_in table clap_on_literals
to_determinise_within = refl

no_state : command_of (codes "determinise" ∷ codes "--limit=0" ∷ []) ≡ None
unfolding cli faults_of rows_in table clap_on_literals
no_state = refl

to_translate : command_of (codes "automaton" ∷ codes "--limit=6" ∷ []) ≡ Some (Automaton 6)
unfolding cli faults_of rows_in table clap_on_literals
to_translate = refl

to_realize : command_of (codes "realize" ∷ codes "--limit=3" ∷ []) ≡ Some (Realize 3)
unfolding cli faults_of rows_in table clap_on_literals
to_realize = refl

of_no_logic : command_of (codes "determinise" ∷ codes "ltl" ∷ []) ≡ None
unfolding cli faults_of rows_in table clap_on_literals
of_no_logic = refl

none : command_of [] ≡ None
unfolding cli faults_of rows_in table clap_on_literals
none = refl

zero_positions : command_of (codes "decide" ∷ codes "mu" ∷ codes "--limit=0" ∷ []) ≡ None
unfolding cli faults_of rows_in table clap_on_literals
zero_positions = refl

too_many_positions : command_of (codes "decide" ∷ codes "mu" ∷ codes "--limit=200001" ∷ []) ≡ None
unfolding cli faults_of rows_in table clap_on_literals
too_many_positions = refl

no_digits : command_of (codes "decide" ∷ codes "mu" ∷ codes "--limit=1x" ∷ []) ≡ None
unfolding cli faults_of rows_in table clap_on_literals
no_digits = refl

no_logic : command_of (codes "decide" ∷ codes "s4" ∷ []) ≡ None
unfolding cli faults_of rows_in table clap_on_literals
no_logic = refl

-- the option goes with no other command
alone : command_of (codes "check-model" ∷ codes "--limit=5" ∷ []) ≡ None
unfolding cli faults_of rows_in table clap_on_literals
alone = refl

help : command_of (codes "--help" ∷ []) ≡ None
unfolding cli faults_of rows_in table clap_on_literals
help = refl

twice : command_of (codes "decide" ∷ codes "mu" ∷ codes "--limit=5" ∷ codes "--limit=5" ∷ []) ≡ None
unfolding cli faults_of rows_in table clap_on_literals
twice = refl

of_family : command_of (codes "bench" ∷ codes "or" ∷ codes "16" ∷ []) ≡ Some (Bench Or 16)
unfolding cli faults_of rows_in table clap_on_literals
of_family = refl

with_zeros : command_of (codes "gen" ∷ codes "loop" ∷ codes "000005" ∷ []) ≡ Some (Gen Loop 5)
unfolding cli faults_of rows_in table clap_on_literals
with_zeros = refl

past_range : command_of (codes "gen" ∷ codes "fair" ∷ codes "4" ∷ []) ≡ None
unfolding cli faults_of rows_in table clap_on_literals
past_range = refl

no_number : command_of (codes "bench" ∷ codes "fair" ∷ []) ≡ None
unfolding cli faults_of rows_in table clap_on_literals
no_number = refl

limited_family : command_of (codes "gen" ∷ codes "loop" ∷ codes "5" ∷ codes "--limit=5" ∷ []) ≡ None
unfolding cli faults_of rows_in table clap_on_literals
limited_family = refl
