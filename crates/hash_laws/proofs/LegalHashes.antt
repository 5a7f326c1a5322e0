-- The hashes of legal logs.
use Rattle.std.proofs.Common.{◌≡◌, ℕ, true, List, Option, Some, None, IsSome, refl}
use Rattle.std.proofs.lemmas.Bool.{false≢true}
use Rattle.plain_monitor.specs.declared.entry.Logged.{Logged}
use Rattle.plain_monitor.specs.Order.{order}
use Rattle.plain_history.specs.FirstDraws.{DrawsComeFirst}
use Rattle.object_program.specs.Program.{ProgramText}
use Rattle.plain_machine.specs.Legal.{IsLegal, machine_after}
use Rattle.plain_machine.specs.Machine.{new_machine}
use Rattle.lock_journal.specs.Hashes.{hash_fits}
use Rattle.core_law.specs.Draws.{HasDraws}
use Rattle.hash_laws.proofs.DrawsFit.{hashes_fit}
use Rattle.hash_laws.proofs.DrawsAgain.{has_draws}

-- what is there
pub the_some : {A : Type 0} (o : Option A) → IsSome o → (x : A) × (o ≡ Some x)
the_some None h = absurd (false≢true h)
the_some (Some x) h = (x, refl)

pub legal_hashes_fit : (p : ProgramText) (fuel start : ℕ) (logs : List (List Logged))
    → IsLegal p fuel logs → HasDraws start logs → (o : ℕ) → hash_fits start (order logs) o ≡ true
legal_hashes_fit p fuel start logs legal draws o =
    let m = the_some (machine_after p fuel logs) legal.taken in
    hashes_fit start logs (new_machine p fuel) m.0 legal.rises m.1 draws o

pub fitting_hashes_are_draws : (p : ProgramText) (fuel start : ℕ) (logs : List (List Logged)) → IsLegal p fuel logs
    → ((o : ℕ) → hash_fits start (order logs) o ≡ true) → DrawsComeFirst logs → HasDraws start logs
fitting_hashes_are_draws p fuel start logs legal fits first = has_draws start logs legal.rises fits first
