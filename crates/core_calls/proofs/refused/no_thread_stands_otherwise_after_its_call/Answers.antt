use Rattle.std.proofs.Common.{◌≡◌, true, false, sym, ap, eqb-true}
use Rattle.mark_word.specs.Safe.{read_safe}
use Rattle.core_calls.proofs.Walkers.{going_true}
use Rattle.core_calls.specs.Stands.{Stand}
use Rattle.core_calls.proofs.refused.no_thread_stands_otherwise_after_its_call.Goals as goal

pub returns-clause-operation : goal.returns-clause-operation
unfolding read_safe
returns-clause-operation z e so = let runs : false ≡ true = (so.by 1 (λ e. going_true, tt)).runs in absurd (cc runs)

pub returns-clause-hash : goal.returns-clause-hash
unfolding read_safe
returns-clause-hash z e value so = let runs : false ≡ true = (so.by 1 (λ e. going_true, tt)).runs in absurd (cc runs)

pub returns-clause-get : goal.returns-clause-get
unfolding read_safe
returns-clause-get z e so = let runs : false ≡ true = (so.by 1 (λ e. going_true, tt)).runs in absurd (cc runs)

pub returns-clause-print : goal.returns-clause-print
unfolding read_safe
returns-clause-print z e so = let runs : false ≡ true = (so.by 1 (λ e. going_true, tt)).runs in absurd (cc runs)

pub returns-clause-poll : goal.returns-clause-poll
unfolding read_safe
returns-clause-poll z e so = let runs : false ≡ true = (so.by 1 (λ e. going_true, tt)).runs in absurd (cc runs)

pub returns-clause-held : goal.returns-clause-held
returns-clause-held z t word so = let runs : true ≡ false = (so.by tt).0.runs in absurd (cc runs)

pub returns-clause-own : goal.returns-clause-own
unfolding read_safe
returns-clause-own z so = let other = (so.by tt).1 in other.1 (sym (eqb-true 0 other.0 other.2))

pub returns-clause-stop : goal.returns-clause-stop
returns-clause-stop z t so = let runs : true ≡ false = (so.by tt).runs in absurd (cc runs)

pub returns-clause-resume : goal.returns-clause-resume
returns-clause-resume z t so = let runs : false ≡ true = (so.by tt).runs in absurd (cc runs)

pub returns-clause-check : goal.returns-clause-check
returns-clause-check z t so = let runs : true ≡ false = (so.by tt).runs in absurd (cc runs)

pub returns-clause-knows : goal.returns-clause-knows
unfolding read_safe
returns-clause-knows z s start e k so = let runs : false ≡ true = ap (λ (b : Stand). b.running) so in absurd (cc runs)
