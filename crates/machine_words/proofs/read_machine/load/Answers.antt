use Rattle.std.proofs.Common.{◌≡◌, List, sym, ap, ◌∙◌, subst}
use Rattle.std.proofs.lemmas.List.{with_items_is}
use Rattle.plain_monitor.specs.Objects.{PlainObject}
use Rattle.object_program.specs.Program.{numbering_of}
use Rattle.plain_machine.specs.Thread.{ThreadState}
use Rattle.plain_machine.specs.Machine.{PlainMachine}
use Rattle.plain_machine.specs.Sound.{IsSound}
use Rattle.machine_laws.specs.Reached.{IsReached}
use Rattle.machine_words.specs.MachineWords.{machine_of}
use Rattle.machine_words.proofs.read_machine.load.Goals as goal

-- a machine with these lists as its objects and threads
filled : (m n : PlainMachine) (objects : List PlainObject) (threads : List ThreadState) → objects ≡ m.objects → threads ≡ m.threads → m ≡ n
    → record { program = m.program; objects = objects; made = m.made; threads = threads } ≡ n
filled m n objects threads e f is = (λ i. record { program = m.program; objects = e i; made = m.made; threads = f i }) ∙ is

pub read_parts-requires-clause-room : goal.read_parts-requires-clause-room
read_parts-requires-clause-room c =
    let parts = c.into_parts-program.result in
    let same : c.args.machine
    ≡ record { program = parts.program; objects = c.deref_mut.result.now; made = parts.register.made; threads = c.deref_mut-2.result.now } =
    c.into_parts-program.ensures.machine
    ∙ (λ i. record {
      program = parts.program;
      objects = sym c.deref_mut.ensures.value i;
      made = parts.register.made;
      threads = sym c.deref_mut-2.ensures.value i;
    }) in
    subst IsReached same c.requires.room

pub read_parts-requires-clause-sound : goal.read_parts-requires-clause-sound
read_parts-requires-clause-sound c =
    subst (λ (m : PlainMachine). IsSound (machine_of m.program c.args.fuel c.args.words.now)) c.into_parts-program.ensures.machine c.requires.sound

pub into_machine-requires-clause-sound : goal.into_machine-requires-clause-sound
into_machine-requires-clause-sound c =
    let parts = c.into_parts-program.result in
    let new = c.read_parts.new in
    let objects = with_items_is parts.objects new.objects (c.in_ok-read_parts.ensures.objects ∙ c.deref_mut.ensures.len) in
    let threads = with_items_is parts.threads new.threads (c.in_ok-read_parts.ensures.threads ∙ c.deref_mut-2.ensures.len) in
    let m : PlainMachine = record { program = parts.program; objects = new.objects; made = new.register.made; threads = new.threads } in
    let read = filled m (machine_of parts.program c.args.fuel c.args.words.now) _ _ objects threads c.in_ok-read_parts.ensures.machine in
    let sound : IsSound (machine_of parts.program c.args.fuel c.args.words.now) =
    subst (λ (m : PlainMachine). IsSound (machine_of m.program c.args.fuel c.args.words.now)) c.into_parts-program.ensures.machine c.requires.sound in
    subst IsSound (sym read) sound

pub into_machine-requires-clause-numbering : goal.into_machine-requires-clause-numbering
into_machine-requires-clause-numbering c =
    c.in_ok-read_parts.ensures.numbering ∙ c.into_parts-program.ensures.numbering
    ∙ ap (λ (m : PlainMachine). numbering_of m.program) c.into_parts-program.ensures.machine

pub returns-clause-machine : goal.returns-clause-machine
returns-clause-machine c =
    let parts = c.into_parts-program.result in
    let new = c.read_parts.new in
    let objects = with_items_is parts.objects new.objects (c.in_ok-read_parts.ensures.objects ∙ c.deref_mut.ensures.len) in
    let threads = with_items_is parts.threads new.threads (c.in_ok-read_parts.ensures.threads ∙ c.deref_mut-2.ensures.len) in
    let m : PlainMachine = record { program = parts.program; objects = new.objects; made = new.register.made; threads = new.threads } in
    let read = filled m (machine_of parts.program c.args.fuel c.args.words.now) _ _ objects threads c.in_ok-read_parts.ensures.machine in
    c.into_machine.ensures ∙ read
    ∙ ap (λ (m : PlainMachine). machine_of m.program c.args.fuel c.args.words.now) (sym c.into_parts-program.ensures.machine)
