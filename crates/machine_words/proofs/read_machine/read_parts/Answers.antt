use Rattle.std.proofs.Common.{rules, ◌≡◌, ℕ, ◌++◌, List, length, map, drop, sym, ap, ◌∙◌, subst}
use Rattle.plain_monitor.specs.Objects.{PlainObject}
use Rattle.object_program.specs.Program.{ProgramText}
use Rattle.machine_laws.specs.Reached.{IsReached}
use Rattle.machine_words.specs.MadeWords.{made_words}
use Rattle.machine_words.specs.ObjectWords.{objects_words}
use Rattle.machine_words.specs.MachineWords.{words_of}
use Rattle.machine_words.specs.Numbers.{HasNumbers}
use Rattle.machine_words.specs.inner.Telling.{IsLost, TellsThreads, TellsRows, AreTold}
use Rattle.machine_words.proofs.Lost.{lost_by}
use Rattle.machine_words.proofs.Told.{threads_are_told, rows_are_told, objects_told, after_threads, after_made}
use Rattle.plain_machine.specs.Thread.{ThreadState}
use Rattle.plain_machine.specs.Machine.{PlainMachine}
use Rattle.machine_words.specs.inner.Reading.{walk, renewed, thread_step, beside}
use Rattle.machine_words.proofs.Beside.{read_beside}
use Rattle.machine_words.proofs.Loaded.{loaded}
use Rattle.machine_words.proofs.WalkedParts.{renewed_twice, threads_after}
use Rattle.machine_words.proofs.read_machine.read_parts.Goals as goal

pub read_objects-requires-clause-new : goal.read_objects-requires-clause-new
read_objects-requires-clause-new c =
    let is = c.in_ok-renew_all.ensures.objects in is ∙ renewed_twice c.args.objects.now ∙ ap (map renewed) (sym is)

pub read_objects-requires-clause-beside : goal.read_objects-requires-clause-beside
read_objects-requires-clause-beside c =
    let new = c.renew_all.new.objects in
    let is : c.read_threads.new.threads ≡ (walk (thread_step c.args.fuel) 0 (beside new 0 c.args.threads.now) c.args.words.now).0 =
    c.in_ok-read_threads.ensures.threads
    ∙ ap (λ (ss : List ThreadState). (walk (thread_step c.args.fuel) 0 ss c.args.words.now).0) c.in_ok-renew_all.ensures.threads in
    is ∙ read_beside c.args.fuel 0 new c.args.threads.now c.args.words.now ∙ ap (beside new 0) (sym is)

pub returns-clause-machine : goal.returns-clause-machine
returns-clause-machine c =
    let m : PlainMachine =
    record { program = c.args.program.now; objects = c.args.objects.now; made = c.args.register.now.made; threads = c.args.threads.now } in
    loaded c.args.fuel c.args.words.now m c.renew_all.new.objects c.renew_all.new.threads c.read_threads.new.threads _ c.read_made.new.register.made _
    c.read_objects.new.objects c.read_objects.new.threads c.place_threads.new.threads c.requires.room c.in_ok-renew_all.ensures.objects
    c.in_ok-renew_all.ensures.threads c.in_ok-read_threads.ensures.threads c.in_ok-read_threads.ensures.rest c.in_ok-read_made.ensures.made
    c.in_ok-read_made.ensures.rest c.in_ok-read_objects.ensures.objects c.in_ok-read_objects.ensures.threads c.place_threads.ensures

pub returns-in_err-read_threads-clause-lost : goal.returns-in_err-read_threads-clause-lost
returns-in_err-read_threads-clause-lost c =
    let p = c.args.program.now in
    let ws = c.args.words.now in
    let lost : IsLost ((m : PlainMachine) × IsReached m × HasNumbers m × (m.program ≡ p) × (words_of m ≡ ws)) c.in_err-read_threads.field-0.0 =
    lost_by c.in_err-read_threads.field-0.0
    (λ h.
    let count : length c.renew_all.new.threads ≡ length h.0.threads =
    c.renew_all.auto.threads ∙ c.requires.room.thread_count ∙ ap (λ (q : ProgramText). length q.threads) (sym h.3) ∙ sym h.1.thread_count in
    let told : TellsThreads (length h.0.program.threads) (words_of h.0) =
    threads_are_told h.0 (made_words h.0.made ++ objects_words 0 h.0.objects) h.1 h.2 in
    let as_many : length h.0.program.threads ≡ length c.renew_all.new.threads = sym (count ∙ h.1.thread_count) in
    subst (λ (n : ℕ). TellsThreads n ws) as_many (subst (TellsThreads (length h.0.program.threads)) h.4 told))
    c.in_err-read_threads.ensures.lost in
    search rules

pub returns-in_err-read_made-clause-lost : goal.returns-in_err-read_made-clause-lost
returns-in_err-read_made-clause-lost c =
    let p = c.args.program.now in
    let ws = c.args.words.now in
    let lost : IsLost ((m : PlainMachine) × IsReached m × HasNumbers m × (m.program ≡ p) × (words_of m ≡ ws)) c.in_err-read_made.field-0.0 =
    lost_by c.in_err-read_made.field-0.0
    (λ h.
    let count : length c.renew_all.new.threads ≡ length h.0.threads =
    c.renew_all.auto.threads ∙ c.requires.room.thread_count ∙ ap (λ (q : ProgramText). length q.threads) (sym h.3) ∙ sym h.1.thread_count in
    let beyond : drop c.read_threads.new.at ws ≡ made_words h.0.made ++ objects_words 0 h.0.objects =
    c.in_ok-read_threads.ensures.rest ∙ threads_after c.args.fuel 0 c.renew_all.new.threads ws
    ∙ after_threads h.0 (length c.renew_all.new.threads) ws h.1 count h.4 in
    let rows : length c.args.register.now.made ≡ length h.0.made =
    c.requires.room.row_count ∙ ap (λ (q : ProgramText). length q.threads) (sym h.3) ∙ sym h.1.row_count in
    let told : TellsRows (length h.0.program.threads) (made_words h.0.made ++ objects_words 0 h.0.objects) =
    rows_are_told h.0 (objects_words 0 h.0.objects) h.1 in
    let as_many : length h.0.program.threads ≡ length c.args.register.now.made = sym (rows ∙ h.1.row_count) in
    subst (TellsRows (length c.args.register.now.made)) (sym beyond)
    (subst (λ (n : ℕ). TellsRows n (made_words h.0.made ++ objects_words 0 h.0.objects)) as_many told))
    c.in_err-read_made.ensures.lost in
    search rules

pub returns-in_err-read_objects-clause-lost : goal.returns-in_err-read_objects-clause-lost
returns-in_err-read_objects-clause-lost c =
    let p = c.args.program.now in
    let ws = c.args.words.now in
    let old : PlainMachine = record { program = p; objects = c.args.objects.now; made = c.args.register.now.made; threads = c.args.threads.now } in
    let lost : IsLost ((m : PlainMachine) × IsReached m × HasNumbers m × (m.program ≡ p) × (words_of m ≡ ws)) c.in_err-read_objects.field-0.0 =
    lost_by c.in_err-read_objects.field-0.0
    (λ h.
    let count : length c.renew_all.new.threads ≡ length h.0.threads =
    c.renew_all.auto.threads ∙ c.requires.room.thread_count ∙ ap (λ (q : ProgramText). length q.threads) (sym h.3) ∙ sym h.1.thread_count in
    let beyond : drop c.read_threads.new.at ws ≡ made_words h.0.made ++ objects_words 0 h.0.objects =
    c.in_ok-read_threads.ensures.rest ∙ threads_after c.args.fuel 0 c.renew_all.new.threads ws
    ∙ after_threads h.0 (length c.renew_all.new.threads) ws h.1 count h.4 in
    let rows : length c.args.register.now.made ≡ length h.0.made =
    c.requires.room.row_count ∙ ap (λ (q : ProgramText). length q.threads) (sym h.3) ∙ sym h.1.row_count in
    let last : drop c.read_made.new.at ws ≡ objects_words 0 h.0.objects =
    c.in_ok-read_made.ensures.rest ∙ after_made h.0 (length c.args.register.now.made) (drop c.read_threads.new.at ws) rows beyond in
    let told : AreTold (length h.0.threads) (map renewed c.args.objects.now) h.0.objects = objects_told h.0 old h.1 c.requires.room h.3 in
    let all : length h.0.threads ≡ length c.read_threads.new.threads = sym (c.read_threads.auto.threads ∙ count) in (
      h.0.objects,
      subst (λ (n : ℕ). AreTold n c.renew_all.new.objects h.0.objects) all
          (subst (λ (xs : List PlainObject). AreTold (length h.0.threads) xs h.0.objects) (sym c.in_ok-renew_all.ensures.objects) told),
      last,
    ))
    c.in_err-read_objects.ensures.lost in
    search rules
