-- How the words are spelled that say what a thread did.
use Rattle.std.specs.Prelude.{ℕ, List, [], ◌∷◌, codes}
use Rattle.plain_monitor.specs.declared.entry.Path.{Path}
use Rattle.plain_monitor.specs.declared.entry.Path.TheVariants.{BiasOwn, BiasTaken, StackFirst, StackAgain, MonitorFirst, MonitorAgain}
use Rattle.plain_monitor.specs.declared.entry.Fault.{Fault}
use Rattle.plain_monitor.specs.declared.entry.Fault.TheVariants.{IllegalMonitorState, Unguarded, NotRef, NotInt}
use Rattle.plain_monitor.specs.declared.entry.Fault.TheVariants.{Range, Overflow, TooDeep, TooManyDumps, TooMany}
use Rattle.bias_check.specs.declared.spelled.Verb.{Verb}
use Rattle.bias_check.specs.declared.spelled.Verb.TheVariants as verb

abbrev pub acts : List (List ℕ × Verb)
acts =
    (codes "notify", verb.Notify) ∷ (codes "notifyall", verb.NotifyAll) ∷ (codes "hash", verb.Hash)
    ∷ (codes "new", verb.New) ∷ (codes "print", verb.Print)
    ∷ (codes "dump", verb.Dump) ∷ (codes "fault", verb.Fault) ∷ (codes "spent", verb.Spent)
    ∷ (codes "done", verb.Done) ∷ []

abbrev pub verbs : List (List ℕ × Verb)
verbs =
    (codes "enter", verb.Enter) ∷ (codes "exit", verb.Exit) ∷ (codes "wait", verb.Wait) ∷ (codes "resume", verb.Resume)
    ∷ (codes "get", verb.Get) ∷ (codes "put", verb.Put) ∷ acts

abbrev pub paths : List (List ℕ × Path)
paths =
    (codes "bias-own", BiasOwn) ∷ (codes "bias-taken", BiasTaken) ∷ (codes "stack-first", StackFirst)
    ∷ (codes "stack-again", StackAgain) ∷ (codes "monitor-first", MonitorFirst)
    ∷ (codes "monitor-again", MonitorAgain) ∷ []

abbrev pub faults : List (List ℕ × Fault)
faults =
    (codes "IllegalMonitorState", IllegalMonitorState) ∷ (codes "Unguarded", Unguarded) ∷ (codes "NotRef", NotRef)
    ∷ (codes "NotInt", NotInt) ∷ (codes "Range", Range) ∷ (codes "Overflow", Overflow) ∷ (codes "TooDeep", TooDeep)
    ∷ (codes "TooManyDumps", TooManyDumps) ∷ (codes "TooMany", TooMany) ∷ []

-- how a verb is spelled
abbrev pub verb_text : Verb → List ℕ
verb_text verb.Enter = codes "enter"
verb_text verb.Exit = codes "exit"
verb_text verb.Wait = codes "wait"
verb_text verb.Resume = codes "resume"
verb_text verb.Get = codes "get"
verb_text verb.Put = codes "put"
verb_text verb.Notify = codes "notify"
verb_text verb.NotifyAll = codes "notifyall"
verb_text verb.Hash = codes "hash"
verb_text verb.New = codes "new"
verb_text verb.Print = codes "print"
verb_text verb.Dump = codes "dump"
verb_text verb.Fault = codes "fault"
verb_text verb.Spent = codes "spent"
verb_text verb.Done = codes "done"
