use Rattle.std.proofs.Common.{◌≡◌, ℕ, ◌||◌, true, List, drop, take, length, sym, ap, ◌∙◌, lt-ltb, arith}
use Rattle.std.specs.List.{list_any}
use Rattle.std.proofs.lemmas.Bool.{and_from, or_right}
use Rattle.std.proofs.lemmas.List.{take-append-drop}
use Rattle.std.proofs.lemmas.List.Folds.{list_any-append}
use Rattle.plain_monitor.specs.declared.entry.Logged.{Logged}
use Rattle.core_world.specs.Threads.References.{is_object, tells_of, is_told, knows_by_log, numbering}
use Rattle.core_world.specs.Words.Shape.{Shape}
use Rattle.heap_table.specs.Seen.{given_of}
use Rattle.runtime_tests.proofs.asked.is_known.Goals as goal

-- what a part of the log tells the log tells
told_after : (n : ℕ) (log : List Logged) (o : ℕ) → is_told (drop n log) o ≡ true → is_told log o ≡ true
told_after n log o e =
    let tells = λ (l : Logged). tells_of o l.entry in
    ap (list_any tells) (sym (take-append-drop n log)) ∙ list_any-append tells (take n log) (drop n log) ∙ or_right (list_any tells (take n log)) _ e

pub returns-then-object-objects : goal.returns-then-object-objects
returns-then-object-objects c = λ e.
    let s = c.args.heap.now.heap.shape in
    let log = c.args.pass.now.known.log in
    let o = c.args.object in
    let below = c.if-object-objects.true in
    let count = c.objects.ensures in
    let shape = ap (λ (x : Shape). length x.objects) c.shape.ensures in
    let told : is_told (drop (given_of c.args.pass.now) log) o ≡ true = ap (λ l. is_told l o) (sym c.log.ensures) ∙ sym c.is_told.ensures ∙ e in
    and_from (is_object s o) (knows_by_log (numbering s) log o) (lt-ltb o (length s.objects) (omega (arith, below, count, shape)))
    (or_right _ (is_told log o) (told_after (given_of c.args.pass.now) log o told))
