-- The object that a create makes: the heap has its number, and its thread knows it by its log.
use Rattle.std.proofs.Common.{◌≡◌, ℕ, ◌+◌, ◌*◌, ◌<◌, ◌≤◌, ◌||◌, nat_lt, true, false, length, List, [], ◌∷◌}
use Rattle.std.proofs.Common.{◌++◌, Result, Ok, refl, sym, ap, ◌∙◌, subst, arith, lt-ltb, leb-true, eq-eqb}
use Rattle.std.proofs.Math.Bool.{or-true}
use Rattle.std.proofs.lemmas.Bool.{and_from}
use Rattle.std.proofs.lemmas.List.Folds.{list_any-append}
use Rattle.plain_monitor.specs.Limits.{most_made}
use Rattle.plain_monitor.specs.declared.entry.Entry.TheVariants.{New}
use Rattle.plain_monitor.specs.declared.entry.Logged.{Logged}
use Rattle.plain_monitor.specs.Made.{first_made}
use Rattle.core_world.specs.declared.answer.TooMany.{TooMany}
use Rattle.core_world.specs.Threads.ThreadView.{ThreadView, local_of}
use Rattle.core_world.specs.Threads.References.{is_object, numbering, tells_of, is_told, knows_by_log, has_reference}
use Rattle.core_world.specs.Trees.Calls.{has_made_numbers}
use Rattle.core_world.specs.Trees.CreateSteps.{count_made, next_made}
use Rattle.core_world.specs.Trees.Operations.{create_steps}
use Rattle.core_world.specs.Words.Shape.{Shape}
use Rattle.core_calls.proofs.made.CreatesSay.{create_stamps}
use Rattle.heap_table.specs.Parts.{HasMadeSteps}
use Rattle.heap_table.specs.Resting.{Rests, start_now}
use Rattle.heap_table.specs.Seen.{HeapSeen, PassSeen}
use Rattle.lock_runtime.proofs.Declared.{declared_among, first_is_declared}

-- the heap has each number that a thread has for its objects
numbered : (s : Shape) (k : ThreadView) → s.declared ≤ length s.objects → k.thread < s.threads → has_made_numbers s ≡ true
    → count_made (local_of k) < most_made → next_made s (local_of k) < length s.objects
numbered s k most within all room =
    let first = first_is_declared s most in
    let numbers : s.declared + most_made * s.threads ≤ length s.objects = leb-true _ _ all in
    omega (arith, first, numbers, within, room)

-- a log that ends with the object's New tells of it
told_new : (log : List Logged) (stamp o c : ℕ) → is_told (log ++ record { stamp = stamp; entry = New o c } ∷ []) o ≡ true
told_new log stamp o c =
    list_any-append (λ (l : Logged). tells_of o l.entry) log (record { stamp = stamp; entry = New o c } ∷ [])
    ∙ ap (λ b. is_told log o || (b || false)) (eq-eqb o o refl) ∙ or-true (is_told log o)

pub created_known : (h : HeapSeen) (p q : PassSeen) (c o : ℕ) → Rests h p → has_made_numbers h.heap.shape ≡ true
    → count_made (local_of p.known) < most_made → o ≡ next_made h.heap.shape (local_of p.known)
    → HasMadeSteps {A = Result ℕ TooMany} h (create_steps h.heap.shape (start_now h p) c) p q (Ok o) → has_reference h.heap.shape q.known o ≡ true
created_known h p q c o rests all room is run =
    let s = h.heap.shape in
    let here = numbered s p.known (declared_among h p rests.is_of) rests.is_of.within all room in
    let log = create_stamps s (start_now h p) c s h.heap.start p.known q.known o run.ran in
    let told = ap (λ (l : List Logged). is_told l o) log ∙ told_new p.known.log _ o c in
    and_from (is_object s o) (knows_by_log (numbering s) q.known.log o) (lt-ltb o (length s.objects) (subst (λ n. n < length s.objects) (sym is) here))
    (ap (λ b. nat_lt o (first_made (numbering s)) || b) told ∙ or-true (nat_lt o (first_made (numbering s))))
