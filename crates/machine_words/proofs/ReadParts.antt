-- What the code that reads an object or a thread, step by step, comes to.
use Rattle.std.proofs.Common.{◌≡◌, ℕ, ◌+◌, ◌<◌, ◌/◌, ◌%◌, ◌++◌, pos, List, [], ◌∷◌, length, set, Option, refl, sym, ap, ◌∙◌}
use Rattle.std.proofs.lemmas.List.{length-set, set-set, get_or-set_same, replicate_more}
use Rattle.plain_monitor.specs.declared.entry.Value.{Value}
use Rattle.plain_monitor.specs.declared.entry.Value.TheVariants.{Int}
use Rattle.plain_monitor.specs.Made.{made_by}
use Rattle.plain_monitor.specs.Objects.{PlainObject, new_object}
use Rattle.plain_machine.specs.declared.monitor_call.MonitorCall.TheVariants.{Dump}
use Rattle.plain_machine.specs.declared.monitor_call.Mode.{Mode}
use Rattle.plain_machine.specs.declared.monitor_call.Mode.TheVariants.{Calling}
use Rattle.plain_machine.specs.Thread.{ThreadState}
use Rattle.machine_words.specs.Readers.{word_option, read_numbers, read_pairs, read_values}
use Rattle.machine_words.specs.MadeWords.{read_row}
use Rattle.machine_words.specs.ModeWords.{mode_with}
use Rattle.machine_words.specs.ObjectWords.{read_object}
use Rattle.machine_words.specs.ThreadWords.{read_thread}
use Rattle.machine_words.specs.inner.Reading.{unplaced}

-- a cleared object that is given its owner, count and hash
abbrev pub given : Option ℕ → ℕ → Option ℕ → PlainObject
given owner count hash = record {
  monitor = record { owner = owner; count = count; waits = []; called = [] };
  slots = [];
  hash = hash;
}

pub object_is : (slots owner count hash waits called : ℕ) (all ws ws1 ws2 ws3 : List ℕ) (o h : Option ℕ) (x0 x1 x2 x3 : PlainObject)
    → all ≡ owner ∷ count ∷ hash ∷ waits ∷ called ∷ ws → o ≡ word_option owner → h ≡ word_option hash → x0 ≡ given o count h
    → x1 ≡ record x0 { monitor = record x0.monitor { waits = x0.monitor.waits ++ (read_pairs waits ws).0 } } → ws1 ≡ (read_pairs waits ws).1
    → x2 ≡ record x1 { monitor = record x1.monitor { called = x1.monitor.called ++ (read_pairs called ws1).0 } } → ws2 ≡ (read_pairs called ws1).1
    → x3 ≡ record x2 { slots = x2.slots ++ (read_values slots ws2).0 } → ws3 ≡ (read_values slots ws2).1
    → (x3 ≡ (read_object slots all).0) × (ws3 ≡ (read_object slots all).1)
object_is slots owner count hash waits called all ws ws1 ws2 ws3 o h x0 x1 x2 x3 is is_o is_h e0 e1 f1 e2 f2 e3 f3 =
    rw (is, e3, f3, e2, f2, e1, f1, e0, is_o, is_h) (refl, refl)

-- a thread without locals, with these holds, that is given its place, its dumps, what it has made, its fuel and its mode
abbrev pub begun : List ℕ → ℕ → ℕ → ℕ → ℕ → Mode → ThreadState
begun holds place dumps made fuel mode =
    record { place = place; locals = []; fuel = fuel; holds = holds; dumps = dumps; made = made; mode = mode }

pub thread_is : (holds : List ℕ) (fuel head rest made locals place dumps : ℕ) (all ws ws1 : List ℕ) (mode : Mode) (s0 s1 : ThreadState)
    → all ≡ head ∷ rest ∷ made ∷ locals ∷ ws → place ≡ head / 256 → dumps ≡ head / 32 % 8
    → mode ≡ mode_with (Calling (Dump 0)) (head % 32) rest → s0 ≡ begun holds place dumps made fuel mode
    → s1 ≡ record s0 { locals = s0.locals ++ (read_values locals ws).0 } → ws1 ≡ (read_values locals ws).1
    → (s1 ≡ unplaced fuel holds (read_thread all).0) × (ws1 ≡ (read_thread all).1)
thread_is holds fuel head rest made locals place dumps all ws ws1 mode s0 s1 is is_place is_dumps is_mode e0 e1 f1 =
    rw (is, e1, f1, e0, is_place, is_dumps, is_mode) (refl, refl)

-- the row of thread t has one class more, and no other has changed since the first ones
pub row_more : (t : ℕ) (first old new : List (List ℕ)) (x : ℕ) → t < length old → old ≡ set first t (made_by old t)
    → new ≡ set old t (made_by old t ++ x ∷ [])
    → (new ≡ set first t (made_by new t)) × (made_by new t ≡ made_by old t ++ x ∷ []) × (length new ≡ length old)
row_more t first old new x lt same is =
    let grown : List ℕ = made_by old t ++ x ∷ [] in
    let now : made_by new t ≡ grown = ap (λ (m : List (List ℕ)). made_by m t) is ∙ get_or-set_same old t grown [] lt in (
      is ∙ ap (λ (m : List (List ℕ)). set m t grown) same ∙ set-set first t (made_by old t) grown ∙ ap (λ (xs : List ℕ). set first t xs) (sym now),
      now,
      ap length is ∙ length-set old t grown,
    )

-- a cleared row is read
pub row_is : (t count : ℕ) (first cleared new : List (List ℕ)) (all ws after : List ℕ) → t < length first → all ≡ count ∷ ws
    → cleared ≡ set first t [] → new ≡ set cleared t (made_by cleared t ++ (read_numbers count ws).0) → after ≡ (read_numbers count ws).1
    → (new ≡ set first t (read_row all).0) × (after ≡ (read_row all).1)
row_is t count first cleared new all ws after lt is clear e f =
    let row : List ℕ = (read_numbers count ws).0 in
    let none : made_by cleared t ≡ [] = ap (λ (m : List (List ℕ)). made_by m t) clear ∙ get_or-set_same first t [] [] lt in
    let made : new ≡ set first t row =
    e ∙ ap (λ (xs : List ℕ). set cleared t (xs ++ row)) none ∙ ap (λ (m : List (List ℕ)). set m t row) clear ∙ set-set first t [] row in
    rw is (made, f)

-- an object as at first has one slot more
pub new_more : (n : ℕ) (old new : PlainObject) → old ≡ new_object n → new ≡ record old { slots = old.slots ++ Int (pos 0) ∷ [] }
    → new ≡ new_object (n + 1)
new_more n old new is e =
    e ∙ ap (λ (x : PlainObject). record x { slots = x.slots ++ Int (pos 0) ∷ [] }) is
    ∙ ap (λ (vs : List Value). record (new_object n) { slots = vs }) (replicate_more n (Int (pos 0)))
