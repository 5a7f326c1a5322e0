-- Why ends of heaps that are wrong are refused.
use Rattle.std.proofs.Common.{◌≡◌, ◌≢◌, ◌⊎◌, ℕ, zero, suc, ◌+◌, ◌<◌, ◌≤◌, ◌==◌, ◌&&◌, ◌||◌, not, Bool, true, false, List, [], ◌∷◌, ◌++◌}
use Rattle.std.proofs.Common.{length, Option, Some, None, refl, sym, ap, ◌∙◌, subst, arith, inl, inr, eq-eqb, ne_eqb, eqb-true, if◌then◌else◌, ◌*◌, ◌%◌}
use Rattle.std.specs.Prelude.{slice_get, slice_index, is_some}
use Rattle.std.specs.List.{list_any}
use Rattle.std.proofs.lemmas.Option.{same_Some}
use Rattle.plain_history.specs.ExactStamps.{StampsAreExact, IsTakingStamp}
use Rattle.plain_history.specs.HeldByLog.{HasLetGo, LetsGoOf, held_by, nothing_held}
use Rattle.plain_monitor.specs.declared.entry.Entry.{Entry}
use Rattle.plain_monitor.specs.declared.entry.Entry.TheVariants.{Done, Dump, Enter, Exit, Hash, Print, Wait}
use Rattle.plain_monitor.specs.declared.entry.Logged.{Logged}
use Rattle.plain_monitor.specs.declared.entry.Path.TheVariants.{StackFirst}
use Rattle.plain_monitor.specs.declared.entry.Value.TheVariants.{Nil}
use Rattle.plain_monitor.specs.History.{log_of}
use Rattle.plain_monitor.specs.Monitor.{PlainMonitor, free_monitor, is_listed, owns}
use Rattle.plain_monitor.specs.Objects.{PlainObject, new_object}
use Rattle.core_world.specs.declared.heap_call.Operation.TheVariants as op
use Rattle.core_world.specs.declared.heap_call.Unfinished.{Unfinished}
use Rattle.core_world.specs.declared.word_id.WordId.TheVariants.{Prototype, Waiting}
use Rattle.core_world.specs.Clauses.Classes.{bulk_rebiases, bulk_revokes}
use Rattle.core_world.specs.Clauses.Safepoints.{IsHeldUp, ends}
use Rattle.core_world.specs.Locks.{monitor_of}
use Rattle.core_world.specs.Opening.{first_known}
use Rattle.core_world.specs.Shots.{cells_of}
use Rattle.core_world.specs.Threads.ThreadView.{ThreadView, draw_of}
use Rattle.core_world.specs.Words.Forms.{is_halted, waits_on, says_notified, enters_on}
use Rattle.core_world.specs.Words.Shape.{Shape, monitor_count}
use Rattle.core_law.specs.Draws.{HasDraws}
use Rattle.core_law.specs.Logic.{Heap}
use Rattle.heap_table.specs.BiasesAtEnd.{counted_by}
use Rattle.heap_table.specs.Layout.{place_of}
use Rattle.closed_heap_laws.specs.Monitors.{IsNamed, IsNamedNowhere, MonitorsAreApart, kept_by, named_by, ringed_at, word_at}
use Rattle.closed_heap_laws.specs.OfARun.{IsEnd, HasShots, IsStuckEnd, unfinished_in}
use Rattle.closed_heap_laws.proofs.Prototypes.{biased_prototype, plain_prototype}
use Rattle.closed_heap_laws.proofs.Stuck.{no_hash_open}

-- STAMPS. An entry that let go of an object is an Exit or a Wait of the log
abbrev is_leaving : Entry → Bool
is_leaving (Exit o) = true
is_leaving (Wait o) = true
is_leaving _ = false

abbrev leaves_at : ℕ → Logged → Bool
leaves_at stamp l = is_leaving l.entry && (l.stamp == stamp)

any_among : (f : Logged → Bool) (before : List Logged) (l : Logged) (later : List Logged) → f l ≡ true
    → list_any f (before ++ l ∷ later) ≡ true
any_among f [] l later h = ap (λ b. b || list_any f later) h
any_among f (x ∷ before) l later h = or_right (f x) (list_any f (before ++ l ∷ later)) (any_among f before l later h)
  where
    or_right : (a b : Bool) → b ≡ true → (a || b) ≡ true
    or_right true b h = refl
    or_right false b h = h

leaving : (held : ℕ → ℕ) (e : Entry) (o : ℕ) → LetsGoOf held e o → is_leaving e ≡ true
leaving held e o (inl waits) = ap is_leaving waits
leaving held e o (inr exits) = ap is_leaving exits.0

left_at : (log : List Logged) (o stamp : ℕ) → HasLetGo log o stamp → list_any (leaves_at stamp) log ≡ true
left_at log o stamp h =
    let here : leaves_at stamp (record { stamp = stamp; entry = h.entry }) ≡ true =
    rw (leaving (held_by nothing_held h.before) h.entry o h.lets_go, eq-eqb stamp stamp refl) refl in
    ap (list_any (leaves_at stamp)) h.log_is ∙ any_among (leaves_at stamp) h.before _ h.later here

pub gapped : StampsAreExact ((record { stamp = 1; entry = Print Nil } ∷ record { stamp = 3; entry = Print Nil } ∷ []) ∷ []) → ⊥
gapped h =
    let is : 3 ≡ 2 = h 0 (record { stamp = 1; entry = Print Nil } ∷ []) (record { stamp = 3; entry = Print Nil }) [] refl in
    absurd (omega (arith, is))

pub twice_stamped : StampsAreExact ((record { stamp = 1; entry = Print Nil } ∷ record { stamp = 1; entry = Print Nil } ∷ []) ∷ []) → ⊥
twice_stamped h =
    let is : 1 ≡ 2 = h 0 (record { stamp = 1; entry = Print Nil } ∷ []) (record { stamp = 1; entry = Print Nil }) [] refl in
    absurd (omega (arith, is))

-- an enter with stamp 2, first of its log, where nobody let go of its object with stamp 1
abbrev LeavesLater : List (List Logged) → Type 0
LeavesLater logs = (t stamp : ℕ) → list_any (leaves_at stamp) (log_of logs t) ≡ true → stamp < 2 → ⊥

too_high : (logs : List (List Logged)) → LeavesLater logs → IsTakingStamp logs 0 0 2 → ⊥
too_high logs later h = by_last h.is_last.logged
  where
    by_last : (h.let_go ≡ 0) ⊎ ((t : ℕ) × HasLetGo (log_of logs t) 0 h.let_go) → ⊥
    by_last (inl none) = let next = h.next in absurd (omega (arith, none, next))
    by_last (inr (t, g)) = later t h.let_go (left_at (log_of logs t) 0 h.let_go g) h.is_last.below

pub high : StampsAreExact ((record { stamp = 2; entry = Enter 0 StackFirst } ∷ []) ∷ []) → ⊥
high h = too_high ((record { stamp = 2; entry = Enter 0 StackFirst } ∷ []) ∷ []) none
    (h 0 [] (record { stamp = 2; entry = Enter 0 StackFirst }) [] refl)
  where
    none : LeavesLater ((record { stamp = 2; entry = Enter 0 StackFirst } ∷ []) ∷ [])
    none zero stamp left below = absurd (cc left)
    none (suc t) stamp left below = absurd (cc left)

abbrev overtaken : List (List Logged)
overtaken =
    (record { stamp = 1; entry = Enter 0 StackFirst } ∷ record { stamp = 2; entry = Exit 0 } ∷ [])
    ∷ (record { stamp = 2; entry = Enter 0 StackFirst } ∷ []) ∷ []

pub early : StampsAreExact overtaken → ⊥
early h = too_high overtaken none (h 1 [] (record { stamp = 2; entry = Enter 0 StackFirst }) [] refl)
  where
    or_false : (b : Bool) → (b || false) ≡ true → b ≡ true
    or_false true e = refl
    or_false false e = e

    none : LeavesLater overtaken
    none zero stamp left below = let is = eqb-true 2 stamp (or_false (2 == stamp) left) in omega (arith, is, below)
    none (suc zero) stamp left below = absurd (cc left)
    none (suc (suc t)) stamp left below = absurd (cc left)

-- DRAWS
pub other_draw : (start value : ℕ) → value ≢ draw_of start 0 1
    → HasDraws start ((record { stamp = 1; entry = Hash 0 value (Some 1) } ∷ []) ∷ []) → ⊥
other_draw start value differs h = differs (h.drawn 0).0.1

pub twice_drawn : (start v w : ℕ)
    → HasDraws start
    ((record { stamp = 1; entry = Hash 0 v (Some 1) } ∷ []) ∷ (record { stamp = 1; entry = Hash 0 w (Some 1) } ∷ []) ∷ []) → ⊥
twice_drawn start v w h = let is : 2 ≡ 1 = h.one 0 0 refl in absurd (omega (arith, is))

pub drawn_by_nobody : (start v : ℕ) → HasDraws start ((record { stamp = 1; entry = Hash 0 v None } ∷ []) ∷ []) → ⊥
drawn_by_nobody start v h = let is : 0 ≡ 1 = h.one 0 0 refl in absurd (omega (arith, is))

pub drawn_late : (start v : ℕ)
    → HasDraws start
    ((record { stamp = 1; entry = Hash 0 v None } ∷ record { stamp = 2; entry = Hash 0 v (Some 1) } ∷ []) ∷ []) → ⊥
drawn_late start v h =
    let first : true ≡ false =
    h.first 0 0 v 1 (record { stamp = 1; entry = Hash 0 v None } ∷ []) (record { stamp = 2; entry = Hash 0 v (Some 1) }) [] refl refl in
    absurd (cc first)

-- SHOTS
pub cut_early : (shape : List (ℕ × ℕ)) (cells : List (Option ℕ × ℕ)) → HasShots shape
    ((record { stamp = 1; entry = Enter 0 StackFirst } ∷ record { stamp = 2; entry = Exit 0 } ∷ [])
    ∷ (record { stamp = 3; entry = Enter 0 StackFirst } ∷ record { stamp = 4; entry = Dump 1 } ∷ []) ∷ [])
    ([] ∷ (record { number = 1; cut = 0 ∷ 1 ∷ []; cells = cells } ∷ []) ∷ []) → ⊥
cut_early shape cells h = let before : false ≡ true = (h.right 1).0.in_order.0.0 refl in absurd (cc before)

-- by its cell the first object has an owner
abbrev owns_first : List (Option ℕ × ℕ) → Bool
owns_first [] = false
owns_first (c ∷ cs) = is_some c.0

not_owned : false ≡ true → ⊥
not_owned h = absurd (cc h)

pub other_cells : HasShots ((0, 0) ∷ [])
    ((record { stamp = 1; entry = Enter 0 StackFirst } ∷ record { stamp = 2; entry = Dump 1 } ∷ []) ∷ [])
    ((record { number = 1; cut = 1 ∷ []; cells = (None, 0) ∷ [] } ∷ []) ∷ []) → ⊥
other_cells h =
    let right = (h.right 0).0 in
    let entered : List PlainObject = record (new_object 0) { monitor = record free_monitor { owner = Some 0; count = 1 } } ∷ [] in
    let same : entered ≡ right.objects = same_Some entered right.objects right.taken in
    not_owned (ap owns_first (right.cells ∙ ap cells_of (sym same)))

pub unordered : (shape : List (ℕ × ℕ)) (logs : List (List Logged)) (c d : List (Option ℕ × ℕ)) → HasShots shape logs
    ((record { number = 1; cut = 1 ∷ 0 ∷ []; cells = c } ∷ []) ∷ (record { number = 1; cut = 0 ∷ 1 ∷ []; cells = d } ∷ []) ∷ []) → ⊥
unordered shape logs c d h =
    elim (h.ordered 0 1 0 0 (record { number = 1; cut = 1 ∷ 0 ∷ []; cells = c }) (record { number = 1; cut = 0 ∷ 1 ∷ []; cells = d }) refl refl) [
      | inl a ↦ let n : 1 ≤ 0 = a 0 in absurd (omega (arith, n))
      | inr b ↦ let n : 1 ≤ 0 = b 1 in absurd (omega (arith, n))
    ]

pub lacking : (shape : List (ℕ × ℕ)) → HasShots shape ((record { stamp = 1; entry = Dump 1 } ∷ []) ∷ []) ([] ∷ []) → ⊥
lacking shape h = let none = h.dumps 0 in absurd (cc none)

-- HALTED RUNS. Where nobody owns anything, and nobody waits, nobody is held up
not_held_up : (monitors : ℕ → PlainMonitor) → ((o : ℕ) → monitors o ≡ free_monitor) → (t : ℕ) (u : Option Unfinished)
    → IsHeldUp monitors t u → ⊥
not_held_up monitors free t u (o, inl waits) =
    let none = ap (λ (m : PlainMonitor). is_listed m.waits t) (free o) in absurd (cc (waits, none))
not_held_up monitors free t u (o, inr (asks, (v, other, owned))) =
    let none = ap (λ (m : PlainMonitor). owns m v) (free o) in absurd (cc (owned, none))

free_at : (o : ℕ) → monitor_of (new_object 0 ∷ []) o ≡ free_monitor
free_at zero = refl
free_at (suc o) = refl

pub free_to_enter : IsStuckEnd ((0, 0) ∷ []) 2
    (record (first_known 0) {
      log = record { stamp = 1; entry = Enter 0 StackFirst } ∷ record { stamp = 2; entry = Exit 0 }
          ∷ record { stamp = 3; entry = Done } ∷ [];
    }
    ∷ record (first_known 1) { unfinished = Some (record { op = op.Enter; object = 0 }) } ∷ []) → ⊥
free_to_enter h =
    let same : new_object 0 ∷ [] ≡ h.objects = same_Some (new_object 0 ∷ []) h.objects h.taken in
    let enters : Option Unfinished = Some (record { op = op.Enter; object = 0 }) in
    let held : IsHeldUp (monitor_of h.objects) 1 enters = h.stuck.1 1 (omega arith) refl in
    not_held_up (monitor_of h.objects) (λ o. ap (λ (objects : List PlainObject). monitor_of objects o) (sym same) ∙ free_at o) 1 enters held

pub all_ended : (shape : List (ℕ × ℕ)) → IsStuckEnd shape 1
    (record (first_known 0) { log = record { stamp = 1; entry = Done } ∷ [] } ∷ []) → ⊥
all_ended shape h = none h.stuck.0.0 h.stuck.0.1 h.stuck.0.2
  where
    none : (t : ℕ) → t < 1 → ends (log_of ((record { stamp = 1; entry = Done } ∷ []) ∷ []) t) ≡ false → ⊥
    none zero within live = absurd (cc live)
    none (suc t) within live = absurd (omega (arith, within))

pub hash_left : (heap : Heap) (words : List ℕ) (ks : List ThreadView) (k : ThreadView) (t o : ℕ)
    → is_halted (slice_index words 0) ≡ true → slice_get ks t ≡ Some k
    → k.unfinished ≡ Some (record { op = op.Hash; object = o }) → IsEnd heap words ks → ⊥
hash_left heap words ks k t o halted there is e = no_hash_open heap words ks e halted t o (ap unfinished_in there ∙ is)

-- PROTOTYPES. By how many bulk revokes and bulk rebiases there were
abbrev made_by : ℕ → ℕ → ℕ
made_by revoked rebiased = if revoked == 0 then rebiased % 4 * 256 + 5 else 1

module _ (heap : Heap) (words : List ℕ) (ks : List ThreadView) (c : ℕ) (within : c < heap.shape.classes) (biasing : heap.biasing ≡ true) where
  abbrev word : ℕ
  word = slice_index words (place_of heap.shape (Prototype c))

  abbrev revoked : ℕ
  revoked = bulk_revokes heap.shape.threads (counted_by ks) c

  abbrev rebiased : ℕ
  rebiased = bulk_rebiases heap.shape.threads (counted_by ks) c

  counted : (m n : ℕ) → revoked ≡ m → rebiased ≡ n → IsEnd heap words ks → word ≡ made_by m n
  counted m n is are e =
      biased_prototype heap words ks e c within biasing ∙ ap (λ x. made_by x rebiased) is ∙ ap (λ x. made_by m x) are

  pub still_biased : 0 < revoked → word ≡ 5 → IsEnd heap words ks → ⊥
  still_biased some five e =
      let told : word ≡ 1 =
      biased_prototype heap words ks e c within biasing
      ∙ ap (λ b. if b then rebiased % 4 * 256 + 5 else 1) (ne_eqb revoked 0 (λ none. omega (arith, none, some))) in
      absurd (omega (arith, five, told))

  pub old_epoch : revoked ≡ 0 → rebiased ≡ 1 → word ≡ 5 → IsEnd heap words ks → ⊥
  old_epoch none one five e =
      let told : word ≡ 261 = counted 0 1 none one e in
      absurd (omega (arith, five, told))

  pub early_epoch : revoked ≡ 0 → rebiased ≡ 0 → word ≡ 261 → IsEnd heap words ks → ⊥
  early_epoch none nothing later e =
      let told : word ≡ 5 = counted 0 0 none nothing e in
      absurd (omega (arith, later, told))

pub biased_plainly : (heap : Heap) (words : List ℕ) (ks : List ThreadView) (c : ℕ) → c < heap.shape.classes → heap.biasing ≡ false
    → slice_index words (place_of heap.shape (Prototype c)) ≡ 5 → IsEnd heap words ks → ⊥
biased_plainly heap words ks c within biasing five e =
    let told = plain_prototype heap words ks e c within biasing in
    absurd (omega (arith, five, told))

-- MONITORS
module _ (s : Shape) (words : List ℕ) (ks : List ThreadView) where
  pub two_marks : (o i m : ℕ) → i ≢ o → IsNamed s words o m → IsNamed s words i m → MonitorsAreApart s words ks → ⊥
  two_marks o i m differs here there apart = differs ((apart.named o m here).2 i there)

  pub two_threads_keep : (t u m : ℕ) → u ≢ t → kept_by ks t ≡ Some m → kept_by ks u ≡ Some m → MonitorsAreApart s words ks → ⊥
  two_threads_keep t u m differs here there apart = differs ((apart.kept t m here).2 u there)

  pub kept_and_named : (t o m : ℕ) → kept_by ks t ≡ Some m → IsNamed s words o m → MonitorsAreApart s words ks → ⊥
  kept_and_named t o m kept named apart = (apart.kept t m kept).1 o named

  module _ (apart : MonitorsAreApart s words ks) (p : ℕ) where
    pub ringed_and_named : (o m : ℕ) → apart.first ≤ p → p < apart.first + apart.ringed → ringed_at s words p ≡ m → IsNamed s words o m → ⊥
    ringed_and_named o m from to here named = (apart.stands p from to).1 o (subst (IsNamed s words o) (sym here) named)

    pub ringed_and_kept : (t m : ℕ) → apart.first ≤ p → p < apart.first + apart.ringed → ringed_at s words p ≡ m → kept_by ks t ≡ Some m → ⊥
    ringed_and_kept t m from to here kept = (apart.stands p from to).2 t (kept ∙ ap Some (sym here))

    pub ringed_twice : (q m : ℕ) → apart.first ≤ p → p < apart.first + apart.ringed → apart.first ≤ q → q < apart.first + apart.ringed
        → q ≢ p → ringed_at s words p ≡ m → ringed_at s words q ≡ m → ⊥
    ringed_twice q m from to after before differs here there = differs ((apart.stands p from to).3 q after before (there ∙ sym here))

  pub lost : (m : ℕ) → m < monitor_count s → 0 < length s.objects → ((t : ℕ) → kept_by ks t ≢ Some m) → IsNamedNowhere s words m
      → ((p : ℕ) → ringed_at s words p ≢ m) → MonitorsAreApart s words ks → ⊥
  lost m within some unkept unnamed unringed apart = elim (apart.each m within some) [
    | inl (t, kept) ↦ unkept t kept
    | inr (inl (o, named)) ↦ unnamed o named
    | inr (inr (p, from, to, ringed)) ↦ unringed p ringed
  ]

  pub waits_without : (t o : ℕ) → t < s.threads → waits_on (word_at s words (Waiting t)) o ≡ true → named_by s words o ≡ None
      → MonitorsAreApart s words ks → ⊥
  waits_without t o within waits none apart =
      let word = word_at s words (Waiting t) in
      let named = apart.in_use t o within (ap (λ b. not b && not (says_notified word o) && not (enters_on word o)) waits) in
      absurd (cc (none, named.1.1))
