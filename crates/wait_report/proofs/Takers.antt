-- The handovers that are counted are those of the takings.
use Rattle.std.proofs.Common.{◌≡◌, ℕ, ◌+◌, ◌==◌, ◌&&◌, not, if◌then◌else◌, eqb-true, eq-eqb, Bool, true, false, List, []}
use Rattle.std.proofs.Common.{◌∷◌, Option, Some, None, IsSome, option_and_then, refl, sym, ap, ◌∙◌, arith, inl, inr}
use Rattle.plain_monitor.specs.declared.entry.Path.{Path}
use Rattle.plain_monitor.specs.declared.entry.Entry.{Entry}
use Rattle.plain_monitor.specs.declared.entry.Entry.TheVariants.{Enter, Exit, Get, Put, Wait, Resume, Notify, NotifyAll}
use Rattle.plain_monitor.specs.declared.entry.Entry.TheVariants.{Hash}
use Rattle.plain_monitor.specs.declared.entry.Logged.{Logged}
use Rattle.plain_monitor.specs.Monitor.{PlainMonitor}
use Rattle.plain_monitor.specs.Objects.{PlainObject, take_entry}
use Rattle.plain_monitor.specs.History.{take_all}
use Rattle.plain_machine.specs.Sound.{monitor_in}
use Rattle.wait_report.specs.declared.tallies.Tally.{Tally}
use Rattle.wait_report.specs.Handovers.{is_taking, takers_on, takers_from, is_handover, handovers_from}
use Rattle.wait_report.specs.inner.Tallies.{had_by, entered_by}
use Rattle.wait_report.proofs.Tallied.{tally_on, tally_through}
use Rattle.wait_report.proofs.Turns.{Keeps, Enters, TurnOf, Turns, named_turns, unnamed_turns}

-- who owns the monitor is the last that took it
abbrev IsTaker : PlainMonitor → Option ℕ → Type 0
IsTaker m taker = (u : ℕ) → m.owner ≡ Some u → taker ≡ Some u

-- what an entry makes of the tally, where n is the monitor after it: the handovers by the takings, this one and those after it, are
-- those counted so far and those to come
record IsTallied (t : ℕ) (taking : Bool) (n : PlainMonitor) (y next : Tally) : Type 0 where
  handovers : (ts : List ℕ) → y.handovers + handovers_from y.taker (if taking then t ∷ ts else ts) ≡ next.handovers + handovers_from next.taker ts
  taker : IsTaker n next.taker

no_handover : (taker : Option ℕ) (t : ℕ) → taker ≡ Some t → is_handover taker t ≡ false
no_handover taker t e = rw e (ap not (eq-eqb t t refl))

owner_only : (n : PlainMonitor) (t : ℕ) → n.owner ≡ Some t → IsTaker n (Some t)
owner_only n t own u e = sym own ∙ e

-- a taking
has_taken : (before : Option ℕ) (h t : ℕ) (ts : List ℕ)
    → h + handovers_from before (t ∷ ts) ≡ (h + (if is_handover before t then 1 else 0)) + handovers_from (Some t) ts
has_taken before h t ts = omega arith

-- a further enter by the last taker
has_again : (before : Option ℕ) (h t : ℕ) (ts : List ℕ) → before ≡ Some t
    → h + handovers_from before ts ≡ (h + (if is_handover before t then 1 else 0)) + handovers_from (Some t) ts
has_again before h t ts e =
    let none = no_handover before t e in
    rw (none, e) (omega arith)

entered_at : (o t : ℕ) (path : Path) (m n : PlainMonitor) (y : Tally) → IsTaker m y.taker → Enters m n t → (ts : List ℕ)
    → y.handovers + handovers_from y.taker (if n.count == 1 then t ∷ ts else ts) ≡ (had_by y t).handovers + handovers_from (Some t) ts
entered_at o t path m n y taker enters ts = by_count (n.count == 1) refl where
  again : (n.count == 1) ≡ false → y.taker ≡ Some t
  again f = elim enters.again [
    | inl own ↦ taker t own
    | inr one ↦ absurd (let own : (n.count == 1) ≡ true = eq-eqb n.count 1 one in cc (own, f))
  ]

  by_count : (b : Bool) → (n.count == 1) ≡ b
      → y.handovers + handovers_from y.taker (if b then t ∷ ts else ts) ≡ (had_by y t).handovers + handovers_from (Some t) ts
  by_count true e = has_taken y.taker y.handovers t ts
  by_count false e = has_again y.taker y.handovers t ts (again e)

-- an entry that does nothing to the object
untouched : (t : ℕ) (m n : PlainMonitor) (y : Tally) → IsTaker m y.taker → Keeps m n → IsTallied t false n y y
untouched t m n y taker keeps = record { handovers = λ ts. refl; taker = λ u own. taker u (keeps u own) }

-- an enter of object k
enter_tallied : (o t k : ℕ) (path : Path) (objects after : List PlainObject) (y : Tally)
    → IsTaker (monitor_in objects o) y.taker → Turns objects o t k (Enter k path) after
    → IsTallied t (is_taking o (monitor_in after o).count (Enter k path)) (monitor_in after o) y (tally_on o y t (Enter k path))
enter_tallied o t k path objects after y taker turns = by_object (k == o) refl where
  by_object : (b : Bool) → (k == o) ≡ b
      → IsTallied t (b && ((monitor_in after o).count == 1)) (monitor_in after o) y (if b then entered_by (had_by y t) path else y)
  by_object true e =
      let enters = turns.here (eqb-true k o e) in
      record {
        handovers = entered_at o t path (monitor_in objects o) (monitor_in after o) y taker enters;
        taker = owner_only (monitor_in after o) t enters.owns;
      }
  by_object false e =
      untouched t (monitor_in objects o) (monitor_in after o) y taker
      (turns.elsewhere (λ h. absurd (let same : (k == o) ≡ true = eq-eqb k o h in cc (same, e))))

-- a resume of object k
resume_tallied : (o t k : ℕ) (objects after : List PlainObject) (y : Tally) → IsTaker (monitor_in objects o) y.taker → Turns objects o t k (Resume k) after
    → IsTallied t (is_taking o (monitor_in after o).count (Resume k)) (monitor_in after o) y (tally_on o y t (Resume k))
resume_tallied o t k objects after y taker turns = by_object (k == o) refl where
  by_object : (b : Bool) → (k == o) ≡ b → IsTallied t b (monitor_in after o) y (if b then had_by y t else y)
  by_object true e = record { handovers = has_taken y.taker y.handovers t; taker = owner_only (monitor_in after o) t (turns.here (eqb-true k o e)) }
  by_object false e =
      untouched t (monitor_in objects o) (monitor_in after o) y taker
      (turns.elsewhere (λ h. absurd (let same : (k == o) ≡ true = eq-eqb k o h in cc (same, e))))

-- another entry, of object k
other_tallied : (o t k : ℕ) (e : Entry) (objects after : List PlainObject) (y : Tally) → IsTaker (monitor_in objects o) y.taker → Turns objects o t k e after
    → (TurnOf e (monitor_in objects o) (monitor_in after o) t → Keeps (monitor_in objects o) (monitor_in after o)) → IsTallied t false (monitor_in after o) y y
other_tallied o t k e objects after y taker turns keeps = untouched t (monitor_in objects o) (monitor_in after o) y taker (by_object (k == o) refl) where
  by_object : (b : Bool) → (k == o) ≡ b → Keeps (monitor_in objects o) (monitor_in after o)
  by_object true at = keeps (turns.here (eqb-true k o at))
  by_object false at = turns.elsewhere (λ h. absurd (let same : (k == o) ≡ true = eq-eqb k o h in cc (same, at)))

-- an entry that the objects take
entry_tallied : (o t : ℕ) (e : Entry) (objects after : List PlainObject) (y : Tally)
    → IsTaker (monitor_in objects o) y.taker → take_entry objects t e ≡ Some after
    → IsTallied t (is_taking o (monitor_in after o).count e) (monitor_in after o) y (tally_on o y t e)
entry_tallied o t (Enter k path) objects after y taker h = enter_tallied o t k path objects after y taker (named_turns objects o t k (Enter k path) after h)
entry_tallied o t (Resume k) objects after y taker h = resume_tallied o t k objects after y taker (named_turns objects o t k (Resume k) after h)
entry_tallied o t (Exit k) objects after y taker h =
    other_tallied o t k (Exit k) objects after y taker (named_turns objects o t k (Exit k) after h) (λ turn. turn)
entry_tallied o t (Wait k) objects after y taker h =
    other_tallied o t k (Wait k) objects after y taker (named_turns objects o t k (Wait k) after h) (λ turn. turn)
entry_tallied o t (Notify k w) objects after y taker h =
    other_tallied o t k (Notify k w) objects after y taker (named_turns objects o t k (Notify k w) after h) (λ turn. turn)
entry_tallied o t (NotifyAll k w) objects after y taker h =
    other_tallied o t k (NotifyAll k w) objects after y taker (named_turns objects o t k (NotifyAll k w) after h) (λ turn. turn)
entry_tallied o t (Get k i v) objects after y taker h =
    other_tallied o t k (Get k i v) objects after y taker (named_turns objects o t k (Get k i v) after h) (λ turn. turn)
entry_tallied o t (Put k i v) objects after y taker h =
    other_tallied o t k (Put k i v) objects after y taker (named_turns objects o t k (Put k i v) after h) (λ turn. turn)
entry_tallied o t (Hash k v d) objects after y taker h =
    other_tallied o t k (Hash k v d) objects after y taker (named_turns objects o t k (Hash k v d) after h) (λ turn. turn)
entry_tallied o t _ objects after y taker h = untouched t (monitor_in objects o) (monitor_in after o) y taker (unnamed_turns objects o after h)

-- the handovers that are counted are those of the takings
pub through_handovers : (o : ℕ) (xs : List (ℕ × Logged)) (objects : List PlainObject) (y : Tally)
    → IsSome (take_all objects xs) → ((u : ℕ) → (monitor_in objects o).owner ≡ Some u → y.taker ≡ Some u)
    → (tally_through o y xs).handovers ≡ y.handovers + handovers_from y.taker (takers_from objects o xs)
through_handovers o [] objects y taken taker = omega arith
through_handovers o (x ∷ xs) objects y taken taker =
    by_taking (take_entry objects x.0 x.1.entry) refl taken (λ after. through_handovers o xs after (tally_on o y x.0 x.1.entry))
  where
    by_taking : (r : Option (List PlainObject)) → take_entry objects x.0 x.1.entry ≡ r → IsSome (option_and_then (λ after. take_all after xs) r)
        → ((after : List PlainObject) → IsSome (take_all after xs) → IsTaker (monitor_in after o) (tally_on o y x.0 x.1.entry).taker
        → (tally_through o (tally_on o y x.0 x.1.entry) xs).handovers
        ≡ (tally_on o y x.0 x.1.entry).handovers + handovers_from (tally_on o y x.0 x.1.entry).taker (takers_from after o xs))
        → (tally_through o (tally_on o y x.0 x.1.entry) xs).handovers ≡ y.handovers + handovers_from y.taker (takers_on o x r (λ after. takers_from after o xs))
    by_taking None at taken rest = absurd (cc taken)
    by_taking (Some after) at taken rest =
        let here = entry_tallied o x.0 x.1.entry objects after y taker at in
        rest after taken here.taker ∙ sym (here.handovers (takers_from after o xs))
