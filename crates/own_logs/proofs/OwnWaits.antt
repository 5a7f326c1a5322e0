-- A thread that rests waits on an object by its waiting word, as it last stored it, exactly where it does by its own log.
use Rattle.std.proofs.Common.{◌≡◌, ◌⊎◌, ℕ, ◌^◌, ◌<◌, ◌==◌, ◌||◌, eq-eqb, eqb-true, Bool, true, false}
use Rattle.std.proofs.Common.{List, Option, Some, refl, sym, ap, ◌∙◌, subst, inl, inr}
use Rattle.std.proofs.Math.Bool.{or-true}
use Rattle.mark_word.specs.declared.wait.WaitForm.{WaitForm}
use Rattle.mark_word.specs.declared.wait.WaitForm.TheVariants.{Waiting, Notified}
use Rattle.mark_word.specs.Wait.{wait_of, read_wait}
use Rattle.mark_word.proofs.ReadingWaits.{read_wait-wait_of, read_wait-spells}
use Rattle.plain_monitor.specs.Monitor.{is_listed}
use Rattle.plain_monitor.specs.declared.entry.Logged.{Logged}
use Rattle.core_world.specs.Locks.{waits_at, notified_at}
use Rattle.core_world.specs.Words.Forms.{waits_form, waits_on, notified_form, says_notified}
use Rattle.core_world.specs.declared.word_id.WordId.TheVariants as id
use Rattle.core_world.specs.Threads.AtRest.{AtRest}
use Rattle.core_world.specs.Threads.ThreadView.{ThreadView}
use Rattle.core_world.specs.Words.Shape.{Shape}
use Rattle.core_world.specs.World.{logs}
use Rattle.heap_table.specs.Resting.{Rests}
use Rattle.heap_table.specs.Seen.{HeapSeen, PassSeen}
use Rattle.heap_table.proofs.Resting.{at_rest}
use Rattle.wait_history.specs.WaitsByLog.{waits_by}
use Rattle.wait_history.proofs.WaitsByLog.{waits_by_log}
use Rattle.own_logs.proofs.Settled.{Settled, settled, log_settled}

-- two tests are the same where each follows from the other
same_tests : (a b : Bool) → (a ≡ true → b ≡ true) → (b ≡ true → a ≡ true) → a ≡ b
same_tests true b f g = sym (f refl)
same_tests false true f g = g refl
same_tests false false f g = refl

-- WORDS. A word that says Waiting says it with one object, whose number is in its range
form_waits : (f : Option WaitForm) (o : ℕ) → waits_form f o ≡ true → (stamp : ℕ) × (f ≡ Some (Waiting o stamp))
form_waits (Some (Waiting i stamp)) o h = (stamp, ap (λ j. Some (Waiting j stamp)) (eqb-true i o h))
form_waits _ o h = absurd (cc h)

in_range : (n o : ℕ) → waits_on n o ≡ true → o < 2 ^ 15
in_range n o h = let f = form_waits (read_wait n) o h in (read_wait-spells n (Waiting o f.0) f.1).0.0

same_object : (n o i : ℕ) → waits_on n o ≡ true → waits_on n i ≡ true → i ≡ o
same_object n o i h g =
    let f = form_waits (read_wait n) o h in
    let here : waits_form (Some (Waiting o f.0)) i ≡ true = ap (λ x. waits_form x i) (sym f.1) ∙ g in
    sym (eqb-true o i here)

-- what a thread stored and its word say of an object, where the word may have been changed once it stored that it waits
abbrev IsStored : ℕ → ℕ → Type 0
IsStored word own = (word ≡ own) ⊎ ((o : ℕ) × (waits_on own o ≡ true) × (word ≡ wait_of (Notified o)))

-- the word that tells it
told : (word o i : ℕ) → i < 2 ^ 15 → word ≡ wait_of (Notified i) → says_notified word o ≡ (i == o)
told word o i small e = ap (λ x. says_notified x o) e ∙ ap (λ f. notified_form f o) (read_wait-wait_of (Notified i) small)

untold_waits : (word o i : ℕ) → i < 2 ^ 15 → word ≡ wait_of (Notified i) → waits_on word o ≡ false
untold_waits word o i small e = ap (λ x. waits_on x o) e ∙ ap (λ f. waits_form f o) (read_wait-wait_of (Notified i) small)

-- who stored that it waits has a word that says so, or that it was notified
stored_says : (word own o : ℕ) → IsStored word own → waits_on own o ≡ true → (waits_on word o ≡ true) ⊎ (says_notified word o ≡ true)
stored_says word own o (inl same) h = inl (ap (λ x. waits_on x o) same ∙ h)
stored_says word own o (inr s) h =
    let i = same_object own o s.0 h s.1 in
    inr (told word o s.0 (in_range own s.0 s.1) s.2 ∙ eq-eqb s.0 o i)

-- and who has a word that says so stored that it waits, where it stored of no object that it was notified
said_stored : (word own o : ℕ) → IsStored word own → says_notified own o ≡ false
    → (waits_on word o ≡ true) ⊎ (says_notified word o ≡ true) → waits_on own o ≡ true
said_stored word own o (inl same) untold (inl h) = ap (λ x. waits_on x o) (sym same) ∙ h
said_stored word own o (inl same) untold (inr h) = let n = ap (λ x. says_notified x o) (sym same) ∙ h in absurd (cc (n, untold))
said_stored word own o (inr s) untold (inl h) = let n = untold_waits word o s.0 (in_range own s.0 s.1) s.2 in absurd (cc (n, h))
said_stored word own o (inr s) untold (inr h) =
    let i : s.0 ≡ o = eqb-true s.0 o (sym (told word o s.0 (in_range own s.0 s.1) s.2) ∙ h) in
    subst (λ j. waits_on own j ≡ true) i s.1

or_cases : (a b : Bool) → (a || b) ≡ true → (a ≡ true) ⊎ (b ≡ true)
or_cases true b h = inl refl
or_cases false b h = inr h

-- THE WORLD of a thread in the middle of nothing
module _ (s : Shape) (k : ThreadView) (z : Settled s k) (rest : AtRest s k) (o : ℕ) where
  abbrev word : ℕ
  word = z.world.words (id.Waiting k.thread)

  stored : IsStored word k.wait
  stored = subst (λ (x : ThreadView). IsStored word x.wait) z.knew (z.fits.waits.stored k.thread)

  abbrev waits : Bool
  waits = is_listed (waits_at z.objects o) k.thread

  abbrev called : Bool
  called = is_listed (notified_at z.objects o) k.thread

  listed : (waits_on word o ≡ true) ⊎ (says_notified word o ≡ true) → (waits || called) ≡ true
  listed (inl h) = ap (λ b. b || called) (z.fits.waits.waiter k.thread o h)
  listed (inr h) = elim (z.fits.waits.told k.thread o h) [
    | inl c ↦ ap (λ b. waits || b) c ∙ or-true waits
    | inr w ↦ ap (λ b. b || called) w.0
  ]

  says : (waits ≡ true) ⊎ (called ≡ true) → (waits_on word o ≡ true) ⊎ (says_notified word o ≡ true)
  says (inl w) = elim (z.fits.waits.waiting k.thread o w) [ inl h ↦ inl h | inr h ↦ inr h.0 ]
  says (inr c) = elim (z.fits.waits.notified k.thread o c) [
    | inl h ↦ inr h
    | inr h ↦ let calm = ap (λ (x : ThreadView). x.stage) z.knew ∙ rest.calm in let resumes = h.1 in absurd (cc (calm, resumes))
  ]

  stands : waits_on k.wait o ≡ (waits || called)
  stands = same_tests (waits_on k.wait o) (waits || called)
      (λ h. listed (stored_says word k.wait o stored h))
      (λ h. said_stored word k.wait o stored (rest.untold o) (says (or_cases waits called h)))

pub own_waits : (h : HeapSeen) (p : PassSeen) (o : ℕ) → Rests h p → waits_on p.known.wait o ≡ waits_by false p.known.log o
own_waits h p o rests =
    let s = h.heap.shape in
    let k = p.known in
    let z = settled h p rests in
    stands s k z (at_rest h p rests) o
    ∙ sym (waits_by_log z.world.shape.objects (logs z.world) z.objects k.thread o z.fits.legal z.fits.taken)
    ∙ ap (λ (log : List Logged). waits_by false log o) (log_settled s k z rests.is_of.within)
