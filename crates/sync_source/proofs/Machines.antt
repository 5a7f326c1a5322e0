-- The machine of a program with blocks and the machine of its code take the same entries, the indexes of traps aside.
use Rattle.std.proofs.Common.{◌≡◌, ◌≢◌, ◌⊎◌, inl, inr, ℕ, List, [], ◌∷◌, Option, Some, None, option_and_then, slice_get, slice_set, refl, sym, ap, ◌∙◌, subst}
use Rattle.std.proofs.lemmas.Bool.{cases_eq}
use Rattle.std.proofs.lemmas.Option.{none-some}
use Rattle.plain_monitor.proofs.Lists.{get_set_same, get_set_other}
use Rattle.plain_monitor.specs.declared.entry.Entry.{Entry}
use Rattle.plain_monitor.specs.declared.entry.Entry.TheVariants.{Trap}
use Rattle.plain_monitor.specs.declared.entry.Logged.{Logged}
use Rattle.plain_monitor.specs.Objects.{PlainObject, take_entry}
use Rattle.object_program.specs.declared.program.ThreadDef.{ThreadDef}
use Rattle.plain_monitor.specs.Made.{take_made}
use Rattle.object_program.specs.Program.{ProgramText, most_in, numbering_of}
use Rattle.plain_machine.specs.Thread.{ThreadState}
use Rattle.plain_machine.specs.Asking.{thread_after}
use Rattle.plain_machine.specs.Machine.{PlainMachine, code_of, moved, take}
use Rattle.plain_machine.specs.Legal.{after_all}
use Rattle.sync_source.specs.SyncThread.{SyncState, sync_thread_after, with_index}
use Rattle.sync_source.specs.SyncMachine.{SyncMachine, sync_moved, sync_take, sync_after_all}
use Rattle.sync_source.specs.inner.Alike.{OptionAlike, MachinesAlike, index_in}
use Rattle.sync_source.proofs.Entries.{thread_alike}
use Rattle.sync_source.proofs.Traps.{trapped}

-- the index of the trap that thread t asks for
abbrev pub index_of : Option ThreadState → ℕ
index_of None = 0
index_of (Some s) = index_in s.mode

-- both are there and alike, or neither is there; the threads of the world are these
abbrev pub BothAlike : List ThreadDef → Option SyncMachine → Option PlainMachine → Type 0
BothAlike us None None = Unit {0}
BothAlike us None (Some m) = ⊥
BothAlike us (Some a) None = ⊥
BothAlike us (Some a) (Some m) = MachinesAlike us a m

-- no object looks at an index
index_aside : (objects : List PlainObject) (t i : ℕ) (e : Entry) → take_entry objects t e ≡ take_entry objects t (with_index i e)
index_aside objects t i (Trap f j) = refl
index_aside objects t i e = refl

-- nor does what is made, and which threads a program has
made_aside : (p : ProgramText) (us : List ThreadDef) (made : List (List ℕ)) (t i : ℕ) (e : Entry)
    → take_made (numbering_of (record p { threads = us })) made t e ≡ take_made (numbering_of p) made t (with_index i e)
made_aside p us made t i (Trap f j) = refl
made_aside p us made t i e = refl

module _ (p : ProgramText) (us : List ThreadDef) (same : most_in p.classes p.threads ≡ most_in p.classes us)
    (objects : List PlainObject) (made : List (List ℕ)) (qs : List SyncState) (ss : List ThreadState) where
  abbrev source_machine : SyncMachine
  source_machine = record { world = record p { threads = us }; objects = objects; made = made; threads = qs }

  abbrev code_machine : PlainMachine
  code_machine = record { program = p; objects = objects; made = made; threads = ss }

  abbrev Threads : List SyncState → List ThreadState → Type 0
  Threads bs rs = (u : ℕ) → OptionAlike (code_of p u) (slice_get bs u) (slice_get rs u)

  set_alike : Threads qs ss → (t : ℕ) (a b : SyncState) (r s : ThreadState) → slice_get qs t ≡ Some a
      → slice_get ss t ≡ Some r → OptionAlike (code_of p t) (Some b) (Some s) → Threads (slice_set qs t b) (slice_set ss t s)
  set_alike all t a b r s e f h u = go (cases_eq t u)
    where
      go : (t ≡ u) ⊎ (t ≢ u) → OptionAlike (code_of p u) (slice_get (slice_set qs t b) u) (slice_get (slice_set ss t s) u)
      go (inl same) =
          subst (λ (v : ℕ). OptionAlike (code_of p v) (slice_get (slice_set qs t b) v) (slice_get (slice_set ss t s) v)) same
          (subst (λ (x : Option ThreadState). OptionAlike (code_of p t) (slice_get (slice_set qs t b) t) x) (sym (get_set_same ss t r s f))
          (subst (λ (x : Option SyncState). OptionAlike (code_of p t) x (Some s)) (sym (get_set_same qs t a b e)) h))
      go (inr other) =
          subst (λ (x : Option ThreadState). OptionAlike (code_of p u) (slice_get (slice_set qs t b) u) x) (sym (get_set_other ss t u s other))
          (subst (λ (x : Option SyncState). OptionAlike (code_of p u) x (slice_get ss u)) (sym (get_set_other qs t u b other)) (all u))

  moved_alike : Threads qs ss → (t : ℕ) (a : SyncState) (r : ThreadState) → slice_get qs t ≡ Some a → slice_get ss t ≡ Some r
      → (b : Option SyncState) (s : Option ThreadState) (n : Option (List (List ℕ))) (o : Option (List PlainObject))
      → OptionAlike (code_of p t) b s → BothAlike us (sync_moved source_machine t b n o) (moved code_machine t s n o)
  moved_alike all t a r e f None None n o h = tt
  moved_alike all t a r e f None (Some s) n o h = absurd h
  moved_alike all t a r e f (Some b) None n o h = absurd h
  moved_alike all t a r e f (Some b) (Some s) None o h = tt
  moved_alike all t a r e f (Some b) (Some s) (Some n) None h = tt
  moved_alike all t a r e f (Some b) (Some s) (Some n) (Some o) h =
      record { world = refl; slots = same; objects = refl; made = refl; threads = set_alike all t a b r s e f h }

  take_at_alike : Threads qs ss → (t : ℕ) (e : Entry) (a : Option SyncState) (s : Option ThreadState) → slice_get qs t ≡ a
      → slice_get ss t ≡ s → OptionAlike (code_of p t) a s → BothAlike us (option_and_then (λ x. sync_moved source_machine t
      (sync_thread_after (record p { threads = us }) x e) (take_made (numbering_of (record p { threads = us })) made t e) (take_entry objects t e)) a)
      (option_and_then (λ x. moved code_machine t (thread_after p (code_of p t) x (with_index (index_of s) e))
      (take_made (numbering_of p) made t (with_index (index_of s) e)) (take_entry objects t (with_index (index_of s) e))) s)
  take_at_alike all t e None None f g h = tt
  take_at_alike all t e None (Some s) f g h = absurd h
  take_at_alike all t e (Some a) None f g h = absurd h
  take_at_alike all t e (Some a) (Some s) f g h =
      let source : Option (List (List ℕ)) = take_made (numbering_of (record p { threads = us })) made t e in
      subst (λ (n : Option (List (List ℕ))). BothAlike us (sync_moved source_machine t (sync_thread_after (record p { threads = us }) a e) source
      (take_entry objects t e)) (moved code_machine t (thread_after p (code_of p t) s (with_index (index_in s.mode) e)) n
      (take_entry objects t (with_index (index_in s.mode) e)))) (made_aside p us made t (index_in s.mode) e)
      (subst (λ (o : Option (List PlainObject)). BothAlike us (sync_moved source_machine t (sync_thread_after (record p { threads = us }) a e) source
      (take_entry objects t e)) (moved code_machine t (thread_after p (code_of p t) s (with_index (index_in s.mode) e)) source o))
      (index_aside objects t (index_in s.mode) e)
      (moved_alike all t a s f g _ _ source (take_entry objects t e) (thread_alike (code_of p t) p.classes p.objects p.threads us same a s e h)))

  pub take_alike_at : Threads qs ss → (t : ℕ) (e : Entry)
      → BothAlike us (sync_take source_machine t e) (take code_machine t (with_index (index_of (slice_get ss t)) e))
  take_alike_at all t e = take_at_alike all t e (slice_get qs t) (slice_get ss t) refl refl (all t)

-- both machines take an entry, with the index that the code's thread asks for where it is a trap, and are alike after it; or neither does
pub take_alike : (us : List ThreadDef) (a : SyncMachine) (m : PlainMachine) (t : ℕ) (e : Entry)
    → MachinesAlike us a m → BothAlike us (sync_take a t e) (take m t (with_index (index_of (slice_get m.threads t)) e))
take_alike us a m t e h =
    let same : record { world = record (m.program) { threads = us }; objects = m.objects; made = m.made; threads = a.threads } ≡ a =
    ap (λ w. record { world = w; objects = m.objects; made = m.made; threads = a.threads }) (sym h.world)
    ∙ ap (λ o. record { world = a.world; objects = o; made = m.made; threads = a.threads }) (sym h.objects)
    ∙ ap (λ n. record { world = a.world; objects = a.objects; made = n; threads = a.threads }) (sym h.made) in
    subst (λ (x : SyncMachine). BothAlike us (sync_take x t e) (take m t (with_index (index_of (slice_get m.threads t)) e))) same
    (take_alike_at m.program us h.slots m.objects m.made a.threads m.threads h.threads t e)

-- the machine of the code after these entries, where the index of a trap isn't looked at
abbrev pub aside_all : PlainMachine → List (ℕ × Logged) → Option PlainMachine
aside_all m [] = Some m
aside_all m (x ∷ xs) =
    option_and_then (λ next. aside_all next xs) (take m x.0 (with_index (index_of (slice_get m.threads x.0)) x.1.entry))

pub all_alike : (us : List ThreadDef) (xs : List (ℕ × Logged)) (a : SyncMachine) (m : PlainMachine)
    → MachinesAlike us a m → BothAlike us (sync_after_all a xs) (aside_all m xs)
all_alike us [] a m h = h
all_alike us (x ∷ xs) a m h = go (λ b n k. all_alike us xs b n k) _ _ (take_alike us a m x.0 x.1.entry h)
  where
    go : ((b : SyncMachine) (n : PlainMachine) → MachinesAlike us b n → BothAlike us (sync_after_all b xs) (aside_all n xs))
        → (b : Option SyncMachine) (n : Option PlainMachine) → BothAlike us b n
        → BothAlike us (option_and_then (λ next. sync_after_all next xs) b) (option_and_then (λ next. aside_all next xs) n)
    go ih None None k = tt
    go ih None (Some n) k = absurd k
    go ih (Some b) None k = absurd k
    go ih (Some b) (Some n) k = ih b n k

-- a machine takes no trap with another index than its thread asks for
same_index : (m n : PlainMachine) (t : ℕ) (e : Entry) → take m t e ≡ Some n → with_index (index_of (slice_get m.threads t)) e ≡ e
same_index m n t (Trap f j) h =
    let k = trapped m n t f j h in ap (λ i. Trap f i) (ap index_of k.at ∙ ap index_in k.mode)
same_index m n t e h = refl

-- so what the code's machine takes, it takes where the indexes aren't looked at
pub aside_of : (xs : List (ℕ × Logged)) (m n : PlainMachine) → after_all m xs ≡ Some n → aside_all m xs ≡ Some n
aside_of [] m n h = h
aside_of (x ∷ xs) m n h = go (λ next k. aside_of xs next n k) (take m x.0 x.1.entry) refl h
  where
    go : ((next : PlainMachine) → after_all next xs ≡ Some n → aside_all next xs ≡ Some n) → (k : Option PlainMachine)
        → take m x.0 x.1.entry ≡ k → option_and_then (λ next. after_all next xs) k ≡ Some n → aside_all m (x ∷ xs) ≡ Some n
    go ih None e k = absurd (none-some n k)
    go ih (Some next) e k =
        ap (λ y. option_and_then (λ z. aside_all z xs) (take m x.0 y)) (same_index m next x.0 x.1.entry e)
        ∙ ap (λ y. option_and_then (λ z. aside_all z xs) y) e ∙ ih next k
