-- Entries that go alone commute with those of other threads.
use Rattle.std.proofs.Common.{◌≡◌, ◌≢◌, ℕ, Bool, true, false, ◌==◌, List, slice_get, slice_set, slice_index_or, Option}
use Rattle.std.proofs.Common.{Some, None, option_map, is_none, refl, sym, ap, ◌∙◌, subst, eqb-true, eq-eqb}
use Rattle.std.proofs.lemmas.Bool.{false≢true, true≢false, and_parts, and_from, not-true}
use Rattle.std.proofs.lemmas.Option.{none-some, same_Some}
use Rattle.plain_monitor.specs.declared.entry.Entry.{Entry}
use Rattle.plain_monitor.specs.declared.entry.Entry.TheVariants.{Enter, Exit, Get, Put, Wait, Resume, Notify, NotifyAll}
use Rattle.plain_monitor.specs.declared.entry.Entry.TheVariants.{Hash, New, Print, Dump, Trap, Spent, Done}
use Rattle.plain_monitor.specs.Monitor.{PlainMonitor, only_if, is_thread, owns, count_of, resumed, enter, exit, wait, resume, notify, notify_all}
use Rattle.plain_monitor.specs.Objects.{PlainObject, new_object, hashed, with_monitor, with_hash, take_at, take_named, take_entry, named}
use Rattle.plain_machine.specs.declared.monitor_call.NextEntry.{NextEntry}
use Rattle.plain_machine.specs.Thread.{ThreadState}
use Rattle.plain_machine.specs.Asking.{ask, fits, after_entry}
use Rattle.plain_monitor.specs.Made.{creates}
use Rattle.object_program.specs.Program.{numbering_of}
use Rattle.plain_machine.specs.Machine.{PlainMachine, code_of, made_after_entry, take}
use Rattle.plain_monitor.proofs.Lists.{get_set_same, get_set_other}
use Rattle.machine_laws.proofs.ReachedAsked.{IsTakenAt, taken, taken_at}
use Rattle.every_outcome.specs.Alone.{is_hash, own_among, goes_alone}
use Rattle.every_outcome.proofs.Places.{read_at, set_twice, sets_commute}
use Rattle.every_outcome.proofs.MadeApart.{both_made}

-- a step of the monitor doesn't see the hash
monitor_beside : (h : Option ℕ) (x : PlainObject) (r : Option PlainMonitor)
    → with_monitor (record x { hash = h }) r ≡ option_map (λ (z : PlainObject). record z { hash = h }) (with_monitor x r)
monitor_beside h x None = refl
monitor_beside h x (Some n) = refl

only_beside : (h : Option ℕ) (b : Bool) (x : PlainObject)
    → only_if b (record x { hash = h }) ≡ option_map (λ (z : PlainObject). record z { hash = h }) (only_if b x)
only_beside h true x = refl
only_beside h false x = refl

-- nor does any entry but a hash
pub beside_hash : (h : Option ℕ) (x : PlainObject) (t : ℕ) (e : Entry) → is_hash e ≡ false
    → take_at (record x { hash = h }) t e ≡ option_map (λ (z : PlainObject). record z { hash = h }) (take_at x t e)
beside_hash h x t (Enter o p) i = monitor_beside h x (enter x.monitor t)
beside_hash h x t (Exit o) i = monitor_beside h x (exit x.monitor t)
beside_hash h x t (Wait o) i = monitor_beside h x (wait x.monitor t)
beside_hash h x t (Resume o) i = monitor_beside h x (resume x.monitor t)
beside_hash h x t (Notify o w) i = monitor_beside h x (notify x.monitor t w)
beside_hash h x t (NotifyAll o n) i = monitor_beside h x (notify_all x.monitor t n)
beside_hash h x t (Get o k v) i = only_beside h _ x
beside_hash h x t (Put o k v) i = only_beside h _ (record x { slots = slice_set x.slots k v })
beside_hash h x t (Hash o v d) i = absurd (true≢false i)
beside_hash h x t _ i = refl

beside_some : (h : Option ℕ) (x y : PlainObject) (t : ℕ) (e : Entry) → is_hash e ≡ false → take_at x t e ≡ Some y
    → take_at (record x { hash = h }) t e ≡ Some (record y { hash = h })
beside_some h x y t e i takes = beside_hash h x t e i ∙ ap (option_map (λ (z : PlainObject). record z { hash = h })) takes

hash_kept : (x y : PlainObject) (t : ℕ) (e : Entry) → is_hash e ≡ false → take_at x t e ≡ Some y → y.hash ≡ x.hash
hash_kept x y t e i takes = ap (λ (z : PlainObject). z.hash) (same_Some y (record y { hash = x.hash }) (sym takes ∙ beside_some x.hash x y t e i takes))

-- where t has the monitor, no other thread has it, and it isn't free
is_other : (owner : Option ℕ) (t u : ℕ) → t ≢ u → is_thread owner t ≡ true → is_thread owner u ≡ false
is_other None t u d h = absurd (false≢true h)
is_other (Some w) t u d h = go (w == u) refl
  where
    go : (b : Bool) → (w == u) ≡ b → b ≡ false
    go false e = refl
    go true e = absurd (d (sym (eqb-true w t h) ∙ eqb-true w u e))

not_free : (owner : Option ℕ) (t : ℕ) → is_thread owner t ≡ true → is_none owner ≡ false
not_free None t h = absurd (false≢true h)
not_free (Some w) t h = refl

not_resumed : (m : PlainMonitor) (u : ℕ) (c : Option ℕ) → is_none m.owner ≡ false → resumed m u c ≡ None
not_resumed m u None h = refl
not_resumed m u (Some n) h = rw h refl

-- of the entries that name an object, another thread than the owner makes only hashes
pub only_hashes : (x y : PlainObject) (t u o : ℕ) (f : Entry) → t ≢ u → owns x.monitor t ≡ true → named f ≡ Some o → take_at x u f ≡ Some y → is_hash f ≡ true
only_hashes x y t u o (Enter k p) d own at takes = absurd (none-some y (rw (is_other x.monitor.owner t u d own, not_free x.monitor.owner t own) at takes))
only_hashes x y t u o (Resume k) d own at takes =
    absurd (none-some y (rw (not_resumed x.monitor u (count_of x.monitor.called u) (not_free x.monitor.owner t own)) at takes))
only_hashes x y t u o (Hash k v w) d own at takes = refl
only_hashes x y t u o (New k c) d own at takes = absurd (none-some o at)
only_hashes x y t u o (Print v) d own at takes = absurd (none-some o at)
only_hashes x y t u o (Dump n) d own at takes = absurd (none-some o at)
only_hashes x y t u o (Trap f k) d own at takes = absurd (none-some o at)
only_hashes x y t u o Spent d own at takes = absurd (none-some o at)
only_hashes x y t u o Done d own at takes = absurd (none-some o at)
only_hashes x y t u o _ d own at takes = absurd (none-some y (rw (is_other x.monitor.owner t u d own) at takes))

-- an object that took e of t, and then f of u, or the other way round
pub record BothAt (x left right : PlainObject) (t u : ℕ) (e f : Entry) : Type 0 where
  pub z : PlainObject
  pub after_left : take_at left u f ≡ Some z
  pub after_right : take_at right t e ≡ Some z
  pub monitor : right.monitor ≡ x.monitor

both_hash : (x left right : PlainObject) (t u k v : ℕ) (e : Entry) (w h : Option ℕ) (r : Option (Option ℕ)) → is_hash e ≡ false → take_at x t e ≡ Some left
    → hashed x.hash v ≡ r → with_hash x r ≡ Some right
    → BothAt x left right t u e (Hash k v w)
both_hash x left right t u k v e w h None i takes at hash = absurd (none-some right hash)
both_hash x left right t u k v e w h (Some g) i takes at hash =
    let is : record x { hash = g } ≡ right = same_Some (record x { hash = g }) right hash in
    let kept : left.hash ≡ x.hash = hash_kept x left t e i takes in
    record {
      z = record left { hash = g };
      after_left = ap (λ (q : Option ℕ). with_hash left (hashed q v)) kept ∙ ap (with_hash left) at;
      after_right = subst (λ (q : PlainObject). take_at q t e ≡ Some (record left { hash = g })) is (beside_some g x left t e i takes);
      monitor = ap (λ (q : PlainObject). q.monitor) (sym is);
    }

both_at : (x left right : PlainObject) (t u o : ℕ) (e f : Entry) → t ≢ u → owns x.monitor t ≡ true → is_hash e ≡ false → named f ≡ Some o
    → take_at x t e ≡ Some left → take_at x u f ≡ Some right
    → BothAt x left right t u e f
both_at x left right t u o (e) (Hash k v w) d own i at takes takes2 = both_hash x left right t u k v e w None (hashed x.hash v) i takes refl takes2
both_at x left right t u o e f d own i at takes takes2 = absurd (false≢true (only_hashes x right t u o f d own at takes2))

-- the same of all objects
pub record BothIn (left right : List PlainObject) (t u : ℕ) (e f : Entry) : Type 0 where
  pub objects : List PlainObject
  pub after_left : take_entry left u f ≡ Some objects
  pub after_right : take_entry right t e ≡ Some objects
  pub alone : own_among right t e (named e) ≡ true

alone_still : (right : List PlainObject) (t : ℕ) (e : Entry) (name : Option ℕ) → named e ≡ name → own_among right t e name ≡ true
    → own_among right t e (named e) ≡ true
alone_still right t e name at h = subst (λ (n : Option ℕ). own_among right t e n ≡ true) (sym at) h

as_named : (objects after : List PlainObject) (t : ℕ) (e : Entry) (name : Option ℕ) → named e ≡ name → take_named objects t e name ≡ Some after
    → take_entry objects t e ≡ Some after
as_named objects after t e name at h = ap (take_named objects t e) at ∙ h

-- an object is taken to y
takes_to : (objects : List PlainObject) (o t : ℕ) (e : Entry) (x y : PlainObject) → slice_get objects o ≡ Some x → take_at x t e ≡ Some y
    → take_named objects t e (Some o) ≡ Some (slice_set objects o y)
takes_to objects o t e x y there takes = rw (there, takes) refl

owner_kept : (objects : List PlainObject) (o t : ℕ) (x y : PlainObject) → slice_get objects o ≡ Some x → y.monitor ≡ x.monitor → owns x.monitor t ≡ true
    → owns (slice_index_or (slice_set objects o y) o (new_object 0)).monitor t ≡ true
owner_kept objects o t x y there same own =
    ap (λ (z : PlainObject). owns z.monitor t) (read_at (slice_set objects o y) o (new_object 0) y (get_set_same objects o x y there))
    ∙ ap (λ (n : PlainMonitor). owns n t) same ∙ own

both_named : (objects left right : List PlainObject) (t u : ℕ) (e f : Entry) (o q : ℕ) (b : Bool) → t ≢ u → named e ≡ Some o → named f ≡ Some q
    → own_among objects t e (Some o) ≡ true → (o == q) ≡ b
    → IsTakenAt objects o t e left → IsTakenAt objects q u f right → BothIn left right t u e f
both_named objects left right t u e f o q false d at at2 own differ k l =
    let apart : o ≢ q = λ same. false≢true (sym differ ∙ subst (λ (i : ℕ). (o == i) ≡ true) same (eq-eqb o o refl)) in
    let swap : slice_set (slice_set objects o k.y) q l.y ≡ slice_set (slice_set objects q l.y) o k.y = sets_commute objects o q k.y l.y apart in
    let there : slice_get left q ≡ Some l.x = ap (λ (xs : List PlainObject). slice_get xs q) (sym k.is) ∙ get_set_other objects o q k.y apart ∙ l.there in
    let there2 : slice_get right o ≡ Some k.x =
    ap (λ (xs : List PlainObject). slice_get xs o) (sym l.is) ∙ get_set_other objects q o l.y (λ same. apart (sym same)) ∙ k.there in
    record {
      objects = slice_set left q l.y;
      after_left = as_named left (slice_set left q l.y) u f (Some q) at2 (takes_to left q u f l.x l.y there l.takes);
      after_right = as_named right (slice_set left q l.y) t e (Some o) at (takes_to right o t e k.x k.y there2 k.takes
          ∙ ap (λ (xs : List PlainObject). Some (slice_set xs o k.y)) (sym l.is) ∙ ap Some (sym swap)
          ∙ ap (λ (xs : List PlainObject). Some (slice_set xs q l.y)) k.is);
      alone = alone_still right t e (Some o) at (and_from _ _ (ap (λ (z : PlainObject). owns z.monitor t) (read_at right o (new_object 0) k.x there2
          ∙ sym (read_at objects o (new_object 0) k.x k.there)) ∙ (and_parts _ _ own).0) (and_parts _ _ own).1);
    }
both_named objects left right t u e f o q true d at at2 own same k l =
    let here : o ≡ q = eqb-true o q same in
    let x_is : k.x ≡ l.x = same_Some k.x l.x (sym k.there ∙ subst (λ (i : ℕ). slice_get objects i ≡ Some l.x) (sym here) l.there) in
    let parts = and_parts _ _ own in
    let owned : owns k.x.monitor t ≡ true = ap (λ (z : PlainObject). owns z.monitor t) (sym (read_at objects o (new_object 0) k.x k.there)) ∙ parts.0 in
    let no_hash : is_hash e ≡ false = not-true (is_hash e) parts.1 in
    let takes2 : take_at k.x u f ≡ Some l.y = subst (λ (z : PlainObject). take_at z u f ≡ Some l.y) (sym x_is) l.takes in
    let both = both_at k.x k.y l.y t u q e f d owned no_hash at2 k.takes takes2 in
    let left_is : slice_set objects q k.y ≡ left = subst (λ (i : ℕ). slice_set objects i k.y ≡ left) here k.is in
    let there : slice_get left q ≡ Some k.y = ap (λ (xs : List PlainObject). slice_get xs q) (sym left_is) ∙ get_set_same objects q l.x k.y l.there in
    let there2 : slice_get right q ≡ Some l.y = ap (λ (xs : List PlainObject). slice_get xs q) (sym l.is) ∙ get_set_same objects q l.x l.y l.there in
    record {
      objects = slice_set objects q both.z;
      after_left = as_named left _ u f (Some q) at2 (takes_to left q u f k.y both.z there both.after_left
          ∙ ap (λ (xs : List PlainObject). Some (slice_set xs q both.z)) (sym left_is) ∙ ap Some (set_twice objects q k.y both.z));
      after_right = as_named right _ t e (Some o) at (subst (λ (i : ℕ). take_named right t e (Some i) ≡ Some (slice_set objects q both.z)) (sym here)
          (takes_to right q t e l.y both.z there2 both.after_right
          ∙ ap (λ (xs : List PlainObject). Some (slice_set xs q both.z)) (sym l.is) ∙ ap Some (set_twice objects q l.y both.z)));
      alone = alone_still right t e (Some o) at (and_from _ _ (subst (λ (i : ℕ). owns (slice_index_or right i (new_object 0)).monitor t ≡ true) (sym here)
          (subst (λ (xs : List PlainObject). owns (slice_index_or xs q (new_object 0)).monitor t ≡ true) l.is
          (owner_kept objects q t l.x l.y l.there (both.monitor ∙ ap (λ (z : PlainObject). z.monitor) x_is)
          (subst (λ (z : PlainObject). owns z.monitor t ≡ true) x_is owned)))) parts.1);
    }

both_by : (objects left right : List PlainObject) (t u : ℕ) (e f : Entry) (n r : Option ℕ) → t ≢ u → named e ≡ n → named f ≡ r → own_among objects t e n ≡ true
    → take_named objects t e n ≡ Some left → take_named objects u f r ≡ Some right → BothIn left right t u e f
both_by objects left right t u e f None r d at at2 own takes takes2 =
    let same : objects ≡ left = same_Some objects left takes in
    record {
      objects = right;
      after_left = as_named left right u f r at2 (subst (λ (xs : List PlainObject). take_named xs u f r ≡ Some right) same takes2);
      after_right = as_named right right t e None at refl;
      alone = alone_still right t e None at refl;
    }
both_by objects left right t u e f (Some o) None d at at2 own takes takes2 =
    let same : objects ≡ right = same_Some objects right takes2 in
    record {
      objects = left;
      after_left = as_named left left u f None at2 refl;
      after_right = as_named right left t e (Some o) at (subst (λ (xs : List PlainObject). take_named xs t e (Some o) ≡ Some left) same takes);
      alone = alone_still right t e (Some o) at (subst (λ (xs : List PlainObject). own_among xs t e (Some o) ≡ true) same own);
    }
both_by objects left right t u e f (Some o) (Some q) d at at2 own takes takes2 =
    both_named objects left right t u e f o q (o == q) d at at2 own refl (taken_at objects o t e left takes) (taken_at objects q u f right takes2)

-- the machine whose thread t, objects and what is there became these
abbrev pub moved_on : PlainMachine → ℕ → ThreadState → List (List ℕ) → List PlainObject → PlainMachine
moved_on m t s made objects = record m { objects = objects; made = made; threads = slice_set m.threads t s }

-- the machine takes what its thread asks for, where each object that it needs is there and the objects take it
pub takes_from : (m : PlainMachine) (t : ℕ) (e : Entry) (s : ThreadState) (a : NextEntry) (made : List (List ℕ)) (objects : List PlainObject)
    → slice_get m.threads t ≡ Some s → ask s ≡ Some a → fits a e ≡ true → made_after_entry m t e ≡ Some made → take_entry m.objects t e ≡ Some objects
    → take m t e ≡ Some (moved_on m t (after_entry m.program (code_of m.program t) s a e) made objects)
takes_from m t e s a made objects at asks fit makes takes = rw (at, asks, fit, makes, takes) refl

-- one machine comes after both, whichever goes first
pub record Commutes (a b : PlainMachine) (t u : ℕ) (e f : Entry) : Type 0 where
  pub machine : PlainMachine
  pub after_a : take a u f ≡ Some machine
  pub after_b : take b t e ≡ Some machine
  pub alone : goes_alone b t e ≡ true

pub commutes : (m a b : PlainMachine) (t u : ℕ) (e f : Entry) → t ≢ u → goes_alone m t e ≡ true → take m t e ≡ Some a → take m u f ≡ Some b
    → Commutes a b t u e f
commutes m a b t u e f d own takes takes2 =
    let k = taken m t e a takes in
    let l = taken m u f b takes2 in
    let both = both_by m.objects k.objects l.objects t u e f (named e) (named f) d refl refl own k.takes l.takes in
    let news = both_made (numbering_of m.program) m.made k.made_then l.made_then t u e f (creates e) (creates f) d k.makes l.makes in
    let s2 = after_entry m.program (code_of m.program t) k.s k.asked e in
    let v2 = after_entry m.program (code_of m.program u) l.s l.asked f in
    let one = moved_on m t s2 k.made_then k.objects in
    let other = moved_on m u v2 l.made_then l.objects in
    let last = moved_on one u v2 news.made both.objects in
    let first : take one u f ≡ Some last =
    takes_from one u f l.s l.asked news.made both.objects (get_set_other m.threads t u s2 d ∙ l.at) l.asks l.fit news.after_left both.after_left in
    let second : take other t e ≡ Some (moved_on other t s2 news.made both.objects) =
    takes_from other t e k.s k.asked news.made both.objects (get_set_other m.threads u t v2 (λ same. d (sym same)) ∙ k.at) k.asks k.fit
    news.after_right both.after_right in
    let same : moved_on other t s2 news.made both.objects ≡ last =
    ap (λ (threads : List ThreadState). record m { objects = both.objects; made = news.made; threads = threads })
    (sym (sets_commute m.threads t u s2 v2 d)) in
    record {
      machine = last;
      after_a = subst (λ (z : PlainMachine). take z u f ≡ Some last) k.is first;
      after_b = subst (λ (z : PlainMachine). take z t e ≡ Some last) l.is (second ∙ ap Some same);
      alone = subst (λ (z : PlainMachine). goes_alone z t e ≡ true) l.is both.alone;
    }
