-- What is told of a handle that had a pass.
use Rattle.std.proofs.Common.{◌≡◌, ℕ, true, sym, subst, refl, ap, ◌∙◌, inl, inr, []}
use Rattle.core_world.specs.declared.heap_call.HeapCall.{HeapCall}
use Rattle.heap_table.specs.Resting.{Rests}
use Rattle.heap_table.specs.Seen.{HeapSeen, PassSeen}
use Rattle.lock_runtime_c.specs.ByHandle.{Within}
use Rattle.lock_runtime_c.specs.LogRoom.{KeepsRoom}
use Rattle.lock_runtime_c.specs.Numbers.{answered}
use Rattle.lock_runtime_c.specs.Pages.{HandsOut, TakesPage}
use Rattle.lock_runtime_c.specs.Rest.{IsAtRest, IsSeated, RestsWithin}
use Rattle.lock_runtime_c.specs.Told.{Told}
use Rattle.lock_runtime_c.specs.declared.answers.Answer.{Answer}
use Rattle.lock_runtime_c.specs.declared.inner.Inner.{Inner}
use Rattle.lock_runtime_c.specs.declared.inner.Inner.TheVariants as inner
use Rattle.lock_runtime_c.specs.declared.inner.Seat.{Seat}
use Rattle.lock_runtime_c.specs.declared.outcome.Outcome.{Outcome}
use Rattle.lock_runtime_c.specs.declared.outcome.Misuse.TheVariants.{OtherKind}
use Rattle.lock_runtime_c.specs.declared.outcome.Outcome.TheVariants.{Done, Misused, NoMemory}
use Rattle.lock_runtime_c.specs.declared.outcome.Said.TheVariants.{Handed}
use Rattle.heap_table.specs.Quick.{IsFree}
use Rattle.lock_runtime_c.specs.inner.QuickCalls.{AnswersWithin, CameWithin, HasCome, IsAnswered}
use Rattle.lock_runtime_c.proofs.Threads.{told_thread}

pub told_within : (x : Inner) (s z : Seat) (t : HeapCall) (out : Outcome)
    → x ≡ inner.Seat s → z.room ≡ s.room → z.page.items ≡ s.page.items → KeepsRoom s.lent.thing
    → Told s.room.value.heap t s.lent.thing z.lent.thing out → Within x (inner.Seat z) t out
told_within x s z t out is room page kept told = subst (λ (i : Inner). Within i (inner.Seat z) t out) (sym is) (z, refl, room, page, kept, told)

-- and of C's answer
pub answer_within : (x : Inner) (s z : Seat) (h : HeapSeen) (t : HeapCall) (a : Answer) → h ≡ s.room.value.heap
    → x ≡ inner.Seat s → z.room ≡ s.room → z.page.items ≡ s.page.items → KeepsRoom s.lent.thing
    → IsAnswered h t s.lent.thing z.lent.thing a → AnswersWithin x (inner.Seat z) t a
answer_within x s z h t a heap is room page kept answer = record {
  outcome = answer.outcome;
  is = answer.is;
  within = told_within x s z t answer.outcome is room page kept
      (subst (λ (g : HeapSeen). Told g t s.lent.thing z.lent.thing answer.outcome) heap answer.told);
}

-- a handle that has something else is as it was
pub other_within : (x : Inner) (t : HeapCall) (a : Answer) → ((s : Seat) → x ≡ inner.Seat s → ⊥) → a ≡ answered (Misused OtherKind) → AnswersWithin x x t a
other_within x t a differs is = record { outcome = Misused OtherKind; is = is; within = cases x differs }
  where
    cases : (y : Inner) → ((s : Seat) → y ≡ inner.Seat s → ⊥) → Within y y t (Misused OtherKind)
    cases (inner.Seat s) other = absurd (other s refl)
    cases (inner.Plan plan) other = (refl, refl)
    cases (inner.Room room) other = (refl, refl)
    cases (inner.Closed closed) other = (refl, refl)
    cases inner.Gone other = (refl, refl)

-- the pass rests still, and is the same thread's
pub still_seated : (h g : HeapSeen) (t : HeapCall) (place : ℕ) (p q : PassSeen) (a : Answer) → h ≡ g → IsSeated g place p
    → Rests h q → IsAnswered h t p q a → IsSeated g place q
still_seated h g t place p q a heap seated rests answer = record {
  kept = record { rests = subst (λ (x : HeapSeen). Rests x q) heap rests; room = answer.room seated.kept.room };
  thread = told_thread h p q answer.outcome t answer.told ∙ seated.thread;
}

-- WHERE A CALL CAME SO FAR by the pass of handle y, this is its seat z.
seat_in : Inner → Seat → Seat
seat_in (inner.Seat s) d = s
seat_in _ d = d

same_seat : (s z : Seat) → inner.Seat s ≡ inner.Seat z → s ≡ z
unfolding seat_in
same_seat s z e = ap (λ (x : Inner). seat_in x s) e

-- it is seated by what its seat says of it
seated_alike : (w : Seat) (h : HeapSeen) (n : ℕ) → w.lent.place ≡ n → w.room.value.heap ≡ h → IsSeated h n w.lent.thing
    → IsSeated w.room.value.heap w.lent.place w.lent.thing
seated_alike w h n place heap seated =
    subst (λ (g : HeapSeen). IsSeated g w.lent.place w.lent.thing) (sym heap) (subst (λ (i : ℕ). IsSeated h i w.lent.thing) (sym place) seated)

module _ (Came : HeapSeen → PassSeen → PassSeen → Type 0) (Nothing : Type 0) (x y : Inner) (z : Seat) (is : y ≡ inner.Seat z) where
  -- so it began with a pass
  came_from : CameWithin Came Nothing x y → (s : Seat) × (x ≡ inner.Seat s) × HasCome Came s z
  came_from (inl (s, w, was, same, come)) = (s, was, subst (λ (v : Seat). HasCome Came s v) (same_seat w z (sym same ∙ is)) come)
  came_from (inr (none, same, rests, other)) = absurd (other z (sym same ∙ is))

  pub amid : (h : HeapSeen) → h ≡ z.room.value.heap → CameWithin Came Nothing x y → (p : PassSeen) × Came h p z.lent.thing
  amid h heap came =
      let from = came_from came in
      let same = ap (λ r. r.value.heap) (sym from.2.room) ∙ sym heap in
      (from.0.lent.thing, subst (λ (g : HeapSeen). Came g from.0.lent.thing z.lent.thing) same from.2.came)

  -- what goes on with it leaves the pass at rest, and answers so, from wherever it began
  module _ (w : Seat) (h : HeapSeen) (t : HeapCall) (a : Answer) (heap : h ≡ z.room.value.heap)
      (room : w.room ≡ z.room) (place : w.lent.place ≡ z.lent.place) (page : w.page.items ≡ z.page.items)
      (answer : (p : PassSeen) → Came h p z.lent.thing → IsAnswered h t p w.lent.thing a) where
    went_on : (from : (s : Seat) × (x ≡ inner.Seat s) × HasCome Came s z) → (h ≡ from.0.room.value.heap) × IsAnswered h t from.0.lent.thing w.lent.thing a
    went_on from =
        let same = heap ∙ ap (λ r. r.value.heap) from.2.room in
        (same, answer from.0.lent.thing (subst (λ (g : HeapSeen). Came g from.0.lent.thing z.lent.thing) (sym same) from.2.came))

    pub answers_on : CameWithin Came Nothing x y → AnswersWithin x (inner.Seat w) t a
    answers_on came =
        let from = came_from came in
        let on = went_on from in
        answer_within x from.0 w h t a on.0 from.1 (room ∙ from.2.room) (page ∙ from.2.page) from.2.rested.seated.kept.room on.1

    pub rests_on : Rests h w.lent.thing → (w.free ≡ true → IsFree w.lent.thing.known) → CameWithin Came Nothing x y → IsAtRest w
    rests_on rests free came =
        let from = came_from came in
        let on = went_on from in
        let seated = still_seated h from.0.room.value.heap t from.0.lent.place from.0.lent.thing w.lent.thing a on.0 from.2.rested.seated rests on.1 in
        record {
          seated = seated_alike w from.0.room.value.heap from.0.lent.place (place ∙ from.2.place) (ap (λ r. r.value.heap) (room ∙ from.2.room)) seated;
          free = free;
        }

-- A handle that has no pass: nothing began.
pub nothing_on : (Came : HeapSeen → PassSeen → PassSeen → Type 0) (Nothing : Type 0) (x y : Inner) → ((s : Seat) → y ≡ inner.Seat s → ⊥) → CameWithin Came Nothing x y
    → (y ≡ x) × RestsWithin y
nothing_on Came Nothing x y differs (inl (s, z, was, is, come)) = absurd (differs z is)
nothing_on Came Nothing x y differs (inr (none, same, rests, other)) = (same, subst RestsWithin (sym same) rests)

-- A call that didn't begin: the handle rests as before, and what becomes of it became of what it had.
pub not_begun : (Came : HeapSeen → PassSeen → PassSeen → Type 0) (Nothing : Type 0) (x y : Inner) (t : HeapCall)
    → ((h : HeapSeen) (p q : PassSeen) → Came h p q → q ≡ p) → CameWithin Came Nothing x y
    → RestsWithin y × ((z : Inner) (out : Outcome) → Within y z t out → Within x z t out)
not_begun Came Nothing x y t still (inr (none, same, rests, other)) =
    (subst RestsWithin (sym same) rests, λ z out became. subst (λ (i : Inner). Within i z t out) same became)
not_begun Came Nothing x y t still (inl (s, w, was, is, come)) =
    let same = still s.room.value.heap s.lent.thing w.lent.thing come.came in
    let heap = ap (λ r. r.value.heap) come.room in
    let seated = subst (λ (p : PassSeen). IsSeated s.room.value.heap s.lent.place p) (sym same) come.rested.seated in
    let at_rest : IsAtRest w = record {
      seated = seated_alike w s.room.value.heap s.lent.place come.place heap seated;
      free = λ on. subst (λ (p : PassSeen). IsFree p.known) (sym same) (come.rested.free (sym come.flag ∙ on));
    } in (
      subst RestsWithin (sym is) at_rest,
      λ z out became.
          let now = subst (λ (i : Inner). Within i z t out) is became in
          let told = subst (λ (g : HeapSeen). Told g t w.lent.thing now.0.lent.thing out) heap now.5 in
          subst (λ (i : Inner). Within i z t out) (sym was) (
            now.0,
            now.1,
            now.2 ∙ come.room,
            now.3 ∙ come.page,
            subst KeepsRoom same now.4,
            subst (λ (p : PassSeen). Told s.room.value.heap t p now.0.lent.thing out) same told,
          ),
    )

-- A call that is over, by a handle that had s, and has z now: it rests, and this became of it.
pub told_whole : (x y : Inner) (s z : Seat) (t : HeapCall) (out : Outcome) → x ≡ inner.Seat s → y ≡ inner.Seat z → IsAtRest s
    → z.room ≡ s.room → z.lent.place ≡ s.lent.place → z.page.items ≡ s.page.items → z.free ≡ s.free
    → Rests s.room.value.heap z.lent.thing → (IsFree s.lent.thing.known → IsFree z.lent.thing.known)
    → Told s.room.value.heap t s.lent.thing z.lent.thing out → (KeepsRoom s.lent.thing → KeepsRoom z.lent.thing) → RestsWithin y × Within x y t out
told_whole x y s z t out was is rested room place page flag rests free told keeps =
    let kept = rested.seated.kept.room in
    let here : IsSeated s.room.value.heap s.lent.place z.lent.thing = record {
      kept = record { rests = rests; room = keeps kept };
      thread = told_thread s.room.value.heap s.lent.thing z.lent.thing out t told ∙ rested.seated.thread;
    } in
    let at_rest : IsAtRest z = record {
      seated = seated_alike z s.room.value.heap s.lent.place place (ap (λ r. r.value.heap) room) here;
      free = λ on. free (rested.free (sym flag ∙ on));
    } in
    (subst RestsWithin (sym is) at_rest, subst (λ (i : Inner). Within x i t out) (sym is) (told_within x s z t out was room page kept told))

-- so of one that came so far
pub whole_within : (Came : HeapSeen → PassSeen → PassSeen → Type 0) (Nothing : Type 0) (x y : Inner) (t : HeapCall) (a : Answer)
    → (Nothing → ⊥) → ((h : HeapSeen) (p q : PassSeen) → Came h p q → Rests h q × (IsFree p.known → IsFree q.known) × IsAnswered h t p q a)
    → CameWithin Came Nothing x y → RestsWithin y × AnswersWithin x y t a
whole_within Came Nothing x y t a some whole (inr (none, same, rests, other)) = absurd (some none)
whole_within Came Nothing x y t a some whole (inl (s, z, was, is, come)) =
    let says = whole s.room.value.heap s.lent.thing z.lent.thing come.came in
    let answer = says.2 in
    let w = told_whole x y s z t answer.outcome was is come.rested come.room come.place come.page come.flag says.0 says.1 answer.told answer.room in
    (w.0, record { outcome = answer.outcome; is = answer.is; within = w.1 })

pub page_taken : (x : Inner) (s z : Seat) (count : ℕ) → x ≡ inner.Seat s → z.room ≡ s.room → HandsOut s.lent.thing z.lent.thing z.page.items count
    → TakesPage x (inner.Seat z) (Done (Handed count))
page_taken x s z count is room page = subst (λ (i : Inner). TakesPage i (inner.Seat z) (Done (Handed count))) (sym is) (z, refl, room, inl (count, refl, page))

pub page_kept : (x : Inner) (s z : Seat) → x ≡ inner.Seat s → z.room ≡ s.room
    → (z.lent.thing ≡ s.lent.thing) × (z.page.items ≡ []) → TakesPage x (inner.Seat z) NoMemory
page_kept x s z is room same = subst (λ (i : Inner). TakesPage i (inner.Seat z) NoMemory) (sym is) (z, refl, room, inr (refl, same.0, same.1))
