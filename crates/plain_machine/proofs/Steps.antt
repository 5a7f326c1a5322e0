-- What thread t's step with the monitor of object o leaves of what is kept true of it.
use Rattle.std.proofs.Common.{◌≡◌, ◌≢◌, inl, inr, ℕ, ◌+◌, ◌-◌, ◌<◌, ◌≤◌, true, false, List, length, set, Option, Some, None, refl, arith}
use Rattle.std.proofs.lemmas.List.{get_or-set_same, get_or-set_other}
use Rattle.std.proofs.lemmas.List.Sums.{sum_by-set}
use Rattle.std.proofs.lemmas.Bool.{cases_eq}
use Rattle.std.proofs.lemmas.Option.{none-some}
use Rattle.plain_monitor.specs.Monitor.{PlainMonitor, count_of, enter, exit, wait, resume, resumed, notify, notify_all}
use Rattle.plain_machine.specs.Thread.{ThreadState, holds_of}
use Rattle.plain_machine.specs.Ready.{waits_on}
use Rattle.plain_monitor.specs.Listed.{times_in}
use Rattle.plain_machine.specs.Sound.{thread_in, while_waiting, waiting_on, IsListed, AreListed, AreWaiting, IsBeside, unrun}
use Rattle.plain_machine.proofs.Counted.{IsOwnedBy, owned_enter, owned_exit, owned_wait, owned_resumed, owned_notify}
use Rattle.plain_machine.proofs.Counted.{owned_notify_all, wait_owner, counted_same, counted_owned}
use Rattle.plain_machine.proofs.Listed.{IsFewer, HasSomeMoved, fewer_same, length_same, lists_enter, lists_exit, lists_wait}
use Rattle.plain_machine.proofs.Listed.{fewer_wait, once_more, length_wait, fewer_moved, length_moved, moved_notify}
use Rattle.plain_machine.proofs.Listed.{moved_notify_all, lists_resumed, fewer_out, gone_out, length_out, found}

-- the monitor is n after the step, and thread t was in state r and is in state s
pub record IsStep (r s : ThreadState) (t o : ℕ) (m n : PlainMonitor) : Type 0 where
  pub owned : IsOwnedBy n t (holds_of s o)
  pub listed : IsListed s o t n
  pub others : (u : ℕ) → u ≢ t → IsFewer m n u
  pub waiting : length n.waits + length n.called + while_waiting r o 1 ≤ length m.waits + length m.called + while_waiting s o 1

-- a number counts while a thread waits, and only then
pub while_yes : (s : ThreadState) (o n : ℕ) → waits_on s.mode o ≡ true → while_waiting s o n ≡ n
while_yes s o n e = rw e refl

pub while_no : (s : ThreadState) (o n : ℕ) → waits_on s.mode o ≡ false → while_waiting s o n ≡ 0
while_no s o n e = rw e refl

listed_fewer : (s : ThreadState) (o u : ℕ) (m n : PlainMonitor) → IsFewer m n u → IsListed s o u m → IsListed s o u n
listed_fewer s o u m n f h = record { once = omega (arith, f.once, h.once); due = omega (arith, f.due, h.due) }

-- who did not wait on the object was not listed there, and needs no place in any state
listed_nowhere : (r s : ThreadState) (o t : ℕ) (m n : PlainMonitor) → waits_on r.mode o ≡ false → IsFewer m n t → IsListed r o t m → IsListed s o t n
listed_nowhere r s o t m n e f h = record {
  once = omega (arith, f.once, h.once, while_no r o 1 e);
  due = omega (arith, f.due, h.due, while_no r o (holds_of r o) e);
}

listed_same : (threads : List ThreadState) (t o : ℕ) (s : ThreadState) (m : PlainMonitor) → t < length threads
    → waits_on (thread_in threads t).mode o ≡ false → AreListed threads o m → AreListed (set threads t s) o m
listed_same threads t o s m lt e h u =
    elim (cases_eq u t) [
      | inl q ↦
          rw (q, get_or-set_same threads t s (unrun 0 0 0) lt)
          (listed_nowhere (thread_in threads t) s o t m m e (record { once = omega arith; due = omega arith }) (h t))
      | inr q ↦ rw (get_or-set_other threads t u s (unrun 0 0 0) q) (h u)
    ]

pub waiting_set : (threads : List ThreadState) (t o : ℕ) (s : ThreadState) → t < length threads
    → waiting_on (set threads t s) o + while_waiting (thread_in threads t) o 1 ≡ waiting_on threads o + while_waiting s o 1
waiting_set threads t o s lt = sum_by-set (λ z. while_waiting z o 1) threads t s (unrun 0 0 0) lt

waiting_same : (threads : List ThreadState) (t o : ℕ) (s : ThreadState) (m : PlainMonitor) → t < length threads
    → waits_on (thread_in threads t).mode o ≡ false → AreWaiting threads o m → AreWaiting (set threads t s) o m
waiting_same threads t o s m lt e h = omega (arith, h, waiting_set threads t o s lt, while_no (thread_in threads t) o 1 e)

-- a monitor stays as it is beside a thread that did not wait on its object, and holds it as often
pub beside_same : (threads : List ThreadState) (t o : ℕ) (s : ThreadState) (m : PlainMonitor) → t < length threads
    → waits_on (thread_in threads t).mode o ≡ false → holds_of s o ≡ holds_of (thread_in threads t) o
    → IsBeside threads o m → IsBeside (set threads t s) o m
beside_same threads t o s m lt e q h = record {
  counted = counted_same threads t o s m lt q h.counted;
  listed = listed_same threads t o s m lt e h.listed;
  waiting = waiting_same threads t o s m lt e h.waiting;
}

listed_step : (threads : List ThreadState) (t o : ℕ) (s : ThreadState) (m n : PlainMonitor) → t < length threads
    → AreListed threads o m → IsStep (thread_in threads t) s t o m n → AreListed (set threads t s) o n
listed_step threads t o s m n lt h k u =
    elim (cases_eq u t) [
      | inl q ↦ rw (q, get_or-set_same threads t s (unrun 0 0 0) lt) k.listed
      | inr q ↦ rw (get_or-set_other threads t u s (unrun 0 0 0) q) (listed_fewer (thread_in threads u) o u m n (k.others u q) (h u))
    ]

-- a monitor after the thread's step
pub beside_step : (threads : List ThreadState) (t o : ℕ) (s : ThreadState) (m n : PlainMonitor) → t < length threads
    → IsStep (thread_in threads t) s t o m n → IsBeside threads o m → IsBeside (set threads t s) o n
beside_step threads t o s m n lt k h = record {
  counted = counted_owned threads t o s n lt k.owned;
  listed = listed_step threads t o s m n lt h.listed k;
  waiting = omega (arith, h.waiting, k.waiting, waiting_set threads t o s lt);
}

-- what is known of thread t, in state r, and of the monitor before the step
pub record IsBefore (r : ThreadState) (t o : ℕ) (m : PlainMonitor) : Type 0 where
  pub counted : m.owner ≡ Some t → m.count ≤ holds_of r o
  pub listed : IsListed r o t m

-- a step of a thread that does not wait, before it or after it, and that adds nobody to the lists
step_awake : (r s : ThreadState) (t o : ℕ) (m n : PlainMonitor) → waits_on r.mode o ≡ false → waits_on s.mode o ≡ false → IsBefore r t o m
    → IsOwnedBy n t (holds_of s o) → ((u : ℕ) → IsFewer m n u) → length n.waits + length n.called ≡ length m.waits + length m.called
    → IsStep r s t o m n
step_awake r s t o m n e f b w less same = record {
  owned = w;
  listed = listed_nowhere r s o t m n e (less t) b.listed;
  others = λ u d. less u;
  waiting = omega (arith, same, while_no r o 1 e, while_no s o 1 f);
}

pub step_enter : (r s : ThreadState) (t o : ℕ) (m n : PlainMonitor) → waits_on r.mode o ≡ false → waits_on s.mode o ≡ false
    → holds_of s o ≡ holds_of r o + 1 → IsBefore r t o m → enter m t ≡ Some n → IsStep r s t o m n
step_enter r s t o m n e f h b k =
    let lists = lists_enter m n t k in
    step_awake r s t o m n e f b (rw h (owned_enter m n t (holds_of r o) b.counted k)) (λ u. fewer_same m n u lists) (length_same m n lists)

pub step_exit : (r s : ThreadState) (t o : ℕ) (m n : PlainMonitor) → waits_on r.mode o ≡ false → waits_on s.mode o ≡ false
    → holds_of s o ≡ holds_of r o - 1 → IsBefore r t o m → exit m t ≡ Some n → IsStep r s t o m n
step_exit r s t o m n e f h b k =
    let lists = lists_exit m n t k in
    step_awake r s t o m n e f b (rw h (owned_exit m n t (holds_of r o) b.counted k)) (λ u. fewer_same m n u lists) (length_same m n lists)

step_moved : (r s : ThreadState) (t o : ℕ) (m n : PlainMonitor) → waits_on r.mode o ≡ false → waits_on s.mode o ≡ false
    → holds_of s o ≡ holds_of r o → IsBefore r t o m → IsOwnedBy n t (holds_of r o) → HasSomeMoved m n → IsStep r s t o m n
step_moved r s t o m n e f h b w k =
    step_awake r s t o m n e f b (rw h w) (λ u. fewer_moved m n k.who u k.moved) (length_moved m n k.who k.moved)

pub step_notify : (r s : ThreadState) (t o : ℕ) (woken : Option ℕ) (m n : PlainMonitor) → waits_on r.mode o ≡ false → waits_on s.mode o ≡ false
    → holds_of s o ≡ holds_of r o → IsBefore r t o m → notify m t woken ≡ Some n → IsStep r s t o m n
step_notify r s t o woken m n e f h b k =
    step_moved r s t o m n e f h b (owned_notify m n t (holds_of r o) woken b.counted k) (moved_notify m n t woken k)

pub step_notify_all : (r s : ThreadState) (t o c : ℕ) (m n : PlainMonitor) → waits_on r.mode o ≡ false → waits_on s.mode o ≡ false
    → holds_of s o ≡ holds_of r o → IsBefore r t o m → notify_all m t c ≡ Some n → IsStep r s t o m n
step_notify_all r s t o c m n e f h b k =
    step_moved r s t o m n e f h b (owned_notify_all m n t (holds_of r o) c b.counted k) (moved_notify_all m n t c k)

-- who waits has one place, with a count that its holds allow
pub step_wait : (r s : ThreadState) (t o : ℕ) (m n : PlainMonitor) → waits_on r.mode o ≡ false → waits_on s.mode o ≡ true
    → holds_of s o ≡ holds_of r o → IsBefore r t o m → wait m t ≡ Some n → IsStep r s t o m n
step_wait r s t o m n e f h b k =
    let last = lists_wait m n t k in
    let more = once_more m n t m.count last in
    let fits = b.counted (wait_owner m n t k) in
    record {
      owned = owned_wait m n t (holds_of s o) k;
      listed = record {
        once = omega (arith, more.once, b.listed.once, while_no r o 1 e, while_yes s o 1 f);
        due =
            omega (arith, more.due, b.listed.due, fits, h, while_no r o (holds_of r o) e, while_yes s o (holds_of s o) f);
      };
      others = λ u d. fewer_wait m n t m.count u last d;
      waiting = omega (arith, length_wait m n t m.count last, while_no r o 1 e, while_yes s o 1 f);
    }

step_resumed : (r s : ThreadState) (t o : ℕ) (m n : PlainMonitor) (c : Option ℕ)
    → count_of m.called t ≡ c → waits_on r.mode o ≡ true → waits_on s.mode o ≡ false
    → holds_of s o ≡ holds_of r o → IsBefore r t o m → resumed m t c ≡ Some n → IsStep r s t o m n
step_resumed r s t o m n None q e f h b k = absurd (none-some n k)
step_resumed r s t o m n (Some c) q e f h b k =
    let at = found m.called t c q in
    let out = lists_resumed m n t c k in
    let once = while_yes r o 1 e in
    let due = while_yes r o (holds_of r o) e in
    let alone : times_in m.waits t ≡ 0 = omega (arith, b.listed.once, at.once) in
    let fits : c ≤ holds_of s o = omega (arith, b.listed.due, at.due, h) in
    let gone = gone_out m n t alone out in
    record {
      owned = owned_resumed m n t c (holds_of s o) fits k;
      listed = record { once = omega (arith, gone.once); due = omega (arith, gone.due) };
      others = λ u d. fewer_out m n t u out;
      waiting = omega (arith, length_out m n t at.once out, once, while_no s o 1 f);
    }

-- who resumes has its place no more
pub step_resume : (r s : ThreadState) (t o : ℕ) (m n : PlainMonitor) → waits_on r.mode o ≡ true → waits_on s.mode o ≡ false
    → holds_of s o ≡ holds_of r o → IsBefore r t o m → resume m t ≡ Some n → IsStep r s t o m n
step_resume r s t o m n e f h b k = step_resumed r s t o m n (count_of m.called t) refl e f h b k
