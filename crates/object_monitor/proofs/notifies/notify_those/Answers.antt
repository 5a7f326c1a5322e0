use Rattle.std.proofs.Common.{rules, ◌≡◌, ◌≤◌, length, sym, ap, ◌∙◌, arith, length-set}
use Rattle.plain_monitor.specs.Limits.{most_threads}
use Rattle.core_world.specs.Words.Shape.{Shape}
use Rattle.object_monitor.specs.inner.NotifyParts.{first_of}
use Rattle.object_monitor.proofs.Waking.{waiting, few_waiting, one_less, fewer, nobody, first_on_its_way, can_wake, woken_on, can_end, ended}
use Rattle.object_monitor.proofs.notifies.notify_those.Goals as goal
use Rattle.object_monitor.proofs.notifies.notify_those.Goals.{After-threads-count, After-oldest}

-- the count is that of all threads, who are few
all : (c : After-threads-count) → c.threads-count.result ≡ c.args.heap.now.heap.shape.threads
all c = c.threads-count.ensures.same ∙ ap (λ (s : Shape). s.threads) c.shape.ensures

few : (c : After-threads-count) → c.args.heap.now.heap.shape.threads ≤ most_threads
few c = omega (arith, all c, c.threads-count.ensures.same, c.threads-count.ensures.limits.threads)

-- the oldest waiter of those who are left
oldest : (c : After-oldest) → c.oldest.result ≡ first_of (waiting c.args.object c.args.heap.now.heap.shape.threads c.loop-next.words)
oldest c = c.oldest.ensures ∙ ap (λ m. first_of (waiting c.args.object m c.loop-next.words))
    (c.threads-count.ensures.same ∙ ap (λ (s : Shape). s.threads) c.shape.ensures)

pub bounds-words-thread : goal.bounds-words-thread
bounds-words-thread c =
    let n = c.args.heap.now.heap.shape.threads in
    let few : n ≤ most_threads = few (goal.at.bounds-words-thread c).After-threads-count in
    let sixteen : length c.args.words ≡ most_threads = search rules in
    let less = one_less c.args.object n c.args.words c.args.first (omega (arith, few, sixteen)) c.requires.first in
    let low = less.0 in
    omega (arith, few, low)

pub loop-next-init : goal.loop-next-init
loop-next-init c =
    let a = c.args in
    let n = a.heap.now.heap.shape.threads in
    let few : n ≤ most_threads = few (goal.at.loop-next-init c).After-threads-count in
    let sixteen : length a.words ≡ most_threads = search rules in (
      first_on_its_way a.heap.now a.call.now a.pass.now a.object n a.words a.first
          (omega (arith, few, sixteen)) c.requires.first c.requires.heap c.requires.room c.requires.due,
      length-set a.words a.first.0 0 ∙ sixteen,
    )

pub store-requires : goal.store-requires
store-requires c =
    let l = c.loop-next in
    can_wake c.args.heap.now c.args.call.now _ c.args.pass.now l.pass c.args.object c.args.heap.now.heap.shape.threads _ l.words l.thread l.woken
    c.encode_wait-word.result l.invariant.0 c.encode_wait-word.ensures (c.in-Some.next, c.in-Some.field-0-1)
    (sym (oldest (goal.at.store-requires c).After-oldest) ∙ c.in-Some.is)

pub bounds-words-next : goal.bounds-words-next
bounds-words-next c =
    let l = c.loop-next in
    let n = c.args.heap.now.heap.shape.threads in
    let few : n ≤ most_threads = few (goal.at.bounds-words-next c).After-threads-count in
    let sixteen = l.invariant.1 in
    let less = one_less c.args.object n l.words (c.in-Some.next, c.in-Some.field-0-1) (omega (arith, few, sixteen))
    (sym (oldest (goal.at.bounds-words-next c).After-oldest) ∙ c.in-Some.is) in
    let low = less.0 in
    omega (arith, few, low)

pub overflow_add-woken : goal.overflow_add-woken
overflow_add-woken c =
    let l = c.loop-next in
    let n = c.args.heap.now.heap.shape.threads in
    let few : n ≤ most_threads = few (goal.at.overflow_add-woken c).After-threads-count in
    let sixteen : length c.args.words ≡ most_threads = search rules in
    let total = few_waiting c.args.object n c.args.words (omega (arith, few, sixteen)) in
    let woken = l.invariant.0.all in
    let small : l.woken ≤ most_threads = omega (arith, few, total, woken) in
    omega (arith, small)

pub loop-next-smaller : goal.loop-next-smaller
loop-next-smaller c =
    let l = c.loop-next in
    let n = c.args.heap.now.heap.shape.threads in
    let few : n ≤ most_threads = few (goal.at.loop-next-smaller c).After-threads-count in
    let sixteen = l.invariant.1 in
    fewer c.args.object n l.words (c.in-Some.next, c.in-Some.field-0-1) (omega (arith, few, sixteen))
    (sym (oldest (goal.at.loop-next-smaller c).After-oldest) ∙ c.in-Some.is)

pub loop-next-preserved : goal.loop-next-preserved
loop-next-preserved c =
    let l = c.loop-next in
    let n = c.args.heap.now.heap.shape.threads in
    let few : n ≤ most_threads = few (goal.at.loop-next-preserved c).After-threads-count in
    let sixteen = l.invariant.1 in (
      woken_on c.args.heap.now c.args.call.now _ c.args.pass.now l.pass c.args.object n _ l.words l.thread l.woken c.encode_wait-word.result
          l.invariant.0 c.encode_wait-word.ensures (c.in-Some.next, c.in-Some.field-0-1)
          (sym (oldest (goal.at.loop-next-preserved c).After-oldest) ∙ c.in-Some.is) c.store.new.pass c.store.result c.store.ensures
          (omega (arith, few, sixteen)),
      length-set l.words c.in-Some.next 0 ∙ sixteen,
    )

pub log_store-requires : goal.log_store-requires
log_store-requires c =
    let l = c.loop-next in
    let n = c.args.heap.now.heap.shape.threads in
    let none = nobody c.args.object n l.words (λ t since some. c.in_default.not-Some (t, since) (oldest (goal.at.log_store-requires c).After-oldest ∙ some)) in
    can_end c.args.heap.now c.args.call.now _ c.args.pass.now l.pass c.args.object n _ l.words l.thread l.woken c.encode_wait-word.result l.invariant.0
    c.encode_wait-word.ensures none

pub returns : goal.returns
returns c =
    let l = c.loop-next in
    let n = c.args.heap.now.heap.shape.threads in
    let none = nobody c.args.object n l.words (λ t since some. c.in_default.not-Some (t, since) (oldest (goal.at.returns c).After-oldest ∙ some)) in
    ended c.args.heap.now c.args.call.now _ c.args.pass.now l.pass c.args.object n _ l.words l.thread l.woken c.encode_wait-word.result l.invariant.0
    c.encode_wait-word.ensures none c.log_store.new.pass c.log_store.result c.log_store.ensures
